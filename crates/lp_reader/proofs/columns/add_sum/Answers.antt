use Rattle.std.proofs.Common.{ℕ, ◌<◌, List, sym, ap, ◌∙◌, subst, nat_eq, cond, Some}
use Rattle.std.specs.Map.{lookup}
use Rattle.std.specs.List.{All}
use Rattle.rational.specs.Rational.{ℚ, ◌+ℚ◌}
use Rattle.frac128.specs.Limit.{limit}
use Rattle.frac128.specs.Width.{operation, is_wide}
use Rattle.frac128.specs.declared.Op.TheVariants.{Plus}
use Rattle.lp_reader.proofs.Sums.{insert_below}
use Rattle.lp_reader.proofs.columns.add_sum.Goals as goal

pub returns-in_ok-insert-in-Ok : goal.returns-in_ok-insert-in-Ok
returns-in_ok-insert-in-Ok c = (
  ap (λ (s : ℚ). is_wide limit (operation Plus s c.args.value)) (sym c.sum_at.ensures) ∙ c.in-Ok.ensures.1,
  record {
    each = λ k. c.in_ok-insert-in-Ok.ensures.updates.0 k ∙ ap (λ (s : ℚ). cond (nat_eq c.args.column k) (Some s) (lookup (nat_eq k) c.args.sums.now.entries)) (c.in-Ok.ensures.0 ∙ ap (λ (s : ℚ). s +ℚ c.args.value) c.sum_at.ensures);
    below = λ n lt all. subst (λ (es : List (ℕ × ℚ)). All (λ e. e.0 < n) es) (sym c.in_ok-insert-in-Ok.ensures.entries) (insert_below c.args.sums.now.entries c.args.column c.in-Ok.sum n lt all);
  },
)
