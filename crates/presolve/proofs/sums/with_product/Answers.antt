use Rattle.std.proofs.Common.{◌∙◌, ap, sym}
use Rattle.rational.specs.Rational.{ℚ, ◌+ℚ◌}
use Rattle.frac128.specs.declared.Op.TheVariants.{Plus}
use Rattle.frac128.specs.Limit.{limit}
use Rattle.frac128.specs.Width.{operation, is_wide}
use Rattle.presolve.proofs.Extremal.{term-wide, term-sum_wide, term-fits}
use Rattle.presolve.proofs.sums.with_product.Goals as goal

pub returns-in_default : goal.returns-in_default
returns-in_default c =
    let e = c.in_default.ensures in
    term-wide c.args.sum c.args.factor c.args.limit (ap (is_wide limit) (sym e.0) ∙ e.1)

pub returns-in-Ok-plus : goal.returns-in-Ok-plus
returns-in-Ok-plus c =
    let e = c.in-Ok.ensures in
    let f = c.in-Ok-plus.ensures in (
      f.0 ∙ ap (λ (z : ℚ). c.args.sum +ℚ z) e.0,
      term-fits c.args.sum c.args.factor c.args.limit e.1 (ap (λ (z : ℚ). is_wide limit (operation Plus c.args.sum z)) (sym e.0) ∙ f.1),
    )

pub returns-in-Err : goal.returns-in-Err
returns-in-Err c =
    let e = c.in-Ok.ensures in
    let f = c.in-Err.ensures in
    term-sum_wide c.args.sum c.args.factor c.args.limit e.1 (ap (λ (z : ℚ). is_wide limit (operation Plus c.args.sum z)) (sym e.0) ∙ ap (is_wide limit) (sym f.0) ∙ f.1)
