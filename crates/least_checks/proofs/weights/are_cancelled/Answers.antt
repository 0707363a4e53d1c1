use Rattle.std.proofs.Common.{◌<◌, ap, subst, sym, ◌∙◌, length, Bool, cond, ℕ}
use Rattle.std.specs.Prelude.{All}
use Rattle.std.proofs.lemmas.Result.{err_from_is_err_and}
use Rattle.rational.specs.Linear.{Assignment}
use Rattle.frac128.specs.Limit.{limit}
use Rattle.frac128.specs.Calculation.{first_wide}
use Rattle.lp_model.specs.Satisfaction.{values_at}
use Rattle.certs.specs.declared.evidence.Share.{Share}
use Rattle.certs.specs.declared.evidence.Checked.TheVariants.{Yes, No}
use Rattle.certs.specs.Combination.{column_sum, source_form}
use Rattle.certs.specs.Checks.{column_operations}
use Rattle.certs.proofs.Combined.{all_zero, from_zero, zeros_are}
use Rattle.certs.proofs.Held.{told}
use Rattle.least_checks.proofs.Steps.{wide_columns, columns_decided}
use Rattle.least_checks.proofs.weights.are_cancelled.Goals as goal

pub add_shares-requires : goal.add_shares-requires
add_shares-requires c =
    subst (λ (n : ℕ). All (λ (s : Share). All (λ t. t.column < n) (source_form c.args.model.now s.source)) c.args.shares.now) (sym (c.clear.ensures.length ∙ c.requires.room)) c.requires.known

pub returns-in_err-add_shares : goal.returns-in_err-add_shares
returns-in_err-add_shares c =
    let model = c.args.model.now in
    let shares = c.args.shares.now in
    let p = err_from_is_err_and c.from_residual.result c.from_residual.ensures.1 in
    rw (p.1, p.2)
    (wide_columns model shares _
    (sym (ap (λ (x : Assignment). first_wide limit (column_operations model x shares)) (all_zero c.clear.new.sums c.clear.ensures.zero)) ∙ c.in_err-add_shares.ensures))

pub returns : goal.returns
returns c =
    let model = c.args.model.now in
    let shares = c.args.shares.now in
    let e = c.in_ok-add_shares.ensures in
    let narrow = sym (ap (λ (x : Assignment). first_wide limit (column_operations model x shares)) (all_zero c.clear.new.sums c.clear.ensures.zero)) ∙ e.0 in
    let sums = from_zero c.clear.new.sums (values_at c.add_shares.new.sums) (column_sum model shares) c.clear.ensures.zero e.1 in
    let zeros = zeros_are c.add_shares.new.sums (length model.columns) (column_sum model shares) (c.add_shares.auto.sums ∙ (c.clear.ensures.length ∙ c.requires.room)) sums in
    told c.are_zero.result ∙ (ap (λ (t : Bool). cond t Yes No) (c.are_zero.ensures ∙ zeros) ∙ sym (columns_decided model shares narrow))
