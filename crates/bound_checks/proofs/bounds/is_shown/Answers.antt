use Rattle.std.proofs.Common.{◌<◌, ap, sym, ◌∙◌, length, Bool, cond, []}
use Rattle.std.proofs.lemmas.Result.{err_from_is_err_and}
use Rattle.std.proofs.lemmas.List.Elements.{All-nil}
use Rattle.rational.specs.Rational.{ℚ, eq_ℚ}
use Rattle.rational.specs.Linear.{Assignment, factor_of}
use Rattle.frac128.specs.Limit.{limit}
use Rattle.frac128.specs.Calculation.{first_wide}
use Rattle.lp_model.specs.Satisfaction.{values_at}
use Rattle.certs.specs.declared.evidence.Branch.{Branch}
use Rattle.certs.specs.declared.evidence.Checked.TheVariants.{Yes, No}
use Rattle.certs.specs.Bound.{directed}
use Rattle.certs.specs.Combination.{column_sum}
use Rattle.certs.specs.Checks.{column_operations}
use Rattle.certs.proofs.Combined.{shares_known, all_zero, from_zero}
use Rattle.certs.proofs.Held.{told}
use Rattle.bound_checks.proofs.Factors.{columns_are}
use Rattle.bound_checks.proofs.Shown.{unusable, wide_columns, other_factors, wide_right, decided}
use Rattle.bound_checks.proofs.bounds.is_shown.Goals as goal

pub returns-then-not-are_usable : goal.returns-then-not-are_usable
returns-then-not-are_usable c = unusable c.args.model.now c.args.set.now.members c.args.shares.now c.args.bound (sym c.are_usable.ensures ∙ c.if-not-are_usable.true)

pub add_shares-requires : goal.add_shares-requires
add_shares-requires c =
    shares_known c.args.model.now c.args.set.now.members [] c.args.shares.now (length c.clear.new.sums) c.row_count-rows.ensures.well_formed (All-nil (λ (b : Branch). b.column < length c.args.model.now.columns))
    (sym c.are_usable.ensures ∙ c.if-not-are_usable.false) (c.clear.ensures.length ∙ c.requires.room)

pub returns-in_err-add_shares : goal.returns-in_err-add_shares
returns-in_err-add_shares c =
    let model = c.args.model.now in
    let shares = c.args.shares.now in
    let p = err_from_is_err_and c.from_residual.result c.from_residual.ensures.1 in
    rw (p.1, p.2)
    (wide_columns model c.args.set.now.members shares c.args.bound (sym c.are_usable.ensures ∙ c.if-not-are_usable.false) _
    (sym (ap (λ (x : Assignment). first_wide limit (column_operations model x shares)) (all_zero c.clear.new.sums c.clear.ensures.zero)) ∙ c.in_err-add_shares.ensures))

pub returns-then-not-are_factors : goal.returns-then-not-are_factors
returns-then-not-are_factors c =
    let model = c.args.model.now in
    let shares = c.args.shares.now in
    let e = c.in_ok-add_shares.ensures in
    let narrow = sym (ap (λ (x : Assignment). first_wide limit (column_operations model x shares)) (all_zero c.clear.new.sums c.clear.ensures.zero)) ∙ e.0 in
    let sums = from_zero c.clear.new.sums (values_at c.add_shares.new.sums) (column_sum model shares) c.clear.ensures.zero e.1 in
    let same = columns_are c.add_shares.new.sums (length model.columns) (column_sum model shares) (λ j. directed model (factor_of model.objective j)) sums in
    other_factors model c.args.set.now.members shares c.args.bound (sym c.are_usable.ensures ∙ c.if-not-are_usable.false) narrow (sym same ∙ (sym c.are_factors.ensures ∙ c.if-not-are_factors.true))

pub returns-in_err-right : goal.returns-in_err-right
returns-in_err-right c =
    let model = c.args.model.now in
    let shares = c.args.shares.now in
    let e = c.in_ok-add_shares.ensures in
    let narrow = sym (ap (λ (x : Assignment). first_wide limit (column_operations model x shares)) (all_zero c.clear.new.sums c.clear.ensures.zero)) ∙ e.0 in
    let sums = from_zero c.clear.new.sums (values_at c.add_shares.new.sums) (column_sum model shares) c.clear.ensures.zero e.1 in
    let same = columns_are c.add_shares.new.sums (length model.columns) (column_sum model shares) (λ j. directed model (factor_of model.objective j)) sums in
    let p = err_from_is_err_and c.from_residual-in_err-right.result c.from_residual-in_err-right.ensures.1 in
    rw (p.1, p.2)
    (wide_right model c.args.set.now.members shares c.args.bound (sym c.are_usable.ensures ∙ c.if-not-are_usable.false) narrow (sym same ∙ (sym c.are_factors.ensures ∙ c.if-not-are_factors.false)) _
    c.in_err-right.ensures)

pub returns : goal.returns
returns c =
    let model = c.args.model.now in
    let shares = c.args.shares.now in
    let e = c.in_ok-add_shares.ensures in
    let f = c.in_ok-right.ensures in
    let narrow = sym (ap (λ (x : Assignment). first_wide limit (column_operations model x shares)) (all_zero c.clear.new.sums c.clear.ensures.zero)) ∙ e.0 in
    let sums = from_zero c.clear.new.sums (values_at c.add_shares.new.sums) (column_sum model shares) c.clear.ensures.zero e.1 in
    let same = columns_are c.add_shares.new.sums (length model.columns) (column_sum model shares) (λ j. directed model (factor_of model.objective j)) sums in
    let test = c.eq.ensures ∙ (ap (λ (z : ℚ). eq_ℚ c.in_ok-right.right z) c.directed.ensures ∙ ap (λ (r : ℚ). eq_ℚ r (directed model c.args.bound)) f.0) in
    told c.eq.result
    ∙ (ap (λ (t : Bool). cond t Yes No) test
    ∙ sym (decided model c.args.set.now.members shares c.args.bound (sym c.are_usable.ensures ∙ c.if-not-are_usable.false) narrow (sym same ∙ (sym c.are_factors.ensures ∙ c.if-not-are_factors.false)) f.1))
