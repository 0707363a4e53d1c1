use Rattle.std.proofs.Common.{ap, refl, sym, ◌∙◌, length, is_lt}
use Rattle.std.proofs.lemmas.Result.{err_from_is_err_and}
use Rattle.rational.specs.Rational.{ℚ, zero_ℚ, cmp_ℚ}
use Rattle.rational.specs.Linear.{Assignment}
use Rattle.rational.proofs.Compare.{lt_q-is}
use Rattle.frac128.specs.Limit.{limit}
use Rattle.frac128.specs.Calculation.{first_wide}
use Rattle.lp_model.specs.Satisfaction.{values_at}
use Rattle.std.proofs.Common.{Bool, cond}
use Rattle.certs.specs.declared.evidence.Checked.TheVariants.{Yes, No}
use Rattle.certs.proofs.Held.{told}
use Rattle.certs.specs.Combination.{column_sum, right_side}
use Rattle.certs.specs.Checks.{column_operations}
use Rattle.certs.proofs.Combined.{unusable, wide_columns, not_zero, wide_right, decided, shares_known, all_zero, named_zeros_are, zeros_again, from_zero}
use Rattle.certs.proofs.combinations.combines.Goals as goal

pub returns-then-not-are_usable-clause-said : goal.returns-then-not-are_usable-clause-said
returns-then-not-are_usable-clause-said c = unusable c.args.model.now c.args.set.now.members c.args.path.now c.args.shares.now (sym c.are_usable.ensures ∙ c.if-not-are_usable.true)

pub add_shares-requires : goal.add_shares-requires
add_shares-requires c =
    shares_known c.args.model.now c.args.set.now.members c.args.path.now c.args.shares.now (length c.args.sums.now) c.row_count-rows.ensures.well_formed c.requires.known
    (sym c.are_usable.ensures ∙ c.if-not-are_usable.false) c.requires.room

pub are_zero-requires : goal.are_zero-requires
are_zero-requires c =
    shares_known c.args.model.now c.args.set.now.members c.args.path.now c.args.shares.now (length c.add_shares.new.sums) c.row_count-rows.ensures.well_formed c.requires.known
    (sym c.are_usable.ensures ∙ c.if-not-are_usable.false) (c.add_shares.auto.sums ∙ c.requires.room)

pub returns-in_err-add_shares-clause-said : goal.returns-in_err-add_shares-clause-said
returns-in_err-add_shares-clause-said c =
    let model = c.args.model.now in
    let shares = c.args.shares.now in
    let p = err_from_is_err_and c.from_residual.result c.from_residual.ensures.1 in
    rw (p.1, p.2)
    (wide_columns model c.args.set.now.members c.args.path.now shares (sym c.are_usable.ensures ∙ c.if-not-are_usable.false) _
    (sym (ap (λ (x : Assignment). first_wide limit (column_operations model x shares)) (all_zero c.args.sums.now c.requires.zeros)) ∙ c.in_err-add_shares.ensures))

pub returns-then-not-are_zero-clause-said : goal.returns-then-not-are_zero-clause-said
returns-then-not-are_zero-clause-said c =
    let model = c.args.model.now in
    let shares = c.args.shares.now in
    let e = c.in_ok-add_shares.ensures in
    let narrow = sym (ap (λ (x : Assignment). first_wide limit (column_operations model x shares)) (all_zero c.args.sums.now c.requires.zeros)) ∙ e.0 in
    let sums = from_zero c.args.sums.now (values_at c.add_shares.new.sums) (column_sum model shares) c.requires.zeros e.1 in
    let known = shares_known model c.args.set.now.members c.args.path.now shares (length model.columns) c.row_count-rows.ensures.well_formed c.requires.known (sym c.are_usable.ensures ∙ c.if-not-are_usable.false) refl in
    let zeros = named_zeros_are model shares (values_at c.add_shares.new.sums) sums (length model.columns) known in
    not_zero model c.args.set.now.members c.args.path.now shares (sym c.are_usable.ensures ∙ c.if-not-are_usable.false) narrow (sym zeros ∙ (sym c.are_zero.ensures ∙ c.if-not-are_zero.true))

pub returns-in_err-right-clause-said : goal.returns-in_err-right-clause-said
returns-in_err-right-clause-said c =
    let model = c.args.model.now in
    let shares = c.args.shares.now in
    let e = c.in_ok-add_shares.ensures in
    let narrow = sym (ap (λ (x : Assignment). first_wide limit (column_operations model x shares)) (all_zero c.args.sums.now c.requires.zeros)) ∙ e.0 in
    let sums = from_zero c.args.sums.now (values_at c.add_shares.new.sums) (column_sum model shares) c.requires.zeros e.1 in
    let known = shares_known model c.args.set.now.members c.args.path.now shares (length model.columns) c.row_count-rows.ensures.well_formed c.requires.known (sym c.are_usable.ensures ∙ c.if-not-are_usable.false) refl in
    let zeros = named_zeros_are model shares (values_at c.add_shares.new.sums) sums (length model.columns) known in
    let p = err_from_is_err_and c.from_residual-in_err-right.result c.from_residual-in_err-right.ensures.1 in
    rw (p.1, p.2)
    (wide_right model c.args.set.now.members c.args.path.now shares (sym c.are_usable.ensures ∙ c.if-not-are_usable.false) narrow (sym zeros ∙ (sym c.are_zero.ensures ∙ c.if-not-are_zero.false)) _
    c.in_err-right.ensures)

pub returns-clause-said : goal.returns-clause-said
returns-clause-said c =
    let model = c.args.model.now in
    let shares = c.args.shares.now in
    let e = c.in_ok-add_shares.ensures in
    let f = c.in_ok-right.ensures in
    let narrow = sym (ap (λ (x : Assignment). first_wide limit (column_operations model x shares)) (all_zero c.args.sums.now c.requires.zeros)) ∙ e.0 in
    let sums = from_zero c.args.sums.now (values_at c.add_shares.new.sums) (column_sum model shares) c.requires.zeros e.1 in
    let known = shares_known model c.args.set.now.members c.args.path.now shares (length model.columns) c.row_count-rows.ensures.well_formed c.requires.known (sym c.are_usable.ensures ∙ c.if-not-are_usable.false) refl in
    let zeros = named_zeros_are model shares (values_at c.add_shares.new.sums) sums (length model.columns) known in
    let test = c.lt.ensures ∙ (ap (λ (z : ℚ). is_lt (cmp_ℚ c.in_ok-right.right z)) c.whole.ensures ∙ (ap (λ (r : ℚ). is_lt (cmp_ℚ r zero_ℚ)) f.0 ∙ sym (lt_q-is (right_side model c.args.path.now shares) zero_ℚ))) in
    told c.lt.result
    ∙ (ap (λ (t : Bool). cond t Yes No) test
    ∙ sym (decided model c.args.set.now.members c.args.path.now shares (sym c.are_usable.ensures ∙ c.if-not-are_usable.false) narrow (sym zeros ∙ (sym c.are_zero.ensures ∙ c.if-not-are_zero.false)) f.1))

pub returns-clause-zeros : goal.returns-clause-zeros
returns-clause-zeros c = λ yes.
    let model = c.args.model.now in
    let shares = c.args.shares.now in
    let sums = from_zero c.args.sums.now (values_at c.add_shares.new.sums) (column_sum model shares) c.requires.zeros c.in_ok-add_shares.ensures.1 in
    zeros_again model shares (values_at c.add_shares.new.sums) sums c.add_shares.new.sums refl (sym c.are_zero.ensures ∙ c.if-not-are_zero.false)
