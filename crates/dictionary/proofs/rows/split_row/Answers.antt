use Rattle.std.proofs.Common.{◌≡◌, List, ◌++◌, map, length, take, drop, sym, ◌∙◌, ap, Some, None, arith}
use Rattle.std.specs.Prelude.{flat_map}
use Rattle.std.proofs.lemmas.Result.{err_from_is_err_and}
use Rattle.rational.specs.Rational.{ℚ, ◌/ℚ◌, one_ℚ}
use Rattle.rational.specs.Linear.{Term, factor_of}
use Rattle.frac128.specs.declared.Op.TheVariants.{Over}
use Rattle.frac128.specs.Calculation.{Calculation, first_wide}
use Rattle.frac128.proofs.Calculations.{first_wide-past, first_wide-before}
use Rattle.certs.specs.Turns.{counted}
use Rattle.dictionary.specs.Rows.{terms_of, without}
use Rattle.dictionary.proofs.Terms.{refilled}
use Rattle.dictionary.proofs.rows.split_row.Goals as goal

abbrev divisions : ℚ → List Term → Calculation
divisions p row = flat_map (λ t. counted Over t.factor p) row

abbrev quotients : ℚ → List Term → List Term
quotients p row = map (λ t. record { column = t.column; factor = t.factor /ℚ p }) row

pub unreachable-requires : goal.unreachable-requires
unreachable-requires g c = c.requires.nonzero c.in_default.ensures.factor

pub returns-in_err-inverse-clause-split : goal.returns-in_err-inverse-clause-split
returns-in_err-inverse-clause-split g c =
    let v = g.N.Exact.value in
    let m = g.N.Exact.most in
    let J = c.args.entering in
    let old = terms_of v c.args.row.now.items in
    let p = factor_of old J in
    let f = c.in-Some.ensures.factor in
    let e : first_wide m (counted Over one_ℚ p) ≡ Some c.in_err-inverse.field-0.0 = ap (λ z. first_wide m (counted Over z p)) (sym c.one.ensures) ∙ ap (λ z. first_wide m (counted Over (v c.one.result) z)) (sym f.0) ∙ c.in_err-inverse.ensures in
    let q = err_from_is_err_and c.from_residual.result c.from_residual.ensures.1 in
    rw (q.1, q.2) (first_wide-before m (counted Over one_ℚ p) (divisions p (without J old)) _ e)

pub divide_row-requires : goal.divide_row-requires
divide_row-requires g c = λ z. c.in-Some.ensures.factor.1 z

pub returns-in_err-divide_row-clause-split : goal.returns-in_err-divide_row-clause-split
returns-in_err-divide_row-clause-split g c =
    let v = g.N.Exact.value in
    let m = g.N.Exact.most in
    let J = c.args.entering in
    let old = terms_of v c.args.row.now.items in
    let p = factor_of old J in
    let f = c.in-Some.ensures.factor in
    let e : first_wide m (counted Over one_ℚ p) ≡ None = ap (λ z. first_wide m (counted Over z p)) (sym c.one.ensures) ∙ ap (λ z. first_wide m (counted Over (v c.one.result) z)) (sym f.0) ∙ c.in_ok-inverse.ensures.1 in
    let held : terms_of v c.deref_mut.result.now ≡ without J old = ap (terms_of v) c.deref_mut.ensures.value ∙ c.in-Some.ensures.rest in
    let w : first_wide m (divisions p (without J old)) ≡ Some c.in_err-divide_row.field-0.0 = ap (λ z. first_wide m (divisions p z)) (sym held) ∙ ap (λ z. first_wide m (divisions z (terms_of v c.deref_mut.result.now))) (sym f.0) ∙ c.in_err-divide_row.ensures in
    let q = err_from_is_err_and c.from_residual-in_err-divide_row.result c.from_residual-in_err-divide_row.ensures.1 in
    rw (q.1, q.2) (first_wide-past m (counted Over one_ℚ p) (divisions p (without J old)) e ∙ w)

pub returns-clause-split : goal.returns-clause-split
returns-clause-split g c =
    let v = g.N.Exact.value in
    let m = g.N.Exact.most in
    let J = c.args.entering in
    let old = terms_of v c.args.row.now.items in
    let p = factor_of old J in
    let f = c.in-Some.ensures.factor in
    let e : first_wide m (counted Over one_ℚ p) ≡ None = ap (λ z. first_wide m (counted Over z p)) (sym c.one.ensures) ∙ ap (λ z. first_wide m (counted Over (v c.one.result) z)) (sym f.0) ∙ c.in_ok-inverse.ensures.1 in
    let held : terms_of v c.deref_mut.result.now ≡ without J old = ap (terms_of v) c.deref_mut.ensures.value ∙ c.in-Some.ensures.rest in
    let new = c.divide_row.new.row in
    let items = c.take_entry.new.row.items in
    let same : take c.take_entry.new.row.len (new ++ drop (length new) items) ≡ new = refilled new items c.take_entry.new.row.len (c.divide_row.auto.row ∙ ap length c.deref_mut.ensures.value ∙ sym c.take_entry.new.row.ok.0) in
    let w : first_wide m (divisions p (without J old)) ≡ None = ap (λ z. first_wide m (divisions p z)) (sym held) ∙ ap (λ z. first_wide m (divisions z (terms_of v c.deref_mut.result.now))) (sym f.0) ∙ c.in_ok-divide_row.ensures.0 in (
      first_wide-past m (counted Over one_ℚ p) (divisions p (without J old)) e ∙ w,
      (
        c.in_ok-inverse.ensures.0 ∙ ap (λ z. z /ℚ v c.in-Some.pivot) c.one.ensures ∙ ap (λ z. one_ℚ /ℚ z) f.0,
        ap (terms_of v) same ∙ c.in_ok-divide_row.ensures.1 ∙ ap (quotients (v c.in-Some.pivot)) held ∙ ap (λ z. quotients z (without J old)) f.0,
      ),
    )

pub returns-clause-shorter : goal.returns-clause-shorter
returns-clause-shorter g c =
    let new = c.divide_row.new.row in
    let items = c.take_entry.new.row.items in
    let same : take c.take_entry.new.row.len (new ++ drop (length new) items) ≡ new = refilled new items c.take_entry.new.row.len (c.divide_row.auto.row ∙ ap length c.deref_mut.ensures.value ∙ sym c.take_entry.new.row.ok.0) in
    let n = ap length same ∙ c.divide_row.auto.row ∙ ap length c.deref_mut.ensures.value in
    let h = c.in-Some.ensures.shorter in
    omega (arith, n, h)

pub returns-clause-capacity : goal.returns-clause-capacity
returns-clause-capacity g c = c.in-Some.ensures.capacity
