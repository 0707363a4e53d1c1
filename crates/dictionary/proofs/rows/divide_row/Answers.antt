use Rattle.std.proofs.Common.{◌≡◌, ◌<◌, ◌≤◌, length, map, refl, sym, ◌∙◌, ap, subst, Some, None}
use Rattle.std.proofs.lemmas.Result.{err_from_is_err_and}
use Rattle.std.proofs.lemmas.List.{take_all}
use Rattle.rational.specs.Rational.{◌/ℚ◌}
use Rattle.rational.specs.Linear.{Term}
use Rattle.frac128.specs.declared.Op.TheVariants.{Over}
use Rattle.frac128.specs.Calculation.{Calculation, first_wide}
use Rattle.rational.specs.Rational.{ℚ}
use Rattle.certs.specs.Turns.{counted}
use Rattle.dictionary.specs.Rows.{terms_of}
use Rattle.dictionary.proofs.Terms.{term}
use Rattle.dictionary.proofs.Steps.{first-wide, first-next, first-end, same_here, changed-back, changed-front}
use Rattle.dictionary.proofs.rows.divide_row.Goals as goal

-- the operation for a term, and what becomes of it
abbrev work : ℚ → Term → Calculation
work p t = counted Over t.factor p

abbrev change : ℚ → Term → Term
change p t = record { column = t.column; factor = t.factor /ℚ p }

pub loop-place-init : goal.loop-place-init
loop-place-init g c = record { width = refl; front = refl; back = refl }

pub returns-in_err-factor : goal.returns-in_err-factor
returns-in_err-factor g c =
    let v = g.N.Exact.value in
    let m = g.N.Exact.most in
    let p = v c.args.pivot in
    let i = c.loop-place.place in
    let l = c.loop-place-test.true in
    let k : i < length c.loop-place.row = subst (λ n. i < n) (sym c.loop-place.auto.row) l in
    let x = c.index-row-place.result in
    let here = same_here (term v) (change p) c.args.row.now c.loop-place.row i c.loop-place.invariant.front c.loop-place.invariant.back x l k in
    let e : first_wide m (work p (term v x)) ≡ Some c.in_err-factor.field-0.0 = c.in_err-factor.ensures in
    let q = err_from_is_err_and c.from_residual.result c.from_residual.ensures.1 in
    rw (q.1, q.2) (sym c.loop-place.invariant.width ∙ first-wide m (term v) (work p) c.args.row.now i x l _ (ap (λ z. first_wide m (work p (term v z))) (sym here) ∙ ap (λ z. first_wide m (work p (term v z))) (sym c.index-row-place.is) ∙ e))

pub loop-place-preserved : goal.loop-place-preserved
loop-place-preserved g c =
    let v = g.N.Exact.value in
    let m = g.N.Exact.most in
    let p = v c.args.pivot in
    let i = c.loop-place.place in
    let l = c.loop-place-test.true in
    let k : i < length c.loop-place.row = subst (λ n. i < n) (sym c.loop-place.auto.row) l in
    let x = c.index-row-place.result in
    let here = same_here (term v) (change p) c.args.row.now c.loop-place.row i c.loop-place.invariant.front c.loop-place.invariant.back x l k in
    let e : first_wide m (work p (term v x)) ≡ None = c.in_ok-factor.ensures.1 in
    record {
      width = sym (first-next m (term v) (work p) c.args.row.now i x l (ap (λ z. first_wide m (work p (term v z))) (sym here) ∙ ap (λ z. first_wide m (work p (term v z))) (sym c.index-row-place.is) ∙ e)) ∙ c.loop-place.invariant.width;
      front = changed-front (term v) (change p) c.args.row.now c.loop-place.row i c.loop-place.invariant.front c.loop-place.invariant.back x l k _ ((λ z. record { column = x.variable; factor = c.in_ok-factor.ensures.0 z }) ∙ ap (λ e. change p (term v e)) c.index-row-place.is);
      back = changed-back (term v) (change p) c.args.row.now c.loop-place.row i c.loop-place.invariant.front c.loop-place.invariant.back x l k _;
    }

pub returns : goal.returns
returns g c =
    let v = g.N.Exact.value in
    let m = g.N.Exact.most in
    let p = v c.args.pivot in
    let i = c.loop-place.place in
    let l = c.loop-place-test.false in (
      sym c.loop-place.invariant.width ∙ first-end m (term v) (work p) c.args.row.now i l,
      ap (terms_of v) (sym (take_all i c.loop-place.row (subst (λ n. n ≤ i) (sym c.loop-place.auto.row) l))) ∙ c.loop-place.invariant.front ∙ ap (λ z. map (change p) (terms_of v z)) (take_all i c.args.row.now l),
    )
