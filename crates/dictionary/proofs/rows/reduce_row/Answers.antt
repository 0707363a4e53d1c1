use Rattle.std.proofs.Common.{◌≡◌, ◌+◌, ◌-◌, ◌<◌, ℕ, suc, List, ◌∷◌, ◌++◌, length, take, drop, get_or, refl, sym, ◌∙◌, ap, subst, Some, None, append_assoc, length-append, length-drop, arith}
use Rattle.std.proofs.lemmas.Result.{err_from_is_err_and}
use Rattle.std.proofs.lemmas.List.{at_drop_all, drop-drop, take_rest}
use Rattle.rational.specs.Rational.{ℚ, ◌-ℚ◌, ◌*ℚ◌}
use Rattle.rational.specs.Linear.{factor_of}
use Rattle.frac128.specs.declared.Op.TheVariants.{Minus, Times}
use Rattle.frac128.specs.Calculation.{first_wide}
use Rattle.frac128.proofs.Calculations.{first_wide-nil}
use Rattle.certs.specs.Turns.{counted}
use Rattle.dictionary.specs.declared.entries.Entry.{Entry}
use Rattle.dictionary.specs.Rows.{terms_of, reductions, IsRow}
use Rattle.dictionary.proofs.Terms.{term, terms-append, terms-drop, succeeded}
use Rattle.dictionary.proofs.Lists.{Rises, rises, rises-drop, row_of_rises, lesser, greater}
use Rattle.dictionary.proofs.Merges.{merged, term_of, rises-merged, factor-merged}
use Rattle.dictionary.proofs.Steps.{at_item, reduce-times_wide, reduce-minus_wide, reduce-next}
use Rattle.dictionary.proofs.rows.reduce_row.Goals as goal

pub loop-quotient-init : goal.loop-quotient-init
loop-quotient-init g c = record {
  within = omega arith;
  items = ap (λ z. terms_of g.N.Exact.value z ++ merged (g.N.Exact.value c.args.factor) (terms_of g.N.Exact.value c.args.row.now) (terms_of g.N.Exact.value c.args.quotients.now)) c.requires.empty;
  width = refl;
  passed = omega arith;
  longer = (let e : length c.args.out.now.items ≡ 0 = ap length c.requires.empty in omega (arith, e));
  capacity = omega arith;
}

-- what is left of a row is one
pub left_row : {N : Type 0} (v : N → ℚ) (row : List (Entry N)) (n : ℕ) → IsRow (terms_of v row) → IsRow (terms_of v (drop n row))
left_row v row n is = subst IsRow (sym (terms-drop v n row)) (row_of_rises 0 (drop n (terms_of v row)) (rises-drop 0 n (terms_of v row) (rises (terms_of v row) is)))

-- behind an entry the variables are greater
at_drop_rises : {N : Type 0} (v : N → ℚ) (row : List (Entry N)) (i : ℕ) (x : Entry N) → i < length row → x ≡ get_or row i x → IsRow (terms_of v row) → Rises (suc x.variable) (terms_of v (drop (i + 1) row))
at_drop_rises v row i x l e is =
    let h : Rises 0 (terms_of v (drop i row)) = subst (Rises 0) (sym (terms-drop v i row)) (rises-drop 0 i (terms_of v row) (rises (terms_of v row) is)) in
    let r : Rises 0 (terms_of v (x ∷ drop (i + 1) row)) = subst (λ z. Rises 0 (terms_of v z)) (at_item (λ z. z) row i x l e) h in
    r.1.1

pub pass-old-requires-clause-row : goal.pass-old-requires-clause-row
pass-old-requires-clause-row g c = subst (λ z. IsRow (terms_of g.N.Exact.value z)) (sym (take_rest c.args.row.now c.loop-quotient.next)) (left_row g.N.Exact.value c.args.row.now c.loop-quotient.next c.requires.row)

pub pass-old-requires-clause-room : goal.pass-old-requires-clause-room
pass-old-requires-clause-room g c =
    let a = c.loop-quotient.invariant.within in
    let b = c.loop-quotient.invariant.longer in
    let d = c.loop-quotient.invariant.capacity in
    let e = c.loop-quotient.invariant.passed in
    let r = c.requires.room in
    let n = ap length (take_rest c.args.row.now c.loop-quotient.next) ∙ length-drop c.loop-quotient.next c.args.row.now in
    omega (arith, a, b, d, e, r, n)

pub returns-in_err-taken-clause-reduced : goal.returns-in_err-taken-clause-reduced
returns-in_err-taken-clause-reduced g c =
    let v = g.N.Exact.value in
    let m = g.N.Exact.most in
    let a = v c.args.factor in
    let i = c.loop-quotient.quotient-index in
    let x = c.quotient-item.result in
    let rest = terms_of v (drop c.loop-quotient.next c.args.row.now) in
    let q = term v x in
    let qs = terms_of v (drop (i + 1) c.args.quotients.now) in
    let e : first_wide m (counted Times a q.factor) ≡ Some c.in_err-taken.field-0.0 = c.in_err-taken.ensures in
    let p = err_from_is_err_and c.from_residual.result c.from_residual.ensures.1 in
    rw (p.1, p.2) (sym c.loop-quotient.invariant.width ∙ at_item (λ l. first_wide m (reductions a rest (terms_of v l))) c.args.quotients.now i x c.loop-quotient-test.true c.quotient-item.is ∙ reduce-times_wide m a rest q qs _ e)

pub returns-in_err-reduced-clause-reduced : goal.returns-in_err-reduced-clause-reduced
returns-in_err-reduced-clause-reduced g c =
    let v = g.N.Exact.value in
    let m = g.N.Exact.most in
    let a = v c.args.factor in
    let i = c.loop-quotient.quotient-index in
    let x = c.quotient-item.result in
    let rest = terms_of v (drop c.loop-quotient.next c.args.row.now) in
    let q = term v x in
    let qs = terms_of v (drop (i + 1) c.args.quotients.now) in
    let e : first_wide m (counted Times a q.factor) ≡ None = c.in_ok-taken.ensures.1 in
    let old : v c.pass-old.result.0 ≡ factor_of rest q.column = c.pass-old.ensures.factor ∙ ap (λ z. factor_of (terms_of v z) q.column) (take_rest c.args.row.now c.loop-quotient.next) in
    let taken : v c.in_ok-taken.taken ≡ a *ℚ q.factor = c.in_ok-taken.ensures.0 in
    let d : first_wide m (counted Minus (v c.pass-old.result.0) (v c.in_ok-taken.taken)) ≡ Some c.in_err-reduced.field-0.0 = c.in_err-reduced.ensures in
    let p = err_from_is_err_and c.from_residual-in_err-reduced.result c.from_residual-in_err-reduced.ensures.1 in
    rw (p.1, p.2)
    (sym c.loop-quotient.invariant.width
    ∙ at_item (λ l. first_wide m (reductions a rest (terms_of v l))) c.args.quotients.now i x c.loop-quotient-test.true c.quotient-item.is
    ∙ reduce-minus_wide m a rest q qs e _ (ap (λ z. first_wide m (counted Minus z (a *ℚ q.factor))) (sym old) ∙ ap (λ z. first_wide m (counted Minus (v c.pass-old.result.0) z)) (sym taken) ∙ d))

pub push_counted-requires : goal.push_counted-requires
push_counted-requires g c = record {
  room =
      (let a = c.pass-old.ensures.within in
      let b = c.loop-quotient.invariant.longer in
      let d = c.loop-quotient.invariant.capacity in
      let e = c.loop-quotient-test.true in
      let f = c.pass-old.ensures.longer in
      let h = c.pass-old.ensures.capacity in
      let w = c.loop-quotient.invariant.within in
      let r = c.requires.room in
      let n = ap length (take_rest c.args.row.now c.loop-quotient.next) ∙ length-drop c.loop-quotient.next c.args.row.now in
      omega (arith, a, b, d, e, f, h, w, r, n));
}

pub loop-quotient-preserved : goal.loop-quotient-preserved
loop-quotient-preserved g c =
    let v = g.N.Exact.value in
    let m = g.N.Exact.most in
    let a = v c.args.factor in
    let i = c.loop-quotient.quotient-index in
    let next = c.loop-quotient.next in
    let x = c.quotient-item.result in
    let rest = terms_of v (drop next c.args.row.now) in
    let q = term v x in
    let qs = terms_of v (drop (i + 1) c.args.quotients.now) in
    let out = terms_of v c.loop-quotient.out.items in
    let e : first_wide m (counted Times a q.factor) ≡ None = c.in_ok-taken.ensures.1 in
    let old : v c.pass-old.result.0 ≡ factor_of rest q.column = c.pass-old.ensures.factor ∙ ap (λ z. factor_of (terms_of v z) q.column) (take_rest c.args.row.now c.loop-quotient.next) in
    let taken : v c.in_ok-taken.taken ≡ a *ℚ q.factor = c.in_ok-taken.ensures.0 in
    let reduced : v c.in_ok-reduced.reduced ≡ v c.pass-old.result.0 -ℚ v c.in_ok-taken.taken = c.in_ok-reduced.ensures.0 in
    let d : first_wide m (counted Minus (v c.pass-old.result.0) (v c.in_ok-taken.taken)) ≡ None = c.in_ok-reduced.ensures.1 in
    let new : v c.in_ok-reduced.reduced ≡ factor_of rest q.column -ℚ a *ℚ q.factor = reduced ∙ ap (λ z. z -ℚ v c.in_ok-taken.taken) old ∙ ap (λ z. factor_of rest q.column -ℚ z) taken in
    let passed : terms_of v (drop (next + c.pass-old.result.1) c.args.row.now) ≡ greater q.column rest =
    ap (terms_of v) (sym (drop-drop c.pass-old.result.1 next c.args.row.now)) ∙ terms-drop v c.pass-old.result.1 (drop next c.args.row.now)
    ∙ subst (λ z. drop c.pass-old.result.1 (terms_of v z) ≡ greater q.column (terms_of v z)) (take_rest c.args.row.now next) c.pass-old.ensures.rest in
    let behind : Rises (suc q.column) qs = at_drop_rises v c.args.quotients.now i x c.loop-quotient-test.true c.quotient-item.is c.requires.quotients in
    let written : terms_of v c.push_counted.new.out.items ≡ (out ++ lesser q.column rest) ++ term_of q.column (factor_of rest q.column -ℚ a *ℚ q.factor) =
    c.push_counted.ensures.items ∙ ap (λ z. z ++ term_of q.column (v c.in_ok-reduced.reduced)) (c.pass-old.ensures.items ∙ ap (λ z. out ++ lesser q.column (terms_of v z)) (take_rest c.args.row.now next)) ∙ ap (λ z. (out ++ lesser q.column rest) ++ term_of q.column z) new in
    record {
      within = (let w = c.loop-quotient.invariant.within in let p = c.pass-old.ensures.within in let n = ap length (take_rest c.args.row.now next) ∙ length-drop next c.args.row.now in omega (arith, w, p, n));
      items =
          ap (λ z. z ++ merged a (terms_of v (drop (next + c.pass-old.result.1) c.args.row.now)) qs) written
          ∙ ap (λ z. ((out ++ lesser q.column rest) ++ term_of q.column (factor_of rest q.column -ℚ a *ℚ q.factor)) ++ merged a z qs) passed
          ∙ append_assoc (out ++ lesser q.column rest) (term_of q.column (factor_of rest q.column -ℚ a *ℚ q.factor)) (merged a (greater q.column rest) qs)
          ∙ append_assoc out (lesser q.column rest) (term_of q.column (factor_of rest q.column -ℚ a *ℚ q.factor) ++ merged a (greater q.column rest) qs)
          ∙ ap (λ z. out ++ z) (sym (at_item (λ l. merged a rest (terms_of v l)) c.args.quotients.now i x c.loop-quotient-test.true c.quotient-item.is))
          ∙ c.loop-quotient.invariant.items;
      width =
          ap (λ z. first_wide m (reductions a z qs)) passed
          ∙ sym (reduce-next m a rest q qs e (ap (λ z. first_wide m (counted Minus z (a *ℚ q.factor))) (sym old) ∙ ap (λ z. first_wide m (counted Minus (v c.pass-old.result.0) z)) (sym taken) ∙ d) behind)
          ∙ sym (at_item (λ l. first_wide m (reductions a rest (terms_of v l))) c.args.quotients.now i x c.loop-quotient-test.true c.quotient-item.is)
          ∙ c.loop-quotient.invariant.width;
      passed = (let l = c.loop-quotient-test.true in omega (arith, l));
      longer = (let b = c.loop-quotient.invariant.longer in let f = c.pass-old.ensures.longer in let h = c.push_counted.ensures.longer in omega (arith, b, f, h));
      capacity = (let b = c.loop-quotient.invariant.capacity in let f = c.pass-old.ensures.capacity in let h = c.push_counted.ensures.capacity in omega (arith, b, f, h));
    }

pub unwrap-requires : goal.unwrap-requires
unwrap-requires g c =
    c.extend_from_slice.ensures.succeeds
    (let b = c.loop-quotient.invariant.longer in
    let d = c.loop-quotient.invariant.capacity in
    let e = c.loop-quotient.invariant.passed in
    let w = c.loop-quotient.invariant.within in
    let r = c.requires.room in
    let n = ap length (take_rest c.args.row.now c.loop-quotient.next) ∙ length-drop c.loop-quotient.next c.args.row.now in
    let o = c.loop-quotient.out.ok.0 in
    omega (arith, b, d, e, w, r, n, o))

pub returns-clause-reduced : goal.returns-clause-reduced
returns-clause-reduced g c =
    let v = g.N.Exact.value in
    let m = g.N.Exact.most in
    let a = v c.args.factor in
    let i = c.loop-quotient.quotient-index in
    let next = c.loop-quotient.next in
    let row = terms_of v c.args.row.now in
    let quotients = terms_of v c.args.quotients.now in
    let rest = terms_of v (drop next c.args.row.now) in
    let out = c.loop-quotient.out.items in
    let l = c.loop-quotient-test.false in
    let is : terms_of v c.extend_from_slice.new.self.items ≡ merged a row quotients =
    ap (terms_of v) (succeeded c.extend_from_slice.result c.unwrap.result (out ++ take (length c.args.row.now - next) (drop next c.args.row.now)) out c.extend_from_slice.new.self.items c.unwrap.ensures c.extend_from_slice.ensures.items
    ∙ ap (λ z. out ++ z) (take_rest c.args.row.now next))
    ∙ terms-append v out (drop next c.args.row.now)
    ∙ ap (λ z. terms_of v out ++ z) (sym (at_drop_all (λ z. merged a rest (terms_of v z)) c.args.quotients.now i l))
    ∙ c.loop-quotient.invariant.items in (
      sym c.loop-quotient.invariant.width ∙ at_drop_all (λ z. first_wide m (reductions a rest (terms_of v z))) c.args.quotients.now i l ∙ first_wide-nil m,
      (
        subst IsRow (sym is) (row_of_rises 0 (merged a row quotients) (rises-merged a 0 row quotients (rises row c.requires.row) (rises quotients c.requires.quotients))),
        λ k. ap (λ z. factor_of z k) is ∙ factor-merged a row quotients k,
      ),
    )

pub returns-clause-longer : goal.returns-clause-longer
returns-clause-longer g c =
    let b = c.loop-quotient.invariant.longer in
    let e = c.loop-quotient.invariant.passed in
    let w = c.loop-quotient.invariant.within in
    let n = length-drop c.loop-quotient.next c.args.row.now in
    let o = c.loop-quotient.out.ok.0 in
    let is = succeeded c.extend_from_slice.result c.unwrap.result (c.loop-quotient.out.items ++ take (length c.args.row.now - c.loop-quotient.next) (drop c.loop-quotient.next c.args.row.now)) c.loop-quotient.out.items c.extend_from_slice.new.self.items c.unwrap.ensures c.extend_from_slice.ensures.items
    ∙ ap (λ z. c.loop-quotient.out.items ++ z) (take_rest c.args.row.now c.loop-quotient.next) in
    let s = ap length is ∙ length-append c.loop-quotient.out.items (drop c.loop-quotient.next c.args.row.now) in
    omega (arith, b, e, w, n, o, s)
