use Rattle.std.proofs.Common.{◌≡◌, ◌≢◌, ℕ, ◌++◌, length, sym, ◌∙◌, ap, subst, Some, None, not, ◌==◌, arith}
use Rattle.std.proofs.lemmas.Result.{err_from_is_err_and}
use Rattle.rational.specs.Rational.{ℚ, ◌-ℚ◌, ◌*ℚ◌, zero_ℚ}
use Rattle.rational.specs.Linear.{factor_of}
use Rattle.frac128.specs.declared.Op.TheVariants.{Times}
use Rattle.frac128.specs.Calculation.{first_wide}
use Rattle.frac128.proofs.Calculations.{first_wide-past, first_wide-before}
use Rattle.certs.specs.Turns.{counted}
use Rattle.dictionary.specs.Rows.{terms_of, reductions, without, IsRow, IsRowChanged}
use Rattle.dictionary.proofs.Terms.{succeeded}
use Rattle.dictionary.proofs.Lists.{rises, rises-kept, row_of_rises, without_none}
use Rattle.dictionary.proofs.Changes.{product-nonzero, stays, leaving_new, changes, work-none, work-some}
use Rattle.dictionary.proofs.rows.change_row.Goals as goal

pub returns-in_default-clause-changed : goal.returns-in_default-clause-changed
returns-in_default-clause-changed g c =
    let v = g.N.Exact.value in
    let old = terms_of v c.args.row.now.items in
    let Q = terms_of v c.args.quotients.now in
    let J = c.args.entering in
    let z : factor_of old J ≡ zero_ℚ = c.in_default.ensures.factor in
    let same : terms_of v c.take_entry.new.row.items ≡ old = c.in_default.ensures.rest ∙ without_none 0 J old (rises old c.requires.row) z in (
      work-none c.args.leaving J (v c.args.inverse) Q old g.N.Exact.most z,
      subst (λ n. IsRowChanged c.args.leaving J (v c.args.inverse) Q old n) (sym same) (stays c.args.leaving J (v c.args.inverse) Q old c.requires.row c.requires.leaving z),
    )

-- the factor is one that is not 0
counts : (a x : ℚ) → x ≡ a → x ≢ zero_ℚ → a ≢ zero_ℚ
counts a x e d z = d (e ∙ z)

pub returns-in_err-own-clause-changed : goal.returns-in_err-own-clause-changed
returns-in_err-own-clause-changed g c =
    let v = g.N.Exact.value in
    let m = g.N.Exact.most in
    let old = terms_of v c.args.row.now.items in
    let Q = terms_of v c.args.quotients.now in
    let J = c.args.entering in
    let f = c.in-Some.ensures.factor in
    let e : first_wide m (counted Times (factor_of old J) (v c.args.inverse)) ≡ Some c.in_err-own.field-0.0 = ap (λ z. first_wide m (counted Times z (v c.args.inverse))) (sym f.0) ∙ c.in_err-own.ensures in
    let p = err_from_is_err_and c.from_residual.result c.from_residual.ensures.1 in
    rw (p.1, p.2)
    (work-some c.args.leaving J (v c.args.inverse) Q old m _ (counts _ _ f.0 f.1) (first_wide-before m (counted Times (factor_of old J) (v c.args.inverse)) (reductions (factor_of old J) (without J old) Q) _ e))

pub unwrap-requires : goal.unwrap-requires
unwrap-requires g c =
    let f = c.in-Some.ensures.factor in
    c.extend_from_slice.ensures.succeeds
    (let s = c.requires.spare (counts _ _ f.0 f.1) in
    let a = c.clear.ensures.len in
    let b = c.clear.ensures.capacity in
    let n = ap length c.deref.ensures.value in
    let h = c.in-Some.ensures.shorter in
    omega (arith, s, a, b, n, h))

pub reduce_row-requires : goal.reduce_row-requires
reduce_row-requires g c =
    let v = g.N.Exact.value in
    let m = g.N.Exact.most in
    let old = terms_of v c.args.row.now.items in
    let Q = terms_of v c.args.quotients.now in
    let J = c.args.entering in
    let a = factor_of old J in
    let f = c.in-Some.ensures.factor in
    let spare : c.deref-2.result.now ≡ c.take_entry.new.row.items =
    c.deref-2.ensures.value ∙ succeeded c.extend_from_slice.result c.unwrap.result (c.clear.new.self.items ++ c.deref.result.now) c.clear.new.self.items c.extend_from_slice.new.self.items c.unwrap.ensures c.extend_from_slice.ensures.items
    ∙ ap (λ z. z ++ c.deref.result.now) c.clear.ensures.items ∙ c.deref.ensures.value in
    let held : terms_of v c.deref-2.result.now ≡ without J old = ap (terms_of v) spare ∙ c.in-Some.ensures.rest in
    record {
      row = subst IsRow (sym held) (row_of_rises 0 (without J old) (rises-kept (λ t. not (t.column == J)) 0 old (rises old c.requires.row)));
      quotients = c.requires.quotients;
      empty = c.clear-2.ensures.items;
      room = (let r = c.requires.room (counts _ _ f.0 f.1) in
          let n = ap length spare in
          let h = c.in-Some.ensures.shorter in
          let k = c.clear-2.ensures.capacity in
          let q = c.in-Some.ensures.capacity in
          omega (arith, r, n, h, k, q));
    }

pub returns-in_err-reduce_row-clause-changed : goal.returns-in_err-reduce_row-clause-changed
returns-in_err-reduce_row-clause-changed g c =
    let v = g.N.Exact.value in
    let m = g.N.Exact.most in
    let old = terms_of v c.args.row.now.items in
    let Q = terms_of v c.args.quotients.now in
    let J = c.args.entering in
    let a = factor_of old J in
    let f = c.in-Some.ensures.factor in
    let spare : c.deref-2.result.now ≡ c.take_entry.new.row.items =
    c.deref-2.ensures.value ∙ succeeded c.extend_from_slice.result c.unwrap.result (c.clear.new.self.items ++ c.deref.result.now) c.clear.new.self.items c.extend_from_slice.new.self.items c.unwrap.ensures c.extend_from_slice.ensures.items
    ∙ ap (λ z. z ++ c.deref.result.now) c.clear.ensures.items ∙ c.deref.ensures.value in
    let held : terms_of v c.deref-2.result.now ≡ without J old = ap (terms_of v) spare ∙ c.in-Some.ensures.rest in
    let e : first_wide m (counted Times a (v c.args.inverse)) ≡ None = ap (λ z. first_wide m (counted Times z (v c.args.inverse))) (sym f.0) ∙ c.in_ok-own.ensures.1 in
    let w : first_wide m (reductions a (without J old) Q) ≡ Some c.in_err-reduce_row.field-0.0 =
    ap (λ z. first_wide m (reductions a z Q)) (sym held) ∙ ap (λ z. first_wide m (reductions z (terms_of v c.deref-2.result.now) Q)) (sym f.0) ∙ c.in_err-reduce_row.ensures.reduced in
    let p = err_from_is_err_and c.from_residual-in_err-reduce_row.result c.from_residual-in_err-reduce_row.ensures.1 in
    rw (p.1, p.2)
    (work-some c.args.leaving J (v c.args.inverse) Q old m _ (counts _ _ f.0 f.1) (first_wide-past m (counted Times a (v c.args.inverse)) (reductions a (without J old) Q) e ∙ w))

pub put_entry-requires : goal.put_entry-requires
put_entry-requires g c =
    let v = g.N.Exact.value in
    let m = g.N.Exact.most in
    let old = terms_of v c.args.row.now.items in
    let Q = terms_of v c.args.quotients.now in
    let J = c.args.entering in
    let a = factor_of old J in
    let f = c.in-Some.ensures.factor in
    let spare : c.deref-2.result.now ≡ c.take_entry.new.row.items =
    c.deref-2.ensures.value ∙ succeeded c.extend_from_slice.result c.unwrap.result (c.clear.new.self.items ++ c.deref.result.now) c.clear.new.self.items c.extend_from_slice.new.self.items c.unwrap.ensures c.extend_from_slice.ensures.items
    ∙ ap (λ z. z ++ c.deref.result.now) c.clear.ensures.items ∙ c.deref.ensures.value in
    let held : terms_of v c.deref-2.result.now ≡ without J old = ap (terms_of v) spare ∙ c.in-Some.ensures.rest in
    record {
      row = c.in_ok-reduce_row.ensures.reduced.1.0;
      new = (let done = c.in_ok-reduce_row.ensures.reduced in
          let M = terms_of v c.reduce_row.new.out.items in
          let factors : (k : ℕ) → factor_of M k ≡ factor_of (without J old) k -ℚ a *ℚ factor_of Q k =
          λ k. done.1.1 k ∙ ap (λ z. factor_of z k -ℚ v c.in-Some.factor *ℚ factor_of Q k) held ∙ ap (λ z. factor_of (without J old) k -ℚ z *ℚ factor_of Q k) f.0 in
          leaving_new c.args.leaving J (v c.args.inverse) Q old M factors c.requires.leaving c.requires.no_leaving c.requires.apart);
      nonzero = λ z. product-nonzero (v c.in-Some.factor) (v c.args.inverse) f.1 c.requires.inverse (sym c.in_ok-own.ensures.0 ∙ z);
      room = (let r = c.requires.room (counts _ _ f.0 f.1) in
          let n = ap length spare in
          let h = c.in-Some.ensures.shorter in
          let k = c.clear-2.ensures.capacity in
          let q = c.in-Some.ensures.capacity in
          let u = c.in_ok-reduce_row.ensures.longer in
          let w = c.reduce_row.ensures.capacity in
          omega (arith, r, n, h, k, q, u, w));
    }

pub returns-clause-changed : goal.returns-clause-changed
returns-clause-changed g c =
    let v = g.N.Exact.value in
    let m = g.N.Exact.most in
    let old = terms_of v c.args.row.now.items in
    let Q = terms_of v c.args.quotients.now in
    let J = c.args.entering in
    let a = factor_of old J in
    let f = c.in-Some.ensures.factor in
    let spare : c.deref-2.result.now ≡ c.take_entry.new.row.items =
    c.deref-2.ensures.value ∙ succeeded c.extend_from_slice.result c.unwrap.result (c.clear.new.self.items ++ c.deref.result.now) c.clear.new.self.items c.extend_from_slice.new.self.items c.unwrap.ensures c.extend_from_slice.ensures.items
    ∙ ap (λ z. z ++ c.deref.result.now) c.clear.ensures.items ∙ c.deref.ensures.value in
    let held : terms_of v c.deref-2.result.now ≡ without J old = ap (terms_of v) spare ∙ c.in-Some.ensures.rest in
    let e : first_wide m (counted Times a (v c.args.inverse)) ≡ None = ap (λ z. first_wide m (counted Times z (v c.args.inverse))) (sym f.0) ∙ c.in_ok-own.ensures.1 in
    let done = c.in_ok-reduce_row.ensures.reduced in
    let M = terms_of v c.reduce_row.new.out.items in
    let factors : (k : ℕ) → factor_of M k ≡ factor_of (without J old) k -ℚ a *ℚ factor_of Q k =
    λ k. done.1.1 k ∙ ap (λ z. factor_of z k -ℚ v c.in-Some.factor *ℚ factor_of Q k) held ∙ ap (λ z. factor_of (without J old) k -ℚ z *ℚ factor_of Q k) f.0 in
    let work : first_wide m (reductions a (without J old) Q) ≡ None =
    ap (λ z. first_wide m (reductions a z Q)) (sym held) ∙ ap (λ z. first_wide m (reductions z (terms_of v c.deref-2.result.now) Q)) (sym f.0) ∙ done.0 in (
      work-some c.args.leaving J (v c.args.inverse) Q old m None (counts _ _ f.0 f.1) (first_wide-past m (counted Times a (v c.args.inverse)) (reductions a (without J old) Q) e ∙ work),
      changes c.args.leaving J (v c.args.inverse) Q old M factors (terms_of v c.put_entry.new.row.items) (v c.in_ok-own.own) c.put_entry.ensures.row (c.in_ok-own.ensures.0 ∙ ap (λ z. z *ℚ v c.args.inverse) f.0)
          c.put_entry.ensures.own c.put_entry.ensures.others c.requires.apart c.requires.no_entering,
    )
