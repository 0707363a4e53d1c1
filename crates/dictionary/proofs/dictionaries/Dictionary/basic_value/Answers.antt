use Rattle.std.proofs.Common.{◌≡◌, ◌<◌, ◌≤◌, [], length, sym, ◌∙◌, ap, subst, Some, None}
use Rattle.std.specs.Prelude.{slice_index, slice_index_or}
use Rattle.std.proofs.lemmas.Result.{err_from_is_err_and}
use Rattle.std.proofs.lemmas.List.{get_or_default}
use Rattle.rational.specs.Rational.{◌+ℚ◌, ◌*ℚ◌, zero_ℚ}
use Rattle.rational.specs.Sum.{sum_over}
use Rattle.rational.specs.Linear.{factor_of}
use Rattle.rational.proofs.Sums.{nothing_first, sum_over-step, sum_over-end}
use Rattle.frac128.specs.declared.Op.TheVariants.{Plus, Times}
use Rattle.frac128.specs.Calculation.{first_wide}
use Rattle.certs.specs.Tableau.{place_value}
use Rattle.certs.specs.Turns.{counted, sum_operations}
use Rattle.dictionary.specs.Rows.{terms_of, IsSparse}
use Rattle.dictionary.specs.Value.{tableau_of}
use Rattle.dictionary.proofs.Steps.{sum-product_wide, sum-wide, sum-next, sum-end}
use Rattle.dictionary.proofs.Values.{columns, value-work, value-total, column_at, factor_is, entry_outside, columns-length}
use Rattle.dictionary.proofs.dictionaries.Dictionary.basic_value.Goals as goal

pub loop-entry-init : goal.loop-entry-init
loop-entry-init g c =
    let m = g.N.Exact.most in
    let v = g.N.Exact.value in
    let t = tableau_of c.args.self.now in
    let p = place_value t in
    let xs = c.row-entry-items.result.now in
    let row = slice_index_or c.args.self.now.rows c.args.variable [] in
    let items : terms_of v xs ≡ row = c.row-entry-items.ensures.row in
    let sparse : IsSparse c.args.self.now.basis row = subst (IsSparse c.args.self.now.basis) items c.row-entry-items.ensures.sparse in
    record {
      items = items;
      width =
          ap (λ z. first_wide m (sum_operations (factor_of row) p z (columns (terms_of v xs)))) c.zero-total.ensures
          ∙ ap (λ r. first_wide m (sum_operations (factor_of row) p zero_ℚ (columns r))) items
          ∙ ap (first_wide m) (value-work c.args.self.now.basis row sparse p zero_ℚ);
      value =
          ap (λ z. z +ℚ sum_over (λ k. factor_of row k *ℚ p k) (columns (terms_of v xs))) c.zero-total.ensures
          ∙ nothing_first _
          ∙ ap (λ r. sum_over (λ k. factor_of row k *ℚ p k) (columns r)) items
          ∙ value-total c.args.self.now.basis row sparse p;
    }

pub place-requires-clause-known : goal.place-requires-clause-known
place-requires-clause-known g c = (entry_outside g.N.Exact.value c.row-entry-items.result.now c.loop-entry.entry-index c.entry-item.result c.loop-entry-test.true c.entry-item.is c.args.self.now.basis c.row-entry-items.ensures.sparse).0

pub place-requires-clause-nonbasic : goal.place-requires-clause-nonbasic
place-requires-clause-nonbasic g c = (entry_outside g.N.Exact.value c.row-entry-items.result.now c.loop-entry.entry-index c.entry-item.result c.loop-entry-test.true c.entry-item.is c.args.self.now.basis c.row-entry-items.ensures.sparse).1

pub returns-in_err-part : goal.returns-in_err-part
returns-in_err-part g c =
    let m = g.N.Exact.most in
    let v = g.N.Exact.value in
    let t = tableau_of c.args.self.now in
    let f = t.factor c.args.variable in
    let p = place_value t in
    let xs = c.row-entry-items.result.now in
    let list = columns (terms_of v xs) in
    let i = c.loop-entry.entry-index in
    let x = c.entry-item.result in
    let l = c.loop-entry-test.true in
    let k = slice_index list i in
    let h : i < length list = subst (λ n. i < n) (sym (columns-length v xs)) l in
    let s = v c.loop-entry.total in
    let col : k ≡ x.variable = column_at v xs i x l c.entry-item.is in
    let fk : f k ≡ v x.factor = ap (λ r. factor_of r k) (sym c.loop-entry.invariant.items) ∙ factor_is v xs i x l c.entry-item.is c.row-entry-items.ensures.sparse.is_row in
    let pk : p k ≡ v c.place.result = ap p col ∙ sym c.place.ensures in
    let e : first_wide m (counted Times (f k) (p k)) ≡ Some c.in_err-part.field-0.0 = ap (λ z. first_wide m (counted Times z (p k))) fk ∙ ap (λ z. first_wide m (counted Times (v x.factor) z)) pk ∙ c.in_err-part.ensures in
    let q = err_from_is_err_and c.from_residual.result c.from_residual.ensures.1 in
    rw (q.1, q.2) (sym c.loop-entry.invariant.width ∙ sum-product_wide m f p s list i h _ e)

pub returns-in_err-total : goal.returns-in_err-total
returns-in_err-total g c =
    let m = g.N.Exact.most in
    let v = g.N.Exact.value in
    let t = tableau_of c.args.self.now in
    let f = t.factor c.args.variable in
    let p = place_value t in
    let xs = c.row-entry-items.result.now in
    let list = columns (terms_of v xs) in
    let i = c.loop-entry.entry-index in
    let x = c.entry-item.result in
    let l = c.loop-entry-test.true in
    let k = slice_index list i in
    let h : i < length list = subst (λ n. i < n) (sym (columns-length v xs)) l in
    let s = v c.loop-entry.total in
    let col : k ≡ x.variable = column_at v xs i x l c.entry-item.is in
    let fk : f k ≡ v x.factor = ap (λ r. factor_of r k) (sym c.loop-entry.invariant.items) ∙ factor_is v xs i x l c.entry-item.is c.row-entry-items.ensures.sparse.is_row in
    let pk : p k ≡ v c.place.result = ap p col ∙ sym c.place.ensures in
    let first : first_wide m (counted Times (f k) (p k)) ≡ None = ap (λ z. first_wide m (counted Times z (p k))) fk ∙ ap (λ z. first_wide m (counted Times (v x.factor) z)) pk ∙ c.in_ok-part.ensures.1 in
    let part : v c.in_ok-part.part ≡ f k *ℚ p k = c.in_ok-part.ensures.0 ∙ ap (λ z. z *ℚ v c.place.result) (sym fk) ∙ ap (λ z. f k *ℚ z) (sym pk) in
    let e : first_wide m (counted Plus s (f k *ℚ p k)) ≡ Some c.in_err-total.field-0.0 = ap (λ z. first_wide m (counted Plus s z)) (sym part) ∙ c.in_err-total.ensures in
    let q = err_from_is_err_and c.from_residual-in_err-total.result c.from_residual-in_err-total.ensures.1 in
    rw (q.1, q.2) (sym c.loop-entry.invariant.width ∙ sum-wide m f p s list i h first _ e)

pub loop-entry-preserved : goal.loop-entry-preserved
loop-entry-preserved g c =
    let m = g.N.Exact.most in
    let v = g.N.Exact.value in
    let t = tableau_of c.args.self.now in
    let f = t.factor c.args.variable in
    let p = place_value t in
    let xs = c.row-entry-items.result.now in
    let list = columns (terms_of v xs) in
    let i = c.loop-entry.entry-index in
    let x = c.entry-item.result in
    let l = c.loop-entry-test.true in
    let k = slice_index list i in
    let h : i < length list = subst (λ n. i < n) (sym (columns-length v xs)) l in
    let s = v c.loop-entry.total in
    let col : k ≡ x.variable = column_at v xs i x l c.entry-item.is in
    let fk : f k ≡ v x.factor = ap (λ r. factor_of r k) (sym c.loop-entry.invariant.items) ∙ factor_is v xs i x l c.entry-item.is c.row-entry-items.ensures.sparse.is_row in
    let pk : p k ≡ v c.place.result = ap p col ∙ sym c.place.ensures in
    let first : first_wide m (counted Times (f k) (p k)) ≡ None = ap (λ z. first_wide m (counted Times z (p k))) fk ∙ ap (λ z. first_wide m (counted Times (v x.factor) z)) pk ∙ c.in_ok-part.ensures.1 in
    let part : v c.in_ok-part.part ≡ f k *ℚ p k = c.in_ok-part.ensures.0 ∙ ap (λ z. z *ℚ v c.place.result) (sym fk) ∙ ap (λ z. f k *ℚ z) (sym pk) in
    let second : first_wide m (counted Plus s (f k *ℚ p k)) ≡ None = ap (λ z. first_wide m (counted Plus s z)) (sym part) ∙ c.in_ok-total.ensures.1 in
    let total = c.in_ok-total.ensures.0 ∙ ap (λ z. s +ℚ z) part in
    record {
      items = c.loop-entry.invariant.items;
      width = sym (sum-next m f p s list i h first second (v c.in_ok-total.total) total) ∙ c.loop-entry.invariant.width;
      value = sum_over-step (λ k. f k *ℚ p k) list i k s (v c.in_ok-total.total) _ h (get_or_default list i 0 k h) total c.loop-entry.invariant.value;
    }

pub returns : goal.returns
returns g c =
    let m = g.N.Exact.most in
    let v = g.N.Exact.value in
    let t = tableau_of c.args.self.now in
    let f = t.factor c.args.variable in
    let p = place_value t in
    let xs = c.row-entry-items.result.now in
    let list = columns (terms_of v xs) in
    let i = c.loop-entry.entry-index in
    let h : length list ≤ i = subst (λ n. n ≤ i) (sym (columns-length v xs)) c.loop-entry-test.false in (
      sum_over-end (λ k. f k *ℚ p k) list i (v c.loop-entry.total) _ h c.loop-entry.invariant.value,
      sym c.loop-entry.invariant.width ∙ sum-end g.N.Exact.most f p (v c.loop-entry.total) list i h,
    )
