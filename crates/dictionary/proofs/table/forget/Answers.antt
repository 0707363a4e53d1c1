use Rattle.std.proofs.Common.{◌≡◌, ◌≢◌, ◌<◌, ℕ, List, [], Option, Some, None, length, get_or, set, sym, ◌∙◌, ap, subst, inl, inr, arith}
use Rattle.std.proofs.lemmas.Bool.{cases_eq, cases_lt}
use Rattle.std.proofs.lemmas.List.{get_or-set_same, get_or-set_other, get_or_past}
use Rattle.std.specs.Prelude.{slice_index_or}
use Rattle.rational.specs.Linear.{factor_of}
use Rattle.dictionary.specs.Rows.{terms_of, rows_of, IsRow}
use Rattle.dictionary.proofs.Counts.{is_zero}
use Rattle.dictionary.proofs.Tables.{rows_at, rows-length}
use Rattle.dictionary.proofs.table.forget.Goals as goal

-- what is left where one value is forgotten
left : {N : Type 0} (values : List (Option N)) (place i : ℕ) (v : N) → place < length values → get_or (set values place None) i None ≡ Some v → (i ≢ place) × (get_or values i None ≡ Some v)
left values place i v l e =
    elim (cases_eq i place) [
      | inl d ↦ (let a = get_or-set_same values place None None l in let b = ap (λ k. get_or (set values place None) k None) d in absurd (cc (a, b, e)))
      | inr d ↦ (d, sym (get_or-set_other values place i None None d) ∙ e)
    ]

pub factor_in-requires : goal.factor_in-requires
factor_in-requires g c = subst (λ z. IsRow (terms_of g.N.Exact.value z)) (sym c.deref.ensures.value) (subst (λ r. IsRow (terms_of g.N.Exact.value r.items)) (sym c.index-rows-place.is) (c.requires.rows c.loop-place.place c.index-rows-place.result c.loop-place-test.true))

pub loop-place-preserved-then-is_zero : goal.loop-place-preserved-then-is_zero
loop-place-preserved-then-is_zero g c =
    let v = g.N.Exact.value in
    let p = c.loop-place.place in
    let row : slice_index_or (rows_of v c.args.rows.now) p [] ≡ terms_of v c.deref.result.now =
    rows_at v c.args.rows.now p c.index-rows-place.result c.loop-place-test.true ∙ ap (λ r. terms_of v r.items) (sym c.index-rows-place.is) ∙ ap (terms_of v) (sym c.deref.ensures.value) in
    record {
      kept = c.loop-place.invariant.kept;
      absent = λ i w e l.
          elim (cases_eq i p) [
            | inl d ↦ (ap (λ k. factor_of (slice_index_or (rows_of v c.args.rows.now) k []) c.args.variable) d ∙ ap (λ r. factor_of r c.args.variable) row ∙ sym c.factor_in.ensures ∙ is_zero _ _ c.is_zero.ensures c.if-is_zero.true)
            | inr d ↦ c.loop-place.invariant.absent i w e (omega arith)
          ];
    }

pub loop-place-preserved : goal.loop-place-preserved
loop-place-preserved g c =
    let p = c.loop-place.place in
    let l : p < length c.loop-place.values = subst (λ n. p < n) (sym (c.loop-place.auto.values ∙ c.requires.long)) c.loop-place-test.true in
    record {
      kept = λ i w e. c.loop-place.invariant.kept i w (left c.loop-place.values p i w l e).1;
      absent = λ i w e m.
          (let r = left c.loop-place.values p i w l e in
          let n : i ≢ p = r.0 in
          c.loop-place.invariant.absent i w r.1 (omega arith));
    }

pub returns : goal.returns
returns g c =
    let v = g.N.Exact.value in
    let i = c.loop-place.invariant in
    record {
      long = c.loop-place.auto.values;
      kept = i.kept;
      absent = λ k w e.
          elim (cases_lt k c.loop-place.place) [
            | inl l ↦ i.absent k w e l
            | inr l ↦ ap (λ r. factor_of r c.args.variable) (get_or_past (rows_of v c.args.rows.now) k [] (let m = c.loop-place-test.false in let n = rows-length v c.args.rows.now in omega (arith, l, m, n)))
          ];
    }
