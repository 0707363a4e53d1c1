use Rattle.std.proofs.Common.{◌≡◌, ◌≢◌, ◌+◌, ◌<◌, ◌≤◌, List, [], length, get_or, set, vec_capacity, refl, sym, ◌∙◌, ap, subst, Some, None, arith, inl, inr}
use Rattle.std.specs.Prelude.{slice_index_or}
use Rattle.std.proofs.lemmas.Bool.{cases_eq}
use Rattle.std.proofs.lemmas.Result.{err_from_is_err_and}
use Rattle.std.proofs.lemmas.List.{get_or-set_same, get_or-set_other, drop-set-lt}
use Rattle.rational.specs.Rational.{zero_ℚ}
use Rattle.rational.specs.Linear.{Term, factor_of}
use Rattle.frac128.specs.Calculation.{Calculation, first_wide}
use Rattle.dictionary.specs.Rows.{terms_of, rows_of, row_work, IsRow, IsRowChanged}
use Rattle.dictionary.proofs.Steps.{first-wide, first-next, first-end, left_item, left_rest}
use Rattle.dictionary.proofs.Tables.{rows_set, rows_at, rows-length}
use Rattle.dictionary.proofs.table.change_rows.Goals as goal

pub loop-place-init : goal.loop-place-init
loop-place-init g c = record { width = refl; front = λ k l. absurd (omega (arith, l)); back = refl; capacity = omega arith }

pub change_row-requires-clause-row : goal.change_row-requires-clause-row
change_row-requires-clause-row g c =
    let v = g.N.Exact.value in
    let m = g.N.Exact.most in
    let J = c.args.entering in
    let Q = terms_of v c.args.quotients.now in
    let old = c.args.rows.now in
    let now = c.loop-place.rows in
    let i = c.loop-place.place in
    let x = c.index-rows-place.result in
    let l = c.loop-place-test.true in
    let k : i < length now = subst (λ n. i < n) (sym c.loop-place.auto.rows) l in
    let item : get_or now i x ≡ get_or old i x = left_item old now i c.loop-place.invariant.back x l k in
    subst (λ r. IsRow (terms_of v r.items)) (sym item) (c.requires.rows i x l)

pub change_row-requires-clause-leaving : goal.change_row-requires-clause-leaving
change_row-requires-clause-leaving g c =
    let v = g.N.Exact.value in
    let m = g.N.Exact.most in
    let J = c.args.entering in
    let Q = terms_of v c.args.quotients.now in
    let old = c.args.rows.now in
    let now = c.loop-place.rows in
    let i = c.loop-place.place in
    let x = c.index-rows-place.result in
    let l = c.loop-place-test.true in
    let k : i < length now = subst (λ n. i < n) (sym c.loop-place.auto.rows) l in
    let item : get_or now i x ≡ get_or old i x = left_item old now i c.loop-place.invariant.back x l k in
    ap (λ r. factor_of (terms_of v r.items) c.args.leaving) item ∙ c.requires.leaving i x l

pub change_row-requires-clause-room : goal.change_row-requires-clause-room
change_row-requires-clause-room g c =
    let v = g.N.Exact.value in
    let m = g.N.Exact.most in
    let J = c.args.entering in
    let Q = terms_of v c.args.quotients.now in
    let old = c.args.rows.now in
    let now = c.loop-place.rows in
    let i = c.loop-place.place in
    let x = c.index-rows-place.result in
    let l = c.loop-place-test.true in
    let k : i < length now = subst (λ n. i < n) (sym c.loop-place.auto.rows) l in
    let item : get_or now i x ≡ get_or old i x = left_item old now i c.loop-place.invariant.back x l k in
    subst (λ r. factor_of (terms_of v r.items) J ≢ zero_ℚ → length r.items + length c.args.quotients.now ≤ vec_capacity r) (sym item) (c.requires.room i x l)

pub change_row-requires-clause-spare : goal.change_row-requires-clause-spare
change_row-requires-clause-spare g c =
    let v = g.N.Exact.value in
    let m = g.N.Exact.most in
    let J = c.args.entering in
    let Q = terms_of v c.args.quotients.now in
    let old = c.args.rows.now in
    let now = c.loop-place.rows in
    let i = c.loop-place.place in
    let x = c.index-rows-place.result in
    let l = c.loop-place-test.true in
    let k : i < length now = subst (λ n. i < n) (sym c.loop-place.auto.rows) l in
    let item : get_or now i x ≡ get_or old i x = left_item old now i c.loop-place.invariant.back x l k in
    let r = subst (λ r. factor_of (terms_of v r.items) J ≢ zero_ℚ → length r.items ≤ vec_capacity c.args.spare.now) (sym item) (c.requires.spare i x l) in
    let w = c.loop-place.invariant.capacity in
    λ n. (let a = r n in omega (arith, a, w))

pub returns-in_err-change_row : goal.returns-in_err-change_row
returns-in_err-change_row g c =
    let v = g.N.Exact.value in
    let m = g.N.Exact.most in
    let J = c.args.entering in
    let Q = terms_of v c.args.quotients.now in
    let old = c.args.rows.now in
    let now = c.loop-place.rows in
    let i = c.loop-place.place in
    let x = c.index-rows-place.result in
    let l = c.loop-place-test.true in
    let k : i < length now = subst (λ n. i < n) (sym c.loop-place.auto.rows) l in
    let item : get_or now i x ≡ get_or old i x = left_item old now i c.loop-place.invariant.back x l k in
    let F : List Term → Calculation = λ row. row_work J (v c.args.inverse) Q row in
    let e : first_wide m (F (terms_of v (get_or now i x).items)) ≡ Some c.in_err-change_row.field-0.0 = c.in_err-change_row.ensures.changed in
    let p = err_from_is_err_and c.from_residual.result c.from_residual.ensures.1 in
    rw (p.1, p.2) (sym c.loop-place.invariant.width ∙ first-wide m (λ r. terms_of v r.items) F old i x l _ (ap (λ r. first_wide m (F (terms_of v r.items))) (sym item) ∙ e))

pub loop-place-preserved : goal.loop-place-preserved
loop-place-preserved g c =
    let v = g.N.Exact.value in
    let m = g.N.Exact.most in
    let J = c.args.entering in
    let Q = terms_of v c.args.quotients.now in
    let old = c.args.rows.now in
    let now = c.loop-place.rows in
    let i = c.loop-place.place in
    let x = c.index-rows-place.result in
    let l = c.loop-place-test.true in
    let k : i < length now = subst (λ n. i < n) (sym c.loop-place.auto.rows) l in
    let item : get_or now i x ≡ get_or old i x = left_item old now i c.loop-place.invariant.back x l k in
    let F : List Term → Calculation = λ row. row_work J (v c.args.inverse) Q row in
    let new = c.change_row.new.row in
    let done = c.in_ok-change_row.ensures.changed in
    let e : first_wide m (F (terms_of v (get_or now i x).items)) ≡ None = done.0 in
    let changed : IsRowChanged c.args.leaving J (v c.args.inverse) Q (terms_of v (get_or now i x).items) (terms_of v new.items) = done.1 in
    let is : terms_of v (get_or now i x).items ≡ slice_index_or (rows_of v old) i [] = ap (λ r. terms_of v r.items) item ∙ sym (rows_at v old i x l) in
    record {
      width = sym (first-next m (λ r. terms_of v r.items) F old i x l (ap (λ r. first_wide m (F (terms_of v r.items))) (sym item) ∙ e)) ∙ c.loop-place.invariant.width;
      front = λ n h.
          elim (cases_eq n i) [
            | inl d ↦
                subst (λ z. IsRowChanged c.args.leaving J (v c.args.inverse) Q (slice_index_or (rows_of v old) z []) (slice_index_or (rows_of v (set now i new)) z [])) (sym d)
                (subst (λ z. IsRowChanged c.args.leaving J (v c.args.inverse) Q (slice_index_or (rows_of v old) i []) z)
                (sym (ap (λ z. slice_index_or z i []) (rows_set v now i new) ∙ get_or-set_same (rows_of v now) i (terms_of v new.items) [] (subst (λ z. i < z) (sym (rows-length v now)) k)))
                (subst (λ z. IsRowChanged c.args.leaving J (v c.args.inverse) Q z (terms_of v new.items)) is changed))
            | inr d ↦
                subst (λ z. IsRowChanged c.args.leaving J (v c.args.inverse) Q (slice_index_or (rows_of v old) n []) z)
                (sym (ap (λ z. slice_index_or z n []) (rows_set v now i new) ∙ get_or-set_other (rows_of v now) i n (terms_of v new.items) [] d))
                (c.loop-place.invariant.front n (omega (arith, h, d)))
          ];
      back = drop-set-lt (i + 1) now i new (omega arith) ∙ left_rest old now i c.loop-place.invariant.back x l k;
      capacity = (let a = c.loop-place.invariant.capacity in let b = c.change_row.ensures.spare in omega (arith, a, b));
    }

pub returns : goal.returns
returns g c =
    let v = g.N.Exact.value in
    let m = g.N.Exact.most in
    let F : List Term → Calculation = λ row. row_work c.args.entering (v c.args.inverse) (terms_of v c.args.quotients.now) row in
    let t = c.loop-place-test.false in (
      sym c.loop-place.invariant.width ∙ first-end m (λ r. terms_of v r.items) F c.args.rows.now c.loop-place.place t,
      λ r l. c.loop-place.invariant.front r (omega (arith, l, t)),
    )
