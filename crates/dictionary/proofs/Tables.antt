-- The rows that a pivot exchanges.
use Rattle.std.proofs.Common.{◌≡◌, ◌≢◌, ◌<◌, refl, sym, ◌∙◌, ap, subst, ℕ, true, false, true≢false, not, cond, ◌==◌, List, [], ◌∷◌, length, get_or, set, map, inl, inr, eq-eqb, ne_eqb}
use Rattle.std.specs.Prelude.{slice_index_or, Vec, Bool, Result, Ok, Err, OnOk, is_err}
use Rattle.std.proofs.lemmas.Bool.{cases_eq}
use Rattle.std.proofs.lemmas.List.{get_or-set_same, get_or-set_other, length-set, length-map, map-set, get_or-map}
use Rattle.rational.specs.Rational.{ℚ, ◌/ℚ◌, neg_ℚ, inv_ℚ, zero_ℚ, one_ℚ, eq_ℚ}
use Rattle.rational.specs.Linear.{Term, factor_of}
use Rattle.rational.proofs.Field.{ring_ℚ, x0, ◌:-◌, ◌:*◌, zero_of}
use Rattle.rational.proofs.Compare.{eq-Decides}
use Rattle.rational.proofs.Sums.{nothing_times}
use Rattle.certs.specs.System.{Place, is_basic}
use Rattle.dictionary.specs.declared.entries.Entry.{Entry}
use Rattle.dictionary.specs.Rows.{terms_of, rows_of, without, quotients_of, IsRow, IsRowChanged, IsRowSolved, AreRowsExchanged, AreSparse}
use Rattle.dictionary.proofs.Lists.{rises, rises-kept, row_of_rises, factor_without, of_counted}
use Rattle.dictionary.proofs.Changes.{quotient-nonzero}
use Rattle.dictionary.proofs.Pivots.{rises-changed, divided, row_empty}

-- ---- rows and their vectors
module _ {N A : Type 0} (v : N → ℚ) where
  pub rows_set : (rows : List (Vec (Entry N) A)) (i : ℕ) (x : Vec (Entry N) A) → rows_of v (set rows i x) ≡ set (rows_of v rows) i (terms_of v x.items)
  rows_set rows i x = map-set (λ r. terms_of v r.items) rows i x

  pub rows_at : (rows : List (Vec (Entry N) A)) (i : ℕ) (x : Vec (Entry N) A) → i < length rows → slice_index_or (rows_of v rows) i [] ≡ terms_of v (get_or rows i x).items
  rows_at rows i x l = get_or-map (λ r. terms_of v r.items) rows i x [] l

  pub rows-length : (rows : List (Vec (Entry N) A)) → length (rows_of v rows) ≡ length rows
  rows-length rows = length-map rows (λ r. terms_of v r.items)

pub empty_row : IsRow []
empty_row = row_of_rises 0 [] tt

-- ---- the quotients of a row
module _ (J : ℕ) (row : List Term) (is : IsRow row) (nonzero : factor_of row J ≢ zero_ℚ) where
  pub quotients_row : IsRow (quotients_of J row)
  quotients_row =
      row_of_rises 0 (quotients_of J row)
      (rises-changed (λ x. x /ℚ factor_of row J) (quotient-nonzero (factor_of row J) nonzero) 0 (without J row) (rises-kept (λ t. not (t.column == J)) 0 row (rises row is)))

  nothing_divided : (k : ℕ) → factor_of (without J row) k ≡ zero_ℚ → factor_of (quotients_of J row) k ≡ zero_ℚ
  nothing_divided k e = divided (factor_of row J) (without J row) k ∙ ap (λ z. z /ℚ factor_of row J) e ∙ nothing_times (inv_ℚ (factor_of row J))

  pub no_entering : factor_of (quotients_of J row) J ≡ zero_ℚ
  no_entering = nothing_divided J (factor_without J row J ∙ ap (λ b. cond b zero_ℚ (factor_of row J)) (eq-eqb J J refl))

  pub no_leaving : (I : ℕ) → I ≢ J → factor_of row I ≡ zero_ℚ → factor_of (quotients_of J row) I ≡ zero_ℚ
  no_leaving I d e = nothing_divided I (factor_without J row I ∙ ap (λ b. cond b zero_ℚ (factor_of row I)) (ne_eqb I J d) ∙ e)

-- an empty row stays empty
pub still_empty : (I J : ℕ) (inverse : ℚ) (Q new : List Term) → IsRowChanged I J inverse Q [] new → new ≡ []
still_empty I J inverse Q new row =
    row_empty 0 new (rises new row.is_row)
    (λ k. elim (cases_eq k I) [
      | inl e ↦ (ap (factor_of new) e ∙ row.own ∙ nothing_times inverse)
      | inr e ↦
          elim (cases_eq k J) [
            | inl d ↦ (ap (factor_of new) d ∙ row.gone)
            | inr d ↦ (row.others k e d ∙ ring_ℚ (factor_of Q k ∷ []) (zero_of :- zero_of :* x0) zero_of tt)
          ]
    ])

module _ (I J : ℕ) (apart : I ≢ J) (R R2 : List (List Term)) (li : I < length R) (lj : J < length R) (inverse : ℚ) (Q z : List Term) where
  abbrev row : List Term
  row = slice_index_or R I []

  pub exchanged_rows : length R2 ≡ length R → inverse ≡ one_ℚ /ℚ factor_of row J → Q ≡ quotients_of J row
      → ((r : ℕ) → r < length R → IsRowChanged I J inverse Q (slice_index_or (set R I []) r []) (slice_index_or R2 r []))
      → IsRow z → factor_of z I ≡ inverse → ((k : ℕ) → k ≢ I → factor_of z k ≡ neg_ℚ (factor_of Q k)) → AreRowsExchanged I J R (set R2 J z)
  exchanged_rows long ei eq changed is own others = record {
    long = length-set R2 J z ∙ long;
    left = get_or-set_other R2 J I z [] apart ∙ still_empty I J inverse Q (slice_index_or R2 I []) (subst (λ o. IsRowChanged I J inverse Q o (slice_index_or R2 I [])) (get_or-set_same R I [] [] li) (changed I li));
    solved = subst (IsRowSolved I J row) (sym (get_or-set_same R2 J z [] (subst (λ n. J < n) (sym long) lj)))
        (record { is_row = is; own = own ∙ ei; others = λ k d. others k d ∙ ap (λ q. neg_ℚ (factor_of q k)) eq });
    others = λ r l d e.
        subst (IsRowChanged I J (one_ℚ /ℚ factor_of row J) (quotients_of J row) (slice_index_or R r [])) (sym (get_or-set_other R2 J r z [] e))
        (subst (λ o. IsRowChanged I J (one_ℚ /ℚ factor_of row J) (quotients_of J row) o (slice_index_or R2 r [])) (get_or-set_other R I r [] [] d)
        (subst (λ q. IsRowChanged I J (one_ℚ /ℚ factor_of row J) q (slice_index_or (set R I []) r []) (slice_index_or R2 r [])) eq
        (subst (λ x. IsRowChanged I J x Q (slice_index_or (set R I []) r []) (slice_index_or R2 r [])) ei (changed r l))));
  }

-- ---- the rows of a basis
module _ (basis : List Place) (R : List (List Term)) (is : AreSparse basis R) where
  pub sparse_row : (k : ℕ) → IsRow (slice_index_or R k [])
  sparse_row k = by (is_basic basis k) refl
    where
      by : (b : Bool) → is_basic basis k ≡ b → IsRow (slice_index_or R k [])
      by true e = (is.sparse k e).is_row
      by false e = subst IsRow (sym (is.empty k e)) empty_row

  -- a basic variable counts in none
  pub basic_absent : (i : ℕ) → is_basic basis i ≡ true → (k : ℕ) → factor_of (slice_index_or R k []) i ≡ zero_ℚ
  basic_absent i bi k = by (is_basic basis k) refl
    where
      test : (b : Bool) → eq_ℚ (factor_of (slice_index_or R k []) i) zero_ℚ ≡ b → is_basic basis k ≡ true → factor_of (slice_index_or R k []) i ≡ zero_ℚ
      test true e bk = (eq-Decides (factor_of (slice_index_or R k []) i) zero_ℚ).0 e
      test false e bk =
          absurd
          (true≢false
          (sym bi
          ∙ (of_counted (λ c. (c < length basis) × (is_basic basis c ≡ false)) (slice_index_or R k []) i (is.sparse k bk).nonbasic (λ z. true≢false (sym ((eq-Decides (factor_of (slice_index_or R k []) i) zero_ℚ).1 z) ∙ e))).1))

      by : (b : Bool) → is_basic basis k ≡ b → factor_of (slice_index_or R k []) i ≡ zero_ℚ
      by true bk = test (eq_ℚ (factor_of (slice_index_or R k []) i) zero_ℚ) refl bk
      by false bk = ap (λ r. factor_of r i) (is.empty k bk)

-- rows of the same entries
pub rows_same : {N A : Type 0} (v : N → ℚ) (xs ys : List (Vec (Entry N) A)) → map (λ r. r.items) xs ≡ map (λ r. r.items) ys → rows_of v xs ≡ rows_of v ys
rows_same v xs ys e = sym (twice v xs) ∙ ap (map (terms_of v)) e ∙ twice v ys
  where
    twice : {N A : Type 0} (v : N → ℚ) (xs : List (Vec (Entry N) A)) → map (terms_of v) (map (λ r. r.items) xs) ≡ rows_of v xs
    twice v [] = refl
    twice v (x ∷ xs) = ap (λ z. terms_of v x.items ∷ z) (twice v xs)

-- what holds where a call succeeds holds where it does not fail
pub on_ok : {A E : Type 0} (r : Result A E) (P : Type 0) → is_err r ≡ false → OnOk r P → P
on_ok (Ok x) P e h = h
on_ok (Err x) P e h = absurd (true≢false e)
