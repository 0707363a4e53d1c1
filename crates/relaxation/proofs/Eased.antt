-- Rows and columns of elastic systems, by members.
use Rattle.std.proofs.Common.{◌≡◌, ◌+◌, ◌-◌, ◌<◌, refl, sym, ◌∙◌, ap, subst, ℕ, zero, suc, inl, inr, Bool, true, false, cond, not, List, [], ◌∷◌, ◌++◌, filter, map, length, get_or, None, Some, arith}
use Rattle.std.specs.Prelude.{All, Contains, flat_map}
use Rattle.std.proofs.lemmas.Bool.{cases_lt, cond_both, or_left, or_right}
use Rattle.std.proofs.lemmas.List.{get_or-map, length-append, length-map}
use Rattle.std.proofs.lemmas.List.Elements.{All-append, All-cons, All-contains, All-filter, All-head, All-nil}
use Rattle.algebra.proofs.Ring.{x0, x1, x2, ◌:+◌, ◌:*◌, minus, zero_of}
use Rattle.rational.specs.Rational.{ℚ, ◌+ℚ◌, ◌*ℚ◌, neg_ℚ, zero_ℚ, ◌≤ℚ◌}
use Rattle.rational.specs.Sum.{sum_over}
use Rattle.rational.specs.Linear.{Assignment, form_value}
use Rattle.rational.proofs.Field.{ring_ℚ}
use Rattle.lp_model.specs.declared.members.Member.{Member}
use Rattle.lp_model.specs.declared.members.Member.TheVariants.{RowLo, RowUp, Lower, Upper, Whole}
use Rattle.lp_model.specs.Program.{Program}
use Rattle.lp_model.specs.Members.{is_same, number}
use Rattle.lp_model.specs.MemberSets.{IsMemberFor}
use Rattle.lp_model.proofs.Sets.{same_self}
use Rattle.certs.specs.Elastic.{cost_terms, elastic_row, elastic_rows, elastic_system, is_row_side, is_side_of, numbered_soft, rows_of, soft_members}
use Rattle.certs.specs.Ended.{IsWithin, numbers_from}
use Rattle.certs.specs.Plain.{column_limits, has_row, plain_row}
use Rattle.certs.specs.System.{Limits, LinearSystem, no_limits}
use Rattle.certs.proofs.Lists.{All-passed, all_back, all_front}
use Rattle.certs.proofs.Translated.{length_mapped, length_numbers, mapped_at, number_at}
use Rattle.relaxation.proofs.Lists.{all_flat, all_paired, each, flat_all, paired, paired_is}
use Rattle.relaxation.proofs.Solved.{Keeps}

module _ (model : Program) (set enforced : List Member) (cost : Member → ℚ) where
  abbrev system : LinearSystem
  system = elastic_system model set enforced cost

  abbrev soft : List Member
  soft = soft_members set enforced

  abbrev n : ℕ
  n = length model.columns

  abbrev pairs : List (ℕ × Member)
  pairs = paired (length model.columns) (soft_members set enforced)

  -- ---- columns
  abbrev plain_columns : List Limits
  plain_columns = map (column_limits model enforced []) (numbers_from 0 (length model.columns))

  abbrev free : Member → Limits
  free m = record { lower = Some zero_ℚ; upper = None }

  plain_count : length plain_columns ≡ length model.columns
  plain_count = length_mapped (column_limits model enforced []) n

  pub columns_are : length system.columns ≡ length model.columns + length (soft_members set enforced)
  columns_are = length-append plain_columns (map free soft) ∙ ap (λ a. a + length (map free soft)) plain_count ∙ ap (λ a. n + a) (length-map soft free)

  -- which part of two lists a number is in
  front_at : (xs ys : List Limits) (j : ℕ) → j < length xs → get_or (xs ++ ys) j no_limits ≡ get_or xs j no_limits
  front_at [] ys j l = absurd (omega arith)
  front_at (a ∷ xs) ys zero l = refl
  front_at (a ∷ xs) ys (suc j) l = front_at xs ys j (omega arith)

  back_at : (xs ys : List Limits) (j : ℕ) → get_or (xs ++ ys) (length xs + j) no_limits ≡ get_or ys j no_limits
  back_at [] ys j = ap (λ k. get_or ys k no_limits) (let e : 0 + j ≡ j = omega arith in e)
  back_at (a ∷ xs) ys j = ap (λ k. get_or (a ∷ (xs ++ ys)) k no_limits) (let e : suc (length xs) + j ≡ suc (length xs + j) = omega arith in e) ∙ back_at xs ys j

  pub plain_column : (j : ℕ) → j < length model.columns → get_or system.columns j no_limits ≡ column_limits model enforced [] j
  plain_column j l = front_at plain_columns (map free soft) j (subst (λ k. j < k) (sym plain_count) l) ∙ mapped_at (column_limits model enforced []) n j no_limits l

  pub elastic_column : (i : ℕ) → i < length (soft_members set enforced) → get_or system.columns (length model.columns + i) no_limits ≡ record { lower = Some zero_ℚ; upper = None }
  elastic_column i l =
      ap (λ k. get_or system.columns (k + i) no_limits) (sym plain_count)
      ∙ back_at plain_columns (map free soft) i
      ∙ get_or-map free soft i (Lower 0) no_limits l

  -- values within the limits of all columns
  abbrev pub AreWithin : Assignment → Type 0
  AreWithin x = (v : ℕ) → v < length system.columns → IsWithin (get_or system.columns v no_limits) (x v)

  pub to_columns : (x : Assignment) → ((j : ℕ) → j < length model.columns → IsWithin (column_limits model enforced [] j) (x j))
      → ((i : ℕ) → i < length (soft_members set enforced) → zero_ℚ ≤ℚ x (length model.columns + i)) → AreWithin x
  to_columns x plain elastic v l = elim (cases_lt v n) [
    | inl c ↦ subst (λ z. IsWithin z (x v)) (sym (plain_column v c)) (plain v c)
    | inr c ↦
        (let i : ℕ = v - n in
        let back : n + i ≡ v = omega arith in
        let m : v < n + length soft = subst (λ k. v < k) columns_are l in
        let below : i < length soft = omega (arith, m, c) in
        subst (λ z. IsWithin (get_or system.columns z no_limits) (x z)) back
        (subst (λ z. IsWithin z (x (n + i))) (sym (elastic_column i below)) (record { lower = elastic i below; upper = tt })))
  ]

  pub elastic_within : (x : Assignment) → AreWithin x → All (λ e. zero_ℚ ≤ℚ x e.0) pairs
  elastic_within x h = all_paired (λ e. zero_ℚ ≤ℚ x e.0) n soft
      (λ i d l. (let w : IsWithin (free d) (x (n + i)) = subst (λ z. IsWithin z (x (n + i))) (elastic_column i l) (h (n + i) (subst (λ k. n + i < k) (sym columns_are) (omega arith))) in w.lower))

  pub plain_within : (x : Assignment) → AreWithin x → (j : ℕ) → j < length model.columns → IsWithin (column_limits model enforced [] j) (x j)
  plain_within x h j l = subst (λ z. IsWithin z (x j)) (plain_column j l) (h j (subst (λ k. j < k) (sym columns_are) (omega arith)))

  -- ---- rows
  abbrev N : List (ℕ × Member)
  N = numbered_soft (length model.columns) set enforced

  numbered : N ≡ pairs
  numbered = paired_is n soft

  abbrev rows : ℕ
  rows = length model.rows

  module _ (x : Assignment) where
    abbrev Kept : ℕ × Member → Type 0
    Kept e = All (Keeps x) (elastic_row model e (number model e.1))

    pub to_rows : All (λ i. has_row enforced i ≡ true → Keeps x (plain_row model enforced i)) (numbers_from 0 (length model.rows))
        → All (λ e. All (Keeps x) (elastic_row model e (number model e.1))) pairs → All (Keeps x) system.rows
    to_rows plain elastic =
        let all : All Kept N = subst (All Kept) (sym numbered) elastic in
        let some : (test : ℕ × Member → Bool) → All (Keeps x) (elastic_rows model (filter test N)) =
        λ test. all_flat (Keeps x) (λ e. elastic_row model e (number model e.1)) (filter test N) (All-filter test Kept N all) in
        All-append (Keeps x) (flat_map (rows_of model enforced N) (numbers_from 0 rows)) (elastic_rows model (filter (λ e. not (is_row_side e.1)) N))
        (all_flat (Keeps x) (rows_of model enforced N) (numbers_from 0 rows)
        (λ k d l. All-append (Keeps x) (cond (has_row enforced (get_or (numbers_from 0 rows) k d)) (plain_row model enforced (get_or (numbers_from 0 rows) k d) ∷ []) [])
        (elastic_rows model (filter (λ e. is_side_of (get_or (numbers_from 0 rows) k d) e.1) N))
        (cond_both (has_row enforced (get_or (numbers_from 0 rows) k d)) _ [] (All (Keeps x))
        (λ e. All-cons (Keeps x) (plain_row model enforced (get_or (numbers_from 0 rows) k d)) [] (plain k d l e) (All-nil (Keeps x)))
        (λ e. All-nil (Keeps x)))
        (some (λ e. is_side_of (get_or (numbers_from 0 rows) k d) e.1))))
        (some (λ e. not (is_row_side e.1)))

    module _ (kept : All (Keeps x) system.rows) where
      by_row : All (λ i. All (Keeps x) (rows_of model enforced N i)) (numbers_from 0 rows)
      by_row = flat_all (Keeps x) (rows_of model enforced N) (numbers_from 0 rows) (all_front (Keeps x) (flat_map (rows_of model enforced N) (numbers_from 0 rows)) _ kept)

      there : (b : Bool) (i : ℕ) → b ≡ true → All (Keeps x) (cond b (plain_row model enforced i ∷ []) []) → Keeps x (plain_row model enforced i)
      there true i e h = All-head (Keeps x) (plain_row model enforced i) [] h
      there false i e h = absurd (let f : false ≡ true = e in cc)

      pub plain_rows : All (λ i. has_row enforced i ≡ true → Keeps x (plain_row model enforced i)) (numbers_from 0 (length model.rows))
      plain_rows k d l =
          let i : ℕ = get_or (numbers_from 0 rows) k d in
          λ e. there (has_row enforced i) i e (all_front (Keeps x) (cond (has_row enforced i) (plain_row model enforced i ∷ []) []) _ (by_row k d l))

      -- those that pass a test
      by_test : (test : ℕ × Member → Bool) → All (Keeps x) (elastic_rows model (filter test N)) → (e : ℕ × Member) → Contains N e → test e ≡ true → Kept e
      by_test test h e c t =
          All-contains (λ e. test e ≡ true → Kept e) N e (All-passed test Kept N (flat_all (Keeps x) (λ e. elastic_row model e (number model e.1)) (filter test N) h)) c t

      side_at : (i : ℕ) → i < rows → (e : ℕ × Member) → Contains N e → is_side_of i e.1 ≡ true → Kept e
      side_at i l e c t =
          let all : All (Keeps x) (rows_of model enforced N i) =
          All-contains (λ i. All (Keeps x) (rows_of model enforced N i)) (numbers_from 0 rows) i by_row
          (i, subst (λ k. i < k) (sym (length_numbers 0 rows)) l, number_at 0 rows i i l ∙ (let e : 0 + i ≡ i = omega arith in e)) in
          by_test (λ e. is_side_of i e.1) (all_back (Keeps x) (cond (has_row enforced i) (plain_row model enforced i ∷ []) []) _ all) e c t

      bound_at : (e : ℕ × Member) → Contains N e → not (is_row_side e.1) ≡ true → Kept e
      bound_at e c t = by_test (λ e. not (is_row_side e.1)) (all_back (Keeps x) (flat_map (rows_of model enforced N) (numbers_from 0 rows)) _ kept) e c t

      one : (k : ℕ) (m : Member) → IsMemberFor (length model.rows) (length model.columns) m → Contains N (k, m) → Kept (k, m)
      one k (RowLo i) l c = side_at i l (k, RowLo i) c (or_left (is_same (RowLo i) (RowLo i)) (is_same (RowLo i) (RowUp i)) (same_self (RowLo i)))
      one k (RowUp i) l c = side_at i l (k, RowUp i) c (or_right (is_same (RowUp i) (RowLo i)) (is_same (RowUp i) (RowUp i)) (same_self (RowUp i)))
      one k (Lower j) l c = bound_at (k, Lower j) c refl
      one k (Upper j) l c = bound_at (k, Upper j) c refl
      one k (Whole j) l c = bound_at (k, Whole j) c refl

      pub elastic_rows_kept : All (λ e. IsMemberFor (length model.rows) (length model.columns) e.1) pairs → All (λ e. All (Keeps x) (elastic_row model e (number model e.1))) pairs
      elastic_rows_kept known = subst (All Kept) numbered
          (each Kept N (λ e c. one e.0 e.1 (All-contains (λ e. IsMemberFor rows n e.1) N e (subst (All (λ e. IsMemberFor rows n e.1)) (sym numbered) known) c) c))

-- ---- the objective
pub cost_value : (cost : Member → ℚ) (x : Assignment) (k : ℕ) (list : List Member) → form_value (cost_terms cost k list) x ≡ neg_ℚ (sum_over (λ e. cost e.1 *ℚ x e.0) (paired k list))
cost_value cost x k [] = ring_ℚ [] zero_of (minus zero_of) tt
cost_value cost x k (m ∷ list) =
    ap (λ z. neg_ℚ (cost m) *ℚ x k +ℚ z) (cost_value cost x (suc k) list)
    ∙ ring_ℚ (cost m ∷ x k ∷ sum_over (λ e. cost e.1 *ℚ x e.0) (paired (suc k) list) ∷ []) (minus x0 :* x1 :+ minus x2) (minus (x0 :* x1 :+ x2)) tt
