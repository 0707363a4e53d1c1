-- Sums over members, numbered from 0, and the rows that are made of them.
use Rattle.std.proofs.Common.{◌≡◌, ◌≢◌, ◌+◌, ◌-◌, ◌<◌, ◌≤◌, refl, sym, ◌∙◌, ap, subst, ℕ, zero, suc, true, false, cond, ltb, ◌==◌, List, [], ◌∷◌, ◌++◌, append_assoc, length, length-append, get_or, arith, add-zero, inl, inr, ne_eqb, eq-eqb, lt-ltb, ltb-true, None, Some}
use Rattle.std.proofs.lemmas.Bool.{cond_both, cond-true, cond-false, cases_lt, cases_Bool}
use Rattle.std.proofs.lemmas.List.{length-map}
use Rattle.algebra.proofs.Ring.{x0, x1, ◌:+◌, ◌:*◌, zero_of, unit_of}
use Rattle.rational.specs.Rational.{ℚ, ◌+ℚ◌, ◌*ℚ◌, neg_ℚ, zero_ℚ, one_ℚ, eq_ℚ}
use Rattle.rational.specs.Linear.{Assignment, form_value}
use Rattle.rational.proofs.Field.{ring_ℚ}
use Rattle.rational.proofs.Compare.{eq-Decides}
use Rattle.lp_model.specs.declared.members.Member.{Member}
use Rattle.lp_model.specs.Program.{Program}
use Rattle.certs.specs.System.{SystemRow, KeepsRows, empty_system_row, equal_to, bounding, member_factor, member_number, member_cost, terms_from, column_rows, alternative_system}

-- the sum of f times u over the members
unfoldable pub sum_with : (Member → ℚ) → List Member → (ℕ → ℚ) → ℚ
sum_with f [] u = zero_ℚ
sum_with f (m ∷ members) u = (f m *ℚ u 0) +ℚ sum_with f members (λ e. u (suc e))

pub sum_with-ext : (f : Member → ℚ) (members : List Member) (u v : ℕ → ℚ) → ((e : ℕ) → e < length members → u e ≡ v e) → sum_with f members u ≡ sum_with f members v
unfolding sum_with
sum_with-ext f [] u v h = refl
sum_with-ext f (m ∷ members) u v h =
    ap (λ z. (f m *ℚ z) +ℚ sum_with f members (λ e. u (suc e))) (h 0 (omega arith))
    ∙ ap (λ z. (f m *ℚ v 0) +ℚ z) (sum_with-ext f members (λ e. u (suc e)) (λ e. v (suc e)) (λ e l. h (suc e) (let g : suc e < suc (length members) = omega arith in g)))

pub sum_with-zero : (f : Member → ℚ) (members : List Member) → sum_with f members (λ e. zero_ℚ) ≡ zero_ℚ
unfolding sum_with
sum_with-zero f [] = refl
sum_with-zero f (m ∷ members) = ap (λ z. (f m *ℚ zero_ℚ) +ℚ z) (sum_with-zero f members) ∙ ring_ℚ (f m ∷ []) (x0 :* zero_of :+ zero_of) zero_of tt

shifted : (x : Assignment) (k : ℕ) → ◌≡◌ {A = ℕ → ℚ} (λ e. x (suc k + e)) (λ e. x (k + suc e))
shifted x k = λ i. λ e. x (moved e i)
  where
    moved : (e : ℕ) → suc k + e ≡ k + suc e
    moved e = omega arith

terms_value : (k : ℕ) (f : Member → ℚ) (members : List Member) (x : Assignment) → form_value (terms_from k f members) x ≡ sum_with f members (λ e. x (k + e))
unfolding sum_with
terms_value k f [] x = refl
terms_value k f (m ∷ members) x =
    let rest : form_value (terms_from (suc k) f members) x ≡ sum_with f members (λ e. x (k + suc e)) = terms_value (suc k) f members x ∙ ap (sum_with f members) (shifted x k) in
    let here : x k ≡ x (k + 0) = ap x (sym (add-zero k)) in
    cond_both (eq_ℚ (f m) zero_ℚ) (terms_from (suc k) f members) (record { column = k; factor = f m } ∷ terms_from (suc k) f members)
    (λ terms. form_value terms x ≡ (f m *ℚ x (k + 0)) +ℚ sum_with f members (λ e. x (k + suc e)))
    (λ e. rest ∙ ring_ℚ (x (k + 0) ∷ sum_with f members (λ e. x (k + suc e)) ∷ []) x1 (zero_of :* x0 :+ x1) tt ∙ ap (λ z. (z *ℚ x (k + 0)) +ℚ sum_with f members (λ e. x (k + suc e))) (sym ((eq-Decides (f m) zero_ℚ).0 e)))
    (λ e. ap (λ z. (f m *ℚ z) +ℚ form_value (terms_from (suc k) f members) x) here ∙ ap (λ z. (f m *ℚ x (k + 0)) +ℚ z) rest)

-- terms that are numbered from 0
pub terms_from_zero : (f : Member → ℚ) (members : List Member) (x : Assignment) → form_value (terms_from 0 f members) x ≡ sum_with f members x
terms_from_zero f members x = terms_value 0 f members x ∙ sum_with-ext f members (λ e. x (0 + e)) x (λ e l. ap x (zero_plus e))
  where
    zero_plus : (e : ℕ) → 0 + e ≡ e
    zero_plus e = omega arith

-- ---- unit assignments
unfoldable pub unit : ℕ → ℕ → ℚ
unit zero zero = one_ℚ
unit zero (suc e) = zero_ℚ
unit (suc k) zero = zero_ℚ
unit (suc k) (suc e) = unit k e

pub unit-same : (k : ℕ) → unit k k ≡ one_ℚ
unfolding unit
unit-same zero = refl
unit-same (suc k) = unit-same k

pub unit-other : (k e : ℕ) → k ≢ e → unit k e ≡ zero_ℚ
unfolding unit
unit-other zero zero h = absurd (h refl)
unit-other zero (suc e) h = refl
unit-other (suc k) zero h = refl
unit-other (suc k) (suc e) h = unit-other k e (λ p. h (ap suc p))

pub sum_with-unit : (f : Member → ℚ) (members : List Member) (k : ℕ) (d : Member) → k < length members → sum_with f members (unit k) ≡ f (get_or members k d)
unfolding sum_with unit
sum_with-unit f [] k d l = absurd (omega arith)
sum_with-unit f (m ∷ members) zero d l = ap (λ z. (f m *ℚ one_ℚ) +ℚ z) (sum_with-zero f members) ∙ ring_ℚ (f m ∷ []) (x0 :* unit_of :+ zero_of) x0 tt
sum_with-unit f (m ∷ members) (suc k) d l =
    ap (λ z. (f m *ℚ zero_ℚ) +ℚ z) (sum_with-unit f members k d (let g : k < length members = omega arith in g)) ∙ ring_ℚ (f m ∷ f (get_or members k d) ∷ []) (x0 :* zero_of :+ x1) x1 tt

-- ---- the rows: one for each column, and that of the numbers
abbrev pub row_for : Program → List Member → ℕ → SystemRow
row_for model members j = record { terms = terms_from 0 (member_factor model j) members; limits = equal_to zero_ℚ }

abbrev pub number_row : Program → List Member → SystemRow
number_row model members = record { terms = terms_from 0 (member_number model) members; limits = equal_to (neg_ℚ one_ℚ) }

length_rows : (model : Program) (members : List Member) (c : ℕ) → length (column_rows model members c) ≡ c
length_rows model members zero = refl
length_rows model members (suc c) =
    let e : length (column_rows model members c) ≡ c = length_rows model members c in
    length-append (column_rows model members c) (record { terms = terms_from 0 (member_factor model c) members; limits = equal_to zero_ℚ } ∷ []) ∙ (let g : length (column_rows model members c) + 1 ≡ suc c = omega arith in g)

at_end : {A : Type 0} (xs : List A) (a : A) (ys : List A) (n : ℕ) (d : A) → length xs ≡ n → get_or (xs ++ a ∷ ys) n d ≡ a
at_end [] a ys zero d e = refl
at_end [] a ys (suc n) d e = absurd (omega arith)
at_end (x ∷ xs) a ys zero d e = absurd (omega arith)
at_end (x ∷ xs) a ys (suc n) d e = at_end xs a ys n d (let g : length xs ≡ n = omega arith in g)

row_found : (model : Program) (members : List Member) (c : ℕ) (rest : List SystemRow) (j : ℕ) (d : SystemRow) → j < c → get_or (column_rows model members c ++ rest) j d ≡ row_for model members j
row_found model members zero rest j d l = absurd (omega arith)
row_found model members (suc c) rest j d l =
    subst (λ rows. get_or rows j d ≡ row_for model members j) (sym (append_assoc (column_rows model members c) (row_for model members c ∷ []) rest))
    (elim (cases_lt j c) [
      | inl h ↦ row_found model members c (row_for model members c ∷ rest) j d h
      | inr h ↦
          (let e : c ≡ j = omega arith in
          subst (λ i. get_or (column_rows model members c ++ row_for model members c ∷ rest) i d ≡ row_for model members i) e
          (at_end (column_rows model members c) (row_for model members c) rest c d (length_rows model members c)))
    ])

pub row_is : (model : Program) (set : List Member) (j : ℕ) → j < length model.columns → get_or (alternative_system model set).rows j empty_system_row ≡ row_for model (bounding model set) j
row_is model set j l = row_found model (bounding model set) (length model.columns) (number_row model (bounding model set) ∷ []) j empty_system_row l

pub number_row_is : (model : Program) (set : List Member) → get_or (alternative_system model set).rows (length model.columns) empty_system_row ≡ number_row model (bounding model set)
number_row_is model set =
    let members : List Member = bounding model set in
    at_end (column_rows model members (length model.columns)) (number_row model members) [] (length model.columns) empty_system_row (length_rows model members (length model.columns))

-- ---- an assignment of the members, with the rows' values behind it
module _ (model : Program) (members : List Member) (c : ℕ) (u : ℕ → ℚ) where
  unfoldable pub extended : Assignment
  extended v =
      cond (ltb v (length members)) (u v)
      (cond (ltb v (length members + c)) (sum_with (member_factor model (v - length members)) members u)
      (cond (v == length members + c) (sum_with (member_number model) members u) (sum_with (λ m. neg_ℚ (member_cost model m)) members u)))

  pub not_below : (a b : ℕ) → b ≤ a → ltb a b ≡ false
  not_below a b l = elim (cases_Bool (ltb a b)) [ inl h ↦ absurd (below h) | inr h ↦ h ]
    where
      below : ltb a b ≡ true → ⊥
      below h = let k : a < b = ltb-true a b h in omega arith

  pub extended_member : (v : ℕ) → v < length members → extended v ≡ u v
  unfolding extended
  extended_member v l = cond-true (ltb v (length members)) (u v) _ (lt-ltb v (length members) l)

  pub extended_row : (j : ℕ) → j < c → extended (length members + j) ≡ sum_with (member_factor model j) members u
  unfolding extended
  extended_row j l =
      let e : (length members + j) - length members ≡ j = omega arith in
      cond-false (ltb (length members + j) (length members)) (u (length members + j)) _ (not_below (length members + j) (length members) (omega arith))
      ∙ cond-true (ltb (length members + j) (length members + c)) _ _ (lt-ltb (length members + j) (length members + c) (omega arith))
      ∙ ap (λ i. sum_with (member_factor model i) members u) e

  pub extended_last : extended (length members + c) ≡ sum_with (member_number model) members u
  unfolding extended
  extended_last =
      cond-false (ltb (length members + c) (length members)) (u (length members + c)) _ (not_below (length members + c) (length members) (omega arith))
      ∙ cond-false (ltb (length members + c) (length members + c)) _ _ (not_below (length members + c) (length members + c) (omega arith))
      ∙ cond-true (length members + c == length members + c) _ _ (eq-eqb (length members + c) (length members + c) refl)

  pub extended_objective : extended (length members + suc c) ≡ sum_with (λ m. neg_ℚ (member_cost model m)) members u
  unfolding extended
  extended_objective =
      cond-false (ltb (length members + suc c) (length members)) (u (length members + suc c)) _ (not_below (length members + suc c) (length members) (omega arith))
      ∙ cond-false (ltb (length members + suc c) (length members + c)) _ _ (not_below (length members + suc c) (length members + c) (omega arith))
      ∙ cond-false (length members + suc c == length members + c) _ _ (ne_eqb (length members + suc c) (length members + c) (λ e. omega arith))

  pub extended_value : (f : Member → ℚ) → form_value (terms_from 0 f members) extended ≡ sum_with f members u
  extended_value f = terms_from_zero f members extended ∙ sum_with-ext f members extended u (λ e l. extended_member e l)

pub system_columns : (model : Program) (set : List Member) → length (alternative_system model set).columns ≡ length (bounding model set)
system_columns model set = length-map (bounding model set) (λ m. record { lower = Some zero_ℚ; upper = None })

pub system_rows : (model : Program) (set : List Member) → length (alternative_system model set).rows ≡ suc (length model.columns)
system_rows model set =
    let rows : List SystemRow = column_rows model (bounding model set) (length model.columns) in
    let e : length rows ≡ length model.columns = length_rows model (bounding model set) (length model.columns) in
    length-append rows (number_row model (bounding model set) ∷ []) ∙ (let g : length rows + 1 ≡ suc (length model.columns) = omega arith in g)

pub extended_keeps : (model : Program) (set : List Member) (u : ℕ → ℚ) → KeepsRows (alternative_system model set) (extended model (bounding model set) (length model.columns) u)
extended_keeps model set u = record {
  rows = λ i l.
      subst (λ n. x (n + i) ≡ form_value (get_or rows i empty_system_row).terms x) (sym (system_columns model set))
      (elim (cases_lt i c) [
        | inl h ↦
            extended_row model members c u i h ∙ sym (extended_value model members c u (member_factor model i))
            ∙ ap (λ r. form_value r.terms x) (sym (row_is model set i h))
        | inr h ↦
            (let e : c ≡ i = at_last i l h in
            subst (λ i. x (length members + i) ≡ form_value (get_or rows i empty_system_row).terms x) e
            (extended_last model members c u ∙ sym (extended_value model members c u (member_number model))
            ∙ ap (λ r. form_value r.terms x) (sym (number_row_is model set))))
      ]);
  objective =
      subst (λ n. x (n + length rows) ≡ form_value (terms_from 0 (λ m. neg_ℚ (member_cost model m)) members) x) (sym (system_columns model set))
      (subst (λ r. x (length members + r) ≡ form_value (terms_from 0 (λ m. neg_ℚ (member_cost model m)) members) x) (sym (system_rows model set))
      (extended_objective model members c u ∙ sym (extended_value model members c u (λ m. neg_ℚ (member_cost model m)))));
}
  where
    members : List Member
    members = bounding model set

    c : ℕ
    c = length model.columns

    x : Assignment
    x = extended model (bounding model set) (length model.columns) u

    rows : List SystemRow
    rows = (alternative_system model set).rows

    at_last : (i : ℕ) → i < length (alternative_system model set).rows → length model.columns ≤ i → length model.columns ≡ i
    at_last i l h = let e : length (alternative_system model set).rows ≡ suc (length model.columns) = system_rows model set in omega arith
