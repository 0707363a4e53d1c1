-- How many columns and rows a system of the alternative has, and the limits of their variables.
use Rattle.std.proofs.Common.{◌≡◌, ◌+◌, ◌-◌, ◌<◌, refl, sym, ◌∙◌, ap, subst, ℕ, zero, suc, List, [], ◌∷◌, ◌++◌, append_assoc, length, length-append, get_or, ltb, arith, inl, inr, lt-ltb}
use Rattle.std.proofs.lemmas.Bool.{cases_lt, cond-true, cond-false, le-ltb}
use Rattle.std.proofs.lemmas.List.{get_or-map, length-map}
use Rattle.rational.specs.Rational.{neg_ℚ, one_ℚ, zero_ℚ}
use Rattle.lp_model.specs.declared.members.Member.{Member}
use Rattle.lp_model.specs.declared.members.Member.TheVariants.{RowLo}
use Rattle.lp_model.specs.Program.{Program}
use Rattle.certs.specs.System.{LinearSystem, SystemRow, alternative_system, bounding, column_rows, empty_system_row, equal_to, no_limits, variable_limits}
use Rattle.relaxation.specs.Origins.{from_zero}
use Rattle.alt_polyhedron.specs.Forms.{equal_row}
use Rattle.alt_polyhedron.specs.declared.counting.Form.TheVariants.{Column, Numbers}

-- ---- rows
rows_count : (model : Program) (members : List Member) (c : ℕ) → length (column_rows model members c) ≡ c
rows_count model members zero = refl
rows_count model members (suc c) =
    let e : length (column_rows model members c) ≡ c = rows_count model members c in
    length-append (column_rows model members c) (equal_row model members (Column c) zero_ℚ ∷ []) ∙ (let g : length (column_rows model members c) + 1 ≡ suc c = omega arith in g)

behind : {A : Type 0} (xs : List A) (a : A) (ys : List A) (n : ℕ) (d : A) → length xs ≡ n → get_or (xs ++ a ∷ ys) n d ≡ a
behind [] a ys zero d e = refl
behind [] a ys (suc n) d e = absurd (omega arith)
behind (x ∷ xs) a ys zero d e = absurd (omega arith)
behind (x ∷ xs) a ys (suc n) d e = behind xs a ys n d (let g : length xs ≡ n = omega arith in g)

row_found : (model : Program) (members : List Member) (c : ℕ) (rest : List SystemRow) (j : ℕ) (d : SystemRow) → j < c → get_or (column_rows model members c ++ rest) j d ≡ equal_row model members (Column j) zero_ℚ
row_found model members zero rest j d l = absurd (omega arith)
row_found model members (suc c) rest j d l =
    let row : SystemRow = equal_row model members (Column c) zero_ℚ in
    subst (λ rows. get_or rows j d ≡ equal_row model members (Column j) zero_ℚ) (sym (append_assoc (column_rows model members c) (row ∷ []) rest))
    (elim (cases_lt j c) [
      | inl h ↦ row_found model members c (row ∷ rest) j d h
      | inr h ↦
          (let e : c ≡ j = omega arith in
          subst (λ i. get_or (column_rows model members c ++ row ∷ rest) i d ≡ equal_row model members (Column i) zero_ℚ) e
          (behind (column_rows model members c) row rest c d (rows_count model members c)))
    ])

pub system_columns : (model : Program) (set : List Member) → length (alternative_system model set).columns ≡ length (bounding model set)
system_columns model set = length-map (bounding model set) (λ m. from_zero)

pub system_rows : (model : Program) (set : List Member) → length (alternative_system model set).rows ≡ suc (length model.columns)
system_rows model set =
    let members : List Member = bounding model set in
    let c : ℕ = length model.columns in
    let e : length (column_rows model members c) ≡ c = rows_count model members c in
    length-append (column_rows model members c) (equal_row model members Numbers (neg_ℚ one_ℚ) ∷ []) ∙ (let g : length (column_rows model members c) + 1 ≡ suc c = omega arith in g)

-- ---- limits
-- the limits of a row's variable are the row's
pub row_limits : (system : LinearSystem) (i : ℕ) → variable_limits system (length system.columns + i) ≡ (get_or system.rows i empty_system_row).limits
row_limits system i =
    let n : ℕ = length system.columns in
    let back : (n + i) - n ≡ i = omega arith in
    cond-false (ltb (n + i) n) (get_or system.columns (n + i) no_limits) (get_or system.rows ((n + i) - n) empty_system_row).limits (le-ltb (n + i) n (omega arith))
    ∙ ap (λ d. (get_or system.rows d empty_system_row).limits) back

module _ (model : Program) (set : List Member) where
  abbrev system : LinearSystem
  system = alternative_system model set

  abbrev n : ℕ
  n = length (bounding model set)

  -- a member's variable is from 0 on
  pub member_limits : (k : ℕ) → k < length (bounding model set) → variable_limits (alternative_system model set) k ≡ from_zero
  member_limits k l =
      let below : k < length system.columns = subst (λ c. k < c) (sym (system_columns model set)) l in
      cond-true (ltb k (length system.columns)) (get_or system.columns k no_limits) (get_or system.rows (k - length system.columns) empty_system_row).limits (lt-ltb k (length system.columns) below)
      ∙ get_or-map (λ (m : Member). from_zero) (bounding model set) k (RowLo 0) no_limits l

  -- that of a column's row is 0
  pub column_limits : (j : ℕ) → j < length model.columns → variable_limits (alternative_system model set) (length (bounding model set) + j) ≡ equal_to zero_ℚ
  column_limits j l =
      ap (λ c. variable_limits system (c + j)) (sym (system_columns model set))
      ∙ row_limits system j
      ∙ ap (λ (r : SystemRow). r.limits) (row_found model (bounding model set) (length model.columns) (equal_row model (bounding model set) Numbers (neg_ℚ one_ℚ) ∷ []) j empty_system_row l)

  -- and that of the last row is -1
  pub last_limits : variable_limits (alternative_system model set) (length (bounding model set) + length model.columns) ≡ equal_to (neg_ℚ one_ℚ)
  last_limits =
      ap (λ c. variable_limits system (c + length model.columns)) (sym (system_columns model set))
      ∙ row_limits system (length model.columns)
      ∙ ap (λ (r : SystemRow). r.limits) (behind (column_rows model (bounding model set) (length model.columns)) (equal_row model (bounding model set) Numbers (neg_ℚ one_ℚ)) [] (length model.columns) empty_system_row (rows_count model (bounding model set) (length model.columns)))
