-- The terms of rows, gathered from entries by places.
use Rattle.std.specs.Prelude.{ℕ, ◌&&◌, nat_eq, not, cond, Bool, List, [], ◌∷◌, ◌++◌, map, unwrap_or, Some, None}
use Rattle.std.proofs.Common.{zero, suc}
use Rattle.std.specs.Global.{Vec}
use Rattle.std.specs.List.{filter_map}
use Rattle.std.specs.Map.{lookup}
use Rattle.rational.specs.Rational.{ℚ, zero_ℚ, eq_ℚ}
use Rattle.rational.specs.Linear.{Term}
use Rattle.mps_reader.specs.Meaning.{with_term}
use Rattle.mps_reader.specs.declared.terms.Cell.{Cell}

-- whether two pairs of places are one
abbrev pub is_same_pair : ℕ × ℕ → ℕ × ℕ → Bool
is_same_pair a b = nat_eq a.0 b.0 && nat_eq a.1 b.1

-- the factor that entries have at a row and a column, else 0
abbrev pub factor_kept : List ((ℕ × ℕ) × ℚ) → ℕ → ℕ → ℚ
factor_kept entries row column = unwrap_or (lookup (is_same_pair (row, column)) entries) zero_ℚ

-- the terms of the columns below n, where the factor is not 0
abbrev pub terms_to : (ℕ → ℚ) → ℕ → List Term
terms_to factor zero = []
terms_to factor (suc n) = terms_to factor n ++ with_term n (factor n) []

-- the rows and values of a column among entries
abbrev pub cells_in : ℕ → List ((ℕ × ℕ) × ℚ) → List (ℕ × ℚ)
cells_in column entries = filter_map (λ e. cond (nat_eq column e.0.1) (Some (e.0.0, e.1)) None) entries

-- the terms of a column that cells give a row
abbrev pub terms_at : ℕ → ℕ → List (ℕ × ℚ) → List Term
terms_at column row cells = filter_map (λ c. cond (nat_eq row c.0 && not (eq_ℚ c.1 zero_ℚ)) (Some (record { column = column; factor = c.1 })) None) cells

-- f 0, f 1 up to f (n - 1)
abbrev pub listed : {X : Type 0} → (ℕ → X) → ℕ → List X
listed f zero = []
listed f (suc n) = listed f n ++ f n ∷ []

-- those of them whose number passes a test
abbrev pub listed_where : {X : Type 0} → (ℕ → Bool) → (ℕ → X) → ℕ → List X
listed_where test f zero = []
listed_where test f (suc n) = listed_where test f n ++ cond (test n) (f n ∷ []) []

-- ---- the code's lists
-- a cell
abbrev pub cell_shown : Cell → ℕ × ℚ
cell_shown c = (c.row, c.value)

-- cells by columns
abbrev pub cells_shown : List (Vec Cell) → List (List (ℕ × ℚ))
cells_shown lists = map (λ v. map cell_shown v.items) lists

-- terms by rows
abbrev pub terms_shown : List (Vec Term) → List (List Term)
terms_shown lists = map (λ v. v.items) lists
