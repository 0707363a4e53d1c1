-- Rows of a dictionary: what counts in a basic variable.
use Rattle.std.specs.Prelude.{◌≡◌, ◌≢◌, ℕ, ◌<◌, ◌==◌, true, false, not, cond, List, [], ◌++◌, map, length, filter, flat_map, slice_index_or, slice_set, All, AllPairs, Vec}
use Rattle.std.specs.Option.{option_map}
use Rattle.rational.specs.Rational.{ℚ, ◌-ℚ◌, ◌*ℚ◌, ◌/ℚ◌, neg_ℚ, zero_ℚ, one_ℚ, eq_ℚ}
use Rattle.rational.specs.Linear.{Term, factor_of}
use Rattle.frac128.specs.declared.Op.TheVariants.{Minus, Over, Times}
use Rattle.frac128.specs.Calculation.{Calculation}
use Rattle.certs.specs.System.{Limits, Place, is_basic}
use Rattle.certs.specs.Turns.{counted}
use Rattle.dictionary.specs.declared.entries.Entry.{Entry}
use Rattle.dictionary.specs.declared.places.Bounds.{Bounds}

-- the terms for which entries stand
abbrev pub terms_of : {N : Type 0} → (N → ℚ) → List (Entry N) → List Term
terms_of value entries = map (λ e. record { column = e.variable; factor = value e.factor }) entries

-- and those of rows
abbrev pub rows_of : {N A : Type 0} → (N → ℚ) → List (Vec (Entry N) A) → List (List Term)
rows_of value rows = map (λ r. terms_of value r.items) rows

-- the limits for which those of variables stand
abbrev pub bounds_of : {N : Type 0} → (N → ℚ) → List (Bounds N) → List Limits
bounds_of value bounds = map (λ b. record { lower = option_map value b.lower; upper = option_map value b.upper }) bounds

-- the variables ascend, and no factor is 0
pub record IsRow (row : List Term) : Type 0 where
  pub ascending : AllPairs (λ s t. s.column < t.column) row
  pub nonzero : All (λ t. t.factor ≢ zero_ℚ) row

-- and each variable is outside the basis
pub record IsSparse (basis : List Place) (row : List Term) : Type 0 where
  pub is_row : IsRow row
  pub nonbasic : All (λ t. (t.column < length basis) × (is_basic basis t.column ≡ false)) row

-- Each variable has a row: a basic one that of the variables that count in it, and a nonbasic one none.
pub record AreSparse (basis : List Place) (rows : List (List Term)) : Type 0 where
  pub long : length rows ≡ length basis
  pub sparse : (i : ℕ) → is_basic basis i ≡ true → IsSparse basis (slice_index_or rows i [])
  pub empty : (k : ℕ) → is_basic basis k ≡ false → slice_index_or rows k [] ≡ []

-- a row without a variable
abbrev pub without : ℕ → List Term → List Term
without v row = filter (λ t. not (t.column == v)) row

-- the quotients of a row by its factor of a variable, without that variable
abbrev pub quotients_of : ℕ → List Term → List Term
quotients_of v row = map (λ t. record { column = t.column; factor = t.factor /ℚ factor_of row v }) (without v row)

-- ---- what a pivot makes of the rows
-- of a row other than the leaving one: the leaving variable comes in, the entering one goes, and each other factor loses its quotient times that of the entering one
pub record IsRowChanged (leaving entering : ℕ) (inverse : ℚ) (quotients old new : List Term) : Type 0 where
  pub is_row : IsRow new
  pub own : factor_of new leaving ≡ factor_of old entering *ℚ inverse
  pub gone : factor_of new entering ≡ zero_ℚ
  pub others : (k : ℕ) → k ≢ leaving → k ≢ entering → factor_of new k ≡ factor_of old k -ℚ factor_of old entering *ℚ factor_of quotients k

-- of the leaving row: it is solved for the entering variable
pub record IsRowSolved (leaving entering : ℕ) (old new : List Term) : Type 0 where
  pub is_row : IsRow new
  pub own : factor_of new leaving ≡ one_ℚ /ℚ factor_of old entering
  pub others : (k : ℕ) → k ≢ leaving → factor_of new k ≡ neg_ℚ (factor_of (quotients_of entering old) k)

-- of all
pub record AreRowsExchanged (leaving entering : ℕ) (old new : List (List Term)) : Type 0 where
  pub long : length new ≡ length old
  pub left : slice_index_or new leaving [] ≡ []
  pub solved : IsRowSolved leaving entering (slice_index_or old leaving []) (slice_index_or new entering [])
  pub others : (r : ℕ) → r < length old → r ≢ leaving → r ≢ entering
      → IsRowChanged leaving entering (one_ℚ /ℚ factor_of (slice_index_or old leaving []) entering) (quotients_of entering (slice_index_or old leaving [])) (slice_index_or old r []) (slice_index_or new r [])

-- ---- the operations of a pivot, by the rows
-- from a row a times each quotient is taken
abbrev pub reductions : ℚ → List Term → List Term → Calculation
reductions a row quotients = flat_map (λ q. counted Times a q.factor ++ counted Minus (factor_of row q.column) (a *ℚ q.factor)) quotients

-- those of a row other than the leaving one; where the entering variable does not count in it there are none
abbrev pub row_work : ℕ → ℚ → List Term → List Term → Calculation
row_work entering inverse quotients row =
    let a = factor_of row entering in
    cond (eq_ℚ a zero_ℚ) [] (counted Times a inverse ++ reductions a (without entering row) quotients)

-- the inverse of the pivot, the quotients of the leaving row, and then the other rows
abbrev pub rows_work : ℕ → ℕ → List (List Term) → Calculation
rows_work leaving entering rows =
    let row = slice_index_or rows leaving [] in
    let p = factor_of row entering in
    counted Over one_ℚ p ++ (flat_map (λ t. counted Over t.factor p) (without entering row)
    ++ flat_map (row_work entering (one_ℚ /ℚ p) (quotients_of entering row)) (slice_set rows leaving []))
