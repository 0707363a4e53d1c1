-- What holds of the fields of a dictionary.
use Rattle.std.specs.Prelude.{◌≡◌, ℕ, ◌-◌, ◌<◌, ◌^◌, Bool, true, List, [], length, slice_index_or, Option, Some, None}
use Rattle.rational.specs.Rational.{ℚ, zero_ℚ}
use Rattle.rational.specs.Linear.{Term, factor_of}
use Rattle.frac128.specs.Calculation.{first_wide}
use Rattle.certs.specs.System.{Place, is_basic}
use Rattle.certs.specs.Tableau.{Tableau, basic_value}
use Rattle.certs.specs.Turns.{value_operations}
use Rattle.dictionary.specs.Rows.{AreSparse}

-- Each variable has its limits, there are fewer than 2^31, and while it may be used the rows are those of the basis.
pub record IsSound (bounds : ℕ) (basis : List Place) (rows : List (List Term)) (objective usable : Bool) : Type 0 where
  pub bounded : bounds ≡ length basis
  pub few : length basis < 2 ^ 31
  pub objective_basic : objective ≡ true → is_basic basis (length basis - 1) ≡ true
  pub sparse : usable ≡ true → AreSparse basis rows

-- The variable is basic and has this value, and no operation of its sum is too wide.
pub record IsValue (most : ℕ) (t : Tableau) (i : ℕ) (q : ℚ) : Type 0 where
  pub basic : is_basic t.basis i ≡ true
  pub value : q ≡ basic_value t i
  pub narrow : first_wide most (value_operations t i) ≡ None

-- There is a place for each variable, and what is kept there is its value.
pub record AreValues {N : Type 0} (most : ℕ) (value : N → ℚ) (t : Tableau) (values : List (Option N)) : Type 0 where
  pub long : length values ≡ length t.basis
  pub kept : (i : ℕ) (v : N) → slice_index_or values i None ≡ Some v → IsValue most t i (value v)

-- Of the values before, those are still kept in whose rows a variable does not count.
pub record AreForgotten {N : Type 0} (rows : List (List Term)) (variable : ℕ) (old new : List (Option N)) : Type 0 where
  pub long : length new ≡ length old
  pub kept : (i : ℕ) (v : N) → slice_index_or new i None ≡ Some v → slice_index_or old i None ≡ Some v
  pub absent : (i : ℕ) (v : N) → slice_index_or new i None ≡ Some v → factor_of (slice_index_or rows i []) variable ≡ zero_ℚ
