-- What the end of a settle run shows.
use Rattle.std.specs.Prelude.{◌≡◌, ℕ, ◌+◌, ◌<◌, ◌==◌, zero, suc, Bool, true, false, not, cond, List, [], ◌∷◌, ◌++◌, length, filter, flat_map, IfSome}
use Rattle.rational.specs.Rational.{ℚ, neg_ℚ, zero_ℚ, one_ℚ, eq_ℚ, lt_q, ◌≤ℚ◌}
use Rattle.rational.specs.Linear.{Assignment}
use Rattle.lp_model.specs.declared.members.Side.{Side}
use Rattle.lp_model.specs.declared.members.Side.TheVariants.{Lo, Up}
use Rattle.certs.specs.Combination.{signed}
use Rattle.certs.specs.System.{Limits, LinearSystem, KeepsRows, is_basic, variable_limits, VariableShare, IsVariableCombination}
use Rattle.certs.specs.Tableau.{Tableau, IsTableauOf, IsWellFormedSystem, value_of}
use Rattle.certs.specs.Turns.{settle_choice}
use Rattle.certs.specs.Turns.Choice.{Settled, Blocked}

-- the value is within the limits that are there
pub record IsWithin (limits : Limits) (v : ℚ) : Type 0 where
  pub lower : IfSome limits.lower (λ l. l ≤ℚ v)
  pub upper : IfSome limits.upper (λ u. v ≤ℚ u)

-- values of all variables that keep the rows, with each column and each row within its limits
pub record IsSolution (system : LinearSystem) (x : Assignment) : Type 0 where
  pub rows : KeepsRows system x
  pub limits : (v : ℕ) → v < length system.columns + length system.rows → IsWithin (variable_limits system v) (x v)

-- where no variable is outside its limits the values at a tableau of the system are a solution
abbrev pub FeasibleLaw : Type 0
FeasibleLaw = (system : LinearSystem) (t : Tableau) → IsWellFormedSystem system → IsTableauOf system t → settle_choice t ≡ Settled → IsSolution system (value_of t)

-- ---- nothing helps a variable that is outside
-- how often each variable counts: the one outside once, with the sign of the side that it misses, and the nonbasic ones by their factors, with the other sign
abbrev pub blocked_multiple : Tableau → ℕ → Side → ℕ → ℚ
blocked_multiple t i side v = signed side (cond (v == i) one_ℚ (cond (is_basic t.basis v) zero_ℚ (neg_ℚ (t.factor i v))))

-- a variable so often: its upper limit where the number is above 0, its lower one where it is below, and nothing where it is 0
abbrev pub share_for : ℕ → ℚ → List VariableShare
share_for v c = cond (eq_ℚ c zero_ℚ) [] (cond (lt_q zero_ℚ c) (record { variable = v; side = Up; weight = c } ∷ []) (record { variable = v; side = Lo; weight = neg_ℚ c } ∷ []))

-- those of a list of variables
abbrev pub shares_for : (ℕ → ℚ) → List ℕ → List VariableShare
shares_for c list = flat_map (λ v. share_for v (c v)) list

-- whether a share is of an upper limit
abbrev pub is_upper : VariableShare → Bool
is_upper s = elim s.side [ Lo ↦ false | Up ↦ true ]

-- the numbers from a on, so many
abbrev pub numbers_from : ℕ → ℕ → List ℕ
numbers_from a zero = []
numbers_from a (suc n) = numbers_from a n ++ (a + n) ∷ []

-- The shares of the rows, then of the columns' lower limits, and then of their upper ones.
abbrev pub blocked_shares : LinearSystem → Tableau → ℕ → Side → List VariableShare
blocked_shares system t i side =
    let c = blocked_multiple t i side in
    let columns = shares_for c (numbers_from 0 (length system.columns)) in
    shares_for c (numbers_from (length system.columns) (length system.rows)) ++ (filter (λ s. not (is_upper s)) columns ++ filter is_upper columns)

-- where nothing helps the first variable outside these are a combination of the system
abbrev pub BlockedLaw : Type 0
BlockedLaw = (system : LinearSystem) (t : Tableau) (i : ℕ) (side : Side) → IsWellFormedSystem system → IsTableauOf system t → settle_choice t ≡ Blocked i side → IsVariableCombination system (blocked_shares system t i side)
