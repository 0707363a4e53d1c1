-- Turns of a run: what is chosen at a tableau, the operations that are made, and the basis that comes after.
use Rattle.std.specs.Prelude.{◌≡◌, ◌≢◌, ℕ, ◌<◌, ◌-◌, ◌==◌, Bool, true, false, ◌&&◌, ◌||◌, not, cond, List, [], ◌∷◌, ◌++◌, length, slice_set, Option, Some, None, IsSome, filter, find, flat_map}
use Rattle.rational.specs.Rational.{ℚ, ◌+ℚ◌, ◌*ℚ◌, ◌/ℚ◌, zero_ℚ, one_ℚ, lt_q, eq_ℚ}
use Rattle.lp_model.specs.declared.members.Side.{Side}
use Rattle.lp_model.specs.declared.members.Side.TheVariants.{Lo, Up}
use Rattle.frac128.specs.declared.Op.{Op}
use Rattle.frac128.specs.declared.Op.TheVariants.{Plus, Minus, Times, Over}
use Rattle.frac128.specs.Width.{operation}
use Rattle.frac128.specs.Calculation.{Calculation}
use Rattle.certs.specs.System.{Limits, LinearSystem, Place, is_basic, limit_on}
use Rattle.certs.specs.System.Place.{Basic, AtLower, AtUpper, AtZero}
use Rattle.certs.specs.Tableau.{Tableau, IsTableauOf, pivoted, below, nonbasics, basics, limits_at, place_of, place_value, basic_value}

-- ---- limits
-- whether there is such a number and the value is below it, above it, or equal to it
abbrev pub is_under : Option ℚ → ℚ → Bool
is_under None v = false
is_under (Some b) v = lt_q v b

-- above
abbrev pub is_over : Option ℚ → ℚ → Bool
is_over None v = false
is_over (Some b) v = lt_q b v

-- equal
abbrev pub meets : Option ℚ → ℚ → Bool
meets None v = false
meets (Some b) v = eq_ℚ b v

-- the limit that a value passes, if it passes one
abbrev pub missed_side : Limits → ℚ → Option Side
missed_side limits v = cond (is_under limits.lower v) (Some Lo) (cond (is_over limits.upper v) (Some Up) None)

-- and for a basic variable its value
abbrev pub missed_by : Tableau → ℕ → Option Side
missed_by t i = missed_side (limits_at t i) (basic_value t i)

-- whether the variable is outside its limits
abbrev pub is_outside : Tableau → ℕ → Bool
is_outside t i = is_under (limits_at t i).lower (basic_value t i) || is_over (limits_at t i).upper (basic_value t i)

-- a nonbasic variable can rise where its place is not its upper limit
abbrev pub can_rise : Tableau → ℕ → Bool
can_rise t k = not (meets (limits_at t k).upper (place_value t k))

-- and fall where its place is not its lower one
abbrev pub can_fall : Tableau → ℕ → Bool
can_fall t k = not (meets (limits_at t k).lower (place_value t k))

-- ---- which variable enters
-- whether a change of k that it can make moves i up from below (`Lo`), or down from above (`Up`)
abbrev pub helps : Tableau → Side → ℕ → ℕ → Bool
helps t Lo i k = (lt_q zero_ℚ (t.factor i k) && can_rise t k) || (lt_q (t.factor i k) zero_ℚ && can_fall t k)
helps t Up i k = (lt_q (t.factor i k) zero_ℚ && can_rise t k) || (lt_q zero_ℚ (t.factor i k) && can_fall t k)

-- the least one that does
abbrev pub entering : Tableau → Side → ℕ → Option ℕ
entering t side i = find (helps t side i) (nonbasics t.basis)

-- ---- what is chosen
-- no variable is outside; one is, and nothing helps it; or the first leaves the basis to the limit that it misses and the last enters
pub data Choice : Type 0 where
  Settled : Choice
  Blocked : ℕ → Side → Choice
  Exchange : ℕ → Side → ℕ → Choice

-- the number of the variables but the objective
abbrev pub limited : Tableau → ℕ
limited t = cond t.objective (length t.basis - 1) (length t.basis)

-- the basic variables but the objective, in order
abbrev pub limited_basics : Tableau → List ℕ
limited_basics t = below (limited t) (is_basic t.basis)

-- with the entering variable, where there is one
abbrev pub exchange_or_blocked : ℕ → Side → Option ℕ → Choice
exchange_or_blocked i side None = Blocked i side
exchange_or_blocked i side (Some j) = Exchange i side j

-- for a variable and the limit that it misses
abbrev pub choice_for : Tableau → ℕ → Option Side → Choice
choice_for t i None = Settled
choice_for t i (Some side) = exchange_or_blocked i side (entering t side i)

-- for the first variable outside
abbrev pub choice_at : Tableau → Option ℕ → Choice
choice_at t None = Settled
choice_at t (Some i) = choice_for t i (missed_by t i)

-- the choice of a settle turn: the least basic variable outside its limits leaves
abbrev pub settle_choice : Tableau → Choice
settle_choice t = choice_at t (find (is_outside t) (limited_basics t))

-- ---- the basis after an exchange
-- the place at a limit
abbrev pub at_limit : Side → Place
at_limit Lo = AtLower
at_limit Up = AtUpper

-- i leaves to its limit on the side, and j enters
abbrev pub exchanged : List Place → ℕ → Side → ℕ → List Place
exchanged basis i side j = slice_set (slice_set basis i (at_limit side)) j Basic

-- the place at the other limit
abbrev pub other_place : Place → Place
other_place Basic = Basic
other_place AtLower = AtUpper
other_place AtUpper = AtLower
other_place AtZero = AtZero

-- the tableau after a nonbasic variable goes to its other limit
abbrev pub flipped : Tableau → ℕ → Tableau
flipped t k = record t { basis = slice_set t.basis k (other_place (place_of t k)) }

-- that is one of the system again, where the variable has both limits
abbrev pub FlipLaw : Type 0
FlipLaw = (system : LinearSystem) (t : Tableau) (k : ℕ) → IsTableauOf system t → is_basic t.basis k ≡ false → IsSome (limits_at t k).lower → IsSome (limits_at t k).upper → IsTableauOf system (flipped t k)

-- The leaving variable is basic, not the objective, and has the limit; the entering one is nonbasic, and its factor is not 0.
pub record CanPivot (t : Tableau) (leaving : ℕ) (side : Side) (entering : ℕ) : Type 0 where
  pub basic : is_basic t.basis leaving ≡ true
  pub limited : leaving < limited t
  pub there : IsSome (limit_on (limits_at t leaving) side)
  pub known : entering < length t.basis
  pub nonbasic : is_basic t.basis entering ≡ false
  pub nonzero : t.factor leaving entering ≢ zero_ℚ

-- the tableau after the pivot: the basis is exchanged, and so are the factors
pub record IsPivoted (t next : Tableau) (leaving : ℕ) (side : Side) (entering : ℕ) : Type 0 where
  pub limits : next.limits ≡ t.limits
  pub objective : next.objective ≡ t.objective
  pub basis : next.basis ≡ exchanged t.basis leaving side entering
  pub factor : (r k : ℕ) → is_basic next.basis r ≡ true → k < length next.basis → is_basic next.basis k ≡ false → next.factor r k ≡ pivoted t.factor leaving entering r k

-- after a pivot a tableau of a system is one of it again
abbrev pub PivotLaw : Type 0
PivotLaw = (system : LinearSystem) (t next : Tableau) (leaving : ℕ) (side : Side) (entering : ℕ) → IsTableauOf system t → CanPivot t leaving side entering → IsPivoted t next leaving side entering
    → IsTableauOf system next

-- ---- the operations
-- an operation with an operand 0 is not counted
abbrev pub counted : Op → ℚ → ℚ → Calculation
counted kind a b = cond (eq_ℚ a zero_ℚ || eq_ℚ b zero_ℚ) [] (operation kind a b ∷ [])

-- the products of f k and g k, each before it is added to the sum so far
abbrev pub sum_operations : (ℕ → ℚ) → (ℕ → ℚ) → ℚ → List ℕ → Calculation
sum_operations f g sum [] = []
sum_operations f g sum (k ∷ rest) = counted Times (f k) (g k) ++ (counted Plus sum (f k *ℚ g k) ++ sum_operations f g (sum +ℚ f k *ℚ g k) rest)

-- those of the value of a basic variable, the nonbasic ones in order
abbrev pub value_operations : Tableau → ℕ → Calculation
value_operations t i = sum_operations (t.factor i) (place_value t) zero_ℚ (nonbasics t.basis)

-- those of the value of a variable; a nonbasic one has its place without any
abbrev pub operations_of : Tableau → ℕ → Calculation
operations_of t v = cond (is_basic t.basis v) (value_operations t v) []

-- those of the values of variables up to the first that is outside
abbrev pub operations_to_outside : Tableau → List ℕ → Calculation
operations_to_outside t [] = []
operations_to_outside t (i ∷ rest) = value_operations t i ++ cond (is_outside t i) [] (operations_to_outside t rest)

-- those of the values in a settle turn
abbrev pub settle_values : Tableau → Calculation
settle_values t = operations_to_outside t (limited_basics t)

-- the others of a list
abbrev pub others : ℕ → List ℕ → List ℕ
others j list = filter (λ k. not (k == j)) list

-- the quotients of the factors of a row by the pivot
abbrev pub quotient_operations : (ℕ → ℚ) → ℚ → List ℕ → Calculation
quotient_operations f p list = flat_map (λ k. counted Over (f k) p) list

-- from the factors f k a row takes the products of a and q k
abbrev pub reduce_operations : ℚ → (ℕ → ℚ) → (ℕ → ℚ) → List ℕ → Calculation
reduce_operations a f q list = flat_map (λ k. counted Times a (q k) ++ counted Minus (f k) (a *ℚ q k)) list

-- Another row, whose factor a of the entering variable is not 0: a times the inverse of the pivot, and then its other factors.
abbrev pub row_operations : ℚ → ℚ → (ℕ → ℚ) → (ℕ → ℚ) → List ℕ → Calculation
row_operations a inverse f q list = cond (eq_ℚ a zero_ℚ) [] (counted Times a inverse ++ reduce_operations a f q list)

-- the pivot where i leaves and j enters: its inverse, the quotients of its row, and then the other rows in order
abbrev pub pivot_operations : Tableau → ℕ → ℕ → Calculation
pivot_operations t i j =
    let p = t.factor i j in
    let list = others j (nonbasics t.basis) in
    counted Over one_ℚ p ++ (quotient_operations (t.factor i) p list
    ++ flat_map (λ r. row_operations (t.factor r j) (one_ℚ /ℚ p) (t.factor r) (λ k. t.factor i k /ℚ p) list) (others i (basics t.basis)))

-- of the choice, where it is an exchange
abbrev pub exchange_operations : Tableau → Choice → Calculation
exchange_operations t Settled = []
exchange_operations t (Blocked i side) = []
exchange_operations t (Exchange i side j) = pivot_operations t i j

-- the work of a settle turn where `left` pivots may still be made: the values, and the pivot where one is due and may be made
abbrev pub settle_work : ℕ → Tableau → Calculation
settle_work left t = settle_values t ++ cond (left == 0) [] (exchange_operations t (settle_choice t))
