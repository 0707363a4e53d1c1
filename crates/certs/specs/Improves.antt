-- Improve turns and runs: what raises the objective, how far it goes, and what stops it.
use Rattle.std.specs.Prelude.{◌≡◌, ℕ, ◌+◌, ◌-◌, ◌==◌, nat_lt, zero, suc, Bool, ◌&&◌, ◌||◌, cond, List, [], ◌∷◌, ◌++◌, length, slice_set, Option, Some, None, flat_map}
use Rattle.rational.specs.Rational.{ℚ, ◌-ℚ◌, ◌/ℚ◌, neg_ℚ, zero_ℚ, lt_q, eq_ℚ}
use Rattle.lp_model.specs.declared.members.Side.{Side}
use Rattle.lp_model.specs.declared.members.Side.TheVariants.{Lo, Up}
use Rattle.frac128.specs.declared.Op.TheVariants.{Minus, Over}
use Rattle.frac128.specs.declared.Wide.{Wide as Operation}
use Rattle.frac128.specs.Calculation.{Calculation, first_wide}
use Rattle.certs.specs.System.{LinearSystem, Place, limit_on}
use Rattle.certs.specs.Tableau.{Tableau, limits_at, place_of, basic_value}
use Rattle.certs.specs.Turns.{limited_basics, entering, exchanged, other_place, counted, value_operations, pivot_operations}
use Rattle.certs.specs.Runs.{TableauAt}

-- ---- which variable moves
-- the number of the objective, which is the greatest
abbrev pub objective_variable : Tableau → ℕ
objective_variable t = length t.basis - 1

-- the least nonbasic variable whose change raises the objective
abbrev pub improving : Tableau → Option ℕ
improving t = entering t Lo (objective_variable t)

-- whether it raises the objective by rising; else it does by falling
abbrev pub does_rise : Tableau → ℕ → Bool
does_rise t j = lt_q zero_ℚ (t.factor (objective_variable t) j)

-- how much a basic variable changes where j moves by 1
abbrev pub rate : Tableau → ℕ → ℕ → ℚ
rate t j i = cond (does_rise t j) (t.factor i j) (neg_ℚ (t.factor i j))

-- ---- how far it goes
-- a variable that reaches its limit on a side, after so far
pub record Block : Type 0 where
  pub variable : ℕ
  pub side : Side
  pub distance : ℚ

-- the side to which a change moves a variable, where it moves
abbrev pub towards : ℚ → Option Side
towards change = cond (lt_q zero_ℚ change) (Some Up) (cond (lt_q change zero_ℚ) (Some Lo) None)

-- a number without its sign
abbrev pub magnitude : ℚ → ℚ
magnitude q = cond (lt_q q zero_ℚ) (neg_ℚ q) q

-- what is left between a value and the limit on a side, as its two operands
abbrev pub greater_end : Side → ℚ → ℚ → ℚ
greater_end Lo limit v = v
greater_end Up limit v = limit

-- the other operand
abbrev pub lesser_end : Side → ℚ → ℚ → ℚ
lesser_end Lo limit v = limit
lesser_end Up limit v = v

-- how far a basic variable may go to a limit
abbrev pub distance_to : Tableau → ℕ → ℕ → Side → ℚ → ℚ
distance_to t j i side limit = (greater_end side limit (basic_value t i) -ℚ lesser_end side limit (basic_value t i)) /ℚ magnitude (t.factor i j)

-- what a basic variable that moves to a side meets there, where it has a limit
abbrev pub block_at : Tableau → ℕ → ℕ → Side → Option ℚ → List Block
block_at t j i side None = []
block_at t j i side (Some limit) = record { variable = i; side = side; distance = distance_to t j i side limit } ∷ []

-- and where it moves
abbrev pub block_on : Tableau → ℕ → ℕ → Option Side → List Block
block_on t j i None = []
block_on t j i (Some side) = block_at t j i side (limit_on (limits_at t i) side)

-- what j itself meets where it has both limits
abbrev pub own_block : ℕ → Side → Option ℚ → Option ℚ → List Block
own_block j side None upper = []
own_block j side (Some l) None = []
own_block j side (Some l) (Some u) = record { variable = j; side = side; distance = u -ℚ l } ∷ []

-- all that j meets
abbrev pub blocks : Tableau → ℕ → List Block
blocks t j =
    flat_map (λ i. block_on t j i (towards (rate t j i))) (limited_basics t)
    ++ own_block j (cond (does_rise t j) Up Lo) (limits_at t j).lower (limits_at t j).upper

-- a lesser distance comes first, and of equal ones the lesser number
abbrev pub comes_first : Block → Block → Bool
comes_first b c = lt_q b.distance c.distance || (eq_ℚ b.distance c.distance && nat_lt b.variable c.variable)

-- the first of a block and one that may be there
abbrev pub first_block : Block → Option Block → Block
first_block b None = b
first_block b (Some c) = cond (comes_first b c) b c

-- the first of all
abbrev pub nearest : List Block → Option Block
nearest [] = None
nearest (b ∷ list) = Some (first_block b (nearest list))

-- ---- what is chosen
-- nothing raises the objective; one does without end; it goes to its other limit; or the first leaves the basis to its limit on the side and the last enters
pub data Improvement : Type 0 where
  Optimal : Improvement
  Free : ℕ → Improvement
  Flip : ℕ → Improvement
  Leaves : ℕ → Side → ℕ → Improvement

-- by what j meets first
abbrev pub improvement_by : ℕ → Option Block → Improvement
improvement_by j None = Free j
improvement_by j (Some b) = cond (b.variable == j) (Flip j) (Leaves b.variable b.side j)

-- for the variable that raises the objective
abbrev pub improvement_for : Tableau → Option ℕ → Improvement
improvement_for t None = Optimal
improvement_for t (Some j) = improvement_by j (nearest (blocks t j))

-- the choice of an improve turn
abbrev pub improve_choice : Tableau → Improvement
improve_choice t = improvement_for t (improving t)

-- the basis after it, where it makes a pivot or changes a place
abbrev pub improved : Tableau → Improvement → Option (List Place)
improved t Optimal = None
improved t (Free j) = None
improved t (Flip j) = Some (slice_set t.basis j (other_place (place_of t j)))
improved t (Leaves i side j) = Some (exchanged t.basis i side j)

-- ---- the operations
-- those of a distance: what is left, and then over the factor
abbrev pub distance_operations : Tableau → ℕ → ℕ → Side → Option ℚ → Calculation
distance_operations t j i side None = []
distance_operations t j i side (Some limit) =
    let v = basic_value t i in
    counted Minus (greater_end side limit v) (lesser_end side limit v) ++ counted Over (greater_end side limit v -ℚ lesser_end side limit v) (magnitude (t.factor i j))

-- where the variable moves
abbrev pub block_operations : Tableau → ℕ → ℕ → Option Side → Calculation
block_operations t j i None = []
block_operations t j i (Some side) = distance_operations t j i side (limit_on (limits_at t i) side)

-- that of the distance of j itself
abbrev pub own_operations : Option ℚ → Option ℚ → Calculation
own_operations None upper = []
own_operations (Some l) None = []
own_operations (Some l) (Some u) = counted Minus u l

-- the distances in order, that of j itself last; where nothing raises the objective its value
abbrev pub reach_operations : Tableau → Option ℕ → Calculation
reach_operations t None = value_operations t (objective_variable t)
reach_operations t (Some j) = flat_map (λ i. block_operations t j i (towards (rate t j i))) (limited_basics t) ++ own_operations (limits_at t j).lower (limits_at t j).upper

-- those before the pivot: the values of all basic variables but the objective, and what comes of the variable that moves
abbrev pub improve_values : Tableau → Calculation
improve_values t = flat_map (value_operations t) (limited_basics t) ++ reach_operations t (improving t)

-- of the choice, where it is a pivot
abbrev pub leave_operations : Tableau → Improvement → Calculation
leave_operations t Optimal = []
leave_operations t (Free j) = []
leave_operations t (Flip j) = []
leave_operations t (Leaves i side j) = pivot_operations t i j

-- the work of an improve turn where `left` pivots may still be made
abbrev pub improve_work : ℕ → Tableau → Calculation
improve_work left t = improve_values t ++ cond (left == 0) [] (leave_operations t (improve_choice t))

-- ---- runs
-- A turn leads from one basis to the next, and none of its operations is too wide; a change of place counts as a pivot.
pub record IsImproveTurn (most : ℕ) (system : LinearSystem) (basis next : List Place) : Type 0 where
  pub here : TableauAt system basis
  pub moves : improved here.tableau (improve_choice here.tableau) ≡ Some next
  pub narrow : first_wide most (improve_work 1 here.tableau) ≡ None

-- so many turns lead from one basis to another
abbrev pub Improves : ℕ → LinearSystem → ℕ → List Place → List Place → Type 0
Improves most system zero basis last = basis ≡ last
Improves most system (suc k) basis last = (middle : List Place) × (Improves most system k basis middle × IsImproveTurn most system middle last)

-- how an improve run ends: optimal, or without end by a variable; or how it stops: too wide in a turn by its number, or with no pivot left
pub data ImproveEnd : Type 0 where
  AtOptimum : ImproveEnd
  Unbounded : ℕ → ImproveEnd
  TooWide : ℕ → Operation → ImproveEnd
  Spent : ImproveEnd

-- the choice at its last basis, with no operation before a pivot too wide
pub record IsImproveChoice (most : ℕ) (system : LinearSystem) (basis : List Place) (choice : Improvement) : Type 0 where
  pub here : TableauAt system basis
  pub chosen : improve_choice here.tableau ≡ choice
  pub narrow : first_wide most (improve_values here.tableau) ≡ None

-- the first operation of the turn that is too wide
pub record IsImproveWide (most : ℕ) (system : LinearSystem) (basis : List Place) (left : ℕ) (wide : Operation) : Type 0 where
  pub here : TableauAt system basis
  pub first : first_wide most (improve_work left here.tableau) ≡ Some wide

-- a pivot or a change of place is due, and nothing before it is too wide
pub record IsImproveDue (most : ℕ) (system : LinearSystem) (basis : List Place) : Type 0 where
  pub here : TableauAt system basis
  pub next : List Place
  pub due : improved here.tableau (improve_choice here.tableau) ≡ Some next
  pub narrow : first_wide most (improve_values here.tableau) ≡ None

-- at its last basis, with so many pivots left, in the turn with this number
abbrev pub ImproveEndsAt : ℕ → LinearSystem → List Place → ℕ → ℕ → ImproveEnd → Type 0
ImproveEndsAt most system last left number AtOptimum = IsImproveChoice most system last Optimal
ImproveEndsAt most system last left number (Unbounded j) = IsImproveChoice most system last (Free j)
ImproveEndsAt most system last left number (TooWide step wide) = (step ≡ number) × IsImproveWide most system last left wide
ImproveEndsAt most system last left number Spent = (left ≡ 0) × IsImproveDue most system last

-- The improve run of the system from a basis, with a budget of pivots and after so many turns begun, ends so.
pub record ImproveRun (most : ℕ) (system : LinearSystem) (basis : List Place) (budget begun : ℕ) (end : ImproveEnd) (last : List Place) (left turns : ℕ) : Type 0 where
  pub made : ℕ
  pub budget_is : made + left ≡ budget
  pub reaches : Improves most system made basis last
  pub turns_are : turns ≡ suc (begun + made)
  pub ends : ImproveEndsAt most system last left turns end
