-- The checks of evidence, each a list of steps: operations, and then a test. An operation is wide where `is_wide` says so, for parts up to a limit.
use Rattle.std.specs.Prelude.{◌≡◌, ℕ, ◌==◌, zero, suc, Bool, true, false, ◌&&◌, not, cond, List, [], ◌∷◌, ◌++◌, map, length, Option, Some, None, is_some, Result, Ok, Err, filter, ◌<◌, ◌↔◌, All}
use Rattle.rational.specs.Rational.{ℚ, ◌+ℚ◌, ◌-ℚ◌, ◌*ℚ◌, neg_ℚ, zero_ℚ, le_q, lt_q, eq_ℚ}
use Rattle.rational.specs.Linear.{Term, Assignment, factor_of}
use Rattle.lp_model.specs.declared.members.Member.{Member}
use Rattle.lp_model.specs.declared.members.Member.TheVariants.{RowLo, RowUp, Lower, Upper, Whole}
use Rattle.lp_model.specs.declared.members.Side.{Side}
use Rattle.lp_model.specs.declared.members.Side.TheVariants.{Lo, Up}
use Rattle.lp_model.specs.declared.parts.Weight.{Weight}
use Rattle.lp_model.specs.declared.parts.Weight.TheVariants.{Soft, Rigid}
use Rattle.lp_model.specs.Program.{Program, column_at, IsWellFormed}
use Rattle.lp_model.specs.Members.{form, value, number, side, weight, has}
use Rattle.lp_model.specs.Satisfaction.{values_at, Satisfies, IsSatisfiable, IsUnsatisfiable}
use Rattle.lp_model.specs.Evaluation.{value_operations, member_operations}
use Rattle.lp_model.specs.MemberSets.{SetValue}
use Rattle.frac128.specs.declared.Op.{Op}
use Rattle.frac128.specs.declared.Op.TheVariants.{Plus, Minus, Times}
use Rattle.frac128.specs.Limit.{limit}
use Rattle.frac128.specs.declared.Wide.{Wide as Operation}
use Rattle.frac128.specs.Width.{operation, is_wide}
use Rattle.frac128.specs.Calculation.{Calculation, first_wide, sum_steps}
use Rattle.certs.specs.declared.evidence.Branch.{Branch}
use Rattle.certs.specs.declared.evidence.Source.{Source}
use Rattle.certs.specs.declared.evidence.Source.TheVariants.{Member as Of, Below, Above}
use Rattle.certs.specs.declared.evidence.Share.{Share}
use Rattle.certs.specs.declared.evidence.Checked.{Checked}
use Rattle.certs.specs.declared.evidence.Checked.TheVariants.{Yes, No, Wide}
use Rattle.certs.specs.Combination.{source_form, source_side, source_number, number_or_zero, signed, column_sum, right_side, IsCombination, KeepsPath}
use Rattle.certs.specs.Violation.{weight_on, is_of, violation, is_rigid, IsLeastDual}
use Rattle.certs.specs.Bound.{directed, objective_value, IsBoundDual, IsImproving}
use Rattle.certs.specs.Alternative.{cost_of, IsPrice}

-- operations, and a test of their results
pub record Step : Type 0 where
  pub operations : Calculation
  pub passes : Bool

-- a wide operation is the answer, else what follows
abbrev pub unless_wide : Option Operation → Checked → Checked
unless_wide None rest = rest
unless_wide (Some o) rest = Wide o

-- The steps in order, for parts up to `most`: a wide operation ends the check, and so does a test that fails.
abbrev pub outcome_within : ℕ → List Step → Checked
outcome_within most [] = Yes
outcome_within most (s ∷ steps) = unless_wide (first_wide most s.operations) (cond s.passes (outcome_within most steps) No)

-- with the parts that a `Frac` has
abbrev pub outcome : List Step → Checked
outcome steps = outcome_within limit steps

-- a yes or a no, or what is too wide
abbrev pub checked_of : Result Bool Operation → Checked
checked_of (Ok true) = Yes
checked_of (Ok false) = No
checked_of (Err o) = Wide o

-- the set is one of members of the program
pub record IsSetOf (model : Program) (set : SetValue) : Type 0 where
  pub rows : set.rows ≡ length model.rows
  pub columns : set.columns ≡ length model.columns

-- ---- tests
-- whether each element passes
abbrev pub every : {A : Type 0} → (A → Bool) → List A → Bool
every test [] = true
every test (a ∷ rest) = test a && every test rest

-- of 0, 1 up to n - 1
abbrev pub every_below : (ℕ → Bool) → ℕ → Bool
every_below test zero = true
every_below test (suc n) = every_below test n && test n

-- whether a value is at least, or at most, a number that may be absent
abbrev pub at_least_test : Option ℚ → ℚ → Bool
at_least_test None v = true
at_least_test (Some b) v = le_q b v

-- and at most
abbrev pub at_most_test : Option ℚ → ℚ → Bool
at_most_test None v = true
at_most_test (Some b) v = le_q v b

-- whether a member holds
abbrev pub holds_test : Program → Assignment → Member → Bool
holds_test model x (RowLo i) = at_least_test (number model (RowLo i)) (value model (RowLo i) x)
holds_test model x (RowUp i) = at_most_test (number model (RowUp i)) (value model (RowUp i) x)
holds_test model x (Lower j) = at_least_test (number model (Lower j)) (value model (Lower j) x)
holds_test model x (Upper j) = at_most_test (number model (Upper j)) (value model (Upper j) x)
holds_test model x (Whole j) = cond (column_at model j).whole ((x j).den == 1) true

-- whether a source is a member of the set, or the path
abbrev pub from_test : List Member → Source → Bool
from_test set (Of m) = has set m
from_test set (Below j) = true
from_test set (Above j) = true

-- whether the set or the path has the source of a share, with a number
abbrev pub there_test : Program → List Member → List Branch → Share → Bool
there_test model set path s = from_test set s.source && is_some (source_number model path s.source)

-- whether all weights are positive and all sources are there
abbrev pub usable_test : Program → List Member → List Branch → List Share → Bool
usable_test model set path shares = every (λ s. lt_q zero_ℚ s.weight) shares && every (there_test model set path) shares

-- whether a weight is within that of a soft member
abbrev pub within_test : ℚ → Weight → Bool
within_test q (Soft w) = le_q q w
within_test q Rigid = true

-- ---- a point: the members in order, each by its sum
-- a member's sum, and whether the member holds
abbrev pub point_steps : Program → List Member → Assignment → List Step
point_steps model set x = map (λ m. record { operations = member_operations model m x; passes = holds_test model x m }) set

-- ---- shares: plus on `up`, minus on `lo`
-- the operation on a side
abbrev pub sign_of : Side → Op
sign_of Lo = Minus
sign_of Up = Plus

-- a number times a weight, and then plus or minus
abbrev pub share_operations : ℚ → Side → ℚ → ℚ → Calculation
share_operations sum side q w = operation Times q w ∷ operation (sign_of side) sum (q *ℚ w) ∷ []

-- the sums with something added for one column
abbrev pub added_at : Assignment → ℕ → ℚ → Assignment
added_at sums j q = λ i. cond (j == i) (sums i +ℚ q) (sums i)

-- each term ascending: factor times weight, and then plus or minus
abbrev pub form_operations : Assignment → Side → ℚ → List Term → Calculation
form_operations sums side w [] = []
form_operations sums side w (t ∷ terms) =
    share_operations (sums t.column) side t.factor w
    ++ form_operations (added_at sums t.column (signed side (t.factor *ℚ w))) side w terms

-- the sums after these terms
abbrev pub sums_after : Assignment → Side → ℚ → List Term → Assignment
sums_after sums side w [] = sums
sums_after sums side w (t ∷ terms) = sums_after (added_at sums t.column (signed side (t.factor *ℚ w))) side w terms

-- the columns' sums, from 0: the shares in order, the terms of each ascending
abbrev pub column_operations : Program → Assignment → List Share → Calculation
column_operations model sums [] = []
column_operations model sums (s ∷ shares) =
    form_operations sums (source_side s.source) s.weight (source_form model s.source)
    ++ column_operations model (sums_after sums (source_side s.source) s.weight (source_form model s.source)) shares

-- the right side, from 0: number times weight, and then plus or minus
abbrev pub right_operations : Program → List Branch → ℚ → List Share → Calculation
right_operations model path sum [] = []
right_operations model path sum (s ∷ shares) =
    share_operations sum (source_side s.source) (number_or_zero (source_number model path s.source)) s.weight
    ++ right_operations model path (sum +ℚ signed (source_side s.source) (number_or_zero (source_number model path s.source) *ℚ s.weight)) shares

-- whether the sum of each column in some terms is 0
abbrev pub is_zero_on : Assignment → List Term → Bool
is_zero_on sums terms = every (λ t. eq_ℚ (sums t.column) zero_ℚ) terms

-- before any arithmetic: weights and sources
abbrev pub usable_step : Program → List Member → List Branch → List Share → Step
usable_step model set path shares = record { operations = []; passes = usable_test model set path shares }

-- the sums of the model's columns are these
abbrev pub columns_step : Program → List Share → (ℕ → ℚ) → Step
columns_step model shares sums =
    record { operations = column_operations model (λ j. zero_ℚ) shares; passes = every_below (λ j. eq_ℚ (column_sum model shares j) (sums j)) (length model.columns) }

-- the right side, and its test
abbrev pub right_step : Program → List Branch → List Share → (ℚ → Bool) → Step
right_step model path shares test = record { operations = right_operations model path zero_ℚ shares; passes = test (right_side model path shares) }

-- The columns cancel, and the right side is below 0.
abbrev pub combination_steps : Program → List Member → List Branch → List Share → List Step
combination_steps model set path shares =
    usable_step model set path shares ∷ columns_step model shares (λ j. zero_ℚ) ∷ right_step model path shares (λ r. lt_q r zero_ℚ) ∷ []

-- The columns are the objective, and the right side is the bound.
abbrev pub bound_steps : Program → List Member → List Share → ℚ → List Step
bound_steps model set shares b =
    usable_step model set [] shares ∷ columns_step model shares (λ j. directed model (factor_of model.objective j)) ∷ right_step model [] shares (λ r. eq_ℚ r (directed model b)) ∷ []

-- ---- a dual of the least violation: the weights on each soft member are added up from 0
-- the weights on one member, added up from 0
abbrev pub weight_operations : List Share → Member → Calculation
weight_operations shares m = sum_steps (λ s. s.weight) zero_ℚ (filter (λ s. is_of m s.source) shares)

-- each soft member of the set, in order
abbrev pub within_steps : Program → List Member → List Share → List Step
within_steps model set shares =
    map (λ m. record { operations = weight_operations shares m; passes = within_test (weight_on shares m) (weight model m) }) (filter (λ m. not (is_rigid (weight model m))) set)

-- The columns cancel, soft members are within their weights, and the right side is -t.
abbrev pub least_steps : Program → List Member → List Branch → List Share → ℚ → List Step
least_steps model set path shares t =
    usable_step model set path shares ∷ columns_step model shares (λ j. zero_ℚ) ∷ (within_steps model set shares ++ right_step model path shares (λ r. eq_ℚ t (neg_ℚ r)) ∷ [])

-- ---- a ray: the members in order, and the objective last
-- whether a change is not towards the wrong side
abbrev pub kept_test : Side → ℚ → Bool
kept_test Lo v = le_q zero_ℚ v
kept_test Up v = le_q v zero_ℚ

-- whether a ray keeps the member
abbrev pub ray_test : Program → Assignment → Member → Bool
ray_test model ray m = cond (is_some (number model m)) (kept_test (side m) (value model m ray)) true

-- each member's sum at the ray, and the objective's
abbrev pub ray_steps : Program → List Member → Assignment → List Step
ray_steps model set ray =
    map (λ m. record { operations = member_operations model m ray; passes = ray_test model ray m }) set
    ++ record { operations = value_operations model.objective ray; passes = lt_q (directed model zero_ℚ) (directed model (objective_value model ray)) } ∷ []

-- ---- a price: the members in order
-- negated on `lo`
abbrev pub signed_terms : Side → List Term → List Term
signed_terms side terms = map (λ t. record { column = t.column; factor = signed side t.factor }) terms

-- the form at the price, less the total times the number
abbrev pub priced_steps : Program → ℚ → Assignment → Member → Option ℚ → List Step
priced_steps model t z m None = []
priced_steps model t z m (Some b) =
    record {
      operations = value_operations (signed_terms (side m) (form model m)) z
          ++ operation Times t (signed (side m) b)
          ∷ operation Minus (signed (side m) (value model m z)) (t *ℚ signed (side m) b)
          ∷ [];
      passes = le_q (signed (side m) (value model m z) -ℚ t *ℚ signed (side m) b) (cost_of (weight model m));
    }
    ∷ []

-- for all members
abbrev pub price_steps : Program → List Member → ℚ → Assignment → List Step
price_steps model [] t z = []
price_steps model (m ∷ set) t z = priced_steps model t z m (number model m) ++ price_steps model set t z

-- ---- totals
-- a missed number: the greater minus the less
abbrev pub missed_operations : Side → Option ℚ → ℚ → Calculation
missed_operations side None v = []
missed_operations Lo (Some b) v = cond (lt_q v b) (operation Minus b v ∷ []) []
missed_operations Up (Some b) v = cond (lt_q b v) (operation Minus v b ∷ []) []

-- the weighted violation, from 0: each soft member's sum, its missed number, weight times violation, and then plus
abbrev pub weighted_operations : Program → ℚ → List Member → Assignment → Calculation
weighted_operations model total [] x = []
weighted_operations model total (m ∷ set) x =
    elim (weight model m) [
      | Rigid ↦ weighted_operations model total set x
      | Soft w ↦
          member_operations model m x
          ++ (missed_operations (side m) (number model m) (value model m x)
          ++ operation Times w (violation model x m)
          ∷ operation Plus total (w *ℚ violation model x m)
          ∷ weighted_operations model (total +ℚ w *ℚ violation model x m) set x)
    ]

-- ---- the laws, whatever the limit
-- nothing that the step calculates is wide, and its test passes
pub record IsPassed (most : ℕ) (s : Step) : Type 0 where
  pub fits : All (λ o. is_wide most o ≡ false) s.operations
  pub passes : s.passes ≡ true

-- the operation is wide; no operation before it is, and no test before it fails
pub record IsFirstWide (most : ℕ) (steps : List Step) (o : Operation) : Type 0 where
  pub front : List Step
  pub step : Step
  pub back : List Step
  pub split : steps ≡ front ++ step ∷ back
  pub passed : All (IsPassed most) front
  pub before : Calculation
  pub after : Calculation
  pub operations : step.operations ≡ before ++ o ∷ after
  pub fits : All (λ p. is_wide most p ≡ false) before
  pub wide : is_wide most o ≡ true

-- what is answered as wide is the first wide operation of the steps
abbrev pub WideLaw : Type 0
WideLaw = (most : ℕ) (steps : List Step) (o : Operation) → (outcome_within most steps ≡ Wide o) ↔ IsFirstWide most steps o

-- a yes is said exactly where nothing is wide and every test passes
abbrev pub YesLaw : Type 0
YesLaw = (most : ℕ) (steps : List Step) → (outcome_within most steps ≡ Yes) ↔ All (IsPassed most) steps

-- ---- what a yes shows
-- a point
abbrev pub PointCheckLaw : Type 0
PointCheckLaw = (most : ℕ) (model : Program) (set : List Member) (x : Assignment) → outcome_within most (point_steps model set x) ≡ Yes → Satisfies model set x

-- a combination
abbrev pub CombinationCheckLaw : Type 0
CombinationCheckLaw = (most : ℕ) (model : Program) (set : List Member) (path : List Branch) (shares : List Share)
    → IsWellFormed model → All (λ b. b.column < length model.columns) path → outcome_within most (combination_steps model set path shares) ≡ Yes → IsCombination model set path shares

-- what it shows of the set: values that are taken are those of a point
abbrev pub SatisfiableLaw : Type 0
SatisfiableLaw = (most : ℕ) (model : Program) (set : List Member) (values : List ℚ) → outcome_within most (point_steps model set (values_at values)) ≡ Yes → IsSatisfiable model set

-- nothing on the path satisfies the set
abbrev pub RefutedLaw : Type 0
RefutedLaw = (most : ℕ) (model : Program) (set : List Member) (path : List Branch) (shares : List Share)
    → IsWellFormed model → All (λ b. b.column < length model.columns) path → outcome_within most (combination_steps model set path shares) ≡ Yes
    → (x : Assignment) → Satisfies model set x → KeepsPath x path → ⊥

-- without a path, no point does
abbrev pub UnsatisfiableLaw : Type 0
UnsatisfiableLaw = (most : ℕ) (model : Program) (set : List Member) (shares : List Share) → IsWellFormed model → outcome_within most (combination_steps model set [] shares) ≡ Yes → IsUnsatisfiable model set

-- a bound
abbrev pub BoundCheckLaw : Type 0
BoundCheckLaw = (most : ℕ) (model : Program) (set : List Member) (shares : List Share) (b : ℚ)
    → IsWellFormed model → outcome_within most (bound_steps model set shares b) ≡ Yes → IsBoundDual model set shares b

-- a dual of the least violation
abbrev pub LeastCheckLaw : Type 0
LeastCheckLaw = (most : ℕ) (model : Program) (set : List Member) (path : List Branch) (shares : List Share) (t : ℚ)
    → IsWellFormed model → All (λ b. b.column < length model.columns) path → outcome_within most (least_steps model set path shares t) ≡ Yes → IsLeastDual model set path shares t

-- a ray
abbrev pub RayCheckLaw : Type 0
RayCheckLaw = (most : ℕ) (model : Program) (set : List Member) (ray : Assignment) → outcome_within most (ray_steps model set ray) ≡ Yes → IsImproving model set ray

-- a price
abbrev pub PriceCheckLaw : Type 0
PriceCheckLaw = (most : ℕ) (model : Program) (set : List Member) (t : ℚ) (z : Assignment) → outcome_within most (price_steps model set t z) ≡ Yes → IsPrice model set t z

-- ---- and a no is never said of what holds
-- of a point
abbrev pub PointNoLaw : Type 0
PointNoLaw = (most : ℕ) (model : Program) (set : List Member) (x : Assignment) → Satisfies model set x → ¬ (outcome_within most (point_steps model set x) ≡ No)

-- of a combination
abbrev pub CombinationNoLaw : Type 0
CombinationNoLaw = (most : ℕ) (model : Program) (set : List Member) (path : List Branch) (shares : List Share)
    → IsCombination model set path shares → ¬ (outcome_within most (combination_steps model set path shares) ≡ No)

-- of a bound
abbrev pub BoundNoLaw : Type 0
BoundNoLaw = (most : ℕ) (model : Program) (set : List Member) (shares : List Share) (b : ℚ)
    → IsBoundDual model set shares b → ¬ (outcome_within most (bound_steps model set shares b) ≡ No)

-- of a dual of the least violation
abbrev pub LeastNoLaw : Type 0
LeastNoLaw = (most : ℕ) (model : Program) (set : List Member) (path : List Branch) (shares : List Share) (t : ℚ)
    → IsLeastDual model set path shares t → ¬ (outcome_within most (least_steps model set path shares t) ≡ No)

-- of a ray
abbrev pub RayNoLaw : Type 0
RayNoLaw = (most : ℕ) (model : Program) (set : List Member) (ray : Assignment) → IsImproving model set ray → ¬ (outcome_within most (ray_steps model set ray) ≡ No)

-- of a price
abbrev pub PriceNoLaw : Type 0
PriceNoLaw = (most : ℕ) (model : Program) (set : List Member) (t : ℚ) (z : Assignment) → IsPrice model set t z → ¬ (outcome_within most (price_steps model set t z) ≡ No)
