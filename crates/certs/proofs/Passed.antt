-- What a check's yes shows.
use Rattle.std.proofs.Common.{◌≡◌, ◌≤◌, ◌<◌, refl, sym, ◌∙◌, ap, ℕ, Bool, true, false, true≢false, cond, not, List, [], ◌∷◌, ◌++◌, map, length, Option, None, Some, IfSome, is_some, filter, arith, inl, inr}
use Rattle.std.specs.Prelude.{All}
use Rattle.std.proofs.lemmas.Bool.{and_parts, cases_lt}
use Rattle.std.proofs.lemmas.List.Elements.{All-head, All-tail, All-nil, All-cons}
use Rattle.algebra.proofs.Ring.{minus, zero_of}
use Rattle.rational.specs.Rational.{ℚ, neg_ℚ, zero_ℚ, lt_q, ◌-ℚ◌, ◌*ℚ◌, ◌≤ℚ◌, ◌<ℚ◌, eq_ℚ}
use Rattle.rational.specs.Linear.{Assignment, factor_of}
use Rattle.rational.proofs.Field.{ring_ℚ}
use Rattle.rational.proofs.Order.{le_q-true, lt_q-true}
use Rattle.rational.proofs.Compare.{eq-Decides}
use Rattle.lp_model.specs.declared.members.Member.{Member}
use Rattle.lp_model.specs.declared.members.Side.{Side}
use Rattle.lp_model.specs.declared.members.Side.TheVariants.{Lo, Up}
use Rattle.lp_model.specs.declared.parts.Weight.{Weight}
use Rattle.lp_model.specs.declared.parts.Weight.TheVariants.{Soft, Rigid}
use Rattle.lp_model.specs.Program.{Program, IsWellFormed}
use Rattle.lp_model.specs.Members.{value, number, side, weight}
use Rattle.lp_model.specs.Satisfaction.{Holds}
use Rattle.frac128.specs.declared.Wide.{Wide as Operation}
use Rattle.frac128.specs.Calculation.{first_wide}
use Rattle.certs.specs.declared.evidence.Branch.{Branch}
use Rattle.certs.specs.declared.evidence.Share.{Share}
use Rattle.certs.specs.Combination.{IsThere, signed, column_sum, right_side}
use Rattle.certs.specs.Violation.{weight_on, is_rigid, IsWithinWeight}
use Rattle.certs.specs.Bound.{directed, objective_value, IsKeptOn, KeepsRay}
use Rattle.certs.specs.Alternative.{cost_of, IsPriced, IsPrice}
use Rattle.certs.specs.declared.evidence.Checked.{Checked}
use Rattle.certs.specs.declared.evidence.Checked.TheVariants.{Yes, No}
use Rattle.certs.specs.Checks.{Step, unless_wide, outcome_within, every, every_below, holds_test, there_test, usable_test, within_test, point_steps, weight_operations, usable_step, columns_step, right_step, combination_steps, bound_steps, within_steps, least_steps, kept_test, ray_test, ray_steps, priced_steps, price_steps, PointCheckLaw, CombinationCheckLaw, BoundCheckLaw, LeastCheckLaw, RayCheckLaw, PriceCheckLaw}
use Rattle.lp_model.specs.Evaluation.{value_operations, member_operations}
use Rattle.certs.proofs.Lists.{All-passed, all_front, all_back}
use Rattle.certs.proofs.Further.{factor_past, further_columns_law}
use Rattle.certs.proofs.Evaluate.{every_all, every_below_all, holds-true, there-true, within-true}

unfoldable pub Passes : Step → Type 0
Passes s = s.passes ≡ true

-- ---- lists
all_under : {A B : Type 0} (P : B → Type 0) (f : A → B) (xs : List A) → All P (map f xs) → All (λ a. P (f a)) xs
all_under P f [] h = All-nil (λ a. P (f a))
all_under P f (x ∷ xs) h = All-cons (λ a. P (f a)) x xs (All-head P (f x) (map f xs) h) (all_under P f xs (All-tail P (f x) (map f xs) h))

all_mapped : {A : Type 0} (P Q : A → Type 0) → ((a : A) → P a → Q a) → (xs : List A) → All P xs → All Q xs
all_mapped P Q f xs h k d l = f _ (h k d l)

-- ---- a yes passes each test
step_yes : (o : Option Operation) (p : Bool) (r : Checked) → unless_wide o (cond p r No) ≡ Yes → (p ≡ true) × (r ≡ Yes)
step_yes None true r e = (refl, e)
step_yes None false r e = cc
step_yes (Some o) p r e = cc

yes_passes : (most : ℕ) (steps : List Step) → outcome_within most steps ≡ Yes → All Passes steps
unfolding Passes
yes_passes most [] e = All-nil Passes
yes_passes most (s ∷ steps) e =
    let both : (s.passes ≡ true) × (outcome_within most steps ≡ Yes) = step_yes (first_wide most s.operations) s.passes (outcome_within most steps) e in
    All-cons Passes s steps both.0 (yes_passes most steps both.1)

-- ---- the laws
pub point_check_law : PointCheckLaw
unfolding Passes
point_check_law most model set x e =
    all_mapped (λ m. holds_test model x m ≡ true) (Holds model x) (holds-true model x) set
    (all_under Passes (λ m. record { operations = member_operations model m x; passes = holds_test model x m }) set (yes_passes most (point_steps model set x) e))

-- ---- shares
usable_positive : (model : Program) (set : List Member) (path : List Branch) (shares : List Share) → usable_test model set path shares ≡ true → All (λ s. zero_ℚ <ℚ s.weight) shares
usable_positive model set path shares e =
    every_all (λ s. lt_q zero_ℚ s.weight) (λ s. zero_ℚ <ℚ s.weight) (λ s h. lt_q-true zero_ℚ s.weight h) shares (and_parts (every (λ s. lt_q zero_ℚ s.weight) shares) (every (there_test model set path) shares) e).0

pub usable_there : (model : Program) (set : List Member) (path : List Branch) (shares : List Share) → usable_test model set path shares ≡ true → All (IsThere model set path) shares
usable_there model set path shares e =
    every_all (there_test model set path) (IsThere model set path) (there-true model set path) shares (and_parts (every (λ s. lt_q zero_ℚ s.weight) shares) (every (there_test model set path) shares) e).1

columns_are : (model : Program) (set : List Member) (path : List Branch) (shares : List Share) (sums : ℕ → ℚ) → IsWellFormed model → All (λ b. b.column < length model.columns) path → All (IsThere model set path) shares
    → ((j : ℕ) → length model.columns ≤ j → sums j ≡ zero_ℚ) → every_below (λ j. eq_ℚ (column_sum model shares j) (sums j)) (length model.columns) ≡ true → (j : ℕ) → column_sum model shares j ≡ sums j
columns_are model set path shares sums f h t past e j =
    elim (cases_lt j (length model.columns)) [
      | inl l ↦ (eq-Decides (column_sum model shares j) (sums j)).0 (every_below_all (λ j. eq_ℚ (column_sum model shares j) (sums j)) (length model.columns) j e l)
      | inr l ↦ further_columns_law model set path shares f h t j l ∙ sym (past j l)
    ]

pub combination_check_law : CombinationCheckLaw
unfolding Passes
combination_check_law most model set path shares f h e =
    let p : All Passes (combination_steps model set path shares) = yes_passes most (combination_steps model set path shares) e in
    let first : Step = usable_step model set path shares in
    let usable : usable_test model set path shares ≡ true = p 0 first (omega arith) in
    record {
      positive = usable_positive model set path shares usable;
      there = usable_there model set path shares usable;
      cancels = columns_are model set path shares (λ j. zero_ℚ) f h (usable_there model set path shares usable) (λ j l. refl) (p 1 first (omega arith));
      contradicts = lt_q-true (right_side model path shares) zero_ℚ (p 2 first (omega arith));
    }

directed_nothing : (t : Bool) (q : ℚ) → q ≡ zero_ℚ → cond t q (neg_ℚ q) ≡ zero_ℚ
directed_nothing true q e = e
directed_nothing false q e = ap neg_ℚ e ∙ ring_ℚ [] (minus zero_of) zero_of tt

pub bound_check_law : BoundCheckLaw
unfolding Passes
bound_check_law most model set shares b f e =
    let p : All Passes (bound_steps model set shares b) = yes_passes most (bound_steps model set shares b) e in
    let first : Step = usable_step model set [] shares in
    let usable : usable_test model set [] shares ≡ true = p 0 first (omega arith) in
    record {
      positive = usable_positive model set [] shares usable;
      there = usable_there model set [] shares usable;
      matches = columns_are model set [] shares (λ j. directed model (factor_of model.objective j)) f (All-nil (λ (b : Branch). b.column < length model.columns)) (usable_there model set [] shares usable)
          (λ j l. directed_nothing model.maximise (factor_of model.objective j) (factor_past (length model.columns) model.objective j f.objective.known l)) (p 1 first (omega arith));
      bound = (eq-Decides (right_side model [] shares) (directed model b)).0 (p 2 first (omega arith));
    }

rigid_or : (q : ℚ) (w : Weight) → (not (is_rigid w) ≡ true → within_test q w ≡ true) → IsWithinWeight q w
rigid_or q (Soft w) h = within-true q (Soft w) (h refl)
rigid_or q Rigid h = tt

pub least_check_law : LeastCheckLaw
unfolding Passes
least_check_law most model set path shares t f h e =
    let last : Step = right_step model path shares (λ r. eq_ℚ t (neg_ℚ r)) in
    let first : Step = usable_step model set path shares in
    let second : Step = columns_step model shares (λ j. zero_ℚ) in
    let p : All Passes (first ∷ second ∷ (within_steps model set shares ++ last ∷ [])) = yes_passes most (least_steps model set path shares t) e in
    let usable : usable_test model set path shares ≡ true = All-head Passes first (second ∷ (within_steps model set shares ++ last ∷ [])) p in
    let p1 : All Passes (second ∷ (within_steps model set shares ++ last ∷ [])) = All-tail Passes first (second ∷ (within_steps model set shares ++ last ∷ [])) p in
    let p2 : All Passes (within_steps model set shares ++ last ∷ []) = All-tail Passes second (within_steps model set shares ++ last ∷ []) p1 in
    record {
      positive = usable_positive model set path shares usable;
      there = usable_there model set path shares usable;
      cancels = columns_are model set path shares (λ j. zero_ℚ) f h (usable_there model set path shares usable) (λ j l. refl) (All-head Passes second (within_steps model set shares ++ last ∷ []) p1);
      within =
          all_mapped (λ m. not (is_rigid (weight model m)) ≡ true → within_test (weight_on shares m) (weight model m) ≡ true) (λ m. IsWithinWeight (weight_on shares m) (weight model m))
          (λ m k. rigid_or (weight_on shares m) (weight model m) k) set
          (All-passed (λ m. not (is_rigid (weight model m))) (λ m. within_test (weight_on shares m) (weight model m) ≡ true) set
          (all_under Passes (λ m. record { operations = weight_operations shares m; passes = within_test (weight_on shares m) (weight model m) }) (filter (λ m. not (is_rigid (weight model m))) set)
          (all_front Passes (within_steps model set shares) (last ∷ []) p2)));
      total = (eq-Decides t (neg_ℚ (right_side model path shares))).0 (All-head Passes last [] (all_back Passes (within_steps model set shares) (last ∷ []) p2));
    }

-- ---- rays
kept_by : (s : Side) (v : ℚ) → kept_test s v ≡ true → IsKeptOn s v
kept_by Lo v e = le_q-true zero_ℚ v e
kept_by Up v e = le_q-true v zero_ℚ e

side_ray : (t : Bool) (P : Type 0) (b : Bool) → (b ≡ true → P) → cond t b true ≡ true → t ≡ true → P
side_ray true P b h e k = h e
side_ray false P b h e k = absurd (true≢false (sym k))

ray_kept : (model : Program) (ray : Assignment) (m : Member) → ray_test model ray m ≡ true → KeepsRay model ray m
ray_kept model ray m e = side_ray (is_some (number model m)) (IsKeptOn (side m) (value model m ray)) (kept_test (side m) (value model m ray)) (λ k. kept_by (side m) (value model m ray) k) e

pub ray_check_law : RayCheckLaw
unfolding Passes
ray_check_law most model set ray e =
    let each : List Step = map (λ m. record { operations = member_operations model m ray; passes = ray_test model ray m }) set in
    let last : Step = record { operations = value_operations model.objective ray; passes = lt_q (directed model zero_ℚ) (directed model (objective_value model ray)) } in
    let p : All Passes (each ++ last ∷ []) = yes_passes most (ray_steps model set ray) e in
    record {
      keeps =
          all_mapped (λ m. ray_test model ray m ≡ true) (KeepsRay model ray) (ray_kept model ray) set
          (all_under Passes (λ m. record { operations = member_operations model m ray; passes = ray_test model ray m }) set (all_front Passes each (last ∷ []) p));
      improves = lt_q-true (directed model zero_ℚ) (directed model (objective_value model ray)) (All-head Passes last [] (all_back Passes each (last ∷ []) p));
    }

-- ---- prices
member_priced : (model : Program) (t : ℚ) (z : Assignment) (m : Member) (o : Option ℚ) → All Passes (priced_steps model t z m o)
    → IfSome o (λ b. signed (side m) (value model m z) -ℚ t *ℚ signed (side m) b ≤ℚ cost_of (weight model m))
unfolding Passes
member_priced model t z m None h = tt
member_priced model t z m (Some b) h =
    le_q-true (signed (side m) (value model m z) -ℚ t *ℚ signed (side m) b) (cost_of (weight model m)) (h 0 (record { operations = []; passes = true }) (omega arith))

priced_all : (model : Program) (set : List Member) (t : ℚ) (z : Assignment) → All Passes (price_steps model set t z) → IsPrice model set t z
priced_all model [] t z h = All-nil (IsPriced model t z)
priced_all model (m ∷ set) t z h =
    let own : List Step = priced_steps model t z m (number model m) in
    All-cons (IsPriced model t z) m set
    (member_priced model t z m (number model m) (all_front Passes own (price_steps model set t z) h))
    (priced_all model set t z (all_back Passes own (price_steps model set t z) h))

pub price_check_law : PriceCheckLaw
price_check_law most model set t z e = priced_all model set t z (yes_passes most (price_steps model set t z) e)
