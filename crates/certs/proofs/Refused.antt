-- A check's no is never said of what holds.
use Rattle.std.proofs.Common.{◌≡◌, refl, sym, ℕ, zero, suc, Bool, true, false, true≢false, cond, ◌==◌, not, List, [], ◌∷◌, ◌++◌, map, length, Option, None, Some, IfSome, is_some, filter, eq-eqb}
use Rattle.std.specs.Prelude.{All}
use Rattle.std.proofs.lemmas.Bool.{and_from}
use Rattle.std.proofs.lemmas.List.Elements.{All-head, All-tail, All-nil, All-cons, All-append, All-map, All-weaker, All-filter}
use Rattle.rational.specs.Rational.{ℚ, neg_ℚ, zero_ℚ, lt_q, le_q, ◌-ℚ◌, ◌*ℚ◌, ◌≤ℚ◌, ◌<ℚ◌, eq_ℚ}
use Rattle.rational.specs.Linear.{Assignment, factor_of}
use Rattle.rational.proofs.Compare.{eq-Decides, le_q-Decides, lt_q-Decides}
use Rattle.lp_model.specs.declared.members.Member.{Member}
use Rattle.lp_model.specs.declared.members.Member.TheVariants.{RowLo, RowUp, Lower, Upper, Whole}
use Rattle.lp_model.specs.declared.members.Side.{Side}
use Rattle.lp_model.specs.declared.members.Side.TheVariants.{Lo, Up}
use Rattle.lp_model.specs.declared.parts.Weight.{Weight}
use Rattle.lp_model.specs.declared.parts.Weight.TheVariants.{Soft, Rigid}
use Rattle.lp_model.specs.Program.{Program, column_at}
use Rattle.lp_model.specs.Members.{form, value, number, side, weight}
use Rattle.lp_model.specs.Satisfaction.{IsAtLeast, IsAtMost, Holds}
use Rattle.frac128.specs.declared.Op.TheVariants.{Times, Minus}
use Rattle.frac128.specs.declared.Wide.{Wide as Operation}
use Rattle.frac128.specs.Width.{operation}
use Rattle.frac128.specs.Calculation.{first_wide}
use Rattle.lp_model.proofs.Sets.{has_of_contains}
use Rattle.certs.proofs.Passed.{Passes}
use Rattle.certs.specs.declared.evidence.Branch.{Branch}
use Rattle.certs.specs.declared.evidence.Source.{Source}
use Rattle.certs.specs.declared.evidence.Source.TheVariants.{Member as Of, Below, Above}
use Rattle.certs.specs.declared.evidence.Share.{Share}
use Rattle.certs.specs.Combination.{IsFrom, IsThere, source_number, signed, column_sum, right_side}
use Rattle.certs.specs.Violation.{weight_on, is_rigid, IsWithinWeight}
use Rattle.certs.specs.Bound.{directed, objective_value, IsKeptOn, KeepsRay}
use Rattle.certs.specs.Alternative.{cost_of, IsPriced, IsPrice}
use Rattle.certs.specs.declared.evidence.Checked.{Checked}
use Rattle.certs.specs.declared.evidence.Checked.TheVariants.{No}
use Rattle.certs.specs.Checks.{Step, unless_wide, outcome_within, every, every_below, at_least_test, at_most_test, holds_test, from_test, there_test, usable_test, within_test, weight_operations, point_steps, usable_step, columns_step, right_step, combination_steps, bound_steps, within_steps, least_steps, kept_test, ray_test, ray_steps, signed_terms, priced_steps, price_steps, PointNoLaw, CombinationNoLaw, BoundNoLaw, LeastNoLaw, RayNoLaw, PriceNoLaw}
use Rattle.lp_model.specs.Evaluation.{value_operations, member_operations}

step_never : (o : Option Operation) (p : Bool) (r : Checked) → p ≡ true → (r ≡ No → ⊥) → unless_wide o (cond p r No) ≡ No → ⊥
step_never None true r e h k = h k
step_never None false r e h k = true≢false (sym e)
step_never (Some o) p r e h k = cc

never_no : (most : ℕ) (steps : List Step) → All Passes steps → outcome_within most steps ≡ No → ⊥
unfolding Passes
never_no most [] p e = cc
never_no most (s ∷ steps) p e = step_never (first_wide most s.operations) s.passes (outcome_within most steps) (All-head Passes s steps p) (never_no most steps (All-tail Passes s steps p)) e

-- ---- what holds passes its test
pub every_passes : {A : Type 0} (test : A → Bool) (P : A → Type 0) → ((a : A) → P a → test a ≡ true) → (xs : List A) → All P xs → every test xs ≡ true
every_passes test P h [] p = refl
every_passes test P h (a ∷ xs) p = and_from (test a) (every test xs) (h a (All-head P a xs p)) (every_passes test P h xs (All-tail P a xs p))

below_passes : (test : ℕ → Bool) (n : ℕ) → ((j : ℕ) → test j ≡ true) → every_below test n ≡ true
below_passes test zero h = refl
below_passes test (suc n) h = and_from (every_below test n) (test n) (below_passes test n h) (h n)

at_least_passes : (o : Option ℚ) (v : ℚ) → IsAtLeast o v → at_least_test o v ≡ true
at_least_passes None v h = refl
at_least_passes (Some b) v h = (le_q-Decides b v).1 h

at_most_passes : (o : Option ℚ) (v : ℚ) → IsAtMost o v → at_most_test o v ≡ true
at_most_passes None v h = refl
at_most_passes (Some b) v h = (le_q-Decides v b).1 h

mark_passes : (t : Bool) (d : ℕ) → (t ≡ true → d ≡ 1) → cond t (d == 1) true ≡ true
mark_passes true d h = eq-eqb d 1 (h refl)
mark_passes false d h = refl

pub holds_passes : (model : Program) (x : Assignment) (m : Member) → Holds model x m → holds_test model x m ≡ true
holds_passes model x (RowLo i) h = at_least_passes (number model (RowLo i)) (value model (RowLo i) x) h
holds_passes model x (RowUp i) h = at_most_passes (number model (RowUp i)) (value model (RowUp i) x) h
holds_passes model x (Lower j) h = at_least_passes (number model (Lower j)) (value model (Lower j) x) h
holds_passes model x (Upper j) h = at_most_passes (number model (Upper j)) (value model (Upper j) x) h
holds_passes model x (Whole j) h = mark_passes (column_at model j).whole (x j).den h

from_passes : (set : List Member) (s : Source) → IsFrom set s → from_test set s ≡ true
from_passes set (Of m) c = has_of_contains set m c
from_passes set (Below j) c = refl
from_passes set (Above j) c = refl

usable_passes : (model : Program) (set : List Member) (path : List Branch) (shares : List Share) → All (λ s. zero_ℚ <ℚ s.weight) shares → All (IsThere model set path) shares → usable_test model set path shares ≡ true
usable_passes model set path shares p t =
    and_from (every (λ s. lt_q zero_ℚ s.weight) shares) (every (there_test model set path) shares)
    (every_passes (λ s. lt_q zero_ℚ s.weight) (λ s. zero_ℚ <ℚ s.weight) (λ s h. (lt_q-Decides zero_ℚ s.weight).1 h) shares p)
    (every_passes (there_test model set path) (IsThere model set path) (λ s h. and_from (from_test set s.source) (is_some (source_number model path s.source)) (from_passes set s.source h.from) h.number) shares t)

-- ---- the laws
pub point_no_law : PointNoLaw
unfolding Passes
point_no_law most model set x h =
    never_no most (point_steps model set x)
    (All-map Passes (λ m. record { operations = member_operations model m x; passes = holds_test model x m }) set (All-weaker (Holds model x) (λ m. holds_test model x m ≡ true) (holds_passes model x) set h))

pub combination_no_law : CombinationNoLaw
unfolding Passes
combination_no_law most model set path shares c =
    never_no most (combination_steps model set path shares)
    (All-cons Passes (usable_step model set path shares) (columns_step model shares (λ j. zero_ℚ) ∷ right_step model path shares (λ r. lt_q r zero_ℚ) ∷ []) (usable_passes model set path shares c.positive c.there)
    (All-cons Passes (columns_step model shares (λ j. zero_ℚ)) (right_step model path shares (λ r. lt_q r zero_ℚ) ∷ [])
    (below_passes (λ j. eq_ℚ (column_sum model shares j) zero_ℚ) (length model.columns) (λ j. (eq-Decides (column_sum model shares j) zero_ℚ).1 (c.cancels j)))
    (All-cons Passes (right_step model path shares (λ r. lt_q r zero_ℚ)) [] ((lt_q-Decides (right_side model path shares) zero_ℚ).1 c.contradicts) (All-nil Passes))))

pub bound_no_law : BoundNoLaw
unfolding Passes
bound_no_law most model set shares b d =
    let second : Step = columns_step model shares (λ j. directed model (factor_of model.objective j)) in
    let third : Step = right_step model [] shares (λ r. eq_ℚ r (directed model b)) in
    never_no most (bound_steps model set shares b)
    (All-cons Passes (usable_step model set [] shares) (second ∷ third ∷ []) (usable_passes model set [] shares d.positive d.there)
    (All-cons Passes second (third ∷ [])
    (below_passes (λ j. eq_ℚ (column_sum model shares j) (directed model (factor_of model.objective j))) (length model.columns)
    (λ j. (eq-Decides (column_sum model shares j) (directed model (factor_of model.objective j))).1 (d.matches j)))
    (All-cons Passes third [] ((eq-Decides (right_side model [] shares) (directed model b)).1 d.bound) (All-nil Passes))))

within_passes : (q : ℚ) (w : Weight) → IsWithinWeight q w → within_test q w ≡ true
within_passes q (Soft w) h = (le_q-Decides q w).1 h
within_passes q Rigid h = refl

pub least_no_law : LeastNoLaw
unfolding Passes
least_no_law most model set path shares t d =
    let first : Step = usable_step model set path shares in
    let second : Step = columns_step model shares (λ j. zero_ℚ) in
    let last : Step = right_step model path shares (λ r. eq_ℚ t (neg_ℚ r)) in
    let soft : List Member = filter (λ m. not (is_rigid (weight model m))) set in
    never_no most (least_steps model set path shares t)
    (All-cons Passes first (second ∷ (within_steps model set shares ++ last ∷ [])) (usable_passes model set path shares d.positive d.there)
    (All-cons Passes second (within_steps model set shares ++ last ∷ [])
    (below_passes (λ j. eq_ℚ (column_sum model shares j) zero_ℚ) (length model.columns) (λ j. (eq-Decides (column_sum model shares j) zero_ℚ).1 (d.cancels j)))
    (All-append Passes (within_steps model set shares) (last ∷ [])
    (All-map Passes (λ m. record { operations = weight_operations shares m; passes = within_test (weight_on shares m) (weight model m) }) soft
    (All-weaker (λ m. IsWithinWeight (weight_on shares m) (weight model m)) (λ m. within_test (weight_on shares m) (weight model m) ≡ true) (λ m h. within_passes (weight_on shares m) (weight model m) h) soft
    (All-filter (λ m. not (is_rigid (weight model m))) (λ m. IsWithinWeight (weight_on shares m) (weight model m)) set d.within)))
    (All-cons Passes last [] ((eq-Decides t (neg_ℚ (right_side model path shares))).1 d.total) (All-nil Passes)))))

kept_passes : (s : Side) (v : ℚ) → IsKeptOn s v → kept_test s v ≡ true
kept_passes Lo v h = (le_q-Decides zero_ℚ v).1 h
kept_passes Up v h = (le_q-Decides v zero_ℚ).1 h

ray_side_passes : (t b : Bool) → (t ≡ true → b ≡ true) → cond t b true ≡ true
ray_side_passes true b h = h refl
ray_side_passes false b h = refl

ray_passes : (model : Program) (ray : Assignment) (m : Member) → KeepsRay model ray m → ray_test model ray m ≡ true
ray_passes model ray m h =
    ray_side_passes (is_some (number model m)) (kept_test (side m) (value model m ray)) (λ e. kept_passes (side m) (value model m ray) (h e))

pub ray_no_law : RayNoLaw
unfolding Passes
ray_no_law most model set ray d =
    let each : List Step = map (λ m. record { operations = member_operations model m ray; passes = ray_test model ray m }) set in
    let last : Step = record { operations = value_operations model.objective ray; passes = lt_q (directed model zero_ℚ) (directed model (objective_value model ray)) } in
    never_no most (ray_steps model set ray)
    (All-append Passes each (last ∷ [])
    (All-map Passes (λ m. record { operations = member_operations model m ray; passes = ray_test model ray m }) set (All-weaker (KeepsRay model ray) (λ m. ray_test model ray m ≡ true) (ray_passes model ray) set d.keeps))
    (All-cons Passes last [] ((lt_q-Decides (directed model zero_ℚ) (directed model (objective_value model ray))).1 d.improves) (All-nil Passes)))

member_passes : (model : Program) (t : ℚ) (z : Assignment) (m : Member) (o : Option ℚ) → IfSome o (λ b. signed (side m) (value model m z) -ℚ t *ℚ signed (side m) b ≤ℚ cost_of (weight model m)) → All Passes (priced_steps model t z m o)
unfolding Passes
member_passes model t z m None h = All-nil Passes
member_passes model t z m (Some b) h =
    All-cons Passes
    (record {
      operations = value_operations (signed_terms (side m) (form model m)) z
          ++ operation Times t (signed (side m) b)
          ∷ operation Minus (signed (side m) (value model m z)) (t *ℚ signed (side m) b)
          ∷ [];
      passes = le_q (signed (side m) (value model m z) -ℚ t *ℚ signed (side m) b) (cost_of (weight model m));
    }) []
    ((le_q-Decides (signed (side m) (value model m z) -ℚ t *ℚ signed (side m) b) (cost_of (weight model m))).1 h) (All-nil Passes)

price_passes : (model : Program) (set : List Member) (t : ℚ) (z : Assignment) → IsPrice model set t z → All Passes (price_steps model set t z)
price_passes model [] t z h = All-nil Passes
price_passes model (m ∷ set) t z h =
    All-append Passes (priced_steps model t z m (number model m)) (price_steps model set t z) (member_passes model t z m (number model m) (All-head (IsPriced model t z) m set h))
    (price_passes model set t z (All-tail (IsPriced model t z) m set h))

pub price_no_law : PriceNoLaw
price_no_law most model set t z h = never_no most (price_steps model set t z) (price_passes model set t z h)
