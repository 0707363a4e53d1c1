-- Weak duality of the weighted violation.
use Rattle.std.proofs.Common.{◌≡◌, refl, sym, ap, subst, Bool, true, false, true≢false, cond, List, [], ◌∷◌, Option, None, Some, IsSome}
use Rattle.std.specs.Prelude.{All, Contains}
use Rattle.std.proofs.lemmas.List.Elements.{All-nil, All-contains, All-contains_itself, All-weaker, filter_passes}
use Rattle.algebra.proofs.Ring.{x0, x1, x2, x3, ◌:+◌, ◌:-◌, ◌:*◌, minus, unit_of, zero_of}
use Rattle.rational.specs.Rational.{ℚ, ◌+ℚ◌, ◌-ℚ◌, ◌*ℚ◌, one_ℚ, zero_ℚ, lt_q, ◌≤ℚ◌}
use Rattle.rational.specs.Sum.{sum_over}
use Rattle.rational.specs.Linear.{Assignment, form_value}
use Rattle.rational.proofs.Order.{le_by, le_refl_ℚ, le_trans_ℚ, le_of_lt_ℚ, nonneg-mul, nonneg-zero, nonneg_of_le, nonneg_is, lt_q-true, lt_q-false}
use Rattle.rational.proofs.Sums.{sum_over-add, sum_over-exchange, sum_over-nonneg, part-le-sum, sum_over-times}
use Rattle.lp_model.specs.declared.members.Member.{Member}
use Rattle.lp_model.specs.declared.members.Side.{Side}
use Rattle.lp_model.specs.declared.members.Side.TheVariants.{Lo, Up}
use Rattle.lp_model.specs.declared.parts.Weight.{Weight}
use Rattle.lp_model.specs.declared.parts.Weight.TheVariants.{Soft, Rigid}
use Rattle.lp_model.specs.Program.{Program}
use Rattle.lp_model.specs.Members.{has, value, number, side, weight}
use Rattle.lp_model.specs.Satisfaction.{coordinate, Holds, Satisfies}
use Rattle.lp_model.proofs.Sets.{contains_of_has, same_self}
use Rattle.certs.specs.declared.evidence.Branch.{Branch}
use Rattle.certs.specs.declared.evidence.Source.{Source}
use Rattle.certs.specs.declared.evidence.Source.TheVariants.{Member as Of, Below, Above}
use Rattle.certs.specs.declared.evidence.Share.{Share}
use Rattle.certs.specs.Combination.{KeepsBranch, KeepsPath, source_form, source_side, source_value, source_number, number_or_zero, signed, multiple, IsFrom, IsThere, right_side}
use Rattle.certs.specs.Violation.{larger, missed_by, violation, weighed, weighted_violation, is_rigid, is_of, weight_on, IsWithinWeight, LeastLaw, LeastPointLaw}
use Rattle.certs.proofs.Lists.{All-passed}
use Rattle.certs.proofs.Sides.{sum_over-le, all_both, source_value-is, left_side, left_side-is, member_keeps, KeepsSide, side_le, upper_kept, lower_kept}
use Rattle.certs.proofs.Refuted.{positive_nonneg}
use Rattle.evidence_laws.specs.Weighed.{IsDualWith, TotalLaw, WeighedLaw, rigid_with, violation_with, weight_beside}

-- ---- the larger of two
larger_left : (a b : ℚ) → a ≤ℚ larger a b
larger_left a b = go (lt_q a b) refl
  where
    go : (t : Bool) → lt_q a b ≡ t → a ≤ℚ cond t b a
    go true e = le_of_lt_ℚ (lt_q-true a b e)
    go false e = le_refl_ℚ a

pub larger_right : (a b : ℚ) → b ≤ℚ larger a b
larger_right a b = go (lt_q a b) refl
  where
    go : (t : Bool) → lt_q a b ≡ t → b ≤ℚ cond t b a
    go true e = le_refl_ℚ b
    go false e = lt_q-false a b e

pub larger_least : (a b c : ℚ) → a ≤ℚ c → b ≤ℚ c → larger a b ≤ℚ c
larger_least a b c h k = go (lt_q a b)
  where
    go : (t : Bool) → cond t b a ≤ℚ c
    go true = k
    go false = h

missed_nonneg : (side : Side) (o : Option ℚ) (v : ℚ) → zero_ℚ ≤ℚ missed_by side o v
missed_nonneg Lo None v = le_refl_ℚ zero_ℚ
missed_nonneg Up None v = le_refl_ℚ zero_ℚ
missed_nonneg Lo (Some b) v = larger_left zero_ℚ (b -ℚ v)
missed_nonneg Up (Some b) v = larger_left zero_ℚ (v -ℚ b)

pub violation_nonneg : (model : Program) (x : Assignment) (m : Member) → zero_ℚ ≤ℚ violation model x m
violation_nonneg model x m = missed_nonneg (side m) (number model m) (value model m x)

-- ---- a share's inequality, with what its source is missed by
missed_le : (side : Side) (o : Option ℚ) (w v : ℚ) → zero_ℚ ≤ℚ w → IsSome o → signed side w *ℚ v ≤ℚ (signed side w *ℚ number_or_zero o) +ℚ (w *ℚ missed_by side o v)
missed_le side None w v h t = absurd (true≢false (sym t))
missed_le Lo (Some b) w v h t =
    le_by (b ∷ w ∷ v ∷ larger zero_ℚ (b -ℚ v) ∷ []) (minus x1 :* x2) (minus x1 :* x0 :+ x1 :* x3) (x1 :* (x3 :- (x0 :- x2)))
    (nonneg-mul (nonneg_is.0 h) (nonneg_of_le (larger_right zero_ℚ (b -ℚ v)))) tt
missed_le Up (Some b) w v h t =
    le_by (b ∷ w ∷ v ∷ larger zero_ℚ (v -ℚ b) ∷ []) (x1 :* x2) (x1 :* x0 :+ x1 :* x3) (x1 :* (x3 :- (x2 :- x0)))
    (nonneg-mul (nonneg_is.0 h) (nonneg_of_le (larger_right zero_ℚ (v -ℚ b)))) tt

-- what a share may be short of: the violation of a soft member, and nothing for the rest
soft_part : Weight → ℚ → ℚ
soft_part (Soft w) v = v
soft_part Rigid v = zero_ℚ

soft_part_nonneg : (w : Weight) (v : ℚ) → zero_ℚ ≤ℚ v → zero_ℚ ≤ℚ soft_part w v
unfolding soft_part
soft_part_nonneg (Soft w) v h = h
soft_part_nonneg Rigid v h = le_refl_ℚ zero_ℚ

no_slack : (side : Side) (o : Option ℚ) (w v : ℚ) → zero_ℚ ≤ℚ w → IsSome o → KeepsSide side o v → signed side w *ℚ v ≤ℚ (signed side w *ℚ number_or_zero o) +ℚ (w *ℚ zero_ℚ)
no_slack side o w v h t k =
    le_by (signed side w ∷ v ∷ number_or_zero o ∷ w ∷ []) (x0 :* x1) (x0 :* x2 :+ x3 :* zero_of) (x0 :* x2 :- x0 :* x1) (nonneg_of_le (side_le side o w v h t k)) tt

nothing_le : (a w : ℚ) → zero_ℚ ≤ℚ a → w *ℚ zero_ℚ ≤ℚ a
nothing_le a w h = le_by (a ∷ w ∷ []) (x1 :* zero_of) x0 x0 (nonneg_is.0 h) tt

within_weight : (q v : ℚ) (g : Weight) → zero_ℚ ≤ℚ v → IsWithinWeight q g → q *ℚ soft_part g v ≤ℚ weighed g v
unfolding soft_part
within_weight q v (Soft w) h k = le_by (q ∷ v ∷ w ∷ []) (x0 :* x1) (x2 :* x1) ((x2 :- x0) :* x1) (nonneg-mul (nonneg_of_le k) (nonneg_is.0 h)) tt
within_weight q v Rigid h k = le_by (q ∷ []) (x0 :* zero_of) zero_of zero_of nonneg-zero tt

-- ---- with any weights
module _ (weigh : Member → Weight) where
  soft : Program → Assignment → Member → ℚ
  soft model x m = soft_part (weigh m) (violation model x m)

  soft_nonneg : (model : Program) (x : Assignment) (m : Member) → zero_ℚ ≤ℚ soft model x m
  unfolding soft
  soft_nonneg model x m = soft_part_nonneg (weigh m) (violation model x m) (violation_nonneg model x m)

  slack : Program → Assignment → Source → ℚ
  slack model x (Of m) = soft model x m
  slack model x (Below j) = zero_ℚ
  slack model x (Above j) = zero_ℚ

  member_missed : (model : Program) (x : Assignment) (m : Member) (w : ℚ) → zero_ℚ ≤ℚ w → IsSome (number model m)
      → (is_rigid (weigh m) ≡ true → Holds model x m) → (g : Weight) → weigh m ≡ g
      → signed (side m) w *ℚ value model m x ≤ℚ (signed (side m) w *ℚ number_or_zero (number model m)) +ℚ (w *ℚ soft_part g (violation model x m))
  unfolding soft_part
  member_missed model x m w h t r (Soft v) e = missed_le (side m) (number model m) w (value model m x) h t
  member_missed model x m w h t r Rigid e = no_slack (side m) (number model m) w (value model m x) h t (member_keeps model x m (r (ap is_rigid e)))

  source_missed : (model : Program) (set : List Member) (path : List Branch) (x : Assignment) → All (λ m. is_rigid (weigh m) ≡ true → Holds model x m) set → KeepsPath x path
      → (s : Source) (w : ℚ) → zero_ℚ ≤ℚ w → IsFrom set s → IsSome (source_number model path s)
      → signed (source_side s) w *ℚ source_value model x s ≤ℚ (signed (source_side s) w *ℚ number_or_zero (source_number model path s)) +ℚ (w *ℚ slack model x s)
  unfolding slack soft KeepsSide
  source_missed model set path x r k (Of m) w h c t =
      member_missed model x m w h t (All-contains (λ m. is_rigid (weigh m) ≡ true → Holds model x m) set m r c) (weigh m) refl
  source_missed model set path x r k (Below j) w h c t = no_slack Up (source_number model path (Below j)) w (x j) h t (upper_kept x path j k)
  source_missed model set path x r k (Above j) w h c t = no_slack Lo (source_number model path (Above j)) w (x j) h t (lower_kept x path j k)

  -- ---- the slack of the shares, gathered by members
  given : Program → Assignment → Share → Member → ℚ
  given model x s m = cond (is_of m s.source) s.weight zero_ℚ *ℚ soft model x m

  given_nonneg : (model : Program) (x : Assignment) (s : Share) → zero_ℚ ≤ℚ s.weight → (m : Member) → zero_ℚ ≤ℚ given model x s m
  unfolding given
  given_nonneg model x s h m = go (is_of m s.source)
    where
      go : (t : Bool) → zero_ℚ ≤ℚ cond t s.weight zero_ℚ *ℚ soft model x m
      go true = nonneg_is.1 (nonneg-mul (nonneg_is.0 h) (nonneg_is.0 (soft_nonneg model x m)))
      go false = nonneg_is.1 (nonneg-mul (nonneg_is.0 (le_refl_ℚ zero_ℚ)) (nonneg_is.0 (soft_nonneg model x m)))

  slack_given : (model : Program) (set : List Member) (x : Assignment) (s : Source) (w : ℚ) → zero_ℚ ≤ℚ w → IsFrom set s
      → w *ℚ slack model x s ≤ℚ sum_over (given model x (record { source = s; weight = w })) set
  unfolding slack given
  slack_given model set x (Of m) w h c =
      subst (λ t. cond t w zero_ℚ *ℚ soft model x m ≤ℚ sum_over (given model x (record { source = Of m; weight = w })) set) (same_self m)
      (part-le-sum (given model x (record { source = Of m; weight = w })) (given_nonneg model x (record { source = Of m; weight = w }) h) set m c)
  slack_given model set x (Below j) w h c =
      nothing_le _ w (sum_over-nonneg (given model x (record { source = Below j; weight = w })) (given_nonneg model x (record { source = Below j; weight = w }) h) set)
  slack_given model set x (Above j) w h c =
      nothing_le _ w (sum_over-nonneg (given model x (record { source = Above j; weight = w })) (given_nonneg model x (record { source = Above j; weight = w }) h) set)

  gathered : (model : Program) (x : Assignment) (shares : List Share) (m : Member) → sum_over (λ s. given model x s m) shares ≡ weight_on shares m *ℚ soft model x m
  unfolding given
  gathered model x shares m = sum_over-times (λ (s : Share). cond (is_of m s.source) s.weight zero_ℚ) (soft model x m) shares

  within_member : (model : Program) (x : Assignment) (q : ℚ) (m : Member) → IsWithinWeight q (weigh m) → q *ℚ soft model x m ≤ℚ weighed (weigh m) (violation model x m)
  unfolding soft
  within_member model x q m a = within_weight q (violation model x m) (weigh m) (violation_nonneg model x m) a

  least_steps : (model : Program) (set : List Member) (path : List Branch) (shares : List Share) (t : ℚ) → IsDualWith weigh model set path shares t
      → (x : Assignment) → All (λ m. is_rigid (weigh m) ≡ true → Holds model x m) set → KeepsPath x path
      → left_side model shares x ≤ℚ right_side model path shares +ℚ sum_over (λ s. s.weight *ℚ slack model x s.source) shares
  unfolding left_side
  least_steps model set path shares t d x r k =
      subst (λ z. left_side model shares x ≤ℚ z) (sum_over-add (λ s. multiple s *ℚ number_or_zero (source_number model path s.source)) (λ s. s.weight *ℚ slack model x s.source) shares)
      (sum_over-le (λ s. (zero_ℚ ≤ℚ s.weight) × IsThere model set path s) (λ s. multiple s *ℚ form_value (source_form model s.source) x)
      (λ s. (multiple s *ℚ number_or_zero (source_number model path s.source)) +ℚ (s.weight *ℚ slack model x s.source))
      (λ s a. subst (λ v. multiple s *ℚ v ≤ℚ (multiple s *ℚ number_or_zero (source_number model path s.source)) +ℚ (s.weight *ℚ slack model x s.source)) (source_value-is model x s.source)
      (source_missed model set path x r k s.source s.weight a.0 a.1.from a.1.number))
      shares (all_both (λ s. zero_ℚ ≤ℚ s.weight) (IsThere model set path) shares (positive_nonneg shares d.positive) d.there))

  slack_le : (model : Program) (set : List Member) (path : List Branch) (shares : List Share) (x : Assignment) → All (λ s. zero_ℚ ≤ℚ s.weight) shares → All (IsThere model set path) shares
      → All (λ m. IsWithinWeight (weight_on shares m) (weigh m)) set
      → sum_over (λ s. s.weight *ℚ slack model x s.source) shares ≤ℚ violation_with weigh model set x
  slack_le model set path shares x w t within =
      le_trans_ℚ
      (sum_over-le (λ s. (zero_ℚ ≤ℚ s.weight) × IsThere model set path s) (λ s. s.weight *ℚ slack model x s.source) (λ s. sum_over (given model x s) set)
      (λ s a. slack_given model set x s.source s.weight a.0 a.1.from)
      shares (all_both (λ s. zero_ℚ ≤ℚ s.weight) (IsThere model set path) shares w t))
      (subst (λ z. z ≤ℚ violation_with weigh model set x) (sym (sum_over-exchange (given model x) shares set))
      (sum_over-le (λ m. IsWithinWeight (weight_on shares m) (weigh m)) (λ m. sum_over (λ s. given model x s m) shares) (λ m. weighed (weigh m) (violation model x m))
      (λ m a. subst (λ z. z ≤ℚ weighed (weigh m) (violation model x m)) (sym (gathered model x shares m)) (within_member model x (weight_on shares m) m a))
      set within))

  weighed_bound : (model : Program) (set : List Member) (path : List Branch) (shares : List Share) (t : ℚ) → IsDualWith weigh model set path shares t
      → (x : Assignment) → Satisfies model (rigid_with weigh set) x → KeepsPath x path → t ≤ℚ violation_with weigh model set x
  weighed_bound model set path shares t d x h k =
      let r : All (λ m. is_rigid (weigh m) ≡ true → Holds model x m) set = All-passed (λ m. is_rigid (weigh m)) (Holds model x) set h in
      let start : zero_ℚ ≤ℚ right_side model path shares +ℚ sum_over (λ s. s.weight *ℚ slack model x s.source) shares =
      subst (λ z. z ≤ℚ right_side model path shares +ℚ sum_over (λ s. s.weight *ℚ slack model x s.source) shares) (left_side-is model shares [] d.cancels x) (least_steps model set path shares t d x r k) in
      subst (λ z. z ≤ℚ violation_with weigh model set x) (sym d.total)
      (le_trans_ℚ
      (le_by (right_side model path shares ∷ sum_over (λ s. s.weight *ℚ slack model x s.source) shares ∷ []) (minus x0) x1 ((x0 :+ x1) :- zero_of) (nonneg_of_le start) tt)
      (slack_le model set path shares x (positive_nonneg shares d.positive) d.there d.within))

pub weighed_law : WeighedLaw
weighed_law = weighed_bound

-- ---- with the program's weights
pub least_law : LeastLaw
least_law model set path shares t d =
    weighed_law (weight model) model set path shares t (record { positive = d.positive; there = d.there; cancels = d.cancels; within = d.within; total = d.total })

pub least_point_law : LeastPointLaw
least_point_law model set shares p d h =
    record { satisfies = h; least = λ q k. least_law model set [] shares (weighted_violation model set (coordinate p)) d (coordinate q) k (All-nil (KeepsBranch (coordinate q))) }

-- ---- beside enforced members
-- what is rigid is enforced
rigid_there : (t : Bool) → is_rigid (cond t Rigid (Soft one_ℚ)) ≡ true → t ≡ true
rigid_there true e = refl
rigid_there false e = e

rigid_hold : (model : Program) (enforced : List Member) (x : Assignment) → Satisfies model enforced x → (m : Member) → is_rigid (weight_beside enforced m) ≡ true → Holds model x m
rigid_hold model enforced x h m e = All-contains (Holds model x) enforced m h (contains_of_has enforced m (rigid_there (has enforced m) e))

-- each violation counts at most once
counted_once : (t : Bool) (v : ℚ) → zero_ℚ ≤ℚ v → weighed (cond t Rigid (Soft one_ℚ)) v ≤ℚ v
counted_once true v h = h
counted_once false v h = le_by (v ∷ []) (unit_of :* x0) x0 zero_of nonneg-zero tt

pub total_law : TotalLaw
total_law model set enforced shares t d x h =
    le_trans_ℚ
    (weighed_law (weight_beside enforced) model set [] shares t d x
    (All-weaker (λ m. is_rigid (weight_beside enforced m) ≡ true) (Holds model x) (rigid_hold model enforced x h) (rigid_with (weight_beside enforced) set)
    (filter_passes (λ m. is_rigid (weight_beside enforced m)) set))
    (All-nil (KeepsBranch x)))
    (sum_over-le (Contains set) (λ m. weighed (weight_beside enforced m) (violation model x m)) (violation model x)
    (λ m c. counted_once (has enforced m) (violation model x m) (violation_nonneg model x m)) set (All-contains_itself set))
