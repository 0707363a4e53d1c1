-- Weak duality of the cost of weightings.
use Rattle.std.proofs.Common.{sym, ◌∙◌, ap, subst, true≢false, List, [], ◌∷◌, Option, None, Some, IsSome}
use Rattle.std.specs.Prelude.{All, IfSome}
use Rattle.std.proofs.lemmas.List.Elements.{All-contains}
use Rattle.algebra.proofs.Ring.{x0, x1, x2, x3, x4, ◌:+◌, ◌:-◌, ◌:*◌, minus, zero_of, unit_of}
use Rattle.rational.specs.Rational.{ℚ, ◌+ℚ◌, ◌-ℚ◌, ◌*ℚ◌, neg_ℚ, zero_ℚ, ◌≤ℚ◌}
use Rattle.rational.specs.Linear.{Assignment, form_value}
use Rattle.rational.proofs.Field.{ring_ℚ}
use Rattle.rational.proofs.Order.{le_by, nonneg-mul, nonneg_of_le, nonneg_is}
use Rattle.rational.proofs.Sums.{sum_over-add, sum_over-scale}
use Rattle.lp_model.specs.declared.members.Member.{Member}
use Rattle.lp_model.specs.declared.members.Side.{Side}
use Rattle.lp_model.specs.declared.members.Side.TheVariants.{Lo, Up}
use Rattle.lp_model.specs.Program.{Program}
use Rattle.lp_model.specs.Members.{value, number, side, weight}
use Rattle.certs.specs.declared.evidence.Source.{Source}
use Rattle.certs.specs.declared.evidence.Source.TheVariants.{Member as Of, Below, Above}
use Rattle.certs.specs.declared.evidence.Share.{Share}
use Rattle.certs.specs.Combination.{source_form, source_side, source_value, source_number, number_or_zero, signed, multiple, IsFrom, IsThere, right_side}
use Rattle.certs.specs.Alternative.{cost_of, source_cost, cost, IsPriced, IsPrice, PriceLaw}
use Rattle.certs.proofs.Sides.{sum_over-le, all_both, source_value-is, left_side, left_side-is}

priced_on : (side : Side) (o : Option ℚ) (w v t c : ℚ) → zero_ℚ ≤ℚ w → IsSome o → IfSome o (λ b. signed side v -ℚ t *ℚ signed side b ≤ℚ c)
    → (signed side w *ℚ v) +ℚ (neg_ℚ t *ℚ (signed side w *ℚ number_or_zero o)) ≤ℚ c *ℚ w
priced_on side None w v t c h s p = absurd (true≢false (sym s))
priced_on Lo (Some b) w v t c h s p =
    le_by (b ∷ w ∷ v ∷ t ∷ c ∷ []) (minus x1 :* x2 :+ minus x3 :* (minus x1 :* x0)) (x4 :* x1) (x1 :* (x4 :- (minus x2 :- x3 :* minus x0))) (nonneg-mul (nonneg_is.0 h) (nonneg_of_le p)) tt
priced_on Up (Some b) w v t c h s p =
    le_by (b ∷ w ∷ v ∷ t ∷ c ∷ []) (x1 :* x2 :+ minus x3 :* (x1 :* x0)) (x4 :* x1) (x1 :* (x4 :- (x2 :- x3 :* x0))) (nonneg-mul (nonneg_is.0 h) (nonneg_of_le p)) tt

source_priced : (model : Program) (set : List Member) (t : ℚ) (z : Assignment) → IsPrice model set t z → (s : Source) (w : ℚ) → zero_ℚ ≤ℚ w → IsFrom set s → IsSome (source_number model [] s)
    → (signed (source_side s) w *ℚ source_value model z s) +ℚ (neg_ℚ t *ℚ (signed (source_side s) w *ℚ number_or_zero (source_number model [] s))) ≤ℚ source_cost model s *ℚ w
source_priced model set t z p (Of m) w h c s = priced_on (side m) (number model m) w (value model m z) t (cost_of (weight model m)) h s (All-contains (IsPriced model t z) set m p c)
source_priced model set t z p (Below j) w h c s = absurd (true≢false (sym s))
source_priced model set t z p (Above j) w h c s = absurd (true≢false (sym s))

price_sum : (model : Program) (set : List Member) (t : ℚ) (z : Assignment) → IsPrice model set t z → (shares : List Share) → All (λ s. zero_ℚ ≤ℚ s.weight) shares → All (IsThere model set []) shares
    → left_side model shares z +ℚ neg_ℚ t *ℚ right_side model [] shares ≤ℚ cost model shares
unfolding left_side
price_sum model set t z p shares w there =
    subst (λ q. q ≤ℚ cost model shares)
    (sum_over-add (λ s. multiple s *ℚ form_value (source_form model s.source) z) (λ s. neg_ℚ t *ℚ (multiple s *ℚ number_or_zero (source_number model [] s.source))) shares
    ∙ ap (λ q. left_side model shares z +ℚ q) (sum_over-scale (neg_ℚ t) (λ s. multiple s *ℚ number_or_zero (source_number model [] s.source)) shares))
    (sum_over-le (λ s. (zero_ℚ ≤ℚ s.weight) × IsThere model set [] s)
    (λ s. (multiple s *ℚ form_value (source_form model s.source) z) +ℚ (neg_ℚ t *ℚ (multiple s *ℚ number_or_zero (source_number model [] s.source))))
    (λ s. source_cost model s.source *ℚ s.weight)
    (λ s a. subst (λ v. (multiple s *ℚ v) +ℚ (neg_ℚ t *ℚ (multiple s *ℚ number_or_zero (source_number model [] s.source))) ≤ℚ source_cost model s.source *ℚ s.weight) (source_value-is model z s.source)
    (source_priced model set t z p s.source s.weight a.0 a.1.from a.1.number))
    shares (all_both (λ s. zero_ℚ ≤ℚ s.weight) (IsThere model set []) shares w there))

pub price_law : PriceLaw
price_law model set t z p shares y =
    subst (λ q. q ≤ℚ cost model shares) (ring_ℚ (t ∷ []) (zero_of :+ minus x0 :* minus unit_of) x0 tt)
    (subst (λ r. zero_ℚ +ℚ neg_ℚ t *ℚ r ≤ℚ cost model shares) y.contradicts
    (subst (λ l. l +ℚ neg_ℚ t *ℚ right_side model [] shares ≤ℚ cost model shares) (left_side-is model shares [] y.cancels z) (price_sum model set t z p shares y.nonnegative y.there)))
