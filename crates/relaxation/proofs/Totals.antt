-- Weighted and total violations of a set, over its soft members alone.
use Rattle.std.proofs.Common.{◌≡◌, refl, sym, ◌∙◌, ap, Bool, true, false, cond, not, List, [], ◌∷◌, filter}
use Rattle.std.proofs.lemmas.List.Elements.{All-contains}
use Rattle.algebra.proofs.Ring.{x0, ◌:+◌, ◌:*◌, unit_of, zero_of}
use Rattle.rational.specs.Rational.{ℚ, ◌+ℚ◌, ◌*ℚ◌, zero_ℚ, one_ℚ}
use Rattle.rational.specs.Sum.{sum_over}
use Rattle.rational.specs.Linear.{Assignment}
use Rattle.rational.proofs.Field.{ring_ℚ}
use Rattle.lp_model.specs.declared.members.Member.{Member}
use Rattle.lp_model.specs.declared.parts.Weight.{Weight}
use Rattle.lp_model.specs.declared.parts.Weight.TheVariants.{Soft, Rigid}
use Rattle.lp_model.specs.Program.{Program}
use Rattle.lp_model.specs.Members.{has, weight}
use Rattle.lp_model.specs.Satisfaction.{Holds, Satisfies}
use Rattle.lp_model.proofs.Sets.{contains_of_has}
use Rattle.certs.specs.Alternative.{cost_of}
use Rattle.certs.specs.Elastic.{soft_members}
use Rattle.certs.specs.Violation.{is_rigid, rigid_members, total_violation, violation, weighed, weighted_violation}
use Rattle.certs.proofs.HasLists.{agree_on, has_of_filter}
use Rattle.relaxation.proofs.Missing.{holds_unmissed}

nothing_more : (a : ℚ) → zero_ℚ +ℚ a ≡ a
nothing_more a = ring_ℚ (a ∷ []) (zero_of :+ x0) x0 tt

-- ---- weights
-- with the rigid members enforced those are soft that are not rigid
soft_are : (model : Program) (set : List Member) → soft_members set (rigid_members model set) ≡ filter (λ m. not (is_rigid (weight model m))) set
soft_are model set = agree_on (λ m. not (has (rigid_members model set) m)) (λ m. not (is_rigid (weight model m))) set (λ m c. ap not (has_of_filter (λ m. is_rigid (weight model m)) set m c))

weighed_sum : (model : Program) (x : Assignment) (list : List Member) → weighted_violation model list x ≡ sum_over (λ m. cost_of (weight model m) *ℚ violation model x m) (filter (λ m. not (is_rigid (weight model m))) list)
weighed_sum model x [] = refl
weighed_sum model x (m ∷ list) = by (weighed_sum model x list) (weight model m) refl
  where
    by : weighted_violation model list x ≡ sum_over (λ m. cost_of (weight model m) *ℚ violation model x m) (filter (λ m. not (is_rigid (weight model m))) list)
        → (w : Weight) → weight model m ≡ w
        → weighed (weight model m) (violation model x m) +ℚ weighted_violation model list x
        ≡ sum_over (λ m. cost_of (weight model m) *ℚ violation model x m) (cond (not (is_rigid (weight model m))) (m ∷ filter (λ m. not (is_rigid (weight model m))) list) (filter (λ m. not (is_rigid (weight model m))) list))
    by rest (Soft w) e =
        ap (λ g. weighed g (violation model x m) +ℚ weighted_violation model list x) e
        ∙ ap (λ z. w *ℚ violation model x m +ℚ z) rest
        ∙ ap (λ g. cost_of g *ℚ violation model x m +ℚ sum_over (λ m. cost_of (weight model m) *ℚ violation model x m) (filter (λ m. not (is_rigid (weight model m))) list)) (sym e)
        ∙ ap (λ g. sum_over (λ m. cost_of (weight model m) *ℚ violation model x m) (cond (not (is_rigid g)) (m ∷ filter (λ m. not (is_rigid (weight model m))) list) (filter (λ m. not (is_rigid (weight model m))) list))) (sym e)
    by rest Rigid e =
        ap (λ g. weighed g (violation model x m) +ℚ weighted_violation model list x) e
        ∙ nothing_more (weighted_violation model list x)
        ∙ rest
        ∙ ap (λ g. sum_over (λ m. cost_of (weight model m) *ℚ violation model x m) (cond (not (is_rigid g)) (m ∷ filter (λ m. not (is_rigid (weight model m))) list) (filter (λ m. not (is_rigid (weight model m))) list))) (sym e)

pub weighted_is : (model : Program) (set : List Member) (x : Assignment) → sum_over (λ m. cost_of (weight model m) *ℚ violation model x m) (soft_members set (rigid_members model set)) ≡ weighted_violation model set x
weighted_is model set x = ap (sum_over (λ m. cost_of (weight model m) *ℚ violation model x m)) (soft_are model set) ∙ sym (weighed_sum model x set)

-- ---- each weight 1
module _ (model : Program) (enforced : List Member) (x : Assignment) (satisfies : Satisfies model enforced x) where
  pub total_is : (list : List Member) → sum_over (λ m. one_ℚ *ℚ violation model x m) (soft_members list enforced) ≡ total_violation model list x
  total_is [] = refl
  total_is (m ∷ list) = by (total_is list) (has enforced m) refl
    where
      by : sum_over (λ m. one_ℚ *ℚ violation model x m) (soft_members list enforced) ≡ total_violation model list x
          → (b : Bool) → has enforced m ≡ b
          → sum_over (λ m. one_ℚ *ℚ violation model x m) (cond (not (has enforced m)) (m ∷ soft_members list enforced) (soft_members list enforced)) ≡ violation model x m +ℚ total_violation model list x
      by rest true e =
          ap (λ b. sum_over (λ m. one_ℚ *ℚ violation model x m) (cond (not b) (m ∷ soft_members list enforced) (soft_members list enforced))) e
          ∙ rest
          ∙ sym (nothing_more (total_violation model list x))
          ∙ ap (λ z. z +ℚ total_violation model list x) (sym (holds_unmissed model x m (All-contains (Holds model x) enforced m satisfies (contains_of_has enforced m e))))
      by rest false e =
          ap (λ b. sum_over (λ m. one_ℚ *ℚ violation model x m) (cond (not b) (m ∷ soft_members list enforced) (soft_members list enforced))) e
          ∙ ap (λ z. one_ℚ *ℚ violation model x m +ℚ z) rest
          ∙ ap (λ z. z +ℚ total_violation model list x) (ring_ℚ (violation model x m ∷ []) (unit_of :* x0) x0 tt)
