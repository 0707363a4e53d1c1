-- A price goes by its values of the columns.
use Rattle.std.proofs.Common.{◌≡◌, ◌<◌, refl, sym, ◌∙◌, subst, ℕ, List, [], length, Option, None, Some, IfSome, IsSome}
use Rattle.std.proofs.lemmas.List.Elements.{All-nil, All-weaker}
use Rattle.rational.specs.Rational.{ℚ, ◌*ℚ◌, ◌-ℚ◌, ◌≤ℚ◌}
use Rattle.rational.specs.Linear.{Assignment}
use Rattle.lp_model.specs.declared.members.Member.{Member}
use Rattle.lp_model.specs.Program.{Program, IsWellFormed}
use Rattle.lp_model.specs.Members.{form, number, side, value, weight}
use Rattle.lp_model.proofs.Points.{value_law}
use Rattle.certs.specs.declared.evidence.Branch.{Branch}
use Rattle.certs.specs.declared.evidence.Source.TheVariants.{Member as Of}
use Rattle.certs.specs.Alternative.{cost_of, IsPrice, IsPriced}
use Rattle.certs.specs.Combination.{signed}
use Rattle.certs.proofs.Further.{source_known}
use Rattle.relaxation.proofs.Solved.{same_form}

module _ (model : Program) (formed : IsWellFormed model) (y z : Assignment) (same : (j : ℕ) → j < length model.columns → y j ≡ z j) where
  -- a member that asks for a number has one value
  same_value : (m : Member) → IsSome (number model m) → value model m y ≡ value model m z
  same_value m some =
      value_law model m y
      ∙ same_form (length model.columns) (form model m) y z (source_known model [] formed (All-nil (λ (b : Branch). b.column < length model.columns)) (Of m) some) same
      ∙ sym (value_law model m z)

  same_priced : (t : ℚ) (m : Member) → IsPriced model t y m → IsPriced model t z m
  same_priced t m h = by (number model m) refl h
    where
      by : (o : Option ℚ) → number model m ≡ o → IfSome o (λ b. signed (side m) (value model m y) -ℚ t *ℚ signed (side m) b ≤ℚ cost_of (weight model m))
          → IfSome o (λ b. signed (side m) (value model m z) -ℚ t *ℚ signed (side m) b ≤ℚ cost_of (weight model m))
      by None e h = tt
      by (Some b) e h = subst (λ v. signed (side m) v -ℚ t *ℚ signed (side m) b ≤ℚ cost_of (weight model m)) (same_value m (subst IsSome (sym e) refl)) h

  pub same_price : (set : List Member) (t : ℚ) → IsPrice model set t y → IsPrice model set t z
  same_price set t h = All-weaker (IsPriced model t y) (IsPriced model t z) (λ m k. same_priced t m k) set h
