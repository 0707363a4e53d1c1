-- A member holds where its value keeps its number on its side.
use Rattle.std.proofs.Common.{◌≡◌, true≢false, false, [], ◌∷◌, Option, None, Some, IsSome, refl}
use Rattle.algebra.proofs.Ring.{x0, x1, ◌:-◌, minus}
use Rattle.rational.specs.Rational.{ℚ, ◌≤ℚ◌}
use Rattle.rational.specs.Linear.{Assignment}
use Rattle.rational.proofs.Order.{le_by, nonneg_of_le}
use Rattle.lp_model.specs.declared.members.Member.{Member}
use Rattle.lp_model.specs.declared.members.Member.TheVariants.{RowLo, RowUp, Lower, Upper, Whole}
use Rattle.lp_model.specs.declared.members.Side.{Side}
use Rattle.lp_model.specs.declared.members.Side.TheVariants.{Lo, Up}
use Rattle.lp_model.specs.Program.{Program}
use Rattle.lp_model.specs.Members.{value, number, side, is_mark}
use Rattle.lp_model.specs.Satisfaction.{Holds}
use Rattle.certs.specs.Combination.{number_or_zero, signed}
use Rattle.certs.proofs.Sides.{KeepsSide}

pub holds_of : (model : Program) (x : Assignment) (m : Member) → is_mark m ≡ false → KeepsSide (side m) (number model m) (value model m x) → Holds model x m
unfolding KeepsSide
holds_of model x (RowLo i) e h = h
holds_of model x (RowUp i) e h = h
holds_of model x (Lower j) e h = h
holds_of model x (Upper j) e h = h
holds_of model x (Whole j) e h = absurd (true≢false e)

-- a value whose sign's inequality is kept where there is a number
pub side_of_le : (side : Side) (o : Option ℚ) (v : ℚ) → (IsSome o → signed side v ≤ℚ signed side (number_or_zero o)) → KeepsSide side o v
unfolding KeepsSide
side_of_le Lo None v h = tt
side_of_le Up None v h = tt
side_of_le Lo (Some b) v h = le_by (b ∷ v ∷ []) x0 x1 (minus x0 :- minus x1) (nonneg_of_le (h refl)) tt
side_of_le Up (Some b) v h = h refl
