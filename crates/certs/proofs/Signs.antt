-- The sign of a side, as a factor.
use Rattle.std.proofs.Common.{◌≡◌, ◌∷◌, []}
use Rattle.algebra.proofs.Ring.{x0, ◌:*◌, minus, unit_of}
use Rattle.rational.specs.Rational.{ℚ, ◌*ℚ◌, one_ℚ}
use Rattle.rational.proofs.Field.{ring_ℚ}
use Rattle.lp_model.specs.declared.members.Side.{Side}
use Rattle.lp_model.specs.declared.members.Side.TheVariants.{Lo, Up}
use Rattle.certs.specs.Combination.{signed}

pub signed_as : (side : Side) (q : ℚ) → signed side q ≡ signed side one_ℚ *ℚ q
signed_as Lo q = ring_ℚ (q ∷ []) (minus x0) (minus unit_of :* x0) tt
signed_as Up q = ring_ℚ (q ∷ []) x0 (unit_of :* x0) tt
