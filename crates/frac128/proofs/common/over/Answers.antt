use Rattle.std.proofs.Common.{◌≡◌, ◌*ℤ◌, pos, [], ◌∷◌, ◌/◌, ap, sym, ◌∙◌}
use Rattle.std.specs.Int.{w128}
use Rattle.std.proofs.Math.Nat.{div_self}
use Rattle.std.proofs.lemmas.Int.{to_z-of_z}
use Rattle.algebra.proofs.Ring.{ring_ℤ, unit_of, x0, ◌:*◌}
use Rattle.frac128.proofs.common.over.Goals as goal

pub returns-then-den-multiple-clause-is : goal.returns-then-den-multiple-clause-is
returns-then-den-multiple-clause-is c =
    to_z-of_z w128 c.args.num c.ranges.num
    ∙ ring_ℤ (c.args.num ∷ []) x0 (x0 :* unit_of) tt
    ∙ ap (λ k. c.args.num *ℤ pos k) (sym (ap (λ m. m / c.args.den) (sym c.if-den-multiple.true) ∙ div_self c.requires.some))
