use Rattle.std.proofs.Common.{◌≡◌, ◌-◌, ◌++◌, ◌∙◌, ap, length, replicate, arith}
use Rattle.std.proofs.lemmas.List.{length-append, length-replicate}
use Rattle.rational.specs.Rational.{zero_ℚ}
use Rattle.certs.specs.Packed.{unpacked}
use Rattle.certs.proofs.Unpacked.{more_zeros}
use Rattle.certs.proofs.packed.PackedValues.fill.Goals as goal

pub invariant_of-self : goal.invariant_of-self
invariant_of-self c =
    let i = c.self.inside in
    let n = c.args.count - i.count in
    let whole = ap length c.self.view_is in
    let long = ap length (more_zeros i.entries.items i.rest n) ∙ length-append (unpacked i.entries.items i.rest) (replicate n zero_ℚ) in
    let zeros = length-replicate n zero_ℚ in
    (omega (arith, c.requires, c.self.invariant.0), omega (arith, c.requires, c.self.invariant))

pub returns : goal.returns
returns c =
    let i = c.self.inside in
    let count : i.count ≡ length c.args.self.now = c.self.invariant.0 ∙ ap length c.self.view_is in
    more_zeros i.entries.items i.rest (c.args.count - i.count) ∙ (λ j. c.self.view_is j ++ replicate (c.args.count - count j) zero_ℚ)
