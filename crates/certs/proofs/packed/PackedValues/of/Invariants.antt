use Rattle.std.proofs.Common.{◌≡◌, take}
use Rattle.certs.proofs.packed.PackedValues.of.Given as goal

-- the values so far are kept
abbrev pub invariant-loop-value : goal.invariant-loop-value
invariant-loop-value l = l.packed ≡ take l.value-index l.values
