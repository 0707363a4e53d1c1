use Rattle.std.proofs.Common.{◌≡◌, ◌++◌, drop}
use Rattle.certs.specs.Packed.{unpacked}
use Rattle.certs.proofs.packed.PackedValues.unpacked.Given as goal

-- the values that are left are still to come
abbrev pub invariant-loop-entry : goal.invariant-loop-entry
invariant-loop-entry l = l.values.items ++ unpacked (drop l.entry-index l.self-inside.entries.items) l.self-inside.rest ≡ unpacked l.self-inside.entries.items l.self-inside.rest
