use Rattle.std.proofs.Common.{◌≡◌, take}
use Rattle.certs.specs.Plain.{negated}
use Rattle.certs.proofs.plain_systems.negated.Given as goal

-- the terms passed are there with the other sign
abbrev pub invariant-loop-term : goal.invariant-loop-term
invariant-loop-term l = l.negative.items ≡ negated (take l.term-index l.terms)
