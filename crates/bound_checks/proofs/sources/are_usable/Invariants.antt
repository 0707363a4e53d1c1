use Rattle.std.proofs.Common.{◌≡◌, [], drop}
use Rattle.certs.specs.Checks.{usable_test}
use Rattle.bound_checks.proofs.sources.are_usable.Given as goal

-- the shares left decide
abbrev pub invariant-loop-share : goal.invariant-loop-share
invariant-loop-share l = usable_test l.model l.set.members [] (drop l.share-index l.shares) ≡ usable_test l.model l.set.members [] l.shares
