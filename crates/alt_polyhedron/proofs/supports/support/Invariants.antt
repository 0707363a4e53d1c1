use Rattle.std.proofs.Common.{◌≡◌, take}
use Rattle.lp_model.specs.Satisfaction.{values_at}
use Rattle.certs.specs.System.{support}
use Rattle.alt_polyhedron.proofs.supports.support.Given as goal

-- the shares of the members passed are there
abbrev pub invariant-loop-index : goal.invariant-loop-index
invariant-loop-index l = l.shares.items ≡ support (take l.index l.members) (values_at l.values)
