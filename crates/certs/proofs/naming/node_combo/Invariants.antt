use Rattle.std.proofs.Common.{◌≡◌, map, take}
use Rattle.certs.specs.Named.{translated}
use Rattle.certs.proofs.naming.node_combo.Given as goal

-- the shares passed are there as ones of the program
abbrev pub invariant-loop-share : goal.invariant-loop-share
invariant-loop-share l = l.shares.items ≡ map (translated l.model l.set.members l.path) (take l.share-index l.combo.shares)
