use Rattle.std.proofs.Common.{◌≡◌, ◌++◌, take}
use Rattle.std.specs.List.{filter}
use Rattle.certs.specs.Named.{is_below}
use Rattle.certs.proofs.naming.push_below.Given as goal

-- those of the shares passed are there
abbrev pub invariant-loop-share : goal.invariant-loop-share
invariant-loop-share l = l.list.items ≡ l.initial.list.items ++ filter (λ s. is_below l.column s.source) (take l.share-index l.shares)
