use Rattle.std.proofs.Common.{◌≡◌, ◌++◌, not, take}
use Rattle.std.specs.List.{filter, flat_map}
use Rattle.certs.specs.Ended.{numbers_from}
use Rattle.certs.specs.Named.{is_member, on_column}
use Rattle.certs.proofs.naming.arranged.Given as goal

-- the shares passed are parted
abbrev pub invariant-loop-share : goal.invariant-loop-share
invariant-loop-share l = record {
  members : l.list.items ≡ filter (λ s. is_member s.source) (take l.share-index l.shares);
  others : l.branches.items ≡ filter (λ s. not (is_member s.source)) (take l.share-index l.shares);
}

-- the branches on the columns passed are there
abbrev pub invariant-loop-column : goal.invariant-loop-column
invariant-loop-column l = l.list.items ≡ l.initial.list.items ++ flat_map (on_column l.branches.items) (numbers_from 0 l.column)
