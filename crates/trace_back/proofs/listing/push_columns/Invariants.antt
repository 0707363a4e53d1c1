use Rattle.std.proofs.Common.{◌≡◌, ◌++◌}
use Rattle.reductions.specs.Back.{share_of}
use Rattle.trace_back.specs.Held.{weights_in}
use Rattle.trace_back.proofs.Lists.{listed}
use Rattle.trace_back.proofs.listing.push_columns.Given as goal

-- the shares of the columns passed are there
abbrev pub invariant-loop-column : goal.invariant-loop-column
invariant-loop-column l = record {
  items : l.shares.items ≡ l.initial.shares.items ++ listed l.weights.columns (share_of (weights_in l.weights) l.side) 0 l.column;
}
