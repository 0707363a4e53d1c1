use Rattle.std.proofs.Common.{◌≡◌, ◌++◌}
use Rattle.trace_back.specs.Held.{weights_in}
use Rattle.trace_back.proofs.Lists.{listed, of_row}
use Rattle.trace_back.proofs.listing.push_rows.Given as goal

-- the shares of the rows passed are there
abbrev pub invariant-loop-row : goal.invariant-loop-row
invariant-loop-row l = record {
  items : l.shares.items ≡ l.initial.shares.items ++ listed l.weights.columns (of_row (weights_in l.weights)) l.weights.columns l.row;
}
