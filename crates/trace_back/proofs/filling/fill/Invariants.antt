use Rattle.std.proofs.Common.{◌≡◌, drop}
use Rattle.trace_back.specs.Held.{IsHeld, weights_in, written}
use Rattle.trace_back.proofs.filling.fill.Given as goal

-- the shares left make the rest
abbrev pub invariant-loop-share : goal.invariant-loop-share
invariant-loop-share l = record {
  columns : l.weights.columns ≡ l.fn.weights.columns;
  rows : l.weights.rows ≡ l.fn.weights.rows;
  held : IsHeld l.weights;
  made : written l.fn.weights.columns (drop l.share-index l.shares) (weights_in l.weights) ≡ written l.fn.weights.columns l.shares (weights_in l.fn.weights);
}
