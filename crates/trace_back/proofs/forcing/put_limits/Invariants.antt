use Rattle.std.proofs.Common.{◌≡◌, vec_len}
use Rattle.trace_back.specs.Held.{AreColumns, IsHeld, shares_written, weights_in}
use Rattle.trace_back.proofs.forcing.put_limits.Given as goal

-- the limits left, the last of which are written, make the rest
abbrev pub invariant-loop-limit : goal.invariant-loop-limit
invariant-loop-limit l = record {
  columns : l.weights.columns ≡ l.fn.weights.columns;
  rows : l.weights.rows ≡ l.fn.weights.rows;
  held : IsHeld l.weights;
  known : AreColumns l.fn.weights.columns l.limits.items;
  written : shares_written l.limits.items (weights_in l.weights) ≡ shares_written l.fn.limits.items (weights_in l.fn.weights);
}

abbrev pub decreases-loop-limit : goal.decreases-loop-limit
decreases-loop-limit l = vec_len l.limits
