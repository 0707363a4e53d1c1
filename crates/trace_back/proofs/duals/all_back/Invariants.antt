use Rattle.std.proofs.Common.{◌≡◌, length}
use Rattle.std.specs.Prelude.{All}
use Rattle.frac128.specs.Limit.{limit}
use Rattle.frac128.specs.Calculation.{first_wide}
use Rattle.reductions.specs.Known.{IsKnownStep}
use Rattle.trace_back.specs.Held.{IsHeld, weights_in}
use Rattle.trace_back.specs.Back.{bound_back, duals_back, duals_work}
use Rattle.trace_back.proofs.duals.all_back.Given as goal

-- the steps left, the last ones of which are done, make the rest, and the first wide operation is still to come
abbrev pub invariant-loop-step : goal.invariant-loop-step
invariant-loop-step l = record {
  columns : l.weights.columns ≡ l.fn.weights.columns;
  rows : l.weights.rows ≡ l.fn.weights.rows;
  held : IsHeld l.weights;
  known : All (IsKnownStep l.fn.weights.columns l.fn.weights.rows) l.rest;
  back : duals_back l.fn.weights.columns l.rest (weights_in l.weights) ≡ duals_back l.fn.weights.columns l.fn.steps (weights_in l.fn.weights);
  bound : bound_back l.rest l.so_far ≡ bound_back l.fn.steps l.fn.bound;
  work : first_wide limit (duals_work l.fn.weights.columns l.rest (weights_in l.weights) l.so_far)
      ≡ first_wide limit (duals_work l.fn.weights.columns l.fn.steps (weights_in l.fn.weights) l.fn.bound);
}

abbrev pub decreases-loop-step : goal.decreases-loop-step
decreases-loop-step l = length l.rest
