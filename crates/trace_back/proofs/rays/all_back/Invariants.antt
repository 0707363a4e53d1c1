use Rattle.std.proofs.Common.{◌≡◌, ℕ, length}
use Rattle.std.specs.Prelude.{All}
use Rattle.frac128.specs.Limit.{limit}
use Rattle.frac128.specs.Calculation.{first_wide}
use Rattle.lp_model.specs.Satisfaction.{values_at}
use Rattle.trace_back.specs.Back.{ray_back as before_all, ray_work}
use Rattle.reductions.specs.Known.{IsKnownStep}
use Rattle.trace_back.proofs.rays.all_back.Given as goal

-- the steps left, the last ones of which are done, make the rest, and the first wide operation is still to come
abbrev pub invariant-loop-step : goal.invariant-loop-step
invariant-loop-step l = record {
  known : (rows : ℕ) × All (IsKnownStep (length l.fn.values) rows) l.rest;
  back : before_all l.rest (values_at l.values) ≡ before_all l.fn.steps (values_at l.fn.values);
  work : first_wide limit (ray_work l.rest (values_at l.values)) ≡ first_wide limit (ray_work l.fn.steps (values_at l.fn.values));
}

abbrev pub decreases-loop-step : goal.decreases-loop-step
decreases-loop-step l = length l.rest
