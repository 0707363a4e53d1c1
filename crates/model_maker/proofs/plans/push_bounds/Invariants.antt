use Rattle.std.proofs.Common.{◌≡◌, ◌<◌, ◌-◌, ◌++◌, map}
use Rattle.std.specs.List.{range_with_len}
use Rattle.model_maker.specs.PlanText.{bound_line, text_of}
use Rattle.model_maker.proofs.plans.push_bounds.Given as goal

-- the bounds of the periods so far are written; where none is to be written the first is not passed
abbrev pub invariant-loop-period : goal.invariant-loop-period
invariant-loop-period l = record {
  written : l.into.items ≡ l.initial.into.items ++ text_of (map bound_line (range_with_len 1 (l.period - 1)));
  none : l.periods < l.period → l.period ≡ 1;
}
