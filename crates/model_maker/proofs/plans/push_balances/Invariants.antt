use Rattle.std.proofs.Common.{◌≡◌, ◌<◌, ◌-◌, ◌++◌, map}
use Rattle.std.specs.List.{range_with_len}
use Rattle.model_maker.specs.PlanText.{balance_line, text_of}
use Rattle.model_maker.proofs.plans.push_balances.Given as goal

-- the rows of the periods so far are written; where none is to be written the first is not passed
abbrev pub invariant-loop-period : goal.invariant-loop-period
invariant-loop-period l = record {
  written : l.into.items ≡ l.initial.into.items ++ text_of (map (balance_line l.periods) (range_with_len 1 (l.period - 1)));
  none : l.periods < l.period → l.period ≡ 1;
}
