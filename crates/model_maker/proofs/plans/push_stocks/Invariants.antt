use Rattle.std.proofs.Common.{◌≡◌, ◌<◌, ◌-◌, ◌++◌, map}
use Rattle.std.specs.Prelude.{codes}
use Rattle.std.specs.List.{range_with_len, flat_map}
use Rattle.model_maker.specs.PlanText.{stock}
use Rattle.model_maker.proofs.plans.push_stocks.Given as goal

-- the stocks so far are written; where none is to be written the first is not passed
abbrev pub invariant-loop-period : goal.invariant-loop-period
invariant-loop-period l = record {
  written : l.into.items ≡ l.initial.into.items ++ flat_map (λ name. codes " + " ++ name) (map stock (range_with_len 2 (l.period - 2)));
  none : l.periods < l.period → l.period ≡ 2;
}
