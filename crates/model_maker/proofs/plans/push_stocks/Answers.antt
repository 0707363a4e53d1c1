use Rattle.std.proofs.Common.{◌≡◌, ℕ, ◌+◌, ◌-◌, ◌++◌, map, ap, ◌∙◌, arith}
use Rattle.std.specs.Prelude.{codes}
use Rattle.std.specs.List.{range_with_len, flat_map}
use Rattle.model_maker.specs.PlanText.{stock}
use Rattle.model_maker.proofs.Joined.{joined_more}
use Rattle.model_maker.proofs.plans.push_stocks.Goals as goal

pub loop-period-preserved : goal.loop-period-preserved
loop-period-preserved c = record {
  written =
      joined_more (λ name. codes " + " ++ name) stock c.args.into.now.items c.loop-period.into.items c.push_numbered.new.into.items 2 (c.loop-period.period - 2) (c.loop-period.period + 1 - 2) c.loop-period.period
      (omega arith) (omega arith) c.loop-period.invariant.written c.in_ok-push_numbered.ensures;
  none = λ past. absurd (omega arith);
}

pub returns-in_ok-push_numbered : goal.returns-in_ok-push_numbered
returns-in_ok-push_numbered c =
    joined_more (λ name. codes " + " ++ name) stock c.args.into.now.items c.loop-period.into.items c.push_numbered.new.into.items 2 (c.loop-period.period - 2) (c.args.periods - 1) c.loop-period.period
    (omega arith) (omega arith) c.loop-period.invariant.written c.in_ok-push_numbered.ensures

pub returns : goal.returns
returns c =
    let first : c.loop-period.period ≡ 2 = c.loop-period.invariant.none c.loop-period-test.false in
    let none : c.loop-period.period - 2 ≡ (c.args.periods - 1) = omega arith in
    c.loop-period.invariant.written ∙ ap (λ (n : ℕ). c.args.into.now.items ++ flat_map (λ name. codes " + " ++ name) (map stock (range_with_len 2 n))) none
