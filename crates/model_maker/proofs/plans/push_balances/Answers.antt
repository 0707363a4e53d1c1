use Rattle.std.proofs.Common.{◌≡◌, ℕ, ◌+◌, ◌-◌, ◌++◌, map, ap, ◌∙◌, arith}
use Rattle.std.specs.List.{range_with_len}
use Rattle.model_maker.specs.PlanText.{balance_line, ended, text_of}
use Rattle.model_maker.proofs.Joined.{joined_more}
use Rattle.model_maker.proofs.plans.push_balances.Goals as goal

pub loop-period-preserved : goal.loop-period-preserved
loop-period-preserved c = record {
  written =
      joined_more ended (balance_line c.args.periods) c.args.into.now.items c.loop-period.into.items c.push_balance.new.into.items 1 (c.loop-period.period - 1) (c.loop-period.period + 1 - 1) c.loop-period.period
      (omega arith) (omega arith) c.loop-period.invariant.written c.in_ok-push_balance.ensures;
  none = λ past. absurd (omega arith);
}

pub returns-in_ok-push_balance : goal.returns-in_ok-push_balance
returns-in_ok-push_balance c =
    joined_more ended (balance_line c.args.periods) c.args.into.now.items c.loop-period.into.items c.push_balance.new.into.items 1 (c.loop-period.period - 1) c.args.periods c.loop-period.period
    (omega arith) (omega arith) c.loop-period.invariant.written c.in_ok-push_balance.ensures

pub returns : goal.returns
returns c =
    let first : c.loop-period.period ≡ 1 = c.loop-period.invariant.none c.loop-period-test.false in
    let none : c.loop-period.period - 1 ≡ c.args.periods = omega arith in
    c.loop-period.invariant.written ∙ ap (λ (n : ℕ). c.args.into.now.items ++ text_of (map (balance_line c.args.periods) (range_with_len 1 n))) none
