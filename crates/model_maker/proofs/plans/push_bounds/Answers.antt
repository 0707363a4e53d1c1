use Rattle.std.proofs.Common.{◌≡◌, ℕ, ◌+◌, ◌-◌, ◌++◌, map, ap, ◌∙◌, arith}
use Rattle.std.specs.List.{range_with_len}
use Rattle.model_maker.specs.PlanText.{bound_line, ended, text_of}
use Rattle.model_maker.proofs.Joined.{joined_more}
use Rattle.model_maker.proofs.plans.push_bounds.Goals as goal

pub loop-period-preserved : goal.loop-period-preserved
loop-period-preserved c = record {
  written =
      joined_more ended bound_line c.args.into.now.items c.loop-period.into.items c.push_bound.new.into.items 1 (c.loop-period.period - 1) (c.loop-period.period + 1 - 1) c.loop-period.period
      (omega arith) (omega arith) c.loop-period.invariant.written c.in_ok-push_bound.ensures;
  none = λ past. absurd (omega arith);
}

pub returns-in_ok-push_bound : goal.returns-in_ok-push_bound
returns-in_ok-push_bound c =
    joined_more ended bound_line c.args.into.now.items c.loop-period.into.items c.push_bound.new.into.items 1 (c.loop-period.period - 1) c.args.periods c.loop-period.period
    (omega arith) (omega arith) c.loop-period.invariant.written c.in_ok-push_bound.ensures

pub returns : goal.returns
returns c =
    let first : c.loop-period.period ≡ 1 = c.loop-period.invariant.none c.loop-period-test.false in
    let none : c.loop-period.period - 1 ≡ c.args.periods = omega arith in
    c.loop-period.invariant.written ∙ ap (λ (n : ℕ). c.args.into.now.items ++ text_of (map bound_line (range_with_len 1 n))) none
