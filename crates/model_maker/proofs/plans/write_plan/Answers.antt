use Rattle.model_maker.proofs.Joined.{in_parts}
use Rattle.model_maker.proofs.plans.write_plan.Goals as goal

pub returns : goal.returns
returns c =
    in_parts c.args.periods c.in_ok-text.text.items c.push_cost.new.into.items c.extend_from_slice.new.self.items c.push_balances.new.into.items c.extend_from_slice-2.new.self.items c.push_bounds.new.into.items c.extend_from_slice-3.new.self.items
    c.in_ok-text.ensures.items c.in_ok-push_cost.ensures c.in_ok-extend_from_slice.ensures.items c.in_ok-push_balances.ensures c.in_ok-extend_from_slice-2.ensures.items c.in_ok-push_bounds.ensures c.in_ok-extend_from_slice-3.ensures.items
