use Rattle.std.proofs.Common.{◌≡◌, length}
use Rattle.std.specs.Prelude.{All}
use Rattle.lp_model.specs.MemberSets.{IsMemberFor}
use Rattle.lp_model.specs.Satisfaction.{values_at}
use Rattle.certs.specs.Checks.{outcome, price_steps}
use Rattle.price_checks.proofs.prices.is_price.Given as goal

-- the members that are still to come decide
abbrev pub invariant-loop-member : goal.invariant-loop-member
invariant-loop-member l = record {
  known : All (IsMemberFor (length l.model.rows) (length l.model.columns)) l.member-iterator;
  left : outcome (price_steps l.model l.member-iterator l.total (values_at l.values)) ≡ outcome (price_steps l.model l.set.members l.total (values_at l.values));
}
