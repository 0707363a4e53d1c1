use Rattle.std.proofs.Common.{◌≡◌, sym, ◌∙◌, subst, List, [], true}
use Rattle.rational.specs.Rational.{ℚ}
use Rattle.lp_model.specs.declared.members.Member.{Member}
use Rattle.lp_model.specs.Satisfaction.{Satisfies, values_at}
use Rattle.certs.specs.Violation.{IsLeastDual}
use Rattle.certs.specs.declared.evidence.Share.{Share}
use Rattle.certs.specs.Order.{are_in_order}
use Rattle.certs.proofs.PlainOrder.{in_order_by_test}
use Rattle.quick_answers.proofs.least.confirmed.Goals as goal

pub returns-then-is_yes-2 : goal.returns-then-is_yes-2
returns-then-is_yes-2 c =
    let model = c.args.model.now in
    let set = c.args.set.now.members in
    let shares = c.args.found.combo.shares in
    let x = values_at c.args.found.point.values in
    let bound = c.negate-bound.result in
    let here = c.is_point.ensures c.if-is_point.true in
    let total = c.checked_violation.ensures model set x bound (sym c.check_violation.ensures ∙ c.is_yes-then-is_yes.ensures c.if-is_yes-2.true) in
    let dual = c.check_least.ensures.dual (c.is_yes.ensures c.if-is_yes.true) in
    record {
      each_column = here.each_column;
      least = c.reached_is_least.ensures model set shares x (subst (λ (l : List Member). Satisfies model l x) c.requires.rigid_are here.satisfies)
          (subst (λ (t : ℚ). IsLeastDual model set [] shares t) (sym total) dual);
      total = total;
      dual_of = dual;
      ordered = in_order_by_test shares (subst (λ (l : List Share). are_in_order l ≡ true) c.as_slice.ensures (sym c.are_in_order.ensures ∙ c.if-are_in_order.true));
    }
