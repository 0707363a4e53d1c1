use Rattle.std.proofs.Common.{◌≡◌, refl, sym, ◌∙◌, subst, List, true, true≢false}
use Rattle.lp_model.specs.declared.members.Member.{Member}
use Rattle.lp_model.specs.Satisfaction.{Satisfies, values_at}
use Rattle.certs.specs.Bound.{IsBoundDual}
use Rattle.certs.specs.declared.evidence.Share.{Share}
use Rattle.certs.specs.Order.{are_in_order}
use Rattle.certs.proofs.PlainOrder.{in_order_by_test}
use Rattle.branch_oracle.proofs.Answering.{no_marks}
use Rattle.quick_answers.proofs.best.bounded.Goals as goal

pub returns-then-is_yes-2 : goal.returns-then-is_yes-2
returns-then-is_yes-2 c =
    let model = c.args.model.now in
    let set = c.args.set.now.members in
    let x = values_at c.args.point.values in
    let bound = c.directed-bound.result in
    let shares = c.args.combo.shares in
    let plain = sym (no_marks set c.requires.linear) in
    let here = c.is_point.ensures c.if-is_point.true in
    let value = c.checked_value.ensures model x bound (sym c.check_value.ensures ∙ c.is_yes-then-is_yes.ensures c.if-is_yes-2.true) in
    record {
      point_of = here;
      dual_of = subst (λ (l : List Member). IsBoundDual model l shares bound) plain (c.check_bound.ensures.dual (c.is_yes.ensures c.if-is_yes.true));
      ordered = in_order_by_test shares (subst (λ (l : List Share). are_in_order l ≡ true) c.as_slice.ensures (sym c.are_in_order.ensures ∙ c.if-are_in_order.true));
      tight = record { at = x; satisfies = subst (λ (l : List Member). Satisfies model l x) plain here.satisfies; value = value };
      reached = λ none. (refl, value);
      marked = λ some. absurd (true≢false (sym some ∙ c.requires.linear));
    }
