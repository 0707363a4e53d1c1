use Rattle.std.proofs.Common.{sym, ◌∙◌, ap, subst, List, length, Ok}
use Rattle.std.specs.Prelude.{All}
use Rattle.std.proofs.lemmas.List.Elements.{All-tail}
use Rattle.lp_model.specs.declared.members.Member.{Member}
use Rattle.lp_model.specs.Members.{number}
use Rattle.lp_model.specs.MemberSets.{IsMemberFor}
use Rattle.lp_model.specs.Satisfaction.{values_at}
use Rattle.certs.specs.Checks.{outcome, checked_of, priced_steps, price_steps}
use Rattle.certs.proofs.Possible.{members_for_model}
use Rattle.least_checks.proofs.Steps.{first_passes}
use Rattle.price_checks.proofs.prices.is_price.Goals as goal

pub loop-member-init : goal.loop-member-init
loop-member-init c =
    let model = c.args.model.now in
    let given = c.into_iter-member-iterator.ensures.into_iter_gives ∙ c.iter-member-items.ensures in
    record {
      known = subst (All (IsMemberFor (length model.rows) (length model.columns))) (sym given) (members_for_model model c.args.set.now c.requires.same c.stands_in_order.ensures.possible);
      left = ap (λ (l : List Member). outcome (price_steps model l c.args.total (values_at c.args.values.now))) given;
    }

pub loop-member-preserved : goal.loop-member-preserved
loop-member-preserved c =
    let model = c.args.model.now in
    let t = c.args.total in
    let z = values_at c.args.values.now in
    let m = c.in-Some.member in
    let rest = c.next.new.self in
    let For = IsMemberFor (length model.rows) (length model.columns) in
    let passed = ap (λ b. checked_of (Ok b)) (sym c.if-not-branch.false) ∙ c.in_ok-is_priced.ensures in
    record {
      known = All-tail For m rest (subst (All For) c.in-Some.ensures.steps c.loop-member.invariant.known);
      left = sym (first_passes (priced_steps model t z m (number model m)) (price_steps model rest t z) passed)
          ∙ sym (ap (λ (l : List Member). outcome (price_steps model l t z)) c.in-Some.ensures.steps) ∙ c.loop-member.invariant.left;
    }
