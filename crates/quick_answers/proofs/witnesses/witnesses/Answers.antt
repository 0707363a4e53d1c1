use Rattle.std.proofs.Common.{sym, ◌∙◌, ap, subst, List}
use Rattle.lp_model.specs.declared.members.Member.{Member}
use Rattle.lp_model.specs.MemberSets.{SetValue, IsPossibleIn, set_without}
use Rattle.certs.specs.Tales.{IsPointOf}
use Rattle.quick_answers.proofs.Witnessing.{IsWitnessed, next_possible, witnessed_last, witnessed_next}
use Rattle.quick_answers.proofs.witnesses.witnesses.Goals as goal

pub remove-requires : goal.remove-requires
remove-requires g c =
    let model = c.args.model.now in
    let set = c.args.set.now in
    let points = c.loop-member.points.items in
    let w = subst (λ (l : List Member). IsWitnessed model set.members l points) c.in-Some.ensures.steps c.loop-member.invariant.witnessed in
    subst (λ (s : SetValue). IsPossibleIn s c.in-Some.member) (sym c.in-Ok.ensures) (next_possible model set c.in-Some.member c.next.new.self points w c.stands_in_order.ensures.possible)

pub loop-member-preserved : goal.loop-member-preserved
loop-member-preserved g c =
    let model = c.args.model.now in
    let set = c.args.set.now in
    let points = c.loop-member.points.items in
    let point = c.in_ok-point.point in
    let w = subst (λ (l : List Member). IsWitnessed model set.members l points) c.in-Some.ensures.steps c.loop-member.invariant.witnessed in
    let others = c.remove.ensures ∙ ap (λ (s : SetValue). set_without s c.in-Some.member) c.in-Ok.ensures in
    let found = subst (λ (s : SetValue). IsPointOf model s.members point) others c.in_ok-point.ensures.found in
    record {
      witnessed = subst (IsWitnessed model set.members c.next.new.self) (sym c.in-Ok-push.ensures.items) (witnessed_next model set c.in-Some.member c.next.new.self points w point c.stands_in_order.ensures.in_order found);
      kept = c.in_ok-point.ensures.kept ∙ c.loop-member.invariant.kept;
    }

pub returns-clause-found : goal.returns-clause-found
returns-clause-found g c =
    let model = c.args.model.now in
    let set = c.args.set.now.members in
    let points = c.loop-member.points.items in
    witnessed_last model set points (subst (λ (l : List Member). IsWitnessed model set l points) c.in-None.ensures.steps.0 c.loop-member.invariant.witnessed)
