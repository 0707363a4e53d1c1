use Rattle.std.proofs.Common.{sym, ◌∙◌, ap, subst, List}
use Rattle.std.proofs.lemmas.Result.{err_from_is_err_and}
use Rattle.lp_model.specs.declared.members.Member.{Member}
use Rattle.lp_model.specs.MemberSets.{SetValue, IsPossibleIn, set_without}
use Rattle.lp_model.specs.Satisfaction.{IsSatisfiable}
use Rattle.certs.specs.Answers.{IsAnsweredStop}
use Rattle.certs.specs.Tales.{IsPointOf}
use Rattle.presolve_laws.specs.Answers.{IsPresolvedReference}
use Rattle.analysis.specs.Answers.{budgets_of}
use Rattle.quick_answers.proofs.Witnessing.{IsWitnessed, next_possible, witnessed_last, witnessed_next}
use Rattle.analysis.proofs.Witnessing.{others_can, others_stop}
use Rattle.analysis.proofs.witnesses.witnesses.Goals as goal

pub remove-requires : goal.remove-requires
remove-requires c =
    let model = c.args.model.now in
    let set = c.args.set.now in
    let points = c.loop-member.points.items in
    let w = subst (λ (l : List Member). IsWitnessed model set.members l points) c.in-Some.ensures.steps c.loop-member.invariant.witnessed in
    subst (λ (s : SetValue). IsPossibleIn s c.in-Some.member) (sym c.in-Ok.ensures) (next_possible model set c.in-Some.member c.next.new.self points w c.stands_in_order.ensures.possible)

pub witness-requires-clause-can : goal.witness-requires-clause-can
witness-requires-clause-can c =
    let model = c.args.model.now in
    let set = c.args.set.now in
    let points = c.loop-member.points.items in
    let w = subst (λ (l : List Member). IsWitnessed model set.members l points) c.in-Some.ensures.steps c.loop-member.invariant.witnessed in
    let others = c.remove.ensures ∙ ap (λ (s : SetValue). set_without s c.in-Some.member) c.in-Ok.ensures in
    subst (λ (s : SetValue). IsSatisfiable model s.members) (sym others) (others_can model set c.in-Some.member c.next.new.self points w c.stands_in_order.ensures.in_order c.requires.irreducible)

pub returns-in_err-point-clause-stop : goal.returns-in_err-point-clause-stop
returns-in_err-point-clause-stop c =
    let model = c.args.model.now in
    let budgets = budgets_of c.args.budgets in
    let set = c.args.set.now in
    let points = c.loop-member.points.items in
    let stop = c.in_err-point.field-0.0 in
    let w = subst (λ (l : List Member). IsWitnessed model set.members l points) c.in-Some.ensures.steps c.loop-member.invariant.witnessed in
    let others = c.remove.ensures ∙ ap (λ (s : SetValue). set_without s c.in-Some.member) c.in-Ok.ensures in
    let p = err_from_is_err_and c.from_residual.result c.from_residual.ensures.1 in
    rw (p.1, p.2)
    (others_stop model set c.in-Some.member c.next.new.self points w c.stands_in_order.ensures.in_order budgets stop
    (subst (λ (s : SetValue). IsAnsweredStop (IsPresolvedReference model budgets) s.members stop) others c.in_err-point.ensures.stop))

pub loop-member-preserved : goal.loop-member-preserved
loop-member-preserved c =
    let model = c.args.model.now in
    let set = c.args.set.now in
    let points = c.loop-member.points.items in
    let point = c.in_ok-point.point in
    let w = subst (λ (l : List Member). IsWitnessed model set.members l points) c.in-Some.ensures.steps c.loop-member.invariant.witnessed in
    let others = c.remove.ensures ∙ ap (λ (s : SetValue). set_without s c.in-Some.member) c.in-Ok.ensures in
    let packed = c.in-Ok-of.packed in
    let found = subst (IsPointOf model (set_without set c.in-Some.member).members) (sym c.in-Ok-of.ensures) (subst (λ (s : SetValue). IsPointOf model s.members point) others c.in_ok-point.ensures.found) in
    record {
      witnessed = subst (IsWitnessed model set.members c.next.new.self) (sym c.in-Ok-push.ensures.items) (witnessed_next model set c.in-Some.member c.next.new.self points w packed c.stands_in_order.ensures.in_order found);
      of = c.in_ok-point.ensures.of;
    }

pub returns-clause-found : goal.returns-clause-found
returns-clause-found c =
    let model = c.args.model.now in
    let set = c.args.set.now.members in
    let points = c.loop-member.points.items in
    witnessed_last model set points (subst (λ (l : List Member). IsWitnessed model set l points) c.in-None.ensures.steps.0 c.loop-member.invariant.witnessed)
