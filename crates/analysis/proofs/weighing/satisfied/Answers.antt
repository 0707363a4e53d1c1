use Rattle.std.proofs.Common.{refl, sym, subst, inl}
use Rattle.std.proofs.lemmas.List.Elements.{All-contains_itself}
use Rattle.lp_model.specs.Members.{active_members}
use Rattle.lp_model.specs.MemberSets.{SetValue}
use Rattle.lp_model.specs.Satisfaction.{IsSatisfiable}
use Rattle.certs.specs.Answers.{IsAnsweredStop}
use Rattle.certs.specs.Tales.{IsPointOf}
use Rattle.presolve_laws.specs.Answers.{IsPresolvedReference}
use Rattle.analysis.specs.Answers.{budgets_of}
use Rattle.analysis.proofs.Stopping.{answered_runs}
use Rattle.analysis.proofs.Weighed.{fresh_is_of, whole_stopped}
use Rattle.analysis.proofs.weighing.satisfied.Goals as goal

pub witness-requires-clause-can : goal.witness-requires-clause-can
witness-requires-clause-can c = subst (λ (s : SetValue). IsSatisfiable c.args.model.now s.members) (sym c.requires.whole) c.requires.can

pub witness-requires-clause-of : goal.witness-requires-clause-of
witness-requires-clause-of c = fresh_is_of c.args.model.now (budgets_of c.args.budgets) c.args.oracle.now.inner c.requires.inner

pub returns-in_ok-of-in-Ok : goal.returns-in_ok-of-in-Ok
returns-in_ok-of-in-Ok c =
    inl (subst (IsPointOf c.args.model.now (active_members c.args.model.now)) (sym c.in_ok-of-in-Ok.ensures)
    (subst (λ (s : SetValue). IsPointOf c.args.model.now s.members c.in-Ok.point) c.requires.whole c.in-Ok.ensures.found))

pub stopped-requires : goal.stopped-requires
stopped-requires c = answered_runs c.args.model.now (budgets_of c.args.budgets) c.args.set.now.members c.in-Err.stop c.in-Err.ensures.stop

pub returns-in-Err : goal.returns-in-Err
returns-in-Err c =
    let model = c.args.model.now in
    let budgets = budgets_of c.args.budgets in
    let answered = subst (λ (s : SetValue). IsAnsweredStop (IsPresolvedReference model budgets) s.members c.in-Err.stop) c.requires.whole c.in-Err.ensures.stop in
    (whole_stopped model budgets c.in-Err.stop c.stopped.result (record { asked = active_members model; answered = answered; part = All-contains_itself (active_members model); test = refl }) c.stopped.ensures)
