use Rattle.std.proofs.Common.{◌≡◌, false, sym, subst}
use Rattle.std.specs.Prelude.{All}
use Rattle.lp_model.specs.Members.{active_members, is_mark}
use Rattle.lp_model.specs.MemberSets.{SetValue}
use Rattle.lp_model.specs.Satisfaction.{IsSatisfiable}
use Rattle.alt_polyhedron.specs.declared.pricing.Priced.{Priced}
use Rattle.alt_polyhedron.specs.Pricing.{IsPricing, IsPricingStop}
use Rattle.analysis.specs.Answers.{budgets_of, weighed_answer}
use Rattle.analysis.specs.Right.{IsWeighedTold}
use Rattle.analysis.proofs.Marks.{no_mark}
use Rattle.analysis.proofs.Weighed.{fresh_is_of, if_told, priced_set, weighed_right, weighing_stopped, witness_runs, witness_stopped}
use Rattle.analysis.proofs.weighing.weighed_by_run.Goals as goal

pub cheapest-requires-clause-linear : goal.cheapest-requires-clause-linear
cheapest-requires-clause-linear c = subst (λ (s : SetValue). All (λ m. is_mark m ≡ false) s.members) (sym c.requires.whole) (no_mark (active_members c.args.model.now) c.requires.linear)

pub satisfied-requires-clause-can : goal.satisfied-requires-clause-can
satisfied-requires-clause-can c =
    subst (λ (s : SetValue). IsSatisfiable c.args.model.now s.members) c.requires.whole
    (subst (λ (p : Priced). IsPricing c.args.model.now c.args.set.now.members p) c.in-Ok-Feasible.field-0-is c.in-Ok-Feasible.ensures.priced)

pub witnesses-requires-clause-irreducible : goal.witnesses-requires-clause-irreducible
witnesses-requires-clause-irreducible c =
    let s = c.in-Ok-Set in
    (priced_set c.args.model.now c.args.set.now s.field-0 s.members s.combo s.total s.price c.requires.whole s.field-0-is s.ensures.priced).irreducible

pub witnesses-requires-clause-same : goal.witnesses-requires-clause-same
witnesses-requires-clause-same c =
    let s = c.in-Ok-Set in
    (priced_set c.args.model.now c.args.set.now s.field-0 s.members s.combo s.total s.price c.requires.whole s.field-0-is s.ensures.priced).set_of

pub witnesses-requires-clause-of : goal.witnesses-requires-clause-of
witnesses-requires-clause-of c = fresh_is_of c.args.model.now (budgets_of c.args.budgets) c.args.oracle.now.inner c.requires.inner

pub stopped-requires : goal.stopped-requires
stopped-requires c = witness_runs c.args.model.now (budgets_of c.args.budgets) c.in-Ok-Set.members.members c.in-Err-witnesses.stop c.in-Err-witnesses.ensures.stop

pub returns-in_ok-proof-in-Ok : goal.returns-in_ok-proof-in-Ok
returns-in_ok-proof-in-Ok c =
    let model = c.args.model.now in
    let budgets = budgets_of c.args.budgets in
    let s = c.in-Ok-Set in
    let cheapest = priced_set model c.args.set.now s.field-0 s.members s.combo s.total s.price c.requires.whole s.field-0-is s.ensures.priced in
    let proof = c.in_ok-proof-in-Ok.proof in
    if_told (IsWeighedTold model budgets) c.weighed_core.result (weighed_answer s.members c.in-Ok.points.items proof (s.total, s.price)) c.weighed_core.ensures
    (weighed_right model s.members s.combo s.total s.price cheapest budgets c.in-Ok.points.items proof c.stands_in_order-in-Ok.ensures.in_order c.in_ok-proof-in-Ok.ensures c.in-Ok.ensures.found)

pub returns-in-Err-witnesses : goal.returns-in-Err-witnesses
returns-in-Err-witnesses c =
    let model = c.args.model.now in
    let budgets = budgets_of c.args.budgets in
    let s = c.in-Ok-Set in
    let cheapest = priced_set model c.args.set.now s.field-0 s.members s.combo s.total s.price c.requires.whole s.field-0-is s.ensures.priced in
    (witness_stopped model s.members s.combo s.total s.price cheapest budgets c.in-Err-witnesses.stop c.stopped.result c.in-Err-witnesses.ensures.stop c.stopped.ensures)

pub returns-in-Err : goal.returns-in-Err
returns-in-Err c =
    let model = c.args.model.now in
    let budgets = budgets_of c.args.budgets in
    let stop = c.in-Err.stop in
    weighing_stopped model budgets stop c.stopped-in-Err.result (subst (λ (s : SetValue). IsPricingStop model s.members budgets.pivots stop) c.requires.whole c.in-Err.ensures.stop) c.stopped-in-Err.ensures
