use Rattle.std.proofs.Common.{◌<◌, ◌^◌, refl, sym, ◌∙◌, ap, subst, length, IsSome, arith}
use Rattle.certs.specs.Ended.{blocked_shares}
use Rattle.certs.specs.System.{LinearSystem, alternative_system}
use Rattle.certs.specs.Tableau.{IsWellFormedSystem, variables}
use Rattle.certs.proofs.Blocked.{blocked_law}
use Rattle.certs.proofs.Possible.{members_for_model}
use Rattle.alt_polyhedron.proofs.Variables.{system_columns}
use Rattle.dictionary.specs.Value.{tableau_of}
use Rattle.relaxation.specs.Runs.{HasNoRay, IsReached, StandsBest, StandsBlocked}
use Rattle.two_widths.specs.Ends.{StopsSo}
use Rattle.alt_polyhedron.proofs.pricing.cheapest.Goals as goal

pub run-requires-clause-formed : goal.run-requires-clause-formed
run-requires-clause-formed c = subst IsWellFormedSystem (sym c.in-Ok.ensures) (c.alternative_systems_are_formed.ensures c.args.model.now c.args.set.now.members)

pub run-requires-clause-objective : goal.run-requires-clause-objective
run-requires-clause-objective c = subst (λ (s : LinearSystem). IsSome s.objective) (sym c.in-Ok.ensures) refl

pub run-requires-clause-few : goal.run-requires-clause-few
run-requires-clause-few c =
    subst (λ (s : LinearSystem). variables s < 2 ^ 31) (sym c.in-Ok.ensures)
    (c.alternative_systems_are_few.ensures c.args.model.now c.args.set.now.members (members_for_model c.args.model.now c.args.set.now c.requires.same c.stands_in_order.ensures.possible) c.stands_in_order.ensures.in_order
    (let e = c.row_count-rows.ensures.count in let l = c.row_count-rows.ensures.few in omega (arith, e, l)) (let e = c.column_count-columns.ensures.count in let l = c.column_count-columns.ensures.few in omega (arith, e, l)))

pub run-requires-clause-bounded : goal.run-requires-clause-bounded
run-requires-clause-bounded c =
    subst HasNoRay (sym c.in-Ok.ensures)
    (c.alternative_systems_are_bounded.ensures c.args.model.now c.args.set.now.members c.row_count-rows.ensures.well_formed (members_for_model c.args.model.now c.args.set.now c.requires.same c.stands_in_order.ensures.possible))

pub returns-in-Err-clause-stop : goal.returns-in-Err-clause-stop
returns-in-Err-clause-stop c =
    c.stop_of.ensures c.args.model.now c.args.pivots c.requires.same
    (subst (λ (s : LinearSystem). StopsSo s c.args.pivots c.in-Err.stop) c.in-Ok.ensures c.in-Err.ensures.stop)

pub returns-in-Blocked-clause-priced : goal.returns-in-Blocked-clause-priced
returns-in-Blocked-clause-priced c =
    let model = c.args.model.now in
    let set = c.args.set.now.members in
    let system : LinearSystem = alternative_system model set in
    let now = c.in-Ok-run.ran.dictionary in
    let v = c.in-Blocked.field-0 in
    let stands : StandsBlocked system now v =
    subst (λ (s : LinearSystem). StandsBlocked s now v) c.in-Ok.ensures (subst (IsReached c.in-Ok.system now) c.in-Blocked.is c.in-Ok-run.ensures.reached) in
    (c.no_weighting_gives_point.ensures model set (blocked_shares system (tableau_of now) v stands.blocked.0) c.row_count-rows.ensures.well_formed c.requires.linear
    (blocked_law system (tableau_of now) v stands.blocked.0 (c.alternative_systems_are_formed.ensures model set) stands.is_of stands.blocked.1)).0

pub cheapest_at-requires-clause-columns : goal.cheapest_at-requires-clause-columns
cheapest_at-requires-clause-columns c =
    c.in-Ok-run.ensures.columns ∙ ap (λ (s : LinearSystem). length s.columns) c.in-Ok.ensures ∙ system_columns c.args.model.now c.args.set.now.members

pub cheapest_at-requires-clause-stands : goal.cheapest_at-requires-clause-stands
cheapest_at-requires-clause-stands c =
    let now = c.in-Ok-run.ran.dictionary in
    subst (λ (s : LinearSystem). StandsBest s now) c.in-Ok.ensures (subst (IsReached c.in-Ok.system now) c.in-Best.is c.in-Ok-run.ensures.reached)
