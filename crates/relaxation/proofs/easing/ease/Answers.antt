use Rattle.std.proofs.Common.{◌<◌, ◌^◌, sym, ◌∙◌, ap, subst, arith}
use Rattle.certs.specs.Plain.{first_crossing}
use Rattle.certs.specs.System.{LinearSystem}
use Rattle.certs.specs.Tableau.{IsWellFormedSystem, variables}
use Rattle.relaxation.specs.Runs.{HasNoRay, IsFailure, IsSolved}
use Rattle.relaxation.specs.Costs.{system_by}
use Rattle.relaxation.proofs.Bounded.{elastic_bounded}
use Rattle.relaxation.proofs.Shares.{of_system}
use Rattle.relaxation.proofs.easing.ease.Goals as goal

pub solve-requires-clause-formed : goal.solve-requires-clause-formed
solve-requires-clause-formed c = λ apart.
    subst IsWellFormedSystem (sym c.in-Ok.ensures)
    (c.elastic_systems_are_formed.ensures c.args.model.now c.args.set.now.members c.args.enforced.now.members c.args.costs c.row_count-rows.ensures.well_formed c.requires.elastic (ap first_crossing (sym c.in-Ok.ensures) ∙ apart))

pub solve-requires-clause-bounded : goal.solve-requires-clause-bounded
solve-requires-clause-bounded c =
    subst HasNoRay (sym c.in-Ok.ensures) (elastic_bounded c.args.model.now c.args.set.now.members c.args.enforced.now.members c.row_count-rows.ensures.well_formed c.requires.elastic.known c.args.costs)

pub solve-requires-clause-few : goal.solve-requires-clause-few
solve-requires-clause-few c =
    subst (λ (s : LinearSystem). variables s < 2 ^ 31) (sym c.in-Ok.ensures)
    (c.elastic_systems_are_few.ensures c.args.model.now c.args.set.now.members c.args.enforced.now.members c.args.costs c.requires.elastic
    (let e = c.row_count-rows.ensures.count in let l = c.row_count-rows.ensures.few in omega (arith, e, l)) (let e = c.column_count-columns.ensures.count in let l = c.column_count-columns.ensures.few in omega (arith, e, l)))

pub returns-in-Err-clause-stop : goal.returns-in-Err-clause-stop
returns-in-Err-clause-stop c =
    c.stop_of.ensures c.args.model.now c.args.pivots c.requires.same c.requires.enforced
    (subst (λ (s : LinearSystem). IsFailure s c.args.pivots c.in-Err.failure) c.in-Ok.ensures c.in-Err.ensures.failure)

pub named_shares-requires-clause-of_system : goal.named_shares-requires-clause-of_system
named_shares-requires-clause-of_system c =
    let system = system_by c.args.model.now c.args.set.now.members c.args.enforced.now.members c.args.costs in
    of_system system c.in-Infeasible.combo.shares
    (subst (IsSolved system) c.in-Infeasible.is (subst (λ (s : LinearSystem). IsSolved s c.in-Ok-solve.solved) c.in-Ok.ensures c.in-Ok-solve.ensures.solved)).0
