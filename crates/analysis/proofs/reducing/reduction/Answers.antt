use Rattle.std.proofs.Common.{◌+◌, ◌<◌, ◌^◌, [], sym, subst, length, arith}
use Rattle.certs.specs.System.{LinearSystem}
use Rattle.linear_oracle.proofs.Shares.{few_variables}
use Rattle.presolve_laws.proofs.Systems.{set_formed}
use Rattle.reductions.specs.Laws.{IsFormed}
use Rattle.analysis.proofs.Known.{known_reduction}
use Rattle.analysis.proofs.reducing.reduction.Goals as goal

pub reduce-requires-clause-formed : goal.reduce-requires-clause-formed
reduce-requires-clause-formed c = subst IsFormed (sym c.in_ok-system.ensures) (set_formed c.args.model.now c.in_ok-set.set.members c.row_count-rows.ensures.well_formed)

pub reduce-requires-clause-small : goal.reduce-requires-clause-small
reduce-requires-clause-small c =
    subst (λ (s : LinearSystem). length s.columns + length s.rows < 2 ^ 31) (sym c.in_ok-system.ensures)
    (few_variables c.args.model.now c.in_ok-set.set.members [] (let e = c.row_count-rows.ensures.count in let l = c.row_count-rows.ensures.few in omega (arith, e, l)) (let e = c.column_count-columns.ensures.count in let l = c.column_count-columns.ensures.few in omega (arith, e, l)))

pub returns-in-Reduced-clause-known : goal.returns-in-Reduced-clause-known
returns-in-Reduced-clause-known c = known_reduction c.args.model.now c.left_by.result c.row_count-rows.ensures.well_formed c.left_by.ensures

pub returns-clause-known : goal.returns-clause-known
returns-clause-known c = known_reduction c.args.model.now c.decided.result c.row_count-rows.ensures.well_formed c.decided.ensures
