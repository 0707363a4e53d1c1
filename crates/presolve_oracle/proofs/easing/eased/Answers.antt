use Rattle.std.proofs.Common.{◌+◌, ◌<◌, ◌^◌, [], sym, subst, length, arith}
use Rattle.certs.specs.System.{LinearSystem}
use Rattle.linear_oracle.proofs.Shares.{few_variables}
use Rattle.presolve.specs.Reduced.{IsReductionOf}
use Rattle.presolve.specs.declared.reduction.Reduction.TheVariants.{Decided}
use Rattle.presolve_laws.proofs.Systems.{set_formed}
use Rattle.reductions.specs.Laws.{IsFormed}
use Rattle.presolve_oracle.specs.Easing.{IsEasing}
use Rattle.presolve_oracle.proofs.Returning.{decided_back, decided_limits}
use Rattle.presolve_oracle.proofs.easing.eased.Goals as goal

pub reduce-requires-clause-formed : goal.reduce-requires-clause-formed
reduce-requires-clause-formed c = subst IsFormed (sym c.in_ok-system.ensures) (set_formed c.args.model.now c.args.set.now.members c.row_count-rows.ensures.well_formed)

pub reduce-requires-clause-small : goal.reduce-requires-clause-small
reduce-requires-clause-small c =
    subst (λ (s : LinearSystem). length s.columns + length s.rows < 2 ^ 31) (sym c.in_ok-system.ensures)
    (few_variables c.args.model.now c.args.set.now.members [] (let e = c.row_count-rows.ensures.count in let l = c.row_count-rows.ensures.few in omega (arith, e, l)) (let e = c.column_count-columns.ensures.count in let l = c.column_count-columns.ensures.few in omega (arith, e, l)))

pub cut_back-requires-clause-shares : goal.cut_back-requires-clause-shares
cut_back-requires-clause-shares c =
    let model = c.args.model.now in
    let set = c.args.set.now.members in
    let combo = c.in-Decided.combo in
    let trace = c.in-Decided.trace in
    let made : IsReductionOf c.in_ok-system.system (Decided combo trace) = subst (IsReductionOf c.in_ok-system.system) c.in-Decided.is c.in_ok-reduction.ensures in
    let (last, (leads, (of, (shares, decided)))) = subst (λ (s : LinearSystem). IsReductionOf s (Decided combo trace)) c.in_ok-system.ensures made in
    (of, decided_limits model set trace last leads of combo.shares c.row_count-rows.ensures.well_formed decided shares)

pub returns-in_ok-proof-in-Decided-clause-eased : goal.returns-in_ok-proof-in-Decided-clause-eased
returns-in_ok-proof-in-Decided-clause-eased c =
    let model = c.args.model.now in
    let set = c.args.set.now.members in
    let combo = c.in-Decided.combo in
    let trace = c.in-Decided.trace in
    let made : IsReductionOf c.in_ok-system.system (Decided combo trace) = subst (IsReductionOf c.in_ok-system.system) c.in-Decided.is c.in_ok-reduction.ensures in
    let (last, (leads, (of, (shares, decided)))) = subst (λ (s : LinearSystem). IsReductionOf s (Decided combo trace)) c.in_ok-system.ensures made in
    c.easing_of.ensures model set c.args.pivots
    (subst (IsEasing model set c.args.pivots) (sym c.infeasible.ensures)
    (decided_back model set c.args.pivots trace.steps last leads.reduces of decided c.in_ok-proof-in-Decided.proof (c.in_ok-proof-in-Decided.ensures of (decided_limits model set trace last leads of combo.shares c.row_count-rows.ensures.well_formed decided shares))))
