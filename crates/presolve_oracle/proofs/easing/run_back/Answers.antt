use Rattle.std.proofs.Common.{◌∙◌, sym, ap, subst, true≢false, is_some}
use Rattle.certs.specs.Runs.End.{Feasible as IsFeasible, Infeasible as IsInfeasible}
use Rattle.certs.specs.Tableau.{IsWellFormedSystem}
use Rattle.two_widths.specs.Ends.{LastEnds}
use Rattle.two_widths.specs.declared.runs.End.{End}
use Rattle.presolve_laws.specs.Answers.{set_system}
use Rattle.presolve_oracle.proofs.Running.{ended, few_left, formed_left, none_left, stop_excludes, stop_own, trace_left}
use Rattle.presolve_oracle.proofs.easing.run_back.Goals as goal

pub solve-requires-clause-formed : goal.solve-requires-clause-formed
solve-requires-clause-formed c =
    let (last, (leads, (is, reduced))) = c.requires.reduced in
    subst IsWellFormedSystem (sym is) (formed_left c.args.model.now c.args.set.now.members c.args.trace.now last c.requires.formed leads reduced)

pub solve-requires-clause-few : goal.solve-requires-clause-few
solve-requires-clause-few c =
    let (last, (leads, (is, reduced))) = c.requires.reduced in
    few_left c.args.model.now c.args.set.now.members c.args.trace.now last c.requires.formed leads c.args.system.now is

pub returns-in-Err-clause-eased : goal.returns-in-Err-clause-eased
returns-in-Err-clause-eased c =
    let (last, (leads, (is, reduced))) = c.requires.reduced in
    let model = c.args.model.now in
    let set = c.args.set.now.members in
    let system = c.args.system.now in
    let trace = c.args.trace.now in
    let stop = c.in-Err.stop in
    let h = c.in-Err.ensures.plain (none_left model set trace last c.requires.formed leads system is) in
    c.stop_told.ensures model c.args.pivots c.requires.same (stop_excludes system last is c.args.pivots (set_system model set) trace leads reduced stop h)
    (λ none. stop_own system last is c.args.pivots (set_system model set) trace leads none stop h)

pub values_back-requires-clause-trace : goal.values_back-requires-clause-trace
values_back-requires-clause-trace c =
    let (last, (leads, (is, reduced))) = c.requires.reduced in
    let solved = c.in-Ok.solved in
    trace_left c.args.model.now c.args.set.now.members c.args.trace.now last c.requires.formed leads c.args.system.now solved.dictionary.columns is c.in-Ok.ensures.stands.columns

pub returns-in-Feasible-clause-eased : goal.returns-in-Feasible-clause-eased
returns-in-Feasible-clause-eased c =
    let (last, (leads, (is, reduced))) = c.requires.reduced in
    let model = c.args.model.now in
    let set = c.args.set.now.members in
    let system = c.args.system.now in
    let now = c.in-Ok.solved.dictionary in
    let stands = c.in-Ok.ensures.stands in
    let run = (subst (λ (e : End). LastEnds system c.args.pivots e now.basis) c.in-Feasible.is c.in-Ok.ensures.ended).1 in
    c.easing_of.ensures model set c.args.pivots
    (c.in_ok-found-in-Feasible.ensures model set c.args.pivots last leads reduced (ended system last is c.args.pivots IsFeasible now run stands.is_of stands.columns))

pub shares_back-requires-clause-reduced : goal.shares_back-requires-clause-reduced
shares_back-requires-clause-reduced c =
    let (last, (leads, (is, reduced))) = c.requires.reduced in
    let system = c.args.system.now in
    let now = c.in-Ok.solved.dictionary in
    let stands = c.in-Ok.ensures.stands in
    let run = subst (λ (e : End). LastEnds system c.args.pivots e now.basis) c.in-Infeasible.is c.in-Ok.ensures.ended in
    (last, (leads, (reduced, (c.args.pivots, ended system last is c.args.pivots (IsInfeasible c.in-Infeasible.variable) now run stands.is_of stands.columns))))

pub returns-in-Infeasible-clause-eased : goal.returns-in-Infeasible-clause-eased
returns-in-Infeasible-clause-eased c =
    let (last, (leads, (is, reduced))) = c.requires.reduced in
    let model = c.args.model.now in
    let set = c.args.set.now.members in
    let system = c.args.system.now in
    let now = c.in-Ok.solved.dictionary in
    let stands = c.in-Ok.ensures.stands in
    let run = subst (λ (e : End). LastEnds system c.args.pivots e now.basis) c.in-Infeasible.is c.in-Ok.ensures.ended in
    c.easing_of-in-Infeasible.ensures model set c.args.pivots
    (c.in_ok-found-in-Infeasible.ensures c.args.pivots last leads reduced (ended system last is c.args.pivots (IsInfeasible c.in-Infeasible.variable) now run stands.is_of stands.columns))

pub unreachable-requires : goal.unreachable-requires
unreachable-requires c =
    let (last, (leads, (is, reduced))) = c.requires.reduced in
    let system = c.args.system.now in
    let none = none_left c.args.model.now c.args.set.now.members c.args.trace.now last c.requires.formed leads system is in
    let ends = subst (λ (e : End). LastEnds system c.args.pivots e c.in-Ok.solved.dictionary.basis) c.in-Optimal.is c.in-Ok.ensures.ended in
    true≢false (sym ends.0 ∙ ap (λ f. is_some f) none)

pub unreachable-requires-in-Ray : goal.unreachable-requires-in-Ray
unreachable-requires-in-Ray c =
    let (last, (leads, (is, reduced))) = c.requires.reduced in
    let system = c.args.system.now in
    let none = none_left c.args.model.now c.args.set.now.members c.args.trace.now last c.requires.formed leads system is in
    let ends = subst (λ (e : End). LastEnds system c.args.pivots e c.in-Ok.solved.dictionary.basis) c.in-Ray.is c.in-Ok.ensures.ended in
    true≢false (sym ends.0 ∙ ap (λ f. is_some f) none)
