use Rattle.std.proofs.Common.{sym, ◌∙◌, ap, subst, true≢false, is_some}
use Rattle.frac128.specs.Limit.{limit}
use Rattle.dictionary.specs.Value.{tableau_of}
use Rattle.simplex.specs.Rays.{change_along}
use Rattle.simplex.proofs.Free.{free_ray_law}
use Rattle.two_widths.specs.Ends.{IsChosen, LastEnds}
use Rattle.two_widths.specs.declared.runs.End.{End}
use Rattle.relaxation.proofs.running.run.Goals as goal

pub unreachable-requires : goal.unreachable-requires
unreachable-requires c =
    let system = c.args.system.now in
    let solved = c.in-Ok.solved in
    let ends = subst (λ (e : End). LastEnds system c.args.pivots e solved.dictionary.basis) c.in-Feasible.is c.in-Ok.ensures.ended in
    true≢false (sym c.requires.objective ∙ ap (λ f. is_some f) ends.0)

pub returns-in-Infeasible-clause-reached : goal.returns-in-Infeasible-clause-reached
returns-in-Infeasible-clause-reached c =
    let solved = c.in-Ok.solved in
    let stands = c.in-Ok.ensures.stands in
    let chosen = subst (IsChosen limit c.args.system.now solved.dictionary) c.in-Infeasible.is stands.chosen in
    record { is_of = stands.is_of; usable = stands.usable; blocked = chosen.0; narrow = chosen.1 }

pub returns-in-Optimal-clause-reached : goal.returns-in-Optimal-clause-reached
returns-in-Optimal-clause-reached c =
    let solved = c.in-Ok.solved in
    let stands = c.in-Ok.ensures.stands in
    let chosen = subst (IsChosen limit c.args.system.now solved.dictionary) c.in-Optimal.is stands.chosen in
    record { is_of = stands.is_of; within = chosen.1; ended = chosen.0 }

pub unreachable-requires-in-Ray : goal.unreachable-requires-in-Ray
unreachable-requires-in-Ray c =
    let system = c.args.system.now in
    let now = c.in-Ok.solved.dictionary in
    let j = c.in-Ray.field-0 in
    let stands = c.in-Ok.ensures.stands in
    let chosen = subst (IsChosen limit system now) c.in-Ray.is stands.chosen in
    c.requires.bounded (change_along (tableau_of now) j) (free_ray_law system (tableau_of now) j c.requires.objective stands.is_of chosen.0.1.0)
