use Rattle.std.proofs.Common.{sym, ◌∙◌, ap, subst, true≢false, is_some}
use Rattle.certs.specs.Ended.{blocked_shares}
use Rattle.certs.proofs.Blocked.{blocked_law}
use Rattle.dictionary.specs.Value.{tableau_of}
use Rattle.frac128.specs.Limit.{limit}
use Rattle.two_widths.specs.Ends.{IsChosen, LastEnds}
use Rattle.two_widths.specs.declared.runs.End.{End}
use Rattle.unbounded.proofs.runs.run.Goals as goal

pub unreachable-requires : goal.unreachable-requires
unreachable-requires c =
    let ends = subst (λ (e : End). LastEnds c.args.system.now c.args.pivots e c.in-Ok.solved.dictionary.basis) c.in-Feasible.is c.in-Ok.ensures.ended in
    true≢false (sym c.requires.objective ∙ ap (λ f. is_some f) ends.0)

pub unreachable-requires-in-Infeasible : goal.unreachable-requires-in-Infeasible
unreachable-requires-in-Infeasible c =
    let system = c.args.system.now in
    let now = c.in-Ok.solved.dictionary in
    let t = tableau_of now in
    let v = c.in-Infeasible.field-0 in
    let stands = c.in-Ok.ensures.stands in
    let blocked = (subst (IsChosen limit system now) c.in-Infeasible.is stands.chosen).0 in
    c.requires.satisfied (blocked_shares system t v blocked.0) (blocked_law system t v blocked.0 c.requires.formed stands.is_of blocked.1)
