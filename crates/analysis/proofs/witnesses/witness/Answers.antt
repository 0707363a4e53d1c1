use Rattle.std.proofs.Common.{subst, Ok}
use Rattle.certs.specs.declared.solving.Verdict.{Verdict}
use Rattle.certs.specs.declared.solving.Verdict.TheVariants.{Feasible, Infeasible}
use Rattle.certs.proofs.Refuted.{proof_law}
use Rattle.analysis.specs.Answers.{budgets_of, oracle_state}
use Rattle.analysis.proofs.Asked.{QuickAnswers, all_served, verdict_holds}
use Rattle.analysis.proofs.Witnessing.{answered_within}
use Rattle.analysis.proofs.witnesses.witness.Goals as goal

pub ask-requires-clause-served : goal.ask-requires-clause-served
ask-requires-clause-served c = all_served c.args.set.now.members

pub unreachable-requires : goal.unreachable-requires
unreachable-requires c =
    let model = c.args.model.now in
    let budgets = budgets_of c.args.budgets in
    let inner = c.args.oracle.now.inner in
    let set = c.args.set.now.members in
    let proof = c.in-Ok-Infeasible.field-0-0 in
    let answered = subst (λ (v : Verdict). QuickAnswers (oracle_state inner).model (oracle_state inner).budgets set (Ok v)) c.in-Ok-Infeasible.field-0-is c.in-Ok-Infeasible.ensures.answered in
    absurd (proof_law model set proof.nodes (verdict_holds model budgets set (Infeasible proof) (answered_within model budgets inner c.requires.of set (Ok (Infeasible proof)) answered)) c.requires.can)

pub returns-in-Ok-Feasible-clause-found : goal.returns-in-Ok-Feasible-clause-found
returns-in-Ok-Feasible-clause-found c =
    let model = c.args.model.now in
    let budgets = budgets_of c.args.budgets in
    let inner = c.args.oracle.now.inner in
    let set = c.args.set.now.members in
    let point = c.in-Ok-Feasible.point in
    let answered = subst (λ (v : Verdict). QuickAnswers (oracle_state inner).model (oracle_state inner).budgets set (Ok v)) c.in-Ok-Feasible.field-0-is c.in-Ok-Feasible.ensures.answered in
    verdict_holds model budgets set (Feasible point) (answered_within model budgets inner c.requires.of set (Ok (Feasible point)) answered)
