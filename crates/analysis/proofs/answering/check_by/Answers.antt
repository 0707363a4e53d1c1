use Rattle.std.proofs.Common.{◌≡◌, sym, subst, true, Ok, Err}
use Rattle.lp_model.specs.Members.{active_members}
use Rattle.certs.specs.declared.evidence.Point.{Point}
use Rattle.certs.specs.Tales.{IsPointOf}
use Rattle.certs.specs.declared.solving.Verdict.{Verdict}
use Rattle.certs.specs.declared.solving.Verdict.TheVariants.{Feasible, Infeasible}
use Rattle.quick_answers.specs.Alone.{stands_alone}
use Rattle.quick_answers.specs.Answers.{IsAsked}
use Rattle.analysis.specs.Answers.{budgets_of, oracle_state}
use Rattle.analysis.specs.Right.{IsWhole, TreeFinds}
use Rattle.analysis.proofs.Asked.{InnerAnswers, QuickAnswers, all_served, asked_holds, asked_run, proof_fits, proof_ordered}
use Rattle.analysis.proofs.Refuting.{solved_refuted}
use Rattle.analysis.proofs.Searched.{fresh_answer, fresh_tree}
use Rattle.analysis.proofs.Stopping.{answered_runs, solved_stop, run_answer}
use Rattle.analysis.proofs.answering.check_by.Goals as goal

pub ask-requires-clause-served : goal.ask-requires-clause-served
ask-requires-clause-served c = all_served c.args.set.now.members

pub refuted-requires-clause-proof : goal.refuted-requires-clause-proof
refuted-requires-clause-proof c =
    let model = c.args.model.now in
    let budgets = budgets_of c.args.budgets in
    let inner = c.args.oracle.now.inner in
    let set = c.args.set.now in
    let answered = subst (λ (v : Verdict). QuickAnswers (oracle_state inner).model (oracle_state inner).budgets set.members (Ok v)) c.in-Ok-Infeasible.field-0-is c.in-Ok-Infeasible.ensures.answered in
    asked_holds model budgets set (Infeasible c.in-Ok-Infeasible.proof) c.requires.whole (fresh_answer model budgets inner c.requires.fresh set (Ok (Infeasible c.in-Ok-Infeasible.proof)) answered)

pub refuted-requires-clause-ordered : goal.refuted-requires-clause-ordered
refuted-requires-clause-ordered c =
    let inner = c.args.oracle.now.inner in
    let set = c.args.set.now in
    let answered = subst (λ (v : Verdict). QuickAnswers (oracle_state inner).model (oracle_state inner).budgets set.members (Ok v)) c.in-Ok-Infeasible.field-0-is c.in-Ok-Infeasible.ensures.answered in
    proof_ordered (oracle_state inner).model (oracle_state inner).budgets set.members c.in-Ok-Infeasible.proof answered

pub refuted-requires-clause-fits : goal.refuted-requires-clause-fits
refuted-requires-clause-fits c =
    let inner = c.args.oracle.now.inner in
    let set = c.args.set.now in
    let answered = subst (λ (v : Verdict). QuickAnswers (oracle_state inner).model (oracle_state inner).budgets set.members (Ok v)) c.in-Ok-Infeasible.field-0-is c.in-Ok-Infeasible.ensures.answered in
    proof_fits (oracle_state inner).model (oracle_state inner).budgets set.members c.in-Ok-Infeasible.proof answered

pub returns-in_ok-of-in-Ok-Feasible : goal.returns-in_ok-of-in-Ok-Feasible
returns-in_ok-of-in-Ok-Feasible c =
    let model = c.args.model.now in
    let budgets = budgets_of c.args.budgets in
    let inner = c.args.oracle.now.inner in
    let after = oracle_state c.ask.new.self.inner in
    let set = c.args.set.now in
    let verdict = Feasible c.in-Ok-Feasible.point in
    let answered = subst (λ (v : Verdict). QuickAnswers (oracle_state inner).model (oracle_state inner).budgets set.members (Ok v)) c.in-Ok-Feasible.field-0-is c.in-Ok-Feasible.ensures.answered in
    let alone = subst (λ (v : Verdict). stands_alone (oracle_state inner).model set.members c.args.oracle.now.nodes ≡ true → IsAsked InnerAnswers (oracle_state inner) after set.members (Ok v)) c.in-Ok-Feasible.field-0-is c.in-Ok-Feasible.ensures.alone in
    subst (λ (p : Point). IsPointOf model (active_members model) p × TreeFinds model budgets p) (sym c.in_ok-of-in-Ok-Feasible.ensures) (
      asked_holds model budgets set verdict c.requires.whole (fresh_answer model budgets inner c.requires.fresh set (Ok verdict) answered),
      λ marked. (fresh_tree model budgets inner c.requires.fresh set c.args.oracle.now.nodes verdict after c.requires.no_trees c.requires.whole marked alone).ends,
    )

pub returns-in-Ok-Infeasible : goal.returns-in-Ok-Infeasible
returns-in-Ok-Infeasible c =
    let model = c.args.model.now in
    let budgets = budgets_of c.args.budgets in
    let inner = c.args.oracle.now.inner in
    let after = oracle_state c.ask.new.self.inner in
    let set = c.args.set.now in
    let verdict = Infeasible c.in-Ok-Infeasible.proof in
    let alone = subst (λ (v : Verdict). stands_alone (oracle_state inner).model set.members c.args.oracle.now.nodes ≡ true → IsAsked InnerAnswers (oracle_state inner) after set.members (Ok v)) c.in-Ok-Infeasible.field-0-is c.in-Ok-Infeasible.ensures.alone in
    solved_refuted model budgets c.in-Ok-Infeasible.proof c.refuted.result c.refuted.ensures (λ marked. (fresh_tree model budgets inner c.requires.fresh set c.args.oracle.now.nodes verdict after c.requires.no_trees c.requires.whole marked alone).ends.0)

pub stopped-requires : goal.stopped-requires
stopped-requires c =
    let model = c.args.model.now in
    let budgets = budgets_of c.args.budgets in
    let run = asked_run model budgets c.args.set.now c.in-Err.stop c.requires.whole (fresh_answer model budgets c.args.oracle.now.inner c.requires.fresh c.args.set.now (Err c.in-Err.stop) c.in-Err.ensures.answered) in
    answered_runs model budgets run.asked c.in-Err.stop run.answered

pub returns-in-Err : goal.returns-in-Err
returns-in-Err c =
    let model = c.args.model.now in
    let budgets = budgets_of c.args.budgets in
    let run = asked_run model budgets c.args.set.now c.in-Err.stop c.requires.whole (fresh_answer model budgets c.args.oracle.now.inner c.requires.fresh c.args.set.now (Err c.in-Err.stop) c.in-Err.ensures.answered) in
    solved_stop model budgets c.stopped.result (run_answer (IsWhole model) model budgets c.in-Err.stop c.stopped.result run c.stopped.ensures)
