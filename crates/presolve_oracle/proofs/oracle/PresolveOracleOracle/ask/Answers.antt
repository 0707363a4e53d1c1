use Rattle.std.proofs.Common.{◌∙◌, sym, ap, subst}
use Rattle.lp_model.specs.Program.{Program}
use Rattle.certs.specs.Checks.{IsSetOf}
use Rattle.certs.proofs.Possible.{members_for_model}
use Rattle.presolve_laws.specs.Answers.{IsPresolvedAnswer}
use Rattle.presolve_oracle.specs.Value.{PresolveValue}
use Rattle.presolve_oracle.proofs.Answering.{known_answer, told_answer}
use Rattle.presolve_oracle.proofs.oracle.PresolveOracleOracle.ask.Goals as goal

pub tell-requires : goal.tell-requires
tell-requires c =
    let model = c.self.inside.model.now in
    let set = c.args.set.now in
    let program = sym c.self.invariant ∙ ap (λ (o : PresolveValue). o.inner.model) c.self.view_is in
    let same = subst (λ (m : Program). IsSetOf m set) (sym program) c.requires.same in
    let known = members_for_model model set same c.stands_in_order.ensures.possible in
    known_answer model set c.self.inside.inner.pivots c.answered-answer.result c.stands_in_order.ensures.possible (record { formed = c.row_count-rows.ensures.well_formed; known = known; linear = c.requires.served }) c.answered-answer.ensures.answer

pub returns-clause-answered : goal.returns-clause-answered
returns-clause-answered c =
    let model = c.self.inside.model.now in
    let set = c.args.set.now in
    let program = sym c.self.invariant ∙ ap (λ (o : PresolveValue). o.inner.model) c.self.view_is in
    let same = subst (λ (m : Program). IsSetOf m set) (sym program) c.requires.same in
    let known = members_for_model model set same c.stands_in_order.ensures.possible in
    subst (λ (m : Program). IsPresolvedAnswer m c.args.self.now.inner.pivots set.members c.tell.result) program
    (subst (λ (o : PresolveValue). IsPresolvedAnswer model o.inner.pivots set.members c.tell.result) c.self.view_is
    (told_answer model set.members c.self.inside.inner.pivots c.answered-answer.result c.tell.result (record { formed = c.row_count-rows.ensures.well_formed; known = known; linear = c.requires.served }) c.answered-answer.ensures.answer c.tell.ensures.answer))
