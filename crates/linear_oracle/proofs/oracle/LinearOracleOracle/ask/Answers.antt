use Rattle.std.proofs.Common.{sym, ap, subst, List}
use Rattle.certs.specs.declared.evidence.Branch.{Branch}
use Rattle.certs.specs.Tales.{IsNodeEnd}
use Rattle.lp_model.specs.Program.{Program}
use Rattle.certs.specs.Answers.{IsPlainAnswer}
use Rattle.certs.specs.Checks.{IsSetOf}
use Rattle.certs.proofs.Possible.{members_for_model}
use Rattle.linear_oracle.specs.Value.{OracleValue}
use Rattle.linear_oracle.proofs.Answering.{known_answer, told_answer}
use Rattle.linear_oracle.proofs.oracle.LinearOracleOracle.ask.Goals as goal

pub tell-requires : goal.tell-requires
tell-requires c =
    let model = c.self.inside.model.now in
    let set = c.args.set.now in
    let same = subst (λ (m : Program). IsSetOf m set) (sym (ap (λ (o : OracleValue). o.model) c.self.view_is)) c.requires.same in
    let known = members_for_model model set same c.stands_in_order.ensures.possible in
    known_answer model set c.self.inside.pivots c.verdict_of-answer.result c.stands_in_order.ensures.possible (record { formed = c.row_count-rows.ensures.well_formed; known = known; linear = c.requires.served })
    (c.verdict_of-answer.ensures model set.members c.self.inside.pivots (subst (λ (p : List Branch). IsNodeEnd model set.members p c.self.inside.pivots c.solve-end.result) c.new.ensures c.solve-end.ensures.end))

pub returns-clause-answered : goal.returns-clause-answered
returns-clause-answered c =
    let model = c.self.inside.model.now in
    let set = c.args.set.now in
    let same = subst (λ (m : Program). IsSetOf m set) (sym (ap (λ (o : OracleValue). o.model) c.self.view_is)) c.requires.same in
    let known = members_for_model model set same c.stands_in_order.ensures.possible in
    subst (λ (o : OracleValue). IsPlainAnswer o.model o.pivots set.members c.tell.result) c.self.view_is
    (told_answer model set.members c.self.inside.pivots c.verdict_of-answer.result c.tell.result (record { formed = c.row_count-rows.ensures.well_formed; known = known; linear = c.requires.served })
    (c.verdict_of-answer.ensures model set.members c.self.inside.pivots (subst (λ (p : List Branch). IsNodeEnd model set.members p c.self.inside.pivots c.solve-end.result) c.new.ensures c.solve-end.ensures.end)) c.tell.ensures.answer)
