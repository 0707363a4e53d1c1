use Rattle.std.proofs.Common.{◌≡◌, sym, subst}
use Rattle.lp_model.specs.Program.{IsWellFormed}
use Rattle.certs.specs.Answers.{IsTreeAnswer}
use Rattle.certs.specs.Checks.{IsSetOf}
use Rattle.branch_oracle.specs.Answers.{IsBranchAnswer}
use Rattle.branch_oracle.specs.Value.{BranchValue}
use Rattle.branch_oracle.proofs.Answering.{IsMade, known_answer, marked_answer, told_answer}
use Rattle.branch_oracle.proofs.oracle.BranchOracleOracle.ask.Goals as goal

pub tell-requires : goal.tell-requires
tell-requires g c =
    let oracle = g.B.Oracle in
    let before = oracle.state c.self.inside.inner in
    let set = c.args.set.now in
    let made : IsMade oracle.answers before (oracle.state c.answered-answer.new.inner) set c.self.inside.nodes c.answered-answer.result = record {
      formed = subst IsWellFormed (sym c.self.invariant) c.row_count-rows.ensures.well_formed;
      same = subst (λ (v : BranchValue g.row.B.Denot). IsSetOf (oracle.state v.inner).model set) (sym c.self.view_is) c.requires.same;
      possible = c.stands_in_order.ensures.possible;
      marked = c.answered-answer.ensures.marked;
      plain = c.answered-answer.ensures.plain;
    } in
    known_answer oracle.answers before (oracle.state c.answered-answer.new.inner) set c.self.inside.nodes c.answered-answer.result made (λ verdict h. g.met.B.Oracle.holds before.model before.budgets set.members verdict h)

pub returns-clause-answered : goal.returns-clause-answered
returns-clause-answered g c =
    let oracle = g.B.Oracle in
    let before = oracle.state c.self.inside.inner in
    let set = c.args.set.now in
    let made : IsMade oracle.answers before (oracle.state c.answered-answer.new.inner) set c.self.inside.nodes c.answered-answer.result = record {
      formed = subst IsWellFormed (sym c.self.invariant) c.row_count-rows.ensures.well_formed;
      same = subst (λ (v : BranchValue g.row.B.Denot). IsSetOf (oracle.state v.inner).model set) (sym c.self.view_is) c.requires.same;
      possible = c.stands_in_order.ensures.possible;
      marked = c.answered-answer.ensures.marked;
      plain = c.answered-answer.ensures.plain;
    } in
    subst (λ (v : BranchValue g.row.B.Denot). IsBranchAnswer oracle.answers (oracle.state v.inner).model (record { pivots = (oracle.state v.inner).budgets.pivots; nodes = v.nodes }) set.members c.tell.result) c.self.view_is
    (told_answer oracle.answers before (oracle.state c.answered-answer.new.inner) set c.self.inside.nodes c.answered-answer.result made c.tell.result c.tell.ensures.answer)

pub returns-clause-marked : goal.returns-clause-marked
returns-clause-marked g c = λ h.
    let oracle = g.B.Oracle in
    let before = oracle.state c.self.inside.inner in
    let set = c.args.set.now in
    let made : IsMade oracle.answers before (oracle.state c.answered-answer.new.inner) set c.self.inside.nodes c.answered-answer.result = record {
      formed = subst IsWellFormed (sym c.self.invariant) c.row_count-rows.ensures.well_formed;
      same = subst (λ (v : BranchValue g.row.B.Denot). IsSetOf (oracle.state v.inner).model set) (sym c.self.view_is) c.requires.same;
      possible = c.stands_in_order.ensures.possible;
      marked = c.answered-answer.ensures.marked;
      plain = c.answered-answer.ensures.plain;
    } in
    let after = oracle.state c.answered-answer.new.inner in
    subst
    (λ (v : BranchValue g.row.B.Denot). IsTreeAnswer (oracle.state v.inner).model (record { pivots = (oracle.state v.inner).budgets.pivots; nodes = v.nodes }) set.members c.tell.result × (after ≡ oracle.state v.inner))
    c.self.view_is
    (marked_answer oracle.answers before after set c.self.inside.nodes c.answered-answer.result made c.tell.result c.tell.ensures.answer h, (c.answered-answer.ensures.marked h).1)
