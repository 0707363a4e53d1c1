use Rattle.quick_answers.proofs.Answering.{known_answer}
use Rattle.quick_answers.proofs.oracle.QuickOracleOracle.ask.Goals as goal

pub tell-requires : goal.tell-requires
tell-requires g c =
    let oracle = g.O.Oracle in
    let before = oracle.state c.self.inside.inner in
    let set = c.args.set.now in
    known_answer oracle.answers before (oracle.state c.answered-answer.new.inner) set c.answered-answer.result (λ verdict h. g.met.O.Oracle.holds before.model before.budgets set.members verdict h) c.stands_in_order.ensures.possible c.answered-answer.ensures.came
