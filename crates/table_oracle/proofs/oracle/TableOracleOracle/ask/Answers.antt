use Rattle.table_oracle.proofs.Judged.{known_answer}
use Rattle.table_oracle.proofs.oracle.TableOracleOracle.ask.Goals as goal

pub tell-requires : goal.tell-requires
tell-requires c = known_answer c.self.inside.model.now c.args.set.now c.judged-answer.result c.stands_in_order.ensures.possible c.judged-answer.ensures.answered
