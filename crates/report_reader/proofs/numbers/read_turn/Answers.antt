use Rattle.std.proofs.Common.{refl, arith}
use Rattle.report_text.specs.Form.{IsCount}
use Rattle.report_reader.specs.Things.{turn_of}
use Rattle.report_reader.proofs.Found.{turn_finds}
use Rattle.report_reader.proofs.Passing.{one_read}
use Rattle.report_reader.proofs.numbers.read_turn.Goals as goal

pub returns-clause-read : goal.returns-clause-read
returns-clause-read c = one_read c.args.model.now c.requires.names _ _ turn_of IsCount turn_finds (λ x. refl) (λ x h. h) 0 (omega arith) _ c.args.cursor.now c.take.new.self _ _ c.turn_in-turn.ensures c.requires c.take.ensures.passes c.take.ensures.found
