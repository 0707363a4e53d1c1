use Rattle.std.proofs.Common.{refl, arith}
use Rattle.report_text.specs.Form.{IsCount}
use Rattle.report_reader.specs.Things.{rounds_of}
use Rattle.report_reader.proofs.Found.{rounds_finds}
use Rattle.report_reader.proofs.Passing.{one_read}
use Rattle.report_reader.proofs.numbers.read_rounds.Goals as goal

pub returns-clause-read : goal.returns-clause-read
returns-clause-read c = one_read c.args.model.now c.requires.names _ _ rounds_of IsCount rounds_finds (λ x. refl) (λ x h. h) 0 (omega arith) _ c.args.cursor.now c.take.new.self _ _ c.rounds_in-rounds.ensures c.requires c.take.ensures.passes c.take.ensures.found
