use Rattle.std.proofs.Common.{refl, arith}
use Rattle.report_reader.specs.Things.{left_of}
use Rattle.report_reader.proofs.Found.{left_finds}
use Rattle.report_reader.proofs.Passing.{one_read}
use Rattle.report_reader.proofs.numbers.read_left.Goals as goal

pub returns-clause-read : goal.returns-clause-read
returns-clause-read c = one_read c.args.model.now c.requires.names _ _ left_of _ left_finds (λ x. refl) (λ x h. h) (0, 0) (omega arith, omega arith) _ c.args.cursor.now c.take.new.self _ _ c.left_in-left.ensures c.requires c.take.ensures.passes c.take.ensures.found
