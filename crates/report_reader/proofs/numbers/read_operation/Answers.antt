use Rattle.std.proofs.Common.{refl}
use Rattle.report_text.specs.Form.{IsOperation}
use Rattle.report_reader.specs.Things.{operation_of}
use Rattle.report_reader.proofs.Found.{operation_finds, zeros, zeros_fit}
use Rattle.report_reader.proofs.Passing.{one_read}
use Rattle.report_reader.proofs.numbers.read_operation.Goals as goal

pub returns-clause-read : goal.returns-clause-read
returns-clause-read c = one_read c.args.model.now c.requires.names _ _ operation_of IsOperation operation_finds (λ x. refl) (λ x h. h) zeros zeros_fit _ c.args.cursor.now c.take.new.self _ _ c.operation_in-wide.ensures c.requires c.take.ensures.passes c.take.ensures.found
