use Rattle.rational.specs.Rational.{zero_ℚ}
use Rattle.report_text.specs.Form.{IsWithinLimit}
use Rattle.report_reader.specs.Things.{number_phrase, number_of}
use Rattle.report_reader.proofs.Found.{number_finds, number_says, number_is}
use Rattle.report_reader.proofs.Points.{zero_fits}
use Rattle.report_reader.proofs.Passing.{one_read}
use Rattle.report_reader.proofs.numbers.read_number.Goals as goal

pub returns-clause-read : goal.returns-clause-read
returns-clause-read c = one_read c.args.model.now c.requires.names _ (number_phrase c.args.number) (number_of c.args.number) IsWithinLimit (number_finds c.args.number) (number_says c.args.number) (number_is c.args.model.now c.args.number) zero_ℚ zero_fits _ c.args.cursor.now c.take.new.self _ _ c.number_in-value.ensures c.requires c.take.ensures.passes c.take.ensures.found
