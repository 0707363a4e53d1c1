use Rattle.report_text.specs.declared.phrases.Phrase.{Phrase}
use Rattle.report_reader.specs.Kinds.{word}
use Rattle.report_reader.specs.Things.{values}
use Rattle.report_reader.proofs.Both.{both_read}
use Rattle.report_reader.proofs.Parts as parts
use Rattle.report_reader.proofs.evidence.read_point.Goals as goal

pub returns-clause-read : goal.returns-clause-read
returns-clause-read c = (both_read c.args.model.now c.requires.names (word Phrase.Point) (values c.args.model.now) (parts.values_behind c.args.model.now c.requires.names Phrase.Point) c.args.cursor.now c.pass_word.new.self c.read_values-values.new.cursor tt (record { values = c.read_values-values.result }) c.pass_word.ensures.read c.pass_word.ensures.stands c.read_values-values.ensures.read c.read_values-values.ensures.stands)
