use Rattle.report_text.specs.declared.phrases.Phrase.{Phrase}
use Rattle.report_reader.specs.declared.numbers.Number.{Number}
use Rattle.report_reader.specs.Kinds.{word, both}
use Rattle.report_reader.specs.Things.{values, number}
use Rattle.report_reader.proofs.Both.{both_read}
use Rattle.report_reader.proofs.Parts as parts
use Rattle.report_reader.proofs.answers.read_price.Goals as goal

pub returns-clause-read : goal.returns-clause-read
returns-clause-read c = (both_read c.args.model.now c.requires.names (number Number.Total) (both (word Phrase.Price) (values c.args.model.now)) (parts.price_behind c.args.model.now c.requires.names) c.args.cursor.now c.read_number-total.new.cursor c.read_values-values.new.cursor c.read_number-total.result (tt, (record { values = c.read_values-values.result })) c.read_number-total.ensures.read c.read_number-total.ensures.stands (both_read c.args.model.now c.requires.names (word Phrase.Price) (values c.args.model.now) (parts.values_behind c.args.model.now c.requires.names Phrase.Price) c.read_number-total.new.cursor c.pass_word.new.self c.read_values-values.new.cursor tt (record { values = c.read_values-values.result }) c.pass_word.ensures.read c.pass_word.ensures.stands c.read_values-values.ensures.read c.read_values-values.ensures.stands) c.read_values-values.ensures.stands)
