use Rattle.report_text.specs.declared.phrases.Phrase.{Phrase}
use Rattle.report_reader.specs.Kinds.{word, both}
use Rattle.report_reader.specs.Things.{steps, left}
use Rattle.report_reader.proofs.Both.{both_read}
use Rattle.report_reader.proofs.Parts as parts
use Rattle.report_reader.proofs.answers.read_reduced.Goals as goal

pub returns-clause-read : goal.returns-clause-read
returns-clause-read c = (both_read c.args.model.now c.requires.names (word Phrase.Reduced) (both (steps c.args.model.now) (both (left) (word Phrase.End))) (parts.reduced_behind c.args.model.now c.requires.names) c.args.cursor.now c.pass_word.new.self c.pass_word-2.new.self tt (c.read_steps-steps.result, (c.read_left-rows.result, tt)) c.pass_word.ensures.read c.pass_word.ensures.stands (both_read c.args.model.now c.requires.names (steps c.args.model.now) (both (left) (word Phrase.End)) (parts.left_behind c.args.model.now c.requires.names) c.pass_word.new.self c.read_steps-steps.new.cursor c.pass_word-2.new.self c.read_steps-steps.result (c.read_left-rows.result, tt) c.read_steps-steps.ensures.read c.read_steps-steps.ensures.stands (both_read c.args.model.now c.requires.names (left) (word Phrase.End) (parts.end_behind_left c.args.model.now c.requires.names) c.read_steps-steps.new.cursor c.read_left-rows.new.cursor c.pass_word-2.new.self c.read_left-rows.result tt c.read_left-rows.ensures.read c.read_left-rows.ensures.stands c.pass_word-2.ensures.read c.pass_word-2.ensures.stands) c.pass_word-2.ensures.stands) c.pass_word-2.ensures.stands)
