use Rattle.report_text.specs.declared.phrases.Phrase.{Phrase}
use Rattle.report_reader.specs.Kinds.{word, both}
use Rattle.report_reader.specs.Things.{point}
use Rattle.report_reader.proofs.Both.{both_read}
use Rattle.report_reader.proofs.Parts as parts
use Rattle.report_reader.proofs.answers.read_feasible.Goals as goal

pub returns-clause-read : goal.returns-clause-read
returns-clause-read c = (both_read c.args.model.now c.requires.names (word Phrase.Feasible) (both (point c.args.model.now) (word Phrase.End)) (parts.feasible_behind c.args.model.now c.requires.names) c.args.cursor.now c.pass_word.new.self c.pass_word-2.new.self tt ((tt, c.read_point-point.result), tt) c.pass_word.ensures.read c.pass_word.ensures.stands (both_read c.args.model.now c.requires.names (point c.args.model.now) (word Phrase.End) (parts.end_behind_point c.args.model.now c.requires.names) c.pass_word.new.self c.read_point-point.new.cursor c.pass_word-2.new.self (tt, c.read_point-point.result) tt c.read_point-point.ensures.read c.read_point-point.ensures.stands c.pass_word-2.ensures.read c.pass_word-2.ensures.stands) c.pass_word-2.ensures.stands)
