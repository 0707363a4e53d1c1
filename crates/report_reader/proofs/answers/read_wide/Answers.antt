use Rattle.report_text.specs.declared.phrases.Phrase.{Phrase}
use Rattle.report_text.specs.declared.phrases.StopPhrase.{StopPhrase}
use Rattle.report_reader.specs.Kinds.{word, both}
use Rattle.report_reader.specs.Things.{turn, operation, site, site_read}
use Rattle.report_reader.proofs.Both.{both_read}
use Rattle.report_reader.proofs.Parts as parts
use Rattle.report_reader.proofs.answers.read_wide.Goals as goal

pub returns-clause-read : goal.returns-clause-read
returns-clause-read c = (both_read c.args.model.now c.requires.names (word (Phrase.Stop StopPhrase.Wide)) (both (site c.args.model.now) (both (turn) (both (operation) (word Phrase.End)))) (parts.wide_behind c.args.model.now c.requires.names) c.args.cursor.now c.pass_word.new.self c.pass_word-2.new.self tt ((site_read c.read_site-site.result), (c.read_turn-turn.result, (c.read_operation-wide.result, tt))) c.pass_word.ensures.read c.pass_word.ensures.stands (both_read c.args.model.now c.requires.names (site c.args.model.now) (both (turn) (both (operation) (word Phrase.End))) (parts.turn_behind c.args.model.now c.requires.names) c.pass_word.new.self c.read_site-site.new.cursor c.pass_word-2.new.self (site_read c.read_site-site.result) (c.read_turn-turn.result, (c.read_operation-wide.result, tt)) c.read_site-site.ensures.read c.read_site-site.ensures.stands (both_read c.args.model.now c.requires.names (turn) (both (operation) (word Phrase.End)) (parts.operation_behind c.args.model.now c.requires.names) c.read_site-site.new.cursor c.read_turn-turn.new.cursor c.pass_word-2.new.self c.read_turn-turn.result (c.read_operation-wide.result, tt) c.read_turn-turn.ensures.read c.read_turn-turn.ensures.stands (both_read c.args.model.now c.requires.names (operation) (word Phrase.End) (parts.end_behind_operation c.args.model.now c.requires.names) c.read_turn-turn.new.cursor c.read_operation-wide.new.cursor c.pass_word-2.new.self c.read_operation-wide.result tt c.read_operation-wide.ensures.read c.read_operation-wide.ensures.stands c.pass_word-2.ensures.read c.pass_word-2.ensures.stands) c.pass_word-2.ensures.stands) c.pass_word-2.ensures.stands) c.pass_word-2.ensures.stands)
