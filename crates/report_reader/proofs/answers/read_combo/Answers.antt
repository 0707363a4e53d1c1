use Rattle.report_text.specs.declared.phrases.Phrase.{Phrase}
use Rattle.report_reader.specs.Kinds.{word, both}
use Rattle.report_reader.specs.Things.{uses}
use Rattle.report_reader.proofs.Both.{both_read}
use Rattle.report_reader.proofs.Parts as parts
use Rattle.report_reader.proofs.answers.read_combo.Goals as goal

pub returns-clause-read : goal.returns-clause-read
returns-clause-read c = (both_read c.args.model.now c.requires.names (word Phrase.Dual) (both (uses c.args.model.now) (word Phrase.End)) (parts.uses_behind c.args.model.now c.requires.names) c.args.cursor.now c.pass_word.new.self c.pass_word-2.new.self tt (c.read_shares-shares.result, tt) c.pass_word.ensures.read c.pass_word.ensures.stands (both_read c.args.model.now c.requires.names (uses c.args.model.now) (word Phrase.End) (parts.end_behind_uses c.args.model.now c.requires.names) c.pass_word.new.self c.read_shares-shares.new.cursor c.pass_word-2.new.self c.read_shares-shares.result tt c.read_shares-shares.ensures.read c.read_shares-shares.ensures.stands c.pass_word-2.ensures.read c.pass_word-2.ensures.stands) c.pass_word-2.ensures.stands)
