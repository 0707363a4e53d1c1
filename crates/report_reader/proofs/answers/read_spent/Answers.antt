use Rattle.report_text.specs.declared.phrases.Phrase.{Phrase}
use Rattle.report_reader.specs.Kinds.{word, both}
use Rattle.report_reader.specs.Things.{phrase_of, site, site_read}
use Rattle.report_reader.proofs.Both.{both_read}
use Rattle.report_reader.proofs.Parts as parts
use Rattle.report_reader.proofs.answers.read_spent.Goals as goal

pub returns-clause-read : goal.returns-clause-read
returns-clause-read c = (both_read c.args.model.now c.requires.names (word (phrase_of c.args.word)) (both (site c.args.model.now) (word Phrase.End)) (parts.site_behind c.args.model.now c.requires.names (phrase_of c.args.word)) c.args.cursor.now c.pass_word.new.self c.pass_word-2.new.self tt ((site_read c.read_site-site.result), tt) c.pass_word.ensures.read c.pass_word.ensures.stands (both_read c.args.model.now c.requires.names (site c.args.model.now) (word Phrase.End) (parts.end_behind_site c.args.model.now c.requires.names) c.pass_word.new.self c.read_site-site.new.cursor c.pass_word-2.new.self (site_read c.read_site-site.result) tt c.read_site-site.ensures.read c.read_site-site.ensures.stands c.pass_word-2.ensures.read c.pass_word-2.ensures.stands) c.pass_word-2.ensures.stands)
