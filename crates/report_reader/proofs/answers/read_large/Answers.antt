use Rattle.std.proofs.Common.{sym, ◌∙◌, true≢false}
use Rattle.report_text.specs.declared.phrases.Phrase.{Phrase}
use Rattle.report_reader.specs.Kinds.{word}
use Rattle.report_reader.proofs.Both.{both_read}
use Rattle.report_reader.proofs.Parts.{behind_word}
use Rattle.report_reader.proofs.Passing.{word_read, one_ahead}
use Rattle.report_reader.proofs.answers.read_large.Goals as goal

pub returns-clause-read : goal.returns-clause-read
returns-clause-read c p f =
    let m = c.args.model.now in
    let n = c.requires.names in
    both_read m n (word p) (word Phrase.End) (behind_word m n p (word Phrase.End) tt tt) c.args.cursor.now c.pass.new.self c.pass_word.new.self tt tt
    (word_read m n p _ c.args.cursor.now c.pass.new.self (λ e q g. one_ahead q p (sym g ∙ f)) (λ e g. true≢false e) c.requires c.pass.ensures.passes)
    c.pass.ensures.stands c.pass_word.ensures.read c.pass_word.ensures.stands
