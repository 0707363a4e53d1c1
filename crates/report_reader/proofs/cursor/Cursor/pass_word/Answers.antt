use Rattle.std.proofs.Common.{sym, ap, ◌∙◌, true≢false}
use Rattle.report_reader.specs.Things.{phrase_of, says_word}
use Rattle.report_reader.proofs.Found.{word_is, word_itself}
use Rattle.report_reader.proofs.Passing.{word_read}
use Rattle.report_reader.proofs.cursor.Cursor.pass_word.Goals as goal

pub returns-clause-read : goal.returns-clause-read
returns-clause-read c =
    let w = c.args.word in
    word_read c.args.model.now c.requires.names (phrase_of w) c.says-right.result c.args.self.now c.pass.new.self
    (λ e q f. word_is w q (sym (ap (says_word w) f) ∙ sym c.says-right.ensures ∙ e))
    (λ e f. true≢false (sym (word_itself w) ∙ sym (ap (says_word w) f) ∙ sym c.says-right.ensures ∙ e))
    c.requires c.pass.ensures.passes
