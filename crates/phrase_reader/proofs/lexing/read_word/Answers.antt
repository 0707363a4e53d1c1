use Rattle.std.proofs.Common.{sym, ap, ◌∙◌}
use Rattle.phrase_reader.specs.Words.{word_in}
use Rattle.phrase_reader.proofs.lexing.read_word.Goals as goal

pub returns-in-Word : goal.returns-in-Word
returns-in-Word c = c.fixed.ensures c.args.model.now ∙ ap (λ k. word_in c.args.model.now k c.args.word.now c.args.given) (sym c.in-Word.is)
