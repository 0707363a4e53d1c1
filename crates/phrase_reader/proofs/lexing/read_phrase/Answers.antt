use Rattle.std.proofs.Common.{sym, subst, ◌∙◌}
use Rattle.std.specs.Prelude.{codes}
use Rattle.std.proofs.lemmas.Slice.Eq.{bytes_eq-Decides}
use Rattle.phrase_reader.specs.Parts.{words_left}
use Rattle.phrase_reader.specs.Phrases.{Says}
use Rattle.phrase_reader.specs.Words.{Finds}
use Rattle.phrase_reader.proofs.Lexed.{found_row, found_command}
use Rattle.phrase_reader.proofs.lexing.read_phrase.Goals as goal

pub returns-then-is_word : goal.returns-then-is_word
returns-then-is_word c =
    let first = c.first_word.result.0.now in
    found_command c.args.model.now c.args.line.now first (words_left c.first_word.result.1) c.first_word.ensures c.read_command.result
    ((bytes_eq-Decides first (codes "command")).0 (sym c.is_word.ensures ∙ c.if-is_word.true)) (c.read_command.ensures c.args.model.now)

pub returns : goal.returns
returns c =
    subst (Finds (Says c.args.model.now c.args.line.now)) (sym c.read_row.ensures)
    (found_row c.args.model.now c.args.line.now c.first_word.result.0.now (words_left c.first_word.result.1) c.first_word.ensures c.row_count-rows.ensures.well_formed (sym c.is_word.ensures ∙ c.if-is_word.false))
