use Rattle.std.proofs.Common.{◌≡◌, ◌++◌, ◌∷◌, []}
use Rattle.std.specs.Prelude.{codes}
use Rattle.report_text.specs.Grammar.{side_word, limit_word}
use Rattle.report_printer.proofs.EvidencePrinted.{word_more}
use Rattle.report_printer.proofs.commands.print_set.Goals as goal

pub returns : goal.returns
returns c =
    let side : c.push_word-4.new.into.items ≡ c.push_word-3.new.into.items ++ (side_word c.args.side ++ 32 ∷ []) = cc (c.in_ok-push_word-4.ensures) in
    word_more _ _ _ (codes "set") _ c.in_ok-push_word.ensures
    (word_more _ _ _ c.args.place.now _ c.in_ok-push_word-2.ensures
    (word_more _ _ _ c.args.name.now _ c.in_ok-push_word-3.ensures
    (word_more _ _ _ (side_word c.args.side) (limit_word c.args.limit) side c.in_ok-print_limit.ensures)))
