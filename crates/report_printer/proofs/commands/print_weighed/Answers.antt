use Rattle.std.proofs.Common.{◌≡◌, ◌++◌, ◌∷◌, []}
use Rattle.std.specs.Prelude.{codes}
use Rattle.report_text.specs.Grammar.{target_word, weight_word}
use Rattle.report_printer.proofs.EvidencePrinted.{word_more}
use Rattle.report_printer.proofs.commands.print_weighed.Goals as goal

pub returns : goal.returns
returns c =
    let target : c.push_word-2.new.into.items ≡ c.push_word.new.into.items ++ (target_word c.args.target ++ 32 ∷ []) = cc (c.in_ok-push_word-2.ensures) in
    word_more _ _ _ (codes "weight") _ c.in_ok-push_word.ensures
    (word_more _ _ _ (target_word c.args.target) _ target
    (word_more _ _ _ c.args.name.now (weight_word c.args.weight) c.in_ok-push_word-3.ensures c.in_ok-print_weight.ensures))
