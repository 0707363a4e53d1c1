use Rattle.std.proofs.Common.{◌++◌, ◌∷◌, [], ◌∙◌, ap, append_assoc, decimal}
use Rattle.report_printer.proofs.commands.print_budget.Goals as goal

pub returns : goal.returns
returns c =
    let start = c.args.into.now.items in
    let what = c.args.what.now in
    let number = decimal c.args.most in
    c.in_ok-push_decimal.ensures ∙ (ap (λ t. t ++ number) c.in_ok-push_word.ensures ∙ (append_assoc start (what ++ 32 ∷ []) number ∙ ap (λ t. start ++ t) (append_assoc what (32 ∷ []) number)))
