use Rattle.std.proofs.Common.{[], ◌∷◌, ◌++◌, ◌∙◌, ap, map}
use Rattle.report_text.specs.declared.phrases.Phrase.{Phrase}
use Rattle.report_text.specs.Grammar.{phrases_text}
use Rattle.report_printer.proofs.EvidencePrinted.{in_parts, line_first}
use Rattle.report_printer.proofs.objectives.print_dual.Goals as goal

pub returns-clause-text : goal.returns-clause-text
returns-clause-text c =
    let model = c.args.model.now in
    let dual = c.args.dual.now in
    let start = c.args.into.now.items in
    let first = c.print_phrase.new.into.items in
    let second = c.push_line.new.into.items in
    in_parts model (Phrase.Bound dual.bound) (Phrase.Dual ∷ []) (map Phrase.Use dual.combo.shares) start first second _
    c.in_ok-print_phrase.ensures.text
    (line_first model first second Phrase.Dual c.in_ok-push_line.ensures)
    (c.in_ok-print_uses.ensures.text ∙ ap (λ shares. second ++ phrases_text model (map Phrase.Use shares)) c.as_slice.ensures)
