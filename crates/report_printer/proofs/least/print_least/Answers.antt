use Rattle.std.proofs.Common.{[], ◌++◌, ◌∷◌, map, ap, ◌∙◌}
use Rattle.report_text.specs.declared.phrases.Phrase.{Phrase}
use Rattle.report_text.specs.Grammar.{point_phrases, phrases_text}
use Rattle.report_printer.proofs.EvidencePrinted.{in_parts, line_first, lines_more}
use Rattle.report_printer.proofs.least.print_least.Goals as goal

pub returns-clause-text : goal.returns-clause-text
returns-clause-text c =
    let model = c.args.model.now in
    let p = c.args.point.now in
    let dual = c.args.dual.now in
    let uses = Phrase.Dual ∷ map Phrase.Use dual.combo.shares in
    let start = c.args.into.now.items in
    let first = c.push_line.new.into.items in
    let second = c.print_phrase.new.into.items in
    let third = c.print_point.new.into.items in
    in_parts model Phrase.Least (Phrase.Total dual.bound ∷ []) (point_phrases p ++ uses) start first second _
    c.in_ok-push_line.ensures
    (line_first model first second (Phrase.Total dual.bound) c.in_ok-print_phrase.ensures.text)
    (lines_more model second third _ (point_phrases p) uses c.in_ok-print_point.ensures.text
    (c.in_ok-print_shares.ensures.text ∙ ap (λ shares. third ++ phrases_text model (Phrase.Dual ∷ map Phrase.Use shares)) c.as_slice.ensures))
