use Rattle.std.proofs.Common.{[], ◌++◌, ◌∷◌, ap, ◌∙◌}
use Rattle.certs.specs.declared.evidence.Point.{Point}
use Rattle.report_text.specs.declared.phrases.Phrase.{Phrase}
use Rattle.report_text.specs.Grammar.{value_phrases, phrases_text}
use Rattle.report_printer.proofs.EvidencePrinted.{in_parts, line_first}
use Rattle.report_printer.proofs.prices.print_priced.Goals as goal

pub returns-clause-text : goal.returns-clause-text
returns-clause-text c =
    let model = c.args.model.now in
    let price = c.args.price.now in
    let start = c.args.into.now.items in
    let first = c.print_phrase.new.into.items in
    let second = c.push_line.new.into.items in
    in_parts model (Phrase.Total c.args.total) (Phrase.Price ∷ []) (value_phrases 0 price.values) start first second _
    c.in_ok-print_phrase.ensures.text
    (line_first model first second Phrase.Price c.in_ok-push_line.ensures)
    (c.in_ok-print_values.ensures.text ∙ ap (λ values. second ++ phrases_text model (value_phrases 0 values)) c.as_slice.ensures
    ∙ ap (λ (p : Point). second ++ phrases_text model (value_phrases 0 p.values)) c.in_ok-price.ensures)
