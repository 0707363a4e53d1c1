use Rattle.std.proofs.Common.{[], ◌∷◌, ◌++◌, ◌∙◌, ap, subst, map}
use Rattle.std.specs.Prelude.{All}
use Rattle.report_text.specs.declared.phrases.Phrase.{Phrase}
use Rattle.report_text.specs.Grammar.{phrases_text}
use Rattle.report_printer.specs.EvidenceNumbers.{IsStepWithin}
use Rattle.report_printer.proofs.EvidencePrinted.{in_parts, line_first}
use Rattle.report_printer.proofs.steps.print_reduced.Goals as goal

pub returns-clause-text : goal.returns-clause-text
returns-clause-text c =
    let model = c.args.model.now in
    let reduced = c.args.reduced.now in
    let left = Phrase.Left reduced.rows reduced.columns in
    in_parts model Phrase.Reduced (map Phrase.Reduction reduced.steps) (left ∷ []) _ _ _ _
    c.in_ok-push_line.ensures
    (c.in_ok-print_steps.ensures.text ∙ ap (λ steps. c.push_line.new.into.items ++ phrases_text model (map Phrase.Reduction steps)) c.as_slice.ensures)
    (line_first model _ _ left c.in_ok-print_phrase.ensures.text)

pub returns-clause-within : goal.returns-clause-within
returns-clause-within c = record {
  steps = subst (All IsStepWithin) c.as_slice.ensures c.in_ok-print_steps.ensures.within;
  rows = c.in_ok-print_phrase.ensures.within.count;
  columns = c.in_ok-print_phrase.ensures.within.second;
}
