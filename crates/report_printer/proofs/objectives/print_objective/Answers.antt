use Rattle.std.proofs.Common.{◌≡◌, ◌++◌, sym, subst}
use Rattle.std.specs.Prelude.{Option}
use Rattle.rational.specs.Rational.{ℚ}
use Rattle.report_text.specs.declared.phrases.Phrase.{Phrase}
use Rattle.report_text.specs.Grammar.{objective_phrases, phrases_text}
use Rattle.report_printer.proofs.EvidencePrinted.{line_first}
use Rattle.report_printer.proofs.objectives.print_objective.Goals as goal

pub returns-in_ok-print_phrase-clause-text : goal.returns-in_ok-print_phrase-clause-text
returns-in_ok-print_phrase-clause-text c =
    let model = c.args.model.now in
    let start = c.args.into.now.items in
    let next = c.print_phrase.new.into.items in
    subst (λ (v : Option ℚ). next ≡ start ++ phrases_text model (objective_phrases v)) (sym c.in-Some.is)
    (line_first model start next (Phrase.Objective c.in-Some.value) c.in_ok-print_phrase.ensures.text)
