use Rattle.std.proofs.Common.{◌≡◌, ◌++◌, ℕ, sym, subst}
use Rattle.std.specs.Prelude.{Option}
use Rattle.report_text.specs.declared.phrases.Phrase.{Phrase}
use Rattle.report_text.specs.Grammar.{rounds_phrases, phrases_text}
use Rattle.report_printer.proofs.EvidencePrinted.{line_first}
use Rattle.report_printer.proofs.least.print_rounds.Goals as goal

pub returns-in_ok-print_phrase-clause-text : goal.returns-in_ok-print_phrase-clause-text
returns-in_ok-print_phrase-clause-text c =
    let model = c.args.model.now in
    let start = c.args.into.now.items in
    let next = c.print_phrase.new.into.items in
    subst (λ (v : Option ℕ). next ≡ start ++ phrases_text model (rounds_phrases v)) (sym c.in-Some.is)
    (line_first model start next (Phrase.Rounds c.in-Some.rounds) c.in_ok-print_phrase.ensures.text)
