use Rattle.std.proofs.Common.{◌≡◌, ◌++◌, sym, subst}
use Rattle.report_text.specs.declared.report.ToldStop.{ToldStop}
use Rattle.report_text.specs.declared.phrases.Phrase.{Phrase}
use Rattle.report_text.specs.declared.phrases.StopPhrase.{StopPhrase}
use Rattle.report_text.specs.Grammar.{stop_phrases, phrases_text}
use Rattle.report_printer.proofs.EvidencePrinted.{line_first}
use Rattle.report_printer.proofs.stops.print_stop.Goals as goal

pub returns-in_ok-print_phrase-in-Large-clause-text : goal.returns-in_ok-print_phrase-in-Large-clause-text
returns-in_ok-print_phrase-in-Large-clause-text c =
    let model = c.args.model.now in
    let start = c.args.into.now.items in
    let next = c.print_phrase.new.into.items in
    subst (λ (s : ToldStop). next ≡ start ++ phrases_text model (stop_phrases s)) (sym c.in-Large.is)
    (line_first model start next (Phrase.Stop (StopPhrase.Large c.in-Large.size)) c.in_ok-print_phrase-in-Large.ensures.text)
