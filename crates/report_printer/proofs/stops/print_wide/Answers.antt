use Rattle.std.proofs.Common.{arith, [], ◌∷◌}
use Rattle.report_text.specs.declared.phrases.Phrase.{Phrase}
use Rattle.report_text.specs.declared.phrases.StopPhrase.{StopPhrase}
use Rattle.report_text.specs.Grammar.{site_phrases}
use Rattle.report_printer.proofs.EvidencePrinted.{in_parts, line_first, line_more}
use Rattle.report_printer.proofs.stops.print_wide.Goals as goal

pub returns : goal.returns
returns c =
    let model = c.args.model.now in
    let start = c.args.into.now.items in
    let middle = c.print_site.new.into.items in
    let step = Phrase.Stop (StopPhrase.Step c.args.step) in
    let operation = Phrase.Stop (StopPhrase.Operation c.args.operation.now) in
    let one = line_first model middle _ step c.in_ok-print_phrase.ensures.text in
    let two = line_more model middle _ _ (step ∷ []) operation one c.in_ok-print_phrase-2.ensures.text in
    let text = in_parts model (Phrase.Stop StopPhrase.Wide) (site_phrases c.args.site.now) (step ∷ operation ∷ []) start _ middle _ c.in_ok-push_line.ensures c.in_ok-print_site.ensures two in
    record {
      text = text;
      within = (omega (arith, c.ranges.step), record { left = c.in_ok-print_phrase-2.ensures.within.value; right = c.in_ok-print_phrase-2.ensures.within.right });
    }
