use Rattle.std.proofs.Common.{◌++◌, ◌∙◌, ap, map}
use Rattle.report_text.specs.declared.phrases.Phrase.{Phrase}
use Rattle.report_text.specs.declared.phrases.StopPhrase.{StopPhrase}
use Rattle.report_text.specs.Grammar.{without_phrase, enforced_phrase, branch_phrase, phrases_text}
use Rattle.report_printer.proofs.EvidencePrinted.{in_parts, lines_more}
use Rattle.report_printer.proofs.sites.print_site.Goals as goal

pub returns : goal.returns
returns c =
    let model = c.args.model.now in
    let site = c.args.site.now in
    let first = c.print_phrase.new.into.items in
    let second = c.print_left_out.new.into.items in
    let third = c.print_enforced.new.into.items in
    in_parts model (Phrase.Stop (StopPhrase.Site site.kind)) (map without_phrase site.left) (map enforced_phrase site.enforced ++ map branch_phrase site.path) _ _ _ _
    c.in_ok-print_phrase.ensures.text
    (c.in_ok-print_left_out.ensures ∙ ap (λ left. first ++ phrases_text model (map without_phrase left)) c.as_slice.ensures)
    (lines_more model _ third _ (map enforced_phrase site.enforced) (map branch_phrase site.path)
    (c.in_ok-print_enforced.ensures ∙ ap (λ enforced. second ++ phrases_text model (map enforced_phrase enforced)) c.as_slice-2.ensures)
    (c.in_ok-print_path.ensures ∙ ap (λ path. third ++ phrases_text model (map branch_phrase path)) c.as_slice-3.ensures))
