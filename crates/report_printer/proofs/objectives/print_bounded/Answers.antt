use Rattle.std.proofs.Common.{◌++◌}
use Rattle.report_text.specs.declared.phrases.Phrase.{Phrase}
use Rattle.report_text.specs.Grammar.{point_phrases, objective_phrases, dual_phrases}
use Rattle.report_printer.proofs.EvidencePrinted.{in_parts, lines_more}
use Rattle.report_printer.proofs.objectives.print_bounded.Goals as goal

pub returns-clause-text : goal.returns-clause-text
returns-clause-text c =
    let model = c.args.model.now in
    let b = c.args.bounded.now in
    let start = c.args.into.now.items in
    let first = c.push_line.new.into.items in
    let second = c.print_point.new.into.items in
    let third = c.print_objective.new.into.items in
    in_parts model Phrase.Bounded (point_phrases b.point) (objective_phrases b.objective ++ dual_phrases b.dual) start first second _
    c.in_ok-push_line.ensures
    c.in_ok-print_point.ensures.text
    (lines_more model second third _ (objective_phrases b.objective) (dual_phrases b.dual) c.in_ok-print_objective.ensures.text c.in_ok-print_dual.ensures.text)
