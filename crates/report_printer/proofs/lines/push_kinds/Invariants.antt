use Rattle.std.proofs.Common.{◌≡◌, ◌++◌, drop, flat_map}
use Rattle.report_text.specs.Grammar.{words_at}
use Rattle.report_printer.specs.Rows.{behind, AreThere}
use Rattle.report_printer.proofs.lines.push_kinds.Given as goal

-- the words that are left complete the text, and name what is there
abbrev pub invariant-loop-kind : goal.invariant-loop-kind
invariant-loop-kind l = record {
  left : l.into.items ++ flat_map (λ k. behind (words_at l.model l.given k)) (drop l.kind-index l.kinds) ≡ l.initial.into.items ++ flat_map (λ k. behind (words_at l.model l.given k)) l.kinds;
  known : AreThere l.model l.given (drop l.kind-index l.kinds);
}
