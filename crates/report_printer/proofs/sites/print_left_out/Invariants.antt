use Rattle.std.proofs.Common.{◌≡◌, ◌++◌, map, drop}
use Rattle.report_text.specs.Grammar.{without_phrase, phrases_text}
use Rattle.report_printer.proofs.sites.print_left_out.Given as goal

-- the lines that are left complete the text
abbrev pub invariant-loop-member : goal.invariant-loop-member
invariant-loop-member l = record {
  left : l.into.items ++ phrases_text l.model (map without_phrase (drop l.member-index l.left)) ≡ l.initial.into.items ++ phrases_text l.model (map without_phrase l.left);
}
