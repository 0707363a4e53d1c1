use Rattle.std.proofs.Common.{◌≡◌, ◌++◌, map, drop}
use Rattle.report_text.specs.Grammar.{branch_phrase, phrases_text}
use Rattle.report_printer.proofs.sites.print_path.Given as goal

-- the lines that are left complete the text
abbrev pub invariant-loop-branch : goal.invariant-loop-branch
invariant-loop-branch l = record {
  left : l.into.items ++ phrases_text l.model (map branch_phrase (drop l.branch-index l.path)) ≡ l.initial.into.items ++ phrases_text l.model (map branch_phrase l.path);
}
