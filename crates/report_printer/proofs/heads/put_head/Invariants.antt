use Rattle.std.proofs.Common.{◌≡◌, ◌++◌, map, drop}
use Rattle.report_text.specs.declared.phrases.Phrase.{Phrase}
use Rattle.report_text.specs.Grammar.{phrases_text}
use Rattle.report_printer.proofs.heads.put_head.Given as goal

-- the lines that are left complete the text
abbrev pub invariant-loop-note : goal.invariant-loop-note
invariant-loop-note l = record {
  left : l.into.items ++ phrases_text l.model (map Phrase.Note (drop l.note-index l.note-items)) ≡ l.initial.into.items ++ phrases_text l.model (map Phrase.Note l.note-items);
}
