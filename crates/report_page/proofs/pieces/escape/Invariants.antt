use Rattle.std.proofs.Common.{◌≡◌, ◌++◌, drop}
use Rattle.report_page.specs.Escaping.{escaped}
use Rattle.report_page.proofs.pieces.escape.Given as goal

-- what is left of the text completes it
abbrev pub invariant-loop-byte : goal.invariant-loop-byte
invariant-loop-byte l = l.into.items ++ escaped (drop l.byte-index l.text) ≡ l.initial.into.items ++ escaped l.text
