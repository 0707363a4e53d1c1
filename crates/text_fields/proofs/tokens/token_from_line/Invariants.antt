use Rattle.std.proofs.Common.{◌≡◌, ◌≤◌, ◌+◌, ◌-◌, length, drop}
use Rattle.text_fields.specs.Lines.{lines_of}
use Rattle.text_fields.specs.Tokens.{scan_lines}
use Rattle.text_fields.proofs.tokens.token_from_line.Given as goal

abbrev pub invariant-loop-begin : goal.invariant-loop-begin
invariant-loop-begin l = record {
  same : scan_lines l.fn.place.line (lines_of (drop l.fn.place.at l.bytes)) ≡ scan_lines l.begin.line (lines_of (drop l.begin.at l.bytes));
  further : l.fn.place.at ≤ l.begin.at;
  later : l.fn.place.line ≤ l.begin.line;
  within : l.begin.at ≤ length l.bytes;
  few : l.begin.line ≤ l.begin.at + 1;
}

abbrev pub decreases-loop-begin : goal.decreases-loop-begin
decreases-loop-begin l = length l.bytes - l.begin.at
