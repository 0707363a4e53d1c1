use Rattle.std.proofs.Common.{◌≡◌, ◌≤◌, ◌+◌, ◌-◌, length, drop}
use Rattle.text_fields.specs.Lines.{lines_of}
use Rattle.lp_statements.proofs.items.last_line.Given as goal

abbrev pub invariant-loop-line : goal.invariant-loop-line
invariant-loop-line l = (l.at ≤ length l.bytes) × (l.number ≤ l.at) × (length (lines_of l.bytes) ≡ l.number + length (lines_of (drop l.at l.bytes)))

abbrev pub decreases-loop-line : goal.decreases-loop-line
decreases-loop-line l = length l.bytes - l.at
