use Rattle.std.proofs.Common.{◌-◌}
use Rattle.text_fields.proofs.FieldLists.{FieldsSoFar}
use Rattle.text_fields.proofs.line_fields.fields.Given as goal

abbrev pub invariant-loop-at : goal.invariant-loop-at
invariant-loop-at l = FieldsSoFar l.bytes l.line l.fn.into.items l.into.items l.at

abbrev pub decreases-loop-at : goal.decreases-loop-at
decreases-loop-at l = l.line.to - l.at
