use Rattle.std.proofs.Common.{◌≡◌, false}
use Rattle.std.specs.List.{list_any}
use Rattle.certs.specs.Ended.{numbers_from}
use Rattle.quick_answers.proofs.Marks.{has_mark_of}
use Rattle.quick_answers.proofs.alone.has_mark.Given as goal

-- none of the columns passed has its mark in the set
abbrev pub invariant-loop-column : goal.invariant-loop-column
invariant-loop-column l = list_any (has_mark_of l.set.members) (numbers_from 0 l.column) ≡ false
