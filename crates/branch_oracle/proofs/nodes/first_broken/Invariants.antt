use Rattle.std.proofs.Common.{◌≡◌, find, None}
use Rattle.certs.specs.Ended.{numbers_from}
use Rattle.certs.specs.Trees.{is_broken}
use Rattle.branch_oracle.proofs.nodes.first_broken.Given as goal

-- no mark of the columns passed is broken
abbrev pub invariant-loop-column : goal.invariant-loop-column
invariant-loop-column l = find (is_broken l.model l.set.members l.values) (numbers_from 0 l.column) ≡ None
