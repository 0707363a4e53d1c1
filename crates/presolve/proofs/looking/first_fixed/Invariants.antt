use Rattle.std.proofs.Common.{◌≡◌, None}
use Rattle.certs.specs.Ended.{numbers_from}
use Rattle.reductions.specs.Rules.{fixed_at}
use Rattle.reductions.specs.Reduction.{first_found}
use Rattle.presolve.proofs.looking.first_fixed.Given as goal

-- none so far is fixed
abbrev pub invariant-loop-column : goal.invariant-loop-column
invariant-loop-column l = first_found (fixed_at l.system) (numbers_from 0 l.column) ≡ None
