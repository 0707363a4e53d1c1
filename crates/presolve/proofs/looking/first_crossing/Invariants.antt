use Rattle.std.proofs.Common.{◌≡◌, None}
use Rattle.certs.specs.Ended.{numbers_from}
use Rattle.reductions.specs.Rules.{crossing_at}
use Rattle.reductions.specs.Reduction.{first_found}
use Rattle.presolve.proofs.looking.first_crossing.Given as goal

-- none so far crosses
abbrev pub invariant-loop-variable : goal.invariant-loop-variable
invariant-loop-variable l = first_found (crossing_at l.system) (numbers_from 0 l.variable) ≡ None
