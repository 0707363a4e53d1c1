use Rattle.std.proofs.Common.{◌≡◌, find, None}
use Rattle.certs.specs.Ended.{numbers_from}
use Rattle.certs.specs.Plain.{crosses}
use Rattle.linear_oracle.proofs.crossings.first_crossing.Given as goal

-- none so far crosses
abbrev pub invariant-loop-variable : goal.invariant-loop-variable
invariant-loop-variable l = find (crosses l.system) (numbers_from 0 l.variable) ≡ None
