use Rattle.std.proofs.Common.{◌≡◌, take}
use Rattle.presolve.specs.Forced.{forced_columns}
use Rattle.presolve.proofs.sum_rules.forced.Given as goal

-- those of the terms passed are there
abbrev pub invariant-loop-term : goal.invariant-loop-term
invariant-loop-term l = l.columns.items ≡ forced_columns l.system l.sum (take l.term-index l.terms)
