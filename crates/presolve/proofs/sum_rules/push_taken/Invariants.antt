use Rattle.std.proofs.Common.{◌≡◌, ◌++◌, map, take}
use Rattle.certs.specs.Named.{named}
use Rattle.reductions.specs.Rules.{taken_shares}
use Rattle.presolve.proofs.sum_rules.push_taken.Given as goal

-- those of the terms passed are there
abbrev pub invariant-loop-term : goal.invariant-loop-term
invariant-loop-term l = l.shares.items ≡ l.initial.shares.items ++ map (named l.columns) (taken_shares l.sum (take l.term-index l.terms) l.side)
