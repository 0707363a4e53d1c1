use Rattle.std.proofs.Common.{◌≡◌, None}
use Rattle.certs.specs.Ended.{numbers_from}
use Rattle.reductions.specs.Reduction.{first_found, found_at}
use Rattle.presolve.specs.Looked.{rule_of}
use Rattle.presolve.proofs.looking.first_in_rows.Given as goal

-- the rule finds nothing at a row so far
abbrev pub invariant-loop-index : goal.invariant-loop-index
invariant-loop-index l = first_found (found_at (rule_of l.rule) l.stage) (numbers_from 0 l.index) ≡ None
