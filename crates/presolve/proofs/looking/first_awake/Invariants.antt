use Rattle.std.proofs.Common.{◌≡◌, None}
use Rattle.certs.specs.Ended.{numbers_from}
use Rattle.reductions.specs.Reduction.{first_found, found_at}
use Rattle.presolve.specs.Looked.{rule_of}
use Rattle.presolve.specs.Quiet.{IsQuiet}
use Rattle.presolve.proofs.looking.first_awake.Given as goal

-- the rule finds nothing at a row so far, nor at one that is marked
abbrev pub invariant-loop-index : goal.invariant-loop-index
invariant-loop-index l = record {
  passed : first_found (found_at (rule_of l.rule) l.stage) (numbers_from 0 l.index) ≡ None;
  quiet : IsQuiet (rule_of l.rule) l.stage l.quiet.items;
}
