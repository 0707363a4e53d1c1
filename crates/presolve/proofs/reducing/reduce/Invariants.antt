use Rattle.reductions.specs.Reduction.{Reduces}
use Rattle.reductions.specs.Reduction.Rule.{ForcingRow, ImpossibleRow, RedundantRow}
use Rattle.reductions.specs.Stage.{start_stage}
use Rattle.presolve.specs.Quiet.{IsQuiet}
use Rattle.presolve.proofs.Remaining.{remaining}
use Rattle.presolve.proofs.reducing.reduce.Given as goal

-- the steps so far lead from the system to the stage, where the rules that take sums find nothing at the rows that are marked
abbrev pub invariant-loop-steps : goal.invariant-loop-steps
invariant-loop-steps l = record {
  reduces : Reduces (start_stage l.fn.system) l.steps.items l.stage;
  impossible : IsQuiet ImpossibleRow l.stage l.quiet.impossible.items;
  redundant : IsQuiet RedundantRow l.stage l.quiet.redundant.items;
  forcing : IsQuiet ForcingRow l.stage l.quiet.forcing.items;
}

-- each step makes less of what is left
abbrev pub decreases-loop-steps : goal.decreases-loop-steps
decreases-loop-steps l = remaining l.stage
