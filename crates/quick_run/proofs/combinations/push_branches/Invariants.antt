use Rattle.quick_run.proofs.Building.{IsBranching}
use Rattle.quick_run.proofs.combinations.push_branches.Given as goal

abbrev pub invariant-loop-column : goal.invariant-loop-column
invariant-loop-column l = IsBranching l.path l.initial.shares.items l.shares.items l.column
