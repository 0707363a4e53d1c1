use Rattle.std.proofs.Common.{◌≡◌, false, take}
use Rattle.quick_run.specs.Shape.{has_most}
use Rattle.quick_run.proofs.combinations.has_branch_below.Given as goal

-- none of the branches passed is one
abbrev pub invariant-loop-branch : goal.invariant-loop-branch
invariant-loop-branch l = has_most (take l.branch-index l.path) l.column ≡ false
