use Rattle.std.proofs.Common.{◌≡◌, drop}
use Rattle.presolve.specs.Quiet.{marked}
use Rattle.presolve.proofs.quiet.mark_rows.Given as goal

-- what is left to mark completes the marks
abbrev pub invariant-loop-new : goal.invariant-loop-new
invariant-loop-new l = marked (drop l.new-index l.changed) l.marks ≡ marked l.changed l.fn.marks
