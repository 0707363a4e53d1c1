use Rattle.std.proofs.Common.{◌≡◌, drop}
use Rattle.presolve.specs.Plans.{put_all}
use Rattle.presolve.proofs.making.put_columns.Given as goal

-- what is left to put completes the columns
abbrev pub invariant-loop-new : goal.invariant-loop-new
invariant-loop-new l = put_all (drop l.new-index l.changed) l.columns ≡ put_all l.changed l.fn.columns
