use Rattle.std.proofs.Common.{take}
use Rattle.std.specs.Prelude.{All}
use Rattle.frac128.specs.Limit.{narrow_limit}
use Rattle.dictionary.specs.Starts.{FitLimits}
use Rattle.dictionary.proofs.fitting.all_limits_fit.Given as goal

-- those passed fit
abbrev pub invariant-loop-one : goal.invariant-loop-one
invariant-loop-one l = All (FitLimits narrow_limit) (take l.one-index l.limits)
