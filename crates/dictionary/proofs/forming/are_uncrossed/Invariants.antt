use Rattle.std.proofs.Common.{◌≡◌, drop, take}
use Rattle.std.specs.Prelude.{All}
use Rattle.frac128.specs.Limit.{limit}
use Rattle.certs.specs.Checks.{every}
use Rattle.dictionary.specs.Starts.{FitLimits}
use Rattle.dictionary.specs.Forming.{uncrossed}
use Rattle.dictionary.proofs.forming.are_uncrossed.Given as goal

-- the limits left decide, and those before them fit
abbrev pub invariant-loop-one : goal.invariant-loop-one
invariant-loop-one l = record {
  left : every uncrossed (drop l.one-index l.limits) ≡ every uncrossed l.limits;
  fits : All (FitLimits limit) (take l.one-index l.limits);
}
