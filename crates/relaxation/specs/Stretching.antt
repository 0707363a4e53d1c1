-- What callers see of an elastic stretcher, and what it answers.
use Rattle.std.specs.Prelude.{◌≡◌, ℕ, ◌<◌, Bool, List, length, slice_index_or, Result, Ok, Err}
use Rattle.rational.specs.Rational.{ℚ, zero_ℚ, lt_q}
use Rattle.lp_model.specs.declared.members.Member.{Member}
use Rattle.lp_model.specs.declared.members.Member.TheVariants.{Lower}
use Rattle.lp_model.specs.Program.{Program}
use Rattle.certs.specs.declared.solving.Stop.{Stop}
use Rattle.certs.specs.declared.solving.Stretched.{Stretched}
use Rattle.certs.specs.Sites.{Budgets}
use Rattle.certs.specs.Tales.{IsStretched, IsStretchStop, Stopped}

-- the program, how many pivots each round may make, the rounds made so far, and the stops
pub record StretcherValue : Type 0 where
  pub model : Program
  pub pivots : ℕ
  pub rounds : ℕ
  pub stops : List Stopped

-- a point of the set, the members to be enforced besides, or a combination of those enforced; or a stop of the round's run
abbrev pub IsRound : Program → Budgets → List Member → List Member → Result Stretched Stop → Type 0
IsRound model budgets set enforced (Ok answer) = IsStretched model set enforced answer
IsRound model budgets set enforced (Err stop) = IsStretchStop model budgets set enforced stop

-- what is answered holds
pub round_holds : (model : Program) (budgets : Budgets) (set enforced : List Member) (answer : Stretched) → IsRound model budgets set enforced (Ok answer) → IsStretched model set enforced answer
round_holds model budgets set enforced answer h = h

-- and a stop is the run's
pub round_stopped : (model : Program) (budgets : Budgets) (set enforced : List Member) (stop : Stop) → IsRound model budgets set enforced (Err stop) → IsStretchStop model budgets set enforced stop
round_stopped model budgets set enforced stop h = h

-- the test tells of each of the members whether its value is above 0
abbrev pub IsTestOf : List Member → List ℚ → (Member → Bool) → Type 0
IsTestOf soft values test = (k : ℕ) → k < length soft → lt_q zero_ℚ (slice_index_or values k zero_ℚ) ≡ test (slice_index_or soft k (Lower 0))
