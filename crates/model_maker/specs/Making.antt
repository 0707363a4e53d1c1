-- What is made of a number of periods.
use Rattle.std.specs.Prelude.{◌≡◌, ℕ, List}
use Rattle.model_maker.specs.declared.plans.MakeStop.{MakeStop}
use Rattle.model_maker.specs.declared.plans.MakeStop.TheVariants.{OutOfRange, Memory}
use Rattle.model_maker.specs.PlanText.{IsPlanSize, plan_text}

-- the bytes are the text of the plan of n periods, of which there may be so many
pub record IsPlanText (n : ℕ) (bytes : List ℕ) : Type 0 where
  pub size : IsPlanSize n
  pub same : bytes ≡ plan_text n

-- why there is no text: there may not be so many periods; or there may, and memory was refused
abbrev pub IsMakeStop : ℕ → MakeStop → Type 0
IsMakeStop n OutOfRange = ¬ (IsPlanSize n)
IsMakeStop n Memory = IsPlanSize n
