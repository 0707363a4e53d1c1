-- Steps with what they make of a system.
use Rattle.std.specs.Prelude.{ℕ, List, [], ◌∷◌, slice_set, Option}
use Rattle.std.specs.Option.{option_or}
use Rattle.rational.specs.Linear.{Term}
use Rattle.certs.specs.System.{Limits, SystemRow, LinearSystem}
use Rattle.reductions.specs.declared.steps.Step.{Step}

-- what is to stand at a number
pub record At (A : Type 0) : Type 0 where
  pub number : ℕ
  pub item : A

-- a step, and what it makes: new limits of columns, new rows, and the objective's new terms where it has other ones
pub record PlanValue : Type 0 where
  pub step : Step
  pub columns : List (At Limits)
  pub rows : List (At SystemRow)
  pub objective : Option (List Term)

-- the items with each of these in its place, one after another
abbrev pub put_all : {A : Type 0} → List (At A) → List A → List A
put_all [] items = items
put_all (new ∷ rest) items = put_all rest (slice_set items new.number new.item)

-- the system as it is planned
abbrev pub planned : PlanValue → LinearSystem → LinearSystem
planned plan system = record {
  columns = put_all plan.columns system.columns;
  rows = put_all plan.rows system.rows;
  objective = option_or plan.objective system.objective;
}
