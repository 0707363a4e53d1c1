-- What rounds of enforcing give, and how they stop.
use Rattle.std.specs.Prelude.{◌≡◌, ◌⊎◌, ⊤, ℕ, suc, ◌+◌, ◌≤◌, List, [], ◌++◌, length, Result, Ok, Err}
use Rattle.lp_model.specs.declared.members.Member.{Member}
use Rattle.lp_model.specs.Program.{Program}
use Rattle.lp_model.specs.MemberSets.{SetValue}
use Rattle.lp_model.specs.Satisfaction.{IsPart, IsUnsatisfiable}
use Rattle.certs.specs.declared.evidence.Combo.{Combo}
use Rattle.certs.specs.declared.solving.Stop.{Stop}
use Rattle.certs.specs.declared.solving.Stop.TheVariants.{Memory}
use Rattle.certs.specs.declared.solving.Stretched.{Stretched}
use Rattle.certs.specs.Checks.{IsSetOf}
use Rattle.certs.specs.Combination.{IsCombination}
use Rattle.certs.specs.Filter.{Enforces, Rounds}
use Rattle.certs.specs.Sites.{Budgets}
use Rattle.certs.specs.Tales.{IsPointOf, Stopped, listed_stop}
use Rattle.elastic_filter.specs.declared.enforcing.Enforced.{Enforced}
use Rattle.elastic_filter.specs.declared.enforcing.Enforced.TheVariants.{Set, Feasible}

-- The members are the last of a chain of so many enforced sets, and a combination of them shows that no point satisfies them. There is at most one round more than an unsatisfiable part of the set has members.
pub record IsEnforcedBy (model : Program) (set : List Member) (members : SetValue) (combo : Combo) (rounds : ℕ) : Type 0 where
  pub same : IsSetOf model members
  pub rounds_are : Rounds model set rounds members.members
  pub proves : IsCombination model members.members [] combo.shares
  pub few : (part : List Member) → IsPart part set → IsUnsatisfiable model part → rounds ≤ suc (length part)

-- such members, or a point of the whole set
abbrev pub IsEnforced : Program → List Member → Enforced → Type 0
IsEnforced model set (Set members combo rounds) = IsEnforcedBy model set members combo rounds
IsEnforced model set (Feasible point) = IsPointOf model set point

-- the stop was answered to a round whose enforced set a chain reaches
pub record IsAnsweredRound (answers : Program → Budgets → List Member → List Member → Result Stretched Stop → Type 0) (model : Program) (budgets : Budgets) (set : List Member) (stop : Stop) : Type 0 where
  pub count : ℕ
  pub enforced : List Member
  pub chain : Enforces model set count enforced
  pub answered : answers model budgets set enforced (Err stop)

-- or there was no memory to go on
abbrev pub IsRoundStop : (Program → Budgets → List Member → List Member → Result Stretched Stop → Type 0) → Program → Budgets → List Member → Stop → Type 0
IsRoundStop answers model budgets set stop = (stop ≡ Memory) ⊎ IsAnsweredRound answers model budgets set stop

-- no more rounds were made than are told
abbrev pub AreRounds : ℕ → ℕ → Enforced → Type 0
AreRounds before after (Set members combo rounds) = after ≤ before + rounds
AreRounds before after (Feasible point) = ⊤

-- a stop stands at the end of the stretcher's list, with the set and the part that was enforced; want of memory does not
abbrev pub IsStretcherLeft : List Stopped → List Stopped → List Member → Result Enforced Stop → Type 0
IsStretcherLeft before after set (Ok found) = after ≡ before
IsStretcherLeft before after set (Err stop) = (enforced : List Member) × (after ≡ before ++ listed_stop stop set enforced)
