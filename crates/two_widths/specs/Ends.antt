-- Where a dictionary stands at the end of a system's own runs, and how these stop.
use Rattle.std.specs.Prelude.{◌≡◌, ◌⊎◌, ℕ, true, List, length, None, IsSome}
use Rattle.frac128.specs.Calculation.{first_wide}
use Rattle.certs.specs.Improves.{ImproveEnd}
use Rattle.certs.specs.Improves.ImproveEnd.{AtOptimum, Unbounded, TooWide as ImproveTooWide, Spent as ImproveSpent}
use Rattle.certs.specs.Runs.End.{Feasible as IsFeasible, Infeasible as IsInfeasible, TooWide, Spent}
use Rattle.certs.specs.Solves.{ImproveStops, RunEnds, StartRun}
use Rattle.certs.specs.System.{LinearSystem, Place}
use Rattle.certs.specs.Tableau.{IsTableauOf}
use Rattle.certs.specs.Turns.{settle_choice, settle_values}
use Rattle.dictionary.specs.Value.{DictionaryValue, tableau_of}
use Rattle.simplex.specs.Ends.{IsEnd}
use Rattle.simplex.specs.ImproveEnds.{EndsAt, KeepsLimits}
use Rattle.simplex.specs.declared.improving.Improved.TheVariants.{Optimal as ImprovesOptimal, Unbounded as ImprovesUnbounded}
use Rattle.simplex.specs.declared.settling.RunStop.{RunStop}
use Rattle.simplex.specs.declared.settling.RunStop.TheVariants.{Wide, Pivots, Memory}
use Rattle.simplex.specs.declared.settling.Settled.{Settled}
use Rattle.simplex.specs.declared.settling.Settled.TheVariants.{Feasible as SettlesFeasible, Infeasible as SettlesInfeasible}
use Rattle.two_widths.specs.declared.runs.End.{End}
use Rattle.two_widths.specs.declared.runs.End.TheVariants.{Feasible, Infeasible, Optimal, Ray}

-- the settle run from the start ends feasible, and the improve run after it ends so at the basis, within so many pivots
pub record EndsSo (system : LinearSystem) (pivots : ℕ) (end : ImproveEnd) (basis : List Place) : Type 0 where
  pub run : ImproveStops system pivots end
  pub last_is : run.last ≡ basis

-- the settle run stops so, or the improve run after it; a refusal of memory tells nothing of them
abbrev pub StopsSo : LinearSystem → ℕ → RunStop → Type 0
StopsSo system pivots (Wide turn operation) = RunEnds system pivots (TooWide turn operation) ⊎ ImproveStops system pivots (ImproveTooWide turn operation)
StopsSo system pivots Pivots = RunEnds system pivots Spent ⊎ ImproveStops system pivots ImproveSpent
StopsSo system pivots Memory = Unit {0}

-- why the settle run from the start stops; a refusal of memory tells nothing of it
abbrev pub IsStopOf : LinearSystem → ℕ → RunStop → Type 0
IsStopOf system pivots (Wide turn o) = RunEnds system pivots (TooWide turn o)
IsStopOf system pivots Pivots = RunEnds system pivots Spent
IsStopOf system pivots Memory = Unit {0}

-- the last run that is made ends so at the basis: where there is an objective and the settle run ends feasible, it is the improve run
abbrev pub LastEnds : LinearSystem → ℕ → End → List Place → Type 0
LastEnds system pivots Feasible basis = (system.objective ≡ None) × StartRun system pivots IsFeasible basis
LastEnds system pivots (Infeasible v) basis = StartRun system pivots (IsInfeasible v) basis
LastEnds system pivots Optimal basis = IsSome system.objective × EndsSo system pivots AtOptimum basis
LastEnds system pivots (Ray j) basis = IsSome system.objective × EndsSo system pivots (Unbounded j) basis

-- the choice of a settle turn is this end, and no operation for it is too wide
abbrev pub SettlesHere : ℕ → DictionaryValue → Settled → Type 0
SettlesHere most now settled = IsEnd settled (settle_choice (tableau_of now)) × (first_wide most (settle_values (tableau_of now)) ≡ None)

-- the choice there is that of the end, and no operation for it is too wide; no variable is outside its limits where the improve run has ended
abbrev pub IsChosen : ℕ → LinearSystem → DictionaryValue → End → Type 0
IsChosen most system now Feasible = SettlesHere most now SettlesFeasible
IsChosen most system now (Infeasible v) = SettlesHere most now (SettlesInfeasible v)
IsChosen most system now Optimal = EndsAt most now ImprovesOptimal × KeepsLimits system (tableau_of now)
IsChosen most system now (Ray j) = EndsAt most now (ImprovesUnbounded j) × KeepsLimits system (tableau_of now)

-- the dictionary may be used, is one of the system, and stands at this end
pub record StandsAt (most : ℕ) (system : LinearSystem) (now : DictionaryValue) (end : End) : Type 0 where
  pub usable : now.usable ≡ true
  pub is_of : IsTableauOf system (tableau_of now)
  pub columns : now.columns ≡ length system.columns
  pub chosen : IsChosen most system now end
