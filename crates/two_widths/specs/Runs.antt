-- The runs of a system by a limit on parts.
use Rattle.std.specs.Prelude.{◌≡◌, ◌⊎◌, ℕ, List, None, IsSome}
use Rattle.frac128.specs.Limit.{narrow_limit}
use Rattle.frac128.specs.declared.Wide.{Wide as Operation}
use Rattle.certs.specs.Improves.{ImproveEnd, ImproveRun}
use Rattle.certs.specs.Improves.ImproveEnd.{AtOptimum, Unbounded, TooWide as ImproveTooWide, Spent as ImproveSpent}
use Rattle.certs.specs.Runs.{End as SettleEnd, SettleRun}
use Rattle.certs.specs.Runs.End.{Feasible as IsFeasible, Infeasible as IsInfeasible, TooWide, Spent}
use Rattle.certs.specs.System.{LinearSystem, Place}
use Rattle.certs.specs.Tableau.{start_basis}
use Rattle.dictionary.specs.Starts.{FitSystem}
use Rattle.simplex.specs.declared.improving.Improved.{Improved}
use Rattle.simplex.specs.declared.improving.Improved.TheVariants.{Optimal as ImprovesOptimal, Unbounded as ImprovesUnbounded}
use Rattle.simplex.specs.declared.settling.RunStop.{RunStop}
use Rattle.simplex.specs.declared.settling.RunStop.TheVariants.{Wide, Pivots, Memory}
use Rattle.two_widths.specs.declared.runs.End.{End}
use Rattle.two_widths.specs.declared.runs.End.TheVariants.{Feasible, Infeasible, Optimal, Ray}

-- The settle run from the system's start, with so many pivots, ends or stops so at a basis.
pub record SettlesBy (most : ℕ) (system : LinearSystem) (pivots : ℕ) (end : SettleEnd) (last : List Place) : Type 0 where
  pub left : ℕ
  pub turns : ℕ
  pub run : SettleRun most system (start_basis system) pivots 0 end last left turns

-- There is an objective and that run ends feasible, and the improve run from there, with the pivots that are left, ends or stops so at a basis.
pub record ImprovesBy (most : ℕ) (system : LinearSystem) (pivots : ℕ) (end : ImproveEnd) (last : List Place) : Type 0 where
  pub objective : IsSome system.objective
  pub settled : List Place
  pub first : SettlesBy most system pivots IsFeasible settled
  pub left : ℕ
  pub turns : ℕ
  pub further : ImproveRun most system settled first.left first.turns end last left turns

-- the end of an improve run as that of both
abbrev pub end_as : Improved → End
end_as ImprovesOptimal = Optimal
end_as (ImprovesUnbounded j) = Ray j

-- the last of the two runs that is made ends so at a basis
abbrev pub EndsBy : ℕ → LinearSystem → ℕ → End → List Place → Type 0
EndsBy most system pivots Feasible last = (system.objective ≡ None) × SettlesBy most system pivots IsFeasible last
EndsBy most system pivots (Infeasible v) last = SettlesBy most system pivots (IsInfeasible v) last
EndsBy most system pivots Optimal last = ImprovesBy most system pivots AtOptimum last
EndsBy most system pivots (Ray j) last = ImprovesBy most system pivots (Unbounded j) last

-- one of them stops so; a refusal of memory tells nothing of them
abbrev pub StopsBy : ℕ → LinearSystem → ℕ → RunStop → Type 0
StopsBy most system pivots (Wide turn o) =
    ((last : List Place) × SettlesBy most system pivots (TooWide turn o) last) ⊎ ((last : List Place) × ImprovesBy most system pivots (ImproveTooWide turn o) last)
StopsBy most system pivots Pivots = ((last : List Place) × SettlesBy most system pivots Spent last) ⊎ ((last : List Place) × ImprovesBy most system pivots ImproveSpent last)
StopsBy most system pivots Memory = Unit {0}

-- The parts of all numbers of the system are narrow, and none of its runs by that limit has an operation that is too wide.
pub record IsNarrow (system : LinearSystem) (pivots : ℕ) : Type 0 where
  pub fits : FitSystem narrow_limit system
  pub runs : (turn : ℕ) (o : Operation) → ¬ (StopsBy narrow_limit system pivots (Wide turn o))
