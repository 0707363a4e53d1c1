-- That runs end, whatever the budget.
use Rattle.std.specs.Prelude.{ℕ, ◌+◌, ◌<◌, ◌^◌, suc, List, length, IsSome}
use Rattle.certs.specs.System.{LinearSystem, Place}
use Rattle.certs.specs.Tableau.{IsWellFormedSystem}
use Rattle.certs.specs.Runs.{IsSettledAt, Reaches, SettleRun}
use Rattle.certs.specs.Improves.{ImproveRun, Improves}
use Rattle.certs.specs.Improves.ImproveEnd.{Spent as ImproveSpent}
use Rattle.certs.specs.Runs.End.{Spent}

-- how many variables have limits: the columns and the rows
abbrev pub limited_count : LinearSystem → ℕ
limited_count system = length system.columns + length system.rows

-- as many pivots as 3 to the number of these variables are never made
abbrev pub FewPivotsLaw : Type 0
FewPivotsLaw = (most : ℕ) (system : LinearSystem) (made : ℕ) (basis last : List Place) → IsWellFormedSystem system → Reaches most system made basis last → made < 3 ^ limited_count system

-- no basis is reached from itself by one pivot or more
abbrev pub NoBasisTwiceLaw : Type 0
NoBasisTwiceLaw = (most : ℕ) (system : LinearSystem) (k : ℕ) (basis : List Place) → IsWellFormedSystem system → ¬ (Reaches most system (suc k) basis basis)

-- so a run with a budget of as many pivots never stops for want of one
abbrev pub NeverSpentLaw : Type 0
NeverSpentLaw = (most : ℕ) (system : LinearSystem) (basis : List Place) (budget begun : ℕ) (last : List Place) (left turns : ℕ) → IsWellFormedSystem system
    → SettleRun most system basis budget begun Spent last left turns → budget < 3 ^ limited_count system

-- The same of an improve run that begins at a basis with no variable outside: no basis is reached from itself by one turn or more.
abbrev pub ImproveNoBasisTwiceLaw : Type 0
ImproveNoBasisTwiceLaw = (most : ℕ) (system : LinearSystem) (first basis : List Place) (m k : ℕ) → IsWellFormedSystem system → IsSome system.objective → IsSettledAt most system first
    → Improves most system m first basis → ¬ (Improves most system (suc k) basis basis)

-- so with a budget of 3 to the number of columns and rows it never stops for want of a turn
abbrev pub ImproveNeverSpentLaw : Type 0
ImproveNeverSpentLaw = (most : ℕ) (system : LinearSystem) (first : List Place) (budget begun : ℕ) (last : List Place) (left turns : ℕ) → IsWellFormedSystem system → IsSome system.objective → IsSettledAt most system first
    → ImproveRun most system first budget begun ImproveSpent last left turns → budget < 3 ^ limited_count system
