-- Steps of a system of so many columns and rows.
use Rattle.std.specs.Prelude.{◌≡◌, ◌≢◌, ℕ, ◌+◌, ◌^◌, ◌<◌, List, All}
use Rattle.rational.specs.Rational.{zero_ℚ}
use Rattle.rational.specs.Linear.{Term}
use Rattle.reductions.specs.declared.steps.Change.{Change}
use Rattle.reductions.specs.declared.steps.Step.{Step}
use Rattle.reductions.specs.declared.steps.Step.TheVariants.{Empty, Singleton, Fixed, Redundant, Forcing, Doubleton}
use Rattle.reductions.specs.declared.steps.Trace.{Trace}

-- the rows are rows of it
abbrev pub AreKnownChanges : ℕ → List Change → Type 0
AreKnownChanges rows changes = All (λ c. c.row < rows) changes

-- a term's column is a column of it, and its factor is not 0
pub record IsKnownTerm (columns : ℕ) (t : Term) : Type 0 where
  pub known : t.column < columns
  pub nonzero : t.factor ≢ zero_ℚ

-- the numbers of a step are those of columns and rows, and what it divides by is not 0
abbrev pub IsKnownStep : ℕ → ℕ → Step → Type 0
IsKnownStep columns rows (Empty i) = i < rows
IsKnownStep columns rows (Singleton s) = (s.row < rows) × ((s.column < columns) × (s.factor ≢ zero_ℚ))
IsKnownStep columns rows (Fixed f) = (f.column < columns) × AreKnownChanges rows f.changes
IsKnownStep columns rows (Redundant i) = i < rows
IsKnownStep columns rows (Forcing f) = (f.row < rows) × All (IsKnownTerm columns) f.terms
IsKnownStep columns rows (Doubleton d) =
    (d.row < rows) × ((d.x < columns) × ((d.y < columns) × ((d.a ≢ zero_ℚ) × ((d.b ≢ zero_ℚ) × AreKnownChanges rows d.changes))))

-- the trace is of a system of so many columns and rows, and its steps are steps of one
pub record IsTraceOf (columns rows : ℕ) (trace : Trace) : Type 0 where
  pub columns_are : trace.columns ≡ columns
  pub rows_are : trace.rows ≡ rows
  pub few : columns + rows < 2 ^ 31
  pub steps : All (IsKnownStep columns rows) trace.steps
