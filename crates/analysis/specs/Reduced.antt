-- What is told of how far the active members' plain system is reduced.
use Rattle.std.specs.Prelude.{◌≡◌, ◌⊎◌, ⊤, ℕ, ◌<◌, ◌==◌, Bool, false, not, List, map, length, filter, Option, Some, None, IsSome, slice_index}
use Rattle.std.specs.List.{list_any}
use Rattle.frac128.specs.Calculation.{first_wide}
use Rattle.frac128.specs.Limit.{limit}
use Rattle.lp_model.specs.declared.members.Member.{Member}
use Rattle.lp_model.specs.Members.{active_members}
use Rattle.lp_model.specs.Program.{Program}
use Rattle.certs.specs.Ended.{numbers_from}
use Rattle.certs.specs.Plain.{rows_in}
use Rattle.certs.specs.System.{VariableShare}
use Rattle.reductions.specs.declared.steps.Step.{Step}
use Rattle.reductions.specs.declared.steps.Step.TheVariants.{Fixed as FixedStep, Doubleton as PairStep}
use Rattle.reductions.specs.declared.steps.ReduceStep.{ReduceStep}
use Rattle.reductions.specs.declared.steps.ReduceStep.TheVariants.{Empty, Singleton, Fixed, Redundant, Forcing, Doubleton}
use Rattle.reductions.specs.Back.{weights_of, weights_work}
use Rattle.reductions.specs.Reduction.{IsDecidedBy, IsReduced, Reduces, removed_row}
use Rattle.reductions.specs.Stage.{Stage, start_stage}
use Rattle.presolve_laws.specs.Answers.{set_system}
use Rattle.trace_back.specs.Listed.{told}

-- ---- steps by the numbers of the program
-- each row by the one at its place in a list
abbrev pub by_rows : List ℕ → ReduceStep → ReduceStep
by_rows rows (Empty k) = Empty (slice_index rows k)
by_rows rows (Singleton k) = Singleton (slice_index rows k)
by_rows rows (Fixed j v) = Fixed j v
by_rows rows (Redundant k) = Redundant (slice_index rows k)
by_rows rows (Forcing k side) = Forcing (slice_index rows k) side
by_rows rows (Doubleton k y) = Doubleton (slice_index rows k) y

-- the rows of a step are those of the set's plain system
abbrev pub in_program : Program → List Member → ReduceStep → ReduceStep
in_program model set step = by_rows (rows_in model set) step

-- its row is among so many
abbrev pub IsStepIn : ℕ → ReduceStep → Type 0
IsStepIn rows (Empty k) = k < rows
IsStepIn rows (Singleton k) = k < rows
IsStepIn rows (Fixed j v) = ⊤
IsStepIn rows (Redundant k) = k < rows
IsStepIn rows (Forcing k side) = k < rows
IsStepIn rows (Doubleton k y) = k < rows

-- ---- what is left
-- the column that a step removes, where it removes one
abbrev pub removed_column : Step → Option ℕ
removed_column (FixedStep f) = Some f.column
removed_column (PairStep d) = Some d.y
removed_column _ = None

-- whether it is there and is the number
abbrev pub is_number : Option ℕ → ℕ → Bool
is_number None j = false
is_number (Some k) j = k == j

-- whether some step removes the row, or the column
abbrev pub is_row_removed : List Step → ℕ → Bool
is_row_removed made i = list_any (λ s. is_number (removed_row s) i) made

-- the column
abbrev pub is_removed : List Step → ℕ → Bool
is_removed made j = list_any (λ s. is_number (removed_column s) j) made

-- how many of so many rows no step removes
abbrev pub rows_left_by : List Step → ℕ → ℕ
rows_left_by made rows = length (filter (λ i. not (is_row_removed made i)) (numbers_from 0 rows))

-- and how many columns
abbrev pub columns_left_by : List Step → ℕ → ℕ
columns_left_by made columns = length (filter (λ j. not (is_removed made j)) (numbers_from 0 columns))

-- ---- answers
-- no rule finds anything there, or what decides there has a way back that is too wide
abbrev pub EndsThere : Program → List Step → Stage → Type 0
EndsThere model made last = IsReduced last ⊎ ((of : List VariableShare) × (IsDecidedBy last of × IsSome (first_wide limit (weights_work (length model.columns) made (weights_of of)))))

-- The steps are those of the reduction of the active members' plain system, in which marks have no part; so many rows and columns are left at its end.
pub record IsReducedTo (model : Program) (steps : List ReduceStep) (rows columns : ℕ) : Type 0 where
  pub made : List Step
  pub last : Stage
  pub reduces : Reduces (start_stage (set_system model (active_members model))) made last
  pub ends : EndsThere model made last
  pub steps_are : steps ≡ map (λ s. in_program model (active_members model) (told s)) made
  pub rows_are : rows ≡ length (filter (λ live. live) last.live)
  pub columns_are : columns ≡ columns_left_by made (length model.columns)
