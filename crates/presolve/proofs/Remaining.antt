-- How much of a stage a reduction can still remove.
use Rattle.std.specs.Prelude.{ℕ, ◌+◌, ◌*◌, Bool, ◌||◌, cond, List, [], ◌∷◌, length, is_some}
use Rattle.certs.specs.System.{Limits}
use Rattle.reductions.specs.Stage.{Stage}

-- how many elements pass a test
abbrev pub passing : {A : Type 0} → (A → Bool) → List A → ℕ
passing test [] = 0
passing test (a ∷ rest) = cond (test a) 1 0 + passing test rest

-- whether a limit is there
abbrev pub has_limit : Limits → Bool
has_limit limits = is_some limits.lower || is_some limits.upper

-- The rows that are not removed, each as often as there are columns and once more, and the columns that have a limit. Each step
-- makes it less: it removes a row, or takes the limits from a column and leaves all others.
abbrev pub remaining : Stage → ℕ
remaining stage = passing (λ b. b) stage.live * (length stage.system.columns + 1) + passing has_limit stage.system.columns
