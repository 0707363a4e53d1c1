-- Rows at which a rule is known to find nothing, and the rows of which a plan changes something that rules look at.
use Rattle.std.specs.Prelude.{◌≡◌, ℕ, Bool, true, false, List, [], ◌∷◌, map, length, slice_set, slice_index_or, None}
use Rattle.std.specs.List.{list_any}
use Rattle.certs.specs.System.{SystemRow, LinearSystem}
use Rattle.reductions.specs.Reduction.{Rule, found_at}
use Rattle.reductions.specs.Stage.{Stage}
use Rattle.presolve.specs.Plans.{At, PlanValue}

-- ---- marks
-- marks, set besides at these numbers
abbrev pub marked : {A : Type 0} → List (At A) → List Bool → List Bool
marked [] marks = marks
marked (new ∷ rest) marks = marked rest (slice_set marks new.number true)

-- whether a row has a column that is marked
abbrev pub has_marked : List Bool → SystemRow → Bool
has_marked marks r = list_any (λ t. slice_index_or marks t.column false) r.terms

-- the columns that a plan gives new limits
abbrev pub touched_columns : PlanValue → LinearSystem → List Bool
touched_columns plan system = marked plan.columns (map (λ c. false) system.columns)

-- the rows that have such a column, and those that it changes
abbrev pub touched_rows : PlanValue → LinearSystem → List Bool
touched_rows plan system = marked plan.rows (map (has_marked (touched_columns plan system)) system.rows)

-- marks that are set only where they were, and nowhere where others are set
pub record AreKept (others old new : List Bool) : Type 0 where
  pub count : length new ≡ length old
  pub was : (i : ℕ) → slice_index_or new i false ≡ true → slice_index_or old i false ≡ true
  pub apart : (i : ℕ) → slice_index_or new i false ≡ true → slice_index_or others i false ≡ false

-- ---- rows that need no look
-- a mark for each row; where it is set, the rule finds nothing
pub record IsQuiet (rule : Rule) (stage : Stage) (marks : List Bool) : Type 0 where
  pub count : length marks ≡ length stage.system.rows
  pub nothing : (i : ℕ) → slice_index_or marks i false ≡ true → found_at rule stage i ≡ None
