-- Rows from their forms and sides.
use Rattle.std.specs.Prelude.{◌≡◌, ℕ, ◌≤◌, List, [], ◌∷◌, ◌++◌, length, Option, None}
use Rattle.rational.specs.Rational.{ℚ}
use Rattle.rational.specs.Linear.{Term as LinearTerm}
use Rattle.name_map.specs.Names.{names_of}
use Rattle.lp_model.specs.Shown.{most_rows, longest_name, new_row}
use Rattle.lp_model.specs.declared.parts.Row.{Row}
use Rattle.lp_statements.specs.declared.parts.Relation.{Relation}
use Rattle.lp_reader.specs.declared.bounds.Said.{Said}
use Rattle.lp_reader.specs.declared.rows.Rows.{Rows}
use Rattle.lp_reader.specs.Bounds.{bound_after}

-- the lower side of a row, by what its left constant says, which may be missing, and the side on the right
abbrev pub lower_side : Relation → Said → Option ℚ → Option ℚ
lower_side Relation.AtMost left right = bound_after None left
lower_side Relation.AtLeast left right = right
lower_side Relation.Equal left right = bound_after right left

-- and its upper one
abbrev pub upper_side : Relation → Said → Option ℚ → Option ℚ
upper_side Relation.AtMost left right = right
upper_side Relation.AtLeast left right = bound_after None left
upper_side Relation.Equal left right = bound_after right left

-- a row of this form, whose sides a relation and its constants give
abbrev pub ended_row : List LinearTerm → Relation → Said → Option ℚ → Row
ended_row form relation left right = new_row form (lower_side relation left right) (upper_side relation left right)

-- a new row stands last
pub record PutsRow (old new : Rows) (name : List ℕ) (row : Row) : Type 0 where
  pub names : names_of new.names ≡ names_of old.names ++ name ∷ []
  pub items : new.items.items ≡ old.items.items ++ row ∷ []
  pub few : length (names_of new.names) ≤ most_rows
  pub short : length name ≤ longest_name
