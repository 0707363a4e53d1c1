-- What statements of bounds and marks change.
use Rattle.std.specs.Prelude.{◌≡◌, ℕ, ◌||◌, Bool, slice_index_or, slice_set}
use Rattle.name_map.specs.Names.{names_of}
use Rattle.lp_statements.specs.declared.parts.Relation.{Relation}
use Rattle.lp_reader.specs.declared.bounds.Said.{Said}
use Rattle.lp_reader.specs.declared.columns.Bounds.{Bounds}
use Rattle.lp_reader.specs.declared.columns.Columns.{Columns}
use Rattle.lp_reader.specs.Bounds.{is_said, said_first, bound_after}
use Rattle.lp_reader.specs.State.{plain}

-- what a relation says of the lower bound, by what its left and its right constant say
abbrev pub lower_by : Said → Relation → Said → Said
lower_by left Relation.AtMost right = left
lower_by left Relation.AtLeast right = right
lower_by left Relation.Equal right = said_first left right

-- and of the upper one
abbrev pub upper_by : Said → Relation → Said → Said
upper_by left Relation.AtMost right = right
upper_by left Relation.AtLeast right = left
upper_by left Relation.Equal right = said_first left right

-- bounds after a statement: what it does not set stays
abbrev pub changed : Bounds → Said → Said → Bool → Bounds
changed old lower upper whole = record { lo = bound_after old.lo lower; up = bound_after old.up upper; whole = old.whole || whole; lower_set = old.lower_set || is_said lower }

-- the bounds of one column are changed
pub record SetsBounds (old new : Columns) (column : ℕ) (lower upper : Said) (whole : Bool) : Type 0 where
  pub names : names_of new.names ≡ names_of old.names
  pub entries : new.entries ≡ old.entries
  pub bounds : new.bounds.items ≡ slice_set old.bounds.items column (changed (slice_index_or old.bounds.items column plain) lower upper whole)
