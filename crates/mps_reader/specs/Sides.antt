-- The sides of a row, by its kind, its right side and its range; and the bounds of a column.
use Rattle.std.specs.Prelude.{ℕ, Bool, true, false, ◌&&◌, ◌||◌, not, is_some, cond, List, Option, Some, None}
use Rattle.std.specs.List.{list_any}
use Rattle.std.specs.Option.{option_map, option_map_or}
use Rattle.std.specs.Str.{bytes_eq}
use Rattle.rational.specs.Rational.{ℚ, zero_ℚ, one_ℚ, ◌+ℚ◌, ◌-ℚ◌, neg_ℚ, lt_q}
use Rattle.frac128.specs.declared.Op.TheVariants.{Plus, Minus}
use Rattle.frac128.specs.Limit.{limit}
use Rattle.frac128.specs.Width.{operation, is_wide}
use Rattle.frac128.specs.declared.literal.Literal.{Literal}
use Rattle.frac128.specs.declared.literal.Literal.TheVariants.{Fits, TooWide}
use Rattle.text_fields.specs.Numbers.{bound_of}
use Rattle.mps_lines.specs.declared.shapes.RowKind.{RowKind}
use Rattle.mps_lines.specs.declared.shapes.RowKind.TheVariants.{Free, AtMost, AtLeast, Equal}
use Rattle.mps_lines.specs.declared.shapes.BoundKind.{BoundKind}
use Rattle.mps_lines.specs.declared.shapes.BoundKind.TheVariants.{Binary}
use Rattle.mps_lines.specs.Shapes.{Bounded}
use Rattle.mps_reader.specs.Tables.{ColumnRecord, bound_in, bounds_of, sets_lower, sets_upper, makes_whole, setting}
use Rattle.mps_lines.specs.Steps.{Step}

-- ---- rows
-- the sides of a row without a range
abbrev pub plain_sides : RowKind → ℚ → Option ℚ × Option ℚ
plain_sides Free right = (None, None)
plain_sides AtMost right = (None, Some right)
plain_sides AtLeast right = (Some right, None)
plain_sides Equal right = (Some right, Some right)

-- a literal below 0
abbrev pub is_negative : Literal → Bool
is_negative (Fits value) = lt_q value zero_ℚ
is_negative (TooWide huge negative) = negative

-- a literal above 0
abbrev pub is_positive : Literal → Bool
is_positive (Fits value) = lt_q zero_ℚ value
is_positive (TooWide huge negative) = not negative

-- the magnitude of a value
abbrev pub magnitude : ℚ → ℚ
magnitude value = cond (lt_q value zero_ℚ) (neg_ℚ value) value

-- which side a range makes: the one below the right side, the one above it, or none
pub data Move : Type 0 where
  Down : Move
  Up : Move
  Stays : Move

-- in an equation the sign of the range decides
abbrev pub move_of : RowKind → Literal → Move
move_of Free range = Stays
move_of AtMost range = Down
move_of AtLeast range = Up
move_of Equal range = cond (is_negative range) Down (cond (is_positive range) Up Stays)

-- the sides with a range: a huge one makes no side
abbrev pub moved_sides : Move → RowKind → ℚ → Option ℚ → Option ℚ × Option ℚ
moved_sides Down kind right range = (option_map (λ r. right -ℚ magnitude r) range, Some right)
moved_sides Up kind right range = (Some right, option_map (λ r. right +ℚ magnitude r) range)
moved_sides Stays kind right range = plain_sides kind right

-- the sides of a row: none where its right side is huge
unfoldable pub row_sides : RowKind → Option ℚ → Option Literal → Option ℚ × Option ℚ
row_sides kind None range = (None, None)
row_sides kind (Some right) None = plain_sides kind right
row_sides kind (Some right) (Some range) = moved_sides (move_of kind range) kind right (bound_of range)

-- whether the sum that makes a side is too wide
abbrev pub is_move_wide : Move → ℚ → ℚ → Bool
is_move_wide Down right range = is_wide limit (operation Minus right (magnitude range))
is_move_wide Up right range = is_wide limit (operation Plus right (magnitude range))
is_move_wide Stays right range = false

-- no sum is taken of a huge right side, nor with a huge range
unfoldable pub is_range_wide : RowKind → Option ℚ → Literal → Bool
is_range_wide kind None range = false
is_range_wide kind (Some right) range = option_map_or (is_move_wide (move_of kind range) right) (bound_of range) false

-- ---- columns
-- the number of a bound: none where it has none or a huge one
abbrev pub number_of : Bounded → Option ℚ
number_of bound = option_map_or bound_in bound.number None

-- a binary column goes from 0 to 1
abbrev pub is_binary : BoundKind → Bool
is_binary Binary = true
is_binary _ = false

-- the lower bound that is set
abbrev pub lower_set : Bounded → Option ℚ
lower_set bound = cond (is_binary bound.kind) (Some zero_ℚ) (number_of bound)

-- and the upper one
abbrev pub upper_set : Bounded → Option ℚ
upper_set bound = cond (is_binary bound.kind) (Some one_ℚ) (number_of bound)

-- a bound with a number below 0 that is not huge
abbrev pub is_below : Bounded → Bool
is_below bound = option_map_or (λ value. lt_q value zero_ℚ) (number_of bound) false

-- the lower bound 0 is removed where no line sets it and the upper bound is negative
unfoldable pub is_removed : List Step → List ℕ → Bool
is_removed steps column = not (is_some (setting sets_lower steps column)) && option_map_or is_below (setting sets_upper steps column) false

-- the lower bound: as it is set, or else 0, or none where it is removed
unfoldable pub lower_in : List Step → List ℕ → Option ℚ
lower_in steps column = option_map_or lower_set (setting sets_lower steps column) (cond (is_removed steps column) None (Some zero_ℚ))

-- the upper bound: as it is set, or else none
unfoldable pub upper_in : List Step → List ℕ → Option ℚ
upper_in steps column = option_map_or upper_set (setting sets_upper steps column) None

-- a column is whole where it was first named between markers, or where a bound makes it so
unfoldable pub whole_in : List Step → ColumnRecord → Bool
whole_in steps column = column.whole || list_any (λ b. bytes_eq column.name b.column && makes_whole b.kind) (bounds_of steps)
