-- What statements say of the bounds and marks of columns.
use Rattle.std.specs.Prelude.{ℕ, Bool, true, false, cond, List, [], ◌∷◌, map, Option, Some, None}
use Rattle.std.specs.List.{list_any}
use Rattle.std.specs.Option.{option_or}
use Rattle.std.specs.Str.{bytes_eq}
use Rattle.rational.specs.Rational.{ℚ, zero_ℚ, one_ℚ}
use Rattle.lp_statements.specs.declared.parts.Relation.{Relation}
use Rattle.lp_statements.specs.Statements.{Constant, Statement, Free, Bound, Listed}
use Rattle.lp_reader.specs.declared.bounds.Said.{Said}
use Rattle.lp_reader.specs.declared.bounds.Said.TheVariants.{Nothing, Unbounded, At}
use Rattle.lp_reader.specs.Numbers.{side_of}

-- the constant that is a form's lower side: `left <= form`, `form >= right`, or either where it is equal
abbrev pub lower_constant : Option Constant → Relation → Option Constant → Option Constant
lower_constant left Relation.AtMost right = left
lower_constant left Relation.AtLeast right = right
lower_constant left Relation.Equal right = option_or left right

-- and its upper one
abbrev pub upper_constant : Option Constant → Relation → Option Constant → Option Constant
upper_constant left Relation.AtMost right = right
upper_constant left Relation.AtLeast right = left
upper_constant left Relation.Equal right = option_or left right

-- ---- what is said of a bound
-- by a side: that there is no bound, or which
abbrev pub said_of : Option ℚ → Said
said_of (Some value) = At value
said_of None = Unbounded

-- by a constant; nothing where none is there
abbrev pub said_by : Option Constant → Said
said_by (Some constant) = said_of (side_of constant)
said_by None = Nothing

-- whether anything is said
abbrev pub is_said : Said → Bool
is_said Nothing = false
is_said Unbounded = true
is_said (At value) = true

-- what is said first, or, where that is nothing, what is said then
abbrev pub said_first : Said → Said → Said
said_first Nothing later = later
said_first Unbounded later = Unbounded
said_first (At value) later = At value

-- a bound after what is said of it: where that is nothing, it stays
abbrev pub bound_after : Option ℚ → Said → Option ℚ
bound_after old Nothing = old
bound_after old Unbounded = None
bound_after old (At value) = Some value

-- ---- what one statement says of the lower bound of a column
unfoldable pub lower_said : List ℕ → Statement → Said
lower_said name (Free column) = cond (bytes_eq name column.text) Unbounded Nothing
lower_said name (Bound left column relation right) = cond (bytes_eq name column.text) (said_by (lower_constant left relation right)) Nothing
lower_said name (Listed true column) = cond (bytes_eq name column.text) (At zero_ℚ) Nothing
lower_said name _ = Nothing

-- the same of the upper bound
unfoldable pub upper_said : List ℕ → Statement → Said
upper_said name (Free column) = cond (bytes_eq name column.text) Unbounded Nothing
upper_said name (Bound left column relation right) = cond (bytes_eq name column.text) (said_by (upper_constant left relation right)) Nothing
upper_said name (Listed true column) = cond (bytes_eq name column.text) (At one_ℚ) Nothing
upper_said name _ = Nothing

-- whether it makes the column whole
unfoldable pub whole_said : List ℕ → Statement → Bool
whole_said name (Listed binary column) = bytes_eq name column.text
whole_said name _ = false

-- ---- what all say together
-- the last of a list
abbrev pub last_or : {X : Type 0} → X → List X → X
last_or other [] = other
last_or other (x ∷ xs) = last_or x xs

-- a bound after all that is said of it, one after another
abbrev pub bound_after_all : Option ℚ → List Said → Option ℚ
bound_after_all bound [] = bound
bound_after_all bound (said ∷ later) = bound_after_all (bound_after bound said) later

-- the lower bound: 0, unless a statement sets it; the last that does holds
unfoldable pub lower_of : List Statement → List ℕ → Option ℚ
lower_of statements name = bound_after_all (Some zero_ℚ) (map (lower_said name) statements)

-- the upper bound: none, unless a statement sets it; the last that does holds
unfoldable pub upper_of : List Statement → List ℕ → Option ℚ
upper_of statements name = bound_after_all None (map (upper_said name) statements)

-- whether some statement makes the column whole
unfoldable pub whole_of : List Statement → List ℕ → Bool
whole_of statements name = list_any (whole_said name) statements

-- whether some statement sets the lower bound
unfoldable pub is_lower_set : List Statement → List ℕ → Bool
is_lower_set statements name = list_any (λ statement. is_said (lower_said name statement)) statements
