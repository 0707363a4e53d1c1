-- The plain system of a set of members on a path: the columns with their bounds, and the rows of which the set has a side.
use Rattle.std.specs.Prelude.{ℕ, ◌+◌, Bool, true, false, ◌||◌, cond, List, [], ◌∷◌, map, length, filter, find, Option, Some, None}
use Rattle.rational.specs.Rational.{ℚ, neg_ℚ, one_ℚ, lt_q}
use Rattle.rational.specs.Linear.{Term}
use Rattle.lp_model.specs.declared.members.Member.{Member}
use Rattle.lp_model.specs.declared.members.Member.TheVariants.{RowLo, RowUp, Lower, Upper}
use Rattle.lp_model.specs.declared.members.Side.{Side}
use Rattle.lp_model.specs.declared.members.Side.TheVariants.{Lo, Up}
use Rattle.lp_model.specs.Program.{Program, row_at}
use Rattle.lp_model.specs.Members.{has, number}
use Rattle.certs.specs.declared.evidence.Branch.{Branch}
use Rattle.certs.specs.declared.evidence.Source.{Source}
use Rattle.certs.specs.declared.evidence.Source.TheVariants.{Member as Of, Below, Above}
use Rattle.certs.specs.Combination.{source_number}
use Rattle.certs.specs.System.{Limits, SystemRow, LinearSystem, VariableShare, variable_limits}
use Rattle.certs.specs.Ended.{numbers_from}

-- ---- limits of the columns
-- the number that a member asks for, where the set has the member
abbrev pub number_in : Program → List Member → Member → Option ℚ
number_in model set m = cond (has set m) (number model m) None

-- whether the path asks for more than the bound: there is a number on the path, and it is above that of the bound, or there is no bound
abbrev pub is_raised : Option ℚ → Option ℚ → Bool
is_raised bound None = false
is_raised None (Some p) = true
is_raised (Some b) (Some p) = lt_q b p

-- whether the path allows less than the bound
abbrev pub is_lowered : Option ℚ → Option ℚ → Bool
is_lowered bound None = false
is_lowered None (Some p) = true
is_lowered (Some b) (Some p) = lt_q p b

-- what limits a column on a side: the path, where it is strictly tighter than the set's bound, and else the bound
abbrev pub limit_source : Program → List Member → List Branch → ℕ → Side → Source
limit_source model set path j Lo = cond (is_raised (number_in model set (Lower j)) (source_number model path (Above j))) (Above j) (Of (Lower j))
limit_source model set path j Up = cond (is_lowered (number_in model set (Upper j)) (source_number model path (Below j))) (Below j) (Of (Upper j))

-- the number of a source, of a member only where the set has it
abbrev pub limit_number : Program → List Member → List Branch → Source → Option ℚ
limit_number model set path (Of m) = number_in model set m
limit_number model set path (Below j) = source_number model path (Below j)
limit_number model set path (Above j) = source_number model path (Above j)

-- the limit of a column on a side
abbrev pub limit_of : Program → List Member → List Branch → ℕ → Side → Option ℚ
limit_of model set path j side = limit_number model set path (limit_source model set path j side)

-- both limits of a column
abbrev pub column_limits : Program → List Member → List Branch → ℕ → Limits
column_limits model set path j = record { lower = limit_of model set path j Lo; upper = limit_of model set path j Up }

-- ---- rows
-- whether the set has a side of a row
abbrev pub has_row : List Member → ℕ → Bool
has_row set i = has set (RowLo i) || has set (RowUp i)

-- the numbers of the rows of which the set has a side, in order
abbrev pub rows_in : Program → List Member → List ℕ
rows_in model set = filter (has_row set) (numbers_from 0 (length model.rows))

-- a row of the program, with those of its sides that the set has
abbrev pub plain_row : Program → List Member → ℕ → SystemRow
plain_row model set i = record { terms = (row_at model i).terms; limits = record { lower = number_in model set (RowLo i); upper = number_in model set (RowUp i) } }

-- ---- the system
-- each factor with the other sign
abbrev pub negated : List Term → List Term
negated terms = map (λ t. record { column = t.column; factor = neg_ℚ t.factor }) terms

-- the objective as one that is to be made greatest
abbrev pub greatest_objective : Program → List Term
greatest_objective model = cond model.maximise model.objective (negated model.objective)

-- All columns, with the limits that the set's bounds and the path give them; the set's rows; and where it is wanted the objective.
abbrev pub plain_system : Program → List Member → List Branch → Bool → LinearSystem
plain_system model set path objective = record {
  columns = map (column_limits model set path) (numbers_from 0 (length model.columns));
  rows = map (plain_row model set) (rows_in model set);
  objective = cond objective (Some (greatest_objective model)) None;
}

-- ---- limits that cross
-- whether there are two numbers, and the first is above the second
abbrev pub are_crossed : Option ℚ → Option ℚ → Bool
are_crossed None upper = false
are_crossed (Some l) None = false
are_crossed (Some l) (Some u) = lt_q u l

-- whether the lower limit of a variable passes its upper one
abbrev pub crosses : LinearSystem → ℕ → Bool
crosses system v = are_crossed (variable_limits system v).lower (variable_limits system v).upper

-- the least variable whose limits cross
abbrev pub first_crossing : LinearSystem → Option ℕ
first_crossing system = find (crosses system) (numbers_from 0 (length system.columns + length system.rows))

-- it shows alone that the system has no solution: each of its limits once
abbrev pub crossing_shares : ℕ → List VariableShare
crossing_shares v = record { variable = v; side = Lo; weight = one_ℚ } ∷ record { variable = v; side = Up; weight = one_ℚ } ∷ []
