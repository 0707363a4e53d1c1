-- The sums that are taken at a point: their operations in order.
use Rattle.std.specs.Prelude.{List, [], length, Option, Some, None}
use Rattle.rational.specs.Rational.{ℚ, zero_ℚ}
use Rattle.rational.specs.Linear.{Term, Assignment}
use Rattle.frac128.specs.Calculation.{Calculation, product_steps}
use Rattle.lp_model.specs.Program.{Program, row_at}
use Rattle.lp_model.specs.Members.{Member, RowLo, RowUp, Lower, Upper, Whole}
use Rattle.lp_model.specs.MemberSets.{IsMemberFor}

-- a form's value, from 0: for each term in order its factor times the column's value, and then plus
abbrev pub value_operations : List Term → Assignment → Calculation
value_operations terms x = product_steps (λ t. t.factor) (λ t. x t.column) zero_ℚ terms

-- the sum that a side asks for, where it is there
abbrev pub side_operations : Option ℚ → List Term → Assignment → Calculation
side_operations None terms x = []
side_operations (Some b) terms x = value_operations terms x

-- a row's sum for each of its sides; a bound and a mark take no arithmetic
abbrev pub member_operations : Program → Member → Assignment → Calculation
member_operations model (RowLo i) x = side_operations (row_at model i).lower (row_at model i).terms x
member_operations model (RowUp i) x = side_operations (row_at model i).upper (row_at model i).terms x
member_operations model (Lower j) x = []
member_operations model (Upper j) x = []
member_operations model (Whole j) x = []

-- the member's number is that of a row, or of a column, of the program
abbrev pub IsInRange : Program → Member → Type 0
IsInRange model m = IsMemberFor (length model.rows) (length model.columns) m
