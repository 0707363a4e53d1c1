-- What the rows of an elastic system are: rows of the program with their enforced sides, and rows of soft members.
use Rattle.std.specs.Prelude.{ℕ, ◌<◌, cond, not, List, [], ◌∷◌, ◌++◌, flat_map, filter, map, length, Option, Some, None}
use Rattle.lp_model.specs.declared.members.Member.{Member}
use Rattle.lp_model.specs.declared.members.Side.{Side}
use Rattle.lp_model.specs.declared.members.Side.TheVariants.{Lo, Up}
use Rattle.lp_model.specs.Program.{Program}
use Rattle.lp_model.specs.Members.{form, number, side}
use Rattle.lp_model.specs.MemberSets.{IsMemberFor}
use Rattle.rational.specs.Rational.{ℚ, neg_ℚ, zero_ℚ}
use Rattle.rational.specs.Linear.{Term}
use Rattle.certs.specs.Elastic.{elastic_factor, is_row_side, is_side_of, numbered_soft}
use Rattle.certs.specs.Ended.{numbers_from}
use Rattle.certs.specs.Named.{row_side_of}
use Rattle.certs.specs.Plain.{column_limits, has_row, plain_row}
use Rattle.certs.specs.System.{Limits, SystemRow}
use Rattle.relaxation.specs.declared.origins.Origin.{Origin}
use Rattle.relaxation.specs.declared.origins.Origin.TheVariants.{Row, Soft}

-- the row of a soft member, where it asks for a number
abbrev pub soft_origin : ℕ × Member → Option ℚ → List Origin
soft_origin e None = []
soft_origin e (Some b) = Soft e.0 e.1 ∷ []

-- those of soft members
abbrev pub soft_origins : Program → List (ℕ × Member) → List Origin
soft_origins model soft = flat_map (λ e. soft_origin e (number model e.1)) soft

-- a row of the program, where it has an enforced side, and then one for each soft side
abbrev pub row_origins : Program → List Member → List (ℕ × Member) → ℕ → List Origin
row_origins model enforced soft i = cond (has_row enforced i) (Row i ∷ []) [] ++ soft_origins model (filter (λ e. is_side_of i e.1) soft)

-- the rows one by one, and then the soft bounds
abbrev pub origins_of : Program → List Member → List (ℕ × Member) → List Origin
origins_of model enforced soft =
    flat_map (row_origins model enforced soft) (numbers_from 0 (length model.rows)) ++ soft_origins model (filter (λ e. not (is_row_side e.1)) soft)

-- for the elastic system of a set
abbrev pub origins : Program → List Member → List Member → List Origin
origins model set enforced = origins_of model enforced (numbered_soft (length model.columns) set enforced)

-- a number on one side, where it is there
abbrev pub limits_on : Side → Option ℚ → Limits
limits_on Lo number = record { lower = number; upper = None }
limits_on Up number = record { lower = None; upper = number }

-- the row of a soft member with its elastic variable
abbrev pub origin_soft_row : Program → ℕ → Member → SystemRow
origin_soft_row model e m = record {
  terms = form model m ++ record { column = e; factor = elastic_factor (side m) } ∷ [];
  limits = limits_on (side m) (number model m);
}

-- the row of the system
abbrev pub origin_row : Program → List Member → Origin → SystemRow
origin_row model enforced (Row i) = plain_row model enforced i
origin_row model enforced (Soft e m) = origin_soft_row model e m

-- a member that the program may have
abbrev pub IsMemberIn : Program → Member → Type 0
IsMemberIn model m = IsMemberFor (length model.rows) (length model.columns) m

-- a row or a member of the program
abbrev pub IsKnownOrigin : Program → Origin → Type 0
IsKnownOrigin model (Row i) = i < length model.rows
IsKnownOrigin model (Soft e m) = IsMemberIn model m

-- the member that a side of the row is
abbrev pub origin_side : Origin → Side → Member
origin_side (Row i) side = row_side_of i side
origin_side (Soft e m) side = m

-- ---- elastic variables
-- the limits of one
abbrev pub from_zero : Limits
from_zero = record { lower = Some zero_ℚ; upper = None }

-- the limits of the columns by the enforced bounds, and then those of the elastic variables
abbrev pub columns_with : Program → List Member → List (ℕ × Member) → List Limits
columns_with model enforced soft = map (column_limits model enforced []) (numbers_from 0 (length model.columns)) ++ map (λ e. from_zero) soft

-- what it costs, with the sign of a sum that is to be made least
abbrev pub cost_term : (Member → ℚ) → ℕ × Member → Term
cost_term cost e = record { column = e.0; factor = neg_ℚ (cost e.1) }
