-- The elastic system of a set: its members may be missed by what their elastic variables take, but for those that are enforced.
use Rattle.std.specs.Prelude.{ℕ, suc, ◌==◌, Bool, ◌||◌, cond, not, List, [], ◌∷◌, ◌++◌, map, flat_map, zip, length, filter, Option, Some, None}
use Rattle.rational.specs.Rational.{ℚ, neg_ℚ, zero_ℚ, one_ℚ}
use Rattle.rational.specs.Linear.{Term}
use Rattle.lp_model.specs.declared.members.Member.{Member}
use Rattle.lp_model.specs.declared.members.Member.TheVariants.{RowLo, RowUp}
use Rattle.lp_model.specs.declared.members.Side.{Side}
use Rattle.lp_model.specs.declared.members.Side.TheVariants.{Lo, Up}
use Rattle.lp_model.specs.Program.{Program}
use Rattle.lp_model.specs.Members.{form, has, kind, is_same, number, side}
use Rattle.certs.specs.declared.evidence.Branch.{Branch}
use Rattle.certs.specs.System.{Limits, SystemRow, LinearSystem}
use Rattle.certs.specs.Ended.{numbers_from}
use Rattle.certs.specs.Plain.{column_limits, has_row, plain_row}

-- the members of the set that may be missed
abbrev pub soft_members : List Member → List Member → List Member
soft_members set enforced = filter (λ m. not (has enforced m)) set

-- at least the number, or at most
abbrev pub only_on : Side → ℚ → Limits
only_on Lo b = record { lower = Some b; upper = None }
only_on Up b = record { lower = None; upper = Some b }

-- what the elastic variable does: it is added on the lower side, and taken off on the upper one
abbrev pub elastic_factor : Side → ℚ
elastic_factor Lo = one_ℚ
elastic_factor Up = neg_ℚ one_ℚ

-- the soft members, each with the number of its elastic variable, the first of which is k
abbrev pub numbered_soft : ℕ → List Member → List Member → List (ℕ × Member)
numbered_soft k set enforced = zip (numbers_from k (length (soft_members set enforced))) (soft_members set enforced)

-- the row of a soft member with its elastic variable, where it asks for a number
abbrev pub elastic_row : Program → ℕ × Member → Option ℚ → List SystemRow
elastic_row model e None = []
elastic_row model e (Some b) = record { terms = form model e.1 ++ record { column = e.0; factor = elastic_factor (side e.1) } ∷ []; limits = only_on (side e.1) b } ∷ []

-- the rows of soft members
abbrev pub elastic_rows : Program → List (ℕ × Member) → List SystemRow
elastic_rows model soft = flat_map (λ e. elastic_row model e (number model e.1)) soft

-- whether a member is a side of the row
abbrev pub is_side_of : ℕ → Member → Bool
is_side_of i m = is_same m (RowLo i) || is_same m (RowUp i)

-- whether it is a side of any row
abbrev pub is_row_side : Member → Bool
is_row_side m = kind m == 0

-- a row of the program with its enforced sides, where it has any, and then one for each soft side
abbrev pub rows_of : Program → List Member → List (ℕ × Member) → ℕ → List SystemRow
rows_of model enforced soft i = cond (has_row enforced i) (plain_row model enforced i ∷ []) [] ++ elastic_rows model (filter (λ e. is_side_of i e.1) soft)

-- the weights with the sign of a sum that is to be made least, from variable k on
abbrev pub cost_terms : (Member → ℚ) → ℕ → List Member → List Term
cost_terms cost k [] = []
cost_terms cost k (m ∷ list) = record { column = k; factor = neg_ℚ (cost m) } ∷ cost_terms cost (suc k) list

-- On a path: the columns with the limits of the enforced bounds and of the path, an elastic variable from 0 on for each soft member; the rows one by one, and then the soft bounds; the weighted sum of the elastic variables made least.
abbrev pub elastic_on : Program → List Member → List Member → List Branch → (Member → ℚ) → LinearSystem
elastic_on model set enforced path cost = record {
  columns = map (column_limits model enforced path) (numbers_from 0 (length model.columns)) ++ map (λ m. record { lower = Some zero_ℚ; upper = None }) (soft_members set enforced);
  rows = flat_map (rows_of model enforced (numbered_soft (length model.columns) set enforced)) (numbers_from 0 (length model.rows))
      ++ elastic_rows model (filter (λ e. not (is_row_side e.1)) (numbered_soft (length model.columns) set enforced));
  objective = Some (cost_terms cost (length model.columns) (soft_members set enforced));
}

-- on no path
abbrev pub elastic_system : Program → List Member → List Member → (Member → ℚ) → LinearSystem
elastic_system model set enforced cost = elastic_on model set enforced [] cost
