-- The rows and the objective of a system of the alternative, by how often each member's variable counts in them.
use Rattle.std.specs.Prelude.{ℕ, cond, List, [], ◌∷◌, ◌++◌, length}
use Rattle.rational.specs.Rational.{ℚ, eq_ℚ, neg_ℚ, zero_ℚ, one_ℚ}
use Rattle.rational.specs.Linear.{Term}
use Rattle.lp_model.specs.declared.members.Member.{Member}
use Rattle.lp_model.specs.Program.{Program}
use Rattle.certs.specs.System.{SystemRow, column_rows, equal_to, member_cost, member_factor, member_number, terms_from}
use Rattle.alt_polyhedron.specs.declared.counting.Form.{Form}
use Rattle.alt_polyhedron.specs.declared.counting.Form.TheVariants.{Column, Numbers, Costs}

-- how often a member's variable counts there
abbrev pub count_by : Program → Form → Member → ℚ
count_by model (Column j) = member_factor model j
count_by model Numbers = member_number model
count_by model Costs = λ m. neg_ℚ (member_cost model m)

-- the term of a variable that counts so often, where that is not 0 times
abbrev pub term_by : ℕ → ℚ → List Term
term_by k q = cond (eq_ℚ q zero_ℚ) [] (record { column = k; factor = q } ∷ [])

-- the row in which the members' variables count so, equal to a number
abbrev pub equal_row : Program → List Member → Form → ℚ → SystemRow
equal_row model members form q = record { terms = terms_from 0 (count_by model form) members; limits = equal_to q }

-- a row equal to 0 for each column of the program, and that of the numbers, equal to -1
abbrev pub rows_of : Program → List Member → List SystemRow
rows_of model members = column_rows model members (length model.columns) ++ equal_row model members Numbers (neg_ℚ one_ℚ) ∷ []
