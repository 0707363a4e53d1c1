-- What is read off the dictionary where the cost is least.
use Rattle.std.specs.Prelude.{◌≡◌, ℕ, ◌+◌, ◌<◌, cond, List, [], ◌∷◌, length}
use Rattle.rational.specs.Rational.{ℚ, lt_q, neg_ℚ, zero_ℚ}
use Rattle.lp_model.specs.declared.members.Member.{Member}
use Rattle.lp_model.specs.Satisfaction.{values_at}
use Rattle.certs.specs.declared.evidence.Source.TheVariants.{Member as Of}
use Rattle.certs.specs.declared.evidence.Share.{Share}
use Rattle.certs.specs.Tableau.{Tableau}
use Rattle.simplex.specs.Duals.{objective_multiple}

-- the share of a member whose value is above 0
abbrev pub share_of : Member → ℚ → List Share
share_of m q = cond (lt_q zero_ℚ q) (record { source = Of m; weight = q } ∷ []) []

-- A number for each of so many columns: how often the variable of its row counts in the objective, negated. Their rows' variables come behind the first ones.
pub record IsPriceRead (t : Tableau) (first columns : ℕ) (values : List ℚ) : Type 0 where
  pub each_column : length values ≡ columns
  pub values_are : (j : ℕ) → j < columns → values_at values j ≡ neg_ℚ (objective_multiple t (first + j))
