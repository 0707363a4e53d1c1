-- What contracts see of a dictionary.
use Rattle.std.specs.Prelude.{ℕ, Bool, not, List, [], length, filter, flat_map, slice_index_or}
use Rattle.rational.specs.Rational.{zero_ℚ, eq_ℚ}
use Rattle.rational.specs.Linear.{Term, factor_of}
use Rattle.certs.specs.System.{Limits, Place}
use Rattle.certs.specs.Tableau.{Tableau, basics, nonbasics}

-- How many of the variables are columns of the system, whether the last one is an objective, the limits and the places of
-- all, and their rows: what counts in each basic one. Whether it may be used.
pub record DictionaryValue : Type 0 where
  pub columns : ℕ
  pub objective : Bool
  pub limits : List Limits
  pub basis : List Place
  pub rows : List (List Term)
  pub usable : Bool

-- the tableau of limits, a basis and rows
abbrev pub table_of : List Limits → Bool → List Place → List (List Term) → Tableau
table_of limits objective basis rows = record {
  limits = limits;
  objective = objective;
  basis = basis;
  factor = λ i k. factor_of (slice_index_or rows i []) k;
}

-- that of a dictionary
abbrev pub tableau_of : DictionaryValue → Tableau
tableau_of d = table_of d.limits d.objective d.basis d.rows

-- how many pairs of a basic and a nonbasic variable have a factor that is not 0
abbrev pub nonzero_pairs : Tableau → ℕ
nonzero_pairs t = length (flat_map (λ i. filter (λ k. not (eq_ℚ (t.factor i k) zero_ℚ)) (nonbasics t.basis)) (basics t.basis))
