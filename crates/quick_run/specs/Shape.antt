-- What a suggestion looks like; that it is right is not promised.
use Rattle.std.specs.Prelude.{◌≡◌, ℕ, ◌==◌, Bool, ◌&&◌, not, IsTrue, List, length, All, Contains}
use Rattle.std.specs.List.{list_any}
use Rattle.rational.specs.Rational.{zero_ℚ, ◌<ℚ◌}
use Rattle.lp_model.specs.declared.members.Member.{Member}
use Rattle.lp_model.specs.Program.{Program}
use Rattle.certs.specs.declared.evidence.Branch.{Branch}
use Rattle.certs.specs.declared.evidence.Share.{Share}
use Rattle.certs.specs.declared.evidence.Source.{Source}
use Rattle.certs.specs.declared.evidence.Source.TheVariants.{Member as Of, Below, Above}
use Rattle.certs.specs.Order.{AreSharesInOrder}
use Rattle.quick_run.specs.declared.optima.BestSuggestion.{BestSuggestion}
use Rattle.quick_run.specs.declared.optima.BestSuggestion.TheVariants.{Bounded, Unbounded}
use Rattle.quick_run.specs.declared.suggestions.Suggestion.{Suggestion}
use Rattle.quick_run.specs.declared.suggestions.Suggestion.TheVariants.{Point, Combo}

-- some branch of the path says that the column is at most a number
abbrev pub has_most : List Branch → ℕ → Bool
has_most path j = list_any (λ b. (b.column == j) && b.upper) path

-- or at least
abbrev pub has_least : List Branch → ℕ → Bool
has_least path j = list_any (λ b. (b.column == j) && not b.upper) path

-- a member of the set, or a limit that the path has
abbrev pub IsSourceOf : List Member → List Branch → Source → Type 0
IsSourceOf set path (Of m) = Contains set m
IsSourceOf set path (Below j) = IsTrue (has_most path j)
IsSourceOf set path (Above j) = IsTrue (has_least path j)

-- a limit that the path has of the column
abbrev pub IsLimitOf : List Branch → ℕ → Source → Type 0
IsLimitOf path j (Of m) = ⊥
IsLimitOf path j (Below k) = (k ≡ j) × IsTrue (has_most path j)
IsLimitOf path j (Above k) = (k ≡ j) × IsTrue (has_least path j)

-- a share of such a source, with a weight above 0
pub record IsShareOf (set : List Member) (path : List Branch) (share : Share) : Type 0 where
  pub source : IsSourceOf set path share.source
  pub positive : zero_ℚ <ℚ share.weight

-- a value for each column; or shares of members of the set and of branches of the path, in order
abbrev pub IsSuggestion : Program → List Member → List Branch → Suggestion → Type 0
IsSuggestion model set path (Point point) = length point.values ≡ length model.columns
IsSuggestion model set path (Combo combo) = AreSharesInOrder combo.shares × All (IsShareOf set path) combo.shares

-- so many values in the point, and in the ray
abbrev pub HasShape : ℕ → BestSuggestion → Type 0
HasShape columns (Bounded point combo) = length point.values ≡ columns
HasShape columns (Unbounded point ray) = (length point.values ≡ columns) × (length ray.values ≡ columns)
