-- The tightest branches of a path on each column.
use Rattle.std.specs.Prelude.{◌≡◌, ℕ, ◌<◌, List, [], ◌∷◌, ◌++◌, length, get_or, None, All}
use Rattle.certs.specs.declared.evidence.Branch.{Branch}
use Rattle.certs.specs.declared.paths.Tightest.{Tightest}
use Rattle.certs.specs.Combination.{least_upper, greatest_lower, IsFitting}

-- of a column without a branch
abbrev pub unbranched : Tightest
unbranched = record { upper = None; lower = None }

-- the least upper branch of a path on a column, and the greatest lower one
abbrev pub tightest_on : List Branch → ℕ → Tightest
tightest_on path j = record { upper = least_upper path j; lower = greatest_lower path j }

-- for each branch behind a front, the tightest ones on its column among those before it
abbrev pub tightest_before : List Branch → List Branch → List Tightest
tightest_before front [] = []
tightest_before front (b ∷ path) = tightest_on front b.column ∷ tightest_before (front ++ b ∷ []) path

-- The numbers of the branches fit. These are the tightest ones on the columns, the greatest of which is among them, and those before each branch.
pub record HasTightest (path : List Branch) (columns kept : List Tightest) : Type 0 where
  pub fitting : All IsFitting path
  pub known : All (λ b. b.column < length columns) path
  pub on : (j : ℕ) → get_or columns j unbranched ≡ tightest_on path j
  pub before : kept ≡ tightest_before [] path
