-- The combination of an infeasible end, with shares that name the system's variables as rows and columns of it.
use Rattle.std.specs.Prelude.{ℕ, Bool, true, false, not, List, map, filter}
use Rattle.rational.specs.Rational.{ℚ}
use Rattle.lp_model.specs.declared.members.Side.{Side}
use Rattle.lp_model.specs.declared.members.Side.TheVariants.{Lo, Up}
use Rattle.certs.specs.declared.evidence.Share.{Share}
use Rattle.certs.specs.Ended.{numbers_from, shares_for}
use Rattle.certs.specs.Named.{named}

-- those of the rows, so many after the columns
abbrev pub row_shares : ℕ → ℕ → (ℕ → ℚ) → List Share
row_shares columns n c = map (named columns) (shares_for c (numbers_from columns n))

-- whether a side is the upper one
abbrev pub is_up : Side → Bool
is_up side = elim side [ Lo ↦ false | Up ↦ true ]

-- whether a side is the upper one (`true`) or the lower one
abbrev pub is_on : Bool → Side → Bool
is_on true side = is_up side
is_on false side = not (is_up side)

-- those of the first columns on one side
abbrev pub column_shares : ℕ → Bool → ℕ → (ℕ → ℚ) → List Share
column_shares columns upper n c = map (named columns) (filter (λ s. is_on upper s.side) (shares_for c (numbers_from 0 n)))
