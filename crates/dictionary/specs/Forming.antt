-- The tests by which a system is found to be well formed.
use Rattle.std.specs.Prelude.{ℕ, suc, nat_lt, Bool, true, not, ◌&&◌, List, [], ◌∷◌, Option, Some, None}
use Rattle.rational.specs.Rational.{ℚ, zero_ℚ, eq_ℚ, lt_q}
use Rattle.rational.specs.Linear.{Term}
use Rattle.certs.specs.System.{Limits, SystemRow}

-- the column of a term stands between a least one and the number of columns, and its factor is not 0
abbrev pub follows : ℕ → ℕ → Term → Bool
follows columns least t = not (nat_lt t.column least) && (nat_lt t.column columns && not (eq_ℚ t.factor zero_ℚ))

-- the terms ascend from a least column on
abbrev pub ascends : ℕ → ℕ → List Term → Bool
ascends columns least [] = true
ascends columns least (t ∷ terms) = follows columns least t && ascends columns (suc t.column) terms

-- a lower limit does not pass an upper one, where both are there
abbrev pub in_order : Option ℚ → Option ℚ → Bool
in_order None upper = true
in_order (Some l) None = true
in_order (Some l) (Some u) = not (lt_q u l)

-- of limits
abbrev pub uncrossed : Limits → Bool
uncrossed limits = in_order limits.lower limits.upper

-- of a row
abbrev pub passes : ℕ → SystemRow → Bool
passes columns r = uncrossed r.limits && ascends columns 0 r.terms
