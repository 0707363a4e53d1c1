-- Limits that rows make, and the least and greatest sums of rows.
use Rattle.std.specs.Prelude.{Bool, true, false, ◌&&◌, not, cond, List, Option, Some, None, is_some}
use Rattle.std.specs.Option.{option_map}
use Rattle.rational.specs.Rational.{ℚ, zero_ℚ, ◌*ℚ◌, lt_q}
use Rattle.rational.specs.Sum.{sum_over}
use Rattle.rational.specs.Linear.{Term}
use Rattle.frac128.specs.Limit.{limit}
use Rattle.frac128.specs.Calculation.{Calculation, first_wide, product_steps}
use Rattle.lp_model.specs.declared.members.Side.{Side}
use Rattle.lp_model.specs.declared.members.Side.TheVariants.{Lo, Up}
use Rattle.certs.specs.Checks.{every}
use Rattle.certs.specs.Combination.{number_or_zero}
use Rattle.certs.specs.Plain.{is_raised, is_lowered}
use Rattle.certs.specs.System.{Limits, LinearSystem, limit_on}
use Rattle.reductions.specs.Stage.{limits_in}

-- ---- sides
-- the other side
abbrev pub opposite : Side → Side
opposite Lo = Up
opposite Up = Lo

-- whether they are one side
abbrev pub is_side : Side → Side → Bool
is_side Lo Lo = true
is_side Lo Up = false
is_side Up Lo = false
is_side Up Up = true

-- the side itself for a factor above 0, and else the other: where `x` is bounded so, `a x` is bounded on this side
abbrev pub turned : ℚ → Side → Side
turned a side = cond (lt_q zero_ℚ a) side (opposite side)

-- ---- limits
-- whether the second number limits more on the side than the first: it is there, and it is strictly tighter, or there is no first
abbrev pub is_tighter : Side → Option ℚ → Option ℚ → Bool
is_tighter Lo old new = is_raised old new
is_tighter Up old new = is_lowered old new

-- the second where it is strictly tighter, and else the first
abbrev pub tightened : Side → Option ℚ → Option ℚ → Option ℚ
tightened side old new = cond (is_tighter side old new) new old

-- limits tightened by new ones
abbrev pub tightened_by : (Side → Option ℚ) → Limits → Limits
tightened_by new limits = record { lower = tightened Lo limits.lower (new Lo); upper = tightened Up limits.upper (new Up) }

-- both limits changed alike, where they are there
abbrev pub map_limits : (ℚ → ℚ) → Limits → Limits
map_limits f limits = record { lower = option_map f limits.lower; upper = option_map f limits.upper }

-- ---- least and greatest sums
-- no operation is too wide
abbrev pub is_narrow : Calculation → Bool
is_narrow steps = not (is_some (first_wide limit steps))

-- the limit of a term's column that the least sum (`Lo`) or the greatest sum (`Up`) takes
abbrev pub taken : LinearSystem → Side → Term → Option ℚ
taken system side t = limit_on (limits_in system t.column) (turned t.factor side)

-- 0 where there is none
abbrev pub taken_value : LinearSystem → Side → Term → ℚ
taken_value system side t = number_or_zero (taken system side t)

-- whether all of them are there, so that the sum is finite
abbrev pub is_finite : LinearSystem → Side → List Term → Bool
is_finite system side terms = every (λ t. is_some (taken system side t)) terms

-- the least or the greatest sum of terms, where it is finite and can be formed
abbrev pub extreme : LinearSystem → Side → List Term → Option ℚ
extreme system side terms =
    cond (is_finite system side terms && is_narrow (product_steps (λ t. t.factor) (taken_value system side) zero_ℚ terms))
    (Some (sum_over (λ t. t.factor *ℚ taken_value system side t) terms))
    None
