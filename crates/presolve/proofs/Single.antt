-- Rows of one column: the operations side by side, and the limits that the sides make.
use Rattle.std.proofs.Common.{◌≡◌, sym, ◌∙◌, ap, true, false, cond, [], Option, Some, None}
use Rattle.std.specs.Option.{option_map}
use Rattle.rational.specs.Rational.{ℚ, zero_ℚ, ◌/ℚ◌, lt_q}
use Rattle.frac128.specs.declared.Op.TheVariants.{Over}
use Rattle.frac128.specs.Limit.{limit}
use Rattle.frac128.specs.declared.Wide.{Wide as Operation}
use Rattle.frac128.specs.Width.{operation, is_wide}
use Rattle.frac128.specs.Calculation.{first_wide, or_else}
use Rattle.frac128.proofs.Calculations.{first_wide-append, first_wide-nil, first_wide-here, first_wide-next}
use Rattle.lp_model.specs.declared.members.Side.TheVariants.{Lo, Up}
use Rattle.certs.specs.System.{Limits, limit_on}
use Rattle.reductions.specs.Rules.{single_limit, single_work}

-- one limit alone
abbrev pub alone : Option ℚ → Limits
alone side = record { lower = side; upper = None }

-- the work is that of the lower side, then of the upper one
pub work_parts : (sides : Limits) (a : ℚ) → first_wide limit (single_work sides a) ≡ or_else (first_wide limit (single_work (alone sides.lower) a)) (first_wide limit (single_work (alone sides.upper) a))
work_parts sides a = by sides.lower sides.upper
  where
    by : (lower upper : Option ℚ) → first_wide limit (single_work (record { lower = lower; upper = upper }) a) ≡ or_else (first_wide limit (single_work (alone lower) a)) (first_wide limit (single_work (alone upper) a))
    by None None = first_wide-append limit (single_work (alone None) a) (single_work (alone None) a)
    by None (Some u) = first_wide-append limit (single_work (alone None) a) (single_work (alone (Some u)) a)
    by (Some l) None = first_wide-append limit (single_work (alone (Some l)) a) (single_work (alone None) a)
    by (Some l) (Some u) = first_wide-append limit (single_work (alone (Some l)) a) (single_work (alone (Some u)) a)

-- the work of one side
pub side_none : (side : Option ℚ) (a : ℚ) → side ≡ None → first_wide limit (single_work (alone side) a) ≡ None
side_none side a e = ap (λ s. first_wide limit (single_work (alone s) a)) e ∙ first_wide-nil limit

pub side_wide : (side : Option ℚ) (a s : ℚ) (w : Operation) → side ≡ Some s → w ≡ operation Over s a → is_wide limit w ≡ true → first_wide limit (single_work (alone side) a) ≡ Some w
side_wide side a s w e f g =
    ap (λ z. first_wide limit (single_work (alone z) a)) e
    ∙ first_wide-here limit (operation Over s a) [] (ap (is_wide limit) (sym f) ∙ g)
    ∙ ap (λ o. Some o) (sym f)

pub side_fits : (side : Option ℚ) (a s : ℚ) → side ≡ Some s → is_wide limit (operation Over s a) ≡ false → first_wide limit (single_work (alone side) a) ≡ None
side_fits side a s e f = ap (λ z. first_wide limit (single_work (alone z) a)) e ∙ first_wide-next limit (operation Over s a) [] f ∙ first_wide-nil limit

-- and of both
module _ (sides : Limits) (a : ℚ) (lo up : Option ℚ) (l : lo ≡ sides.lower) (u : up ≡ sides.upper) where
  parts : first_wide limit (single_work sides a) ≡ or_else (first_wide limit (single_work (alone lo) a)) (first_wide limit (single_work (alone up) a))
  parts =
      work_parts sides a
      ∙ ap (λ z. or_else (first_wide limit (single_work (alone z) a)) (first_wide limit (single_work (alone sides.upper) a))) (sym l)
      ∙ ap (λ z. or_else (first_wide limit (single_work (alone lo) a)) (first_wide limit (single_work (alone z) a))) (sym u)

  pub work_none : first_wide limit (single_work (alone lo) a) ≡ None → first_wide limit (single_work (alone up) a) ≡ None → first_wide limit (single_work sides a) ≡ None
  work_none e f = parts ∙ ap (λ o. or_else o (first_wide limit (single_work (alone up) a))) e ∙ f

  pub work_lower : (w : Operation) → first_wide limit (single_work (alone lo) a) ≡ Some w → first_wide limit (single_work sides a) ≡ Some w
  work_lower w e = parts ∙ ap (λ o. or_else o (first_wide limit (single_work (alone up) a))) e

  pub work_upper : (w : Operation) → first_wide limit (single_work (alone lo) a) ≡ None → first_wide limit (single_work (alone up) a) ≡ Some w → first_wide limit (single_work sides a) ≡ Some w
  work_upper w e f = parts ∙ ap (λ o. or_else o (first_wide limit (single_work (alone up) a))) e ∙ f

-- the limits for a factor above 0, and for one that is not
module _ (sides : Limits) (a : ℚ) where
  pub made_straight : (lo up : Option ℚ) → lt_q zero_ℚ a ≡ true → lo ≡ option_map (λ s. s /ℚ a) sides.lower → up ≡ option_map (λ s. s /ℚ a) sides.upper
      → (lo ≡ single_limit sides a Lo) × (up ≡ single_limit sides a Up)
  made_straight lo up e f g = (
    f ∙ ap (λ b. option_map (λ s. s /ℚ a) (limit_on sides (cond b Lo Up))) (sym e),
    g ∙ ap (λ b. option_map (λ s. s /ℚ a) (limit_on sides (cond b Up Lo))) (sym e),
  )

  pub made_turned : (lo up : Option ℚ) → lt_q zero_ℚ a ≡ false → lo ≡ option_map (λ s. s /ℚ a) sides.lower → up ≡ option_map (λ s. s /ℚ a) sides.upper
      → (up ≡ single_limit sides a Lo) × (lo ≡ single_limit sides a Up)
  made_turned lo up e f g = (
    g ∙ ap (λ b. option_map (λ s. s /ℚ a) (limit_on sides (cond b Lo Up))) (sym e),
    f ∙ ap (λ b. option_map (λ s. s /ℚ a) (limit_on sides (cond b Up Lo))) (sym e),
  )
