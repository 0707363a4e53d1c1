use Rattle.std.proofs.Common.{◌≡◌, Option, Some, None, true, false, [], ◌∷◌, refl, subst, sym, ◌∙◌, ap}
use Rattle.std.specs.Option.{option_map}
use Rattle.rational.specs.Rational.{ℚ, ◌-ℚ◌}
use Rattle.frac128.specs.Limit.{limit}
use Rattle.frac128.specs.Width.{operation, is_wide}
use Rattle.frac128.specs.declared.Op.TheVariants.{Minus}
use Rattle.reductions.specs.Limited.{is_narrow}
use Rattle.presolve.specs.Eliminated.{one_steps}
use Rattle.presolve.proofs.Narrow.{narrow_nil, narrow_one, wide_here}
use Rattle.presolve.proofs.eliminating.side_less.Goals as goal

-- what is answered for a side
abbrev IsLess : ℚ → Option ℚ → Option ℚ → Type 0
IsLess number less side = (less ≡ option_map (λ s. s -ℚ number) side) × (is_narrow (one_steps (λ s. operation Minus s number ∷ []) side) ≡ true)

pub returns-in_default : goal.returns-in_default
returns-in_default c = subst (IsLess c.args.number None) (sym c.in_default.is) (refl, narrow_nil)

pub returns-in-Ok : goal.returns-in-Ok
returns-in-Ok c =
    subst (IsLess c.args.number (Some c.in-Ok.less)) (sym c.in-Some.is)
    (ap (λ (z : ℚ). Some z) c.in-Ok.ensures.0, narrow_one (operation Minus c.in-Some.side c.args.number) c.in-Ok.ensures.1)

pub returns-in-Err : goal.returns-in-Err
returns-in-Err c =
    subst (λ (side : Option ℚ). is_narrow (one_steps (λ s. operation Minus s c.args.number ∷ []) side) ≡ false) (sym c.in-Some.is)
    (wide_here (operation Minus c.in-Some.side c.args.number) [] (ap (is_wide limit) (sym c.in-Err.ensures.0) ∙ c.in-Err.ensures.1))
