-- Limits that are changed alike, with their operations.
use Rattle.std.proofs.Common.{◌≡◌, refl, sym, ◌∙◌, ap, true, false, [], ◌∷◌, ◌++◌, Option, Some, None}
use Rattle.std.specs.Option.{option_map}
use Rattle.rational.specs.Rational.{ℚ, ◌-ℚ◌, ◌*ℚ◌}
use Rattle.frac128.specs.Calculation.{Calculation}
use Rattle.frac128.specs.Limit.{limit}
use Rattle.frac128.specs.Width.{operation, is_wide}
use Rattle.frac128.specs.declared.Op.TheVariants.{Minus, Times, Over}
use Rattle.certs.specs.System.{Limits}
use Rattle.reductions.specs.Limited.{is_narrow, map_limits}
use Rattle.reductions.specs.Rules.{limit_steps}
use Rattle.presolve.specs.declared.eliminating.Equation.{Equation as PairEquation}
use Rattle.presolve.specs.Eliminated.{one_steps, sides_steps, less_steps, image_steps}
use Rattle.presolve.proofs.Narrow.{narrow_next, narrow_one, narrow_past, narrow_parts, wide_here, wide_part, wide_last}

-- ---- both limits
-- the operations are those of the lower and then of the upper one
limit_parts : (f : ℚ → Calculation) (limits : Limits) → limit_steps f limits ≡ one_steps f limits.lower ++ one_steps f limits.upper
limit_parts f limits = by limits.lower limits.upper
  where
    by : (a b : Option ℚ) → let l : Limits = record { lower = a; upper = b } in limit_steps f l ≡ one_steps f a ++ one_steps f b
    by None None = refl
    by None (Some b) = refl
    by (Some a) None = refl
    by (Some a) (Some b) = refl

pub lower_wide : (f : ℚ → Calculation) (limits : Limits) → is_narrow (one_steps f limits.lower) ≡ false → is_narrow (limit_steps f limits) ≡ false
lower_wide f limits e = ap is_narrow (limit_parts f limits) ∙ wide_part (one_steps f limits.lower) (one_steps f limits.upper) e

pub upper_wide : (f : ℚ → Calculation) (limits : Limits) → is_narrow (one_steps f limits.lower) ≡ true → is_narrow (one_steps f limits.upper) ≡ false → is_narrow (limit_steps f limits) ≡ false
upper_wide f limits e h = ap is_narrow (limit_parts f limits) ∙ wide_last (one_steps f limits.lower) (one_steps f limits.upper) e h

pub both_narrow : (f : ℚ → Calculation) (limits : Limits) → is_narrow (one_steps f limits.lower) ≡ true → is_narrow (one_steps f limits.upper) ≡ true → is_narrow (limit_steps f limits) ≡ true
both_narrow f limits e h = ap is_narrow (limit_parts f limits) ∙ narrow_parts (one_steps f limits.lower) (one_steps f limits.upper) e h

-- both limits, each changed
pub both_mapped : (f : ℚ → ℚ) (limits : Limits) (a b : Option ℚ) → a ≡ option_map f limits.lower → b ≡ option_map f limits.upper → let l : Limits = record { lower = a; upper = b } in l ≡ map_limits f limits
both_mapped f limits a b p q = λ i. record { lower = p i; upper = q i }

-- ---- sides less a product
-- the operations of a side less a number
abbrev pub minus_steps : ℚ → ℚ → Calculation
minus_steps p s = operation Minus s p ∷ []

module _ (a b p : ℚ) (sides : Limits) (is : p ≡ a *ℚ b) where
  pub product_wide : is_wide limit (operation Times a b) ≡ true → is_narrow (sides_steps a b sides) ≡ false
  product_wide e = wide_here (operation Times a b) (limit_steps (minus_steps (a *ℚ b)) sides) e

  module _ (product : is_wide limit (operation Times a b) ≡ false) where
    past : is_narrow (sides_steps a b sides) ≡ is_narrow (limit_steps (minus_steps p) sides)
    past = narrow_next (operation Times a b) (limit_steps (minus_steps (a *ℚ b)) sides) product ∙ ap (λ z. is_narrow (limit_steps (minus_steps z) sides)) (sym is)

    pub sides_lower_wide : is_narrow (one_steps (minus_steps p) sides.lower) ≡ false → is_narrow (sides_steps a b sides) ≡ false
    sides_lower_wide e = past ∙ lower_wide (minus_steps p) sides e

    pub sides_upper_wide : is_narrow (one_steps (minus_steps p) sides.lower) ≡ true → is_narrow (one_steps (minus_steps p) sides.upper) ≡ false → is_narrow (sides_steps a b sides) ≡ false
    sides_upper_wide e h = past ∙ upper_wide (minus_steps p) sides e h

    pub sides_narrow : is_narrow (one_steps (minus_steps p) sides.lower) ≡ true → is_narrow (one_steps (minus_steps p) sides.upper) ≡ true → is_narrow (sides_steps a b sides) ≡ true
    sides_narrow e h = past ∙ both_narrow (minus_steps p) sides e h

  pub sides_are : (lo up : Option ℚ) → lo ≡ option_map (λ s. s -ℚ p) sides.lower → up ≡ option_map (λ s. s -ℚ p) sides.upper → let l : Limits = record { lower = lo; upper = up } in l ≡ map_limits (λ s. s -ℚ a *ℚ b) sides
  sides_are lo up e f = both_mapped (λ s. s -ℚ p) sides lo up e f ∙ ap (λ z. map_limits (λ s. s -ℚ z) sides) is

-- ---- what an equation makes of a limit
module _ (q : PairEquation) (l : ℚ) where
  pub image_rest_wide : is_narrow (less_steps q.value q.gone.factor l) ≡ false → is_narrow (image_steps q l) ≡ false
  image_rest_wide e = wide_part (less_steps q.value q.gone.factor l) (operation Over (q.value -ℚ q.gone.factor *ℚ l) q.kept.factor ∷ []) e

  module _ (rest : ℚ) (is : rest ≡ q.value -ℚ q.gone.factor *ℚ l) (narrow : is_narrow (less_steps q.value q.gone.factor l) ≡ true) where
    rest_past : is_narrow (image_steps q l) ≡ is_narrow (operation Over rest q.kept.factor ∷ [])
    rest_past =
        narrow_past (less_steps q.value q.gone.factor l) (operation Over (q.value -ℚ q.gone.factor *ℚ l) q.kept.factor ∷ []) narrow
        ∙ ap (λ z. is_narrow (operation Over z q.kept.factor ∷ [])) (sym is)

    pub image_wide : is_wide limit (operation Over rest q.kept.factor) ≡ true → is_narrow (image_steps q l) ≡ false
    image_wide e = rest_past ∙ wide_here (operation Over rest q.kept.factor) [] e

    pub image_narrow : is_wide limit (operation Over rest q.kept.factor) ≡ false → is_narrow (image_steps q l) ≡ true
    image_narrow e = rest_past ∙ narrow_one (operation Over rest q.kept.factor) e
