-- Calculations of which no operation is too wide, part by part.
use Rattle.std.proofs.Common.{◌≡◌, refl, ◌∙◌, ap, Bool, true, false, not, ◌&&◌, [], ◌∷◌, ◌++◌, Option, Some, None, is_some}
use Rattle.frac128.specs.Calculation.{Calculation, first_wide, or_else}
use Rattle.frac128.specs.Limit.{limit}
use Rattle.frac128.specs.Width.{is_wide}
use Rattle.frac128.specs.declared.Wide.{Wide as Operation}
use Rattle.frac128.proofs.Calculations.{first_wide-append, first_wide-here, first_wide-next, first_wide-nil}
use Rattle.reductions.specs.Limited.{is_narrow}

pub narrow_nil : is_narrow [] ≡ true
narrow_nil = ap (λ o. not (is_some o)) (first_wide-nil limit)

-- an operation more in front
pub narrow_next : (o : Operation) (rest : Calculation) → is_wide limit o ≡ false → is_narrow (o ∷ rest) ≡ is_narrow rest
narrow_next o rest e = ap (λ p. not (is_some p)) (first_wide-next limit o rest e)

pub wide_here : (o : Operation) (rest : Calculation) → is_wide limit o ≡ true → is_narrow (o ∷ rest) ≡ false
wide_here o rest e = ap (λ p. not (is_some p)) (first_wide-here limit o rest e)

-- alone
pub narrow_one : (o : Operation) → is_wide limit o ≡ false → is_narrow (o ∷ []) ≡ true
narrow_one o e = narrow_next o [] e ∙ narrow_nil

-- two parts
pub narrow_both : (xs ys : Calculation) → is_narrow (xs ++ ys) ≡ is_narrow xs && is_narrow ys
narrow_both xs ys = ap (λ p. not (is_some p)) (first_wide-append limit xs ys) ∙ by (first_wide limit xs)
  where
    by : (p : Option Operation) → not (is_some (or_else p (first_wide limit ys))) ≡ not (is_some p) && is_narrow ys
    by None = refl
    by (Some o) = refl

-- past a part that is narrow
pub narrow_past : (xs ys : Calculation) → is_narrow xs ≡ true → is_narrow (xs ++ ys) ≡ is_narrow ys
narrow_past xs ys e = narrow_both xs ys ∙ ap (λ b. b && is_narrow ys) e

-- a part that is not
pub wide_part : (xs ys : Calculation) → is_narrow xs ≡ false → is_narrow (xs ++ ys) ≡ false
wide_part xs ys e = narrow_both xs ys ∙ ap (λ b. b && is_narrow ys) e

-- the last one is not
pub wide_last : (xs ys : Calculation) → is_narrow xs ≡ true → is_narrow ys ≡ false → is_narrow (xs ++ ys) ≡ false
wide_last xs ys e h = narrow_past xs ys e ∙ h

-- both are
pub narrow_parts : (xs ys : Calculation) → is_narrow xs ≡ true → is_narrow ys ≡ true → is_narrow (xs ++ ys) ≡ true
narrow_parts xs ys e h = narrow_past xs ys e ∙ h

-- the last part is not, whatever the first is
pub wide_end : (xs ys : Calculation) → is_narrow ys ≡ false → is_narrow (xs ++ ys) ≡ false
wide_end xs ys h = narrow_both xs ys ∙ ap (λ b. is_narrow xs && b) h ∙ by (is_narrow xs)
  where
    by : (b : Bool) → b && false ≡ false
    by true = refl
    by false = refl
