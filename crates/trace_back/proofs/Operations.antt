-- Two operations in turn, and the equation of a step with the objective's part.
use Rattle.std.proofs.Common.{◌≡◌, ◌+◌, ◌==◌, ◌∙◌, ap, subst, ℕ, Bool, true, false, cond, ◌++◌, Result}
use Rattle.rational.specs.Rational.{ℚ, ◌+ℚ◌, ◌-ℚ◌, ◌*ℚ◌}
use Rattle.frac128.specs.declared.Op.TheVariants.{Plus, Minus}
use Rattle.frac128.specs.declared.Wide.{Wide as Operation}
use Rattle.frac128.specs.Calculation.{Calculation}
use Rattle.lp_model.specs.declared.members.Side.{Side}
use Rattle.lp_model.specs.declared.members.Side.TheVariants.{Lo, Up}
use Rattle.certs.specs.Improves.{magnitude}
use Rattle.reductions.specs.declared.steps.Doubleton.{Doubleton as Pair}
use Rattle.reductions.specs.Back.{Weights, part_on, by_maker, made_quotient, made_work, lower_quotient, upper_quotient, equation_times, pair_before}
use Rattle.trace_back.specs.Ends.{Gives}
use Rattle.trace_back.specs.Held.{with_sides, unmade}
use Rattle.trace_back.proofs.Works.{IsFirst, AreNarrow, first_here, first_past, narrow_both, gives_last}
use Rattle.trace_back.proofs.Writes.{same_sides}
use Rattle.trace_back.proofs.Pairs.{pair_is}
use Rattle.trace_back.specs.Back.{asked_of_equation, asked_work, dual_times, dual_pair_work}

-- the last operation is one on m, which is what the first ones give
pub two_last : (r : Result ℚ Operation) (first : Calculation) (work : ℚ → Calculation) (value : ℚ → ℚ) (m n : ℚ) → m ≡ n → AreNarrow first → Gives r (value m) (work m) → Gives r (value n) (first ++ work n)
two_last r first work value m n e narrow h = gives_last r first (work n) (value n) narrow (subst (λ z. Gives r (value z) (work z)) e h)

-- ---- an equation: g is what is asked of it, x and y are the weights as read
module _ (columns : ℕ) (d : Pair) (w : Weights) where
  abbrev asked : ℚ
  asked = asked_of_equation columns d w

  pub equation_first : (o : Operation) → IsFirst (asked_work columns d w) o → IsFirst (dual_pair_work columns d w) o
  equation_first o e = first_here (asked_work columns d w) _ o e

  module _ (n : AreNarrow (asked_work columns d w)) (g : ℚ) (eg : g ≡ asked_of_equation columns d w) (x : ℚ) (ex : x ≡ w Lo d.x) where
    pub equation_second : (o : Operation) → IsFirst (made_work Minus d g d.lower x) o → IsFirst (dual_pair_work columns d w) o
    equation_second o e =
        first_past (asked_work columns d w) _ o n
        (first_here (made_work Minus d asked d.lower (w Lo d.x)) _ o
        (subst (λ z. IsFirst (made_work Minus d z d.lower (w Lo d.x)) o) eg (subst (λ z. IsFirst (made_work Minus d g d.lower z) o) ex e)))

    module _ (m : AreNarrow (made_work Minus d g d.lower x)) (t : ℚ) (et : t ≡ g -ℚ made_quotient d.a d.lower x) (y : ℚ) (ey : y ≡ w Up d.x) where
      narrow_lower : AreNarrow (made_work Minus d asked d.lower (w Lo d.x))
      narrow_lower = subst (λ z. AreNarrow (made_work Minus d z d.lower (w Lo d.x))) eg (subst (λ z. AreNarrow (made_work Minus d g d.lower z)) ex m)

      same_times : t ≡ asked -ℚ lower_quotient d w
      same_times = et ∙ ap (λ z. z -ℚ made_quotient d.a d.lower x) eg ∙ ap (λ z. asked -ℚ made_quotient d.a d.lower z) ex

      pub equation_third : (o : Operation) → IsFirst (made_work Plus d t d.upper y) o → IsFirst (dual_pair_work columns d w) o
      equation_third o e =
          first_past (asked_work columns d w) _ o n
          (first_past (made_work Minus d asked d.lower (w Lo d.x)) _ o narrow_lower
          (subst (λ z. IsFirst (made_work Plus d z d.upper (w Up d.x)) o) same_times (subst (λ z. IsFirst (made_work Plus d t d.upper z) o) ey e)))

      pub equation_all : AreNarrow (made_work Plus d t d.upper y) → AreNarrow (dual_pair_work columns d w)
      equation_all e =
          narrow_both (asked_work columns d w) _ n
          (narrow_both (made_work Minus d asked d.lower (w Lo d.x)) _ narrow_lower
          (subst (λ z. AreNarrow (made_work Plus d z d.upper (w Up d.x))) same_times (subst (λ z. AreNarrow (made_work Plus d t d.upper z)) ey e)))

      pub equation_sum : (u : ℚ) → u ≡ t +ℚ made_quotient d.a d.upper y → u ≡ dual_times columns d w
      equation_sum u e = e ∙ ap (λ z. z +ℚ made_quotient d.a d.upper y) same_times ∙ ap (λ z. (asked -ℚ lower_quotient d w) +ℚ made_quotient d.a d.upper z) ey

-- what is written last to both sides of a variable is what stands there
written_last : (k : ℕ) (p q : Side → ℚ) (w : Weights) → with_sides k p w ≡ with_sides k p (with_sides k q w)
written_last k p q w = λ i. λ side v. by side v (v == k) i
  where
    by : (side : Side) (v : ℕ) (b : Bool) → cond b (p side) (w side v) ≡ cond b (p side) (cond b (q side) (w side v))
    by side v true = λ i. p side
    by side v false = λ i. w side v

pub equation_is : (columns : ℕ) (d : Pair) (w : Weights) (t p q : ℚ) → t ≡ dual_times columns d w → p ≡ d.b *ℚ lower_quotient d w → q ≡ d.b *ℚ upper_quotient d w
    → with_sides (columns + d.row) (λ side. part_on side t) (with_sides d.y (λ side. by_maker d.lower d.upper side (magnitude p) (magnitude q)) (unmade d.x d.lower d.upper w))
    ≡ with_sides (columns + d.row) (λ side. part_on side (dual_times columns d w)) (pair_before columns d w)
equation_is columns d w t p q e f g =
    let row = columns + d.row in
    let rest = with_sides d.y (λ side. by_maker d.lower d.upper side (magnitude p) (magnitude q)) (unmade d.x d.lower d.upper w) in
    let parts = λ (z : ℚ) (side : Side). part_on side z in
    same_sides row (parts t) (parts (dual_times columns d w)) rest (λ side. ap (part_on side) e)
    ∙ written_last row (parts (dual_times columns d w)) (parts (equation_times columns d w)) rest
    ∙ ap (λ (z : Weights). with_sides row (parts (dual_times columns d w)) z) (pair_is columns d w (equation_times columns d w) p q (λ i. equation_times columns d w) f g)
