-- Operations in turn: the first that is too wide is that of the call that refuses, and where none refuses none is too wide.
use Rattle.std.proofs.Common.{◌≡◌, sym, ◌∙◌, ap, subst, ◌++◌, Result, Some, None}
use Rattle.std.proofs.lemmas.Result.{MatchResult-weaker}
use Rattle.rational.specs.Rational.{ℚ, ◌+ℚ◌, ◌-ℚ◌, ◌*ℚ◌, ◌/ℚ◌}
use Rattle.frac128.specs.declared.Op.{Op}
use Rattle.frac128.specs.declared.Op.TheVariants.{Plus, Minus, Times, Over}
use Rattle.frac128.specs.declared.Wide.{Wide as Operation}
use Rattle.frac128.specs.Limit.{limit}
use Rattle.frac128.specs.Calculation.{Calculation, first_wide}
use Rattle.frac128.proofs.Calculations.{first_wide-before, first_wide-past}
use Rattle.certs.specs.Turns.{counted}
use Rattle.trace_back.specs.Ends.{Gives, IsBackStop}
use Rattle.trace_back.specs.declared.stops.BackStop.{BackStop}
use Rattle.trace_back.specs.declared.stops.BackStop.TheVariants.{Wide, Memory}

-- the first of operations that is too wide
abbrev pub IsFirst : Calculation → Operation → Type 0
IsFirst work o = first_wide limit work ≡ Some o

-- none of them is
abbrev pub AreNarrow : Calculation → Type 0
AreNarrow work = first_wide limit work ≡ None

module _ (a b : Calculation) where
  pub first_here : (o : Operation) → IsFirst a o → IsFirst (a ++ b) o
  first_here o e = first_wide-before limit a b o e

  pub first_past : (o : Operation) → AreNarrow a → IsFirst b o → IsFirst (a ++ b) o
  first_past o n e = first_wide-past limit a b n ∙ e

  pub narrow_both : AreNarrow a → AreNarrow b → AreNarrow (a ++ b)
  narrow_both n e = first_wide-past limit a b n ∙ e

-- why evidence does not come back, with operations before or after
pub stop_here : (a b : Calculation) (stop : BackStop) → IsBackStop a stop → IsBackStop (a ++ b) stop
stop_here a b (Wide o) h = first_here a b o h
stop_here a b Memory h = tt

pub stop_past : (a b : Calculation) (stop : BackStop) → AreNarrow a → IsBackStop b stop → IsBackStop (a ++ b) stop
stop_past a b (Wide o) n h = first_past a b o n h
stop_past a b Memory n h = tt

pub stop_as : (a b : Calculation) (stop : BackStop) → first_wide limit a ≡ first_wide limit b → IsBackStop a stop → IsBackStop b stop
stop_as a b (Wide o) e h = sym e ∙ h
stop_as a b Memory e h = tt

-- a call after operations that are not too wide, about values that are the same
pub gives_last : (r : Result ℚ Operation) (a b : Calculation) (v : ℚ) → AreNarrow a → Gives r v b → Gives r v (a ++ b)
gives_last r a b v n h = MatchResult-weaker r h (λ q p. (p.0, narrow_both a b n p.1)) (λ o p. first_past a b o n p)

-- operations on equal numbers
pub on_right : (kind : Op) (a b c : ℚ) → b ≡ c → (P : Calculation → Type 0) → P (counted kind a b) → P (counted kind a c)
on_right kind a b c e P h = subst (λ z. P (counted kind a z)) e h

pub on_both : (kind : Op) (a b c d : ℚ) → a ≡ b → c ≡ d → (P : Calculation → Type 0) → P (counted kind a c) → P (counted kind b d)
on_both kind a b c d e f P h = subst (λ z. P (counted kind b z)) f (subst (λ z. P (counted kind z c)) e h)

-- ---- the products for both sides of a changed row, each put to the sum
module _ (first second : Op) (one two : ℚ → ℚ → ℚ) (factor sum lower upper : ℚ) where
  -- the operations
  abbrev pub row_work : Calculation
  row_work = counted Times factor lower ++ (counted first sum (factor *ℚ lower) ++ (counted Times factor upper ++ counted second (one sum (factor *ℚ lower)) (factor *ℚ upper)))

  -- the sum
  abbrev pub row_sum : ℚ
  row_sum = two (one sum (factor *ℚ lower)) (factor *ℚ upper)

  module _ (x y : ℚ) (ex : x ≡ lower) (ey : y ≡ upper) where
    pub row_first : (o : Operation) → IsFirst (counted Times factor x) o → IsFirst row_work o
    row_first o e = first_here (counted Times factor lower) _ o (on_right Times factor x lower ex (λ z. IsFirst z o) e)

    module _ (l : ℚ) (el : l ≡ factor *ℚ x) (nl : AreNarrow (counted Times factor x)) where
      same_lower : l ≡ factor *ℚ lower
      same_lower = el ∙ ap (λ z. factor *ℚ z) ex

      narrow_lower : AreNarrow (counted Times factor lower)
      narrow_lower = on_right Times factor x lower ex AreNarrow nl

      pub row_second : (o : Operation) → IsFirst (counted first sum l) o → IsFirst row_work o
      row_second o e =
          first_past (counted Times factor lower) _ o narrow_lower
          (first_here (counted first sum (factor *ℚ lower)) _ o (on_right first sum l (factor *ℚ lower) same_lower (λ z. IsFirst z o) e))

      module _ (d : ℚ) (ed : d ≡ one sum l) (nd : AreNarrow (counted first sum l)) where
        same_sum : d ≡ one sum (factor *ℚ lower)
        same_sum = ed ∙ ap (λ z. one sum z) same_lower

        narrow_sum : AreNarrow (counted first sum (factor *ℚ lower))
        narrow_sum = on_right first sum l (factor *ℚ lower) same_lower AreNarrow nd

        pub row_third : (o : Operation) → IsFirst (counted Times factor y) o → IsFirst row_work o
        row_third o e =
            first_past (counted Times factor lower) _ o narrow_lower
            (first_past (counted first sum (factor *ℚ lower)) _ o narrow_sum
            (first_here (counted Times factor upper) _ o (on_right Times factor y upper ey (λ z. IsFirst z o) e)))

        module _ (u : ℚ) (eu : u ≡ factor *ℚ y) (nu : AreNarrow (counted Times factor y)) where
          same_upper : u ≡ factor *ℚ upper
          same_upper = eu ∙ ap (λ z. factor *ℚ z) ey

          pub row_last : (r : Result ℚ Operation) → Gives r (two d u) (counted second d u) → Gives r row_sum row_work
          row_last r h =
              gives_last r (counted Times factor lower) _ row_sum narrow_lower
              (gives_last r (counted first sum (factor *ℚ lower)) _ row_sum narrow_sum
              (gives_last r (counted Times factor upper) _ row_sum (on_right Times factor y upper ey AreNarrow nu)
              (MatchResult-weaker r h
              (λ q p. (p.0 ∙ ap (λ z. two z u) same_sum ∙ ap (λ z. two (one sum (factor *ℚ lower)) z) same_upper, on_both second d (one sum (factor *ℚ lower)) u (factor *ℚ upper) same_sum same_upper AreNarrow p.1))
              (λ o p. on_both second d (one sum (factor *ℚ lower)) u (factor *ℚ upper) same_sum same_upper (λ z. IsFirst z o) p))))

-- ---- a quotient, what it makes of the sum, and a product of it
module _ (kind : Op) (sum weight a b : ℚ) where
  -- the operations
  abbrev pub quotient_work : Calculation
  quotient_work = counted Over weight a ++ (counted kind sum (weight /ℚ a) ++ counted Times b (weight /ℚ a))

  pub quotient_first : (o : Operation) → IsFirst (counted Over weight a) o → IsFirst quotient_work o
  quotient_first o e = first_here (counted Over weight a) _ o e

  module _ (q : ℚ) (eq : q ≡ weight /ℚ a) (nq : AreNarrow (counted Over weight a)) where
    pub quotient_second : (o : Operation) → IsFirst (counted kind sum q) o → IsFirst quotient_work o
    quotient_second o e =
        first_past (counted Over weight a) _ o nq
        (first_here (counted kind sum (weight /ℚ a)) _ o (on_right kind sum q (weight /ℚ a) eq (λ z. IsFirst z o) e))

    module _ (nt : AreNarrow (counted kind sum q)) where
      pub quotient_third : (o : Operation) → IsFirst (counted Times b q) o → IsFirst quotient_work o
      quotient_third o e =
          first_past (counted Over weight a) _ o nq
          (first_past (counted kind sum (weight /ℚ a)) _ o (on_right kind sum q (weight /ℚ a) eq AreNarrow nt) (on_right Times b q (weight /ℚ a) eq (λ z. IsFirst z o) e))

      pub quotient_all : AreNarrow (counted Times b q) → AreNarrow quotient_work
      quotient_all e =
          narrow_both (counted Over weight a) _ nq
          (narrow_both (counted kind sum (weight /ℚ a)) _ (on_right kind sum q (weight /ℚ a) eq AreNarrow nt) (on_right Times b q (weight /ℚ a) eq AreNarrow e))

-- ---- a quotient that is added to a sum; m is the magnitude as computed
module _ (sum weight a x m q : ℚ) (ex : x ≡ weight) (em : m ≡ a) where
  pub added_first : (o : Operation) → IsFirst (counted Over x m) o → IsFirst (counted Over weight a ++ counted Plus sum (weight /ℚ a)) o
  added_first o e = first_here (counted Over weight a) _ o (on_both Over x weight m a ex em (λ z. IsFirst z o) e)

  pub added_last : q ≡ x /ℚ m → AreNarrow (counted Over x m) → (r : Result ℚ Operation) → Gives r (sum +ℚ q) (counted Plus sum q) → Gives r (sum +ℚ weight /ℚ a) (counted Over weight a ++ counted Plus sum (weight /ℚ a))
  added_last eq nq r h =
      let same : q ≡ weight /ℚ a = eq ∙ ap (λ z. z /ℚ m) ex ∙ ap (λ z. weight /ℚ z) em in
      gives_last r (counted Over weight a) _ (sum +ℚ weight /ℚ a) (on_both Over x weight m a ex em AreNarrow nq)
      (MatchResult-weaker r h
      (λ s p. (p.0 ∙ ap (λ z. sum +ℚ z) same, on_right Plus sum q (weight /ℚ a) same AreNarrow p.1)) (λ o p. on_right Plus sum q (weight /ℚ a) same (λ z. IsFirst z o) p))

-- ---- a product, less a weight, added to another one; x, y and m are the weights and the magnitude as computed
module _ (a times made own : ℚ) where
  -- the operations
  abbrev pub product_work : Calculation
  product_work = counted Times a times ++ (counted Minus (a *ℚ times) made ++ counted Plus own (a *ℚ times -ℚ made))

  pub product_first : (m : ℚ) (em : m ≡ a) (o : Operation) → IsFirst (counted Times m times) o → IsFirst product_work o
  product_first m em o e = first_here (counted Times a times) _ o (subst (λ z. IsFirst (counted Times z times) o) em e)

  module _ (m : ℚ) (em : m ≡ a) (p : ℚ) (ep : p ≡ m *ℚ times) (np : AreNarrow (counted Times m times)) (x : ℚ) (ex : x ≡ made) where
    same_product : p ≡ a *ℚ times
    same_product = ep ∙ ap (λ z. z *ℚ times) em

    narrow_product : AreNarrow (counted Times a times)
    narrow_product = subst (λ z. AreNarrow (counted Times z times)) em np

    pub product_second : (o : Operation) → IsFirst (counted Minus p x) o → IsFirst product_work o
    product_second o e =
        first_past (counted Times a times) _ o narrow_product
        (first_here (counted Minus (a *ℚ times) made) _ o (on_both Minus p (a *ℚ times) x made same_product ex (λ z. IsFirst z o) e))

    module _ (d : ℚ) (ed : d ≡ p -ℚ x) (nd : AreNarrow (counted Minus p x)) (y : ℚ) (ey : y ≡ own) where
      same_rest : d ≡ a *ℚ times -ℚ made
      same_rest = ed ∙ ap (λ z. z -ℚ x) same_product ∙ ap (λ z. a *ℚ times -ℚ z) ex

      narrow_rest : AreNarrow (counted Minus (a *ℚ times) made)
      narrow_rest = on_both Minus p (a *ℚ times) x made same_product ex AreNarrow nd

      pub product_third : (o : Operation) → IsFirst (counted Plus y d) o → IsFirst product_work o
      product_third o e =
          first_past (counted Times a times) _ o narrow_product
          (first_past (counted Minus (a *ℚ times) made) _ o narrow_rest (on_both Plus y own d (a *ℚ times -ℚ made) ey same_rest (λ z. IsFirst z o) e))

      pub product_all : AreNarrow (counted Plus y d) → AreNarrow product_work
      product_all e =
          narrow_both (counted Times a times) _ narrow_product
          (narrow_both (counted Minus (a *ℚ times) made) _ narrow_rest (on_both Plus y own d (a *ℚ times -ℚ made) ey same_rest AreNarrow e))

      pub product_sum : (s : ℚ) → s ≡ y +ℚ d → s ≡ own +ℚ (a *ℚ times -ℚ made)
      product_sum s e = e ∙ ap (λ z. z +ℚ d) ey ∙ ap (λ z. own +ℚ z) same_rest

-- ---- the quotient of what is left after a product
module _ (a x c b : ℚ) where
  -- the operations
  abbrev pub value_work : Calculation
  value_work = counted Times a x ++ (counted Minus c (a *ℚ x) ++ counted Over (c -ℚ a *ℚ x) b)

  pub value_first : (o : Operation) → IsFirst (counted Times a x) o → IsFirst value_work o
  value_first o e = first_here (counted Times a x) _ o e

  module _ (p : ℚ) (ep : p ≡ a *ℚ x) (np : AreNarrow (counted Times a x)) where
    pub value_second : (o : Operation) → IsFirst (counted Minus c p) o → IsFirst value_work o
    value_second o e = first_past (counted Times a x) _ o np (first_here (counted Minus c (a *ℚ x)) _ o (on_right Minus c p (a *ℚ x) ep (λ z. IsFirst z o) e))

    pub value_last : (d : ℚ) → d ≡ c -ℚ p → AreNarrow (counted Minus c p) → (r : Result ℚ Operation) → Gives r (d /ℚ b) (counted Over d b) → Gives r ((c -ℚ a *ℚ x) /ℚ b) value_work
    value_last d ed nd r h =
        let same : d ≡ c -ℚ a *ℚ x = ed ∙ ap (λ z. c -ℚ z) ep in
        gives_last r (counted Times a x) _ ((c -ℚ a *ℚ x) /ℚ b) np
        (gives_last r (counted Minus c (a *ℚ x)) _ ((c -ℚ a *ℚ x) /ℚ b) (on_right Minus c p (a *ℚ x) ep AreNarrow nd)
        (MatchResult-weaker r h
        (λ q k. (k.0 ∙ ap (λ z. z /ℚ b) same, subst (λ z. AreNarrow (counted Over z b)) same k.1)) (λ o k. subst (λ z. IsFirst (counted Over z b) o) same k)))
