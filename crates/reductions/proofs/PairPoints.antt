-- What meets a system before and after an equation of two columns is used for one of them.
use Rattle.std.proofs.Common.{◌≡◌, ◌≢◌, refl, sym, ◌∙◌, ap, subst, ℕ, ◌<◌, get_or, Bool, true, false, cond, not, ◌==◌, List, [], ◌∷◌, length, Option, Some, None, inl, inr, eq-eqb, ne_eqb}
use Rattle.std.specs.Prelude.{IfSome, slice_set}
use Rattle.std.specs.Option.{option_map}
use Rattle.std.proofs.lemmas.Bool.{cases_eq}
use Rattle.algebra.proofs.Ring.{x0, x1, x2, x3, x4, x5, x6, x7, x8, ◌:+◌, ◌:-◌, ◌:*◌, minus, zero_of, unit_of}
use Rattle.rational.specs.Rational.{ℚ, zero_ℚ, ◌+ℚ◌, ◌-ℚ◌, ◌*ℚ◌, ◌/ℚ◌, ◌≤ℚ◌, ◌<ℚ◌, inv_ℚ, lt_q, eq_ℚ}
use Rattle.rational.specs.Linear.{Term, Assignment, form_value, factor_of}
use Rattle.rational.proofs.Field.{ring_ℚ, ring_by_ℚ, ring_by2_ℚ, mul-inv_ℚ, div_from_ℚ}
use Rattle.rational.proofs.Compare.{eq-Decides}
use Rattle.rational.proofs.Forms.{form_value-ext}
use Rattle.rational.proofs.Order.{le_by, nonneg_of_le, nonneg-mul, lt_q-true, le_of_lt_ℚ, Nonneg}
use Rattle.lp_model.specs.declared.members.Side.{Side}
use Rattle.lp_model.specs.declared.members.Side.TheVariants.{Lo, Up}
use Rattle.certs.specs.Ended.{IsWithin}
use Rattle.certs.specs.System.{Limits, SystemRow, LinearSystem, no_limits, limit_on}
use Rattle.reductions.specs.declared.steps.Doubleton.{Doubleton as Pair}
use Rattle.reductions.specs.Limited.{opposite, turned, tightened_by, map_limits}
use Rattle.reductions.specs.Reduction.{without_column, with_factor, pair_terms, pair_row, pair_system}
use Rattle.reductions.specs.Rules.{pair_limit, single_limit, fixed_value}
use Rattle.reductions.specs.Back.{with_value, pair_value}
use Rattle.reductions.specs.Laws.{Meets}
use Rattle.reductions.specs.Stage.{row_in, limits_in, without_row}
use Rattle.reductions.proofs.Looks.{row_mapped, row_stays, limits_set, limits_stay, limits_at_set, within_none, IsKeptOn, kept_on, shifted, shifted_back, tightened_kept, kept_old, kept_new}
use Rattle.reductions.proofs.Terms.{value_with, value_without, value_changed}
use Rattle.reductions.proofs.Points.{IsRowKept, empty_kept, drop_row, cancel, cancel_turned, sign_is, over_back, single_to, single_from, both_sides, equal_within, equal_only}

-- ---- forms
-- taking one column out leaves the factor of another
pub factor_elsewhere : (j k : ℕ) (terms : List Term) → k ≢ j → factor_of (without_column j terms) k ≡ factor_of terms k
factor_elsewhere j k [] apart = refl
factor_elsewhere j k (t ∷ terms) apart =
    elim (cases_eq t.column j) [
      | inl e ↦
          (subst (λ (b : Bool). factor_of (cond (not b) (t ∷ without_column j terms) (without_column j terms)) k ≡ cond (t.column == k) t.factor zero_ℚ +ℚ factor_of terms k) (sym (eq-eqb t.column j e))
          (factor_elsewhere j k terms apart
          ∙ ring_ℚ (factor_of terms k ∷ []) x0 (zero_of :+ x0) tt
          ∙ ap (λ (b : Bool). cond b t.factor zero_ℚ +ℚ factor_of terms k) (sym (ne_eqb t.column k (λ q. apart (sym q ∙ e))))))
      | inr e ↦
          (subst (λ (b : Bool). factor_of (cond (not b) (t ∷ without_column j terms) (without_column j terms)) k ≡ cond (t.column == k) t.factor zero_ℚ +ℚ factor_of terms k) (sym (ne_eqb t.column j e))
          (ap (λ z. cond (t.column == k) t.factor zero_ℚ +ℚ z) (factor_elsewhere j k terms apart)))
    ]

module _ (d : Pair) (x : Assignment) (apart : d.x ≢ d.y) (some_b : d.b ≢ zero_ℚ) where
  -- the values, with that of y by the equation
  abbrev whole : Assignment
  whole = with_value d.y (pair_value d x) x

  -- the equation
  y_is : d.b *ℚ pair_value d x ≡ d.c -ℚ d.a *ℚ x d.x
  y_is = over_back d.b (d.c -ℚ d.a *ℚ x d.x) some_b

  -- how often the equation is taken from a form
  abbrev often : List Term → ℚ
  often terms = factor_of terms d.y /ℚ d.b

  -- a form's value is that of what is left of it, and so often c
  pub pair_value_of : (terms : List Term) → form_value terms whole ≡ form_value (pair_terms d terms) x +ℚ often terms *ℚ d.c
  pair_value_of terms = by (eq_ℚ (factor_of terms d.y) zero_ℚ) refl
    where
      g : ℚ
      g = factor_of terms d.y

      others : List Term
      others = without_column d.y terms

      by : (z : Bool) → eq_ℚ g zero_ℚ ≡ z → form_value terms whole ≡ form_value (cond z terms (with_factor d.x (factor_of terms d.x -ℚ (g /ℚ d.b) *ℚ d.a) others)) x +ℚ (g /ℚ d.b) *ℚ d.c
      by true e =
          let none : g ≡ zero_ℚ = (eq-Decides g zero_ℚ).0 e in
          value_with d.y (pair_value d x) x terms
          ∙ ring_by_ℚ (form_value others x ∷ g ∷ pair_value d x ∷ x d.y ∷ inv_ℚ d.b ∷ d.c ∷ []) (x0 :+ x1 :* x2) ((x0 :+ x1 :* x3) :+ (x1 :* x4) :* x5) (x2 :- x3 :- x4 :* x5) x1 zero_of none tt
          ∙ ap (λ z. z +ℚ (g /ℚ d.b) *ℚ d.c) (sym (value_without d.y x terms))
      by false e =
          let rest = form_value (without_column d.x others) x in
          let h = factor_of terms d.x in
          value_with d.y (pair_value d x) x terms
          ∙ ap (λ z. z +ℚ g *ℚ pair_value d x) (value_without d.x x others ∙ ap (λ z. rest +ℚ z *ℚ x d.x) (factor_elsewhere d.y d.x terms apart))
          ∙ ring_by2_ℚ (rest ∷ h ∷ x d.x ∷ g ∷ pair_value d x ∷ inv_ℚ d.b ∷ d.b ∷ d.a ∷ d.c ∷ [])
          ((x0 :+ x1 :* x2) :+ x3 :* x4) ((x0 :+ (x1 :- (x3 :* x5) :* x7) :* x2) :+ (x3 :* x5) :* x8)
          (x3 :* x5) (x6 :* x4) (x8 :- x7 :* x2)
          (minus (x3 :* x4)) (x6 :* x5) unit_of y_is (mul-inv_ℚ d.b some_b) tt
          ∙ ap (λ z. z +ℚ (g /ℚ d.b) *ℚ d.c) (sym (value_changed d.x (h -ℚ (g /ℚ d.b) *ℚ d.a) x others))

  -- where y has no factor, nothing is taken
  unchanged : (terms : List Term) → eq_ℚ (factor_of terms d.y) zero_ℚ ≡ true → form_value terms whole ≡ form_value terms x
  unchanged terms e =
      let none : factor_of terms d.y ≡ zero_ℚ = (eq-Decides (factor_of terms d.y) zero_ℚ).0 e in
      value_with d.y (pair_value d x) x terms
      ∙ ring_by_ℚ (form_value (without_column d.y terms) x ∷ factor_of terms d.y ∷ pair_value d x ∷ x d.y ∷ []) (x0 :+ x1 :* x2) (x0 :+ x1 :* x3) (x2 :- x3) x1 zero_of none tt
      ∙ sym (value_without d.y x terms)

  -- a row within its limits, before and after
  pub pair_row_point : (r : SystemRow) → IsRowKept (pair_row d r) x → IsRowKept r whole
  pair_row_point r h = by (eq_ℚ (factor_of r.terms d.y) zero_ℚ) refl h
    where
      by : (z : Bool) → eq_ℚ (factor_of r.terms d.y) zero_ℚ ≡ z
          → IsRowKept (cond z r (record { terms = pair_terms d r.terms; limits = map_limits (λ s. s -ℚ (factor_of r.terms d.y /ℚ d.b) *ℚ d.c) r.limits })) x → IsRowKept r whole
      by true e h = subst (IsWithin r.limits) (sym (unchanged r.terms e)) h
      by false e h = subst (IsWithin r.limits) (sym (pair_value_of r.terms)) (shifted r.limits (often r.terms *ℚ d.c) (form_value (pair_terms d r.terms) x) h)

  pub pair_row_keeps : (r : SystemRow) → IsRowKept r whole → IsRowKept (pair_row d r) x
  pair_row_keeps r h = by (eq_ℚ (factor_of r.terms d.y) zero_ℚ) refl
    where
      by : (z : Bool) → eq_ℚ (factor_of r.terms d.y) zero_ℚ ≡ z
          → IsRowKept (cond z r (record { terms = pair_terms d r.terms; limits = map_limits (λ s. s -ℚ (factor_of r.terms d.y /ℚ d.b) *ℚ d.c) r.limits })) x
      by true e = subst (IsWithin r.limits) (unchanged r.terms e) h
      by false e = shifted_back r.limits (often r.terms *ℚ d.c) (form_value (pair_terms d r.terms) x) (subst (IsWithin r.limits) (pair_value_of r.terms) h)

-- ---- limits
-- what the limit of y on a side leaves of the equation for the part of x
abbrev left_limit : Limits → ℚ → ℚ → Side → Option ℚ
left_limit of_y b c side = option_map (λ l. c -ℚ b *ℚ l) (limit_on of_y (opposite (turned b side)))

-- both
abbrev left_limits : Limits → ℚ → ℚ → Limits
left_limits of_y b c = record { lower = left_limit of_y b c Lo; upper = left_limit of_y b c Up }

-- the limit of x is the quotient of that
pair_is_single : (of_y : Limits) (a b c : ℚ) (side : Side) → pair_limit of_y a b c side ≡ single_limit (left_limits of_y b c) a side
pair_is_single of_y a b c side = by (turned a side)
  where
    one : (o : Option ℚ) → option_map (λ l. (c -ℚ b *ℚ l) /ℚ a) o ≡ option_map (λ s. s /ℚ a) (option_map (λ l. c -ℚ b *ℚ l) o)
    one None = refl
    one (Some l) = refl

    by : (turn : Side) → option_map (λ l. (c -ℚ b *ℚ l) /ℚ a) (limit_on of_y (opposite (turned b turn))) ≡ option_map (λ s. s /ℚ a) (limit_on (left_limits of_y b c) turn)
    by Lo = one (limit_on of_y (opposite (turned b Lo)))
    by Up = one (limit_on of_y (opposite (turned b Up)))

module _ (b c : ℚ) (some_b : b ≢ zero_ℚ) (of_y : Limits) (v : ℚ) where
  -- by the order of v and a limit l of y
  less : zero_ℚ <ℚ b → {p q : ℚ} → p ≤ℚ q → (c -ℚ b *ℚ q) ≤ℚ (c -ℚ b *ℚ p)
  less pos {p} {q} h = le_by (b ∷ c ∷ p ∷ q ∷ []) (x1 :- x0 :* x3) (x1 :- x0 :* x2) (x0 :* (x3 :- x2)) (nonneg-mul (subst Nonneg (ring_ℚ (b ∷ []) (x0 :- zero_of) x0 tt) (nonneg_of_le (le_of_lt_ℚ pos))) (nonneg_of_le h)) tt

  more : b <ℚ zero_ℚ → {p q : ℚ} → p ≤ℚ q → (c -ℚ b *ℚ p) ≤ℚ (c -ℚ b *ℚ q)
  more neg {p} {q} h = le_by (b ∷ c ∷ p ∷ q ∷ []) (x1 :- x0 :* x2) (x1 :- x0 :* x3) ((zero_of :- x0) :* (x3 :- x2)) (nonneg-mul (nonneg_of_le (le_of_lt_ℚ neg)) (nonneg_of_le h)) tt

  less_back : zero_ℚ <ℚ b → {p q : ℚ} → (c -ℚ b *ℚ q) ≤ℚ (c -ℚ b *ℚ p) → p ≤ℚ q
  less_back pos {p} {q} h = cancel pos (le_by (b ∷ c ∷ p ∷ q ∷ []) (x0 :* x2) (x0 :* x3) ((x1 :- x0 :* x2) :- (x1 :- x0 :* x3)) (nonneg_of_le h) tt)

  more_back : b <ℚ zero_ℚ → {p q : ℚ} → (c -ℚ b *ℚ p) ≤ℚ (c -ℚ b *ℚ q) → p ≤ℚ q
  more_back neg {p} {q} h = cancel_turned neg (le_by (b ∷ c ∷ p ∷ q ∷ []) (x0 :* x3) (x0 :* x2) ((x1 :- x0 :* x3) :- (x1 :- x0 :* x2)) (nonneg_of_le h) tt)

  into : (P Q : ℚ → Type 0) (o : Option ℚ) → ((l : ℚ) → P l → Q (c -ℚ b *ℚ l)) → IfSome o P → IfSome (option_map (λ l. c -ℚ b *ℚ l) o) Q
  into P Q None f h = tt
  into P Q (Some l) f h = f l h

  out : (P Q : ℚ → Type 0) (o : Option ℚ) → ((l : ℚ) → Q (c -ℚ b *ℚ l) → P l) → IfSome (option_map (λ l. c -ℚ b *ℚ l) o) Q → IfSome o P
  out P Q None f h = tt
  out P Q (Some l) f h = f l h

  -- a value of y within its limit leaves what is within the limit that this leaves
  left_to : (side : Side) → IsKeptOn (opposite (turned b side)) (limit_on of_y (opposite (turned b side))) v → IsKeptOn side (left_limit of_y b c side) (c -ℚ b *ℚ v)
  left_to side h = by (lt_q zero_ℚ b) refl side h
    where
      by : (z : Bool) → lt_q zero_ℚ b ≡ z → (side : Side) → IsKeptOn (opposite (cond z side (opposite side))) (limit_on of_y (opposite (cond z side (opposite side)))) v → IsKeptOn side (option_map (λ l. c -ℚ b *ℚ l) (limit_on of_y (opposite (cond z side (opposite side))))) (c -ℚ b *ℚ v)
      by true e Lo h = into (λ l. v ≤ℚ l) (λ q. q ≤ℚ (c -ℚ b *ℚ v)) of_y.upper (λ l g. less (lt_q-true zero_ℚ b e) g) h
      by true e Up h = into (λ l. l ≤ℚ v) (λ q. (c -ℚ b *ℚ v) ≤ℚ q) of_y.lower (λ l g. less (lt_q-true zero_ℚ b e) g) h
      by false e Lo h = into (λ l. l ≤ℚ v) (λ q. q ≤ℚ (c -ℚ b *ℚ v)) of_y.lower (λ l g. more (sign_is b some_b e) g) h
      by false e Up h = into (λ l. v ≤ℚ l) (λ q. (c -ℚ b *ℚ v) ≤ℚ q) of_y.upper (λ l g. more (sign_is b some_b e) g) h

  left_from : (side : Side) → IsKeptOn side (left_limit of_y b c side) (c -ℚ b *ℚ v) → IsKeptOn (opposite (turned b side)) (limit_on of_y (opposite (turned b side))) v
  left_from side h = by (lt_q zero_ℚ b) refl side h
    where
      by : (z : Bool) → lt_q zero_ℚ b ≡ z → (side : Side) → IsKeptOn side (option_map (λ l. c -ℚ b *ℚ l) (limit_on of_y (opposite (cond z side (opposite side))))) (c -ℚ b *ℚ v) → IsKeptOn (opposite (cond z side (opposite side))) (limit_on of_y (opposite (cond z side (opposite side)))) v
      by true e Lo h = out (λ l. v ≤ℚ l) (λ q. q ≤ℚ (c -ℚ b *ℚ v)) of_y.upper (λ l g. less_back (lt_q-true zero_ℚ b e) g) h
      by true e Up h = out (λ l. l ≤ℚ v) (λ q. (c -ℚ b *ℚ v) ≤ℚ q) of_y.lower (λ l g. less_back (lt_q-true zero_ℚ b e) g) h
      by false e Lo h = out (λ l. l ≤ℚ v) (λ q. q ≤ℚ (c -ℚ b *ℚ v)) of_y.lower (λ l g. more_back (sign_is b some_b e) g) h
      by false e Up h = out (λ l. v ≤ℚ l) (λ q. (c -ℚ b *ℚ v) ≤ℚ q) of_y.upper (λ l g. more_back (sign_is b some_b e) g) h

-- ---- the step
module _ (system : LinearSystem) (d : Pair) (x : Assignment) (apart : d.x ≢ d.y) (some_a : d.a ≢ zero_ℚ) (some_b : d.b ≢ zero_ℚ)
    (terms : (row_in system d.row).terms ≡ record { column = d.x; factor = d.a } ∷ record { column = d.y; factor = d.b } ∷ [])
    (equal : fixed_value (row_in system d.row).limits ≡ Some d.c) where
  abbrev all : Assignment
  all = with_value d.y (pair_value d x) x

  abbrev of_x : Limits
  of_x = limits_in system d.x

  abbrev of_y : Limits
  of_y = limits_in system d.y

  abbrev tight : Limits
  tight = tightened_by (pair_limit of_y d.a d.b d.c) of_x

  -- the equation's value
  equation_value : (z : Assignment) → form_value (row_in system d.row).terms z ≡ d.a *ℚ z d.x +ℚ d.b *ℚ z d.y
  equation_value z = ap (λ t. form_value t z) terms ∙ ring_ℚ ((d.a *ℚ z d.x) ∷ (d.b *ℚ z d.y) ∷ []) (x0 :+ (x1 :+ zero_of)) (x0 :+ x1) tt

  all_y : all d.y ≡ pair_value d x
  all_y = ap (λ (z : Bool). cond z (pair_value d x) (x d.y)) (eq-eqb d.y d.y refl)

  all_other : (k : ℕ) → k ≢ d.y → all k ≡ x k
  all_other k e = ap (λ (z : Bool). cond z (pair_value d x) (x k)) (ne_eqb k d.y e)

  -- what is left of the equation for x
  rest_is : d.a *ℚ x d.x ≡ d.c -ℚ d.b *ℚ pair_value d x
  rest_is = ring_by_ℚ ((d.a *ℚ x d.x) ∷ d.c ∷ (d.b *ℚ pair_value d x) ∷ []) x0 (x1 :- x2) unit_of x2 (x1 :- x0) (over_back d.b (d.c -ℚ d.a *ℚ x d.x) some_b) tt

  -- the limits of y, from those of x that they made
  y_within : ((side : Side) → IsKeptOn side (pair_limit of_y d.a d.b d.c side) (x d.x)) → IsWithin of_y (pair_value d x)
  y_within made =
      let v = pair_value d x in
      let lefts = left_limits of_y d.b d.c in
      let part : (side : Side) → IsKeptOn (turned d.a side) (limit_on lefts (turned d.a side)) (d.a *ℚ x d.x) = λ side.
      single_from d.a some_a lefts (x d.x) side (subst (λ o. IsKeptOn side o (x d.x)) (pair_is_single of_y d.a d.b d.c side) (made side)) in
      let parts = both_sides d.a (λ side. IsKeptOn side (limit_on lefts side) (d.a *ℚ x d.x)) (part Lo) (part Up) in
      let ends = both_sides d.b (λ side. IsKeptOn (opposite side) (limit_on of_y (opposite side)) v)
      (left_from d.b d.c some_b of_y v Lo (subst (IsKeptOn Lo (left_limit of_y d.b d.c Lo)) rest_is parts.0))
      (left_from d.b d.c some_b of_y v Up (subst (IsKeptOn Up (left_limit of_y d.b d.c Up)) rest_is parts.1)) in
      record { lower = ends.1; upper = ends.0 }

  -- and the other way round
  x_made : IsWithin of_y (pair_value d x) → (side : Side) → IsKeptOn side (pair_limit of_y d.a d.b d.c side) (x d.x)
  x_made within side =
      let v = pair_value d x in
      let lefts = left_limits of_y d.b d.c in
      let part : (turn : Side) → IsKeptOn turn (limit_on lefts turn) (d.a *ℚ x d.x) = λ turn. elim turn as (λ k. IsKeptOn k (limit_on lefts k) (d.a *ℚ x d.x)) [
        | Lo ↦ subst (IsKeptOn Lo (left_limit of_y d.b d.c Lo)) (sym rest_is) (left_to d.b d.c some_b of_y v Lo (kept_on (opposite (turned d.b Lo)) of_y v within))
        | Up ↦ subst (IsKeptOn Up (left_limit of_y d.b d.c Up)) (sym rest_is) (left_to d.b d.c some_b of_y v Up (kept_on (opposite (turned d.b Up)) of_y v within))
      ] in
      subst (λ o. IsKeptOn side o (x d.x)) (sym (pair_is_single of_y d.a d.b d.c side)) (single_to d.a some_a lefts (x d.x) side (part (turned d.a side)))

  pub pair_point : d.x < length system.columns → Meets (pair_system d system) x → Meets system all
  pair_point known m =
      let at_x : limits_in (pair_system d system) d.x ≡ tight = limits_stay (slice_set system.columns d.x tight) d.y d.x no_limits apart ∙ limits_set system.columns d.x tight known in
      let here : IsWithin tight (x d.x) = subst (λ l. IsWithin l (x d.x)) at_x (m.columns d.x) in
      let made : (side : Side) → IsKeptOn side (pair_limit of_y d.a d.b d.c side) (x d.x) = λ side. elim side as (λ k. IsKeptOn k (pair_limit of_y d.a d.b d.c k) (x d.x)) [
        | Lo ↦ kept_new Lo of_x.lower (pair_limit of_y d.a d.b d.c Lo) (x d.x) here.lower
        | Up ↦ kept_new Up of_x.upper (pair_limit of_y d.a d.b d.c Up) (x d.x) here.upper
      ] in
      record {
        columns = λ k. elim (cases_eq k d.y) [
          | inl e ↦ subst (λ k. IsWithin (limits_in system k) (all k)) (sym e) (subst (IsWithin of_y) (sym all_y) (y_within made))
          | inr e ↦ subst (IsWithin (limits_in system k)) (sym (all_other k e)) (elim (cases_eq k d.x) [
            | inl q ↦ subst (λ k. IsWithin (limits_in system k) (x k)) (sym q) (record { lower = kept_old Lo of_x.lower (pair_limit of_y d.a d.b d.c Lo) (x d.x) here.lower; upper = kept_old Up of_x.upper (pair_limit of_y d.a d.b d.c Up) (x d.x) here.upper })
            | inr q ↦ subst (λ l. IsWithin l (x k)) (limits_stay (slice_set system.columns d.x tight) d.y k no_limits e ∙ limits_stay system.columns d.x k tight q) (m.columns k)
          ])
        ];
        rows = λ i. elim (cases_eq i d.row) [
          | inl e ↦
              (subst (λ i. IsRowKept (row_in system i) all) (sym e)
              (subst (IsWithin (row_in system d.row).limits)
              (sym (equation_value all ∙ ap (λ z. d.a *ℚ all d.x +ℚ d.b *ℚ z) all_y ∙ ap (λ z. d.a *ℚ z +ℚ d.b *ℚ pair_value d x) (all_other d.x apart)
              ∙ ring_by_ℚ ((d.a *ℚ x d.x) ∷ d.c ∷ (d.b *ℚ pair_value d x) ∷ []) (x0 :+ x2) x1 unit_of x0 (x1 :- x2) rest_is tt))
              (equal_within (row_in system d.row).limits d.c equal)))
          | inr e ↦
              (subst (λ r. IsRowKept r all) (row_stays system d.row i e)
              (row_mapped (λ r s. IsRowKept s x → IsRowKept r all) (pair_row d) (without_row d.row system).rows i (pair_row_point d x apart some_b) (λ h. empty_kept all) (m.rows i)))
        ];
      }

  pub pair_same : Meets system x → (k : ℕ) → all k ≡ x k
  pair_same m k =
      let value : d.a *ℚ x d.x +ℚ d.b *ℚ x d.y ≡ d.c = sym (equation_value x) ∙ equal_only (row_in system d.row).limits d.c (form_value (row_in system d.row).terms x) equal (m.rows d.row) in
      elim (cases_eq k d.y) [
        | inl e ↦
            (ap all e ∙ all_y
            ∙ sym (div_from_ℚ (d.c -ℚ d.a *ℚ x d.x) d.b (x d.y) some_b (ring_by_ℚ ((d.a *ℚ x d.x) ∷ d.b ∷ x d.y ∷ d.c ∷ []) (x2 :* x1) (x3 :- x0) unit_of (x0 :+ x1 :* x2) x3 value tt))
            ∙ ap x (sym e))
        | inr e ↦ all_other k e
      ]

  pub pair_keeps : Meets system x → Meets (pair_system d system) x
  pair_keeps m =
      let y_is : x d.y ≡ pair_value d x = sym (pair_same m d.y) ∙ all_y in
      let made = x_made (subst (IsWithin of_y) y_is (m.columns d.y)) in
      let in_tight : IsWithin tight (x d.x) = record {
        lower = tightened_kept Lo of_x.lower (pair_limit of_y d.a d.b d.c Lo) (x d.x) (m.columns d.x).lower (made Lo);
        upper = tightened_kept Up of_x.upper (pair_limit of_y d.a d.b d.c Up) (x d.x) (m.columns d.x).upper (made Up);
      } in
      record {
        columns = λ k. elim (cases_eq k d.y) [
          | inl e ↦ subst (λ k. IsWithin (limits_in (pair_system d system) k) (x k)) (sym e) (limits_at_set (λ l. IsWithin l (x d.y)) (slice_set system.columns d.x tight) d.y no_limits (within_none (x d.y)) (within_none (x d.y)))
          | inr e ↦ subst (λ l. IsWithin l (x k)) (sym (limits_stay (slice_set system.columns d.x tight) d.y k no_limits e)) (elim (cases_eq k d.x) [
            | inl q ↦ subst (λ k. IsWithin (get_or (slice_set system.columns d.x tight) k no_limits) (x k)) (sym q) (limits_at_set (λ l. IsWithin l (x d.x)) system.columns d.x tight in_tight (within_none (x d.x)))
            | inr q ↦ subst (λ l. IsWithin l (x k)) (sym (limits_stay system.columns d.x k tight q)) (m.columns k)
          ])
        ];
        rows = λ i. row_mapped (λ r s. IsRowKept r x → IsRowKept s x) (pair_row d) (without_row d.row system).rows i
            (λ r h. pair_row_keeps d x apart some_b r (subst (IsWithin r.limits) (sym (form_value-ext r.terms all x (pair_same m))) h)) (λ h. h) ((drop_row system d.row x m).rows i);
      }
