-- The least and the greatest sum of a row, and what they say where the columns are within their limits.
use Rattle.std.proofs.Common.{◌≡◌, ◌≢◌, refl, sym, ◌∙◌, ap, subst, ℕ, Bool, true, false, cond, not, ◌&&◌, ◌||◌, List, [], ◌∷◌, Option, Some, None, IsSome, is_some, true≢false, inl, inr}
use Rattle.std.specs.Prelude.{All, is_none}
use Rattle.std.proofs.lemmas.List.Elements.{All-nil, All-cons, All-head, All-tail}
use Rattle.algebra.proofs.Ring.{x0, x1, x2, x3, ◌:+◌, ◌:-◌, ◌:*◌, minus, zero_of, unit_of}
use Rattle.rational.specs.Rational.{ℚ, zero_ℚ, ◌+ℚ◌, ◌-ℚ◌, ◌*ℚ◌, ◌≤ℚ◌, lt_q, eq_ℚ}
use Rattle.rational.specs.Sum.{sum_over}
use Rattle.rational.specs.Linear.{Term, Assignment, form_value}
use Rattle.rational.proofs.Field.{ring_by_ℚ, ring_by2_ℚ}
use Rattle.rational.proofs.Compare.{eq-Decides}
use Rattle.rational.proofs.Order.{le_by, nonneg_of_le, nonneg-mul, le_refl_ℚ, le_trans_ℚ, le_antisymm_ℚ, lt_q-true, lt_q-false, le_of_lt_ℚ, add-le_ℚ, mul-le_ℚ, trichotomy_ℚ}
use Rattle.frac128.specs.Calculation.{product_steps}
use Rattle.lp_model.specs.declared.members.Side.{Side}
use Rattle.lp_model.specs.declared.members.Side.TheVariants.{Lo, Up}
use Rattle.certs.specs.Checks.{every}
use Rattle.certs.specs.Combination.{number_or_zero}
use Rattle.certs.specs.Ended.{IsWithin}
use Rattle.certs.specs.System.{Limits, LinearSystem, limit_on}
use Rattle.reductions.specs.Limited.{opposite, taken, taken_value, is_finite, is_narrow, extreme}
use Rattle.reductions.specs.Rules.{both, is_past, side_of_row, sum_of_row, is_kept, is_forcing}
use Rattle.reductions.specs.Laws.{Meets}
use Rattle.reductions.specs.Stage.{row_in, limits_in}
use Rattle.reductions.proofs.Looks.{IsKeptOn, kept_on}
use Rattle.reductions.proofs.Points.{cancel, cancel_turned}

-- a is at most b on the lower side, and at least on the upper one
abbrev pub IsOn : Side → ℚ → ℚ → Type 0
IsOn Lo a b = a ≤ℚ b
IsOn Up a b = b ≤ℚ a

on_sum : (side : Side) (a b c d : ℚ) → IsOn side a b → IsOn side c d → IsOn side (a +ℚ c) (b +ℚ d)
on_sum Lo a b c d p q = add-le_ℚ p q
on_sum Up a b c d p q = add-le_ℚ p q

on_refl : (side : Side) (a : ℚ) → IsOn side a a
on_refl Lo a = le_refl_ℚ a
on_refl Up a = le_refl_ℚ a

-- the sum that the limits make of the terms
abbrev pub extreme_value : LinearSystem → Side → List Term → ℚ
extreme_value system side terms = sum_over (λ t. t.factor *ℚ taken_value system side t) terms

-- a known sum: its limits are there, and it is their sum
pub record IsExtreme (system : LinearSystem) (side : Side) (terms : List Term) (s : ℚ) : Type 0 where
  pub there : All (λ t. IsSome (taken system side t)) terms
  pub value : s ≡ extreme_value system side terms

every_is : {A : Type 0} (p : A → Bool) (xs : List A) → every p xs ≡ true → All (λ a. p a ≡ true) xs
every_is p [] e = All-nil (λ a. p a ≡ true)
every_is p (a ∷ xs) e = by (p a) refl e (every_is p xs)
  where
    by : (b : Bool) → p a ≡ b → b && every p xs ≡ true → (every p xs ≡ true → All (λ a. p a ≡ true) xs) → All (λ a. p a ≡ true) (a ∷ xs)
    by true q e rest = All-cons (λ a. p a ≡ true) a xs q (rest e)
    by false q e rest = absurd (true≢false (sym e))

pub extreme_is : (system : LinearSystem) (side : Side) (terms : List Term) (s : ℚ) → extreme system side terms ≡ Some s → IsExtreme system side terms s
extreme_is system side terms s e = by (is_finite system side terms) (is_narrow (product_steps (λ t. t.factor) (taken_value system side) zero_ℚ terms)) refl e
  where
    value_is : {a b : ℚ} → Some a ≡ Some b → a ≡ b
    value_is {a} e = ap (λ o. elim o [ None ↦ a | Some x ↦ x ]) e

    none_some : None ≡ Some s → ⊥
    none_some e = true≢false (ap (λ o. elim o [ None ↦ true | Some x ↦ false ]) e)

    by : (a b : Bool) → is_finite system side terms ≡ a → cond (a && b) (Some (extreme_value system side terms)) None ≡ Some s → IsExtreme system side terms s
    by true true q e = record { there = every_is (λ t. is_some (taken system side t)) terms q; value = sym (value_is e) }
    by true false q e = absurd (none_some e)
    by false b q e = absurd (none_some e)

-- ---- within the limits
module _ (system : LinearSystem) (x : Assignment) (columns : (j : ℕ) → IsWithin (limits_in system j) (x j)) where
  -- a limit that is there is kept
  number_kept : (side : Side) (o : Option ℚ) (v : ℚ) → IsSome o → IsKeptOn side o v → IsOn side (number_or_zero o) v
  number_kept Lo None v some h = absurd (true≢false (sym some))
  number_kept Lo (Some l) v some h = h
  number_kept Up None v some h = absurd (true≢false (sym some))
  number_kept Up (Some u) v some h = h

  -- one term
  term_on : (side : Side) (t : Term) → IsSome (taken system side t) → IsOn side (t.factor *ℚ taken_value system side t) (t.factor *ℚ x t.column)
  term_on side t some = by (lt_q zero_ℚ t.factor) refl side some
    where
      limits : Limits
      limits = limits_in system t.column

      at : (side : Side) → IsSome (limit_on limits side) → IsOn side (number_or_zero (limit_on limits side)) (x t.column)
      at side some = number_kept side (limit_on limits side) (x t.column) some (kept_on side limits (x t.column) (columns t.column))

      below : lt_q zero_ℚ t.factor ≡ false → {p q : ℚ} → p ≤ℚ q → (t.factor *ℚ q) ≤ℚ (t.factor *ℚ p)
      below e {p} {q} h = le_by (t.factor ∷ p ∷ q ∷ []) (x0 :* x2) (x0 :* x1) ((zero_of :- x0) :* (x2 :- x1)) (nonneg-mul (nonneg_of_le (lt_q-false zero_ℚ t.factor e)) (nonneg_of_le h)) tt

      by : (b : Bool) → lt_q zero_ℚ t.factor ≡ b → (side : Side) → IsSome (limit_on limits (cond b side (opposite side))) → IsOn side (t.factor *ℚ number_or_zero (limit_on limits (cond b side (opposite side)))) (t.factor *ℚ x t.column)
      by true e Lo some = mul-le_ℚ (le_of_lt_ℚ (lt_q-true zero_ℚ t.factor e)) (at Lo some)
      by true e Up some = mul-le_ℚ (le_of_lt_ℚ (lt_q-true zero_ℚ t.factor e)) (at Up some)
      by false e Lo some = below e (at Up some)
      by false e Up some = below e (at Lo some)

  -- the sum of all
  pub sum_on : (side : Side) (terms : List Term) → All (λ t. IsSome (taken system side t)) terms → IsOn side (extreme_value system side terms) (form_value terms x)
  sum_on side [] there = on_refl side zero_ℚ
  sum_on side (t ∷ terms) there =
      on_sum side _ _ _ _ (term_on side t (All-head (λ t. IsSome (taken system side t)) t terms there)) (sum_on side terms (All-tail (λ t. IsSome (taken system side t)) t terms there))

  -- where the form's value is that sum, each column stands at the limit that it takes
  pub all_taken : (side : Side) (terms : List Term) → All (λ t. t.factor ≢ zero_ℚ) terms → All (λ t. IsSome (taken system side t)) terms → form_value terms x ≡ extreme_value system side terms → All (λ t. x t.column ≡ taken_value system side t) terms
  all_taken side [] some there e = All-nil (λ t. x t.column ≡ taken_value system side t)
  all_taken side (t ∷ terms) some there e =
      let head = term_on side t (All-head (λ t. IsSome (taken system side t)) t terms there) in
      let rest = sum_on side terms (All-tail (λ t. IsSome (taken system side t)) t terms there) in
      let parts = split side _ _ _ _ head rest (sym e) in
      All-cons (λ t. x t.column ≡ taken_value system side t) t terms
      (factor_off t (All-head (λ t. t.factor ≢ zero_ℚ) t terms some) (sym parts.0))
      (all_taken side terms (All-tail (λ t. t.factor ≢ zero_ℚ) t terms some) (All-tail (λ t. IsSome (taken system side t)) t terms there) (sym parts.1))
    where
      -- two parts on a side with one sum are equal
      lower : (a b c d : ℚ) → a ≤ℚ b → c ≤ℚ d → a +ℚ c ≡ b +ℚ d → (a ≡ b) × (c ≡ d)
      lower a b c d p q e =
          let a_is : a ≡ (b +ℚ d) -ℚ c = ring_by_ℚ (a ∷ b ∷ c ∷ d ∷ []) x0 ((x1 :+ x3) :- x2) unit_of (x0 :+ x2) (x1 :+ x3) e tt in
          let back : b ≤ℚ a = subst (λ z. b ≤ℚ z) (sym a_is) (le_by (b ∷ c ∷ d ∷ []) x0 ((x0 :+ x2) :- x1) (x2 :- x1) (nonneg_of_le q) tt) in
          let same : a ≡ b = le_antisymm_ℚ p back in
          (same, ring_by2_ℚ (a ∷ b ∷ c ∷ d ∷ []) x2 x3 unit_of (x0 :+ x2) (x1 :+ x3) (minus unit_of) x0 x1 e same tt)

      split : (side : Side) (a b c d : ℚ) → IsOn side a b → IsOn side c d → a +ℚ c ≡ b +ℚ d → (a ≡ b) × (c ≡ d)
      split Lo a b c d p q e = lower a b c d p q e
      split Up a b c d p q e = let r = lower b a d c p q (sym e) in (sym r.0, sym r.1)

      factor_off : (t : Term) → t.factor ≢ zero_ℚ → t.factor *ℚ x t.column ≡ t.factor *ℚ taken_value system side t → x t.column ≡ taken_value system side t
      factor_off t some e = elim (trichotomy_ℚ t.factor zero_ℚ) [
        | inl neg ↦ le_antisymm_ℚ (cancel_turned neg (subst (λ z. (t.factor *ℚ taken_value system side t) ≤ℚ z) (sym e) (le_refl_ℚ _))) (cancel_turned neg (subst (λ z. z ≤ℚ (t.factor *ℚ taken_value system side t)) (sym e) (le_refl_ℚ _)))
        | inr other ↦ elim other [
          | inl nothing ↦ absurd (some nothing)
          | inr pos ↦ le_antisymm_ℚ (cancel pos (subst (λ z. z ≤ℚ (t.factor *ℚ taken_value system side t)) (sym e) (le_refl_ℚ _))) (cancel pos (subst (λ z. (t.factor *ℚ taken_value system side t) ≤ℚ z) (sym e) (le_refl_ℚ _)))
        ]
      ]

-- ---- rows against their sides
not_true : (b : Bool) → not b ≡ true → b ≡ false
not_true true e = absurd (true≢false (sym e))
not_true false e = refl

module _ (system : LinearSystem) (x : Assignment) (columns : (j : ℕ) → IsWithin (limits_in system j) (x j)) (i : ℕ) where
  abbrev terms : List Term
  terms = (row_in system i).terms

  abbrev value : ℚ
  value = form_value terms x

  -- a side that the sum keeps is kept
  pub kept_side : (side : Side) → is_kept system i side ≡ true → IsKeptOn side (side_of_row system i side) value
  kept_side side e = by (side_of_row system i side) (sum_of_row system i side) refl e
    where
      not_past : (side : Side) (number s : ℚ) → not (is_past side number s) ≡ true → IsOn side s value → IsKeptOn side (Some number) value
      not_past Lo number s e h = le_trans_ℚ (lt_q-false s number (not_true (lt_q s number) e)) h
      not_past Up number s e h = le_trans_ℚ h (lt_q-false number s (not_true (lt_q number s) e))

      none : (side : Side) → IsKeptOn side None value
      none Lo = tt
      none Up = tt

      by : (o p : Option ℚ) → sum_of_row system i side ≡ p → is_none o || both (λ number sum. not (is_past side number sum)) o p ≡ true → IsKeptOn side o value
      by None p q e = none side
      by (Some number) None q e = absurd (true≢false (sym e))
      by (Some number) (Some s) q e =
          let it = extreme_is system side terms s q in
          not_past side number s e (subst (λ z. IsOn side z value) (sym it.value) (sum_on system x columns side terms it.there))

-- ---- a forcing row
-- its side, and its sum, which are equal
pub record IsForced (system : LinearSystem) (i : ℕ) (side : Side) : Type 0 where
  pub number : ℚ
  pub side_is : side_of_row system i side ≡ Some number
  pub extreme : IsExtreme system (opposite side) (row_in system i).terms number

pub forced_is : (system : LinearSystem) (i : ℕ) (side : Side) → is_forcing system i side ≡ true → IsForced system i side
forced_is system i side e = by (side_of_row system i side) (sum_of_row system i (opposite side)) refl refl e
  where
    by : (o p : Option ℚ) → side_of_row system i side ≡ o → sum_of_row system i (opposite side) ≡ p → both eq_ℚ o p ≡ true → IsForced system i side
    by None p q r e = absurd (true≢false (sym e))
    by (Some a) None q r e = absurd (true≢false (sym e))
    by (Some a) (Some s) q r e =
        let same : a ≡ s = (eq-Decides a s).0 e in
        record { number = a; side_is = q; extreme = extreme_is system (opposite side) (row_in system i).terms a (r ∙ ap (λ z. Some z) (sym same)) }

-- then each of its columns stands at the limit that the sum takes
pub forced_columns : (system : LinearSystem) (i : ℕ) (side : Side) (x : Assignment) → IsForced system i side → Meets system x → All (λ t. t.factor ≢ zero_ℚ) (row_in system i).terms
    → All (λ t. x t.column ≡ taken_value system (opposite side) t) (row_in system i).terms
forced_columns system i side x forced m some =
    let terms = (row_in system i).terms in
    let sum = extreme_value system (opposite side) terms in
    let on : IsOn (opposite side) sum (form_value terms x) = sum_on system x m.columns (opposite side) terms forced.extreme.there in
    let kept : IsKeptOn side (Some forced.number) (form_value terms x) = subst (λ o. IsKeptOn side o (form_value terms x)) forced.side_is (kept_on side (row_in system i).limits (form_value terms x) (m.rows i)) in
    all_taken system x m.columns (opposite side) terms some forced.extreme.there (meet side on (subst (λ z. IsKeptOn side (Some z) (form_value terms x)) forced.extreme.value kept))
  where
    meet : (side : Side) {s w : ℚ} → IsOn (opposite side) s w → IsKeptOn side (Some s) w → w ≡ s
    meet Lo p q = le_antisymm_ℚ p q
    meet Up p q = le_antisymm_ℚ q p

-- where each column stands there the form's value is the sum
pub taken_sum : (system : LinearSystem) (side : Side) (x : Assignment) (terms : List Term) → All (λ t. x t.column ≡ taken_value system side t) terms → form_value terms x ≡ extreme_value system side terms
taken_sum system side x [] h = refl
taken_sum system side x (t ∷ terms) h =
    ap (λ z. t.factor *ℚ z +ℚ form_value terms x) (All-head (λ t. x t.column ≡ taken_value system side t) t terms h)
    ∙ ap (λ z. t.factor *ℚ taken_value system side t +ℚ z) (taken_sum system side x terms (All-tail (λ t. x t.column ≡ taken_value system side t) t terms h))
