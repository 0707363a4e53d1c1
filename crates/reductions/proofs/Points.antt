-- What meets a system before and after a step, where a row or the limits of a column change.
use Rattle.std.proofs.Common.{◌≡◌, ◌≢◌, refl, sym, ◌∙◌, ap, subst, ℕ, ◌<◌, get_or, Bool, true, false, cond, [], ◌∷◌, length, Option, Some, None, inl, inr, true≢false, eq-eqb, ne_eqb}
use Rattle.std.specs.Prelude.{IfSome, slice_set}
use Rattle.std.specs.Option.{option_map, option_and_then}
use Rattle.std.proofs.lemmas.Bool.{cases_eq}
use Rattle.algebra.proofs.Ring.{x0, x1, x2, ◌:+◌, ◌:-◌, ◌:*◌, minus, zero_of, unit_of}
use Rattle.rational.specs.Rational.{ℚ, zero_ℚ, ◌+ℚ◌, ◌-ℚ◌, ◌*ℚ◌, ◌/ℚ◌, ◌≤ℚ◌, ◌<ℚ◌, inv_ℚ, neg_ℚ, lt_q, eq_ℚ}
use Rattle.rational.specs.Linear.{Term, Assignment, form_value, factor_of}
use Rattle.rational.proofs.Field.{ring_ℚ, ring_by_ℚ, mul-inv_ℚ}
use Rattle.rational.proofs.Compare.{eq-Decides}
use Rattle.rational.proofs.Order.{le_by, nonneg_of_le, nonneg-mul, le_refl_ℚ, lt_q-true, lt_q-false, le_of_lt_ℚ, inv-pos_ℚ, mul-le_ℚ, lt_of_le-ne_ℚ, le_antisymm_ℚ, lt_irrefl_ℚ, lt_by, positive_of_lt}
use Rattle.lp_model.specs.declared.members.Side.{Side}
use Rattle.lp_model.specs.declared.members.Side.TheVariants.{Lo, Up}
use Rattle.certs.specs.Ended.{IsWithin}
use Rattle.certs.specs.System.{Limits, SystemRow, LinearSystem, no_limits, empty_system_row, limit_on}
use Rattle.reductions.specs.Limited.{opposite, turned, tightened_by, map_limits}
use Rattle.reductions.specs.Reduction.{without_column, fixed_row, fixed_system}
use Rattle.reductions.specs.Rules.{fixed_value, single_limit}
use Rattle.reductions.specs.Back.{with_value}
use Rattle.reductions.specs.Laws.{Meets}
use Rattle.reductions.specs.Stage.{row_in, limits_in, without_row, with_limits}
use Rattle.reductions.proofs.Looks.{row_mapped, row_gone, row_stays, limits_set, limits_stay, limits_at_set, within_none, IsKeptOn, kept_on, shifted, shifted_back, tightened_kept, kept_old, kept_new}
use Rattle.reductions.proofs.Terms.{value_with, value_without}

-- a row keeps its limits
abbrev pub IsRowKept : SystemRow → Assignment → Type 0
IsRowKept r x = IsWithin r.limits (form_value r.terms x)

-- one without terms and limits does
pub empty_kept : (x : Assignment) → IsRowKept empty_system_row x
empty_kept x = within_none (form_value [] x)

-- ---- a row less
pub drop_row : (system : LinearSystem) (i : ℕ) (x : Assignment) → Meets system x → Meets (without_row i system) x
drop_row system i x m = record {
  columns = m.columns;
  rows = λ k. elim (cases_eq k i) [
    | inl e ↦ subst (λ r. IsRowKept r x) (sym (ap (row_in (without_row i system)) e ∙ row_gone system i)) (empty_kept x)
    | inr e ↦ subst (λ r. IsRowKept r x) (sym (row_stays system i k e)) (m.rows k)
  ];
}

-- a row more
pub add_row : (system : LinearSystem) (i : ℕ) (x : Assignment) → Meets (without_row i system) x → IsRowKept (row_in system i) x → Meets system x
add_row system i x m kept = record {
  columns = m.columns;
  rows = λ k. elim (cases_eq k i) [
    | inl e ↦ subst (λ k. IsRowKept (row_in system k) x) (sym e) kept
    | inr e ↦ subst (λ r. IsRowKept r x) (row_stays system i k e) (m.rows k)
  ];
}

-- ---- other limits of a column
pub put_limits : (system : LinearSystem) (j : ℕ) (limits : Limits) (x : Assignment) → Meets system x → IsWithin limits (x j) → Meets (with_limits j limits system) x
put_limits system j limits x m kept = record {
  columns = λ k. elim (cases_eq k j) [
    | inl e ↦ subst (λ k. IsWithin (limits_in (with_limits j limits system) k) (x k)) (sym e) (limits_at_set (λ l. IsWithin l (x j)) system.columns j limits kept (within_none (x j)))
    | inr e ↦ subst (λ l. IsWithin l (x k)) (sym (limits_stay system.columns j k limits e)) (m.columns k)
  ];
  rows = m.rows;
}

pub take_limits : (system : LinearSystem) (j : ℕ) (limits : Limits) (x : Assignment) → Meets (with_limits j limits system) x → IsWithin (limits_in system j) (x j) → Meets system x
take_limits system j limits x m kept = record {
  columns = λ k. elim (cases_eq k j) [
    | inl e ↦ subst (λ k. IsWithin (limits_in system k) (x k)) (sym e) kept
    | inr e ↦ subst (λ l. IsWithin l (x k)) (limits_stay system.columns j k limits e) (m.columns k)
  ];
  rows = m.rows;
}

-- ---- equal limits
-- the limits are both this value
pub equal_limits : (limits : Limits) (v : ℚ) → fixed_value limits ≡ Some v → (limits.lower ≡ Some v) × (limits.upper ≡ Some v)
equal_limits limits v e = by limits.lower limits.upper e
  where
    none_some : None ≡ Some v → ⊥
    none_some e = true≢false (ap (λ o. elim o [ None ↦ true | Some x ↦ false ]) e)

    value_is : {a b : ℚ} → Some a ≡ Some b → a ≡ b
    value_is {a} e = ap (λ o. elim o [ None ↦ a | Some x ↦ x ]) e

    both : (l u : ℚ) (b : Bool) → eq_ℚ l u ≡ b → cond b (Some l) None ≡ Some v → (Some l ≡ Some v) × (Some u ≡ Some v)
    both l u true q e = (e, ap (λ z. Some z) (sym ((eq-Decides l u).0 q)) ∙ e)
    both l u false q e = absurd (none_some e)

    by : (lower upper : Option ℚ) → option_and_then (λ l. option_and_then (λ u. cond (eq_ℚ l u) (Some l) None) upper) lower ≡ Some v → (lower ≡ Some v) × (upper ≡ Some v)
    by None upper e = absurd (none_some e)
    by (Some l) None e = absurd (none_some e)
    by (Some l) (Some u) e = both l u (eq_ℚ l u) refl e

-- they keep that value
pub equal_within : (limits : Limits) (v : ℚ) → fixed_value limits ≡ Some v → IsWithin limits v
equal_within limits v e =
    let both = equal_limits limits v e in
    record {
      lower = subst (λ o. IfSome o (λ l. l ≤ℚ v)) (sym both.0) (le_refl_ℚ v);
      upper = subst (λ o. IfSome o (λ u. v ≤ℚ u)) (sym both.1) (le_refl_ℚ v);
    }

-- and no other
pub equal_only : (limits : Limits) (v w : ℚ) → fixed_value limits ≡ Some v → IsWithin limits w → w ≡ v
equal_only limits v w e h =
    let both = equal_limits limits v e in
    let low : v ≤ℚ w = subst (λ o. IfSome o (λ l. l ≤ℚ w)) both.0 h.lower in
    let high : w ≤ℚ v = subst (λ o. IfSome o (λ u. w ≤ℚ u)) both.1 h.upper in
    le_antisymm_ℚ high low

-- ---- a column with a value
module _ (j : ℕ) (v : ℚ) (x : Assignment) where
  -- the row's value where the column has it
  fixed_row_value : (r : SystemRow) → form_value r.terms (with_value j v x) ≡ form_value (fixed_row j v r).terms x +ℚ factor_of r.terms j *ℚ v
  fixed_row_value r = value_with j v x r.terms ∙ by (eq_ℚ (factor_of r.terms j) zero_ℚ) refl
    where
      by : (b : Bool) → eq_ℚ (factor_of r.terms j) zero_ℚ ≡ b
          → form_value (without_column j r.terms) x +ℚ factor_of r.terms j *ℚ v
          ≡ form_value (cond b r (record { terms = without_column j r.terms; limits = map_limits (λ s. s -ℚ factor_of r.terms j *ℚ v) r.limits })).terms x +ℚ factor_of r.terms j *ℚ v
      by true e =
          ap (λ z. z +ℚ factor_of r.terms j *ℚ v)
          (sym (value_without j x r.terms
          ∙ ap (λ z. form_value (without_column j r.terms) x +ℚ z *ℚ x j) ((eq-Decides (factor_of r.terms j) zero_ℚ).0 e)
          ∙ ring_ℚ (form_value (without_column j r.terms) x ∷ x j ∷ []) (x0 :+ zero_of :* x1) x0 tt))
      by false e = refl

  -- within its limits where what is left of it is within those that are left
  fixed_row_point : (r : SystemRow) → IsRowKept (fixed_row j v r) x → IsRowKept r (with_value j v x)
  fixed_row_point r h = subst (IsWithin r.limits) (sym (fixed_row_value r)) (by (eq_ℚ (factor_of r.terms j) zero_ℚ) refl h)
    where
      w : ℚ
      w = form_value (fixed_row j v r).terms x

      by : (b : Bool) → eq_ℚ (factor_of r.terms j) zero_ℚ ≡ b
          → IsWithin (cond b r (record { terms = without_column j r.terms; limits = map_limits (λ s. s -ℚ factor_of r.terms j *ℚ v) r.limits })).limits w
          → IsWithin r.limits (w +ℚ factor_of r.terms j *ℚ v)
      by true e h = subst (IsWithin r.limits) (ring_by_ℚ (w ∷ factor_of r.terms j ∷ v ∷ []) x0 (x0 :+ x1 :* x2) (minus x2) x1 zero_of ((eq-Decides (factor_of r.terms j) zero_ℚ).0 e) tt) h
      by false e h = shifted r.limits (factor_of r.terms j *ℚ v) w h

  -- and the other way round
  fixed_row_keeps : (r : SystemRow) → x j ≡ v → IsRowKept r x → IsRowKept (fixed_row j v r) x
  fixed_row_keeps r same h = by (eq_ℚ (factor_of r.terms j) zero_ℚ) refl
    where
      value : form_value r.terms x ≡ form_value (without_column j r.terms) x +ℚ factor_of r.terms j *ℚ v
      value = value_without j x r.terms ∙ ap (λ z. form_value (without_column j r.terms) x +ℚ factor_of r.terms j *ℚ z) same

      by : (b : Bool) → eq_ℚ (factor_of r.terms j) zero_ℚ ≡ b → IsRowKept (cond b r (record { terms = without_column j r.terms; limits = map_limits (λ s. s -ℚ factor_of r.terms j *ℚ v) r.limits })) x
      by true e = h
      by false e = shifted_back r.limits (factor_of r.terms j *ℚ v) (form_value (without_column j r.terms) x) (subst (IsWithin r.limits) value h)

-- what meets what is left, with the value meets the system
pub fixed_point : (system : LinearSystem) (j : ℕ) (v : ℚ) (x : Assignment) → fixed_value (limits_in system j) ≡ Some v → Meets (fixed_system j v system) x → Meets system (with_value j v x)
fixed_point system j v x equal m = record {
  columns = λ k. elim (cases_eq k j) [
    | inl e ↦
        (subst (λ k. IsWithin (limits_in system k) (with_value j v x k)) (sym e)
        (subst (λ (b : Bool). IsWithin (limits_in system j) (cond b v (x j))) (sym (eq-eqb j j refl)) (equal_within (limits_in system j) v equal)))
    | inr e ↦
        (subst (λ (b : Bool). IsWithin (limits_in system k) (cond b v (x k))) (sym (ne_eqb k j e))
        (subst (λ l. IsWithin l (x k)) (limits_stay system.columns j k no_limits e) (m.columns k)))
  ];
  rows = λ i. row_mapped (λ r s. IsRowKept s x → IsRowKept r (with_value j v x)) (fixed_row j v) system.rows i (fixed_row_point j v x) (λ h. empty_kept (with_value j v x)) (m.rows i);
}

pub fixed_keeps : (system : LinearSystem) (j : ℕ) (v : ℚ) (x : Assignment) → fixed_value (limits_in system j) ≡ Some v → Meets system x → Meets (fixed_system j v system) x
fixed_keeps system j v x equal m =
    let same : x j ≡ v = equal_only (limits_in system j) v (x j) equal (m.columns j) in
    record {
      columns = λ k. elim (cases_eq k j) [
        | inl e ↦ subst (λ k. IsWithin (get_or (slice_set system.columns j no_limits) k no_limits) (x k)) (sym e) (limits_at_set (λ l. IsWithin l (x j)) system.columns j no_limits (within_none (x j)) (within_none (x j)))
        | inr e ↦ subst (λ l. IsWithin l (x k)) (sym (limits_stay system.columns j k no_limits e)) (m.columns k)
      ];
      rows = λ i. row_mapped (λ r s. IsRowKept r x → IsRowKept s x) (fixed_row j v) system.rows i (λ r h. fixed_row_keeps j v x r same h) (λ h. h) (m.rows i);
    }

pub fixed_same : (system : LinearSystem) (j : ℕ) (v : ℚ) (x : Assignment) → fixed_value (limits_in system j) ≡ Some v → Meets system x → (k : ℕ) → with_value j v x k ≡ x k
fixed_same system j v x equal m k =
    elim (cases_eq k j) [
      | inl e ↦ ap (λ (b : Bool). cond b v (x k)) (eq-eqb k j e) ∙ sym (ap x e ∙ equal_only (limits_in system j) v (x j) equal (m.columns j))
      | inr e ↦ ap (λ (b : Bool). cond b v (x k)) (ne_eqb k j e)
    ]

-- ---- factors and order
-- a factor above 0 is taken off
pub cancel : {a p q : ℚ} → zero_ℚ <ℚ a → (a *ℚ p) ≤ℚ (a *ℚ q) → p ≤ℚ q
cancel {a} {p} {q} pos h =
    let some : a ≢ zero_ℚ = λ e. lt_irrefl_ℚ (subst (λ z. zero_ℚ <ℚ z) e pos) in
    let off : (z : ℚ) → inv_ℚ a *ℚ (a *ℚ z) ≡ z = λ z. ring_by_ℚ (a ∷ z ∷ inv_ℚ a ∷ []) (x2 :* (x0 :* x1)) x1 x1 (x0 :* x2) unit_of (mul-inv_ℚ a some) tt in
    subst (λ z. z ≤ℚ q) (off p) (subst (λ z. (inv_ℚ a *ℚ (a *ℚ p)) ≤ℚ z) (off q) (mul-le_ℚ (le_of_lt_ℚ (inv-pos_ℚ pos)) h))

-- one below 0 turns the order
pub turn : {a p q : ℚ} → a <ℚ zero_ℚ → p ≤ℚ q → (a *ℚ q) ≤ℚ (a *ℚ p)
turn {a} {p} {q} neg h = le_by (a ∷ p ∷ q ∷ []) (x0 :* x2) (x0 :* x1) ((zero_of :- x0) :* (x2 :- x1)) (nonneg-mul (nonneg_of_le (le_of_lt_ℚ neg)) (nonneg_of_le h)) tt

pub cancel_turned : {a p q : ℚ} → a <ℚ zero_ℚ → (a *ℚ p) ≤ℚ (a *ℚ q) → q ≤ℚ p
cancel_turned {a} {p} {q} neg h =
    let pos : zero_ℚ <ℚ neg_ℚ a = lt_by (a ∷ []) zero_of (minus x0) (zero_of :- x0) (positive_of_lt neg) tt in
    cancel pos (le_by (a ∷ p ∷ q ∷ []) (minus x0 :* x2) (minus x0 :* x1) (x0 :* x2 :- x0 :* x1) (nonneg_of_le h) tt)

-- the sign of a factor that is not 0, by the test
pub sign_is : (a : ℚ) → a ≢ zero_ℚ → lt_q zero_ℚ a ≡ false → a <ℚ zero_ℚ
sign_is a some e = lt_of_le-ne_ℚ (lt_q-false zero_ℚ a e) some

-- the factor times the quotient
pub over_back : (a s : ℚ) → a ≢ zero_ℚ → a *ℚ (s /ℚ a) ≡ s
over_back a s some = ring_by_ℚ (a ∷ s ∷ inv_ℚ a ∷ []) (x0 :* (x1 :* x2)) x1 x1 (x0 :* x2) unit_of (mul-inv_ℚ a some) tt

-- ---- a row of one column
-- a value keeps the column's limit on a side exactly where the factor times the value keeps the row's side from which it is made
module _ (a : ℚ) (some : a ≢ zero_ℚ) (sides : Limits) (v : ℚ) where
  -- q is the quotient of s
  abbrev quotient : ℚ → ℚ
  quotient s = s /ℚ a

  le_to : (s : ℚ) → s ≤ℚ (a *ℚ v) → (a *ℚ quotient s) ≤ℚ (a *ℚ v)
  le_to s h = subst (λ z. z ≤ℚ (a *ℚ v)) (sym (over_back a s some)) h

  ge_to : (s : ℚ) → (a *ℚ v) ≤ℚ s → (a *ℚ v) ≤ℚ (a *ℚ quotient s)
  ge_to s h = subst (λ z. (a *ℚ v) ≤ℚ z) (sym (over_back a s some)) h

  le_from : (s : ℚ) → (a *ℚ quotient s) ≤ℚ (a *ℚ v) → s ≤ℚ (a *ℚ v)
  le_from s h = subst (λ z. z ≤ℚ (a *ℚ v)) (over_back a s some) h

  ge_from : (s : ℚ) → (a *ℚ v) ≤ℚ (a *ℚ quotient s) → (a *ℚ v) ≤ℚ s
  ge_from s h = subst (λ z. (a *ℚ v) ≤ℚ z) (over_back a s some) h

  -- through an option
  through : (P Q : ℚ → Type 0) (o : Option ℚ) → ((s : ℚ) → P s → Q (quotient s)) → IfSome o P → IfSome (option_map (λ s. s /ℚ a) o) Q
  through P Q None f h = tt
  through P Q (Some s) f h = f s h

  through_back : (P Q : ℚ → Type 0) (o : Option ℚ) → ((s : ℚ) → Q (quotient s) → P s) → IfSome (option_map (λ s. s /ℚ a) o) Q → IfSome o P
  through_back P Q None f h = tt
  through_back P Q (Some s) f h = f s h

  pub single_to : (side : Side) → IsKeptOn (turned a side) (limit_on sides (turned a side)) (a *ℚ v) → IsKeptOn side (single_limit sides a side) v
  single_to side h = by (lt_q zero_ℚ a) refl side h
    where
      by : (b : Bool) → lt_q zero_ℚ a ≡ b → (side : Side) → IsKeptOn (cond b side (opposite side)) (limit_on sides (cond b side (opposite side))) (a *ℚ v) → IsKeptOn side (option_map (λ s. s /ℚ a) (limit_on sides (cond b side (opposite side)))) v
      by true e Lo h = through (λ s. s ≤ℚ (a *ℚ v)) (λ q. q ≤ℚ v) sides.lower (λ s g. cancel (lt_q-true zero_ℚ a e) (le_to s g)) h
      by true e Up h = through (λ s. (a *ℚ v) ≤ℚ s) (λ q. v ≤ℚ q) sides.upper (λ s g. cancel (lt_q-true zero_ℚ a e) (ge_to s g)) h
      by false e Lo h = through (λ s. (a *ℚ v) ≤ℚ s) (λ q. q ≤ℚ v) sides.upper (λ s g. cancel_turned (sign_is a some e) (ge_to s g)) h
      by false e Up h = through (λ s. s ≤ℚ (a *ℚ v)) (λ q. v ≤ℚ q) sides.lower (λ s g. cancel_turned (sign_is a some e) (le_to s g)) h

  pub single_from : (side : Side) → IsKeptOn side (single_limit sides a side) v → IsKeptOn (turned a side) (limit_on sides (turned a side)) (a *ℚ v)
  single_from side h = by (lt_q zero_ℚ a) refl side h
    where
      by : (b : Bool) → lt_q zero_ℚ a ≡ b → (side : Side) → IsKeptOn side (option_map (λ s. s /ℚ a) (limit_on sides (cond b side (opposite side)))) v → IsKeptOn (cond b side (opposite side)) (limit_on sides (cond b side (opposite side))) (a *ℚ v)
      by true e Lo h = through_back (λ s. s ≤ℚ (a *ℚ v)) (λ q. q ≤ℚ v) sides.lower (λ s g. le_from s (mul-le_ℚ (le_of_lt_ℚ (lt_q-true zero_ℚ a e)) g)) h
      by true e Up h = through_back (λ s. (a *ℚ v) ≤ℚ s) (λ q. v ≤ℚ q) sides.upper (λ s g. ge_from s (mul-le_ℚ (le_of_lt_ℚ (lt_q-true zero_ℚ a e)) g)) h
      by false e Lo h = through_back (λ s. (a *ℚ v) ≤ℚ s) (λ q. q ≤ℚ v) sides.upper (λ s g. ge_from s (turn (sign_is a some e) g)) h
      by false e Up h = through_back (λ s. s ≤ℚ (a *ℚ v)) (λ q. v ≤ℚ q) sides.lower (λ s g. le_from s (turn (sign_is a some e) g)) h

-- the turned sides of both are both
pub both_sides : (a : ℚ) (P : Side → Type 0) → P (turned a Lo) → P (turned a Up) → P Lo × P Up
both_sides a P p q = by (lt_q zero_ℚ a) p q
  where
    by : (b : Bool) → P (cond b Lo Up) → P (cond b Up Lo) → P Lo × P Up
    by true p q = (p, q)
    by false p q = (q, p)

-- the value of a row of one term
one_value : (t : Term) (x : Assignment) → form_value (t ∷ []) x ≡ t.factor *ℚ x t.column
one_value t x = ring_ℚ ((t.factor *ℚ x t.column) ∷ []) (x0 :+ zero_of) x0 tt

module _ (system : LinearSystem) (i : ℕ) (t : Term) (x : Assignment) (some : t.factor ≢ zero_ℚ) (terms : (row_in system i).terms ≡ t ∷ []) where
  abbrev sides : Limits
  sides = (row_in system i).limits

  abbrev value : ℚ
  value = form_value (row_in system i).terms x

  value_is : value ≡ t.factor *ℚ x t.column
  value_is = ap (λ z. form_value z x) terms ∙ one_value t x

  abbrev tight : Limits
  tight = tightened_by (single_limit sides t.factor) (limits_in system t.column)

  pub singleton_keeps : Meets system x → Meets (with_limits t.column tight (without_row i system)) x
  singleton_keeps m =
      put_limits (without_row i system) t.column tight x (drop_row system i x m)
      (let row : (side : Side) → IsKeptOn side (limit_on sides side) (t.factor *ℚ x t.column) = λ side. subst (IsKeptOn side (limit_on sides side)) value_is (kept_on side sides value (m.rows i)) in
      record {
        lower = tightened_kept Lo (limits_in system t.column).lower (single_limit sides t.factor Lo) (x t.column) (m.columns t.column).lower (single_to t.factor some sides (x t.column) Lo (row (turned t.factor Lo)));
        upper = tightened_kept Up (limits_in system t.column).upper (single_limit sides t.factor Up) (x t.column) (m.columns t.column).upper (single_to t.factor some sides (x t.column) Up (row (turned t.factor Up)));
      })

  pub singleton_point : t.column < length system.columns → Meets (with_limits t.column tight (without_row i system)) x → Meets system x
  singleton_point known m =
      let here : IsWithin tight (x t.column) = subst (λ l. IsWithin l (x t.column)) (limits_set system.columns t.column tight known) (m.columns t.column) in
      let new : (side : Side) → IsKeptOn side (single_limit sides t.factor side) (x t.column) = λ side. elim side as (λ k. IsKeptOn k (single_limit sides t.factor k) (x t.column)) [
        | Lo ↦ kept_new Lo (limits_in system t.column).lower (single_limit sides t.factor Lo) (x t.column) here.lower
        | Up ↦ kept_new Up (limits_in system t.column).upper (single_limit sides t.factor Up) (x t.column) here.upper
      ] in
      let row = both_sides t.factor (λ side. IsKeptOn side (limit_on sides side) (t.factor *ℚ x t.column)) (single_from t.factor some sides (x t.column) Lo (new Lo)) (single_from t.factor some sides (x t.column) Up (new Up)) in
      add_row system i x
      (take_limits (without_row i system) t.column tight x m
      (record {
        lower = kept_old Lo (limits_in system t.column).lower (single_limit sides t.factor Lo) (x t.column) here.lower;
        upper = kept_old Up (limits_in system t.column).upper (single_limit sides t.factor Up) (x t.column) here.upper;
      }))
      (subst (IsWithin sides) (sym value_is) (record { lower = row.0; upper = row.1 }))
