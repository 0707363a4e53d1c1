-- Directions of columns along which a system is kept: what has a lower limit does not fall, and what has an upper one does not rise.
use Rattle.std.proofs.Common.{◌≡◌, ◌≢◌, ◌+◌, ◌-◌, ◌<◌, refl, sym, ◌∙◌, ap, subst, ℕ, Bool, true, false, true≢false, cond, ltb, ◌==◌, List, [], ◌∷◌, length, Option, Some, None, IsSome, arith, inl, inr, lt-ltb, eq-eqb, ne_eqb}
use Rattle.std.specs.Prelude.{All, IfSome}
use Rattle.std.proofs.lemmas.Bool.{cases_lt, cond-true, cond-false, le-ltb}
use Rattle.std.proofs.lemmas.List.{get_or_past}
use Rattle.std.proofs.lemmas.List.Elements.{All-head, All-tail}
use Rattle.rational.specs.Rational.{ℚ, ◌+ℚ◌, ◌*ℚ◌, zero_ℚ, lt_q, ◌≤ℚ◌, ◌<ℚ◌}
use Rattle.rational.specs.Linear.{Term, Assignment, form_value}
use Rattle.rational.proofs.Field.{x0, x1, ◌:+◌, ◌:-◌, ◌:*◌, zero_of}
use Rattle.rational.proofs.Sums.{sum_over-ext_on}
use Rattle.rational.proofs.Order.{le_refl_ℚ, le_by, nonneg_of_le, nonneg_is, nonneg-add, nonneg-mul, lt_q-true, le_of_lt_ℚ}
use Rattle.lp_model.specs.Program.{IsForm}
use Rattle.lp_model.specs.Satisfaction.{values_at}
use Rattle.lp_model.specs.declared.members.Side.{Side}
use Rattle.lp_model.specs.declared.members.Side.TheVariants.{Lo, Up}
use Rattle.certs.specs.System.{Limits, SystemRow, LinearSystem, no_limits, empty_system_row, limit_on, variable_limits}
use Rattle.reductions.specs.Limited.{opposite, turned, is_tighter, tightened}
use Rattle.reductions.specs.Laws.{IsFormed}
use Rattle.reductions.specs.Stage.{row_in, limits_in}
use Rattle.reductions.proofs.Formed.{row_form}
use Rattle.reductions.proofs.Looks.{column_there}
use Rattle.reductions.proofs.Points.{sign_is}
use Rattle.simplex.specs.Rays.{IsVariableRay, IsSystemRay}

-- not falling on the lower side, not rising on the upper one
abbrev pub IsTowards : Side → ℚ → Type 0
IsTowards Lo q = zero_ℚ ≤ℚ q
IsTowards Up q = q ≤ℚ zero_ℚ

-- where a limit is there on the side
abbrev pub IsKeptBy : Limits → ℚ → Type 0
IsKeptBy limits q = (side : Side) → IsSome (limit_on limits side) → IsTowards side q

-- the columns move so that all limits of columns and rows are kept, and the terms rise
pub record IsDirection (system : LinearSystem) (terms : List Term) (x : Assignment) : Type 0 where
  pub columns : (j : ℕ) → IsKeptBy (limits_in system j) (x j)
  pub rows : (i : ℕ) → IsKeptBy (row_in system i).limits (form_value (row_in system i).terms x)
  pub raises : zero_ℚ <ℚ form_value terms x

pub none_there : (side : Side) → IsSome (limit_on no_limits side) → ⊥
none_there Lo some = true≢false (sym some)
none_there Up some = true≢false (sym some)

-- ---- signs
pub still : (side : Side) → IsTowards side zero_ℚ
still Lo = le_refl_ℚ zero_ℚ
still Up = le_refl_ℚ zero_ℚ

pub together : (side : Side) (p q : ℚ) → IsTowards side p → IsTowards side q → IsTowards side (p +ℚ q)
together Lo p q h k = le_by (p ∷ q ∷ []) zero_of (x0 :+ x1) (x0 :+ x1) (nonneg-add (nonneg_is.0 h) (nonneg_is.0 k)) tt
together Up p q h k = le_by (p ∷ q ∷ []) (x0 :+ x1) zero_of ((zero_of :- x0) :+ (zero_of :- x1)) (nonneg-add (nonneg_of_le h) (nonneg_of_le k)) tt

-- a factor turns the side, and turns it back
pub times_turned : (a : ℚ) → a ≢ zero_ℚ → (side : Side) (q : ℚ) → IsTowards side q → IsTowards (turned a side) (a *ℚ q)
times_turned a some side q h = by (lt_q zero_ℚ a) refl side h
  where
    by : (b : Bool) → lt_q zero_ℚ a ≡ b → (side : Side) → IsTowards side q → IsTowards (cond b side (opposite side)) (a *ℚ q)
    by true e Lo h = le_by (a ∷ q ∷ []) zero_of (x0 :* x1) ((x0 :- zero_of) :* x1) (nonneg-mul (nonneg_of_le (le_of_lt_ℚ (lt_q-true zero_ℚ a e))) (nonneg_is.0 h)) tt
    by true e Up h = le_by (a ∷ q ∷ []) (x0 :* x1) zero_of ((x0 :- zero_of) :* (zero_of :- x1)) (nonneg-mul (nonneg_of_le (le_of_lt_ℚ (lt_q-true zero_ℚ a e))) (nonneg_of_le h)) tt
    by false e Lo h = le_by (a ∷ q ∷ []) (x0 :* x1) zero_of ((zero_of :- x0) :* x1) (nonneg-mul (nonneg_of_le (le_of_lt_ℚ (sign_is a some e))) (nonneg_is.0 h)) tt
    by false e Up h = le_by (a ∷ q ∷ []) zero_of (x0 :* x1) ((zero_of :- x0) :* (zero_of :- x1)) (nonneg-mul (nonneg_of_le (le_of_lt_ℚ (sign_is a some e))) (nonneg_of_le h)) tt

pub turned_twice : (a : ℚ) (side : Side) → turned a (turned a side) ≡ side
turned_twice a side = by (lt_q zero_ℚ a) side
  where
    by : (b : Bool) (side : Side) → cond b (cond b side (opposite side)) (opposite (cond b side (opposite side))) ≡ side
    by true side = refl
    by false Lo = refl
    by false Up = refl

pub times_back : (a : ℚ) → a ≢ zero_ℚ → (side : Side) (q : ℚ) → IsTowards (turned a side) q → IsTowards side (a *ℚ q)
times_back a some side q h = subst (λ k. IsTowards k (a *ℚ q)) (turned_twice a side) (times_turned a some (turned a side) q h)

-- a form each column of which moves the way of its limit moves the way of the side
pub form_towards : (side : Side) (x : Assignment) (terms : List Term) → All (λ t. t.factor ≢ zero_ℚ) terms → All (λ t. IsTowards (turned t.factor side) (x t.column)) terms → IsTowards side (form_value terms x)
form_towards side x [] some h = still side
form_towards side x (t ∷ terms) some h =
    together side (t.factor *ℚ x t.column) (form_value terms x)
    (times_back t.factor (All-head (λ t. t.factor ≢ zero_ℚ) t terms some) side (x t.column) (All-head (λ t. IsTowards (turned t.factor side) (x t.column)) t terms h))
    (form_towards side x terms (All-tail (λ t. t.factor ≢ zero_ℚ) t terms some) (All-tail (λ t. IsTowards (turned t.factor side) (x t.column)) t terms h))

-- ---- a tightened limit is there where the old one or the new one is
pub old_there : (side : Side) (old new : Option ℚ) → IsSome old → IsSome (tightened side old new)
old_there side None new some = absurd (true≢false (sym some))
old_there side (Some o) None some = by side
  where
    by : (side : Side) → IsSome (tightened side (Some o) None)
    by Lo = refl
    by Up = refl
old_there side (Some o) (Some q) some = by (is_tighter side (Some o) (Some q))
  where
    by : (b : Bool) → IsSome (cond b (Some q) (Some o))
    by true = refl
    by false = refl

pub new_there : (side : Side) (old new : Option ℚ) → IsSome new → IsSome (tightened side old new)
new_there side old None some = absurd (true≢false (sym some))
new_there Lo None (Some q) some = refl
new_there Up None (Some q) some = refl
new_there side (Some o) (Some q) some = by (is_tighter side (Some o) (Some q))
  where
    by : (b : Bool) → IsSome (cond b (Some q) (Some o))
    by true = refl
    by false = refl

-- ---- rays are directions
module _ (system : LinearSystem) where
  abbrev n : ℕ
  n = length system.columns

  abbrev m : ℕ
  m = length system.rows

  limits_of_column : (j : ℕ) → j < n → variable_limits system j ≡ limits_in system j
  limits_of_column j l = cond-true (ltb j n) (limits_in system j) _ (lt-ltb j n l)

  limits_of_row : (i : ℕ) → variable_limits system (n + i) ≡ (row_in system i).limits
  limits_of_row i = cond-false (ltb (n + i) n) (limits_in system (n + i)) _ (le-ltb (n + i) n (omega arith)) ∙ ap (λ k. (row_in system k).limits) (let e : (n + i) - n ≡ i = omega arith in e)

  -- forms look at the columns alone
  same_value : (terms : List Term) → IsForm n terms → (x y : Assignment) → ((k : ℕ) → k < n → x k ≡ y k) → form_value terms x ≡ form_value terms y
  same_value terms form x y e = sum_over-ext_on (λ (t : Term). t.column < n) (λ t. t.factor *ℚ x t.column) (λ t. t.factor *ℚ y t.column) (λ t l. ap (λ z. t.factor *ℚ z) (e t.column l)) terms form.known

  pub same_direction : (terms : List Term) → IsFormed system → system.objective ≡ Some terms → (x y : Assignment) → ((k : ℕ) → k < n → x k ≡ y k) → IsDirection system terms x → IsDirection system terms y
  same_direction terms formed is x y e h = record {
    columns = λ j side some. subst (IsTowards side) (e j (column_there system j side some)) (h.columns j side some);
    rows = λ i side some. subst (IsTowards side) (same_value (row_in system i).terms (row_form system i formed) x y e) (h.rows i side some);
    raises = subst (λ z. zero_ℚ <ℚ z) (same_value terms (subst (λ o. IfSome o (IsForm n)) is formed.objective) x y e) h.raises;
  }

  on_side : (v : ℕ) (r : Assignment) → IsVariableRay system r → v < n + m → IsKeptBy (variable_limits system v) (r v)
  on_side v r h l Lo some = h.lower v l some
  on_side v r h l Up some = h.upper v l some

  -- a limit that is there is one of a row of the system
  row_there : (i : ℕ) (side : Side) → IsSome (limit_on (row_in system i).limits side) → i < m
  row_there i side some =
      elim (cases_lt i m) [
        | inl l ↦ l
        | inr l ↦ absurd (none_there side (subst (λ (r : SystemRow). IsSome (limit_on r.limits side)) (get_or_past system.rows i empty_system_row l) some))
      ]

  pub ray_direction : (terms : List Term) (r : Assignment) → system.objective ≡ Some terms → IsVariableRay system r → IsDirection system terms r
  ray_direction terms r is h = record {
    columns = λ j side some.
        (let l : j < n = column_there system j side some in
        on_side j r h (omega (arith, l)) side (subst (λ z. IsSome (limit_on z side)) (sym (limits_of_column j l)) some));
    rows = λ i side some.
        (let l : i < m = row_there i side some in
        subst (IsTowards side) (h.rows.rows i l) (on_side (n + i) r h (omega (arith, l)) side (subst (λ z. IsSome (limit_on z side)) (sym (limits_of_row i)) some)));
    raises = subst (λ z. zero_ℚ <ℚ z) (subst (λ o. IfSome o (λ terms. r (n + m) ≡ form_value terms r)) is h.rows.objective) h.raises;
  }

  -- ---- and directions are rays
  module _ (terms : List Term) (formed : IsFormed system) (is : system.objective ≡ Some terms) (x : Assignment) (h : IsDirection system terms x) where
    -- the rows and the objective move by their forms
    abbrev all_moves : Assignment
    all_moves v = cond (ltb v n) (x v) (cond (v == n + m) (form_value terms x) (form_value (row_in system (v - n)).terms x))

    at_column : (k : ℕ) → k < n → all_moves k ≡ x k
    at_column k l = cond-true (ltb k n) (x k) _ (lt-ltb k n l)

    at_row : (i : ℕ) → i < m → all_moves (n + i) ≡ form_value (row_in system i).terms x
    at_row i l =
        cond-false (ltb (n + i) n) (x (n + i)) _ (le-ltb (n + i) n (omega arith))
        ∙ cond-false (n + i == n + m) (form_value terms x) _ (ne_eqb (n + i) (n + m) (λ e. absurd (omega (arith, e, l))))
        ∙ ap (λ k. form_value (row_in system k).terms x) (let e : (n + i) - n ≡ i = omega arith in e)

    at_objective : all_moves (n + m) ≡ form_value terms x
    at_objective = cond-false (ltb (n + m) n) (x (n + m)) _ (le-ltb (n + m) n (omega arith)) ∙ cond-true (n + m == n + m) (form_value terms x) _ (eq-eqb (n + m) (n + m) refl)

    same : (k : ℕ) → k < n → x k ≡ all_moves k
    same k l = sym (at_column k l)

    kept : (v : ℕ) → v < n + m → IsKeptBy (variable_limits system v) (all_moves v)
    kept v l side some =
        elim (cases_lt v n) [
          | inl k ↦ subst (IsTowards side) (sym (at_column v k)) (h.columns v side (subst (λ z. IsSome (limit_on z side)) (limits_of_column v k) some))
          | inr k ↦
              (let i : ℕ = v - n in
              let e : n + i ≡ v = omega (arith, k) in
              subst (λ z. IsTowards side (all_moves z)) e
              (subst (IsTowards side) (sym (at_row i (omega (arith, k, l))))
              (h.rows i side (subst (λ z. IsSome (limit_on z side)) (limits_of_row i) (subst (λ z. IsSome (limit_on (variable_limits system z) side)) (sym e) some)))))
        ]

    keeps : IsVariableRay system all_moves
    keeps = record {
      rows = record {
        rows = λ i l. at_row i l ∙ same_value (row_in system i).terms (row_form system i formed) x all_moves same;
        objective = subst (λ o. IfSome o (λ terms. all_moves (n + m) ≡ form_value terms all_moves)) (sym is)
            (at_objective ∙ same_value terms (subst (λ o. IfSome o (IsForm n)) is formed.objective) x all_moves same);
      };
      lower = λ v l some. kept v l Lo some;
      upper = λ v l some. kept v l Up some;
      raises = subst (λ z. zero_ℚ <ℚ z) (sym at_objective) h.raises;
    }

    pub direction_ray : (back : List ℚ) → ((k : ℕ) → k < length system.columns → values_at back k ≡ x k) → IsSystemRay system back
    direction_ray back e = record { ray = all_moves; keeps = keeps; same = λ v l. e v l ∙ same v l }
