-- Rows and columns of a system after changes, by their numbers; and limits.
use Rattle.std.proofs.Common.{◌≡◌, ◌≢◌, refl, sym, ap, subst, ℕ, ◌<◌, ◌≤◌, get_or, Bool, true, false, cond, List, [], ◌∷◌, map, length, set, Option, Some, None, IsSome, inl, inr, true≢false}
use Rattle.std.specs.Prelude.{IfSome, slice_set}
use Rattle.std.specs.Option.{option_map}
use Rattle.std.proofs.lemmas.Bool.{cases_lt}
use Rattle.std.proofs.lemmas.List.{get_or_past, get_or-map, get_or-set_same, get_or-set_other, length-set, length-map}
use Rattle.algebra.proofs.Ring.{x0, x1, x2, ◌:+◌, ◌:-◌}
use Rattle.rational.specs.Rational.{ℚ, ◌+ℚ◌, ◌-ℚ◌, ◌≤ℚ◌, lt_q}
use Rattle.rational.proofs.Order.{le_by, nonneg_of_le, lt_q-true, lt_q-false, le_trans_ℚ, le_of_lt_ℚ}
use Rattle.lp_model.specs.declared.members.Side.{Side}
use Rattle.lp_model.specs.declared.members.Side.TheVariants.{Lo, Up}
use Rattle.certs.specs.Ended.{IsWithin}
use Rattle.certs.specs.System.{Limits, SystemRow, LinearSystem, no_limits, empty_system_row, limit_on}
use Rattle.certs.specs.Turns.{missed_side, is_under, is_over}
use Rattle.reductions.specs.Limited.{map_limits, is_tighter, tightened}
use Rattle.reductions.specs.Stage.{row_in, limits_in, without_row}

-- ---- rows
-- a fact about a row and its image, by number
pub row_mapped : (P : SystemRow → SystemRow → Type 0) (f : SystemRow → SystemRow) (rows : List SystemRow) (i : ℕ)
    → ((r : SystemRow) → P r (f r)) → P empty_system_row empty_system_row → P (get_or rows i empty_system_row) (get_or (map f rows) i empty_system_row)
row_mapped P f rows i each none =
    elim (cases_lt i (length rows)) [
      | inl l ↦ subst (P (get_or rows i empty_system_row)) (sym (get_or-map f rows i empty_system_row empty_system_row l)) (each (get_or rows i empty_system_row))
      | inr l ↦
          (subst (λ r. P r (get_or (map f rows) i empty_system_row)) (sym (get_or_past rows i empty_system_row l))
          (subst (P empty_system_row) (sym (get_or_past (map f rows) i empty_system_row (subst (λ n. n ≤ i) (sym (length-map rows f)) l))) none))
    ]

-- the removed row
pub row_gone : (system : LinearSystem) (i : ℕ) → row_in (without_row i system) i ≡ empty_system_row
row_gone system i =
    elim (cases_lt i (length system.rows)) [
      | inl l ↦ get_or-set_same system.rows i empty_system_row empty_system_row l
      | inr l ↦ get_or_past (set system.rows i empty_system_row) i empty_system_row (subst (λ n. n ≤ i) (sym (length-set system.rows i empty_system_row)) l)
    ]

-- and another one
pub row_stays : (system : LinearSystem) (i k : ℕ) → k ≢ i → row_in (without_row i system) k ≡ row_in system k
row_stays system i k apart = get_or-set_other system.rows i k empty_system_row empty_system_row apart

-- ---- columns
-- the limits that are set, of a column that there is
pub limits_set : (columns : List Limits) (j : ℕ) (limits : Limits) → j < length columns → get_or (slice_set columns j limits) j no_limits ≡ limits
limits_set columns j limits l = get_or-set_same columns j limits no_limits l

-- and of another one
pub limits_stay : (columns : List Limits) (j k : ℕ) (limits : Limits) → k ≢ j → get_or (slice_set columns j limits) k no_limits ≡ get_or columns k no_limits
limits_stay columns j k limits apart = get_or-set_other columns j k limits no_limits apart

-- a fact that holds of the limits that are set and of none holds at their place
pub limits_at_set : (P : Limits → Type 0) (columns : List Limits) (j : ℕ) (limits : Limits) → P limits → P no_limits → P (get_or (slice_set columns j limits) j no_limits)
limits_at_set P columns j limits p none =
    elim (cases_lt j (length columns)) [
      | inl l ↦ subst P (sym (limits_set columns j limits l)) p
      | inr l ↦ subst P (sym (get_or_past (set columns j limits) j no_limits (subst (λ n. n ≤ j) (sym (length-set columns j limits)) l))) none
    ]

-- a column with a limit is one that there is
pub column_there : (system : LinearSystem) (j : ℕ) (side : Side) → IsSome (limit_on (limits_in system j) side) → j < length system.columns
column_there system j side some =
    elim (cases_lt j (length system.columns)) [
      | inl l ↦ l
      | inr l ↦ absurd (none side (subst (λ (limits : Limits). IsSome (limit_on limits side)) (get_or_past system.columns j no_limits l) some))
    ]
  where
    none : (side : Side) → IsSome (limit_on no_limits side) → ⊥
    none Lo some = true≢false (sym some)
    none Up some = true≢false (sym some)

-- ---- limits
-- no limits keep every value
pub within_none : (v : ℚ) → IsWithin no_limits v
within_none v = record { lower = tt; upper = tt }

-- by sides: at least the lower, at most the upper limit
abbrev pub IsKeptOn : Side → Option ℚ → ℚ → Type 0
IsKeptOn Lo limit v = IfSome limit (λ l. l ≤ℚ v)
IsKeptOn Up limit v = IfSome limit (λ u. v ≤ℚ u)

-- within
pub kept_on : (side : Side) (limits : Limits) (v : ℚ) → IsWithin limits v → IsKeptOn side (limit_on limits side) v
kept_on Lo limits v w = w.lower
kept_on Up limits v w = w.upper

-- shifted limits
pub shifted : (limits : Limits) (q w : ℚ) → IsWithin (map_limits (λ s. s -ℚ q) limits) w → IsWithin limits (w +ℚ q)
shifted limits q w h = record { lower = low limits.lower h.lower; upper = up limits.upper h.upper }
  where
    low : (o : Option ℚ) → IfSome (option_map (λ s. s -ℚ q) o) (λ l. l ≤ℚ w) → IfSome o (λ l. l ≤ℚ (w +ℚ q))
    low None h = tt
    low (Some s) h = le_by (s ∷ q ∷ w ∷ []) x0 (x2 :+ x1) (x2 :- (x0 :- x1)) (nonneg_of_le h) tt

    up : (o : Option ℚ) → IfSome (option_map (λ s. s -ℚ q) o) (λ u. w ≤ℚ u) → IfSome o (λ u. (w +ℚ q) ≤ℚ u)
    up None h = tt
    up (Some s) h = le_by (s ∷ q ∷ w ∷ []) (x2 :+ x1) x0 ((x0 :- x1) :- x2) (nonneg_of_le h) tt

-- and back
pub shifted_back : (limits : Limits) (q w : ℚ) → IsWithin limits (w +ℚ q) → IsWithin (map_limits (λ s. s -ℚ q) limits) w
shifted_back limits q w h = record { lower = low limits.lower h.lower; upper = up limits.upper h.upper }
  where
    low : (o : Option ℚ) → IfSome o (λ l. l ≤ℚ (w +ℚ q)) → IfSome (option_map (λ s. s -ℚ q) o) (λ l. l ≤ℚ w)
    low None h = tt
    low (Some s) h = le_by (s ∷ q ∷ w ∷ []) (x0 :- x1) x2 ((x2 :+ x1) :- x0) (nonneg_of_le h) tt

    up : (o : Option ℚ) → IfSome o (λ u. (w +ℚ q) ≤ℚ u) → IfSome (option_map (λ s. s -ℚ q) o) (λ u. w ≤ℚ u)
    up None h = tt
    up (Some s) h = le_by (s ∷ q ∷ w ∷ []) x2 (x0 :- x1) (x0 :- (x2 :+ x1)) (nonneg_of_le h) tt

-- a value that misses no side is within
pub missed_none : (limits : Limits) (v : ℚ) → missed_side limits v ≡ None → IsWithin limits v
missed_none limits v e = by (is_under limits.lower v) (is_over limits.upper v) refl refl e
  where
    some_none : {A : Type 0} {a : A} → Some a ≡ None → ⊥
    some_none e = true≢false (ap (λ o. elim o [ None ↦ false | Some x ↦ true ]) e)

    low : (o : Option ℚ) → is_under o v ≡ false → IfSome o (λ l. l ≤ℚ v)
    low None e = tt
    low (Some l) e = lt_q-false v l e

    up : (o : Option ℚ) → is_over o v ≡ false → IfSome o (λ u. v ≤ℚ u)
    up None e = tt
    up (Some u) e = lt_q-false u v e

    by : (a b : Bool) → is_under limits.lower v ≡ a → is_over limits.upper v ≡ b → cond a (Some Lo) (cond b (Some Up) None) ≡ None → IsWithin limits v
    by true b p q e = absurd (some_none e)
    by false true p q e = absurd (some_none e)
    by false false p q e = record { lower = low limits.lower p; upper = up limits.upper q }

-- ---- tightened limits
-- a value is within the tightened one where it is within both
pub tightened_kept : (side : Side) (old new : Option ℚ) (v : ℚ) → IsKeptOn side old v → IsKeptOn side new v → IsKeptOn side (tightened side old new) v
tightened_kept side old new v a b = by (is_tighter side old new)
  where
    by : (c : Bool) → IsKeptOn side (cond c new old) v
    by true = b
    by false = a

-- and both keep what the tightened one keeps
pub kept_old : (side : Side) (old new : Option ℚ) (v : ℚ) → IsKeptOn side (tightened side old new) v → IsKeptOn side old v
kept_old Lo None new v h = tt
kept_old Lo (Some o) None v h = h
kept_old Lo (Some o) (Some n) v h = by (lt_q o n) refl h
  where
    by : (b : Bool) → lt_q o n ≡ b → IfSome (cond b (Some n) (Some o)) (λ l. l ≤ℚ v) → o ≤ℚ v
    by true e h = le_trans_ℚ (le_of_lt_ℚ (lt_q-true o n e)) h
    by false e h = h
kept_old Up None new v h = tt
kept_old Up (Some o) None v h = h
kept_old Up (Some o) (Some n) v h = by (lt_q n o) refl h
  where
    by : (b : Bool) → lt_q n o ≡ b → IfSome (cond b (Some n) (Some o)) (λ u. v ≤ℚ u) → v ≤ℚ o
    by true e h = le_trans_ℚ h (le_of_lt_ℚ (lt_q-true n o e))
    by false e h = h

-- the new one
pub kept_new : (side : Side) (old new : Option ℚ) (v : ℚ) → IsKeptOn side (tightened side old new) v → IsKeptOn side new v
kept_new Lo old None v h = tt
kept_new Lo None (Some n) v h = h
kept_new Lo (Some o) (Some n) v h = by (lt_q o n) refl h
  where
    by : (b : Bool) → lt_q o n ≡ b → IfSome (cond b (Some n) (Some o)) (λ l. l ≤ℚ v) → n ≤ℚ v
    by true e h = h
    by false e h = le_trans_ℚ (lt_q-false o n e) h
kept_new Up old None v h = tt
kept_new Up None (Some n) v h = h
kept_new Up (Some o) (Some n) v h = by (lt_q n o) refl h
  where
    by : (b : Bool) → lt_q n o ≡ b → IfSome (cond b (Some n) (Some o)) (λ u. v ≤ℚ u) → v ≤ℚ n
    by true e h = h
    by false e h = le_trans_ℚ h (lt_q-false n o e)
