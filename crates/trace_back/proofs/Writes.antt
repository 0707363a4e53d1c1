-- Weights that are written.
use Rattle.std.proofs.Common.{◌≡◌, ◌+◌, ◌<◌, ◌==◌, ◌^◌, refl, sym, ◌∙◌, ap, subst, ℕ, Bool, true, false, true≢false, cond, List, length, set, eqb-true, eq-eqb, Option}
use Rattle.std.proofs.lemmas.List.{get_or-set_same, get_or-set_other, length-set}
use Rattle.rational.specs.Rational.{ℚ, zero_ℚ}
use Rattle.lp_model.specs.declared.members.Side.{Side}
use Rattle.lp_model.specs.declared.members.Side.TheVariants.{Lo, Up}
use Rattle.lp_model.specs.Satisfaction.{values_at}
use Rattle.reductions.specs.Back.{Weights, maker, unless_made}
use Rattle.trace_back.specs.declared.weights.Weights.{Weights as Held}
use Rattle.trace_back.specs.Held.{weights_in, IsHeld, IsNow, of_side, with_sides, with_limit, unmade}

-- ---- one after the other
pub now_as : (old new : Held) (w x : Weights) → IsNow old new w → w ≡ x → IsNow old new x
now_as old new w x so e = record { columns = so.columns; rows = so.rows; held = so.held; weights_are = so.weights_are ∙ e }

pub now_then : (a b c : Held) (w x : Weights) → IsNow a b w → IsNow b c x → IsNow a c x
now_then a b c w x first second = record {
  columns = second.columns ∙ first.columns;
  rows = second.rows ∙ first.rows;
  held = second.held;
  weights_are = second.weights_are;
}

-- what is written on both sides of a variable after weights are held
pub now_over : (a b c : Held) (w : Weights) (k : ℕ) (q : Side → ℚ) → IsNow a b w → IsNow b c (with_sides k q (weights_in b)) → IsNow a c (with_sides k q w)
now_over a b c w k q first second =
    now_as a c (with_sides k q (weights_in b)) (with_sides k q w) (now_then a b c w (with_sides k q (weights_in b)) first second) (ap (λ (z : Weights). with_sides k q z) first.weights_are)

pub now_same : (held : Held) → IsHeld held → IsNow held held (weights_in held)
now_same held h = record { columns = refl; rows = refl; held = h; weights_are = refl }

-- ---- a value that is set
by_place : (xs : List ℚ) (k v : ℕ) (q : ℚ) → k < length xs → (b : Bool) → (v == k) ≡ b → values_at (set xs k q) v ≡ cond b q (values_at xs v)
by_place xs k v q l true e = subst (λ (n : ℕ). values_at (set xs k q) n ≡ q) (sym (eqb-true v k e)) (get_or-set_same xs k q zero_ℚ l)
by_place xs k v q l false e = get_or-set_other xs k v q zero_ℚ (λ p. true≢false (sym (eq-eqb v k p) ∙ e))

pub set_at : (xs : List ℚ) (k v : ℕ) (q : ℚ) → k < length xs → values_at (set xs k q) v ≡ cond (v == k) q (values_at xs v)
set_at xs k v q l = by_place xs k v q l (v == k) refl

by_name : (xs : List ℚ) (k v : ℕ) (q : ℚ) → k < length xs → (b : Bool) → (k == v) ≡ b → values_at (set xs k q) v ≡ cond b q (values_at xs v)
by_name xs k v q l true e = subst (λ (n : ℕ). values_at (set xs k q) n ≡ q) (eqb-true k v e) (get_or-set_same xs k q zero_ℚ l)
by_name xs k v q l false e = get_or-set_other xs k v q zero_ℚ (λ p. true≢false (sym (eq-eqb k v (sym p)) ∙ e))

pub set_where : (xs : List ℚ) (k v : ℕ) (q : ℚ) → k < length xs → values_at (set xs k q) v ≡ cond (k == v) q (values_at xs v)
set_where xs k v q l = by_name xs k v q l (k == v) refl

-- ---- what is held after it
module _ (old new : Held) (k : ℕ) (h : IsHeld old) (l : k < old.columns + old.rows) (columns : new.columns ≡ old.columns) (rows : new.rows ≡ old.rows) where
  count : (n : ℕ) → n ≡ old.columns + old.rows → n ≡ new.columns + new.rows
  count n e = e ∙ ap (λ z. z + old.rows) (sym columns) ∙ ap (λ z. new.columns + z) (sym rows)

  few : new.columns + new.rows < 2 ^ 31
  few = subst (λ n. n < 2 ^ 31) (count (old.columns + old.rows) refl) h.few

  room : (xs : List ℚ) → length xs ≡ old.columns + old.rows → k < length xs
  room xs e = subst (λ n. k < n) (sym e) l

  pub sides_put : (a b : ℚ) → new.lower.items ≡ set old.lower.items k a → new.upper.items ≡ set old.upper.items k b → IsNow old new (with_sides k (of_side a b) (weights_in old))
  sides_put a b e f = record {
    columns = columns;
    rows = rows;
    held = record {
      lower = count (length new.lower.items) (ap length e ∙ length-set old.lower.items k a ∙ h.lower);
      upper = count (length new.upper.items) (ap length f ∙ length-set old.upper.items k b ∙ h.upper);
      few = few;
    };
    weights_are = λ i. λ side v. each side v i;
  }
    where
      each : (side : Side) (v : ℕ) → weights_in new side v ≡ with_sides k (of_side a b) (weights_in old) side v
      each Lo v = ap (λ z. values_at z v) e ∙ set_at old.lower.items k v a (room old.lower.items h.lower)
      each Up v = ap (λ z. values_at z v) f ∙ set_at old.upper.items k v b (room old.upper.items h.upper)

  pub lower_put : (q : ℚ) → new.lower.items ≡ set old.lower.items k q → new.upper.items ≡ old.upper.items → IsNow old new (with_limit Lo k q (weights_in old))
  lower_put q e f = record {
    columns = columns;
    rows = rows;
    held = record {
      lower = count (length new.lower.items) (ap length e ∙ length-set old.lower.items k q ∙ h.lower);
      upper = count (length new.upper.items) (ap length f ∙ h.upper);
      few = few;
    };
    weights_are = λ i. λ side v. each side v i;
  }
    where
      each : (side : Side) (v : ℕ) → weights_in new side v ≡ with_limit Lo k q (weights_in old) side v
      each Lo v = ap (λ z. values_at z v) e ∙ set_where old.lower.items k v q (room old.lower.items h.lower)
      each Up v = ap (λ z. values_at z v) f

  pub upper_put : (q : ℚ) → new.lower.items ≡ old.lower.items → new.upper.items ≡ set old.upper.items k q → IsNow old new (with_limit Up k q (weights_in old))
  upper_put q e f = record {
    columns = columns;
    rows = rows;
    held = record {
      lower = count (length new.lower.items) (ap length e ∙ h.lower);
      upper = count (length new.upper.items) (ap length f ∙ length-set old.upper.items k q ∙ h.upper);
      few = few;
    };
    weights_are = λ i. λ side v. each side v i;
  }
    where
      each : (side : Side) (v : ℕ) → weights_in new side v ≡ with_limit Up k q (weights_in old) side v
      each Lo v = ap (λ z. values_at z v) e
      each Up v = ap (λ z. values_at z v) f ∙ set_where old.upper.items k v q (room old.upper.items h.upper)

-- ---- the same weights, written otherwise
pub same_sides : (k : ℕ) (p q : Side → ℚ) (w : Weights) → ((side : Side) → p side ≡ q side) → with_sides k p w ≡ with_sides k q w
same_sides k p q w e = λ i. λ side v. ap (λ z. cond (v == k) z (w side v)) (e side) i

-- what is written to both sides, by the side
pub both_sides : (q : Side → ℚ) (side : Side) → of_side (q Lo) (q Up) side ≡ q side
both_sides q Lo = refl
both_sides q Up = refl

pub unmade_is : (k : ℕ) (lower upper : Option Side) (w : Weights)
    → with_sides k (of_side (unless_made lower (w Lo k)) (unless_made upper (w Up k))) w ≡ unmade k lower upper w
unmade_is k lower upper w = λ i. λ side v. each side v (v == k) refl i
  where
    each : (side : Side) (v : ℕ) (b : Bool) → (v == k) ≡ b → cond b (of_side (unless_made lower (w Lo k)) (unless_made upper (w Up k)) side) (w side v) ≡ cond b (unless_made (maker lower upper side) (w side v)) (w side v)
    each Lo v true e = ap (λ n. unless_made lower (w Lo n)) (sym (eqb-true v k e))
    each Up v true e = ap (λ n. unless_made upper (w Up n)) (sym (eqb-true v k e))
    each side v false e = refl

-- two numbers that are what q gives on the sides
pub now_sides : (old new : Held) (k : ℕ) (a b : ℚ) (q : Side → ℚ) (w : Weights) → IsNow old new (with_sides k (of_side a b) w) → a ≡ q Lo → b ≡ q Up → IsNow old new (with_sides k q w)
now_sides old new k a b q w so e f = now_as old new (with_sides k (of_side a b) w) (with_sides k q w) so (same_sides k (of_side a b) q w each)
  where
    each : (side : Side) → of_side a b side ≡ q side
    each Lo = e
    each Up = f

pub now_unmade : (old new : Held) (k : ℕ) (lower upper : Option Side) (a b : ℚ) (w : Weights) → IsNow old new (with_sides k (of_side a b) w)
    → a ≡ unless_made lower (w Lo k) → b ≡ unless_made upper (w Up k) → IsNow old new (unmade k lower upper w)
now_unmade old new k lower upper a b w so e f =
    let q = of_side (unless_made lower (w Lo k)) (unless_made upper (w Up k)) in
    now_as old new (with_sides k q w) (unmade k lower upper w) (now_sides old new k a b q w so e f) (unmade_is k lower upper w)
