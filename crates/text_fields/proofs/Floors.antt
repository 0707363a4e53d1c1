-- A whole number is at most a value exactly where it is at most the value's floor.
use Rattle.std.proofs.Common.{◌≡◌, ◌^◌, Bool, true, false, ℤ, pos, refl, sym, ap, subst, ◌∙◌, ◌+ℤ◌, ◌≤ℤ◌, arith}
use Rattle.std.proofs.Math.Dec.{T}
use Rattle.std.specs.Prelude.{int_le, FitsSigned}
use Rattle.std.specs.Int.{cast_signed, cast_unsigned, w128}
use Rattle.std.specs.Int.Signed.{le_z_yes}
use Rattle.std.proofs.lemmas.Int.{ints, to_z-of_z}
use Rattle.rational.specs.Rational.{ℚ, whole, floor, le_q, ◌≤ℚ◌}
use Rattle.rational.proofs.Order.{frac-le, frac-lt, le_trans_ℚ, le-lt_trans_ℚ}
use Rattle.rational.proofs.Whole.{floor-le, lt-floor}
use Rattle.rational.proofs.Compare.{le_q-Decides}
use Rattle.text_fields.specs.Numbers.{far}

pub floor-far : (m : ℤ) (v : ℚ) → m ≤ℤ floor v → whole m ≤ℚ v
floor-far m v h = le_trans_ℚ ((frac-le m (floor v) 1 1 (omega arith) (omega arith)).1 (omega (arith, ints))) (floor-le v)

pub far-floor : (m : ℤ) (v : ℚ) → whole m ≤ℚ v → m ≤ℤ floor v
far-floor m v h =
    let l = (frac-lt m (floor v +ℤ pos 1) 1 1 (omega arith) (omega arith)).0 (le-lt_trans_ℚ h (lt-floor v)) in
    omega (arith, ints, l)

-- tests that are true together are the same
pub same_test : (a b : Bool) → (a ≡ true → b ≡ true) → (b ≡ true → a ≡ true) → a ≡ b
same_test true b f g = sym (f refl)
same_test false true f g = g refl
same_test false false f g = refl

t_true : (b : Bool) → T b → b ≡ true
t_true true h = refl
t_true false h = absurd h

-- the code's test of a floor
pub far-test : (v : ℚ) (z : ℤ) → z ≡ floor v → FitsSigned w128 z → int_le (pos (10 ^ 20)) (cast_signed w128 (cast_unsigned w128 z)) ≡ le_q far v
far-test v z e h =
    let read : int_le (pos (10 ^ 20)) (cast_signed w128 (cast_unsigned w128 z)) ≡ int_le (pos (10 ^ 20)) (floor v) = ap (int_le (pos (10 ^ 20))) (to_z-of_z w128 z h ∙ e) in
    same_test (int_le (pos (10 ^ 20)) (cast_signed w128 (cast_unsigned w128 z))) (le_q far v)
    (λ t. (le_q-Decides far v).1 (floor-far (pos (10 ^ 20)) v (le_z_yes (subst T (sym t ∙ read) tt))))
    (λ l. read ∙ t_true (int_le (pos (10 ^ 20)) (floor v)) (far-floor (pos (10 ^ 20)) v ((le_q-Decides far v).0 l)).le)
