-- The numbers of a path, as fractions.
use Rattle.std.proofs.Common.{◌≡◌, ◌≢◌, refl, sym, ◌∙◌, ap, ℕ, true, false, true≢false, ◌&&◌, ◌==◌, not, List, [], ◌∷◌, Option, None, Some, IfSome, Result, Ok, Err}
use Rattle.std.specs.Prelude.{All, ◌↔◌, IfOk, int_lt}
use Rattle.std.specs.Result.{result_ok}
use Rattle.std.proofs.lemmas.Bool.{cond_both}
use Rattle.std.proofs.lemmas.List.Elements.{All-head, All-tail}
use lib.IntN.{ℤ, pos}
use Rattle.algebra.proofs.Ring.{x0, ◌:*◌, unit_of}
use Rattle.rational.specs.Rational.{ℚ, frac, whole, zero_ℚ, ◌/ℚ◌}
use Rattle.rational.proofs.Field.{ring_ℚ, div_from_ℚ}
use Rattle.rational.proofs.Whole.{whole_some, lowest-parts}
use Rattle.frac128.proofs.Widths.{fits_from}
use Rattle.algebra.proofs.Gcd.{one_pos, coprime_one}
use Rattle.std.proofs.Common.{◌<◌, ◌≤◌, subst, inl, inr, arith, unsigned_abs}
use Rattle.frac128.specs.declared.FracStop.{FracStop}
use Rattle.frac128.specs.declared.FracStop.TheVariants.{ZeroDen, Wide}
use Rattle.frac128.specs.Limit.{limit}
use Rattle.frac128.specs.Width.{is_too_wide}
use Rattle.certs.specs.declared.evidence.Branch.{Branch}
use Rattle.certs.specs.declared.evidence.Share.{Share}
use Rattle.lp_model.specs.Program.{Program}
use Rattle.std.specs.Option.{unwrap_or}
use Rattle.certs.specs.Combination.{lesser, greater, least_upper, greatest_lower, IsFitting, source_number, number_or_zero}

abbrev Fits : ℤ → Type 0
Fits n = unsigned_abs n ≤ limit

lesser_fits : (a : ℤ) (o : Option ℤ) → Fits a → IfSome o Fits → Fits (lesser a o)
lesser_fits a None h k = h
lesser_fits a (Some b) h k = cond_both (int_lt b a) b a Fits (λ _. k) (λ _. h)

greater_fits : (a : ℤ) (o : Option ℤ) → Fits a → IfSome o Fits → Fits (greater a o)
greater_fits a None h k = h
greater_fits a (Some b) h k = cond_both (int_lt a b) b a Fits (λ _. k) (λ _. h)

pub least_fits : (path : List Branch) (j : ℕ) → All IsFitting path → IfSome (least_upper path j) (λ n. unsigned_abs n ≤ limit)
least_fits [] j h = tt
least_fits (b ∷ path) j h =
    let rest : IfSome (least_upper path j) Fits = least_fits path j (All-tail IsFitting b path h) in
    cond_both ((b.column == j) && b.upper) (Some (lesser b.at (least_upper path j))) (least_upper path j) (λ o. IfSome o Fits)
    (λ _. lesser_fits b.at (least_upper path j) (All-head IsFitting b path h) rest) (λ _. rest)

pub greatest_fits : (path : List Branch) (j : ℕ) → All IsFitting path → IfSome (greatest_lower path j) (λ n. unsigned_abs n ≤ limit)
greatest_fits [] j h = tt
greatest_fits (b ∷ path) j h =
    let rest : IfSome (greatest_lower path j) Fits = greatest_fits path j (All-tail IsFitting b path h) in
    cond_both ((b.column == j) && not b.upper) (Some (greater b.at (greatest_lower path j))) (greatest_lower path j) (λ o. IfSome o Fits)
    (λ _. greater_fits b.at (greatest_lower path j) (All-head IsFitting b path h) rest) (λ _. rest)

-- ---- a whole number that fits is a fraction
over_one : (n : ℤ) → whole n /ℚ whole (pos 1) ≡ whole n
over_one n = sym (div_from_ℚ (whole n) (whole (pos 1)) (whole n) (whole_some (pos 1) (λ e. cc)) (ring_ℚ (whole n ∷ []) (x0 :* unit_of) x0 tt))

whole_fits : (n : ℤ) → unsigned_abs n ≤ limit → is_too_wide limit (whole n) ≡ false
whole_fits n h =
    let parts : ((frac n 1).num ≡ n) × ((frac n 1).den ≡ 1) = lowest-parts n 1 one_pos (coprime_one (unsigned_abs n)) in
    fits_from limit (whole n) (λ w. elim w [
      | inl k ↦ (let l : limit < unsigned_abs n = subst (λ (z : ℤ). limit < unsigned_abs z) parts.0 k in absurd (omega arith))
      | inr k ↦ (let l : limit < 1 = subst (λ (d : ℕ). limit < d) parts.1 k in absurd (omega arith))
    ])

-- m is the number as the machine reads it
pub fraction_of : (n m : ℤ) (r : Result ℚ FracStop) → m ≡ n → ((r ≡ Err ZeroDen) ↔ (pos 1 ≡ pos 0))
    → ((r ≡ Err Wide) ↔ ((pos 1 ≢ pos 0) × (is_too_wide limit (whole m /ℚ whole (pos 1)) ≡ true))) → IfOk r (λ v. v ≡ whole m /ℚ whole (pos 1)) → unsigned_abs n ≤ limit → result_ok r ≡ Some (whole n)
fraction_of n m (Ok v) s z w k f = ap (λ (q : ℚ). Some q) (k ∙ (over_one m ∙ ap whole s))
fraction_of n m (Err ZeroDen) s z w k f = (let e : pos 1 ≡ pos 0 = z.0 refl in cc)
fraction_of n m (Err Wide) s z w k f = absurd (true≢false (sym ((w.0 refl).1) ∙ (ap (λ (q : ℚ). is_too_wide limit q) (over_one m ∙ ap whole s) ∙ whole_fits n f)))

-- ---- the number on a side, or 0
or_zero : (o : Option ℚ) → unwrap_or o zero_ℚ ≡ number_or_zero o
or_zero None = refl
or_zero (Some b) = refl

pub number_read : (model : Program) (path : List Branch) (s : Share) (o : Option ℚ) (z n : ℚ) → o ≡ source_number model path s.source → z ≡ zero_ℚ → n ≡ unwrap_or o z
    → n ≡ number_or_zero (source_number model path s.source)
number_read model path s o z n e f g = g ∙ (ap (λ (q : ℚ). unwrap_or o q) f ∙ (or_zero o ∙ ap number_or_zero e))
