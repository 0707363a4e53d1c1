-- No limits of a well-formed system cross.
use Rattle.std.proofs.Common.{◌≡◌, ◌+◌, ◌<◌, refl, sym, subst, arith, ℕ, Bool, true, false, length, Option, Some, None}
use Rattle.std.specs.Prelude.{IfSome}
use Rattle.rational.specs.Rational.{ℚ, ◌≤ℚ◌, lt_q}
use Rattle.rational.proofs.Order.{lt_q-true, lt-le_clash_ℚ}
use Rattle.certs.specs.Ended.{numbers_from}
use Rattle.certs.specs.Plain.{are_crossed, crosses, first_crossing}
use Rattle.certs.specs.System.{Limits, LinearSystem, no_limits}
use Rattle.certs.specs.Tableau.{IsWellFormedSystem, start_tableau}
use Rattle.certs.proofs.Feasible.{limits_are}
use Rattle.certs.proofs.Starts.{length_limits, start_law}
use Rattle.certs.proofs.Translated.{length_numbers, number_at}
use Rattle.simplex.proofs.Firsts.{find-none}

uncrossed : (lower upper : Option ℚ) → IfSome lower (λ l. IfSome upper (λ u. l ≤ℚ u)) → are_crossed lower upper ≡ false
uncrossed None upper h = refl
uncrossed (Some l) None h = refl
uncrossed (Some l) (Some u) h = by (lt_q u l) refl
  where
    by : (t : Bool) → lt_q u l ≡ t → t ≡ false
    by true e = lt-le_clash_ℚ (lt_q-true u l e) h
    by false e = refl

module _ (system : LinearSystem) (formed : IsWellFormedSystem system) where
  abbrev count : ℕ
  count = length system.columns + length system.rows

  none_at : (v : ℕ) → v < count → crosses system v ≡ false
  none_at v l =
      subst (λ (z : Limits). are_crossed z.lower z.upper ≡ false) (limits_are system (start_tableau system) (start_law system formed) v l)
      (uncrossed _ _ (formed.ordered v no_limits (let e = length_limits system in omega (arith, e, l))))

  pub apart : first_crossing system ≡ None
  apart =
      find-none (crosses system) (numbers_from 0 count)
      (λ i d h. let l : i < count = subst (λ n. i < n) (length_numbers 0 count) h in
      subst (λ v. crosses system v ≡ false) (sym (number_at 0 count i d l)) (none_at (0 + i) (omega (arith, l))))
