-- How many lines there are of a point.
use Rattle.std.proofs.Common.{◌≡◌, refl, ap, ℕ, suc, ◌+◌, Bool, true, false, cond, not, List, [], ◌∷◌, length, filter, arith}
use Rattle.rational.specs.Rational.{ℚ, zero_ℚ, eq_ℚ}
use Rattle.certs.specs.declared.evidence.Point.{Point}
use Rattle.report_text.specs.declared.phrases.Phrase.{Phrase}
use Rattle.report_text.specs.Grammar.{value_phrases, point_phrases}

-- a line for each value that is not 0
value_count : (j : ℕ) (values : List ℚ) → length (value_phrases j values) ≡ length (filter (λ v. not (eq_ℚ v zero_ℚ)) values)
value_count j [] = refl
value_count j (v ∷ values) = by (eq_ℚ v zero_ℚ) (value_count (suc j) values)
  where
    by : (b : Bool) → length (value_phrases (suc j) values) ≡ length (filter (λ v. not (eq_ℚ v zero_ℚ)) values) → length (cond b (value_phrases (suc j) values) (Phrase.Value j v ∷ value_phrases (suc j) values)) ≡ length (cond (not b) (v ∷ filter (λ v. not (eq_ℚ v zero_ℚ)) values) (filter (λ v. not (eq_ℚ v zero_ℚ)) values))
    by true e = e
    by false e = ap suc e

pub point_count : (p : Point) → 1 + length (filter (λ v. not (eq_ℚ v zero_ℚ)) p.values) ≡ length (point_phrases p)
point_count p =
    let values : length (value_phrases 0 p.values) ≡ length (filter (λ v. not (eq_ℚ v zero_ℚ)) p.values) = value_count 0 p.values in
    let h : length (point_phrases p) ≡ suc (length (value_phrases 0 p.values)) = refl in
    omega (arith, h, values)
