-- A tableau of a system is a table of it.
use Rattle.std.proofs.Common.{◌≡◌, ◌+◌, ◌<◌, ℕ, suc, refl, sym, ◌∙◌, ap, subst, Bool, true, false, cond, not, ◌==◌, List, [], ◌∷◌, map, length, is_some, arith, eq-eqb}
use Rattle.std.specs.Prelude.{All}
use Rattle.std.proofs.lemmas.Bool.{not-true}
use Rattle.std.proofs.lemmas.List.Elements.{All-map, All-weaker}
use Rattle.algebra.proofs.Ring.{x0, ◌:+◌, zero_of}
use Rattle.rational.specs.Rational.{ℚ, ◌+ℚ◌, ◌*ℚ◌, zero_ℚ}
use Rattle.rational.specs.Sum.{sum_over}
use Rattle.rational.specs.Linear.{Term, factor_of}
use Rattle.rational.proofs.Field.{ring_ℚ}
use Rattle.rational.proofs.Sums.{sum_below-ext, sum_below-zero}
use Rattle.certs.specs.System.{LinearSystem, is_basic}
use Rattle.certs.specs.Tableau.{Tableau, IsTableauOf, nonbasics}
use Rattle.certs.proofs.Choices.{below_all}
use Rattle.certs.proofs.Tableaus.{sum_passing, taken_out}
use Rattle.evidence_laws.specs.Tables.{TermsLaw, terms_of}

sum_mapped : {A B : Type 0} (f : B → ℚ) (g : A → B) (xs : List A) → sum_over f (map g xs) ≡ sum_over (λ a. f (g a)) xs
sum_mapped f g [] = refl
sum_mapped f g (a ∷ xs) = ap (λ z. f (g a) +ℚ z) (sum_mapped f g xs)

few_columns : (a b k : ℕ) (c : Bool) → k < a + b + cond c 1 0 → k < a + suc b
few_columns a b k true l = omega (arith, l)
few_columns a b k false l = omega (arith, l)

module _ (t : Tableau) (i : ℕ) where
  abbrev term : ℕ → Term
  term k = record { column = k; factor = t.factor i k }

  abbrev free : ℕ → Bool
  free k = not (is_basic t.basis k)

  is_table_row : (system : LinearSystem) → IsTableauOf system t → All (λ (s : Term). (is_basic t.basis s.column ≡ false) × (s.column < length system.columns + suc (length system.rows))) (terms_of t i)
  is_table_row system of =
      All-map (λ (s : Term). (is_basic t.basis s.column ≡ false) × (s.column < length system.columns + suc (length system.rows))) term (nonbasics t.basis)
      (All-weaker (λ k. (k < length t.basis) × (free k ≡ true)) (λ k. (is_basic t.basis k ≡ false) × (k < length system.columns + suc (length system.rows)))
      (λ k h. (not-true (is_basic t.basis k) h.1, few_columns (length system.columns) (length system.rows) k (is_some system.objective) (subst (λ n. k < n) of.size h.0)))
      (nonbasics t.basis) (below_all free (length t.basis)))

  -- only one term has the column
  others_nothing : (k j : ℕ) → cond (j == k) zero_ℚ (cond (free j) (cond (j == k) (t.factor i j) zero_ℚ) zero_ℚ) ≡ zero_ℚ
  others_nothing k j = by (j == k) (free j)
    where
      by : (a b : Bool) → cond a zero_ℚ (cond b (cond a (t.factor i j) zero_ℚ) zero_ℚ) ≡ zero_ℚ
      by true b = refl
      by false true = refl
      by false false = refl

  factor_is : (k : ℕ) → k < length t.basis → is_basic t.basis k ≡ false → factor_of (terms_of t i) k ≡ t.factor i k
  factor_is k l e =
      let n : ℕ = length t.basis in
      let h : ℕ → ℚ = λ j. cond (free j) (cond (j == k) (t.factor i j) zero_ℚ) zero_ℚ in
      sum_mapped (λ (s : Term). cond (s.column == k) s.factor zero_ℚ) term (nonbasics t.basis)
      ∙ sum_passing (λ j. cond (j == k) (t.factor i j) zero_ℚ) n free
      ∙ taken_out n k h l
      ∙ ap (λ z. h k +ℚ z) (sum_below-ext n (λ j. cond (j == k) zero_ℚ (h j)) (λ j. zero_ℚ) (λ j m. others_nothing k j) ∙ sum_below-zero n)
      ∙ ap (λ b. cond (not b) (cond (k == k) (t.factor i k) zero_ℚ) zero_ℚ +ℚ zero_ℚ) e
      ∙ ap (λ b. cond b (t.factor i k) zero_ℚ +ℚ zero_ℚ) (eq-eqb k k refl)
      ∙ ring_ℚ (t.factor i k ∷ []) (x0 :+ zero_of) x0 tt

pub terms_law : TermsLaw
terms_law system t of = (
  record {
    equals = λ x keeps i b. (of.table x).0 keeps i b ∙ sym (sum_mapped (λ (s : Term). s.factor *ℚ x s.column) (term t i) (nonbasics t.basis));
    nonbasic = λ i b.
        All-weaker (λ (s : Term). (is_basic t.basis s.column ≡ false) × (s.column < length system.columns + suc (length system.rows))) (λ (s : Term). is_basic t.basis s.column ≡ false) (λ s h. h.0) (terms_of t i)
        (is_table_row t i system of);
    known = λ i b.
        All-weaker (λ (s : Term). (is_basic t.basis s.column ≡ false) × (s.column < length system.columns + suc (length system.rows))) (λ (s : Term). s.column < length system.columns + suc (length system.rows)) (λ s h. h.1) (terms_of t i)
        (is_table_row t i system of);
  },
  λ i k l e. factor_is t i k l e,
)
