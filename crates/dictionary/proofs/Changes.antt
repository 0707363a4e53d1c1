-- What becomes of a row other than the leaving one.
use Rattle.std.proofs.Common.{◌≡◌, ◌≢◌, refl, sym, ◌∙◌, ap, ℕ, cond, List, [], ◌∷◌, ◌++◌, None, Option, eq-eqb, ne_eqb}
use Rattle.std.proofs.lemmas.Bool.{false_from_ne_true}
use Rattle.rational.specs.Rational.{ℚ, ◌-ℚ◌, ◌*ℚ◌, inv_ℚ, neg_ℚ, zero_ℚ, one_ℚ}
use Rattle.rational.specs.Linear.{Term, factor_of}
use Rattle.rational.proofs.Field.{ring_ℚ, x0, x1, x2, ◌:-◌, ◌:*◌, minus, zero_of, unit_of, mul-inv_ℚ}
use Rattle.rational.proofs.Sums.{nothing_times}
use Rattle.rational.proofs.Compare.{eq-Decides}
use Rattle.frac128.specs.declared.Wide.{Wide as Operation}
use Rattle.frac128.specs.declared.Op.TheVariants.{Times}
use Rattle.frac128.specs.Calculation.{first_wide}
use Rattle.frac128.proofs.Calculations.{first_wide-nil}
use Rattle.certs.specs.Turns.{counted}
use Rattle.dictionary.specs.Rows.{IsRow, IsRowChanged, without, reductions, row_work}
use Rattle.dictionary.proofs.Lists.{factor_without}

pub product-nonzero : (a b : ℚ) → a ≢ zero_ℚ → b ≢ zero_ℚ → a *ℚ b ≢ zero_ℚ
product-nonzero a b d e z =
    d
    (ring_ℚ (a ∷ []) x0 (x0 :* unit_of) tt
    ∙ ap (λ y. a *ℚ y) (sym (mul-inv_ℚ b e))
    ∙ ring_ℚ (a ∷ b ∷ inv_ℚ b ∷ []) (x0 :* (x1 :* x2)) ((x0 :* x1) :* x2) tt
    ∙ ap (λ y. y *ℚ inv_ℚ b) z
    ∙ nothing_times (inv_ℚ b))

module _ (leaving entering : ℕ) (inverse : ℚ) (Q old : List Term) where
  abbrev a : ℚ
  a = factor_of old entering

  pub stays : IsRow old → factor_of old leaving ≡ zero_ℚ → a ≡ zero_ℚ → IsRowChanged leaving entering inverse Q old old
  stays is e z = record {
    is_row = is;
    own = e ∙ sym (ap (λ y. y *ℚ inverse) z ∙ nothing_times inverse);
    gone = z;
    others = λ k d f. ring_ℚ (factor_of old k ∷ factor_of Q k ∷ []) x0 (x0 :- zero_of :* x1) tt ∙ ap (λ y. factor_of old k -ℚ y *ℚ factor_of Q k) (sym z);
  }

  module _ (M : List Term) (reduced : (k : ℕ) → factor_of M k ≡ factor_of (without entering old) k -ℚ a *ℚ factor_of Q k) where
    nothing_taken : (x : ℚ) → x ≡ zero_ℚ → zero_ℚ -ℚ a *ℚ x ≡ zero_ℚ
    nothing_taken x z = ap (λ y. zero_ℚ -ℚ a *ℚ y) z ∙ ring_ℚ (a ∷ []) (zero_of :- x0 :* zero_of) zero_of tt

    pub leaving_new : factor_of old leaving ≡ zero_ℚ → factor_of Q leaving ≡ zero_ℚ → leaving ≢ entering → factor_of M leaving ≡ zero_ℚ
    leaving_new e z d = reduced leaving ∙ ap (λ y. y -ℚ a *ℚ factor_of Q leaving) (factor_without entering old leaving ∙ ap (λ b. cond b zero_ℚ (factor_of old leaving)) (ne_eqb leaving entering d) ∙ e) ∙ nothing_taken (factor_of Q leaving) z

    pub changes : (new : List Term) (x : ℚ) → IsRow new → x ≡ a *ℚ inverse → factor_of new leaving ≡ x → ((k : ℕ) → k ≢ leaving → factor_of new k ≡ factor_of M k) → leaving ≢ entering → factor_of Q entering ≡ zero_ℚ → IsRowChanged leaving entering inverse Q old new
    changes new x is e own others apart z = record {
      is_row = is;
      own = own ∙ e;
      gone =
          others entering (λ f. apart (sym f))
          ∙ reduced entering
          ∙ ap (λ y. y -ℚ a *ℚ factor_of Q entering) (factor_without entering old entering ∙ ap (λ b. cond b zero_ℚ (factor_of old entering)) (eq-eqb entering entering refl))
          ∙ nothing_taken (factor_of Q entering) z;
      others = λ k d f. others k d ∙ reduced k ∙ ap (λ y. y -ℚ a *ℚ factor_of Q k) (factor_without entering old k ∙ ap (λ b. cond b zero_ℚ (factor_of old k)) (ne_eqb k entering f));
    }

  -- ---- its operations
  pub work-none : (m : ℕ) → a ≡ zero_ℚ → first_wide m (row_work entering inverse Q old) ≡ None
  work-none m z = ap (λ b. first_wide m (cond b [] (counted Times a inverse ++ reductions a (without entering old) Q))) ((eq-Decides a zero_ℚ).1 z) ∙ first_wide-nil m

  pub work-some : (m : ℕ) (t : Option Operation) → a ≢ zero_ℚ → first_wide m (counted Times a inverse ++ reductions a (without entering old) Q) ≡ t → first_wide m (row_work entering inverse Q old) ≡ t
  work-some m t d h = ap (λ b. first_wide m (cond b [] (counted Times a inverse ++ reductions a (without entering old) Q))) (false_from_ne_true _ (λ e. d ((eq-Decides a zero_ℚ).0 e))) ∙ h

-- ---- quotients and opposites
pub quotient-nonzero : (p : ℚ) → p ≢ zero_ℚ → (x : ℚ) → x ≢ zero_ℚ → x *ℚ inv_ℚ p ≢ zero_ℚ
quotient-nonzero p e x d z =
    d
    (ring_ℚ (x ∷ []) x0 (x0 :* unit_of) tt
    ∙ ap (λ y. x *ℚ y) (sym (mul-inv_ℚ p e))
    ∙ ring_ℚ (x ∷ p ∷ inv_ℚ p ∷ []) (x0 :* (x1 :* x2)) ((x0 :* x2) :* x1) tt
    ∙ ap (λ y. y *ℚ p) z
    ∙ nothing_times p)

pub inverse-nonzero : (p : ℚ) → p ≢ zero_ℚ → one_ℚ *ℚ inv_ℚ p ≢ zero_ℚ
inverse-nonzero p e z =
    e
    (ring_ℚ (p ∷ []) x0 (x0 :* unit_of) tt
    ∙ ap (λ y. p *ℚ y) (sym (mul-inv_ℚ p e))
    ∙ ring_ℚ (p ∷ inv_ℚ p ∷ []) (x0 :* (x0 :* x1)) ((x0 :* x0) :* (unit_of :* x1)) tt
    ∙ ap (λ y. (p *ℚ p) *ℚ y) z
    ∙ ring_ℚ (p ∷ []) ((x0 :* x0) :* zero_of) zero_of tt)

pub opposite-nonzero : (x : ℚ) → x ≢ zero_ℚ → neg_ℚ x ≢ zero_ℚ
opposite-nonzero x d z = d (ring_ℚ (x ∷ []) x0 (minus (minus x0)) tt ∙ ap neg_ℚ z ∙ ring_ℚ [] (minus zero_of) zero_of tt)
