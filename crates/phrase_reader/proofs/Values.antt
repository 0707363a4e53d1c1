-- Values, sides and weights that words write: each that may be given is read from its printed form, and no other is read.
use Rattle.std.proofs.Common.{◌≡◌, refl, sym, ap, subst, ◌∙◌, ℕ, Bool, true, false, true≢false, cond, List, get_or, Option, Some, None, inl, inr}
use Rattle.std.specs.Prelude.{codes, option_map}
use Rattle.std.specs.Option.{option_and_then}
use Rattle.std.specs.Str.{bytes_eq}
use Rattle.std.proofs.lemmas.Bool.{cases_eq, false_from_ne_true}
use Rattle.std.proofs.lemmas.Option.{same_Some, option_and_then_some}
use Rattle.std.proofs.lemmas.Slice.Eq.{bytes_eq-Decides}
use Rattle.rational.specs.Rational.{ℚ, zero_ℚ, lt_q}
use Rattle.rational.proofs.Compare.{lt_q-Decides}
use Rattle.frac128.specs.Printed.{printed}
use Rattle.frac128.specs.Literal.{is_dec, past_sign}
use Rattle.frac128.specs.declared.literal.Literal.{Literal}
use Rattle.frac128.specs.declared.literal.Literal.TheVariants.{Fits, TooWide}
use Rattle.text_fields.specs.Numbers.{literal_in, is_far}
use Rattle.lp_model.specs.declared.parts.Weight.{Weight}
use Rattle.lp_model.specs.declared.parts.Weight.TheVariants.{Soft, Rigid}
use Rattle.report_text.specs.Grammar.{limit_word, weight_word}
use Rattle.report_text.specs.Form.{IsWithinLimit, IsLimit, IsWeight}
use Rattle.phrase_reader.specs.Numerals.{fraction_in, by_literal, value_of, value_in, limit_of, number_limit, limit_in, soft_weight, weight_in}
use Rattle.phrase_reader.proofs.Named.{told, told_if}
use Rattle.phrase_reader.proofs.Quotients.{printed_begins, whole_literal, part_literal, own_fraction, fraction_said}
use Rattle.phrase_reader.proofs.Fits.{literal_within}

-- ---- printed numbers
-- no word of letters is a printed number
letter : (word : List ℕ) → is_dec (get_or (past_sign word).1 0 0) ≡ false → (q : ℚ) → IsWithinLimit q → bytes_eq (printed q) word ≡ false
letter word e q h = false_from_ne_true (bytes_eq (printed q) word) (λ t. true≢false (sym (printed_begins q h) ∙ ap (λ (w : List ℕ). is_dec (get_or (past_sign w).1 0 0)) ((bytes_eq-Decides (printed q) word).0 t) ∙ e))

none_letter : is_dec (get_or (past_sign (codes "none")).1 0 0) ≡ false
unfolding past_sign
none_letter = refl

rigid_letter : is_dec (get_or (past_sign (codes "rigid")).1 0 0) ≡ false
unfolding past_sign
rigid_letter = refl

-- ---- values
pub own_value : (q : ℚ) → IsWithinLimit q → value_in (printed q) ≡ Some q
own_value q h = elim (cases_eq q.den 1) [
  | inl one ↦ ap (λ (o : Option Literal). by_literal value_of o (fraction_in (printed q))) (whole_literal q h one)
  | inr n ↦ ap (λ (o : Option Literal). by_literal value_of o (fraction_in (printed q))) (part_literal q h n) ∙ own_fraction (printed q) q (h, refl)
]

value_within : (word : List ℕ) (q : ℚ) → value_in word ≡ Some q → IsWithinLimit q
value_within word q e = by (literal_in word) refl e
  where
    by : (o : Option Literal) → literal_in word ≡ o → by_literal value_of o (fraction_in word) ≡ Some q → IsWithinLimit q
    by None f g = (fraction_said word q g).0
    by (Some (Fits v)) f g = subst IsWithinLimit (same_Some v q g) (literal_within word v f)
    by (Some (TooWide huge negative)) f g = absurd (let s : None ≡ Some q = g in cc)

-- ---- sides and bounds
near_limit : (q : ℚ) → is_far q ≡ false → limit_of (Fits q) ≡ Some (Some q)
near_limit q e = ap (λ (b : Bool). Some (cond b None (Some q))) e

number_own : (q : ℚ) → IsLimit (Some q) → number_limit (printed q) ≡ Some (Some q)
number_own q h = elim (cases_eq q.den 1) [
  | inl one ↦ ap (λ (o : Option Literal). by_literal limit_of o (option_map Some (fraction_in (printed q)))) (whole_literal q h.0 one) ∙ near_limit q (h.1 one)
  | inr n ↦ ap (λ (o : Option Literal). by_literal limit_of o (option_map Some (fraction_in (printed q)))) (part_literal q h.0 n) ∙ ap (option_map Some) (own_fraction (printed q) q (h.0, refl))
]

pub own_limit : (v : Option ℚ) → IsLimit v → limit_in (limit_word v) ≡ Some v
own_limit None h = refl
own_limit (Some q) h = ap (λ (b : Bool). cond b (Some None) (number_limit (printed q))) (letter (codes "none") none_letter q h.0) ∙ number_own q h

literal_built : (word : List ℕ) (literal : Literal) (v : Option ℚ) → literal_in word ≡ Some literal → limit_of literal ≡ Some v → IsLimit v
literal_built word (Fits q) v e g = by (is_far q) refl g
  where
    by : (far : Bool) → is_far q ≡ far → Some (cond far None (Some q)) ≡ Some v → IsLimit v
    by true f g = subst IsLimit (same_Some None v g) tt
    by false f g = subst IsLimit (same_Some (Some q) v g) (literal_within word q e, λ _. f)
literal_built word (TooWide true negative) v e g = subst IsLimit (same_Some None v g) tt
literal_built word (TooWide false negative) v e g = absurd (let s : None ≡ Some v = g in cc)

number_built : (word : List ℕ) (v : Option ℚ) → number_limit word ≡ Some v → IsLimit v
number_built word v e = by (literal_in word) refl e
  where
    fraction : (q : ℚ) → fraction_in word ≡ Some q → literal_in word ≡ None → IsLimit (Some q)
    fraction q g f =
        let said = fraction_said word q g in (
          said.0,
          λ one. absurd (let s : None ≡ Some (Fits q) = sym f ∙ ap literal_in said.1 ∙ whole_literal q said.0 one in cc),
        )

    by : (o : Option Literal) → literal_in word ≡ o → by_literal limit_of o (option_map Some (fraction_in word)) ≡ Some v → IsLimit v
    by None f g = let t = told Some (fraction_in word) v g in subst IsLimit t.1.1 (fraction t.0 t.1.0 f)
    by (Some literal) f g = literal_built word literal v f g

pub limit_built : (word : List ℕ) (v : Option ℚ) → limit_in word ≡ Some v → IsLimit v
limit_built word v e = by (bytes_eq word (codes "none")) e
  where
    by : (b : Bool) → cond b (Some None) (number_limit word) ≡ Some v → IsLimit v
    by true g = subst IsLimit (same_Some None v g) tt
    by false g = number_built word v g

-- ---- weights
pub own_weight : (w : Weight) → IsWeight w → weight_in (weight_word w) ≡ Some w
own_weight Rigid h = refl
own_weight (Soft q) h =
    ap (λ (b : Bool). cond b (Some Rigid) (option_and_then soft_weight (value_in (printed q)))) (letter (codes "rigid") rigid_letter q h.0)
    ∙ ap (option_and_then soft_weight) (own_value q h.0)
    ∙ ap (λ (b : Bool). cond b (Some (Soft q)) None) ((lt_q-Decides zero_ℚ q).1 h.1)

soft_built : (word : List ℕ) (q : ℚ) (w : Weight) → value_in word ≡ Some q → soft_weight q ≡ Some w → IsWeight w
soft_built word q w e g =
    let t = told_if (lt_q zero_ℚ q) (Some (Soft q)) w g in
    subst IsWeight (same_Some (Soft q) w t.1) (value_within word q e, (lt_q-Decides zero_ℚ q).0 t.0)

pub weight_built : (word : List ℕ) (w : Weight) → weight_in word ≡ Some w → IsWeight w
weight_built word w e = by (bytes_eq word (codes "rigid")) e
  where
    by : (b : Bool) → cond b (Some Rigid) (option_and_then soft_weight (value_in word)) ≡ Some w → IsWeight w
    by true g = subst IsWeight (same_Some Rigid w g) tt
    by false g = option_and_then_some soft_weight (value_in word) w g (λ q f k. soft_built word q w f k)
