-- The numbers that words of a script write.
use Rattle.std.specs.Prelude.{ℕ, ◌&&◌, nat_lt, nat_le, not, Bool, cond, List, [], ◌∷◌, length, codes, Option, Some, None, option_map}
use Rattle.std.specs.List.{list_all}
use Rattle.std.specs.Option.{option_and_then}
use Rattle.std.specs.Str.{bytes_eq}
use Rattle.algebra.specs.Sign.{signed_of}
use Rattle.rational.specs.Rational.{ℚ, frac, zero_ℚ, lt_q}
use Rattle.frac128.specs.Limit.{limit}
use Rattle.frac128.specs.Width.{is_too_wide}
use Rattle.frac128.specs.Printed.{printed}
use Rattle.frac128.specs.Literal.{is_dec, number_of, past_sign, past_digits}
use Rattle.frac128.specs.declared.literal.Literal.{Literal}
use Rattle.frac128.specs.declared.literal.Literal.TheVariants.{Fits, TooWide}
use Rattle.text_fields.specs.Numbers.{literal_in, bound_of, is_wide_bound}
use Rattle.lp_model.specs.declared.parts.Weight.{Weight}
use Rattle.lp_model.specs.declared.parts.Weight.TheVariants.{Soft, Rigid}
use Rattle.report_text.specs.Form.{most_budget}

-- ---- budgets
-- one digit or more
abbrev pub is_numeral : List ℕ → Bool
is_numeral word = nat_lt 0 (length word) && list_all is_dec word

-- the budget that a word writes, where it is digits and the number is not too great
abbrev pub budget_of : List ℕ → Option ℕ
budget_of word = cond (is_numeral word && nat_le (number_of word) most_budget) (Some (number_of word)) None

-- ---- fractions
-- the number below the line: that of the digits behind its mark, or 1 where there is no line
abbrev pub bottom_of : List ℕ → ℕ
bottom_of [] = 1
bottom_of (mark ∷ digits) = number_of digits

-- the fraction that a sign, digits, a mark and digits write
unfoldable pub quotient_in : List ℕ → ℚ
quotient_in word =
    let sign = past_sign word in
    let top = past_digits sign.1 in
    frac (signed_of sign.0 (number_of top.0)) (bottom_of top.1)

-- the number, where it fits and the word is its printed form
abbrev pub printed_as : List ℕ → ℚ → Option ℚ
printed_as word q = cond (not (is_too_wide limit q) && bytes_eq word (printed q)) (Some q) None

-- the fraction whose printed form a word is
abbrev pub fraction_in : List ℕ → Option ℚ
fraction_in word = printed_as word (quotient_in word)

-- ---- literals, and else fractions
-- what is said of the literal, or else of what is none
abbrev pub by_literal : {X : Type 0} → (Literal → Option X) → Option Literal → Option X → Option X
by_literal say None other = other
by_literal say (Some literal) other = say literal

-- the value of a literal that fits
abbrev pub value_of : Literal → Option ℚ
value_of (Fits value) = Some value
value_of (TooWide huge negative) = None

-- the value that a word writes, as a literal that fits or as a printed fraction
abbrev pub value_in : List ℕ → Option ℚ
value_in word = by_literal value_of (literal_in word) (fraction_in word)

-- the side or the bound that a literal says, where it fits or is huge: a huge one says that there is none
abbrev pub limit_of : Literal → Option (Option ℚ)
limit_of literal = cond (is_wide_bound literal) None (Some (bound_of literal))

-- the same of a word, where it is a literal or a printed fraction, which is never huge
abbrev pub number_limit : List ℕ → Option (Option ℚ)
number_limit word = by_literal limit_of (literal_in word) (option_map Some (fraction_in word))

-- the side or the bound that a word writes: `none`, or a number
abbrev pub limit_in : List ℕ → Option (Option ℚ)
limit_in word = cond (bytes_eq word (codes "none")) (Some None) (number_limit word)

-- a value above 0 as a weight
abbrev pub soft_weight : ℚ → Option Weight
soft_weight v = cond (lt_q zero_ℚ v) (Some (Soft v)) None

-- the weight that a word writes: `rigid`, or a value above 0
abbrev pub weight_in : List ℕ → Option Weight
weight_in word = cond (bytes_eq word (codes "rigid")) (Some Rigid) (option_and_then soft_weight (value_in word))
