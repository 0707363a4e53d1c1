-- The number of a budget, by its digits.
use Rattle.std.proofs.Common.{rules, ◌≡◌, ◌≢◌, ℕ, ◌^◌, ◌<◌, ◌≤◌, Bool, true, false, ◌&&◌, cond, List, length, Some, None, refl, ap, ◌∙◌, arith}
use Rattle.std.specs.Prelude.{nat_lt, ⊤, nat_le, decimal, Result}
use Rattle.std.specs.List.{list_all}
use Rattle.std.specs.Result.{OkIff}
use Rattle.std.specs.Str.Parse.{ParsesUnsigned}
use Rattle.std.proofs.lemmas.Bool.{and_parts}
use Rattle.std.proofs.lemmas.Option.{same_Some}
use Rattle.std.proofs.lemmas.Bool.Decides.{nat_tests}
use Rattle.std.proofs.lemmas.Fmt.{decimal_nonempty, digits_decimal, digits_value-decimal}
use Rattle.std.proofs.lemmas.Str.Parse.{IsNumeralModel, numerals_by_fold, parse_digits}
use Rattle.frac128.specs.Literal.{is_dec, number_after, number_of}
use Rattle.report_text.specs.Form.{most_budget}
use Rattle.phrase_reader.specs.Numerals.{is_numeral, budget_of}
use Rattle.phrase_reader.proofs.Named.{told_if}

pub own : IsNumeralModel (λ ds. list_all is_dec ds ≡ true) (number_after 0)
unfolding number_after
own = numerals_by_fold _ (search rules) number_after (search rules)

-- what the standard library reads digits as
pub parsed : (word text : List ℕ) (r : Result ℕ ⊤) → text ≡ word → list_all is_dec word ≡ true → ParsesUnsigned 64 10 text r → OkIff r ((0 < length word) × (number_of word < 2 ^ 64)) (number_of word)
parsed word text r e h p = parse_digits own 64 word r (rw e at p) h

by_tests : (a b c : Bool) (n : ℕ) → a ≡ true → b ≡ true → c ≡ true → cond ((a && b) && c) (Some n) None ≡ Some n
by_tests a b c n e f g = rw (e, f, g) refl

-- no digits, or too many
pub no_budget : (word : List ℕ) → (0 < length word → number_of word ≤ most_budget → ⊥) → budget_of word ≡ None
no_budget word h = by (nat_lt 0 (length word)) (list_all is_dec word) (nat_le (number_of word) most_budget) refl refl
  where
    by : (a b c : Bool) → nat_lt 0 (length word) ≡ a → nat_le (number_of word) most_budget ≡ c → cond ((a && b) && c) (Some (number_of word)) None ≡ None
    by true true true e f = absurd (h (grind (arith, nat_tests)) (grind (arith, nat_tests)))
    by true true false e f = refl
    by true false c e f = refl
    by false b c e f = refl

-- as many as digits write
pub some_budget : (word : List ℕ) (n : ℕ) → length word ≢ 0 → list_all is_dec word ≡ true → number_of word ≡ n → n ≤ most_budget → budget_of word ≡ Some n
some_budget word n some digits e h =
    by_tests (nat_lt 0 (length word)) (list_all is_dec word) (nat_le (number_of word) most_budget) (number_of word) (grind (arith, nat_tests)) digits (grind (arith, nat_tests)) ∙ ap Some e

pub budget_within : (word : List ℕ) (n : ℕ) → budget_of word ≡ Some n → n ≤ most_budget
budget_within word n e =
    let t = told_if (is_numeral word && nat_le (number_of word) most_budget) (Some (number_of word)) n e in
    let within = (and_parts (is_numeral word) (nat_le (number_of word) most_budget) t.0).1 in
    let same : number_of word ≡ n = same_Some (number_of word) n t.1 in
    grind (arith, nat_tests)

-- a budget's own number
pub own_number : (n : ℕ) → n ≤ most_budget → budget_of (decimal n) ≡ Some n
own_number n h =
    let small : n < 2 ^ 64 = omega arith in
    let some : 0 < length (decimal n) = decimal_nonempty n small in
    some_budget (decimal n) n (λ e. omega arith) (digits_decimal own n small) (digits_value-decimal own n small) h
