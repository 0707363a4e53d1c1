-- There are at most as many bases as 3 to the number of columns and rows, so that an improve run does with as many turns.
use Rattle.std.proofs.Common.{◌≡◌, ◌*◌, ◌+◌, ◌^◌, ◌<◌, ◌≤◌, refl, sym, ◌∙◌, ap, subst, ℕ, zero, suc, Bool, true, false, true≢false, eqb, List, [], ◌∷◌, length, get_or, IsSome, is_some, cond, arith, inl, inr}
use lib.Dec.{T, eqb→eq}
use native.Mathlib.Nat.{mul-le-mul_right}
use Rattle.std.specs.List.{list_any, IsDistinct, AllByRecursion}
use Rattle.std.proofs.lemmas.Bool.{cases_lt, or_cases}
use Rattle.std.proofs.lemmas.List.{ext_get_or}
use Rattle.std.proofs.lemmas.Map.Steps.{length-le_from_distinct_below}
use Rattle.certs.specs.System.{Limits, LinearSystem, Place, is_basic, no_limits}
use Rattle.certs.specs.System.Place.{Basic, AtLower, AtUpper, AtZero}
use Rattle.certs.specs.Tableau.{IsWellFormedSystem, IsPlaced}
use Rattle.certs.specs.Runs.{IsSettledAt, TableauAt}
use Rattle.certs.specs.Improves.{Improves, IsImproveTurn}
use Rattle.certs.proofs.Tableaus.{place_basic}
use Rattle.bland_law.specs.Ends.{limited_count, ImproveNeverSpentLaw}
use Rattle.bland_law.proofs.Returns.{limit_of}
use Rattle.bland_law.proofs.Counts.{weight, weight_below}
use Rattle.bland_law.proofs.Climbs.{improve_no_basis_twice_law, joined}

-- ---- a basis as a number
-- a variable is basic, or stands at one of two places at most
unfoldable digit : Place → ℕ
digit Basic = 0
digit AtLower = 1
digit AtUpper = 2
digit AtZero = 1

digits : List Place → ℕ → ℕ
digits basis j = digit (get_or basis j AtZero)

digit_small : (p : Place) → digit p ≤ 2
unfolding digit
digit_small Basic = omega arith
digit_small AtLower = omega arith
digit_small AtUpper = omega arith
digit_small AtZero = omega arith

-- its place is told by its digit
same_place : (limits : Limits) (p q : Place) → IsPlaced limits p → IsPlaced limits q → digit p ≡ digit q → p ≡ q
unfolding digit
same_place limits Basic Basic h k e = refl
same_place limits Basic AtLower h k e = absurd (omega arith)
same_place limits Basic AtUpper h k e = absurd (omega arith)
same_place limits Basic AtZero h k e = absurd (omega arith)
same_place limits AtLower Basic h k e = absurd (omega arith)
same_place limits AtLower AtLower h k e = refl
same_place limits AtLower AtUpper h k e = absurd (omega arith)
same_place limits AtLower AtZero h k e = absurd (true≢false (sym h ∙ ap is_some k.0))
same_place limits AtUpper Basic h k e = absurd (omega arith)
same_place limits AtUpper AtLower h k e = absurd (omega arith)
same_place limits AtUpper AtUpper h k e = refl
same_place limits AtUpper AtZero h k e = absurd (omega arith)
same_place limits AtZero Basic h k e = absurd (omega arith)
same_place limits AtZero AtLower h k e = absurd (true≢false (sym k ∙ ap is_some h.0))
same_place limits AtZero AtUpper h k e = absurd (omega arith)
same_place limits AtZero AtZero h k e = refl

-- digits in base 3 are told by the number that they spell
same_digits : (n : ℕ) (c d : ℕ → ℕ) → ((j : ℕ) → c j ≤ 2) → ((j : ℕ) → d j ≤ 2) → weight n c ≡ weight n d → (j : ℕ) → j < n → c j ≡ d j
unfolding weight
same_digits zero c d hc hd e j l = absurd (omega arith)
same_digits (suc n) c d hc hd e j l =
    let low_c : weight n c < 3 ^ n = weight_below n c (λ i k. hc i) in
    let low_d : weight n d < 3 ^ n = weight_below n d (λ i k. hd i) in
    let top : c n ≡ d n = elim (cases_lt (c n) (d n)) [
      | inl m ↦ (let more : suc (c n) ≤ d n = omega arith in absurd (omega (arith, mul-le-mul_right (3 ^ n) more)))
      | inr m ↦ elim (cases_lt (d n) (c n)) [
        | inl k ↦ (let more : suc (d n) ≤ c n = omega arith in absurd (omega (arith, mul-le-mul_right (3 ^ n) more)))
        | inr k ↦ omega arith
      ]
    ] in
    let rest : weight n c ≡ weight n d = omega (arith, ap (λ z. z * 3 ^ n) top) in
    elim (cases_lt j n) [
      | inl k ↦ same_digits n c d hc hd rest j k
      | inr k ↦ (let at : j ≡ n = omega arith in subst (λ i. c i ≡ d i) (sym at) top)
    ]

module _ (system : LinearSystem) (goal : IsSome system.objective) where
  code : List Place → ℕ
  code basis = weight (limited_count system) (digits basis)

  code_small : (basis : List Place) → code basis < 3 ^ limited_count system
  unfolding code digits
  code_small basis = weight_below (limited_count system) (digits basis) (λ j l. digit_small (get_or basis j AtZero))

  size_is : (basis : List Place) (here : TableauAt system basis) → length basis ≡ limited_count system + 1
  size_is basis here = ap length (sym here.at) ∙ here.is_of.size ∙ ap (λ b. limited_count system + cond b 1 0) goal

  placed : (basis : List Place) (here : TableauAt system basis) (v : ℕ) → IsPlaced (limit_of system v) (get_or basis v AtZero)
  placed basis here v =
      subst (λ (z : Limits × List Place). IsPlaced z.0 (get_or z.1 v AtZero)) (λ i. (get_or (here.is_of.limits i) v no_limits, here.at i)) (here.is_of.placed v)

  goal_basic : (basis : List Place) (here : TableauAt system basis) → is_basic basis (limited_count system) ≡ true
  goal_basic basis here = subst (λ b. is_basic b (limited_count system) ≡ true) here.at (here.is_of.objective_basic goal)

  is_place : (p : Place) → place_basic p ≡ true → p ≡ Basic
  unfolding place_basic
  is_place Basic e = refl
  is_place AtLower e = absurd (true≢false (sym e))
  is_place AtUpper e = absurd (true≢false (sym e))
  is_place AtZero e = absurd (true≢false (sym e))

  -- two bases with one number are one
  same_basis : (a b : List Place) → TableauAt system a → TableauAt system b → code a ≡ code b → a ≡ b
  unfolding code digits place_basic
  same_basis a b at_a at_b e =
      ext_get_or AtZero a b (size_is a at_a ∙ sym (size_is b at_b)) (λ v l.
      elim (cases_lt v (limited_count system)) [
        | inl k ↦
            same_place (limit_of system v) (get_or a v AtZero) (get_or b v AtZero) (placed a at_a v) (placed b at_b v)
            (same_digits (limited_count system) (digits a) (digits b) (λ j. digit_small (get_or a j AtZero)) (λ j. digit_small (get_or b j AtZero)) e v k)
        | inr k ↦
            (let n = size_is a at_a in
            let at : limited_count system ≡ v = omega arith in
            subst (λ i. get_or a i AtZero ≡ get_or b i AtZero) at (is_place (get_or a (limited_count system) AtZero) (goal_basic a at_a) ∙ sym (is_place (get_or b (limited_count system) AtZero) (goal_basic b at_b))))
      ])

  -- ---- the bases of a run
  module _ (most : ℕ) (formed : IsWellFormedSystem system) (first : List Place) (settled : IsSettledAt most system first) where
    -- their numbers, the last one first
    codes : (k : ℕ) (last : List Place) → Improves most system k first last → List ℕ
    codes zero last run = code last ∷ []
    codes (suc k) last (middle, both) = code last ∷ codes k middle both.0

    codes_length : (k : ℕ) (last : List Place) (run : Improves most system k first last) → length (codes k last run) ≡ suc k
    unfolding codes
    codes_length zero last run = refl
    codes_length (suc k) last (middle, both) = ap suc (codes_length k middle both.0)

    codes_small : (k : ℕ) (last : List Place) (run : Improves most system k first last) (q : ℕ) → list_any (eqb q) (codes k last run) ≡ true → q < 3 ^ limited_count system
    unfolding codes
    codes_small zero last run q e = elim (or_cases (eqb q (code last)) false e) [
      | inl h ↦ subst (λ n. n < 3 ^ limited_count system) (sym (eqb→eq q (code last) (subst T (sym h) tt))) (code_small last)
      | inr h ↦ absurd (true≢false (sym h))
    ]
    codes_small (suc k) last (middle, both) q e = elim (or_cases (eqb q (code last)) (list_any (eqb q) (codes k middle both.0)) e) [
      | inl h ↦ subst (λ n. n < 3 ^ limited_count system) (sym (eqb→eq q (code last) (subst T (sym h) tt))) (code_small last)
      | inr h ↦ codes_small k middle both.0 q h
    ]

    -- a basis that is reached from another by a turn or more has another number
    apart : (k m : ℕ) (middle last : List Place) → Improves most system k first middle → Improves most system (suc m) middle last → TableauAt system middle → TableauAt system last → eqb (code last) (code middle) ≡ false
    apart k m middle last before after at_middle at_last = by (eqb (code last) (code middle)) refl
      where
        by : (b : Bool) → eqb (code last) (code middle) ≡ b → b ≡ false
        by false e = refl
        by true e =
            let same : last ≡ middle = same_basis last middle at_last at_middle (eqb→eq (code last) (code middle) (subst T (sym e) tt)) in
            absurd (improve_no_basis_twice_law most system first middle k m formed goal settled before (subst (Improves most system (suc m) middle) same after))

    one_turn : (m : ℕ) (a b c : List Place) → IsImproveTurn most system a b → Improves most system m b c → Improves most system (suc m) a c
    one_turn m a b c turn run = subst (λ n. Improves most system n a c) (let g : m + 1 ≡ suc m = omega arith in g) (joined most system a b c 1 m (a, (refl, turn)) run)

    all_apart : (k m : ℕ) (middle last : List Place) (run : Improves most system k first middle) → Improves most system (suc m) middle last → TableauAt system middle → TableauAt system last → AllByRecursion (λ q. eqb (code last) q ≡ false) (codes k middle run)
    unfolding codes
    all_apart zero m middle last run after at_middle at_last = (apart zero m middle last run after at_middle at_last, tt)
    all_apart (suc k) m middle last (before, both) after at_middle at_last = (
      apart (suc k) m middle last (before, both) after at_middle at_last,
      all_apart k (suc m) before last both.0 (one_turn (suc m) before middle last both.1 after) both.1.here at_last,
    )

    codes_distinct : (k : ℕ) (last : List Place) (run : Improves most system k first last) → TableauAt system last → IsDistinct eqb (codes k last run)
    unfolding codes IsDistinct
    codes_distinct zero last run at_last = (tt, tt)
    codes_distinct (suc k) last (middle, both) at_last = (all_apart k 0 middle last both.0 (middle, (refl, both.1)) both.1.here at_last, codes_distinct k middle both.0 both.1.here)

    -- so there are few
    pub few_turns : (k : ℕ) (last : List Place) → Improves most system k first last → TableauAt system last → k < 3 ^ limited_count system
    few_turns k last run at_last =
        let l = length-le_from_distinct_below (codes k last run) (3 ^ limited_count system) (codes_distinct k last run at_last) (codes_small k last run) in
        let e = codes_length k last run in
        omega arith

pub improve_never_spent_law : ImproveNeverSpentLaw
improve_never_spent_law most system first budget begun last left turns formed goal settled run =
    let few = few_turns system goal most formed first settled run.made last run.reaches run.ends.1.here in
    let whole : run.made + left ≡ budget = run.budget_is in
    let none : left ≡ 0 = run.ends.0 in
    omega arith
