-- A form of the nonbasic variables, term by term: what cannot raise it was no greater at other values within the limits, and
-- neither was what left at a limit that it had missed.
use Rattle.std.proofs.Common.{◌≡◌, ◌⊎◌, refl, sym, ◌∙◌, ap, subst, ℕ, Bool, true, false, true≢false, cond, not, ◌&&◌, ◌||◌, List, [], ◌∷◌, Option, None, Some, inl, inr}
use Rattle.std.specs.Prelude.{All, IfSome}
use Rattle.std.proofs.lemmas.Bool.{and_parts, or_cases, or_parts}
use Rattle.std.proofs.lemmas.List.Elements.{All-head, All-tail}
use Rattle.algebra.proofs.Ring.{x0, x1, x2, ◌:+◌, ◌:-◌, ◌:*◌, minus, zero_of, unit_of}
use Rattle.rational.specs.Rational.{ℚ, ◌*ℚ◌, neg_ℚ, zero_ℚ, one_ℚ, ◌≤ℚ◌, ◌<ℚ◌, lt_q, eq_ℚ}
use Rattle.rational.specs.Sum.{sum_over}
use Rattle.rational.proofs.Compare.{eq-Decides, lt_q-Decides}
use Rattle.rational.proofs.Field.{ring_ℚ}
use Rattle.rational.proofs.Order.{le_by, lt_by, le_refl_ℚ, le_of_lt_ℚ, trichotomy_ℚ, add-le_ℚ, mul-le_ℚ, nonneg-add, nonneg-mul, nonneg_of_le, nonneg_of_positive, positive_of_lt, nonneg-zero, lt_q-true, lt_q-false, lt-le_clash_ℚ}
use Rattle.rational.proofs.Sums.{sum_over-ext, sum_over-scale}
use Rattle.lp_model.specs.declared.members.Side.{Side}
use Rattle.lp_model.specs.declared.members.Side.TheVariants.{Lo, Up}
use Rattle.certs.specs.Combination.{number_or_zero}
use Rattle.certs.specs.System.{Limits, limit_on}
use Rattle.certs.specs.Turns.{is_under, is_over, meets, missed_side}
use Rattle.certs.specs.Ended.{IsWithin}

-- whether a variable at the value v can raise a form in which it counts a times
abbrev pub raises : Limits → ℚ → ℚ → Bool
raises limits v a = (lt_q zero_ℚ a && not (meets limits.upper v)) || (lt_q a zero_ℚ && not (meets limits.lower v))

-- a factor, with the sign of the side towards which the form is to go
abbrev pub tilted : Side → ℚ → ℚ
tilted Lo a = a
tilted Up a = neg_ℚ a

-- the limit of the side is passed
abbrev pub misses : Side → Limits → ℚ → Bool
misses Lo limits v = is_under limits.lower v
misses Up limits v = is_over limits.upper v

raised : {a v w : ℚ} → zero_ℚ <ℚ a → w ≤ℚ v → a *ℚ w ≤ℚ a *ℚ v
raised h k = mul-le_ℚ (le_of_lt_ℚ h) k

lowered : {a v w : ℚ} → a <ℚ zero_ℚ → v ≤ℚ w → a *ℚ w ≤ℚ a *ℚ v
lowered {a} {v} {w} h k = le_by (a ∷ v ∷ w ∷ []) (x0 :* x2) (x0 :* x1) ((zero_of :- x0) :* (x2 :- x1)) (nonneg-mul (nonneg_of_positive (positive_of_lt h)) (nonneg_of_le k)) tt

no_change : (a v w : ℚ) → zero_ℚ ≡ a → a *ℚ w ≤ℚ a *ℚ v
no_change a v w e = subst (λ z. z *ℚ w ≤ℚ z *ℚ v) e (le_by (v ∷ w ∷ []) (zero_of :* x1) (zero_of :* x0) zero_of nonneg-zero tt)

at_upper : (o : Option ℚ) (a v w : ℚ) → zero_ℚ <ℚ a → meets o v ≡ true → IfSome o (λ u. w ≤ℚ u) → a *ℚ w ≤ℚ a *ℚ v
at_upper None a v w h m k = absurd (true≢false (sym m))
at_upper (Some u) a v w h m k = raised h (subst (λ z. w ≤ℚ z) ((eq-Decides u v).0 m) k)

at_lower : (o : Option ℚ) (a v w : ℚ) → a <ℚ zero_ℚ → meets o v ≡ true → IfSome o (λ l. l ≤ℚ w) → a *ℚ w ≤ℚ a *ℚ v
at_lower None a v w h m k = absurd (true≢false (sym m))
at_lower (Some l) a v w h m k = lowered h (subst (λ z. z ≤ℚ w) ((eq-Decides l v).0 m) k)

met : (x m : Bool) → x ≡ true → (x && not m) ≡ false → m ≡ true
met true true e h = refl
met true false e h = absurd (true≢false h)
met false m e h = absurd (true≢false (sym e))

-- what cannot raise the form stands where it counts most
pub stands_highest : (limits : Limits) (a v w : ℚ) → raises limits v a ≡ false → IsWithin limits w → a *ℚ w ≤ℚ a *ℚ v
stands_highest limits a v w n k =
    let parts = or_parts (lt_q zero_ℚ a && not (meets limits.upper v)) (lt_q a zero_ℚ && not (meets limits.lower v)) n in
    elim (trichotomy_ℚ zero_ℚ a) [
      | inl h ↦ at_upper limits.upper a v w h (met (lt_q zero_ℚ a) (meets limits.upper v) ((lt_q-Decides zero_ℚ a).1 h) parts.0) k.upper
      | inr r ↦ elim r [
        | inl e ↦ no_change a v w e
        | inr h ↦ at_lower limits.lower a v w h (met (lt_q a zero_ℚ) (meets limits.lower v) ((lt_q-Decides a zero_ℚ).1 h) parts.1) k.lower
      ]
    ]

met_itself : (v : ℚ) → not (eq_ℚ v v) ≡ true → ⊥
met_itself v h = true≢false (sym h ∙ ap not ((eq-Decides v v).1 refl))

-- what stands at the limit that it missed can only come from there
pub from_missed : (side : Side) (limits : Limits) (a w : ℚ) → misses side limits w ≡ true → raises limits (number_or_zero (limit_on limits side)) a ≡ true
    → a *ℚ w ≤ℚ a *ℚ number_or_zero (limit_on limits side)
from_missed Lo limits a w m r = by limits.lower m (or_cases (lt_q zero_ℚ a && not (meets limits.upper (number_or_zero limits.lower))) (lt_q a zero_ℚ && not (meets limits.lower (number_or_zero limits.lower))) r)
  where
    by : (o : Option ℚ) → is_under o w ≡ true → ((lt_q zero_ℚ a && not (meets limits.upper (number_or_zero o))) ≡ true) ⊎ ((lt_q a zero_ℚ && not (meets o (number_or_zero o))) ≡ true) → a *ℚ w ≤ℚ a *ℚ number_or_zero o
    by None u h = absurd (true≢false (sym u))
    by (Some l) u (inl h) = raised (lt_q-true zero_ℚ a (and_parts (lt_q zero_ℚ a) (not (meets limits.upper l)) h).0) (le_of_lt_ℚ (lt_q-true w l u))
    by (Some l) u (inr h) = absurd (met_itself l (and_parts (lt_q a zero_ℚ) (not (eq_ℚ l l)) h).1)
from_missed Up limits a w m r = by limits.upper m (or_cases (lt_q zero_ℚ a && not (meets limits.upper (number_or_zero limits.upper))) (lt_q a zero_ℚ && not (meets limits.lower (number_or_zero limits.upper))) r)
  where
    by : (o : Option ℚ) → is_over o w ≡ true → ((lt_q zero_ℚ a && not (meets o (number_or_zero o))) ≡ true) ⊎ ((lt_q a zero_ℚ && not (meets limits.lower (number_or_zero o))) ≡ true) → a *ℚ w ≤ℚ a *ℚ number_or_zero o
    by None u h = absurd (true≢false (sym u))
    by (Some l) u (inl h) = absurd (met_itself l (and_parts (lt_q zero_ℚ a) (not (eq_ℚ l l)) h).1)
    by (Some l) u (inr h) = lowered (lt_q-true a zero_ℚ (and_parts (lt_q a zero_ℚ) (not (meets limits.lower l)) h).0) (le_of_lt_ℚ (lt_q-true l w u))

pub missed_is : (limits : Limits) (v : ℚ) (side : Side) → missed_side limits v ≡ Some side → misses side limits v ≡ true
missed_is limits v side e = by (is_under limits.lower v) (is_over limits.upper v) refl refl e
  where
    same : (a b : Side) → ◌≡◌ {A = Option Side} (Some a) (Some b) → a ≡ b
    same a b q = ap (of a) q
      where
        of : Side → Option Side → Side
        of d None = d
        of d (Some s) = s

    none : (s : Side) → ◌≡◌ {A = Option Side} None (Some s) → ⊥
    none s q = cc

    by : (a b : Bool) → is_under limits.lower v ≡ a → is_over limits.upper v ≡ b → cond a (Some Lo) (cond b (Some Up) None) ≡ Some side → misses side limits v ≡ true
    by true b f h q = subst (λ s. misses s limits v ≡ true) (same Lo side q) f
    by false true f h q = subst (λ s. misses s limits v ≡ true) (same Up side q) h
    by false false f h q = absurd (none side q)

-- a value that misses a side is beyond every value within
pub beyond : (side : Side) (limits : Limits) (v w : ℚ) → misses side limits v ≡ true → IsWithin limits w → tilted side w ≤ℚ tilted side v → ⊥
beyond Lo limits v w m k l = by limits.lower m k.lower
  where
    by : (o : Option ℚ) → is_under o v ≡ true → IfSome o (λ b. b ≤ℚ w) → ⊥
    by None u h = true≢false (sym u)
    by (Some b) u h = lt-le_clash_ℚ (lt_q-true v b u) (le_by (b ∷ w ∷ v ∷ []) x0 x2 ((x1 :- x0) :+ (x2 :- x1)) (nonneg-add (nonneg_of_le h) (nonneg_of_le l)) tt)
beyond Up limits v w m k l = by limits.upper m k.upper
  where
    back : v ≤ℚ w
    back = le_by (v ∷ w ∷ []) x0 x1 (minus x0 :- minus x1) (nonneg_of_le l) tt

    by : (o : Option ℚ) → is_over o v ≡ true → IfSome o (λ b. w ≤ℚ b) → ⊥
    by None u h = true≢false (sym u)
    by (Some b) u h = lt-le_clash_ℚ (lt_q-true b v u) (le_by (v ∷ w ∷ b ∷ []) x0 x2 ((x1 :- x0) :+ (x2 :- x1)) (nonneg-add (nonneg_of_le back) (nonneg_of_le h)) tt)

-- ---- sums
pub sum_le : (f g : ℕ → ℚ) (xs : List ℕ) → All (λ k. f k ≤ℚ g k) xs → sum_over f xs ≤ℚ sum_over g xs
sum_le f g [] h = le_refl_ℚ zero_ℚ
sum_le f g (x ∷ xs) h = add-le_ℚ (All-head (λ k. f k ≤ℚ g k) x xs h) (sum_le f g xs (All-tail (λ k. f k ≤ℚ g k) x xs h))

pub sum_tilted : (side : Side) (f x : ℕ → ℚ) (xs : List ℕ) → sum_over (λ k. tilted side (f k) *ℚ x k) xs ≡ tilted side (sum_over (λ k. f k *ℚ x k) xs)
sum_tilted Lo f x xs = refl
sum_tilted Up f x xs =
    sum_over-ext (λ k. neg_ℚ (f k) *ℚ x k) (λ k. neg_ℚ one_ℚ *ℚ (f k *ℚ x k)) xs (λ k. ring_ℚ (f k ∷ x k ∷ []) (minus x0 :* x1) (minus unit_of :* (x0 :* x1)) tt)
    ∙ sum_over-scale (neg_ℚ one_ℚ) (λ k. f k *ℚ x k) xs
    ∙ ring_ℚ (sum_over (λ k. f k *ℚ x k) xs ∷ []) (minus unit_of :* x0) (minus x0) tt

-- ---- the tests of helping are those of raising, with the sign of the side
same_test : (a b c d : ℚ) → (a <ℚ b → c <ℚ d) → (c <ℚ d → a <ℚ b) → lt_q a b ≡ lt_q c d
same_test a b c d f g = by (lt_q a b) (lt_q c d) refl refl
  where
    by : (p q : Bool) → lt_q a b ≡ p → lt_q c d ≡ q → p ≡ q
    by true true e h = refl
    by true false e h = lt-le_clash_ℚ (f (lt_q-true a b e)) (lt_q-false c d h)
    by false true e h = lt-le_clash_ℚ (g (lt_q-true c d h)) (lt_q-false a b e)
    by false false e h = refl

pub below_turned : (a : ℚ) → lt_q a zero_ℚ ≡ lt_q zero_ℚ (neg_ℚ a)
below_turned a = same_test a zero_ℚ zero_ℚ (neg_ℚ a) (λ h. lt_by (a ∷ []) zero_of (minus x0) (zero_of :- x0) (positive_of_lt h) tt) (λ h. lt_by (a ∷ []) x0 zero_of (minus x0 :- zero_of) (positive_of_lt h) tt)

pub above_turned : (a : ℚ) → lt_q zero_ℚ a ≡ lt_q (neg_ℚ a) zero_ℚ
above_turned a = same_test zero_ℚ a (neg_ℚ a) zero_ℚ (λ h. lt_by (a ∷ []) (minus x0) zero_of (x0 :- zero_of) (positive_of_lt h) tt) (λ h. lt_by (a ∷ []) zero_of x0 (zero_of :- minus x0) (positive_of_lt h) tt)
