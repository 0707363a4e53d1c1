-- Sums of numbers none of which is above 0, and the factors of a list of costs.
use Rattle.std.proofs.Common.{◌≡◌, ◌+◌, ◌<◌, refl, sym, ◌∙◌, ap, subst, ℕ, zero, suc, ◌==◌, List, [], ◌∷◌, map, length, get_or, arith, eq-eqb, ne_eqb}
use Rattle.std.specs.Prelude.{All}
use Rattle.std.proofs.lemmas.Bool.{cond-true, cond-false}
use Rattle.std.proofs.lemmas.List.Elements.{All-cons, All-head, All-nil, All-tail}
use Rattle.algebra.proofs.Ring.{x0, x1, ◌:+◌, minus, zero_of}
use Rattle.rational.specs.Rational.{ℚ, ◌+ℚ◌, neg_ℚ, zero_ℚ, ◌≤ℚ◌}
use Rattle.rational.specs.Sum.{sum_over}
use Rattle.rational.specs.Linear.{factor_of}
use Rattle.rational.proofs.Field.{ring_ℚ}
use Rattle.rational.proofs.Order.{add-le_ℚ, le_antisymm_ℚ, le_refl_ℚ}
use Rattle.lp_model.specs.declared.members.Member.{Member}
use Rattle.certs.specs.Elastic.{cost_terms}

pub sum_over-map : {A B : Type 0} (f : B → ℚ) (g : A → B) (xs : List A) → sum_over f (map g xs) ≡ sum_over (λ a. f (g a)) xs
sum_over-map f g [] = refl
sum_over-map f g (a ∷ xs) = ap (λ z. f (g a) +ℚ z) (sum_over-map f g xs)

pub sum_over-neg : {A : Type 0} (f : A → ℚ) (xs : List A) → sum_over (λ a. neg_ℚ (f a)) xs ≡ neg_ℚ (sum_over f xs)
sum_over-neg f [] = ring_ℚ [] zero_of (minus zero_of) tt
sum_over-neg f (a ∷ xs) = ap (λ z. neg_ℚ (f a) +ℚ z) (sum_over-neg f xs) ∙ ring_ℚ (f a ∷ sum_over f xs ∷ []) (minus x0 :+ minus x1) (minus (x0 :+ x1)) tt

pub sum_over-le : {A : Type 0} (P : A → Type 0) (f g : A → ℚ) → ((a : A) → P a → f a ≤ℚ g a) → (xs : List A) → All P xs → sum_over f xs ≤ℚ sum_over g xs
sum_over-le P f g h [] p = le_refl_ℚ zero_ℚ
sum_over-le P f g h (a ∷ xs) p = add-le_ℚ (h a (All-head P a xs p)) (sum_over-le P f g h xs (All-tail P a xs p))

none_above : {A : Type 0} (f : A → ℚ) (xs : List A) → All (λ a. f a ≤ℚ zero_ℚ) xs → sum_over f xs ≤ℚ zero_ℚ
none_above f [] h = le_refl_ℚ zero_ℚ
none_above f (a ∷ xs) h =
    subst (λ z. sum_over f (a ∷ xs) ≤ℚ z) (ring_ℚ [] (zero_of :+ zero_of) zero_of tt)
    (add-le_ℚ (All-head (λ a. f a ≤ℚ zero_ℚ) a xs h) (none_above f xs (All-tail (λ a. f a ≤ℚ zero_ℚ) a xs h)))

-- numbers not above 0 that add up to 0 are all 0
pub all_nothing : {A : Type 0} (f : A → ℚ) (xs : List A) → All (λ a. f a ≤ℚ zero_ℚ) xs → sum_over f xs ≡ zero_ℚ → All (λ a. f a ≡ zero_ℚ) xs
all_nothing f [] h e = All-nil (λ a. f a ≡ zero_ℚ)
all_nothing f (a ∷ xs) h e =
    let here = All-head (λ a. f a ≤ℚ zero_ℚ) a xs h in
    let rest = none_above f xs (All-tail (λ a. f a ≤ℚ zero_ℚ) a xs h) in
    let at_least : zero_ℚ ≤ℚ f a =
    subst (λ z. z ≤ℚ f a) e (subst (λ z. f a +ℚ sum_over f xs ≤ℚ z) (ring_ℚ (f a ∷ []) (x0 :+ zero_of) x0 tt) (add-le_ℚ (le_refl_ℚ (f a)) rest)) in
    let nothing : f a ≡ zero_ℚ = le_antisymm_ℚ here at_least in
    All-cons (λ a. f a ≡ zero_ℚ) a xs nothing
    (all_nothing f xs (All-tail (λ a. f a ≤ℚ zero_ℚ) a xs h)
    (ring_ℚ (sum_over f xs ∷ []) x0 (zero_of :+ x0) tt ∙ ap (λ z. z +ℚ sum_over f xs) (sym nothing) ∙ e))

-- ---- costs
pub costs_before : (cost : Member → ℚ) (k : ℕ) (list : List Member) (j : ℕ) → j < k → factor_of (cost_terms cost k list) j ≡ zero_ℚ
costs_before cost k [] j l = refl
costs_before cost k (m ∷ list) j l =
    ap (λ z. z +ℚ factor_of (cost_terms cost (suc k) list) j) (cond-false (k == j) (neg_ℚ (cost m)) zero_ℚ (ne_eqb k j (λ e. absurd (omega (arith, l, e)))))
    ∙ ap (λ z. zero_ℚ +ℚ z) (costs_before cost (suc k) list j (omega (arith, l)))
    ∙ ring_ℚ [] (zero_of :+ zero_of) zero_of tt

pub costs_at : (cost : Member → ℚ) (k : ℕ) (list : List Member) (i : ℕ) (d : Member) → i < length list → factor_of (cost_terms cost k list) (k + i) ≡ neg_ℚ (cost (get_or list i d))
costs_at cost k [] i d l = absurd (omega arith)
costs_at cost k (m ∷ list) zero d l =
    let e : k + 0 ≡ k = omega arith in
    ap (factor_of (cost_terms cost k (m ∷ list))) e
    ∙ ap (λ z. z +ℚ factor_of (cost_terms cost (suc k) list) k) (cond-true (k == k) (neg_ℚ (cost m)) zero_ℚ (eq-eqb k k refl))
    ∙ ap (λ z. neg_ℚ (cost m) +ℚ z) (costs_before cost (suc k) list k (omega arith))
    ∙ ring_ℚ (cost m ∷ []) (minus x0 :+ zero_of) (minus x0) tt
costs_at cost k (m ∷ list) (suc i) d l =
    let e : k + suc i ≡ suc k + i = omega arith in
    ap (factor_of (cost_terms cost k (m ∷ list))) e
    ∙ ap (λ z. z +ℚ factor_of (cost_terms cost (suc k) list) (suc k + i)) (cond-false (k == suc k + i) (neg_ℚ (cost m)) zero_ℚ (ne_eqb k (suc k + i) (λ e. absurd (omega arith))))
    ∙ ap (λ z. zero_ℚ +ℚ z) (costs_at cost (suc k) list i d (let g : i < length list = omega arith in g))
    ∙ ring_ℚ (cost (get_or list i d) ∷ []) (zero_of :+ minus x0) (minus x0) tt
