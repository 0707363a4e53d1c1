-- The first of two lists of blocks is the first of the first of each.
use Rattle.std.proofs.Common.{◌≡◌, ◌<◌, ◌≤◌, refl, sym, ◌∙◌, ap, Bool, true, false, true≢false, cond, ◌||◌, ◌&&◌, nat_lt, ltb-true, List, [], ◌∷◌, ◌++◌, Option, None, Some, arith}
use Rattle.rational.specs.Rational.{lt_q, eq_ℚ}
use Rattle.rational.proofs.Compare.{eq-Decides}
use Rattle.rational.proofs.Order.{lt-le_clash_ℚ, lt_q-true}
use Rattle.certs.specs.Improves.{Block, comes_first, first_block, nearest}
use Rattle.bland_law.proofs.Nearest.{IsUpTo, first_is, not_first, up_to_both}
use Rattle.simplex.specs.ImproveChosen.{nearer}

-- what comes first is not behind
not_behind : (b c : Block) → comes_first b c ≡ true → IsUpTo c b → ⊥
not_behind b c e up = by (lt_q b.distance c.distance) (eq_ℚ b.distance c.distance) (nat_lt b.variable c.variable) refl refl refl e
  where
    by : (x y z : Bool) → lt_q b.distance c.distance ≡ x → eq_ℚ b.distance c.distance ≡ y → nat_lt b.variable c.variable ≡ z → (x || (y && z)) ≡ true → ⊥
    by true y z less same below h = lt-le_clash_ℚ (lt_q-true b.distance c.distance less) up.near
    by false true true less same below h =
        let l : b.variable < c.variable = ltb-true b.variable c.variable below in
        let m : c.variable ≤ b.variable = up.least ((eq-Decides b.distance c.distance).0 same) in
        absurd (omega arith)
    by false true false less same below h = true≢false (sym h)
    by false false z less same below h = true≢false (sym h)

-- of three it does not matter which two are looked at first
of_three : (a b c : Block) → first_block a (Some (first_block b (Some c))) ≡ first_block (first_block a (Some b)) (Some c)
of_three a b c = by (comes_first a b) (comes_first b c) (comes_first a c) refl refl refl
  where
    by : (x y z : Bool) → comes_first a b ≡ x → comes_first b c ≡ y → comes_first a c ≡ z → first_block a (Some (first_block b (Some c))) ≡ first_block (first_block a (Some b)) (Some c)
    by true true true ab bc ac =
        ap (λ t. first_block a (Some (cond t b c))) bc ∙ ap (λ t. cond t a b) ab
        ∙ sym (ap (λ t. first_block (cond t a b) (Some c)) ab ∙ ap (λ t. cond t a c) ac)
    by true true false ab bc ac = absurd (not_behind b c bc (up_to_both c a b (not_first a c ac) (first_is a b ab)))
    by true false z ab bc ac =
        ap (λ t. first_block a (Some (cond t b c))) bc
        ∙ sym (ap (λ t. first_block (cond t a b) (Some c)) ab)
    by false true z ab bc ac =
        ap (λ t. first_block a (Some (cond t b c))) bc ∙ ap (λ t. cond t a b) ab
        ∙ sym (ap (λ t. first_block (cond t a b) (Some c)) ab ∙ ap (λ t. cond t b c) bc)
    by false false true ab bc ac = absurd (not_behind a c ac (up_to_both c b a (not_first b c bc) (not_first a b ab)))
    by false false false ab bc ac =
        ap (λ t. first_block a (Some (cond t b c))) bc ∙ ap (λ t. cond t a c) ac
        ∙ sym (ap (λ t. first_block (cond t a b) (Some c)) ab ∙ ap (λ t. cond t b c) bc)

-- with one that is there before
one_more : (x : Block) (o p : Option Block) → nearer (Some x) (nearer o p) ≡ nearer (nearer (Some x) o) p
one_more x None p = refl
one_more x (Some b) None = refl
one_more x (Some b) (Some c) = ap (λ (z : Block). Some z) (of_three x b c)

pub nearest_append : (xs ys : List Block) → nearest (xs ++ ys) ≡ nearer (nearest xs) (nearest ys)
nearest_append [] ys = refl
nearest_append (x ∷ xs) ys = ap (nearer (Some x)) (nearest_append xs ys) ∙ one_more x (nearest xs) (nearest ys)
