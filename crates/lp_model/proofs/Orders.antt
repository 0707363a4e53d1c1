-- The order of members: it goes over, not back, and leaves no member before itself.
use Rattle.std.proofs.Common.{◌≡◌, sym, ◌∙◌, refl, ℕ, Bool, true, false, true≢false, ltb, ◌==◌, ◌&&◌, ◌||◌, arith}
use Rattle.std.proofs.lemmas.Bool.Decides.{nat_tests}
use Rattle.lp_model.specs.declared.members.Member.{Member}
use Rattle.lp_model.specs.Members.{comes_before, is_same, kind, place}

-- the order by kind and number
lex : ℕ → ℕ → ℕ → ℕ → Bool
lex a b c d = ltb a c || ((a == c) && ltb b d)

lex_over : (a b c d e f : ℕ) → lex a b c d ≡ true → lex c d e f ≡ true → lex a b e f ≡ true
unfolding lex
lex_over a b c d e f h k = grind (arith, nat_tests)

lex_back : (a b c d : ℕ) → lex a b c d ≡ true → lex c d a b ≡ false
unfolding lex
lex_back a b c d h = grind (arith, nat_tests)

-- what stands before what stands before
pub over : (l m n : Member) → comes_before l m ≡ true → comes_before m n ≡ true → comes_before l n ≡ true
unfolding lex
over l m n h k = lex_over (kind l) (place l) (kind m) (place m) (kind n) (place n) h k

pub back : (m n : Member) → comes_before m n ≡ true → comes_before n m ≡ false
unfolding lex
back m n h = lex_back (kind m) (place m) (kind n) (place n) h

pub not_itself : (m : Member) → comes_before m m ≡ false
not_itself m = by (comes_before m m) refl
  where
    by : (b : Bool) → comes_before m m ≡ b → b ≡ false
    by true t = absurd (true≢false (sym t ∙ back m m t))
    by false t = refl

-- what stands before another, or after it, is not the same
differs : (a b c d : ℕ) → lex a b c d ≡ true → (((a == c) && (b == d)) ≡ false) × (((c == a) && (d == b)) ≡ false)
unfolding lex
differs a b c d h = (grind (arith, nat_tests), grind (arith, nat_tests))

pub before_differs : (m n : Member) → comes_before m n ≡ true → is_same m n ≡ false
unfolding lex
before_differs m n h = (differs (kind m) (place m) (kind n) (place n) h).0

pub after_differs : (m n : Member) → comes_before m n ≡ true → is_same n m ≡ false
unfolding lex
after_differs m n h = (differs (kind m) (place m) (kind n) (place n) h).1
