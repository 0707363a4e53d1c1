-- The order of sources goes over: what stands before the first of those in order stands before them all.
use Rattle.std.proofs.Common.{◌≡◌, ℕ, Bool, true, false, ◌&&◌, ltb, leb, refl, sym, ◌∙◌, ap, List, [], ◌∷◌, length, get_or, ◌≤◌, arith}
use Rattle.std.proofs.lemmas.Bool.{and_parts}
use Rattle.std.proofs.lemmas.Bool.Decides.{nat_tests}
use Rattle.std.specs.List.{list_all}
use Rattle.lp_model.proofs.Orders.{over}
use Rattle.certs.specs.declared.evidence.Source.{Source}
use Rattle.certs.specs.declared.evidence.Source.TheVariants.{Member as Of, Below, Above}
use Rattle.certs.specs.declared.evidence.Share.{Share}
use Rattle.certs.specs.Order.{are_in_order, source_before}

lt_lt : (i j k : ℕ) → ltb i j ≡ true → ltb j k ≡ true → ltb i k ≡ true
lt_lt i j k h g = grind (arith, nat_tests)

lt_le : (i j k : ℕ) → ltb i j ≡ true → leb j k ≡ true → leb i k ≡ true
lt_le i j k h g = grind (arith, nat_tests)

le_lt : (i j k : ℕ) → leb i j ≡ true → ltb j k ≡ true → ltb i k ≡ true
le_lt i j k h g = grind (arith, nat_tests)

le_lt_weak : (i j k : ℕ) → leb i j ≡ true → ltb j k ≡ true → leb i k ≡ true
le_lt_weak i j k h g = grind (arith, nat_tests)

lt_le_lt : (i j k : ℕ) → ltb i j ≡ true → leb j k ≡ true → ltb i k ≡ true
lt_le_lt i j k h g = grind (arith, nat_tests)

goes_over : (a b c : Source) → source_before a b ≡ true → source_before b c ≡ true → source_before a c ≡ true
goes_over (Of l) (Of m) (Of n) h g = over l m n h g
goes_over (Of l) (Below j) (Of n) h g = absurd (let k : false ≡ true = g in cc)
goes_over (Of l) (Above j) (Of n) h g = absurd (let k : false ≡ true = g in cc)
goes_over (Of l) b (Below k) h g = refl
goes_over (Of l) b (Above k) h g = refl
goes_over (Below i) (Of m) c h g = absurd (let k : false ≡ true = h in cc)
goes_over (Above i) (Of m) c h g = absurd (let k : false ≡ true = h in cc)
goes_over (Below i) (Below j) (Of n) h g = absurd (let k : false ≡ true = g in cc)
goes_over (Below i) (Above j) (Of n) h g = absurd (let k : false ≡ true = g in cc)
goes_over (Above i) (Below j) (Of n) h g = absurd (let k : false ≡ true = g in cc)
goes_over (Above i) (Above j) (Of n) h g = absurd (let k : false ≡ true = g in cc)
goes_over (Below i) (Below j) (Below k) h g = lt_lt i j k h g
goes_over (Below i) (Below j) (Above k) h g = lt_le i j k h g
goes_over (Below i) (Above j) (Below k) h g = le_lt i j k h g
goes_over (Below i) (Above j) (Above k) h g = le_lt_weak i j k h g
goes_over (Above i) (Below j) (Below k) h g = lt_lt i j k h g
goes_over (Above i) (Below j) (Above k) h g = lt_le_lt i j k h g
goes_over (Above i) (Above j) (Below k) h g = lt_lt i j k h g
goes_over (Above i) (Above j) (Above k) h g = lt_lt i j k h g

-- before the first of some in order, so before all
before_all : (a : Source) (s : Share) (shares : List Share) → source_before a s.source ≡ true → list_all (λ (t : Share). source_before s.source t.source) shares ≡ true → list_all (λ (t : Share). source_before a t.source) shares ≡ true
before_all a s [] h g = refl
before_all a s (t ∷ shares) h g =
    let both = and_parts (source_before s.source t.source) (list_all (λ (u : Share). source_before s.source u.source) shares) g in
    ap (λ b. b && list_all (λ (u : Share). source_before a u.source) shares) (goes_over a s.source t.source h both.0)
    ∙ before_all a s shares h both.1

-- those in order stand after a source where the first does
decides : (a : Source) (s : Share) (shares : List Share) → (list_all (λ (t : Share). source_before a t.source) (s ∷ shares) && are_in_order (s ∷ shares)) ≡ (source_before a s.source && are_in_order (s ∷ shares))
decides a s shares = by (source_before a s.source) (are_in_order (s ∷ shares)) refl refl
  where
    rest : Bool
    rest = list_all (λ (t : Share). source_before a t.source) shares

    by : (b c : Bool) → source_before a s.source ≡ b → are_in_order (s ∷ shares) ≡ c → ((source_before a s.source && rest) && are_in_order (s ∷ shares)) ≡ (source_before a s.source && are_in_order (s ∷ shares))
    by false c h e = ap (λ x. (x && rest) && are_in_order (s ∷ shares)) h ∙ sym (ap (λ x. x && are_in_order (s ∷ shares)) h)
    by true false h e = ap (λ x. (source_before a s.source && rest) && x) e ∙ falls (source_before a s.source && rest) ∙ sym (ap (λ x. source_before a s.source && x) e ∙ falls (source_before a s.source))
      where
        falls : (x : Bool) → (x && false) ≡ false
        falls true = refl
        falls false = refl
    by true true h e =
        let both = and_parts (list_all (λ (u : Share). source_before s.source u.source) shares) (are_in_order shares) e in
        ap (λ x. (source_before a s.source && x) && are_in_order (s ∷ shares)) (before_all a s shares h both.0)
        ∙ ap (λ x. x && are_in_order (s ∷ shares)) (idle (source_before a s.source))
      where
        idle : (x : Bool) → (x && true) ≡ x
        idle true = refl
        idle false = refl

pub next_decides : (a : Source) (rest : List Share) (next : Share) → 1 ≤ length rest → next ≡ get_or rest 0 next → (list_all (λ (t : Share). source_before a t.source) rest && are_in_order rest) ≡ (source_before a next.source && are_in_order rest)
next_decides a [] next some is = absurd (omega (arith, some))
next_decides a (s ∷ shares) next some is = decides a s shares ∙ ap (λ (t : Share). source_before a t.source && are_in_order (s ∷ shares)) (sym is)
