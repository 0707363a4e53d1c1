-- A row from which a times each quotient is taken.
use Rattle.std.proofs.Common.{◌≡◌, ◌≢◌, ◌<◌, refl, sym, ◌∙◌, ap, ℕ, suc, Bool, true, false, ◌==◌, List, [], ◌∷◌, ◌++◌, cond, nat_lt, arith, inl, inr, eq-eqb, ne_eqb}
use Rattle.std.proofs.lemmas.Bool.{cases_eq, cases_lt, lt-ltb, le-ltb}
use Rattle.rational.specs.Rational.{ℚ, ◌+ℚ◌, ◌-ℚ◌, ◌*ℚ◌, zero_ℚ, eq_ℚ}
use Rattle.rational.specs.Linear.{Term, factor_of}
use Rattle.rational.proofs.Sums.{sum_over-append}
use Rattle.rational.proofs.Field.{ring_ℚ, x0, x1, x2, x3, x4, x5, ◌:+◌, ◌:-◌, ◌:*◌, zero_of}
use Rattle.rational.proofs.Compare.{eq-Decides}
use Rattle.frac128.specs.declared.Op.TheVariants.{Minus, Times}
use Rattle.certs.specs.Turns.{counted}
use Rattle.dictionary.specs.Rows.{reductions}
use Rattle.dictionary.proofs.Lists.{Rises, rises-less, rises-join, rises-greater, factor_kept, lesser, greater}

-- the term of a variable, where its factor is not 0
abbrev pub term_of : ℕ → ℚ → List Term
term_of v f = cond (eq_ℚ f zero_ℚ) [] (record { column = v; factor = f } ∷ [])

-- before the variable of a quotient the row stays, and behind it the other quotients are taken
abbrev pub merged : ℚ → List Term → List Term → List Term
merged a row [] = row
merged a row (q ∷ qs) = lesser q.column row ++ (term_of q.column (factor_of row q.column -ℚ a *ℚ q.factor) ++ merged a (greater q.column row) qs)

factor_term : (v : ℕ) (f : ℚ) (k : ℕ) → factor_of (term_of v f) k ≡ cond (v == k) f zero_ℚ
factor_term v f k = by (eq_ℚ f zero_ℚ) refl
  where
    none : (b : Bool) → f ≡ zero_ℚ → zero_ℚ ≡ cond b f zero_ℚ
    none true e = sym e
    none false e = refl

    by : (b : Bool) → eq_ℚ f zero_ℚ ≡ b → factor_of (cond b [] (record { column = v; factor = f } ∷ [])) k ≡ cond (v == k) f zero_ℚ
    by true e = none (v == k) ((eq-Decides f zero_ℚ).0 e)
    by false e = ring_ℚ (cond (v == k) f zero_ℚ ∷ []) (x0 :+ zero_of) x0 tt

rises-term : (v : ℕ) (f : ℚ) (rest : List Term) → Rises (suc v) rest → Rises v (term_of v f ++ rest)
rises-term v f rest h = by (eq_ℚ f zero_ℚ) refl
  where
    by : (b : Bool) → eq_ℚ f zero_ℚ ≡ b → Rises v (cond b [] (record { column = v; factor = f } ∷ []) ++ rest)
    by true e = rises-less v (suc v) rest (omega arith) h
    by false e = (omega arith, ((λ z. let r : true ≡ false = sym ((eq-Decides f zero_ℚ).1 z) ∙ e in cc), h))

pub rises-merged : (a : ℚ) (least : ℕ) (row quotients : List Term) → Rises least row → Rises least quotients → Rises least (merged a row quotients)
rises-merged a least row [] h r = h
rises-merged a least row (q ∷ qs) h r =
    rises-join least q.column row _ r.0 h
    (rises-term q.column (factor_of row q.column -ℚ a *ℚ q.factor) (merged a (greater q.column row) qs)
    (rises-merged a (suc q.column) (greater q.column row) qs (rises-greater least q.column row h) r.1.1))

-- ---- its factors
parted : (row : List Term) (c k : ℕ) → factor_of row k ≡ factor_of (lesser c row) k +ℚ (cond (c == k) (factor_of row c) zero_ℚ +ℚ factor_of (greater c row) k)
parted row c k =
    elim (cases_eq c k) [
      | inl e ↦ here e
      | inr e ↦ elim (cases_lt k c) [ inl l ↦ before e l | inr l ↦ behind e (omega (arith, e, l)) ]
    ]
  where
    f : ℚ
    f = factor_of row k

    whole : (b : Bool) (p q : Bool) (x : ℚ) → (c == k) ≡ b → nat_lt k c ≡ p → nat_lt c k ≡ q → f ≡ cond p f zero_ℚ +ℚ (cond b (factor_of row c) zero_ℚ +ℚ cond q f zero_ℚ) → f ≡ factor_of (lesser c row) k +ℚ (cond (c == k) (factor_of row c) zero_ℚ +ℚ factor_of (greater c row) k)
    whole b p q x e g h w =
        w
        ∙ ap (λ z. cond z f zero_ℚ +ℚ (cond b (factor_of row c) zero_ℚ +ℚ cond q f zero_ℚ)) (sym g)
        ∙ ap (λ z. cond (nat_lt k c) f zero_ℚ +ℚ (cond z (factor_of row c) zero_ℚ +ℚ cond q f zero_ℚ)) (sym e)
        ∙ ap (λ z. cond (nat_lt k c) f zero_ℚ +ℚ (cond (c == k) (factor_of row c) zero_ℚ +ℚ cond z f zero_ℚ)) (sym h)
        ∙ ap (λ z. z +ℚ (cond (c == k) (factor_of row c) zero_ℚ +ℚ cond (nat_lt c k) f zero_ℚ)) (sym (factor_kept (λ v. nat_lt v c) row k))
        ∙ ap (λ z. factor_of (lesser c row) k +ℚ (cond (c == k) (factor_of row c) zero_ℚ +ℚ z)) (sym (factor_kept (λ v. nat_lt c v) row k))

    here : c ≡ k → f ≡ factor_of (lesser c row) k +ℚ (cond (c == k) (factor_of row c) zero_ℚ +ℚ factor_of (greater c row) k)
    here e = whole true false false f (eq-eqb c k e) (le-ltb k c (omega (arith, e))) (le-ltb c k (omega (arith, e))) (ring_ℚ (f ∷ []) x0 (zero_of :+ (x0 :+ zero_of)) tt ∙ ap (λ z. zero_ℚ +ℚ (z +ℚ zero_ℚ)) (ap (factor_of row) (sym e)))

    before : c ≢ k → k < c → f ≡ factor_of (lesser c row) k +ℚ (cond (c == k) (factor_of row c) zero_ℚ +ℚ factor_of (greater c row) k)
    before e l = whole false true false f (ne_eqb c k e) (lt-ltb k c l) (le-ltb c k (omega (arith, l))) (ring_ℚ (f ∷ []) x0 (x0 :+ (zero_of :+ zero_of)) tt)

    behind : c ≢ k → c < k → f ≡ factor_of (lesser c row) k +ℚ (cond (c == k) (factor_of row c) zero_ℚ +ℚ factor_of (greater c row) k)
    behind e l = whole false false true f (ne_eqb c k e) (le-ltb k c (omega (arith, l))) (lt-ltb c k l) (ring_ℚ (f ∷ []) x0 (zero_of :+ (zero_of :+ x0)) tt)

pub factor-merged : (a : ℚ) (row quotients : List Term) (k : ℕ) → factor_of (merged a row quotients) k ≡ factor_of row k -ℚ a *ℚ factor_of quotients k
factor-merged a row [] k = ring_ℚ (factor_of row k ∷ a ∷ []) x0 (x0 :- x1 :* zero_of) tt
factor-merged a row (q ∷ qs) k =
    sum_over-append _ (lesser c row) (term_of c new ++ M)
    ∙ ap (λ z. L +ℚ z) (sum_over-append _ (term_of c new) M ∙ ap (λ z. z +ℚ factor_of M k) (factor_term c new k) ∙ ap (λ z. cond (c == k) new zero_ℚ +ℚ z) (factor-merged a (greater c row) qs k))
    ∙ by (c == k)
    ∙ ap (λ z. z -ℚ a *ℚ factor_of (q ∷ qs) k) (sym (parted row c k))
  where
    c : ℕ
    c = q.column

    new : ℚ
    new = factor_of row c -ℚ a *ℚ q.factor

    M : List Term
    M = merged a (greater c row) qs

    L : ℚ
    L = factor_of (lesser c row) k

    G : ℚ
    G = factor_of (greater c row) k

    s : ℚ
    s = factor_of qs k

    by : (b : Bool) → L +ℚ (cond b new zero_ℚ +ℚ (G -ℚ a *ℚ s)) ≡ (L +ℚ (cond b (factor_of row c) zero_ℚ +ℚ G)) -ℚ a *ℚ (cond b q.factor zero_ℚ +ℚ s)
    by true = ring_ℚ (L ∷ factor_of row c ∷ G ∷ a ∷ q.factor ∷ s ∷ []) (x0 :+ ((x1 :- x3 :* x4) :+ (x2 :- x3 :* x5))) ((x0 :+ (x1 :+ x2)) :- x3 :* (x4 :+ x5)) tt
    by false = ring_ℚ (L ∷ G ∷ a ∷ s ∷ []) (x0 :+ (zero_of :+ (x1 :- x2 :* x3))) ((x0 :+ (zero_of :+ x1)) :- x2 :* (zero_of :+ x3)) tt

-- ---- its operations
-- behind a variable only what is behind it counts
pub reductions-behind : (a : ℚ) (c least : ℕ) (row quotients : List Term) → c < least → Rises least quotients → reductions a (greater c row) quotients ≡ reductions a row quotients
reductions-behind a c least row [] l h = refl
reductions-behind a c least row (q ∷ qs) l h =
    ap (λ z. (counted Times a q.factor ++ counted Minus z (a *ℚ q.factor)) ++ reductions a (greater c row) qs)
    (factor_kept (λ v. nat_lt c v) row q.column ∙ ap (λ b. cond b (factor_of row q.column) zero_ℚ) (lt-ltb c q.column (let m = h.0 in omega arith)))
    ∙ ap (λ z. (counted Times a q.factor ++ counted Minus (factor_of row q.column) (a *ℚ q.factor)) ++ z) (reductions-behind a c (suc q.column) row qs (let m = h.0 in omega arith) h.1.1)
