-- The variables of a row, as those of a list that count; and operations, of which those at the others are none.
use Rattle.std.proofs.Common.{◌≡◌, ◌≢◌, ◌<◌, ◌≤◌, refl, sym, ◌∙◌, ap, subst, ℕ, zero, suc, Bool, true, false, true≢false, not, ◌==◌, ◌&&◌, ◌||◌, List, [], ◌∷◌, ◌++◌, map, cond, nat_lt, arith, inl, inr, eq-eqb, ne_eqb}
use Rattle.std.specs.Prelude.{All, filter, flat_map}
use Rattle.std.proofs.lemmas.Bool.{cases_eq, cases_lt, lt-ltb, le-ltb}
use Rattle.std.proofs.lemmas.List.{append-nil}
use Rattle.std.proofs.lemmas.List.Elements.{All-head, All-tail}
use Rattle.rational.specs.Rational.{ℚ, ◌+ℚ◌, ◌*ℚ◌, zero_ℚ, eq_ℚ}
use Rattle.rational.specs.Sum.{sum_over}
use Rattle.rational.specs.Linear.{Term, factor_of}
use Rattle.rational.proofs.Sums.{nothing_first, nothing_times}
use Rattle.rational.proofs.Field.{ring_ℚ, x0, ◌:+◌, zero_of}
use Rattle.rational.proofs.Compare.{eq-Decides}
use Rattle.frac128.specs.declared.Op.{Op}
use Rattle.frac128.specs.declared.Op.TheVariants.{Plus, Times}
use Rattle.frac128.specs.Width.{operation}
use Rattle.frac128.specs.Calculation.{Calculation}
use Rattle.certs.specs.Tableau.{below}
use Rattle.certs.specs.Turns.{counted, others, sum_operations}
use Rattle.dictionary.proofs.Lists.{Rises, factor_here, factor_there, of_counted}

-- ---- ascending lists of numbers
abbrev pub Up : ℕ → List ℕ → Type 0
Up least [] = Unit {0}
Up least (x ∷ xs) = (least ≤ x) × Up (suc x) xs

-- whether a number stands in a list
abbrev pub has : List ℕ → ℕ → Bool
has [] k = false
has (x ∷ xs) k = (x == k) || has xs k

up-less : (a b : ℕ) (xs : List ℕ) → a ≤ b → Up b xs → Up a xs
up-less a b [] l h = tt
up-less a b (x ∷ xs) l h = (let m = h.0 in omega arith, h.1)

has_here : (x : ℕ) (xs : List ℕ) → has (x ∷ xs) x ≡ true
has_here x xs = ap (λ b. b || has xs x) (eq-eqb x x refl)

has_there : (x : ℕ) (xs : List ℕ) (k : ℕ) → x ≢ k → has (x ∷ xs) k ≡ has xs k
has_there x xs k d = ap (λ b. b || has xs k) (ne_eqb x k d)

has_below : (least : ℕ) (xs : List ℕ) (k : ℕ) → Up least xs → k < least → has xs k ≡ false
has_below least [] k h l = refl
has_below least (x ∷ xs) k h l = has_there x xs k (λ e. let m = h.0 in absurd (omega (arith, e))) ∙ has_below (suc x) xs k h.1 (let m = h.0 in omega arith)

-- two of them with the same numbers are one
pub same : (a b : ℕ) (xs ys : List ℕ) → Up a xs → Up b ys → ((k : ℕ) → has xs k ≡ has ys k) → xs ≡ ys
same a b [] [] g h e = refl
same a b [] (y ∷ ys) g h e = absurd (true≢false (sym (has_here y ys) ∙ sym (e y)))
same a b (x ∷ xs) [] g h e = absurd (true≢false (sym (has_here x xs) ∙ e x))
same a b (x ∷ xs) (y ∷ ys) g h e =
    elim (cases_lt x y) [
      | inl l ↦ absurd (true≢false (sym (has_here x xs) ∙ e x ∙ has_there y ys x (λ d. absurd (omega (arith, d, l))) ∙ has_below (suc y) ys x h.1 (omega (arith, l))))
      | inr l ↦
          elim (cases_lt y x) [
            | inl m ↦ absurd (true≢false (sym (has_here y ys) ∙ sym (e y) ∙ has_there x xs y (λ d. absurd (omega (arith, d, m))) ∙ has_below (suc x) xs y g.1 (omega (arith, m))))
            | inr m ↦
                (let q : x ≡ y = omega (arith, l, m) in
                ap (λ z. x ∷ z) (same (suc x) (suc y) xs ys g.1 h.1 (λ k. elim (cases_eq x k) [
                  | inl d ↦ (has_below (suc x) xs k g.1 (omega (arith, d)) ∙ sym (has_below (suc y) ys k h.1 (omega (arith, d, q))))
                  | inr d ↦ (sym (has_there x xs k d) ∙ e k ∙ has_there y ys k (λ f. d (q ∙ f)))
                ]))
                ∙ ap (λ z. z ∷ ys) q)
          ]
    ]

pub up-kept : (p : ℕ → Bool) (least : ℕ) (xs : List ℕ) → Up least xs → Up least (filter p xs)
up-kept p least [] h = tt
up-kept p least (x ∷ xs) h = by (p x) (up-kept p (suc x) xs h.1)
  where
    by : (b : Bool) → Up (suc x) (filter p xs) → Up least (cond b (x ∷ filter p xs) (filter p xs))
    by true r = (h.0, r)
    by false r = up-less least (suc x) (filter p xs) (let m = h.0 in omega arith) r

and_false : (b : Bool) → b && false ≡ false
and_false true = refl
and_false false = refl

and_true : (b : Bool) → b && true ≡ b
and_true true = refl
and_true false = refl

pub has_kept : (p : ℕ → Bool) (xs : List ℕ) (k : ℕ) → has (filter p xs) k ≡ has xs k && p k
has_kept p [] k = refl
has_kept p (x ∷ xs) k = by (p x) refl (has_kept p xs k)
  where
    by : (b : Bool) → p x ≡ b → has (filter p xs) k ≡ has xs k && p k → has (cond b (x ∷ filter p xs) (filter p xs)) k ≡ has (x ∷ xs) k && p k
    by true e r =
        elim (cases_eq x k) [
          | inl d ↦ (ap (λ b. b || has (filter p xs) k) (eq-eqb x k d) ∙ sym e ∙ ap p d ∙ ap (λ b. (b || has xs k) && p k) (sym (eq-eqb x k d)))
          | inr d ↦ (has_there x (filter p xs) k d ∙ r ∙ ap (λ b. b && p k) (sym (has_there x xs k d)))
        ]
    by false e r =
        elim (cases_eq x k) [
          | inl d ↦
              (let n : p k ≡ false = ap p (sym d) ∙ e in
              r ∙ ap (λ b. has xs k && b) n ∙ and_false (has xs k) ∙ sym (and_false (has (x ∷ xs) k)) ∙ ap (λ b. has (x ∷ xs) k && b) (sym n))
          | inr d ↦ (r ∙ ap (λ b. b && p k) (sym (has_there x xs k d)))
        ]

-- those below a number
abbrev UpTo : ℕ → ℕ → List ℕ → Type 0
UpTo n least [] = Unit {0}
UpTo n least (x ∷ xs) = (least ≤ x) × ((x < n) × UpTo n (suc x) xs)

up_of : (n least : ℕ) (xs : List ℕ) → UpTo n least xs → Up least xs
up_of n least [] h = tt
up_of n least (x ∷ xs) h = (h.0, up_of n (suc x) xs h.1.1)

upto-wider : (n least : ℕ) (xs : List ℕ) → UpTo n least xs → UpTo (suc n) least xs
upto-wider n least [] h = tt
upto-wider n least (x ∷ xs) h = (h.0, (let l = h.1.0 in omega arith, upto-wider n (suc x) xs h.1.1))

upto-push : (n least : ℕ) (xs : List ℕ) → least ≤ n → UpTo n least xs → UpTo (suc n) least (xs ++ n ∷ [])
upto-push n least [] l h = (l, (omega arith, tt))
upto-push n least (x ∷ xs) l h = (h.0, (let m = h.1.0 in omega arith, upto-push n (suc x) xs (let m = h.1.0 in omega arith) h.1.1))

upto-below : (n : ℕ) (test : ℕ → Bool) → UpTo n 0 (below n test)
upto-below zero test = tt
upto-below (suc n) test = by (test n) (upto-below n test)
  where
    by : (b : Bool) → UpTo n 0 (below n test) → UpTo (suc n) 0 (below n test ++ cond b (n ∷ []) [])
    by true h = upto-push n 0 (below n test) (omega arith) h
    by false h = subst (UpTo (suc n) 0) (sym (append-nil (below n test))) (upto-wider n 0 (below n test) h)

pub up-below : (n : ℕ) (test : ℕ → Bool) → Up 0 (below n test)
up-below n test = up_of n 0 (below n test) (upto-below n test)

has_append : (xs ys : List ℕ) (k : ℕ) → has (xs ++ ys) k ≡ has xs k || has ys k
has_append [] ys k = refl
has_append (x ∷ xs) ys k = by (x == k) (has_append xs ys k)
  where
    by : (b : Bool) → has (xs ++ ys) k ≡ has xs k || has ys k → b || has (xs ++ ys) k ≡ (b || has xs k) || has ys k
    by true e = refl
    by false e = e

or_false : (b : Bool) → b || false ≡ b
or_false true = refl
or_false false = refl

pub has-listed : (n : ℕ) (test : ℕ → Bool) (k : ℕ) → has (below n test) k ≡ nat_lt k n && test k
has-listed zero test k = ap (λ b. b && test k) (sym (le-ltb k 0 (omega arith)))
has-listed (suc n) test k =
    has_append (below n test) (cond (test n) (n ∷ []) []) k
    ∙ ap (λ b. b || has (cond (test n) (n ∷ []) []) k) (has-listed n test k)
    ∙ elim (cases_eq n k) [
      | inl d ↦
          (ap (λ b. (b && test k) || has (cond (test n) (n ∷ []) []) k) (le-ltb k n (omega (arith, d)))
          ∙ last (test n) (eq-eqb n k d)
          ∙ ap test d
          ∙ ap (λ b. b && test k) (sym (lt-ltb k (suc n) (omega (arith, d)))))
      | inr d ↦ (ap (λ b. (nat_lt k n && test k) || b) (not_last (test n) (ne_eqb n k d)) ∙ or_false (nat_lt k n && test k) ∙ ap (λ b. b && test k) (wider d))
    ]
  where
    last : (b : Bool) → (n == k) ≡ true → has (cond b (n ∷ []) []) k ≡ b
    last true e = ap (λ z. z || false) e
    last false e = refl

    not_last : (b : Bool) → (n == k) ≡ false → has (cond b (n ∷ []) []) k ≡ false
    not_last true e = ap (λ z. z || false) e
    not_last false e = refl

    wider : n ≢ k → nat_lt k n ≡ nat_lt k (suc n)
    wider d = elim (cases_lt k n) [ inl l ↦ (lt-ltb k n l ∙ sym (lt-ltb k (suc n) (omega (arith, l)))) | inr l ↦ (le-ltb k n l ∙ sym (le-ltb k (suc n) (omega (arith, l, d)))) ]

-- ---- the variables of a row
abbrev pub counts : List Term → ℕ → Bool
counts row k = not (eq_ℚ (factor_of row k) zero_ℚ)

zero_is : eq_ℚ zero_ℚ zero_ℚ ≡ true
zero_is = (eq-Decides zero_ℚ zero_ℚ).1 refl

nonzero_is : (x : ℚ) → x ≢ zero_ℚ → not (eq_ℚ x zero_ℚ) ≡ true
nonzero_is x d = by (eq_ℚ x zero_ℚ) refl
  where
    by : (b : Bool) → eq_ℚ x zero_ℚ ≡ b → not b ≡ true
    by true e = absurd (d ((eq-Decides x zero_ℚ).0 e))
    by false e = refl

counts_not : (x : ℚ) → not (eq_ℚ x zero_ℚ) ≡ false → x ≡ zero_ℚ
counts_not x h = by (eq_ℚ x zero_ℚ) refl h
  where
    by : (b : Bool) → eq_ℚ x zero_ℚ ≡ b → not b ≡ false → x ≡ zero_ℚ
    by true e g = (eq-Decides x zero_ℚ).0 e
    by false e g = absurd (true≢false g)

up-row : (least : ℕ) (row : List Term) → Rises least row → Up least (map (λ t. t.column) row)
up-row least [] h = tt
up-row least (t ∷ ts) h = (h.0, up-row (suc t.column) ts h.1.1)

has-row : (least : ℕ) (row : List Term) → Rises least row → (k : ℕ) → has (map (λ t. t.column) row) k ≡ counts row k
has-row least [] h k = ap not (sym zero_is)
has-row least (t ∷ ts) h k =
    elim (cases_eq t.column k) [
      | inl d ↦
          (ap (λ b. b || has (map (λ t. t.column) ts) k) (eq-eqb t.column k d)
          ∙ sym (nonzero_is t.factor h.1.0)
          ∙ ap (λ x. not (eq_ℚ x zero_ℚ)) (sym (factor_here t ts h.1.1) ∙ ap (factor_of (t ∷ ts)) d))
      | inr d ↦ (has_there t.column (map (λ t. t.column) ts) k d ∙ has-row (suc t.column) ts h.1.1 k ∙ ap (λ x. not (eq_ℚ x zero_ℚ)) (sym (factor_there t ts k (λ e. d (sym e)))))
    ]

-- they are those of a list that count, where the list has them all
pub listed : (row : List Term) (list : List ℕ) → Rises 0 row → Up 0 list → All (λ t. has list t.column ≡ true) row → map (λ t. t.column) row ≡ filter (counts row) list
listed row list h up all = same 0 0 _ _ (up-row 0 row h) (up-kept (counts row) 0 list up) (λ k. has-row 0 row h k ∙ by k (counts row k) refl ∙ sym (has_kept (counts row) list k))
  where
    by : (k : ℕ) (b : Bool) → counts row k ≡ b → counts row k ≡ has list k && counts row k
    by k true e = e ∙ sym (of_counted (λ c. has list c ≡ true) row k all (λ z. true≢false (sym e ∙ ap (λ x. not (eq_ℚ x zero_ℚ)) z ∙ ap not zero_is))) ∙ sym (and_true (has list k)) ∙ ap (λ b. has list k && b) (sym e)
    by k false e = e ∙ sym (and_false (has list k)) ∙ ap (λ b. has list k && b) (sym e)

-- ---- operations
pub flat_skip : {A : Type 0} (F : ℕ → List A) (p : ℕ → Bool) → ((k : ℕ) → p k ≡ false → F k ≡ []) → (xs : List ℕ) → flat_map F (filter p xs) ≡ flat_map F xs
flat_skip F p none [] = refl
flat_skip F p none (x ∷ xs) = by (p x) refl (flat_skip F p none xs)
  where
    by : (b : Bool) → p x ≡ b → flat_map F (filter p xs) ≡ flat_map F xs → flat_map F (cond b (x ∷ filter p xs) (filter p xs)) ≡ F x ++ flat_map F xs
    by true e r = ap (λ z. F x ++ z) r
    by false e r = r ∙ ap (λ z. z ++ flat_map F xs) (sym (none x e))

pub flat_all : {A : Type 0} (P : ℕ → Type 0) (F G : ℕ → List A) → ((k : ℕ) → P k → F k ≡ G k) → (xs : List ℕ) → All P xs → flat_map F xs ≡ flat_map G xs
flat_all P F G h [] all = refl
flat_all P F G h (x ∷ xs) all = ap (λ z. z ++ flat_map F xs) (h x (All-head P x xs all)) ∙ ap (λ z. G x ++ z) (flat_all P F G h xs (All-tail P x xs all))

pub flat_others : (F G : ℕ → Calculation) (j : ℕ) → ((k : ℕ) → k ≢ j → F k ≡ G k) → (xs : List ℕ) → flat_map F (others j xs) ≡ flat_map G (others j xs)
flat_others F G j h [] = refl
flat_others F G j h (x ∷ xs) =
    elim (cases_eq x j) [
      | inl d ↦
          (ap (λ b. flat_map F (cond (not b) (x ∷ others j xs) (others j xs))) (eq-eqb x j d)
          ∙ flat_others F G j h xs
          ∙ ap (λ b. flat_map G (cond (not b) (x ∷ others j xs) (others j xs))) (sym (eq-eqb x j d)))
      | inr d ↦
          (ap (λ b. flat_map F (cond (not b) (x ∷ others j xs) (others j xs))) (ne_eqb x j d)
          ∙ ap (λ z. z ++ flat_map F (others j xs)) (h x d)
          ∙ ap (λ z. G x ++ z) (flat_others F G j h xs)
          ∙ ap (λ b. flat_map G (cond (not b) (x ∷ others j xs) (others j xs))) (sym (ne_eqb x j d)))
    ]

terms_flat : (H : ℕ → ℚ → Calculation) (f : ℕ → ℚ) (least : ℕ) (row : List Term) → Rises least row → ((k : ℕ) → least ≤ k → f k ≡ factor_of row k) → flat_map (λ k. H k (f k)) (map (λ t. t.column) row) ≡ flat_map (λ t. H t.column t.factor) row
terms_flat H f least [] h e = refl
terms_flat H f least (t ∷ ts) h e =
    ap (λ x. H t.column x ++ flat_map (λ k. H k (f k)) (map (λ t. t.column) ts)) (e t.column h.0 ∙ factor_here t ts h.1.1)
    ∙ ap (λ z. H t.column t.factor ++ z) (terms_flat H f (suc t.column) ts h.1.1 (λ k l. e k (let m = h.0 in omega (arith, l)) ∙ factor_there t ts k (λ d. absurd (omega (arith, d, l)))))

-- operations with the factors of a row, none where a factor is 0, are those of its terms
pub by_terms : (H : ℕ → ℚ → Calculation) → ((k : ℕ) → H k zero_ℚ ≡ []) → (row : List Term) (list : List ℕ) → Rises 0 row → Up 0 list → All (λ t. has list t.column ≡ true) row → flat_map (λ k. H k (factor_of row k)) list ≡ flat_map (λ t. H t.column t.factor) row
by_terms H none row list h up all =
    sym (flat_skip (λ k. H k (factor_of row k)) (counts row) (λ k e. ap (H k) (counts_not (factor_of row k) e) ∙ none k) list)
    ∙ ap (flat_map (λ k. H k (factor_of row k))) (sym (listed row list h up all))
    ∙ terms_flat H (factor_of row) 0 row h (λ k l. refl)

pub counted_left : (kind : Op) (b : ℚ) → counted kind zero_ℚ b ≡ []
counted_left kind b = ap (λ z. cond (z || eq_ℚ b zero_ℚ) [] (operation kind zero_ℚ b ∷ [])) zero_is

pub counted_right : (kind : Op) (a : ℚ) → counted kind a zero_ℚ ≡ []
counted_right kind a = ap (λ z. cond (eq_ℚ a zero_ℚ || z) [] (operation kind a zero_ℚ ∷ [])) zero_is ∙ by (eq_ℚ a zero_ℚ)
  where
    by : (b : Bool) → cond (b || true) [] (operation kind a zero_ℚ ∷ []) ≡ []
    by true = refl
    by false = refl

-- ---- sums
module _ (f g : ℕ → ℚ) where
  abbrev nonzero : ℕ → Bool
  nonzero k = not (eq_ℚ (f k) zero_ℚ)

  times : (x : ℕ) → f x ≡ zero_ℚ → f x *ℚ g x ≡ zero_ℚ
  times x e = ap (λ z. z *ℚ g x) e ∙ nothing_times (g x)

  plus_nothing : (s : ℚ) → s +ℚ zero_ℚ ≡ s
  plus_nothing s = ring_ℚ (s ∷ []) (x0 :+ zero_of) x0 tt

  pub sum_skip : (s : ℚ) (xs : List ℕ) → sum_operations f g s (filter nonzero xs) ≡ sum_operations f g s xs
  sum_skip s [] = refl
  sum_skip s (x ∷ xs) = by (nonzero x) refl (λ s. sum_skip s xs)
    where
      by : (b : Bool) → nonzero x ≡ b → ((s : ℚ) → sum_operations f g s (filter nonzero xs) ≡ sum_operations f g s xs)
          → sum_operations f g s (cond b (x ∷ filter nonzero xs) (filter nonzero xs)) ≡ counted Times (f x) (g x) ++ (counted Plus s (f x *ℚ g x) ++ sum_operations f g (s +ℚ f x *ℚ g x) xs)
      by true e r = ap (λ z. counted Times (f x) (g x) ++ (counted Plus s (f x *ℚ g x) ++ z)) (r (s +ℚ f x *ℚ g x))
      by false e r =
          let z : f x ≡ zero_ℚ = counts_not (f x) e in
          r s
          ∙ ap (λ y. sum_operations f g y xs) (sym (ap (λ y. s +ℚ y) (times x z) ∙ plus_nothing s))
          ∙ ap (λ y. y ++ sum_operations f g (s +ℚ f x *ℚ g x) xs) (sym (ap (counted Plus s) (times x z) ∙ counted_right Plus s))
          ∙ ap (λ y. y ++ (counted Plus s (f x *ℚ g x) ++ sum_operations f g (s +ℚ f x *ℚ g x) xs)) (sym (ap (λ y. counted Times y (g x)) z ∙ counted_left Times (g x)))

  pub total_skip : (xs : List ℕ) → sum_over (λ k. f k *ℚ g k) (filter nonzero xs) ≡ sum_over (λ k. f k *ℚ g k) xs
  total_skip [] = refl
  total_skip (x ∷ xs) = by (nonzero x) refl (total_skip xs)
    where
      by : (b : Bool) → nonzero x ≡ b → sum_over (λ k. f k *ℚ g k) (filter nonzero xs) ≡ sum_over (λ k. f k *ℚ g k) xs → sum_over (λ k. f k *ℚ g k) (cond b (x ∷ filter nonzero xs) (filter nonzero xs)) ≡ f x *ℚ g x +ℚ sum_over (λ k. f k *ℚ g k) xs
      by true e r = ap (λ z. f x *ℚ g x +ℚ z) r
      by false e r = r ∙ sym (nothing_first (sum_over (λ k. f k *ℚ g k) xs)) ∙ ap (λ z. z +ℚ sum_over (λ k. f k *ℚ g k) xs) (sym (times x (counts_not (f x) e)))
