-- Lists of terms with ascending variables.
use Rattle.std.proofs.Common.{◌≡◌, ◌≢◌, ◌+◌, ◌<◌, ◌≤◌, refl, sym, ◌∙◌, ap, subst, ℕ, zero, suc, Bool, true, false, not, ◌==◌, List, [], ◌∷◌, ◌++◌, length, take, drop, cond, nat_lt, arith, inl, inr, eq-eqb, ne_eqb}
use Rattle.std.specs.Prelude.{All, AllPairs, filter, slice_index_or}
use Rattle.std.proofs.lemmas.Bool.{cases_eq, cases_lt, lt-ltb, le-ltb}
use Rattle.std.proofs.lemmas.List.{drop_more, drop_all}
use Rattle.std.proofs.lemmas.List.Elements.{All-nil, All-cons, All-head, All-tail, All-weaker}
use Rattle.std.proofs.lemmas.List.Kept.{AllPairs-cons}
use Rattle.rational.specs.Rational.{ℚ, ◌+ℚ◌, zero_ℚ}
use Rattle.rational.specs.Linear.{Term, factor_of}
use Rattle.rational.proofs.Sums.{nothing_first, sum_over-append}
use Rattle.rational.proofs.Field.{ring_ℚ, x0, x1, x2, ◌:+◌, zero_of}
use Rattle.dictionary.specs.Rows.{IsRow, without}

-- ---- by recursion: the variables ascend from a least one on, and no factor is 0
abbrev pub Rises : ℕ → List Term → Type 0
Rises least [] = Unit {0}
Rises least (t ∷ ts) = (least ≤ t.column) × ((t.factor ≢ zero_ℚ) × Rises (suc t.column) ts)

pub rises-less : (a b : ℕ) (row : List Term) → a ≤ b → Rises b row → Rises a row
rises-less a b [] l h = tt
rises-less a b (t ∷ ts) l h = (let m = h.0 in omega arith, h.1)

rises-all : (least : ℕ) (row : List Term) → Rises least row → All (λ t. least ≤ t.column) row
rises-all least [] h = All-nil (λ (t : Term). least ≤ t.column)
rises-all least (t ∷ ts) h = All-cons (λ (s : Term). least ≤ s.column) t ts h.0 (All-weaker (λ (s : Term). suc t.column ≤ s.column) (λ (s : Term). least ≤ s.column) (λ s l. let m = h.0 in omega arith) ts (rises-all (suc t.column) ts h.1.1))

no_pairs : AllPairs (λ (s t : Term). s.column < t.column) []
no_pairs i j d l m = absurd (omega arith)

pub row_of_rises : (least : ℕ) (row : List Term) → Rises least row → IsRow row
row_of_rises least [] h = record { ascending = no_pairs; nonzero = All-nil (λ (t : Term). t.factor ≢ zero_ℚ) }
row_of_rises least (t ∷ ts) h =
    let r = row_of_rises (suc t.column) ts h.1.1 in
    record {
      ascending = AllPairs-cons (λ (s t : Term). s.column < t.column) t ts (All-weaker (λ (s : Term). suc t.column ≤ s.column) (λ (s : Term). t.column < s.column) (λ s l. omega (arith, l)) ts (rises-all (suc t.column) ts h.1.1)) r.ascending;
      nonzero = All-cons (λ (t : Term). t.factor ≢ zero_ℚ) t ts h.1.0 r.nonzero;
    }

rises_from : (least : ℕ) (row : List Term) → IsRow row → All (λ t. least ≤ t.column) row → Rises least row
rises_from least [] is h = tt
rises_from least (t ∷ ts) is h = (
  All-head (λ (t : Term). least ≤ t.column) t ts h,
  (
    All-head (λ (t : Term). t.factor ≢ zero_ℚ) t ts is.nonzero,
    rises_from (suc t.column) ts
        (record { ascending = λ i j d l m. is.ascending (suc i) (suc j) d (omega (arith, l)) (omega (arith, m)); nonzero = All-tail (λ (t : Term). t.factor ≢ zero_ℚ) t ts is.nonzero })
        (λ k d l. let e : t.column < _ = is.ascending 0 (suc k) d (omega arith) (omega (arith, l)) in omega (arith, e)),
  ),
)

pub rises : (row : List Term) → IsRow row → Rises 0 row
rises row is = rises_from 0 row is (λ k d l. omega arith)

-- ---- the factor of a variable
pub factor_there : (t : Term) (ts : List Term) (k : ℕ) → k ≢ t.column → factor_of (t ∷ ts) k ≡ factor_of ts k
factor_there t ts k d = ap (λ b. cond b t.factor zero_ℚ +ℚ factor_of ts k) (ne_eqb t.column k (λ e. d (sym e))) ∙ nothing_first (factor_of ts k)

pub factor_below : (least : ℕ) (row : List Term) (k : ℕ) → Rises least row → k < least → factor_of row k ≡ zero_ℚ
factor_below least [] k h l = refl
factor_below least (t ∷ ts) k h l = factor_there t ts k (λ e. let m = h.0 in absurd (omega (arith, e))) ∙ factor_below (suc t.column) ts k h.1.1 (let m = h.0 in omega arith)

plus_nothing : (a : ℚ) → a +ℚ zero_ℚ ≡ a
plus_nothing a = ring_ℚ (a ∷ []) (x0 :+ zero_of) x0 tt

pub factor_here : (t : Term) (ts : List Term) → Rises (suc t.column) ts → factor_of (t ∷ ts) t.column ≡ t.factor
factor_here t ts h =
    ap (λ b. cond b t.factor zero_ℚ +ℚ factor_of ts t.column) (eq-eqb t.column t.column refl)
    ∙ ap (λ z. t.factor +ℚ z) (factor_below (suc t.column) ts t.column h (omega arith))
    ∙ plus_nothing t.factor

-- what holds of each variable of a row holds of each that counts in it
pub of_counted : (P : ℕ → Type 0) (row : List Term) (k : ℕ) → All (λ t. P t.column) row → factor_of row k ≢ zero_ℚ → P k
of_counted P [] k h n = absurd (n refl)
of_counted P (t ∷ ts) k h n =
    elim (cases_eq k t.column) [
      | inl e ↦ subst P (sym e) (All-head (λ (t : Term). P t.column) t ts h)
      | inr e ↦ of_counted P ts k (All-tail (λ (t : Term). P t.column) t ts h) (λ z. n (factor_there t ts k e ∙ z))
    ]

-- ---- parts of a row
-- the terms that pass a test of variables
zero_both : (b : Bool) → zero_ℚ ≡ cond b zero_ℚ zero_ℚ
zero_both true = refl
zero_both false = refl

pub factor_kept : (p : ℕ → Bool) (row : List Term) (k : ℕ) → factor_of (filter (λ t. p t.column) row) k ≡ cond (p k) (factor_of row k) zero_ℚ
factor_kept p [] k = zero_both (p k)
factor_kept p (t ∷ ts) k = by (p t.column) refl (factor_kept p ts k)
  where
    same : (b : Bool) → p t.column ≡ b → k ≡ t.column → p k ≡ b
    same b e d = ap p d ∙ e

    by : (b : Bool) → p t.column ≡ b → factor_of (filter (λ t. p t.column) ts) k ≡ cond (p k) (factor_of ts k) zero_ℚ → factor_of (cond b (t ∷ filter (λ t. p t.column) ts) (filter (λ t. p t.column) ts)) k ≡ cond (p k) (factor_of (t ∷ ts) k) zero_ℚ
    by true e rest =
        elim (cases_eq k t.column) [
          | inl d ↦
              (ap (λ z. cond (t.column == k) t.factor zero_ℚ +ℚ z) (rest ∙ ap (λ b. cond b (factor_of ts k) zero_ℚ) (same true e d))
              ∙ ap (λ b. cond b (factor_of (t ∷ ts) k) zero_ℚ) (sym (same true e d)))
          | inr d ↦ (factor_there t (filter (λ t. p t.column) ts) k d ∙ rest ∙ ap (λ z. cond (p k) z zero_ℚ) (sym (factor_there t ts k d)))
        ]
    by false e rest =
        elim (cases_eq k t.column) [
          | inl d ↦ (rest ∙ ap (λ b. cond b (factor_of ts k) zero_ℚ) (same false e d) ∙ ap (λ b. cond b (factor_of (t ∷ ts) k) zero_ℚ) (sym (same false e d)))
          | inr d ↦ (rest ∙ ap (λ z. cond (p k) z zero_ℚ) (sym (factor_there t ts k d)))
        ]

pub rises-kept : (p : Term → Bool) (least : ℕ) (row : List Term) → Rises least row → Rises least (filter p row)
rises-kept p least [] h = tt
rises-kept p least (t ∷ ts) h = by (p t) (rises-kept p (suc t.column) ts h.1.1)
  where
    by : (b : Bool) → Rises (suc t.column) (filter p ts) → Rises least (cond b (t ∷ filter p ts) (filter p ts))
    by true rest = (h.0, (h.1.0, rest))
    by false rest = rises-less least (suc t.column) (filter p ts) (let m = h.0 in omega arith) rest

-- those of lesser variables, those of greater ones and those of others
abbrev pub lesser : ℕ → List Term → List Term
lesser v row = filter (λ t. nat_lt t.column v) row

abbrev pub greater : ℕ → List Term → List Term
greater v row = filter (λ t. nat_lt v t.column) row

abbrev pub from_on : ℕ → List Term → List Term
from_on v row = filter (λ t. not (nat_lt t.column v)) row

pub rises-greater : (least v : ℕ) (row : List Term) → Rises least row → Rises (suc v) (greater v row)
rises-greater least v [] h = tt
rises-greater least v (t ∷ ts) h =
    elim (cases_lt v t.column) [
      | inl l ↦ subst (λ b. Rises (suc v) (cond b (t ∷ greater v ts) (greater v ts))) (sym (lt-ltb v t.column l)) (omega (arith, l), (h.1.0, rises-kept (λ t. nat_lt v t.column) (suc t.column) ts h.1.1))
      | inr l ↦ subst (λ b. Rises (suc v) (cond b (t ∷ greater v ts) (greater v ts))) (sym (le-ltb v t.column l)) (rises-greater (suc t.column) v ts h.1.1)
    ]

-- where all are lesser, or none is
none_lesser : (v least : ℕ) (row : List Term) → v ≤ least → Rises least row → lesser v row ≡ []
none_lesser v least [] l h = refl
none_lesser v least (t ∷ ts) l h =
    ap (λ b. cond b (t ∷ lesser v ts) (lesser v ts)) (le-ltb t.column v (let m = h.0 in omega arith))
    ∙ none_lesser v (suc t.column) ts (let m = h.0 in omega arith) h.1.1

all_from_on : (v least : ℕ) (row : List Term) → v ≤ least → Rises least row → from_on v row ≡ row
all_from_on v least [] l h = refl
all_from_on v least (t ∷ ts) l h =
    ap (λ b. cond (not b) (t ∷ from_on v ts) (from_on v ts)) (le-ltb t.column v (let m = h.0 in omega arith))
    ∙ ap (λ z. t ∷ z) (all_from_on v (suc t.column) ts (let m = h.0 in omega arith) h.1.1)

all_greater : (v least : ℕ) (row : List Term) → v < least → Rises least row → greater v row ≡ row
all_greater v least [] l h = refl
all_greater v least (t ∷ ts) l h =
    ap (λ b. cond b (t ∷ greater v ts) (greater v ts)) (lt-ltb v t.column (let m = h.0 in omega arith))
    ∙ ap (λ z. t ∷ z) (all_greater v (suc t.column) ts (let m = h.0 in omega arith) h.1.1)

-- a greater variable is not a lesser one
greater_from_on : (v : ℕ) (row : List Term) → greater v (from_on v row) ≡ greater v row
greater_from_on v [] = refl
greater_from_on v (t ∷ ts) =
    elim (cases_lt t.column v) [
      | inl l ↦
          (ap (λ b. greater v (cond (not b) (t ∷ from_on v ts) (from_on v ts))) (lt-ltb t.column v l)
          ∙ greater_from_on v ts
          ∙ sym (ap (λ b. cond b (t ∷ greater v ts) (greater v ts)) (le-ltb v t.column (omega (arith, l)))))
      | inr l ↦
          (ap (λ b. greater v (cond (not b) (t ∷ from_on v ts) (from_on v ts))) (le-ltb t.column v l)
          ∙ ap (λ z. cond (nat_lt v t.column) (t ∷ z) z) (greater_from_on v ts))
    ]

shorter : (n : ℕ) (row : List Term) (t : Term) (ts : List Term) → drop n row ≡ t ∷ ts → n < length row
shorter n row t ts e = elim (cases_lt n (length row)) [ inl l ↦ l | inr l ↦ absurd (cc (drop_all n row l)) ]

at_head : {a b : Term} {xs ys zs : List Term} → xs ≡ a ∷ ys → xs ≡ b ∷ zs → a ≡ b
at_head e f = cc

-- ---- a row split at a place
-- before the place the variables are lesser, and from it on they are not
pub split_front : (v n : ℕ) (row : List Term) → ((k : ℕ) (d : Term) → k < n → k < length row → (slice_index_or row k d).column < v) → ((k : ℕ) (d : Term) → n ≤ k → k < length row → v ≤ (slice_index_or row k d).column) → (take n row ≡ lesser v row) × (drop n row ≡ from_on v row)
split_front v zero [] f g = (refl, refl)
split_front v (suc n) [] f g = (refl, refl)
split_front v zero (t ∷ ts) f g =
    let r = split_front v zero ts (λ k d l. absurd (omega (arith, l))) (λ k d l m. g (suc k) d (omega arith) (omega (arith, m))) in
    let e = le-ltb t.column v (g 0 t (omega arith) (omega arith)) in (
      r.0 ∙ ap (λ b. cond b (t ∷ lesser v ts) (lesser v ts)) (sym e),
      ap (λ z. t ∷ z) r.1 ∙ ap (λ b. cond (not b) (t ∷ from_on v ts) (from_on v ts)) (sym e),
    )
split_front v (suc n) (t ∷ ts) f g =
    let r = split_front v n ts (λ k d l m. f (suc k) d (omega (arith, l)) (omega (arith, m))) (λ k d l m. g (suc k) d (omega (arith, l)) (omega (arith, m))) in
    let e = lt-ltb t.column v (f 0 t (omega arith) (omega arith)) in (
      ap (λ z. t ∷ z) r.0 ∙ ap (λ b. cond b (t ∷ lesser v ts) (lesser v ts)) (sym e),
      r.1 ∙ ap (λ b. cond (not b) (t ∷ from_on v ts) (from_on v ts)) (sym e),
    )

pub rises-from_on : (least v : ℕ) (row : List Term) → Rises least row → Rises v (from_on v row)
rises-from_on least v [] h = tt
rises-from_on least v (t ∷ ts) h =
    elim (cases_lt t.column v) [
      | inl l ↦ subst (λ b. Rises v (cond (not b) (t ∷ from_on v ts) (from_on v ts))) (sym (lt-ltb t.column v l)) (rises-from_on (suc t.column) v ts h.1.1)
      | inr l ↦ subst (λ b. Rises v (cond (not b) (t ∷ from_on v ts) (from_on v ts))) (sym (le-ltb t.column v l)) (l, (h.1.0, rises-kept (λ t. not (nat_lt t.column v)) (suc t.column) ts h.1.1))
    ]

-- lesser variables first, and then a row of those that are not
pub rises-join : (least v : ℕ) (row rest : List Term) → least ≤ v → Rises least row → Rises v rest → Rises least (lesser v row ++ rest)
rises-join least v [] rest l h r = rises-less least v rest l r
rises-join least v (t ∷ ts) rest l h r =
    elim (cases_lt t.column v) [
      | inl m ↦ subst (λ b. Rises least (cond b (t ∷ lesser v ts) (lesser v ts) ++ rest)) (sym (lt-ltb t.column v m)) (h.0, (h.1.0, rises-join (suc t.column) v ts rest (omega (arith, m)) h.1.1 r))
      | inr m ↦ subst (λ b. Rises least (cond b (t ∷ lesser v ts) (lesser v ts) ++ rest)) (sym (le-ltb t.column v m)) (rises-join least v ts rest l (rises-less least (suc t.column) ts (let n = h.0 in omega arith) h.1.1) r)
    ]

-- a variable that does not count stands at no head
pub rises-past : (v : ℕ) (row : List Term) → Rises v row → factor_of row v ≡ zero_ℚ → Rises (suc v) row
rises-past v [] h e = tt
rises-past v (t ∷ ts) h e =
    elim (cases_eq v t.column) [
      | inl d ↦ absurd (h.1.0 (sym (factor_here t ts h.1.1) ∙ ap (factor_of (t ∷ ts)) (sym d) ∙ e))
      | inr d ↦ (let l = h.0 in omega (arith, d), h.1)
    ]

-- ---- without a variable
pub without_none : (least v : ℕ) (row : List Term) → Rises least row → factor_of row v ≡ zero_ℚ → without v row ≡ row
without_none least v [] h e = refl
without_none least v (t ∷ ts) h e =
    elim (cases_eq v t.column) [
      | inl d ↦ absurd (h.1.0 (sym (factor_here t ts h.1.1) ∙ ap (factor_of (t ∷ ts)) (sym d) ∙ e))
      | inr d ↦
          (ap (λ b. cond (not b) (t ∷ without v ts) (without v ts)) (ne_eqb t.column v (λ f. d (sym f)))
          ∙ ap (λ z. t ∷ z) (without_none (suc t.column) v ts h.1.1 (sym (factor_there t ts v d) ∙ e)))
    ]

pub without_parts : (least v : ℕ) (row : List Term) → Rises least row → without v row ≡ lesser v row ++ without v (from_on v row)
without_parts least v [] h = refl
without_parts least v (t ∷ ts) h =
    elim (cases_lt t.column v) [
      | inl l ↦
          (ap (λ b. cond (not b) (t ∷ without v ts) (without v ts)) (ne_eqb t.column v (λ e. absurd (omega (arith, e, l))))
          ∙ ap (λ z. t ∷ z) (without_parts (suc t.column) v ts h.1.1)
          ∙ ap (λ b. cond b (t ∷ lesser v ts) (lesser v ts) ++ without v (cond (not b) (t ∷ from_on v ts) (from_on v ts))) (sym (lt-ltb t.column v l)))
      | inr l ↦
          (let r : Rises v (t ∷ ts) = (l, h.1) in
          ap (λ z. z ++ without v (t ∷ ts)) (sym (none_lesser v v (t ∷ ts) (omega arith) r)) ∙ ap (λ z. lesser v (t ∷ ts) ++ without v z) (sym (all_from_on v v (t ∷ ts) (omega arith) r)))
    ]

pub factor_without : (v : ℕ) (row : List Term) (k : ℕ) → factor_of (without v row) k ≡ cond (k == v) zero_ℚ (factor_of row k)
factor_without v row k = factor_kept (λ c. not (c == v)) row k ∙ turned (k == v)
  where
    turned : (b : Bool) → cond (not b) (factor_of row k) zero_ℚ ≡ cond b zero_ℚ (factor_of row k)
    turned true = refl
    turned false = refl

-- ---- a variable looked up
factor_from_on : (v : ℕ) (row : List Term) → factor_of (from_on v row) v ≡ factor_of row v
factor_from_on v row = factor_kept (λ k. not (nat_lt k v)) row v ∙ ap (λ b. cond (not b) (factor_of row v) zero_ℚ) (le-ltb v v (omega arith))

module _ (v : ℕ) (row : List Term) (is : IsRow row) (n : ℕ) (front : take n row ≡ lesser v row) (back : drop n row ≡ from_on v row) where
  rest_rises : Rises v (drop n row)
  rest_rises = subst (Rises v) (sym back) (rises-from_on 0 v row (rises row is))

  rest_factor : factor_of (drop n row) v ≡ factor_of row v
  rest_factor = ap (λ z. factor_of z v) back ∙ factor_from_on v row

  module _ (d : Term) (l : n < length row) (here : (slice_index_or row n d).column ≡ v) where
    abbrev t : Term
    t = slice_index_or row n d

    headed : drop n row ≡ t ∷ drop (suc n) row
    headed = drop_more row n d l ∙ ap (λ k. t ∷ drop k row) (let e : n + 1 ≡ suc n = omega arith in e)

    head_rises : Rises v (t ∷ drop (suc n) row)
    head_rises = subst (Rises v) headed rest_rises

    tail_rises : Rises (suc v) (drop (suc n) row)
    tail_rises = subst (λ c. Rises (suc c) (drop (suc n) row)) here head_rises.1.1

    pub found-factor : t.factor ≡ factor_of row v
    found-factor = sym (factor_here t (drop (suc n) row) head_rises.1.1) ∙ ap (factor_of (t ∷ drop (suc n) row)) here ∙ ap (λ z. factor_of z v) (sym headed) ∙ rest_factor

    pub found-nonzero : t.factor ≢ zero_ℚ
    found-nonzero = head_rises.1.0

    pub found-without : take n row ++ drop (suc n) row ≡ without v row
    found-without =
        ap (λ z. z ++ drop (suc n) row) front
        ∙ ap (λ z. lesser v row ++ z) (sym (without_none (suc v) v (drop (suc n) row) tail_rises (factor_below (suc v) (drop (suc n) row) v tail_rises (omega arith)))
        ∙ sym (ap (λ b. cond (not b) (t ∷ without v (drop (suc n) row)) (without v (drop (suc n) row))) (eq-eqb t.column v here))
        ∙ ap (without v) (sym headed ∙ back))
        ∙ sym (without_parts 0 v row (rises row is))

    pub found-greater : drop (suc n) row ≡ greater v row
    found-greater = greater_tail tail_rises ∙ ap (greater v) (sym headed) ∙ ap (greater v) back ∙ greater_from_on v row
      where
        greater_tail : Rises (suc v) (drop (suc n) row) → drop (suc n) row ≡ greater v (t ∷ drop (suc n) row)
        greater_tail h = sym (all_greater v (suc v) (drop (suc n) row) (omega arith) h) ∙ sym (ap (λ b. cond b (t ∷ greater v (drop (suc n) row)) (greater v (drop (suc n) row))) (le-ltb v t.column (let e : t.column ≤ v = omega (arith, here) in e)))

  module _ (none : (d : Term) → n < length row → (slice_index_or row n d).column ≢ v) where
    past_rises : Rises (suc v) (drop n row)
    past_rises = by (drop n row) refl rest_rises
      where
        by : (rest : List Term) → drop n row ≡ rest → Rises v rest → Rises (suc v) rest
        by [] e h = tt
        by (t ∷ ts) e h =
            let w : n < length row = shorter n row t ts e in
            let s : slice_index_or row n t ≡ t = at_head (drop_more row n t w) e in
            (let l = h.0 in let m : t.column ≢ v = (λ f. none t w (ap (λ (z : Term). z.column) s ∙ f)) in omega (arith, m), h.1)

    pub missing-factor : factor_of row v ≡ zero_ℚ
    missing-factor = sym rest_factor ∙ factor_below (suc v) (drop n row) v past_rises (omega arith)

    pub missing-greater : drop n row ≡ greater v row
    missing-greater = sym (all_greater v (suc v) (drop n row) (omega arith) past_rises) ∙ ap (greater v) back ∙ greater_from_on v row

-- the factor of the variable of a term
pub factor_at : (least : ℕ) (row : List Term) → Rises least row → (n : ℕ) (d : Term) → n < length row → factor_of row (slice_index_or row n d).column ≡ (slice_index_or row n d).factor
factor_at least [] h n d l = absurd (omega (arith, l))
factor_at least (t ∷ ts) h zero d l = factor_here t ts h.1.1
factor_at least (t ∷ ts) h (suc n) d l =
    factor_there t ts (slice_index_or ts n d).column (λ e. let m = rises-all (suc t.column) ts h.1.1 n d (omega (arith, l)) in absurd (omega (arith, e, m)))
    ∙ factor_at (suc t.column) ts h.1.1 n d (omega (arith, l))

-- ---- a term put in
module _ (v : ℕ) (row : List Term) (is : IsRow row) (none : factor_of row v ≡ zero_ℚ) (x : ℚ) (nonzero : x ≢ zero_ℚ) where
  abbrev put : List Term
  put = lesser v row ++ record { column = v; factor = x } ∷ from_on v row

  pub put-row : IsRow put
  put-row =
      row_of_rises 0 put
      (rises-join 0 v row (record { column = v; factor = x } ∷ from_on v row) (omega arith) (rises row is)
      (omega arith, (nonzero, rises-past v (from_on v row) (rises-from_on 0 v row (rises row is)) (factor_from_on v row ∙ none))))

  both : (k : ℕ) → factor_of row k ≡ factor_of (lesser v row) k +ℚ factor_of (from_on v row) k
  both k =
      by (nat_lt k v)
      ∙ ap (λ z. z +ℚ cond (not (nat_lt k v)) (factor_of row k) zero_ℚ) (sym (factor_kept (λ c. nat_lt c v) row k))
      ∙ ap (λ z. factor_of (lesser v row) k +ℚ z) (sym (factor_kept (λ c. not (nat_lt c v)) row k))
    where
      by : (b : Bool) → factor_of row k ≡ cond b (factor_of row k) zero_ℚ +ℚ cond (not b) (factor_of row k) zero_ℚ
      by true = sym (plus_nothing (factor_of row k))
      by false = sym (nothing_first (factor_of row k))

  put-factor : (k : ℕ) → factor_of put k ≡ cond (v == k) x zero_ℚ +ℚ factor_of row k
  put-factor k =
      sum_over-append _ (lesser v row) (record { column = v; factor = x } ∷ from_on v row)
      ∙ ring_ℚ (factor_of (lesser v row) k ∷ cond (v == k) x zero_ℚ ∷ factor_of (from_on v row) k ∷ []) (x0 :+ (x1 :+ x2)) (x1 :+ (x0 :+ x2)) tt
      ∙ ap (λ z. cond (v == k) x zero_ℚ +ℚ z) (sym (both k))

  pub put-own : factor_of put v ≡ x
  put-own = put-factor v ∙ ap (λ b. cond b x zero_ℚ +ℚ factor_of row v) (eq-eqb v v refl) ∙ ap (λ z. x +ℚ z) none ∙ plus_nothing x

  pub put-others : (k : ℕ) → k ≢ v → factor_of put k ≡ factor_of row k
  put-others k d = put-factor k ∙ ap (λ b. cond b x zero_ℚ +ℚ factor_of row k) (ne_eqb v k (λ e. d (sym e))) ∙ nothing_first (factor_of row k)

pub rises-drop : (least n : ℕ) (row : List Term) → Rises least row → Rises least (drop n row)
rises-drop least zero [] h = tt
rises-drop least (suc n) [] h = tt
rises-drop least zero (t ∷ ts) h = h
rises-drop least (suc n) (t ∷ ts) h = rises-less least (suc t.column) (drop n ts) (let m = h.0 in omega arith) (rises-drop (suc t.column) n ts h.1.1)
