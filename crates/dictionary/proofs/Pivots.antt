-- What is made of the rows is the pivot of their tableau.
use Rattle.std.proofs.Common.{◌≡◌, ◌≢◌, ◌+◌, ◌<◌, ◌≤◌, refl, sym, ◌∙◌, ap, subst, ℕ, zero, suc, Bool, true, false, true≢false, not, ◌==◌, ◌&&◌, List, [], ◌∷◌, ◌++◌, length, set, take, map, cond, nat_lt, arith, inl, inr, ◌⊎◌, eq-eqb, ne_eqb}
use Rattle.std.specs.Prelude.{All, filter, flat_map, slice_index_or}
use Rattle.std.proofs.lemmas.Bool.{cases_eq, cases_lt, lt-ltb}
use Rattle.std.proofs.lemmas.List.{take_more, take_all, flat_map_more, get_or-set_same, get_or-set_other, get_or_past, length-set}
use Rattle.std.proofs.lemmas.List.Elements.{All-filter, filter_passes, All-map}
use Rattle.rational.specs.Rational.{ℚ, ◌+ℚ◌, ◌-ℚ◌, ◌*ℚ◌, ◌/ℚ◌, neg_ℚ, inv_ℚ, zero_ℚ, one_ℚ, eq_ℚ}
use Rattle.rational.specs.Linear.{Term, factor_of}
use Rattle.rational.proofs.Sums.{nothing_times, times_nothing, distribute}
use Rattle.rational.proofs.Field.{ring_ℚ, x0, x1, ◌:+◌, ◌:-◌, ◌:*◌, minus, zero_of}
use Rattle.rational.proofs.Compare.{eq-Decides}
use Rattle.frac128.specs.declared.Op.TheVariants.{Over, Times, Minus}
use Rattle.frac128.specs.Calculation.{Calculation}
use Rattle.lp_model.specs.declared.members.Side.{Side}
use Rattle.certs.specs.System.{Limits, Place, is_basic}
use Rattle.certs.specs.Tableau.{below, basics, nonbasics, pivoted}
use Rattle.certs.specs.Turns.{counted, others, exchanged, quotient_operations, reduce_operations, row_operations, pivot_operations}
use Rattle.certs.proofs.Tableaus.{exchanged-length, exchanged-entering, exchanged-leaving, exchanged-other, basic_below}
use Rattle.dictionary.specs.Rows.{IsRow, IsSparse, AreSparse, without, quotients_of, AreRowsExchanged, reductions, row_work, rows_work}
use Rattle.dictionary.proofs.Lists.{Rises, rises, rises-kept, factor_here, factor_at, factor_without, of_counted}
use Rattle.dictionary.proofs.Listed.{Up, has, same, up-kept, has_kept, up-below, has-listed, flat_skip, flat_others, by_terms, counted_left, counted_right}

-- ---- rows whose factors are changed
module _ (g : ℚ → ℚ) where
  abbrev pub changed : List Term → List Term
  changed row = map (λ t. record { column = t.column; factor = g t.factor }) row

  pub rises-changed : ((x : ℚ) → x ≢ zero_ℚ → g x ≢ zero_ℚ) → (least : ℕ) (row : List Term) → Rises least row → Rises least (changed row)
  rises-changed n least [] h = tt
  rises-changed n least (t ∷ ts) h = (h.0, (n t.factor h.1.0, rises-changed n (suc t.column) ts h.1.1))

  pub factor-changed : g zero_ℚ ≡ zero_ℚ → ((a b : ℚ) → g (a +ℚ b) ≡ g a +ℚ g b) → (row : List Term) (k : ℕ) → factor_of (changed row) k ≡ g (factor_of row k)
  factor-changed z add [] k = sym z
  factor-changed z add (t ∷ ts) k =
      ap (λ y. y +ℚ factor_of (changed ts) k) (by (t.column == k))
      ∙ ap (λ y. g (cond (t.column == k) t.factor zero_ℚ) +ℚ y) (factor-changed z add ts k)
      ∙ sym (add (cond (t.column == k) t.factor zero_ℚ) (factor_of ts k))
    where
      by : (b : Bool) → cond b (g t.factor) zero_ℚ ≡ g (cond b t.factor zero_ℚ)
      by true = refl
      by false = sym z

pub divided : (p : ℚ) (row : List Term) (k : ℕ) → factor_of (changed (λ x. x /ℚ p) row) k ≡ factor_of row k /ℚ p
divided p row k = factor-changed (λ x. x /ℚ p) (nothing_times (inv_ℚ p)) (λ a b. distribute a b (inv_ℚ p)) row k

pub negated : (row : List Term) (k : ℕ) → factor_of (changed (λ x. neg_ℚ x) row) k ≡ neg_ℚ (factor_of row k)
negated row k = factor-changed (λ x. neg_ℚ x) (ring_ℚ [] (minus zero_of) zero_of tt) (λ a b. ring_ℚ (a ∷ b ∷ []) (minus (x0 :+ x1)) (minus x0 :+ minus x1) tt) row k

pub row_empty : (least : ℕ) (row : List Term) → Rises least row → ((k : ℕ) → factor_of row k ≡ zero_ℚ) → row ≡ []
row_empty least [] h e = refl
row_empty least (t ∷ ts) h e = absurd (h.1.0 (sym (factor_here t ts h.1.1) ∙ e t.column))

-- ---- operations of all rows
flat_taken : {A : Type 0} (G : List Term → List A) (rows : List (List Term)) (n : ℕ) → n ≤ length rows → flat_map G (take n rows) ≡ flat_map (λ r. G (slice_index_or rows r [])) (below n (λ r. true))
flat_taken G rows zero l = refl
flat_taken G rows (suc n) l =
    ap (flat_map G) (ap (λ k. take k rows) (let e : suc n ≡ n + 1 = omega arith in e) ∙ take_more rows n [] (omega arith))
    ∙ sym (flat_map_more G [] (take n rows) (slice_index_or rows n []))
    ∙ ap (λ z. z ++ G (slice_index_or rows n [])) (flat_taken G rows n (omega arith))
    ∙ flat_map_more (λ r. G (slice_index_or rows r [])) [] (below n (λ r. true)) n

pub flat_rows : {A : Type 0} (G : List Term → List A) (rows : List (List Term)) → flat_map G rows ≡ flat_map (λ r. G (slice_index_or rows r [])) (below (length rows) (λ r. true))
flat_rows G rows = ap (flat_map G) (sym (take_all (length rows) rows (omega arith))) ∙ flat_taken G rows (length rows) (omega arith)

zero_is : eq_ℚ zero_ℚ zero_ℚ ≡ true
zero_is = (eq-Decides zero_ℚ zero_ℚ).1 refl

pub no_work : (j : ℕ) (inverse : ℚ) (quotients row : List Term) → factor_of row j ≡ zero_ℚ → row_work j inverse quotients row ≡ []
no_work j inverse quotients row e = ap (λ b. cond b [] (counted Times (factor_of row j) inverse ++ reductions (factor_of row j) (without j row) quotients)) (ap (λ x. eq_ℚ x zero_ℚ) e ∙ zero_is)

module _ (basis : List Place) (rows : List (List Term)) (is : AreSparse basis rows) (i j : ℕ) (side : Side) (bi : is_basic basis i ≡ true) (bj : is_basic basis j ≡ false) (lj : j < length basis) where
  abbrev R : ℕ → List Term
  R r = slice_index_or rows r []

  abbrev f : ℕ → ℕ → ℚ
  f r k = factor_of (R r) k

  abbrev p : ℚ
  p = f i j

  abbrev W : List Term
  W = without j (R i)

  abbrev Q : List Term
  Q = quotients_of j (R i)

  abbrev list : List ℕ
  list = others j (nonbasics basis)

  sparse : IsSparse basis (R i)
  sparse = is.sparse i bi

  w_rises : Rises 0 W
  w_rises = rises-kept (λ t. not (t.column == j)) 0 (R i) (rises (R i) sparse.is_row)

  pub w_outside : All (λ t. (t.column < length basis) × ((is_basic basis t.column ≡ false) × (t.column ≢ j))) W
  w_outside k d l =
      let a = All-filter (λ t. not (t.column == j)) (λ t. (t.column < length basis) × (is_basic basis t.column ≡ false)) (R i) sparse.nonbasic k d l in
      let b = filter_passes (λ t. not (t.column == j)) (R i) k d l in
      (a.0, (a.1, λ e. true≢false (sym b ∙ ap not (eq-eqb _ j e))))

  pub q_outside : All (λ t. (t.column < length basis) × ((is_basic basis t.column ≡ false) × (t.column ≢ j))) Q
  q_outside = All-map (λ t. (t.column < length basis) × ((is_basic basis t.column ≡ false) × (t.column ≢ j))) (λ t. record { column = t.column; factor = t.factor /ℚ p }) W w_outside

  pub w_factor : (k : ℕ) → k ≢ j → factor_of W k ≡ f i k
  w_factor k d = factor_without j (R i) k ∙ ap (λ b. cond b zero_ℚ (f i k)) (ne_eqb k j d)

  pub q_factor : (k : ℕ) → k ≢ j → factor_of Q k ≡ f i k /ℚ p
  q_factor k d = divided p W k ∙ ap (λ z. z /ℚ p) (w_factor k d)

  list_up : Up 0 list
  list_up = up-kept (λ k. not (k == j)) 0 (nonbasics basis) (up-below (length basis) (λ k. not (is_basic basis k)))

  in_list : (k : ℕ) → k < length basis → is_basic basis k ≡ false → k ≢ j → has list k ≡ true
  in_list k l b d =
      has_kept (λ k. not (k == j)) (nonbasics basis) k
      ∙ ap (λ z. z && not (k == j)) (has-listed (length basis) (λ k. not (is_basic basis k)) k ∙ ap (λ z. z && not (is_basic basis k)) (lt-ltb k (length basis) l) ∙ ap not b)
      ∙ ap not (ne_eqb k j d)

  all_listed : (row : List Term) → All (λ t. (t.column < length basis) × ((is_basic basis t.column ≡ false) × (t.column ≢ j))) row → All (λ t. has list t.column ≡ true) row
  all_listed row h k d l = let o = h k d l in in_list _ o.0 o.1.0 o.1.1

  quotient_work : quotient_operations (f i) p list ≡ flat_map (λ t. counted Over t.factor p) W
  quotient_work =
      flat_others (λ k. counted Over (f i k) p) (λ k. counted Over (factor_of W k) p) j (λ k d. ap (λ z. counted Over z p) (sym (w_factor k d))) (nonbasics basis)
      ∙ by_terms (λ k x. counted Over x p) (λ k. counted_left Over p) W list w_rises list_up (all_listed W w_outside)

  module _ (nonzero : (x : ℚ) → x ≢ zero_ℚ → x /ℚ p ≢ zero_ℚ) where
    pub q_rises : Rises 0 Q
    q_rises = rises-changed (λ x. x /ℚ p) nonzero 0 W w_rises

    abbrev step : ℕ → ℚ → ℕ → ℚ → Calculation
    step r a k x = counted Times a x ++ counted Minus (factor_of (without j (R r)) k) (a *ℚ x)

    no_step : (r : ℕ) (a : ℚ) (k : ℕ) → step r a k zero_ℚ ≡ []
    no_step r a k =
        ap (λ z. z ++ counted Minus (factor_of (without j (R r)) k) (a *ℚ zero_ℚ)) (counted_right Times a)
        ∙ ap (counted Minus (factor_of (without j (R r)) k)) (times_nothing a)
        ∙ counted_right Minus (factor_of (without j (R r)) k)

    reduce_work : (r : ℕ) (a : ℚ) → reduce_operations a (f r) (λ k. f i k /ℚ p) list ≡ reductions a (without j (R r)) Q
    reduce_work r a =
        flat_others (λ k. counted Times a (f i k /ℚ p) ++ counted Minus (f r k) (a *ℚ (f i k /ℚ p))) (λ k. step r a k (factor_of Q k)) j
        (λ k d.
        ap (λ z. counted Times a z ++ counted Minus (f r k) (a *ℚ z)) (sym (q_factor k d))
        ∙ ap (λ z. counted Times a (factor_of Q k) ++ counted Minus z (a *ℚ factor_of Q k)) (sym (factor_without j (R r) k ∙ ap (λ b. cond b zero_ℚ (f r k)) (ne_eqb k j d)))) (nonbasics basis)
        ∙ by_terms (step r a) (no_step r a) Q list q_rises list_up (all_listed Q q_outside)

    row_is : (r : ℕ) → row_operations (f r j) (one_ℚ /ℚ p) (f r) (λ k. f i k /ℚ p) list ≡ row_work j (one_ℚ /ℚ p) Q (R r)
    row_is r = ap (λ z. cond (eq_ℚ (f r j) zero_ℚ) [] (counted Times (f r j) (one_ℚ /ℚ p) ++ z)) (reduce_work r (f r j))

    -- ---- the other rows
    abbrev G : List Term → Calculation
    G row = row_work j (one_ℚ /ℚ p) Q row

    abbrev R' : ℕ → List Term
    R' r = slice_index_or (set rows i []) r []

    abbrev passes : ℕ → Bool
    passes r = is_basic basis r && not (r == i)

    abbrev all : List ℕ
    all = below (length basis) (λ r. true)

    others_are : others i (basics basis) ≡ filter passes all
    others_are =
        same 0 0 _ _ (up-kept (λ r. not (r == i)) 0 (basics basis) (up-below (length basis) (is_basic basis))) (up-kept passes 0 all (up-below (length basis) (λ r. true)))
        (λ k.
        has_kept (λ r. not (r == i)) (basics basis) k
        ∙ ap (λ z. z && not (k == i)) (has-listed (length basis) (is_basic basis) k)
        ∙ by (nat_lt k (length basis)) (is_basic basis k) (not (k == i))
        ∙ ap (λ z. z && passes k) (sym (has-listed (length basis) (λ r. true) k))
        ∙ sym (has_kept passes all k))
      where
        by : (a b c : Bool) → (a && b) && c ≡ (a && true) && (b && c)
        by true b c = refl
        by false b c = refl

    empty_here : (r : ℕ) → r ≡ i → R' r ≡ []
    empty_here r e = ap R' e ∙ elim (cases_lt i (length rows)) [ inl l ↦ get_or-set_same rows i [] [] l | inr l ↦ get_or_past (set rows i []) i [] (subst (λ n. n ≤ i) (sym (length-set rows i [])) l) ]

    kept_there : (r : ℕ) → r ≢ i → R' r ≡ R r
    kept_there r d = get_or-set_other rows i r [] [] d

    none_else : (r : ℕ) → passes r ≡ false → G (R' r) ≡ []
    none_else r e =
        elim (cases_eq r i) [
          | inl d ↦ no_work j (one_ℚ /ℚ p) Q (R' r) (ap (λ z. factor_of z j) (empty_here r d))
          | inr d ↦
              (let b : is_basic basis r ≡ false = first (is_basic basis r) (not (r == i)) e (ap not (ne_eqb r i d)) in
              no_work j (one_ℚ /ℚ p) Q (R' r) (ap (λ z. factor_of z j) (kept_there r d ∙ is.empty r b)))
        ]
      where
        first : (a b : Bool) → a && b ≡ false → b ≡ true → a ≡ false
        first true b e h = absurd (true≢false (sym h ∙ e))
        first false b e h = refl

    other_work : flat_map (λ r. row_operations (f r j) (one_ℚ /ℚ p) (f r) (λ k. f i k /ℚ p) list) (others i (basics basis)) ≡ flat_map G (set rows i [])
    other_work =
        flat_others (λ r. row_operations (f r j) (one_ℚ /ℚ p) (f r) (λ k. f i k /ℚ p) list) (λ r. G (R' r)) i (λ r d. row_is r ∙ ap G (sym (kept_there r d))) (basics basis)
        ∙ ap (flat_map (λ r. G (R' r))) others_are
        ∙ flat_skip (λ r. G (R' r)) passes none_else all
        ∙ ap (λ n. flat_map (λ r. G (R' r)) (below n (λ r. true))) (sym is.long ∙ sym (length-set rows i []))
        ∙ sym (flat_rows G (set rows i []))

    pub pivot_work : (limits : List Limits) (objective : Bool) → rows_work i j rows ≡ pivot_operations (record { limits = limits; objective = objective; basis = basis; factor = λ r k. f r k }) i j
    pivot_work limits objective = ap (λ z. counted Over one_ℚ p ++ (z ++ flat_map G (set rows i []))) (sym quotient_work) ∙ ap (λ z. counted Over one_ℚ p ++ (quotient_operations (f i) p list ++ z)) (sym other_work)

    -- ---- the factors
    module _ (new : List (List Term)) (done : AreRowsExchanged i j rows new) where
      abbrev next : List Place
      next = exchanged basis i side j

      abbrev N : ℕ → List Term
      N r = slice_index_or new r []

      li : i < length basis
      li = basic_below basis i bi

      apart : i ≢ j
      apart e = true≢false (sym bi ∙ ap (is_basic basis) e ∙ bj)

      -- what is basic after was, or has entered
      basic_cases : (r : ℕ) → is_basic next r ≡ true → (r ≡ j) ⊎ ((r ≢ j) × ((r ≢ i) × (is_basic basis r ≡ true)))
      basic_cases r b =
          elim (cases_eq r j) [
            | inl e ↦ inl e
            | inr e ↦
                (let m : r ≢ i = λ d. true≢false (sym b ∙ ap (is_basic next) d ∙ exchanged-leaving basis i j side li apart) in
                inr (e, (m, sym (exchanged-other basis i j side r m e) ∙ b)))
          ]

      nonbasic_cases : (k : ℕ) → is_basic next k ≡ false → (k ≡ i) ⊎ ((k ≢ i) × ((k ≢ j) × (is_basic basis k ≡ false)))
      nonbasic_cases k b =
          elim (cases_eq k i) [
            | inl e ↦ inl e
            | inr e ↦
                (let m : k ≢ j = λ d. true≢false (sym (exchanged-entering basis i j side lj) ∙ ap (is_basic next) (sym d) ∙ b) in
                inr (e, (m, sym (exchanged-other basis i j side k e m) ∙ b)))
          ]

      -- ---- the factors are those of the pivot
      entering_factor : (k : ℕ) → k ≢ j → factor_of (N j) k ≡ cond (k == i) (one_ℚ /ℚ p) (neg_ℚ (f i k /ℚ p))
      entering_factor k d =
          elim (cases_eq k i) [
            | inl e ↦ (ap (factor_of (N j)) e ∙ done.solved.own ∙ ap (λ b. cond b (one_ℚ /ℚ p) (neg_ℚ (f i k /ℚ p))) (sym (eq-eqb k i e)))
            | inr e ↦ (done.solved.others k e ∙ ap neg_ℚ (q_factor k d) ∙ ap (λ b. cond b (one_ℚ /ℚ p) (neg_ℚ (f i k /ℚ p))) (sym (ne_eqb k i e)))
          ]

      other_factor : (r k : ℕ) → r < length basis → r ≢ i → r ≢ j → k ≢ j → factor_of (N r) k ≡ cond (k == i) (f r j *ℚ (one_ℚ /ℚ p)) (f r k -ℚ f r j *ℚ (f i k /ℚ p))
      other_factor r k l di dj d =
          let row = done.others r (subst (λ n. r < n) (sym is.long) l) di dj in
          elim (cases_eq k i) [
            | inl e ↦ (ap (factor_of (N r)) e ∙ row.own ∙ ap (λ b. cond b (f r j *ℚ (one_ℚ /ℚ p)) (f r k -ℚ f r j *ℚ (f i k /ℚ p))) (sym (eq-eqb k i e)))
            | inr e ↦ (row.others k e d ∙ ap (λ z. f r k -ℚ f r j *ℚ z) (q_factor k d) ∙ ap (λ b. cond b (f r j *ℚ (one_ℚ /ℚ p)) (f r k -ℚ f r j *ℚ (f i k /ℚ p))) (sym (ne_eqb k i e)))
          ]

      pub pivoted_factor : (r k : ℕ) → is_basic next r ≡ true → is_basic next k ≡ false → factor_of (N r) k ≡ pivoted f i j r k
      pivoted_factor r k b c =
          let d : k ≢ j = λ e. true≢false (sym (exchanged-entering basis i j side lj) ∙ ap (is_basic next) (sym e) ∙ c) in
          elim (basic_cases r b) [
            | inl e ↦ (ap (λ z. factor_of (N z) k) e ∙ entering_factor k d ∙ ap (λ b. cond b (cond (k == i) (one_ℚ /ℚ p) (neg_ℚ (f i k /ℚ p))) (cond (k == i) (f r j *ℚ (one_ℚ /ℚ p)) (f r k -ℚ f r j *ℚ (f i k /ℚ p)))) (sym (eq-eqb r j e)))
            | inr h ↦
                (other_factor r k (basic_below basis r h.1.1) h.1.0 h.0 d
                ∙ ap (λ b. cond b (cond (k == i) (one_ℚ /ℚ p) (neg_ℚ (f i k /ℚ p))) (cond (k == i) (f r j *ℚ (one_ℚ /ℚ p)) (f r k -ℚ f r j *ℚ (f i k /ℚ p)))) (sym (ne_eqb r j h.0)))
          ]

      -- ---- the rows are those of the new basis
      abbrev IsOutside : ℕ → Type 0
      IsOutside k = (k < length next) × (is_basic next k ≡ false)

      outside : (k : ℕ) → k ≢ i → k < length basis → is_basic basis k ≡ false → k ≢ j → IsOutside k
      outside k e l b d = (subst (λ n. k < n) (sym (exchanged-length basis i j side)) l, exchanged-other basis i j side k e d ∙ b)

      leaving_outside : (k : ℕ) → k ≡ i → IsOutside k
      leaving_outside k e = subst IsOutside (sym e) (subst (λ n. i < n) (sym (exchanged-length basis i j side)) li, exchanged-leaving basis i j side li apart)

      q_counts : (k : ℕ) → factor_of Q k ≢ zero_ℚ → (k < length basis) × ((is_basic basis k ≡ false) × (k ≢ j))
      q_counts k d = of_counted (λ k. (k < length basis) × ((is_basic basis k ≡ false) × (k ≢ j))) Q k q_outside d

      all_outside : (row : List Term) → IsRow row → ((k : ℕ) → factor_of row k ≢ zero_ℚ → IsOutside k) → All (λ t. IsOutside t.column) row
      all_outside row h o k d l = o _ (λ z. h.nonzero k d l (sym (factor_at 0 row (rises row h) k d l) ∙ z))

      entering_sparse : IsSparse next (N j)
      entering_sparse = record {
        is_row = done.solved.is_row;
        nonbasic = all_outside (N j) done.solved.is_row
            (λ k d. elim (cases_eq k i) [
              | inl e ↦ leaving_outside k e
              | inr e ↦ (let o = q_counts k (λ z. d (done.solved.others k e ∙ ap neg_ℚ z ∙ ring_ℚ [] (minus zero_of) zero_of tt)) in outside k e o.0 o.1.0 o.1.1)
            ]);
      }

      other_sparse : (r : ℕ) → is_basic basis r ≡ true → r ≢ i → r ≢ j → IsSparse next (N r)
      other_sparse r b di dj =
          let row = done.others r (subst (λ n. r < n) (sym is.long) (basic_below basis r b)) di dj in
          record {
            is_row = row.is_row;
            nonbasic = all_outside (N r) row.is_row
                (λ k d. elim (cases_eq k i) [
                  | inl e ↦ leaving_outside k e
                  | inr e ↦
                      (let m : k ≢ j = λ g. d (ap (factor_of (N r)) g ∙ row.gone) in
                      let changes = row.others k e m in
                      elim (one_counts (f r k) (f r j) (factor_of Q k) (λ z. d (changes ∙ z))) [
                        | inl c ↦ (let o = of_counted (λ k. (k < length basis) × (is_basic basis k ≡ false)) (R r) k (is.sparse r b).nonbasic c in outside k e o.0 o.1 m)
                        | inr c ↦ (let o = q_counts k c in outside k e o.0 o.1.0 o.1.1)
                      ])
                ]);
          }
        where
          one_counts : (x a q : ℚ) → x -ℚ a *ℚ q ≢ zero_ℚ → (x ≢ zero_ℚ) ⊎ (q ≢ zero_ℚ)
          one_counts x a q d = by (eq_ℚ x zero_ℚ) refl
            where
              by : (b : Bool) → eq_ℚ x zero_ℚ ≡ b → (x ≢ zero_ℚ) ⊎ (q ≢ zero_ℚ)
              by true e = inr (λ z. d (ap (λ y. y -ℚ a *ℚ q) ((eq-Decides x zero_ℚ).0 e) ∙ ap (λ y. zero_ℚ -ℚ a *ℚ y) z ∙ ring_ℚ (a ∷ []) (zero_of :- x0 :* zero_of) zero_of tt))
              by false e = inl (λ z. true≢false (sym ((eq-Decides x zero_ℚ).1 z) ∙ e))

      none_left : (k : ℕ) → is_basic next k ≡ false → N k ≡ []
      none_left k b =
          elim (cases_lt k (length rows)) [
            | inl l ↦
                elim (nonbasic_cases k b) [
                  | inl e ↦ (ap N e ∙ done.left)
                  | inr h ↦
                      (let row = done.others k l h.0 h.1.0 in
                      let z : R k ≡ [] = is.empty k h.1.1 in
                      row_empty 0 (N k) (rises (N k) row.is_row) (λ c. elim (cases_eq c i) [
                        | inl e ↦ (ap (factor_of (N k)) e ∙ row.own ∙ ap (λ y. factor_of y j *ℚ (one_ℚ /ℚ p)) z ∙ nothing_times (one_ℚ /ℚ p))
                        | inr e ↦
                            elim (cases_eq c j) [
                              | inl d ↦ (ap (factor_of (N k)) d ∙ row.gone)
                              | inr d ↦ (row.others c e d ∙ ap (λ y. factor_of y c -ℚ factor_of y j *ℚ factor_of Q c) z ∙ ring_ℚ (factor_of Q c ∷ []) (zero_of :- zero_of :* x0) zero_of tt)
                            ]
                      ]))
                ]
            | inr l ↦ get_or_past new k [] (subst (λ n. n ≤ k) (sym done.long) l)
          ]

      pub sparse_after : AreSparse next new
      sparse_after = record {
        long = done.long ∙ is.long ∙ sym (exchanged-length basis i j side);
        sparse = λ r b. elim (basic_cases r b) [
          | inl e ↦ subst (λ z. IsSparse next (N z)) (sym e) entering_sparse
          | inr h ↦ other_sparse r h.1.1 h.1.0 h.0
        ];
        empty = none_left;
      }
