-- One turn of a settle run: a variable that left does not enter while only lesser ones have moved since.
use Rattle.std.proofs.Common.{◌≡◌, ◌≢◌, ◌+◌, ◌<◌, refl, sym, ◌∙◌, ap, subst, ℕ, zero, suc, Bool, true, false, true≢false, cond, not, ◌&&◌, ◌||◌, List, [], ◌∷◌, length, get_or, set, Option, None, Some, is_some, arith, inl, inr}
use Rattle.std.specs.Prelude.{All, find}
use Rattle.std.specs.Option.{option_or}
use Rattle.std.proofs.lemmas.Bool.{cases_lt, cases_Bool, cond-true, cond-false, cond_both, not-true}
use Rattle.std.proofs.lemmas.List.{get_or-set_same, get_or-set_other}
use Rattle.std.proofs.lemmas.List.Elements.{All-nil, All-cons, All-weaker, All-contains}
use Rattle.std.proofs.lemmas.List.Folds.{find-append}
use Rattle.rational.specs.Rational.{ℚ, ◌*ℚ◌, neg_ℚ, zero_ℚ, ◌≤ℚ◌, lt_q}
use Rattle.rational.specs.Sum.{sum_over}
use Rattle.rational.proofs.Order.{le_refl_ℚ}
use Rattle.lp_model.specs.declared.members.Side.{Side}
use Rattle.lp_model.specs.declared.members.Side.TheVariants.{Lo, Up}
use Rattle.certs.specs.Combination.{number_or_zero}
use Rattle.certs.specs.System.{Limits, LinearSystem, KeepsRows, Place, is_basic, no_limits, limit_on}
use Rattle.certs.specs.System.Place.{Basic, AtZero}
use Rattle.certs.specs.Tableau.{Tableau, IsTableauOf, IsWellFormedSystem, all_limits, below, nonbasics, limits_at, place_value, basic_value, value_of, value_at_place}
use Rattle.certs.specs.Turns.{at_limit, can_fall, can_rise, exchanged, helps, is_outside, is_over, is_under, limited, settle_choice}
use Rattle.certs.specs.Turns.Choice.{Exchange}
use Rattle.certs.specs.Ended.{IsWithin}
use Rattle.certs.proofs.Choices.{found_is, below_all, Exchanged, exchange_parts, can_of}
use Rattle.certs.proofs.Feasible.{none_passes, listed, solves, placed_inside, limited_is, not_under, not_over}
use Rattle.certs.proofs.Tableaus.{exchanged-entering, exchanged-leaving, exchanged-place, exchanged-other, basic_below}
use Rattle.bland_law.specs.Ends.{limited_count}
use Rattle.bland_law.proofs.Falling.{raises, tilted, misses, stands_highest, from_missed, missed_is, beyond, sum_le, sum_tilted, below_turned, above_turned}

-- ---- what is found is the least
pub found_least : (p test : ℕ → Bool) (n v : ℕ) → find p (below n test) ≡ Some v → (k : ℕ) → k < v → test k ≡ true → p k ≡ false
found_least p test zero v e k l h = absurd (none v e)
  where
    none : (v : ℕ) → ◌≡◌ {A = Option ℕ} None (Some v) → ⊥
    none v q = cc
found_least p test (suc n) v e k l h = by (found_least p test n v) (find p (below n test)) refl (sym (find-append p (below n test) (cond (test n) (n ∷ []) [])) ∙ e)
  where
    last : List ℕ
    last = cond (test n) (n ∷ []) []

    is_last : All (λ z. z ≡ n) last
    is_last = cond_both (test n) (n ∷ []) [] (All (λ z. z ≡ n)) (λ _. All-cons (λ z. z ≡ n) n [] refl (All-nil (λ z. z ≡ n))) (λ _. All-nil (λ z. z ≡ n))

    by : (find p (below n test) ≡ Some v → (k : ℕ) → k < v → test k ≡ true → p k ≡ false) → (o : Option ℕ) → find p (below n test) ≡ o → option_or o (find p last) ≡ Some v → p k ≡ false
    by before (Some w) f q = before (f ∙ q) k l h
    by before None f q =
        let at : v ≡ n = (found_is p (λ z. z ≡ n) last v is_last q).0 in
        All-contains (λ z. p z ≡ false) (below n test) k (none_passes p (below n test) f) (listed test n k (let g : k < n = omega arith in g) h)

-- ---- limits and places by the system and the basis
abbrev pub limit_of : LinearSystem → ℕ → Limits
limit_of system v = get_or (all_limits system) v no_limits

abbrev pub stand : LinearSystem → List Place → ℕ → ℚ
stand system basis k = value_at_place (limit_of system k) (get_or basis k AtZero)

-- What is known of a nonbasic variable e since it left, while no greater variable has moved: values at which it missed the
-- limit at which it stands, and each lesser variable was within its limits.
pub record Memory (system : LinearSystem) (basis : List Place) (e : ℕ) : Type 0 where
  pub old : ℕ → ℚ
  pub keeps : KeepsRows system old
  pub side : Side
  pub inside : (j : ℕ) → j < e → IsWithin (limit_of system j) (old j)
  pub kept : (j : ℕ) → e < j → is_basic basis j ≡ false → stand system basis j ≡ old j
  pub missed : misses side (limit_of system e) (old e) ≡ true
  pub place : get_or basis e AtZero ≡ at_limit side

at_its_limit : (limits : Limits) (side : Side) → value_at_place limits (at_limit side) ≡ number_or_zero (limit_on limits side)
at_its_limit limits Lo = refl
at_its_limit limits Up = refl

module _ (system : LinearSystem) (formed : IsWellFormedSystem system) (t : Tableau) (of : IsTableauOf system t) (i : ℕ) (side : Side) (j : ℕ) (due : settle_choice t ≡ Exchange i side j) where
  parts : Exchanged t i side j
  parts = exchange_parts t i side j due

  pub leaves_basic : is_basic t.basis i ≡ true
  leaves_basic = (can_of t i side j due).basic

  pub leaves_below : i < limited_count system
  leaves_below = subst (λ n. i < n) (limited_is system t of) (can_of t i side j due).limited

  pub enters_nonbasic : is_basic t.basis j ≡ false
  enters_nonbasic = (can_of t i side j due).nonbasic

  pub enters_below : j < limited_count system
  enters_below = by (is_some system.objective) refl
    where
      known : j < length t.basis
      known = (can_of t i side j due).known

      by : (b : Bool) → is_some system.objective ≡ b → j < limited_count system
      by false e = (let l : j < length t.basis = known in let size : length t.basis ≡ limited_count system + 0 = of.size ∙ ap (λ z. limited_count system + cond z 1 0) e in omega arith)
      by true e =
          let size : length t.basis ≡ limited_count system + 1 = of.size ∙ ap (λ z. limited_count system + cond z 1 0) e in
          elim (cases_lt j (limited_count system)) [
            | inl l ↦ l
            | inr l ↦
                (let k : j < length t.basis = known in let same : limited_count system ≡ j = omega arith in
                absurd (true≢false (sym (of.objective_basic e) ∙ (ap (is_basic t.basis) same ∙ enters_nonbasic))))
          ]

  same_limits : (v : ℕ) → limits_at t v ≡ limit_of system v
  same_limits v = ap (λ l. get_or l v no_limits) of.limits

  pub same_stand : (k : ℕ) → place_value t k ≡ stand system t.basis k
  same_stand k = ap (λ l. value_at_place l (get_or t.basis k AtZero)) (same_limits k)

  helps_is : (k : ℕ) → helps t side i k ≡ raises (limits_at t k) (place_value t k) (tilted side (t.factor i k))
  helps_is k = by side
    where
      by : (s : Side) → helps t s i k ≡ raises (limits_at t k) (place_value t k) (tilted s (t.factor i k))
      by Lo = refl
      by Up =
          ap (λ z. (z && can_rise t k) || (lt_q zero_ℚ (t.factor i k) && can_fall t k)) (below_turned (t.factor i k))
          ∙ ap (λ z. (lt_q zero_ℚ (neg_ℚ (t.factor i k)) && can_rise t k) || (z && can_fall t k)) (above_turned (t.factor i k))

  enters_helps : helps t side i j ≡ true
  enters_helps = (found_is (helps t side i) (λ k. (k < length t.basis) × (not (is_basic t.basis k) ≡ true)) (nonbasics t.basis) j (below_all (λ k. not (is_basic t.basis k)) (length t.basis)) parts.enters).1

  lesser_helpless : (k : ℕ) → k < j → is_basic t.basis k ≡ false → helps t side i k ≡ false
  lesser_helpless k l n = found_least (helps t side i) (λ k. not (is_basic t.basis k)) (length t.basis) j parts.enters k l (ap not n)

  leaves_missed : misses side (limits_at t i) (basic_value t i) ≡ true
  leaves_missed = missed_is (limits_at t i) (basic_value t i) side parts.missed

  -- ---- it does not come back
  pub no_return : Memory system t.basis j → i < j → ⊥
  no_return m low =
      beyond side (limits_at t i) (basic_value t i) (m.old i) leaves_missed (subst (λ z. IsWithin z (m.old i)) (sym (same_limits i)) (m.inside i low))
      (subst (λ z. tilted side z ≤ℚ tilted side (basic_value t i)) (sym ((of.table m.old).0 m.keeps i leaves_basic)) total)
    where
      f : ℕ → ℚ
      f k = tilted side (t.factor i k)

      term : (k : ℕ) → is_basic t.basis k ≡ false → f k *ℚ m.old k ≤ℚ f k *ℚ place_value t k
      term k n =
          elim (cases_lt k j) [
            | inl l ↦ stands_highest (limits_at t k) (f k) (place_value t k) (m.old k) (sym (helps_is k) ∙ lesser_helpless k l n) (subst (λ z. IsWithin z (m.old k)) (sym (same_limits k)) (m.inside k l))
            | inr l ↦ elim (cases_lt j k) [
              | inl g ↦ subst (λ z. f k *ℚ m.old k ≤ℚ f k *ℚ z) (sym (same_stand k ∙ m.kept k g n)) (le_refl_ℚ (f k *ℚ m.old k))
              | inr g ↦ (let same : j ≡ k = omega arith in subst (λ z. f z *ℚ m.old z ≤ℚ f z *ℚ place_value t z) same own)
            ]
          ]
        where
          stands : place_value t j ≡ number_or_zero (limit_on (limit_of system j) m.side)
          stands = same_stand j ∙ (ap (value_at_place (limit_of system j)) m.place ∙ at_its_limit (limit_of system j) m.side)

          own : f j *ℚ m.old j ≤ℚ f j *ℚ place_value t j
          own =
              subst (λ z. f j *ℚ m.old j ≤ℚ f j *ℚ z) (sym stands)
              (from_missed m.side (limit_of system j) (f j) (m.old j) m.missed
              (ap (λ z. raises z (number_or_zero (limit_on (limit_of system j) m.side)) (f j)) (sym (same_limits j)) ∙ (ap (λ z. raises (limits_at t j) z (f j)) (sym stands) ∙ (sym (helps_is j) ∙ enters_helps))))

      total : tilted side (sum_over (λ k. t.factor i k *ℚ m.old k) (nonbasics t.basis)) ≤ℚ tilted side (basic_value t i)
      total =
          subst (λ z. z ≤ℚ tilted side (basic_value t i)) (sum_tilted side (t.factor i) m.old (nonbasics t.basis))
          (subst (λ z. sum_over (λ k. f k *ℚ m.old k) (nonbasics t.basis) ≤ℚ z) (sum_tilted side (t.factor i) (place_value t) (nonbasics t.basis))
          (sum_le (λ k. f k *ℚ m.old k) (λ k. f k *ℚ place_value t k) (nonbasics t.basis)
          (All-weaker (λ k. (k < length t.basis) × (not (is_basic t.basis k) ≡ true)) (λ k. f k *ℚ m.old k ≤ℚ f k *ℚ place_value t k) (λ k h. term k (not-true (is_basic t.basis k) h.1)) (nonbasics t.basis) (below_all (λ k. not (is_basic t.basis k)) (length t.basis)))))

  -- ---- the basis after the turn
  unfoldable pub next : List Place
  next = exchanged t.basis i side j

  pub apart : i ≢ j
  apart e = true≢false (sym leaves_basic ∙ (ap (is_basic t.basis) e ∙ enters_nonbasic))

  pub left_nonbasic : is_basic next i ≡ false
  unfolding next
  left_nonbasic = exchanged-leaving t.basis i j side (basic_below t.basis i leaves_basic) apart

  pub entered_basic : is_basic next j ≡ true
  unfolding next
  entered_basic = exchanged-entering t.basis i j side (can_of t i side j due).known

  pub others_same : (k : ℕ) → k ≢ i → k ≢ j → is_basic next k ≡ is_basic t.basis k
  unfolding next
  others_same k a b = exchanged-other t.basis i j side k a b

  pub places_same : (k : ℕ) → k ≢ i → k ≢ j → get_or next k AtZero ≡ get_or t.basis k AtZero
  unfolding next
  places_same k a b = exchanged-place t.basis i j side k a b

  pub stands_same : (k : ℕ) → k ≢ i → k ≢ j → stand system next k ≡ stand system t.basis k
  stands_same k a b = ap (value_at_place (limit_of system k)) (places_same k a b)

  pub not_entered : (k : ℕ) → is_basic next k ≡ false → k ≢ j
  not_entered k n e = true≢false (sym entered_basic ∙ (ap (is_basic next) (sym e) ∙ n))

  -- what is known of the variable that leaves
  pub remembered : Memory system next i
  unfolding next
  remembered = record {
    old = value_of t;
    keeps = (of.table (value_of t)).1 (solves system t formed of);
    side = side;
    inside = within;
    kept = λ k l n. (let a : k ≢ i = λ e. absurd (let g : i < i = subst (λ z. i < z) e l in omega arith) in let b : k ≢ j = not_entered k n in let was : is_basic t.basis k ≡ false = sym (others_same k a b) ∙ n in stands_same k a b ∙ (sym (same_stand k) ∙ sym (cond-false (is_basic t.basis k) (basic_value t k) (place_value t k) was)));
    missed = ap (λ z. misses side z (value_of t i)) (sym (same_limits i)) ∙ (ap (misses side (limits_at t i)) (cond-true (is_basic t.basis i) (basic_value t i) (place_value t i) leaves_basic) ∙ leaves_missed);
    place = get_or-set_other (set t.basis i (at_limit side)) j i Basic AtZero apart ∙ get_or-set_same t.basis i (at_limit side) AtZero (basic_below t.basis i leaves_basic);
  }
    where
      within : (k : ℕ) → k < i → IsWithin (limit_of system k) (value_of t k)
      within k l =
          subst (λ z. IsWithin z (value_of t k)) (same_limits k)
          (elim (cases_Bool (is_basic t.basis k)) [
            | inl b ↦
                (let out : is_outside t k ≡ false = found_least (is_outside t) (is_basic t.basis) (limited t) i parts.first k l b in
                let both = or_false (is_under (limits_at t k).lower (basic_value t k)) (is_over (limits_at t k).upper (basic_value t k)) out in
                subst (IsWithin (limits_at t k)) (sym (cond-true (is_basic t.basis k) (basic_value t k) (place_value t k) b))
                (record { lower = not_under (limits_at t k).lower (basic_value t k) both.0; upper = not_over (limits_at t k).upper (basic_value t k) both.1 }))
            | inr b ↦
                (let small : k < limited_count system = (let g : i < limited_count system = leaves_below in omega arith) in
                subst (IsWithin (limits_at t k)) (sym (cond-false (is_basic t.basis k) (basic_value t k) (place_value t k) b)) (placed_inside system t formed of k small b))
          ])
        where
          or_false : (x y : Bool) → (x || y) ≡ false → (x ≡ false) × (y ≡ false)
          or_false true y e = absurd (true≢false e)
          or_false false y e = (refl, e)

  -- and what is known of a greater one stays
  pub still_remembered : (e : ℕ) → i < e → j < e → Memory system t.basis e → Memory system next e
  still_remembered e li lj m = record {
    old = m.old;
    keeps = m.keeps;
    side = m.side;
    inside = m.inside;
    kept = λ k l n. (let a : k ≢ i = λ q. absurd (let g : k ≡ i = q in omega arith) in let b : k ≢ j = not_entered k n in stands_same k a b ∙ m.kept k l (sym (others_same k a b) ∙ n));
    missed = m.missed;
    place = places_same e (λ q. absurd (let g : e ≡ i = q in omega arith)) (λ q. absurd (let g : e ≡ j = q in omega arith)) ∙ m.place;
  }
