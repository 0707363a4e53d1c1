-- What an exchange that a settle turn chooses may do, and the work of its turn.
use Rattle.std.proofs.Common.{◌≡◌, ◌≢◌, ◌<◌, refl, sym, ◌∙◌, ap, subst, arith, ℕ, zero, suc, Bool, true, false, true≢false, cond, not, ◌&&◌, ◌==◌, List, [], ◌∷◌, length, Option, Some, None, IsSome, inl, inr, ne_eqb}
use Rattle.std.specs.Prelude.{All, find}
use Rattle.std.proofs.lemmas.Bool.{cond_both, and_parts, or_cases, not-true, cond-false}
use Rattle.std.proofs.lemmas.List.Elements.{All-head, All-tail, All-nil, All-append, All-cons, All-weaker}
use Rattle.rational.specs.Rational.{ℚ, zero_ℚ, lt_q}
use Rattle.rational.proofs.Order.{lt_q-true, lt_irrefl_ℚ}
use Rattle.frac128.specs.declared.Wide.{Wide as Operation}
use Rattle.frac128.specs.Calculation.{first_wide}
use Rattle.frac128.proofs.Calculations.{first_wide-past, first_wide-before}
use Rattle.lp_model.specs.declared.members.Side.{Side}
use Rattle.lp_model.specs.declared.members.Side.TheVariants.{Lo, Up}
use Rattle.certs.specs.System.{Limits, is_basic, limit_on}
use Rattle.certs.specs.Tableau.{Tableau, below, nonbasics, basic_value, limits_at}
use Rattle.certs.specs.Turns.{Choice, CanPivot, can_fall, can_rise, choice_at, choice_for, entering, exchange_operations, exchange_or_blocked, helps, is_outside, is_over, is_under, limited, limited_basics, missed_by, missed_side, pivot_operations, settle_choice, settle_values, settle_work}
use Rattle.certs.specs.Turns.Choice.{Settled, Blocked, Exchange}

-- ---- what is found passes, and is one of the list
pub found_is : (p : ℕ → Bool) (Q : ℕ → Type 0) (xs : List ℕ) (v : ℕ) → All Q xs → find p xs ≡ Some v → Q v × (p v ≡ true)
found_is p Q [] v h e = absurd (none v e)
  where
    none : (v : ℕ) → ◌≡◌ {A = Option ℕ} None (Some v) → ⊥
    none v q = cc
found_is p Q (x ∷ xs) v h e = by (found_is p Q xs v (All-tail Q x xs h)) (p x) refl e
  where
    same : (a b : ℕ) → ◌≡◌ {A = Option ℕ} (Some a) (Some b) → a ≡ b
    same a b q = cc

    by : (find p xs ≡ Some v → Q v × (p v ≡ true)) → (b : Bool) → p x ≡ b → cond b (Some x) (find p xs) ≡ Some v → Q v × (p v ≡ true)
    by rest true t q = subst (λ z. Q z × (p z ≡ true)) (same x v q) (All-head Q x xs h, t)
    by rest false t q = rest q

pub below_all : (test : ℕ → Bool) (n : ℕ) → All (λ k. (k < n) × (test k ≡ true)) (below n test)
below_all test zero = All-nil (λ (k : ℕ). (k < 0) × (test k ≡ true))
below_all test (suc n) =
    All-append (λ k. (k < suc n) × (test k ≡ true)) (below n test) (cond (test n) (n ∷ []) [])
    (All-weaker (λ k. (k < n) × (test k ≡ true)) (λ k. (k < suc n) × (test k ≡ true)) (λ k h. (let l = h.0 in omega arith, h.1)) (below n test) (below_all test n))
    (cond_both (test n) (n ∷ []) [] (All (λ k. (k < suc n) × (test k ≡ true)))
    (λ e. All-cons (λ k. (k < suc n) × (test k ≡ true)) n [] (omega arith, e) (All-nil (λ (k : ℕ). (k < suc n) × (test k ≡ true))))
    (λ e. All-nil (λ (k : ℕ). (k < suc n) × (test k ≡ true))))

-- ---- the parts of a choice
pub record Exchanged (t : Tableau) (i : ℕ) (side : Side) (j : ℕ) : Type 0 where
  pub first : find (is_outside t) (limited_basics t) ≡ Some i
  pub missed : missed_by t i ≡ Some side
  pub enters : entering t side i ≡ Some j

pub record IsStuck (t : Tableau) (i : ℕ) (side : Side) : Type 0 where
  pub first : find (is_outside t) (limited_basics t) ≡ Some i
  pub missed : missed_by t i ≡ Some side
  pub none : entering t side i ≡ None

same_exchange : (a i : ℕ) (s side : Side) (b j : ℕ) → Exchange a s b ≡ Exchange i side j → (a ≡ i) × ((s ≡ side) × (b ≡ j))
same_exchange a i s side b j e = (ap (of_exchange 0) e, (ap (λ c. side_in side c) e, ap (of_exchange 1) e))
  where
    of_exchange : ℕ → Choice → ℕ
    of_exchange zero (Exchange a s b) = a
    of_exchange (suc n) (Exchange a s b) = b
    of_exchange n Settled = 0
    of_exchange n (Blocked a s) = 0

    side_in : Side → Choice → Side
    side_in d (Exchange a s b) = s
    side_in d Settled = d
    side_in d (Blocked a s) = d

same_blocked : (a i : ℕ) (s side : Side) → Blocked a s ≡ Blocked i side → (a ≡ i) × (s ≡ side)
same_blocked a i s side e = (ap number e, ap (side_in side) e)
  where
    number : Choice → ℕ
    number (Blocked a s) = a
    number Settled = 0
    number (Exchange a s b) = 0

    side_in : Side → Choice → Side
    side_in d (Blocked a s) = s
    side_in d Settled = d
    side_in d (Exchange a s b) = d

is_exchange : Choice → Bool
is_exchange Settled = false
is_exchange (Blocked i s) = false
is_exchange (Exchange i s j) = true

is_blocked : Choice → Bool
is_blocked Settled = false
is_blocked (Blocked i s) = true
is_blocked (Exchange i s j) = false

pub exchange_parts : (t : Tableau) (i : ℕ) (side : Side) (j : ℕ) → settle_choice t ≡ Exchange i side j → Exchanged t i side j
unfolding is_exchange
exchange_parts t i side j e = by (find (is_outside t) (limited_basics t)) refl e
  where
    by_entering : (a : ℕ) (s : Side) (o : Option ℕ) → find (is_outside t) (limited_basics t) ≡ Some a → missed_by t a ≡ Some s → entering t s a ≡ o → exchange_or_blocked a s o ≡ Exchange i side j → Exchanged t i side j
    by_entering a s None f h k q = absurd (true≢false (sym (ap is_exchange q)))
    by_entering a s (Some b) f h k q =
        let r = same_exchange a i s side b j q in
        record {
          first = f ∙ ap (λ (z : ℕ). Some z) r.0;
          missed = ap (missed_by t) (sym r.0) ∙ h ∙ ap (λ (z : Side). Some z) r.1.0;
          enters = ap (λ z. entering t z i) (sym r.1.0) ∙ ap (entering t s) (sym r.0) ∙ k ∙ ap (λ (z : ℕ). Some z) r.1.1;
        }

    by_side : (a : ℕ) (o : Option Side) → find (is_outside t) (limited_basics t) ≡ Some a → missed_by t a ≡ o → choice_for t a o ≡ Exchange i side j → Exchanged t i side j
    by_side a None f h q = absurd (true≢false (sym (ap is_exchange q)))
    by_side a (Some s) f h q = by_entering a s (entering t s a) f h refl q

    by : (o : Option ℕ) → find (is_outside t) (limited_basics t) ≡ o → choice_at t o ≡ Exchange i side j → Exchanged t i side j
    by None f q = absurd (true≢false (sym (ap is_exchange q)))
    by (Some a) f q = by_side a (missed_by t a) f refl q

pub blocked_parts : (t : Tableau) (i : ℕ) (side : Side) → settle_choice t ≡ Blocked i side → IsStuck t i side
unfolding is_blocked
blocked_parts t i side e = by (find (is_outside t) (limited_basics t)) refl e
  where
    by_entering : (a : ℕ) (s : Side) (o : Option ℕ) → find (is_outside t) (limited_basics t) ≡ Some a → missed_by t a ≡ Some s → entering t s a ≡ o → exchange_or_blocked a s o ≡ Blocked i side → IsStuck t i side
    by_entering a s (Some b) f h k q = absurd (true≢false (sym (ap is_blocked q)))
    by_entering a s None f h k q =
        let r = same_blocked a i s side q in
        record {
          first = f ∙ ap (λ (z : ℕ). Some z) r.0;
          missed = ap (missed_by t) (sym r.0) ∙ h ∙ ap (λ (z : Side). Some z) r.1;
          none = ap (λ z. entering t z i) (sym r.1) ∙ ap (entering t s) (sym r.0) ∙ k;
        }

    by_side : (a : ℕ) (o : Option Side) → find (is_outside t) (limited_basics t) ≡ Some a → missed_by t a ≡ o → choice_for t a o ≡ Blocked i side → IsStuck t i side
    by_side a None f h q = absurd (true≢false (sym (ap is_blocked q)))
    by_side a (Some s) f h q = by_entering a s (entering t s a) f h refl q

    by : (o : Option ℕ) → find (is_outside t) (limited_basics t) ≡ o → choice_at t o ≡ Blocked i side → IsStuck t i side
    by None f q = absurd (true≢false (sym (ap is_blocked q)))
    by (Some a) f q = by_side a (missed_by t a) f refl q

-- ---- a limit that is missed is there
under_there : (o : Option ℚ) (v : ℚ) → is_under o v ≡ true → IsSome o
under_there None v e = absurd (true≢false (sym e))
under_there (Some b) v e = refl

over_there : (o : Option ℚ) (v : ℚ) → is_over o v ≡ true → IsSome o
over_there None v e = absurd (true≢false (sym e))
over_there (Some b) v e = refl

pub some_same : (a b : Side) → ◌≡◌ {A = Option Side} (Some a) (Some b) → a ≡ b
some_same a b e = ap (of a) e
  where
    of : Side → Option Side → Side
    of d None = d
    of d (Some s) = s

pub missed_there : (limits : Limits) (v : ℚ) (side : Side) → missed_side limits v ≡ Some side → IsSome (limit_on limits side)
missed_there limits v side e = by (is_under limits.lower v) (is_over limits.upper v) refl refl e
  where
    none : (s : Side) → ◌≡◌ {A = Option Side} None (Some s) → ⊥
    none s q = cc

    by : (a b : Bool) → is_under limits.lower v ≡ a → is_over limits.upper v ≡ b → cond a (Some Lo) (cond b (Some Up) None) ≡ Some side → IsSome (limit_on limits side)
    by true b f h q = subst (λ s. IsSome (limit_on limits s)) (some_same Lo side q) (under_there limits.lower v f)
    by false true f h q = subst (λ s. IsSome (limit_on limits s)) (some_same Up side q) (over_there limits.upper v h)
    by false false f h q = absurd (none side q)

-- what helps has a factor that is not 0
below_zero : (f : ℚ) → lt_q f zero_ℚ ≡ true → f ≢ zero_ℚ
below_zero f e z = lt_irrefl_ℚ (lt_q-true zero_ℚ zero_ℚ (ap (λ q. lt_q q zero_ℚ) (sym z) ∙ e))

above_zero : (f : ℚ) → lt_q zero_ℚ f ≡ true → f ≢ zero_ℚ
above_zero f e z = lt_irrefl_ℚ (lt_q-true zero_ℚ zero_ℚ (ap (lt_q zero_ℚ) (sym z) ∙ e))

helps_nonzero : (t : Tableau) (side : Side) (i k : ℕ) → helps t side i k ≡ true → t.factor i k ≢ zero_ℚ
helps_nonzero t Lo i k e =
    elim (or_cases (lt_q zero_ℚ (t.factor i k) && can_rise t k) (lt_q (t.factor i k) zero_ℚ && can_fall t k) e) [
      | inl h ↦ above_zero (t.factor i k) (and_parts (lt_q zero_ℚ (t.factor i k)) (can_rise t k) h).0
      | inr h ↦ below_zero (t.factor i k) (and_parts (lt_q (t.factor i k) zero_ℚ) (can_fall t k) h).0
    ]
helps_nonzero t Up i k e =
    elim (or_cases (lt_q (t.factor i k) zero_ℚ && can_rise t k) (lt_q zero_ℚ (t.factor i k) && can_fall t k) e) [
      | inl h ↦ below_zero (t.factor i k) (and_parts (lt_q (t.factor i k) zero_ℚ) (can_rise t k) h).0
      | inr h ↦ above_zero (t.factor i k) (and_parts (lt_q zero_ℚ (t.factor i k)) (can_fall t k) h).0
    ]

pub can_of : (t : Tableau) (i : ℕ) (side : Side) (j : ℕ) → settle_choice t ≡ Exchange i side j → CanPivot t i side j
can_of t i side j e =
    let parts : Exchanged t i side j = exchange_parts t i side j e in
    let a = found_is (is_outside t) (λ k. (k < limited t) × (is_basic t.basis k ≡ true)) (limited_basics t) i (below_all (is_basic t.basis) (limited t)) parts.first in
    let b = found_is (helps t side i) (λ k. (k < length t.basis) × (not (is_basic t.basis k) ≡ true)) (nonbasics t.basis) j (below_all (λ k. not (is_basic t.basis k)) (length t.basis)) parts.enters in
    record {
      basic = a.0.1;
      limited = a.0.0;
      there = missed_there (limits_at t i) (basic_value t i) side parts.missed;
      known = b.0.0;
      nonbasic = not-true (is_basic t.basis j) b.0.1;
      nonzero = helps_nonzero t side i j b.1;
    }

-- ---- the work of a turn
module _ (m : ℕ) (t : Tableau) where
  pub work-values : (left : ℕ) (o : Operation) → first_wide m (settle_values t) ≡ Some o → first_wide m (settle_work left t) ≡ Some o
  work-values left o e = first_wide-before m (settle_values t) (cond (left == 0) [] (exchange_operations t (settle_choice t))) o e

  pub work-pivot : (left : ℕ) (i : ℕ) (side : Side) (j : ℕ) (o : Option Operation) → left ≢ 0 → settle_choice t ≡ Exchange i side j → first_wide m (settle_values t) ≡ None → first_wide m (pivot_operations t i j) ≡ o → first_wide m (settle_work left t) ≡ o
  work-pivot left i side j o n c e f =
      first_wide-past m (settle_values t) (cond (left == 0) [] (exchange_operations t (settle_choice t))) e
      ∙ ap (first_wide m) (cond-false (left == 0) [] (exchange_operations t (settle_choice t)) (ne_eqb left 0 n) ∙ ap (exchange_operations t) c)
      ∙ f
