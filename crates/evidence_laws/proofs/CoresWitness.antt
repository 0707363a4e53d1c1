-- Where nothing helps a variable that is outside, values meet all limits of its row but one, whichever one it is.
use Rattle.std.proofs.Common.{◌≡◌, ◌≢◌, ◌+◌, ◌<◌, refl, sym, ◌∙◌, ap, subst, ℕ, Bool, true, false, true≢false, cond, not, ◌&&◌, ◌==◌, List, [], ◌∷◌, length, get_or, filter, Option, Some, None, IsSome, arith, inl, inr, eq-eqb, ne_eqb}
use Rattle.std.specs.Prelude.{All, flat_map}
use Rattle.std.proofs.lemmas.Bool.{cases_Bool, cases_eq, cond_both, cond-true, cond-false, eqb-true, eqb-false, or_parts}
use Rattle.std.proofs.lemmas.List.Elements.{All-append, All-cons, All-contains, All-filter, All-from_get_or, All-head, All-nil, All-tail}
use Rattle.algebra.proofs.Ring.{x0, x1, x2, x3, ◌:+◌, ◌:-◌, ◌:*◌, minus, zero_of, unit_of}
use Rattle.rational.specs.Rational.{ℚ, ◌+ℚ◌, ◌*ℚ◌, neg_ℚ, inv_ℚ, zero_ℚ, one_ℚ, eq_ℚ, lt_q, ◌<ℚ◌}
use Rattle.rational.specs.Sum.{sum_over}
use Rattle.rational.specs.Linear.{Assignment}
use Rattle.rational.proofs.Compare.{eq-Decides, lt_q-Decides}
use Rattle.rational.proofs.Field.{ring_ℚ, ring_by_ℚ, mul-inv_ℚ}
use Rattle.rational.proofs.Order.{lt_by, lt_of_le-ne_ℚ, lt_q-false, lt_q-true, lt_trans_ℚ, lt_irrefl_ℚ, positive-one, positive_is, positive_of_lt}
use Rattle.lp_model.specs.declared.members.Side.{Side}
use Rattle.lp_model.specs.declared.members.Side.TheVariants.{Lo, Up}
use Rattle.certs.specs.Combination.{number_or_zero, signed}
use Rattle.certs.specs.System.{LinearSystem, is_basic, limit_on, variable_limits, VariableShare}
use Rattle.certs.specs.Tableau.{Tableau, IsTableauOf, IsWellFormedSystem, Solves, basic_value, limits_at, nonbasics, place_value, value_of}
use Rattle.certs.specs.Turns.{can_fall, can_rise, helps, is_outside, limited, limited_basics, meets, others}
use Rattle.certs.specs.Ended.{blocked_multiple, blocked_shares, is_upper, numbers_from, share_for, shares_for}
use Rattle.certs.proofs.Choices.{IsStuck, below_all, blocked_parts, found_is, missed_there}
use Rattle.certs.proofs.Feasible.{limited_is, limits_are, listed, none_passes, solves}
use Rattle.certs.proofs.Tableaus.{sum_before, sum_other}
use Rattle.certs.proofs.Translated.{length_numbers, number_at}
use Rattle.evidence_laws.specs.Cores.{MeetsLimit, MeetsOthers, WitnessLaw, gap, moved, witness}
use Rattle.evidence_laws.proofs.LastTable.{met_number}

-- ---- values moved along a column solve the table
module _ (system : LinearSystem) (t : Tableau) (formed : IsWellFormedSystem system) (of : IsTableauOf system t) (k : ℕ) (r : ℚ) (lk : k < length t.basis) (nk : is_basic t.basis k ≡ false) where
  basic_moved : (b : ℕ) → is_basic t.basis b ≡ true → moved t k r b ≡ value_of t b +ℚ t.factor b k *ℚ r
  basic_moved b e =
      cond-false (b == k) _ _ (ne_eqb b k (λ q. true≢false (sym e ∙ ap (is_basic t.basis) q ∙ nk)))
      ∙ cond-true (is_basic t.basis b) _ _ e

  other_moved : (v : ℕ) → is_basic t.basis v ≡ false → v ≢ k → moved t k r v ≡ value_of t v
  other_moved v n d = cond-false (v == k) _ _ (ne_eqb v k d) ∙ cond-false (is_basic t.basis v) _ _ n

  moved_solves : Solves t (moved t k r)
  moved_solves b e =
      let rest : ℚ = sum_over (λ j. t.factor b j *ℚ value_of t j) (others k (nonbasics t.basis)) in
      basic_moved b e
      ∙ ap (λ z. z +ℚ t.factor b k *ℚ r) (solves system t formed of b e ∙ sum_before t.basis b k Lo e nk lk (λ j. t.factor b j *ℚ value_of t j))
      ∙ ring_ℚ (t.factor b k ∷ value_of t k ∷ rest ∷ r ∷ []) ((x0 :* x1 :+ x2) :+ x0 :* x3) (x0 :* (x1 :+ x3) :+ x2) tt
      ∙ ap (λ z. t.factor b k *ℚ z +ℚ rest) (sym (cond-true (k == k) _ _ (eq-eqb k k refl)))
      ∙ ap (λ z. t.factor b k *ℚ moved t k r k +ℚ z) (sum_other t.basis k (λ j. t.factor b j *ℚ value_of t j) (λ j. t.factor b j *ℚ moved t k r j) (λ j l n d. ap (λ z. t.factor b j *ℚ z) (sym (other_moved j n d))))
      ∙ sym (sum_before t.basis b k Lo e nk lk (λ j. t.factor b j *ℚ moved t k r j))

-- ---- what holds of the shares of a row
pub All-flat_map : {A B : Type 0} (P : B → Type 0) (f : A → List B) (xs : List A) → All (λ a. All P (f a)) xs → All P (flat_map f xs)
All-flat_map P f [] h = All-nil P
All-flat_map P f (a ∷ xs) h = All-append P (f a) (flat_map f xs) (All-head (λ a. All P (f a)) a xs h) (All-flat_map P f xs (All-tail (λ a. All P (f a)) a xs h))

all_shares : (P : VariableShare → Type 0) (c : ℕ → ℚ) (a n : ℕ) → ((v : ℕ) → v < a + n → All P (share_for v (c v))) → All P (shares_for c (numbers_from a n))
all_shares P c a n h =
    All-flat_map P (λ v. share_for v (c v)) (numbers_from a n)
    (All-from_get_or (λ v. All P (share_for v (c v))) (numbers_from a n) 0
    (λ j l.
    let m : j < n = subst (λ z. j < z) (length_numbers a n) l in
    subst (λ v. All P (share_for v (c v))) (sym (number_at a n j 0 m)) (h (a + j) (omega arith))))

-- the side of a variable that counts so often
abbrev pub side_for : ℚ → Side
side_for q = cond (lt_q zero_ℚ q) Up Lo

-- the share is of a variable below n that counts, and of the side that goes with how often it does
pub record IsRowShare (c : ℕ → ℚ) (n : ℕ) (u : VariableShare) : Type 0 where
  pub known : u.variable < n
  pub nonzero : c u.variable ≢ zero_ℚ
  pub side_is : u.side ≡ side_for (c u.variable)

row_share : (c : ℕ → ℚ) (n v : ℕ) → v < n → All (IsRowShare c n) (share_for v (c v))
row_share c n v l =
    cond_both (eq_ℚ (c v) zero_ℚ) [] _ (All (IsRowShare c n)) (λ e. All-nil (IsRowShare c n))
    (λ e.
    let some : c v ≢ zero_ℚ = λ z. true≢false (sym ((eq-Decides (c v) zero_ℚ).1 z) ∙ e) in
    cond_both (lt_q zero_ℚ (c v)) _ _ (All (IsRowShare c n))
    (λ p. All-cons (IsRowShare c n) (record { variable = v; side = Up; weight = c v }) []
    (record { known = l; nonzero = some; side_is = sym (cond-true (lt_q zero_ℚ (c v)) Up Lo p) }) (All-nil (IsRowShare c n)))
    (λ p. All-cons (IsRowShare c n) (record { variable = v; side = Lo; weight = neg_ℚ (c v) }) []
    (record { known = l; nonzero = some; side_is = sym (cond-false (lt_q zero_ℚ (c v)) Up Lo p) }) (All-nil (IsRowShare c n))))

pub row_shares : (system : LinearSystem) (t : Tableau) (i : ℕ) (side : Side) → All (IsRowShare (blocked_multiple t i side) (length system.columns + length system.rows)) (blocked_shares system t i side)
row_shares system t i side =
    let n : ℕ = length system.columns in
    let m : ℕ = length system.rows in
    let c : ℕ → ℚ = blocked_multiple t i side in
    let P : VariableShare → Type 0 = IsRowShare c (n + m) in
    let columns : All P (shares_for c (numbers_from 0 n)) = all_shares P c 0 n (λ v l. row_share c (n + m) v (omega arith)) in
    All-append P (shares_for c (numbers_from n m)) _ (all_shares P c n m (λ v l. row_share c (n + m) v l))
    (All-append P (filter (λ s. not (is_upper s)) (shares_for c (numbers_from 0 n))) (filter is_upper (shares_for c (numbers_from 0 n)))
    (All-filter (λ s. not (is_upper s)) P (shares_for c (numbers_from 0 n)) columns) (All-filter is_upper P (shares_for c (numbers_from 0 n)) columns))

-- ---- where nothing helps, each nonbasic variable of the row stands at the limit of its share
-- a value that does not leave room is at the limit
met_exactly : (o : Option ℚ) (v : ℚ) → not (meets o v) ≡ false → o ≡ Some v
met_exactly None v e = absurd (true≢false e)
met_exactly (Some b) v e = elim (cases_Bool (eq_ℚ b v)) [ inl h ↦ ap Some ((eq-Decides b v).0 h) | inr h ↦ absurd (true≢false (sym (ap not h) ∙ e)) ]

-- it cannot rise where it counts above 0, nor fall where it counts below
unhelped : (t : Tableau) (side : Side) (i v : ℕ) → helps t side i v ≡ false
    → (zero_ℚ <ℚ signed side (neg_ℚ (t.factor i v)) → can_rise t v ≡ false) × (signed side (neg_ℚ (t.factor i v)) <ℚ zero_ℚ → can_fall t v ≡ false)
unhelped t Lo i v h =
    let f : ℚ = t.factor i v in
    let parts = or_parts (lt_q zero_ℚ f && can_rise t v) (lt_q f zero_ℚ && can_fall t v) h in (
      λ p. ap (λ b. b && can_rise t v) (sym ((lt_q-Decides zero_ℚ f).1 (lt_by (f ∷ []) zero_of x0 (minus (minus x0)) (positive_is.0 p) tt))) ∙ parts.0,
      λ p. ap (λ b. b && can_fall t v) (sym ((lt_q-Decides f zero_ℚ).1 (lt_by (f ∷ []) x0 zero_of (zero_of :- minus (minus x0)) (positive_of_lt p) tt))) ∙ parts.1,
    )
unhelped t Up i v h =
    let f : ℚ = t.factor i v in
    let parts = or_parts (lt_q f zero_ℚ && can_rise t v) (lt_q zero_ℚ f && can_fall t v) h in (
      λ p. ap (λ b. b && can_rise t v) (sym ((lt_q-Decides f zero_ℚ).1 (lt_by (f ∷ []) x0 zero_of (minus x0) (positive_is.0 p) tt))) ∙ parts.0,
      λ p. ap (λ b. b && can_fall t v) (sym ((lt_q-Decides zero_ℚ f).1 (lt_by (f ∷ []) zero_of x0 (zero_of :- minus x0) (positive_of_lt p) tt))) ∙ parts.1,
    )

signed_zero : (side : Side) → signed side zero_ℚ ≡ zero_ℚ
signed_zero Lo = ring_ℚ [] (minus zero_of) zero_of tt
signed_zero Up = refl

-- a variable that counts once, with the sign of a side, has its share on that side
once : (side : Side) → side_for (signed side one_ℚ) ≡ side
once Up = cond-true (lt_q zero_ℚ one_ℚ) Up Lo ((lt_q-Decides zero_ℚ one_ℚ).1 (positive_is.1 positive-one))
once Lo =
    cond_both (lt_q zero_ℚ (neg_ℚ one_ℚ)) Up Lo (λ s. s ≡ Lo)
    (λ p. lt_irrefl_ℚ (lt_trans_ℚ (lt_q-true zero_ℚ (neg_ℚ one_ℚ) p) (lt_by [] (minus unit_of) zero_of unit_of positive-one tt)))
    (λ p. refl)

module _ (system : LinearSystem) (t : Tableau) (i : ℕ) (side : Side) (formed : IsWellFormedSystem system) (of : IsTableauOf system t) (stuck : IsStuck t i side) where
  abbrev c : ℕ → ℚ
  c = blocked_multiple t i side

  abbrev all : ℕ
  all = length system.columns + length system.rows

  abbrev limit : ℕ → Side → Option ℚ
  limit v s = limit_on (variable_limits system v) s

  first : (i < limited t) × (is_basic t.basis i ≡ true)
  first = (found_is (is_outside t) (λ k. (k < limited t) × (is_basic t.basis k ≡ true)) (limited_basics t) i (below_all (is_basic t.basis) (limited t)) stuck.first).0

  known_first : i < all
  known_first = subst (λ n. i < n) (limited_is system t of) first.0

  first_side : side_for (c i) ≡ side
  first_side = ap (λ z. side_for (signed side z)) (cond-true (i == i) one_ℚ _ (eq-eqb i i refl)) ∙ once side

  first_limit : limit i side ≡ Some (number_or_zero (limit i side))
  first_limit =
      met_number (limit i side) (number_or_zero (limit i side))
      (subst (λ z. IsSome (limit_on z side)) (limits_are system t of i known_first) (missed_there (limits_at t i) (basic_value t i) side stuck.missed)) refl

  -- another variable of the row
  record Stands (v : ℕ) : Type 0 where
    below : v < length t.basis
    nonbasic : is_basic t.basis v ≡ false
    nonzero : t.factor i v ≢ zero_ℚ
    at : limit v (side_for (c v)) ≡ Some (value_of t v)

  stands : (v : ℕ) → v < all → c v ≢ zero_ℚ → v ≢ i → Stands v
  stands v l some other = by (is_basic t.basis v) refl
    where
      within : v < length t.basis
      within = subst (λ n. v < n) (sym of.size) (omega arith)

      counts : c v ≡ signed side (cond (is_basic t.basis v) zero_ℚ (neg_ℚ (t.factor i v)))
      counts = ap (signed side) (cond-false (v == i) one_ℚ _ (ne_eqb v i other))

      by : (b : Bool) → is_basic t.basis v ≡ b → Stands v
      by true e = absurd (some (counts ∙ ap (λ b. signed side (cond b zero_ℚ (neg_ℚ (t.factor i v)))) e ∙ signed_zero side))
      by false e =
          let f : ℚ = t.factor i v in
          let same : c v ≡ signed side (neg_ℚ f) = counts ∙ ap (λ b. signed side (cond b zero_ℚ (neg_ℚ f))) e in
          let none : helps t side i v ≡ false =
          All-contains (λ k. helps t side i k ≡ false) (nonbasics t.basis) v (none_passes (helps t side i) (nonbasics t.basis) stuck.none) (listed (λ k. not (is_basic t.basis k)) (length t.basis) v within (ap not e)) in
          let room = unhelped t side i v none in
          record {
            below = within;
            nonbasic = e;
            nonzero = λ z. some (same ∙ ap (λ q. signed side (neg_ℚ q)) z ∙ ap (signed side) (ring_ℚ [] (minus zero_of) zero_of tt) ∙ signed_zero side);
            at =
                ap (λ z. limit_on z (side_for (c v))) (sym (limits_are system t of v l))
                ∙ cond_both (lt_q zero_ℚ (c v)) Up Lo (λ s. limit_on (limits_at t v) s ≡ Some (place_value t v))
                (λ p. met_exactly (limits_at t v).upper (place_value t v) (room.0 (subst (λ z. zero_ℚ <ℚ z) same (lt_q-true zero_ℚ (c v) p))))
                (λ p. met_exactly (limits_at t v).lower (place_value t v) (room.1 (subst (λ z. z <ℚ zero_ℚ) same (lt_of_le-ne_ℚ (lt_q-false zero_ℚ (c v) p) some))))
                ∙ ap Some (sym (cond-false (is_basic t.basis v) (basic_value t v) (place_value t v) e));
          }

  -- ---- the witnesses
  abbrev row : List VariableShare
  row = blocked_shares system t i side

  abbrev IsShare : VariableShare → Type 0
  IsShare u = IsRowShare c all u

  every : All IsShare row
  every = row_shares system t i side

  -- the limit of a share of another variable, at any values that leave that variable where it is
  meets_other : (x : Assignment) (u : VariableShare) → IsShare u → u.variable ≢ i → x u.variable ≡ value_of t u.variable → MeetsLimit system x u
  meets_other x u is other same = ap (limit u.variable) is.side_is ∙ (stands u.variable is.known is.nonzero other).at ∙ ap Some (sym same)

  -- without the limit of the variable itself
  of_first : MeetsOthers system row i (value_of t)
  of_first = record {
    rows = (of.table (value_of t)).1 (solves system t formed of);
    limits = λ j d l other. meets_other (value_of t) (get_or row j d) (every j d l) other refl;
  }

  -- without that of another variable
  module _ (k : ℕ) (here : Stands k) where
    abbrev r : ℚ
    r = gap system t i side *ℚ inv_ℚ (t.factor i k)

    reached : moved t k r i ≡ number_or_zero (limit i side)
    reached =
        basic_moved system t formed of k r here.below here.nonbasic i first.1
        ∙ ring_by_ℚ (value_of t i ∷ t.factor i k ∷ number_or_zero (limit i side) ∷ inv_ℚ (t.factor i k) ∷ [])
        (x0 :+ x1 :* ((x2 :- x0) :* x3)) x2 (x2 :- x0) (x1 :* x3) unit_of (mul-inv_ℚ (t.factor i k) here.nonzero) tt

    meets_moved : (u : VariableShare) → IsShare u → u.variable ≢ k → MeetsLimit system (moved t k r) u
    meets_moved u is other =
        elim (cases_eq u.variable i) [
          | inl e ↦
              (let on : u.side ≡ side = is.side_is ∙ ap (λ v. side_for (c v)) e ∙ first_side in
              ap (λ v. limit v u.side) e ∙ ap (limit i) on ∙ first_limit ∙ ap Some (sym reached) ∙ ap (λ v. Some (moved t k r v)) (sym e))
          | inr e ↦
              meets_other (moved t k r) u is e (other_moved system t formed of k r here.below here.nonbasic u.variable (stands u.variable is.known is.nonzero e).nonbasic other)
        ]

    of_other : MeetsOthers system row k (moved t k r)
    of_other = record {
      rows = (of.table (moved t k r)).1 (moved_solves system t formed of k r here.below here.nonbasic);
      limits = λ j d l other. meets_moved (get_or row j d) (every j d l) other;
    }

  witness_of : (s : VariableShare) → IsShare s → MeetsOthers system row s.variable (witness system t i side s.variable)
  witness_of s is =
      cond_both (s.variable == i) (value_of t) (moved t s.variable (gap system t i side *ℚ inv_ℚ (t.factor i s.variable))) (MeetsOthers system row s.variable)
      (λ e. subst (λ v. MeetsOthers system row v (value_of t)) (sym (eqb-true s.variable i e)) of_first)
      (λ e. of_other s.variable (stands s.variable is.known is.nonzero (eqb-false s.variable i e)))

pub witness_law : WitnessLaw
witness_law system t i side s formed of blocked inside =
    witness_of system t i side formed of (blocked_parts t i side blocked) s
    (All-contains (IsRowShare (blocked_multiple t i side) (length system.columns + length system.rows)) (blocked_shares system t i side) s (row_shares system t i side) inside)
