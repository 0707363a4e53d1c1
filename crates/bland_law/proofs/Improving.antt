-- One improve turn: no variable goes outside its limits, the objective does not become smaller, and where it stays as it is nothing
-- moves, so that two variables are exchanged.
use Rattle.std.proofs.Common.{◌≡◌, ◌≢◌, ◌⊎◌, ◌+◌, ◌-◌, ◌<◌, ◌≤◌, refl, sym, ◌∙◌, ap, subst, ℕ, Bool, true, false, true≢false, cond, not, ◌==◌, ◌&&◌, ◌||◌, List, [], ◌∷◌, length, get_or, set, Option, None, Some, IsSome, arith, inl, inr, eq-eqb}
use lib.Dec.{T, eqb→eq}
use Rattle.std.specs.Prelude.{All, IfSome, slice_set}
use Rattle.std.proofs.lemmas.Bool.{cond-true, cond-false, cases_Bool, cases_eq, cases_lt, or_parts, not-true}
use Rattle.std.proofs.lemmas.List.{get_or-set_same, get_or-set_other}
use Rattle.std.proofs.lemmas.List.Elements.{All-weaker}
use Rattle.algebra.proofs.Ring.{x0, x1, x2, x3, ◌:+◌, ◌:-◌, ◌:*◌, minus, zero_of, unit_of}
use Rattle.rational.specs.Rational.{ℚ, ◌+ℚ◌, ◌-ℚ◌, ◌*ℚ◌, inv_ℚ, neg_ℚ, zero_ℚ, one_ℚ, ◌≤ℚ◌, ◌<ℚ◌, lt_q}
use Rattle.rational.specs.Sum.{sum_over}
use Rattle.rational.proofs.Compare.{eq-Decides, lt_q-Decides}
use Rattle.rational.proofs.Field.{ring_ℚ, div_from_ℚ}
use Rattle.rational.proofs.Order.{le_by, lt_by, le_refl_ℚ, le_trans_ℚ, trichotomy_ℚ, nonneg-mul, nonneg_of_le, nonneg_is, nonneg_of_positive, positive_of_lt, positive_is, positive-mul, positive-one, lt_q-true, lt-le_clash_ℚ, lt_irrefl_ℚ}
use Rattle.lp_model.specs.declared.members.Side.{Side}
use Rattle.lp_model.specs.declared.members.Side.TheVariants.{Lo, Up}
use Rattle.certs.specs.Combination.{number_or_zero}
use Rattle.certs.specs.System.{Limits, LinearSystem, KeepsRows, Place, is_basic, no_limits, limit_on}
use Rattle.certs.specs.System.Place.{Basic, AtLower, AtUpper, AtZero}
use Rattle.certs.specs.Tableau.{Tableau, IsTableauOf, IsWellFormedSystem, IsPlaced, nonbasics, limits_at, place_of, place_value, value_at_place, basic_value, value_of}
use Rattle.certs.specs.Turns.{at_limit, can_fall, can_rise, exchanged, helps, limited, meets, other_place}
use Rattle.certs.specs.Ended.{IsWithin}
use Rattle.certs.specs.Improves.{Block, blocks, distance_to, improve_choice, improved, improvement_by, improvement_for, improving, nearest, objective_variable, rate, towards}
use Rattle.certs.specs.Improves.Improvement.{Flip, Leaves}
use Rattle.certs.proofs.Choices.{below_all}
use Rattle.certs.proofs.Feasible.{placed_inside, limited_is}
use Rattle.certs.proofs.Tableaus.{place_basic, basic_below, exchanged-entering, exchanged-leaving, exchanged-other, exchanged-place, sum_nonbasic}
use Rattle.bland_law.specs.Ends.{limited_count}
use Rattle.bland_law.proofs.Falling.{sum_le}
use Rattle.bland_law.proofs.Returns.{found_least, limit_of, stand}
use Rattle.bland_law.proofs.Counts.{Exchanges}
use Rattle.bland_law.proofs.Nearest.{IsUpTo, Meets, IsOwn, nearest_of, blocks_all, at_met, at_own}
use Rattle.bland_law.proofs.Moved.{Heads, heads, moved, moved-basic, moved-own, moved-other, moved-keeps, distance_is, from_above, from_below, goes_up, goes_down, rising, falling}

-- ---- the values at a basis
-- values that keep the rows, where each nonbasic variable stands in its place
pub record ValuesAt (system : LinearSystem) (basis : List Place) (x : ℕ → ℚ) : Type 0 where
  pub keeps : KeepsRows system x
  pub stands : (k : ℕ) → is_basic basis k ≡ false → x k ≡ stand system basis k

-- each variable but the objective is within its limits
abbrev pub Inside : LinearSystem → (ℕ → ℚ) → Type 0
Inside system x = (v : ℕ) → v < limited_count system → IsWithin (limit_of system v) (x v)

-- What is known of a nonbasic variable e since it left, while no greater variable has moved and the values have stayed: other
-- values at which the objective is greater, to which each lesser variable may go, and e would go beyond its limit.
pub record Passed (system : LinearSystem) (x : ℕ → ℚ) (basis : List Place) (e : ℕ) : Type 0 where
  pub ahead : ℕ → ℚ
  pub keeps : KeepsRows system ahead
  pub raised : x (limited_count system) <ℚ ahead (limited_count system)
  pub up : (k : ℕ) → k < e → meets (limit_of system k).upper (x k) ≡ true → ahead k ≤ℚ x k
  pub down : (k : ℕ) → k < e → meets (limit_of system k).lower (x k) ≡ true → x k ≤ℚ ahead k
  pub kept : (k : ℕ) → e < k → is_basic basis k ≡ false → ahead k ≡ x k
  pub own : ((meets (limit_of system e).upper (x e) ≡ true) × (x e ≤ℚ ahead e)) ⊎ ((meets (limit_of system e).lower (x e) ≡ true) × (ahead e ≤ℚ x e))

-- two variables are exchanged, and what is known of those that have left is kept
pub record Exchanged (system : LinearSystem) (x : ℕ → ℚ) (basis next : List Place) : Type 0 where
  pub leaving : ℕ
  pub entering : ℕ
  pub exchanges : Exchanges (limited_count system) (Passed system x basis) (Passed system x next) basis next leaving entering

-- what a turn from a tableau to a basis gives
pub record Turned (system : LinearSystem) (t : Tableau) (next : List Place) : Type 0 where
  pub now : ℕ → ℚ
  pub values : ValuesAt system next now
  pub inside : Inside system now
  pub rises : value_of t (limited_count system) ≤ℚ now (limited_count system)
  pub flat_same : now (limited_count system) ≤ℚ value_of t (limited_count system) → (v : ℕ) → now v ≡ value_of t v
  pub flat_exchanged : now (limited_count system) ≤ℚ value_of t (limited_count system) → (x : ℕ → ℚ) → ((v : ℕ) → x v ≡ value_of t v) → Exchanged system x t.basis next

-- ---- limits
raise_lower : (o : Option ℚ) (v w : ℚ) → v ≤ℚ w → IfSome o (λ l. l ≤ℚ v) → IfSome o (λ l. l ≤ℚ w)
raise_lower None v w h k = tt
raise_lower (Some l) v w h k = le_trans_ℚ k h

drop_upper : (o : Option ℚ) (v w : ℚ) → w ≤ℚ v → IfSome o (λ u. v ≤ℚ u) → IfSome o (λ u. w ≤ℚ u)
drop_upper None v w h k = tt
drop_upper (Some u) v w h k = le_trans_ℚ h k

some_only : (a b : ℚ) → ◌≡◌ {A = Option ℚ} (Some a) (Some b) → a ≡ b
some_only a b q = ap (λ o. number_or_zero o) q

no_number : (b : ℚ) → ◌≡◌ {A = Option ℚ} None (Some b) → ⊥
no_number b q = cc

meets_own : (u : ℚ) → meets (Some u) u ≡ true
meets_own u = (eq-Decides u u).1 refl

-- what can rise, and has an upper limit, stands at its lower one
rises_from : (limits : Limits) (p : Place) → IsPlaced limits p → place_basic p ≡ false → not (meets limits.upper (value_at_place limits p)) ≡ true → (u : ℚ) → limits.upper ≡ Some u → (p ≡ AtLower) × ((l : ℚ) × ((limits.lower ≡ Some l) × (value_at_place limits p ≡ l)))
unfolding place_basic
rises_from limits Basic placed free can u is = absurd (true≢false free)
rises_from limits AtLower placed free can u is = by limits.lower refl placed
  where
    by : (o : Option ℚ) → limits.lower ≡ o → IsSome o → (AtLower ≡ AtLower) × ((l : ℚ) × ((limits.lower ≡ Some l) × (number_or_zero limits.lower ≡ l)))
    by None e h = absurd (true≢false (sym h))
    by (Some l) e h = (refl, (l, (e, ap number_or_zero e)))
rises_from limits AtUpper placed free can u is = absurd (true≢false (sym can ∙ ap not (ap (λ o. meets o (number_or_zero o)) is ∙ meets_own u)))
rises_from limits AtZero placed free can u is = absurd (no_number u (sym placed.1 ∙ is))

-- what can fall, and has a lower limit, stands at its upper one
falls_from : (limits : Limits) (p : Place) → IsPlaced limits p → place_basic p ≡ false → not (meets limits.lower (value_at_place limits p)) ≡ true → (l : ℚ) → limits.lower ≡ Some l → (p ≡ AtUpper) × ((u : ℚ) × ((limits.upper ≡ Some u) × (value_at_place limits p ≡ u)))
unfolding place_basic
falls_from limits Basic placed free can l is = absurd (true≢false free)
falls_from limits AtUpper placed free can l is = by limits.upper refl placed
  where
    by : (o : Option ℚ) → limits.upper ≡ o → IsSome o → (AtUpper ≡ AtUpper) × ((u : ℚ) × ((limits.upper ≡ Some u) × (number_or_zero limits.upper ≡ u)))
    by None e h = absurd (true≢false (sym h))
    by (Some u) e h = (refl, (u, (e, ap number_or_zero e)))
falls_from limits AtLower placed free can l is = absurd (true≢false (sym can ∙ ap not (ap (λ o. meets o (number_or_zero o)) is ∙ meets_own l)))
falls_from limits AtZero placed free can l is = absurd (no_number l (sym placed.0 ∙ is))

at_its_limit : (limits : Limits) (side : Side) → value_at_place limits (at_limit side) ≡ number_or_zero (limit_on limits side)
at_its_limit limits Lo = refl
at_its_limit limits Up = refl

-- what can neither rise nor fall where it stands, at a number by which it counts, does not make a form greater
no_gain : (limits : Limits) (f v a : ℚ) → ((lt_q zero_ℚ f && not (meets limits.upper v)) || (lt_q f zero_ℚ && not (meets limits.lower v))) ≡ false → (meets limits.upper v ≡ true → a ≤ℚ v) → (meets limits.lower v ≡ true → v ≤ℚ a) → f *ℚ a ≤ℚ f *ℚ v
no_gain limits f v a none up down =
    let parts = or_parts (lt_q zero_ℚ f && not (meets limits.upper v)) (lt_q f zero_ℚ && not (meets limits.lower v)) none in
    elim (trichotomy_ℚ zero_ℚ f) [
      | inl h ↦ above h (up (met (lt_q zero_ℚ f) (meets limits.upper v) ((lt_q-Decides zero_ℚ f).1 h) parts.0))
      | inr r ↦ elim r [
        | inl e ↦ subst (λ z. z *ℚ a ≤ℚ z *ℚ v) e (le_by (a ∷ v ∷ []) (zero_of :* x0) (zero_of :* x1) zero_of (nonneg_is.0 (le_refl_ℚ zero_ℚ)) tt)
        | inr h ↦ below h (down (met (lt_q f zero_ℚ) (meets limits.lower v) ((lt_q-Decides f zero_ℚ).1 h) parts.1))
      ]
    ]
  where
    met : (x m : Bool) → x ≡ true → (x && not m) ≡ false → m ≡ true
    met true true e h = refl
    met true false e h = absurd (true≢false h)
    met false m e h = absurd (true≢false (sym e))

    above : zero_ℚ <ℚ f → a ≤ℚ v → f *ℚ a ≤ℚ f *ℚ v
    above h k = le_by (f ∷ a ∷ v ∷ []) (x0 :* x1) (x0 :* x2) (x0 :* (x2 :- x1)) (nonneg-mul (nonneg_of_positive (positive_is.0 h)) (nonneg_of_le k)) tt

    below : f <ℚ zero_ℚ → v ≤ℚ a → f *ℚ a ≤ℚ f *ℚ v
    below h k = le_by (f ∷ a ∷ v ∷ []) (x0 :* x1) (x0 :* x2) ((zero_of :- x0) :* (x1 :- x2)) (nonneg-mul (nonneg_of_positive (positive_of_lt h)) (nonneg_of_le k)) tt

-- nor does what goes beyond the limit at which it stands, where it can go the other way alone
own_gain : (limits : Limits) (f v a : ℚ) → ((lt_q zero_ℚ f && not (meets limits.upper v)) || (lt_q f zero_ℚ && not (meets limits.lower v))) ≡ true
    → ((meets limits.upper v ≡ true) × (v ≤ℚ a)) ⊎ ((meets limits.lower v ≡ true) × (a ≤ℚ v)) → f *ℚ a ≤ℚ f *ℚ v
own_gain limits f v a helps (inl h) = by (lt_q zero_ℚ f) (lt_q f zero_ℚ) (meets limits.lower v) refl (ap (λ b. (lt_q zero_ℚ f && not b) || (lt_q f zero_ℚ && not (meets limits.lower v))) (sym h.0) ∙ helps)
  where
    by : (p n m : Bool) → lt_q f zero_ℚ ≡ n → ((p && false) || (n && not m)) ≡ true → f *ℚ a ≤ℚ f *ℚ v
    by p true m e k = le_by (f ∷ a ∷ v ∷ []) (x0 :* x1) (x0 :* x2) ((zero_of :- x0) :* (x1 :- x2)) (nonneg-mul (nonneg_of_positive (positive_of_lt (lt_q-true f zero_ℚ e))) (nonneg_of_le h.1)) tt
    by true false m e k = absurd (true≢false (sym k))
    by false false m e k = absurd (true≢false (sym k))
own_gain limits f v a helps (inr h) = by (lt_q zero_ℚ f) (lt_q f zero_ℚ) (meets limits.upper v) refl (ap (λ b. (lt_q zero_ℚ f && not (meets limits.upper v)) || (lt_q f zero_ℚ && not b)) (sym h.0) ∙ helps)
  where
    by : (p n m : Bool) → lt_q zero_ℚ f ≡ p → ((p && not m) || (n && false)) ≡ true → f *ℚ a ≤ℚ f *ℚ v
    by true n m e k = le_by (f ∷ a ∷ v ∷ []) (x0 :* x1) (x0 :* x2) (x0 :* (x2 :- x1)) (nonneg-mul (nonneg_of_positive (positive_is.0 (lt_q-true zero_ℚ f e))) (nonneg_of_le h.1)) tt
    by false true m e k = absurd (true≢false (sym k))
    by false false m e k = absurd (true≢false (sym k))

module _ (system : LinearSystem) (formed : IsWellFormedSystem system) (goal : IsSome system.objective) (t : Tableau) (of : IsTableauOf system t) where
  same_limits : (v : ℕ) → limits_at t v ≡ limit_of system v
  same_limits v = ap (λ l. get_or l v no_limits) of.limits

  same_stand : (k : ℕ) → place_value t k ≡ stand system t.basis k
  same_stand k = ap (λ l. value_at_place l (get_or t.basis k AtZero)) (same_limits k)

  size_is : length t.basis ≡ limited_count system + 1
  size_is = of.size ∙ ap (λ b. limited_count system + cond b 1 0) goal

  objective_is : objective_variable t ≡ limited_count system
  objective_is = ap (λ n. n - 1) size_is ∙ (let e : limited_count system + 1 - 1 ≡ limited_count system = omega arith in e)

  objective_basic : is_basic t.basis (limited_count system) ≡ true
  objective_basic = of.objective_basic goal

  -- the values at a basis are those of its tableau
  pub values_are : (x : ℕ → ℚ) → ValuesAt system t.basis x → (v : ℕ) → x v ≡ value_of t v
  values_are x at v =
      elim (cases_Bool (is_basic t.basis v)) [
        | inl b ↦
            ((of.table x).0 at.keeps v b
            ∙ sum_nonbasic t.basis (λ k. t.factor v k *ℚ x k) (λ k. t.factor v k *ℚ place_value t k) (λ k l n. ap (λ q. t.factor v k *ℚ q) (at.stands k n ∙ sym (same_stand k)))
            ∙ sym (cond-true (is_basic t.basis v) (basic_value t v) (place_value t v) b))
        | inr n ↦ (at.stands v n ∙ sym (same_stand v) ∙ sym (cond-false (is_basic t.basis v) (basic_value t v) (place_value t v) n))
      ]

  module _ (j : ℕ) (chosen : improving t ≡ Some j) where
    way : Heads t j
    way = heads t j chosen

    enters_below : j < limited_count system
    enters_below =
        elim (cases_lt j (limited_count system)) [
          | inl l ↦ l
          | inr l ↦
              (let k : j < length t.basis = way.known in
              let n = size_is in
              let same : limited_count system ≡ j = omega arith in
              absurd (true≢false (sym objective_basic ∙ (ap (is_basic t.basis) same ∙ way.nonbasic))))
        ]

    -- the factors of the objective
    abbrev form : ℕ → ℚ
    form k = t.factor (limited_count system) k

    -- ---- it does not come back
    pub no_return : (x : ℕ → ℚ) → ((v : ℕ) → x v ≡ value_of t v) → Passed system x t.basis j → ⊥
    no_return x is m = lt-le_clash_ℚ m.raised (subst (λ q. m.ahead (limited_count system) ≤ℚ q) (sym at_objective) (subst (λ q. q ≤ℚ basic_value t (limited_count system)) (sym ((of.table m.ahead).0 m.keeps (limited_count system) objective_basic)) total))
      where
        at_objective : x (limited_count system) ≡ basic_value t (limited_count system)
        at_objective = is (limited_count system) ∙ cond-true (is_basic t.basis (limited_count system)) (basic_value t (limited_count system)) (place_value t (limited_count system)) objective_basic

        at_place : (k : ℕ) → is_basic t.basis k ≡ false → x k ≡ place_value t k
        at_place k n = is k ∙ cond-false (is_basic t.basis k) (basic_value t k) (place_value t k) n

        helps_is : (k : ℕ) → is_basic t.basis k ≡ false → helps t Lo (objective_variable t) k ≡ ((lt_q zero_ℚ (form k) && not (meets (limit_of system k).upper (x k))) || (lt_q (form k) zero_ℚ && not (meets (limit_of system k).lower (x k))))
        helps_is k n =
            ap (λ o. helps t Lo o k) objective_is
            ∙ (λ i. (lt_q zero_ℚ (form k) && not (meets (same_limits k i).upper (sym (at_place k n) i))) || (lt_q (form k) zero_ℚ && not (meets (same_limits k i).lower (sym (at_place k n) i))))

        lesser_helpless : (k : ℕ) → k < j → is_basic t.basis k ≡ false → helps t Lo (objective_variable t) k ≡ false
        lesser_helpless k l n = found_least (helps t Lo (objective_variable t)) (λ k. not (is_basic t.basis k)) (length t.basis) j chosen k l (ap not n)

        term : (k : ℕ) → is_basic t.basis k ≡ false → form k *ℚ m.ahead k ≤ℚ form k *ℚ x k
        term k n =
            elim (cases_lt k j) [
              | inl l ↦ no_gain (limit_of system k) (form k) (x k) (m.ahead k) (sym (helps_is k n) ∙ lesser_helpless k l n) (m.up k l) (m.down k l)
              | inr l ↦ elim (cases_lt j k) [
                | inl g ↦ subst (λ q. form k *ℚ m.ahead k ≤ℚ form k *ℚ q) (m.kept k g n) (le_refl_ℚ (form k *ℚ m.ahead k))
                | inr g ↦ (let same : j ≡ k = omega arith in subst (λ q. form q *ℚ m.ahead q ≤ℚ form q *ℚ x q) same (own_gain (limit_of system j) (form j) (x j) (m.ahead j) (sym (helps_is j way.nonbasic) ∙ way.helps_it) m.own))
              ]
            ]

        total : sum_over (λ k. t.factor (limited_count system) k *ℚ m.ahead k) (nonbasics t.basis) ≤ℚ basic_value t (limited_count system)
        total =
            sum_le (λ k. form k *ℚ m.ahead k) (λ k. form k *ℚ place_value t k) (nonbasics t.basis)
            (All-weaker (λ k. (k < length t.basis) × (not (is_basic t.basis k) ≡ true)) (λ k. form k *ℚ m.ahead k ≤ℚ form k *ℚ place_value t k)
            (λ k h. let n = not-true (is_basic t.basis k) h.1 in subst (λ q. form k *ℚ m.ahead k ≤ℚ form k *ℚ q) (at_place k n) (term k n)) (nonbasics t.basis) (below_all (λ k. not (is_basic t.basis k)) (length t.basis)))

    -- ---- how far it goes
    module _ (inside : Inside system (value_of t)) (b : Block) (first : nearest (blocks t j) ≡ Some b) where
      found : (Meets t j b ⊎ IsOwn t j b) × All (IsUpTo b) (blocks t j)
      found = nearest_of (λ c. Meets t j c ⊎ IsOwn t j c) (blocks t j) b (blocks_all t j) first

      near : All (λ c. b.distance ≤ℚ c.distance) (blocks t j)
      near = All-weaker (IsUpTo b) (λ c. b.distance ≤ℚ c.distance) (λ c h. h.near) (blocks t j) found.1

      small_is : (k : ℕ) → k < limited t → k < limited_count system
      small_is k l = subst (λ n. k < n) (limited_is system t of) l

      basic_inside : (k : ℕ) → k < limited t → is_basic t.basis k ≡ true → IsWithin (limits_at t k) (basic_value t k)
      basic_inside k l basic =
          subst (λ (p : Limits × ℚ). IsWithin p.0 p.1) (λ i. (sym (same_limits k) i, cond-true (is_basic t.basis k) (basic_value t k) (place_value t k) basic i)) (inside k (small_is k l))

      own_inside : IsWithin (limits_at t j) (place_value t j)
      own_inside = placed_inside system t formed of j enters_below way.nonbasic

      forward : zero_ℚ ≤ℚ b.distance
      forward = elim found.0 [ inl m ↦ met m | inr o ↦ own o ]
        where
          met : Meets t j b → zero_ℚ ≤ℚ b.distance
          met m = by b.side refl
            where
              within : IsWithin (limits_at t b.variable) (basic_value t b.variable)
              within = basic_inside b.variable m.small m.basic

              room : (side : Side) → b.side ≡ side → b.distance *ℚ rate t j b.variable ≡ m.limit -ℚ basic_value t b.variable
              room side e = ap (λ q. q *ℚ rate t j b.variable) m.far ∙ distance_is t j way b.variable b.side m.limit m.way

              upper_is : b.side ≡ Up → basic_value t b.variable ≤ℚ m.limit
              upper_is e = subst (λ o. IfSome o (λ u. basic_value t b.variable ≤ℚ u)) (sym (ap (limit_on (limits_at t b.variable)) e) ∙ m.there) within.upper

              lower_is : b.side ≡ Lo → m.limit ≤ℚ basic_value t b.variable
              lower_is e = subst (λ o. IfSome o (λ l. l ≤ℚ basic_value t b.variable)) (sym (ap (limit_on (limits_at t b.variable)) e) ∙ m.there) within.lower

              by : (side : Side) → b.side ≡ side → zero_ℚ ≤ℚ b.distance
              by Up e = from_above b.distance (rate t j b.variable) (rising (rate t j b.variable) (m.way ∙ ap Some e)) (subst (λ q. zero_ℚ ≤ℚ q) (sym (room Up e)) (le_by (basic_value t b.variable ∷ m.limit ∷ []) zero_of (x1 :- x0) (x1 :- x0) (nonneg_of_le (upper_is e)) tt))
              by Lo e = from_below b.distance (rate t j b.variable) (falling (rate t j b.variable) (m.way ∙ ap Some e)) (subst (λ q. q ≤ℚ zero_ℚ) (sym (room Lo e)) (le_by (basic_value t b.variable ∷ m.limit ∷ []) (x1 :- x0) zero_of (x0 :- x1) (nonneg_of_le (lower_is e)) tt))

          own : IsOwn t j b → zero_ℚ ≤ℚ b.distance
          own o =
              let low : o.lower ≤ℚ place_value t j = subst (λ p. IfSome p (λ l. l ≤ℚ place_value t j)) o.has_lower own_inside.lower in
              let high : place_value t j ≤ℚ o.upper = subst (λ p. IfSome p (λ u. place_value t j ≤ℚ u)) o.has_upper own_inside.upper in
              subst (λ q. zero_ℚ ≤ℚ q) (sym o.far) (le_by (o.lower ∷ o.upper ∷ []) zero_of (x1 :- x0) (x1 :- x0) (nonneg_of_le (le_trans_ℚ low high)) tt)

      -- ---- the values after it
      now : ℕ → ℚ
      now = moved system t of j way.nonbasic way.known (way.step *ℚ b.distance)

      now_basic : (r : ℕ) → is_basic t.basis r ≡ true → now r ≡ basic_value t r +ℚ rate t j r *ℚ b.distance
      unfolding now
      now_basic r basic =
          moved-basic system t of j way.nonbasic way.known (way.step *ℚ b.distance) r basic
          ∙ ap (λ q. basic_value t r +ℚ q) (ring_ℚ (t.factor r j ∷ way.step ∷ b.distance ∷ []) (x0 :* (x1 :* x2)) ((x0 :* x1) :* x2) tt)
          ∙ ap (λ q. basic_value t r +ℚ q *ℚ b.distance) (sym (way.rate_is r))

      now_own : now j ≡ place_value t j +ℚ way.step *ℚ b.distance
      unfolding now
      now_own = moved-own system t of j way.nonbasic way.known (way.step *ℚ b.distance)

      now_other : (k : ℕ) → is_basic t.basis k ≡ false → k ≢ j → now k ≡ place_value t k
      unfolding now
      now_other k n q = moved-other system t of j way.nonbasic way.known (way.step *ℚ b.distance) k n q

      now_keeps : KeepsRows system now
      unfolding now
      now_keeps = moved-keeps system t of j way.nonbasic way.known (way.step *ℚ b.distance)

      -- a basic variable stays within its limits
      within_basic : (k : ℕ) → k < limited t → is_basic t.basis k ≡ true → IsWithin (limits_at t k) (now k)
      within_basic k small basic =
          subst (IsWithin (limits_at t k)) (sym (now_basic k basic))
          (elim (trichotomy_ℚ zero_ℚ (rate t j k)) [
            | inl h ↦ up h
            | inr r ↦ elim r [
              | inl e ↦ subst (IsWithin (limits_at t k)) (ring_ℚ (basic_value t k ∷ b.distance ∷ []) x0 (x0 :+ zero_of :* x1) tt ∙ ap (λ q. basic_value t k +ℚ q *ℚ b.distance) e) old
              | inr h ↦ down h
            ]
          ])
        where
          v : ℚ
          v = basic_value t k

          g : ℚ
          g = rate t j k

          old : IsWithin (limits_at t k) (basic_value t k)
          old = basic_inside k small basic

          up : zero_ℚ <ℚ rate t j k → IsWithin (limits_at t k) (basic_value t k +ℚ rate t j k *ℚ b.distance)
          up h = record {
            lower = raise_lower (limits_at t k).lower (basic_value t k) (basic_value t k +ℚ rate t j k *ℚ b.distance) (le_by (basic_value t k ∷ rate t j k ∷ b.distance ∷ []) x0 (x0 :+ x1 :* x2) (x1 :* x2) (nonneg-mul (nonneg_of_positive (positive_is.0 h)) (nonneg_is.0 forward)) tt) old.lower;
            upper = by (limits_at t k).upper refl;
          }
            where
              by : (o : Option ℚ) → (limits_at t k).upper ≡ o → IfSome o (λ u. basic_value t k +ℚ rate t j k *ℚ b.distance ≤ℚ u)
              by None e = tt
              by (Some u) e =
                  let far = distance_to t j k Up u in
                  let near_k : b.distance ≤ℚ far = at_met t j (λ c. b.distance ≤ℚ c.distance) near k Up u small basic (goes_up (rate t j k) h) e in
                  let is : far *ℚ rate t j k ≡ u -ℚ basic_value t k = distance_is t j way k Up u (goes_up (rate t j k) h) in
                  let whole : basic_value t k +ℚ far *ℚ rate t j k ≡ u = ap (λ q. basic_value t k +ℚ q) is ∙ ring_ℚ (basic_value t k ∷ u ∷ []) (x0 :+ (x1 :- x0)) x1 tt in
                  subst (λ q. basic_value t k +ℚ rate t j k *ℚ b.distance ≤ℚ q) whole (le_by (basic_value t k ∷ rate t j k ∷ b.distance ∷ far ∷ []) (x0 :+ x1 :* x2) (x0 :+ x3 :* x1) (x1 :* (x3 :- x2)) (nonneg-mul (nonneg_of_positive (positive_is.0 h)) (nonneg_of_le near_k)) tt)

          down : rate t j k <ℚ zero_ℚ → IsWithin (limits_at t k) (basic_value t k +ℚ rate t j k *ℚ b.distance)
          down h = record {
            lower = by (limits_at t k).lower refl;
            upper = drop_upper (limits_at t k).upper (basic_value t k) (basic_value t k +ℚ rate t j k *ℚ b.distance) (le_by (basic_value t k ∷ rate t j k ∷ b.distance ∷ []) (x0 :+ x1 :* x2) x0 ((zero_of :- x1) :* x2) (nonneg-mul (nonneg_of_positive (positive_of_lt h)) (nonneg_is.0 forward)) tt) old.upper;
          }
            where
              by : (o : Option ℚ) → (limits_at t k).lower ≡ o → IfSome o (λ l. l ≤ℚ basic_value t k +ℚ rate t j k *ℚ b.distance)
              by None e = tt
              by (Some l) e =
                  let far = distance_to t j k Lo l in
                  let near_k : b.distance ≤ℚ far = at_met t j (λ c. b.distance ≤ℚ c.distance) near k Lo l small basic (goes_down (rate t j k) h) e in
                  let is : far *ℚ rate t j k ≡ l -ℚ basic_value t k = distance_is t j way k Lo l (goes_down (rate t j k) h) in
                  let whole : basic_value t k +ℚ far *ℚ rate t j k ≡ l = ap (λ q. basic_value t k +ℚ q) is ∙ ring_ℚ (basic_value t k ∷ l ∷ []) (x0 :+ (x1 :- x0)) x1 tt in
                  subst (λ q. q ≤ℚ basic_value t k +ℚ rate t j k *ℚ b.distance) whole (le_by (basic_value t k ∷ rate t j k ∷ b.distance ∷ far ∷ []) (x0 :+ x3 :* x1) (x0 :+ x1 :* x2) ((zero_of :- x1) :* (x3 :- x2)) (nonneg-mul (nonneg_of_positive (positive_of_lt h)) (nonneg_of_le near_k)) tt)

      -- and so does j
      within_own : IsWithin (limits_at t j) (now j)
      unfolding place_basic
      within_own = subst (IsWithin (limits_at t j)) (sym now_own) (elim way.can [ inl h ↦ up h.0 h.1 | inr h ↦ down h.0 h.1 ])
        where
          up : way.step ≡ one_ℚ → can_rise t j ≡ true → IsWithin (limits_at t j) (place_value t j +ℚ way.step *ℚ b.distance)
          up is can =
              let same : place_value t j +ℚ way.step *ℚ b.distance ≡ place_value t j +ℚ b.distance = ap (λ q. place_value t j +ℚ q *ℚ b.distance) is ∙ ring_ℚ (place_value t j ∷ b.distance ∷ []) (x0 :+ unit_of :* x1) (x0 :+ x1) tt in
              subst (IsWithin (limits_at t j)) (sym same) (record {
                lower = raise_lower (limits_at t j).lower (place_value t j) (place_value t j +ℚ b.distance) (le_by (place_value t j ∷ b.distance ∷ []) x0 (x0 :+ x1) x1 (nonneg_is.0 forward) tt) own_inside.lower;
                upper = by (limits_at t j).upper refl;
              })
            where
              by : (o : Option ℚ) → (limits_at t j).upper ≡ o → IfSome o (λ u. place_value t j +ℚ b.distance ≤ℚ u)
              by None e = tt
              by (Some u) e =
                  let from = rises_from (limits_at t j) (place_of t j) (of.placed j) way.nonbasic can u e in
                  let l : ℚ = from.1.0 in
                  let near_j : b.distance ≤ℚ u -ℚ l = at_own t j (λ c. b.distance ≤ℚ c.distance) near l u from.1.1.0 e in
                  subst (λ q. q +ℚ b.distance ≤ℚ u) (sym from.1.1.1) (le_by (l ∷ u ∷ b.distance ∷ []) (x0 :+ x2) x1 ((x1 :- x0) :- x2) (nonneg_of_le near_j) tt)

          down : way.step ≡ neg_ℚ one_ℚ → can_fall t j ≡ true → IsWithin (limits_at t j) (place_value t j +ℚ way.step *ℚ b.distance)
          down is can =
              let same : place_value t j +ℚ way.step *ℚ b.distance ≡ place_value t j -ℚ b.distance = ap (λ q. place_value t j +ℚ q *ℚ b.distance) is ∙ ring_ℚ (place_value t j ∷ b.distance ∷ []) (x0 :+ minus unit_of :* x1) (x0 :- x1) tt in
              subst (IsWithin (limits_at t j)) (sym same) (record {
                lower = by (limits_at t j).lower refl;
                upper = drop_upper (limits_at t j).upper (place_value t j) (place_value t j -ℚ b.distance) (le_by (place_value t j ∷ b.distance ∷ []) (x0 :- x1) x0 x1 (nonneg_is.0 forward) tt) own_inside.upper;
              })
            where
              by : (o : Option ℚ) → (limits_at t j).lower ≡ o → IfSome o (λ l. l ≤ℚ place_value t j -ℚ b.distance)
              by None e = tt
              by (Some l) e =
                  let from = falls_from (limits_at t j) (place_of t j) (of.placed j) way.nonbasic can l e in
                  let u : ℚ = from.1.0 in
                  let near_j : b.distance ≤ℚ u -ℚ l = at_own t j (λ c. b.distance ≤ℚ c.distance) near l u e from.1.1.0 in
                  subst (λ q. l ≤ℚ q -ℚ b.distance) (sym from.1.1.1) (le_by (l ∷ u ∷ b.distance ∷ []) x0 (x1 :- x2) ((x1 :- x0) :- x2) (nonneg_of_le near_j) tt)

      -- and the nonbasic others
      now_inside : Inside system now
      now_inside v l =
          subst (λ z. IsWithin z (now v)) (same_limits v)
          (elim (cases_eq v j) [
            | inl e ↦ subst (λ w. IsWithin (limits_at t w) (now w)) (sym e) within_own
            | inr e ↦ elim (cases_Bool (is_basic t.basis v)) [
              | inl basic ↦ within_basic v (subst (λ n. v < n) (sym (limited_is system t of)) l) basic
              | inr n ↦ subst (IsWithin (limits_at t v)) (sym (now_other v n e)) (placed_inside system t formed of v l n)
            ]
          ])

      -- ---- the objective
      z : ℕ
      z = limited_count system

      gain : zero_ℚ <ℚ rate t j (limited_count system)
      gain = subst (λ q. zero_ℚ <ℚ q) (ap (λ o. t.factor o j *ℚ way.step) objective_is ∙ sym (way.rate_is (limited_count system))) way.gains

      objective_value : value_of t (limited_count system) ≡ basic_value t (limited_count system)
      objective_value = cond-true (is_basic t.basis (limited_count system)) (basic_value t (limited_count system)) (place_value t (limited_count system)) objective_basic

      now_rises : value_of t (limited_count system) ≤ℚ now (limited_count system)
      now_rises =
          subst (λ (p : ℚ × ℚ). p.0 ≤ℚ p.1) (λ i. (sym objective_value i, sym (now_basic (limited_count system) objective_basic) i))
          (le_by (basic_value t (limited_count system) ∷ rate t j (limited_count system) ∷ b.distance ∷ []) x0 (x0 :+ x1 :* x2) (x1 :* x2) (nonneg-mul (nonneg_of_positive (positive_is.0 gain)) (nonneg_is.0 forward)) tt)

      -- where it stays as it is, the distance is 0
      nothing : now (limited_count system) ≤ℚ value_of t (limited_count system) → b.distance ≡ zero_ℚ
      nothing h =
          elim (trichotomy_ℚ zero_ℚ b.distance) [
            | inl l ↦
                lt-le_clash_ℚ (lt_by (basic_value t (limited_count system) ∷ rate t j (limited_count system) ∷ b.distance ∷ []) x0 (x0 :+ x1 :* x2) (x1 :* x2) (positive-mul (positive_is.0 gain) (positive_is.0 l)) tt)
                (subst (λ (p : ℚ × ℚ). p.0 ≤ℚ p.1) (λ i. (now_basic (limited_count system) objective_basic i, objective_value i)) h)
            | inr r ↦ elim r [ inl e ↦ sym e | inr l ↦ lt-le_clash_ℚ l forward ]
          ]

      -- and nothing moves
      now_same : b.distance ≡ zero_ℚ → (v : ℕ) → now v ≡ value_of t v
      now_same none v =
          elim (cases_Bool (is_basic t.basis v)) [
            | inl basic ↦
                (now_basic v basic ∙ ap (λ q. basic_value t v +ℚ rate t j v *ℚ q) none ∙ ring_ℚ (basic_value t v ∷ rate t j v ∷ []) (x0 :+ x1 :* zero_of) x0 tt
                ∙ sym (cond-true (is_basic t.basis v) (basic_value t v) (place_value t v) basic))
            | inr n ↦ (elim (cases_eq v j) [
              | inl e ↦
                  (ap now e ∙ now_own ∙ ap (λ q. place_value t j +ℚ way.step *ℚ q) none ∙ ring_ℚ (place_value t j ∷ way.step ∷ []) (x0 :+ x1 :* zero_of) x0 tt
                  ∙ ap (place_value t) (sym e) ∙ sym (cond-false (is_basic t.basis v) (basic_value t v) (place_value t v) n))
              | inr e ↦ (now_other v n e ∙ sym (cond-false (is_basic t.basis v) (basic_value t v) (place_value t v) n))
            ])
          ]

      -- ---- j goes to its other limit
      module _ (own : IsOwn t j b) where
        flipped_basis : List Place
        flipped_basis = slice_set t.basis j (other_place (place_of t j))

        -- it stands at the one limit, heads for the other, and they differ
        record Across : Type 0 where
          arrives : place_value t j +ℚ way.step *ℚ b.distance ≡ value_at_place (limits_at t j) (other_place (place_of t j))
          stays_off : place_basic (other_place (place_of t j)) ≡ false
          apart : b.distance ≢ zero_ℚ

        same_number : (o : Option ℚ) (a c : ℚ) → o ≡ Some a → o ≡ Some c → a ≡ c
        same_number o a c e f = some_only a c (sym e ∙ f)

        across : Across
        unfolding place_basic
        across = elim way.can [ inl h ↦ up h.0 h.1 | inr h ↦ down h.0 h.1 ]
          where
            up : way.step ≡ one_ℚ → can_rise t j ≡ true → Across
            up is can =
                let from = rises_from (limits_at t j) (place_of t j) (of.placed j) way.nonbasic can own.upper own.has_upper in
                let low : from.1.0 ≡ own.lower = same_number (limits_at t j).lower from.1.0 own.lower from.1.1.0 own.has_lower in
                let at : place_value t j ≡ own.lower = from.1.1.1 ∙ low in
                record {
                  arrives =
                      (λ i. at i +ℚ is i *ℚ own.far i) ∙ ring_ℚ (own.lower ∷ own.upper ∷ []) (x0 :+ unit_of :* (x1 :- x0)) x1 tt
                      ∙ ap number_or_zero (sym own.has_upper) ∙ ap (λ p. value_at_place (limits_at t j) (other_place p)) (sym from.0);
                  stays_off = ap (λ p. place_basic (other_place p)) from.0;
                  apart = λ none.
                      let equal : own.upper ≡ own.lower = ring_ℚ (own.lower ∷ own.upper ∷ []) x1 ((x1 :- x0) :+ x0) tt ∙ ap (λ q. q +ℚ own.lower) (sym own.far ∙ none) ∙ ring_ℚ (own.lower ∷ []) (zero_of :+ x0) x0 tt in
                      true≢false (sym can ∙ ap not ((λ i. meets (own.has_upper i) (at i)) ∙ (eq-Decides own.upper own.lower).1 equal));
                }

            down : way.step ≡ neg_ℚ one_ℚ → can_fall t j ≡ true → Across
            down is can =
                let from = falls_from (limits_at t j) (place_of t j) (of.placed j) way.nonbasic can own.lower own.has_lower in
                let high : from.1.0 ≡ own.upper = same_number (limits_at t j).upper from.1.0 own.upper from.1.1.0 own.has_upper in
                let at : place_value t j ≡ own.upper = from.1.1.1 ∙ high in
                record {
                  arrives =
                      (λ i. at i +ℚ is i *ℚ own.far i) ∙ ring_ℚ (own.lower ∷ own.upper ∷ []) (x1 :+ minus unit_of :* (x1 :- x0)) x0 tt
                      ∙ ap number_or_zero (sym own.has_lower) ∙ ap (λ p. value_at_place (limits_at t j) (other_place p)) (sym from.0);
                  stays_off = ap (λ p. place_basic (other_place p)) from.0;
                  apart = λ none.
                      let equal : own.upper ≡ own.lower = ring_ℚ (own.lower ∷ own.upper ∷ []) x1 ((x1 :- x0) :+ x0) tt ∙ ap (λ q. q +ℚ own.lower) (sym own.far ∙ none) ∙ ring_ℚ (own.lower ∷ []) (zero_of :+ x0) x0 tt in
                      true≢false (sym can ∙ ap not ((λ i. meets (own.has_lower i) (at i)) ∙ (eq-Decides own.lower own.upper).1 (sym equal)));
                }

        flip_stands : (k : ℕ) → is_basic flipped_basis k ≡ false → now k ≡ stand system flipped_basis k
        unfolding place_basic flipped_basis
        flip_stands k n =
            elim (cases_eq k j) [
              | inl e ↦
                  (ap now e ∙ now_own ∙ across.arrives ∙ ap (λ l. value_at_place l (other_place (place_of t j))) (same_limits j)
                  ∙ ap (value_at_place (limit_of system j)) (sym (get_or-set_same t.basis j (other_place (place_of t j)) AtZero way.known))
                  ∙ ap (stand system (slice_set t.basis j (other_place (place_of t j)))) (sym e))
              | inr e ↦
                  (let same : get_or (slice_set t.basis j (other_place (place_of t j))) k AtZero ≡ get_or t.basis k AtZero = get_or-set_other t.basis j k (other_place (place_of t j)) AtZero e in
                  now_other k (ap place_basic (sym same) ∙ n) e ∙ same_stand k ∙ ap (value_at_place (limit_of system k)) (sym same))
            ]

        flip_turned : Turned system t flipped_basis
        flip_turned = record {
          now = now;
          values = record { keeps = now_keeps; stands = flip_stands };
          inside = now_inside;
          rises = now_rises;
          flat_same = λ h. now_same (nothing h);
          flat_exchanged = λ h x is. absurd (across.apart (nothing h));
        }

      -- ---- another variable leaves for j
      module _ (leaves : Meets t j b) where
        i : ℕ
        i = b.variable

        next : List Place
        next = exchanged t.basis b.variable b.side j

        apart : b.variable ≢ j
        apart e = true≢false (sym leaves.basic ∙ (ap (is_basic t.basis) e ∙ way.nonbasic))

        i_below : b.variable < length t.basis
        i_below = basic_below t.basis b.variable leaves.basic

        left_nonbasic : is_basic next b.variable ≡ false
        unfolding next
        left_nonbasic = exchanged-leaving t.basis b.variable j b.side i_below apart

        entered_basic : is_basic next j ≡ true
        unfolding next
        entered_basic = exchanged-entering t.basis b.variable j b.side way.known

        others_same : (k : ℕ) → k ≢ b.variable → k ≢ j → is_basic next k ≡ is_basic t.basis k
        unfolding next
        others_same k m n = exchanged-other t.basis b.variable j b.side k m n

        not_entered : (k : ℕ) → is_basic next k ≡ false → k ≢ j
        not_entered k n e = true≢false (sym entered_basic ∙ (ap (is_basic next) (sym e) ∙ n))

        -- what leaves arrives at its limit
        arrives : now b.variable ≡ leaves.limit
        arrives =
            now_basic b.variable leaves.basic ∙ ap (λ q. basic_value t b.variable +ℚ q) (ring_ℚ (rate t j b.variable ∷ b.distance ∷ []) (x0 :* x1) (x1 :* x0) tt ∙ ap (λ q. q *ℚ rate t j b.variable) leaves.far ∙ distance_is t j way b.variable b.side leaves.limit leaves.way)
            ∙ ring_ℚ (basic_value t b.variable ∷ leaves.limit ∷ []) (x0 :+ (x1 :- x0)) x1 tt

        leave_stands : (k : ℕ) → is_basic next k ≡ false → now k ≡ stand system next k
        unfolding next
        leave_stands k n =
            elim (cases_eq k b.variable) [
              | inl e ↦
                  (ap now e ∙ arrives ∙ ap number_or_zero (sym leaves.there) ∙ sym (at_its_limit (limits_at t b.variable) b.side) ∙ ap (λ l. value_at_place l (at_limit b.side)) (same_limits b.variable)
                  ∙ ap (value_at_place (limit_of system b.variable)) (sym (get_or-set_other (set t.basis b.variable (at_limit b.side)) j b.variable Basic AtZero apart ∙ get_or-set_same t.basis b.variable (at_limit b.side) AtZero i_below))
                  ∙ ap (stand system (exchanged t.basis b.variable b.side j)) (sym e))
              | inr e ↦
                  (let q = not_entered k n in
                  now_other k (sym (others_same k e q) ∙ n) q ∙ same_stand k ∙ ap (value_at_place (limit_of system k)) (sym (exchanged-place t.basis b.variable j b.side k e q)))
            ]

        -- ---- where nothing moves
        module _ (none : b.distance ≡ zero_ℚ) (x : ℕ → ℚ) (is : (v : ℕ) → x v ≡ value_of t v) where
          x_basic : (k : ℕ) → is_basic t.basis k ≡ true → x k ≡ basic_value t k
          x_basic k basic = is k ∙ cond-true (is_basic t.basis k) (basic_value t k) (place_value t k) basic

          x_place : (k : ℕ) → is_basic t.basis k ≡ false → x k ≡ place_value t k
          x_place k n = is k ∙ cond-false (is_basic t.basis k) (basic_value t k) (place_value t k) n

          -- what leaves stands at its limit
          at_limit_now : x b.variable ≡ leaves.limit
          at_limit_now = is b.variable ∙ sym (now_same none b.variable) ∙ arrives

          limit_is : limit_on (limit_of system b.variable) b.side ≡ Some (x b.variable)
          limit_is = ap (λ l. limit_on l b.side) (sym (same_limits b.variable)) ∙ leaves.there ∙ ap Some (sym at_limit_now)

          -- values a step ahead
          ahead : ℕ → ℚ
          ahead = moved system t of j way.nonbasic way.known way.step

          ahead_basic : (k : ℕ) → is_basic t.basis k ≡ true → ahead k ≡ x k +ℚ rate t j k
          unfolding ahead
          ahead_basic k basic = moved-basic system t of j way.nonbasic way.known way.step k basic ∙ (λ l. sym (x_basic k basic) l +ℚ sym (way.rate_is k) l)

          ahead_own : ahead j ≡ x j +ℚ way.step
          unfolding ahead
          ahead_own = moved-own system t of j way.nonbasic way.known way.step ∙ ap (λ q. q +ℚ way.step) (sym (x_place j way.nonbasic))

          ahead_other : (k : ℕ) → is_basic t.basis k ≡ false → k ≢ j → ahead k ≡ x k
          unfolding ahead
          ahead_other k n q = moved-other system t of j way.nonbasic way.known way.step k n q ∙ sym (x_place k n)

          ahead_keeps : KeepsRows system ahead
          unfolding ahead
          ahead_keeps = moved-keeps system t of j way.nonbasic way.known way.step

          raised : x (limited_count system) <ℚ ahead (limited_count system)
          raised = subst (λ q. x (limited_count system) <ℚ q) (sym (ahead_basic (limited_count system) objective_basic)) (lt_by (x (limited_count system) ∷ rate t j (limited_count system) ∷ []) x0 (x0 :+ x1) x1 (positive_is.0 gain) tt)

          -- a lesser basic variable that moves to a limit would have been met first
          not_met : (k : ℕ) → k < b.variable → is_basic t.basis k ≡ true → (side : Side) (limit : ℚ) → towards (rate t j k) ≡ Some side → limit_on (limits_at t k) side ≡ Some limit → limit ≡ basic_value t k → ⊥
          not_met k l basic side limit toward there equal =
              let small : k < limited t = (let s : b.variable < limited t = leaves.small in omega arith) in
              let far = distance_to t j k side limit in
              let up_to = at_met t j (IsUpTo b) found.1 k side limit small basic toward there in
              let room : far *ℚ rate t j k ≡ zero_ℚ = distance_is t j way k side limit toward ∙ ap (λ q. q -ℚ basic_value t k) equal ∙ ring_ℚ (basic_value t k ∷ []) (x0 :- x0) zero_of tt in
              let far_none : far ≡ zero_ℚ = cancelled far (rate t j k) (moving side toward) room in
              let m : b.variable ≤ k = up_to.least (far_none ∙ sym none) in
              absurd (omega arith)
            where
              moving : (side : Side) → towards (rate t j k) ≡ Some side → rate t j k ≢ zero_ℚ
              moving Up e q = lt_irrefl_ℚ (subst (λ g. zero_ℚ <ℚ g) q (rising (rate t j k) e))
              moving Lo e q = lt_irrefl_ℚ (subst (λ g. g <ℚ zero_ℚ) q (falling (rate t j k) e))

              cancelled : (d g : ℚ) → g ≢ zero_ℚ → d *ℚ g ≡ zero_ℚ → d ≡ zero_ℚ
              cancelled d g apart e = div_from_ℚ zero_ℚ g d apart e ∙ ring_ℚ (inv_ℚ g ∷ []) (zero_of :* x0) zero_of tt

          up : (k : ℕ) → k < b.variable → meets (limit_of system k).upper (x k) ≡ true → ahead k ≤ℚ x k
          up k l e =
              elim (cases_Bool (is_basic t.basis k)) [
                | inl basic ↦ subst (λ q. q ≤ℚ x k) (sym (ahead_basic k basic)) (elim (trichotomy_ℚ zero_ℚ (rate t j k)) [
                  | inl h ↦ met_upper basic (limits_at t k).upper refl (ap (λ z. meets z.upper (x k)) (same_limits k) ∙ e) (goes_up (rate t j k) h)
                  | inr r ↦ elim r [
                    | inl z ↦ subst (λ q. x k +ℚ q ≤ℚ x k) z (le_by (x k ∷ []) (x0 :+ zero_of) x0 zero_of (nonneg_is.0 (le_refl_ℚ zero_ℚ)) tt)
                    | inr h ↦ le_by (x k ∷ rate t j k ∷ []) (x0 :+ x1) x0 (zero_of :- x1) (nonneg_of_positive (positive_of_lt h)) tt
                  ]
                ])
                | inr n ↦ elim (cases_eq k j) [
                  | inl q ↦ subst (λ w. ahead w ≤ℚ x w) (sym q) (subst (λ w. w ≤ℚ x j) (sym ahead_own) (own_up (ap (λ w. meets (limit_of system w).upper (x w)) (sym q) ∙ e)))
                  | inr q ↦ subst (λ w. w ≤ℚ x k) (sym (ahead_other k n q)) (le_refl_ℚ (x k))
                ]
              ]
            where
              met_upper : is_basic t.basis k ≡ true → (o : Option ℚ) → (limits_at t k).upper ≡ o → meets (limits_at t k).upper (x k) ≡ true → towards (rate t j k) ≡ Some Up → x k +ℚ rate t j k ≤ℚ x k
              met_upper basic None is_o m toward = absurd (true≢false (sym m ∙ ap (λ o. meets o (x k)) is_o))
              met_upper basic (Some u) is_o m toward = absurd (not_met k l basic Up u toward is_o ((eq-Decides u (x k)).0 (ap (λ o. meets o (x k)) (sym is_o) ∙ m) ∙ x_basic k basic))

              own_up : meets (limit_of system j).upper (x j) ≡ true → x j +ℚ way.step ≤ℚ x j
              own_up m = elim way.can [
                | inl h ↦ absurd (true≢false (sym h.1 ∙ ap not ((λ i. meets (same_limits j i).upper (sym (x_place j way.nonbasic) i)) ∙ m)))
                | inr h ↦ subst (λ q. x j +ℚ q ≤ℚ x j) (sym h.0) (le_by (x j ∷ []) (x0 :+ minus unit_of) x0 unit_of (nonneg_of_positive positive-one) tt)
              ]

          down : (k : ℕ) → k < b.variable → meets (limit_of system k).lower (x k) ≡ true → x k ≤ℚ ahead k
          down k l e =
              elim (cases_Bool (is_basic t.basis k)) [
                | inl basic ↦ subst (λ q. x k ≤ℚ q) (sym (ahead_basic k basic)) (elim (trichotomy_ℚ zero_ℚ (rate t j k)) [
                  | inl h ↦ le_by (x k ∷ rate t j k ∷ []) x0 (x0 :+ x1) x1 (nonneg_of_positive (positive_is.0 h)) tt
                  | inr r ↦ elim r [
                    | inl z ↦ subst (λ q. x k ≤ℚ x k +ℚ q) z (le_by (x k ∷ []) x0 (x0 :+ zero_of) zero_of (nonneg_is.0 (le_refl_ℚ zero_ℚ)) tt)
                    | inr h ↦ met_lower basic (limits_at t k).lower refl (ap (λ z. meets z.lower (x k)) (same_limits k) ∙ e) (goes_down (rate t j k) h)
                  ]
                ])
                | inr n ↦ elim (cases_eq k j) [
                  | inl q ↦ subst (λ w. x w ≤ℚ ahead w) (sym q) (subst (λ w. x j ≤ℚ w) (sym ahead_own) (own_down (ap (λ w. meets (limit_of system w).lower (x w)) (sym q) ∙ e)))
                  | inr q ↦ subst (λ w. x k ≤ℚ w) (sym (ahead_other k n q)) (le_refl_ℚ (x k))
                ]
              ]
            where
              met_lower : is_basic t.basis k ≡ true → (o : Option ℚ) → (limits_at t k).lower ≡ o → meets (limits_at t k).lower (x k) ≡ true → towards (rate t j k) ≡ Some Lo → x k ≤ℚ x k +ℚ rate t j k
              met_lower basic None is_o m toward = absurd (true≢false (sym m ∙ ap (λ o. meets o (x k)) is_o))
              met_lower basic (Some u) is_o m toward = absurd (not_met k l basic Lo u toward is_o ((eq-Decides u (x k)).0 (ap (λ o. meets o (x k)) (sym is_o) ∙ m) ∙ x_basic k basic))

              own_down : meets (limit_of system j).lower (x j) ≡ true → x j ≤ℚ x j +ℚ way.step
              own_down m = elim way.can [
                | inl h ↦ subst (λ q. x j ≤ℚ x j +ℚ q) (sym h.0) (le_by (x j ∷ []) x0 (x0 :+ unit_of) unit_of (nonneg_of_positive positive-one) tt)
                | inr h ↦ absurd (true≢false (sym h.1 ∙ ap not ((λ i. meets (same_limits j i).lower (sym (x_place j way.nonbasic) i)) ∙ m)))
              ]

          -- what is known of the variable that leaves
          remembered : j < b.variable → Passed system x next b.variable
          remembered l = record {
            ahead = ahead;
            keeps = ahead_keeps;
            raised = raised;
            up = up;
            down = down;
            kept = λ k g n.
                let q = not_entered k n in
                let m : k ≢ b.variable = λ e. absurd (omega arith) in
                ahead_other k (sym (others_same k m q) ∙ n) q;
            own = by b.side refl;
          }
            where
              by : (side : Side) → b.side ≡ side → ((meets (limit_of system b.variable).upper (x b.variable) ≡ true) × (x b.variable ≤ℚ ahead b.variable)) ⊎ ((meets (limit_of system b.variable).lower (x b.variable) ≡ true) × (ahead b.variable ≤ℚ x b.variable))
              by Up e = inl (
                ap (λ o. meets o (x b.variable)) (ap (limit_on (limit_of system b.variable)) (sym e) ∙ limit_is) ∙ meets_own (x b.variable),
                subst (λ q. x b.variable ≤ℚ q) (sym (ahead_basic b.variable leaves.basic)) (le_by (x b.variable ∷ rate t j b.variable ∷ []) x0 (x0 :+ x1) x1 (nonneg_of_positive (positive_is.0 (rising (rate t j b.variable) (leaves.way ∙ ap Some e)))) tt),
              )
              by Lo e = inr (
                ap (λ o. meets o (x b.variable)) (ap (limit_on (limit_of system b.variable)) (sym e) ∙ limit_is) ∙ meets_own (x b.variable),
                subst (λ q. q ≤ℚ x b.variable) (sym (ahead_basic b.variable leaves.basic)) (le_by (x b.variable ∷ rate t j b.variable ∷ []) (x0 :+ x1) x0 (zero_of :- x1) (nonneg_of_positive (positive_of_lt (falling (rate t j b.variable) (leaves.way ∙ ap Some e)))) tt),
              )

          -- and of a greater one stays
          still : (e : ℕ) → b.variable < e → j < e → Passed system x t.basis e → Passed system x next e
          still e li lj m = record {
            ahead = m.ahead;
            keeps = m.keeps;
            raised = m.raised;
            up = m.up;
            down = m.down;
            kept = λ k l n.
                let p : k ≢ b.variable = λ q. absurd (omega arith) in
                let q = not_entered k n in
                m.kept k l (sym (others_same k p q) ∙ n);
            own = m.own;
          }

          exchanges : Exchanges (limited_count system) (Passed system x t.basis) (Passed system x next) t.basis next b.variable j
          exchanges = record {
            leaves_below = small_is b.variable leaves.small;
            enters_below = enters_below;
            leaves_basic = leaves.basic;
            enters_nonbasic = way.nonbasic;
            left_nonbasic = left_nonbasic;
            entered_basic = entered_basic;
            others_same = others_same;
            remembered = remembered;
            still = still;
            no_return = λ m l. no_return x is m;
          }

        leave_turned : Turned system t next
        leave_turned = record {
          now = now;
          values = record { keeps = now_keeps; stands = leave_stands };
          inside = now_inside;
          rises = now_rises;
          flat_same = λ h. now_same (nothing h);
          flat_exchanged = λ h x is. record { leaving = b.variable; entering = j; exchanges = exchanges (nothing h) x is };
        }

  -- ---- what a turn gives
  module _ (inside : Inside system (value_of t)) where
    some_place : (a b : List Place) → ◌≡◌ {A = Option (List Place)} (Some a) (Some b) → a ≡ b
    some_place a b q = ap (of_some a) q
      where
        of_some : List Place → Option (List Place) → List Place
        of_some d None = d
        of_some d (Some s) = s

    no_place : (b : List Place) → ◌≡◌ {A = Option (List Place)} None (Some b) → ⊥
    no_place b q = cc

    by_block : (j : ℕ) → improving t ≡ Some j → (b : Block) → nearest (blocks t j) ≡ Some b → (is_own : Bool) → (b.variable == j) ≡ is_own → (next : List Place) → improved t (cond is_own (Flip j) (Leaves b.variable b.side j)) ≡ Some next → Turned system t next
    unfolding flipped_basis next
    by_block j chosen b first true e last moves = elim (found j chosen inside b first).0 [
      | inl m ↦ absurd (true≢false (sym m.basic ∙ ap (is_basic t.basis) (eqb→eq b.variable j (subst T (sym e) tt)) ∙ (heads t j chosen).nonbasic))
      | inr own ↦ subst (Turned system t) (some_place _ last moves) (flip_turned j chosen inside b first own)
    ]
    by_block j chosen b first false e last moves = elim (found j chosen inside b first).0 [
      | inl m ↦ subst (Turned system t) (some_place _ last moves) (leave_turned j chosen inside b first m)
      | inr own ↦ absurd (true≢false (sym (eq-eqb b.variable j own.is) ∙ e))
    ]

    by_nearest : (j : ℕ) → improving t ≡ Some j → (o : Option Block) → nearest (blocks t j) ≡ o → (next : List Place) → improved t (improvement_by j o) ≡ Some next → Turned system t next
    by_nearest j chosen None first next moves = absurd (no_place next moves)
    by_nearest j chosen (Some b) first next moves = by_block j chosen b first (b.variable == j) refl next moves

    by_improving : (o : Option ℕ) → improving t ≡ o → (next : List Place) → improved t (improvement_for t o) ≡ Some next → Turned system t next
    by_improving None chosen next moves = absurd (no_place next moves)
    by_improving (Some j) chosen next moves = by_nearest j chosen (nearest (blocks t j)) refl next moves

    pub turned : (next : List Place) → improved t (improve_choice t) ≡ Some next → Turned system t next
    turned next moves = by_improving (improving t) refl next moves
