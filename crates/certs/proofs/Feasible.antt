-- Where no variable is outside its limits, the values at a tableau are a solution.
use Rattle.std.proofs.Common.{◌≡◌, ◌+◌, ◌-◌, ◌<◌, refl, sym, ◌∙◌, ap, subst, ℕ, zero, suc, Bool, true, false, true≢false, cond, ◌||◌, List, [], ◌∷◌, ◌++◌, map, length, get_or, Option, Some, None, IsSome, is_some, arith, inl, inr}
use Rattle.std.specs.Prelude.{All, IfSome, Contains, find}
use Rattle.std.proofs.lemmas.Bool.{cases_lt, cases_Bool, cond-true, cond-false, or_parts, lt-ltb, le-ltb}
use Rattle.std.proofs.lemmas.List.{get_or_append_left, get_or-append_right, get_or-map, length-map}
use Rattle.std.proofs.lemmas.List.Elements.{All-nil, All-cons, All-get_or, All-contains, Contains-push, Contains-append_left}
use Rattle.rational.specs.Rational.{ℚ, ◌*ℚ◌, ◌≤ℚ◌}
use Rattle.rational.proofs.Order.{le_refl_ℚ, lt_q-false}
use Rattle.lp_model.specs.declared.members.Side.{Side}
use Rattle.lp_model.specs.declared.members.Side.TheVariants.{Lo, Up}
use Rattle.certs.specs.Combination.{number_or_zero}
use Rattle.certs.specs.System.{Limits, LinearSystem, no_limits, empty_system_row, Place, is_basic, variable_limits}
use Rattle.certs.specs.System.Place.{Basic, AtLower, AtUpper, AtZero}
use Rattle.certs.specs.Tableau.{Tableau, all_limits, below, IsPlaced, limits_at, place_of, place_value, value_at_place, basic_value, value_of, Solves, IsTableauOf, IsWellFormedSystem}
use Rattle.certs.specs.Turns.{Choice, choice_at, choice_for, exchange_or_blocked, entering, is_outside, is_over, is_under, limited, limited_basics, missed_by, settle_choice}
use Rattle.certs.specs.Turns.Choice.{Settled, Blocked, Exchange}
use Rattle.certs.specs.Ended.{IsWithin, IsSolution, FeasibleLaw}
use Rattle.certs.proofs.Tableaus.{place_basic, sum_nonbasic}
use Rattle.certs.proofs.Starts.{length_limits}

-- ---- no variable is outside
is_settled : Choice → Bool
is_settled Settled = true
is_settled (Blocked i s) = false
is_settled (Exchange i s j) = false

exchange_not : (i : ℕ) (s : Side) (o : Option ℕ) → is_settled (exchange_or_blocked i s o) ≡ false
unfolding is_settled
exchange_not i s None = refl
exchange_not i s (Some j) = refl

found_passes : (p : ℕ → Bool) (xs : List ℕ) (v : ℕ) → find p xs ≡ Some v → p v ≡ true
found_passes p [] v e = absurd (none v e)
  where
    none : (v : ℕ) → ◌≡◌ {A = Option ℕ} None (Some v) → ⊥
    none v q = cc
found_passes p (x ∷ xs) v e = by (found_passes p xs v) (p x) refl e
  where
    same : (a b : ℕ) → ◌≡◌ {A = Option ℕ} (Some a) (Some b) → a ≡ b
    same a b q = cc

    by : (find p xs ≡ Some v → p v ≡ true) → (b : Bool) → p x ≡ b → cond b (Some x) (find p xs) ≡ Some v → p v ≡ true
    by rest true t q = subst (λ z. p z ≡ true) (same x v q) t
    by rest false t q = rest q

pub none_passes : (p : ℕ → Bool) (xs : List ℕ) → find p xs ≡ None → All (λ k. p k ≡ false) xs
none_passes p [] e = All-nil (λ k. p k ≡ false)
none_passes p (x ∷ xs) e = by (none_passes p xs) (p x) refl e
  where
    some : (a : ℕ) → ◌≡◌ {A = Option ℕ} (Some a) None → ⊥
    some a q = cc

    by : (find p xs ≡ None → All (λ k. p k ≡ false) xs) → (b : Bool) → p x ≡ b → cond b (Some x) (find p xs) ≡ None → All (λ k. p k ≡ false) (x ∷ xs)
    by rest true t q = absurd (some x q)
    by rest false t q = All-cons (λ k. p k ≡ false) x xs t (rest q)

none_outside : (t : Tableau) → settle_choice t ≡ Settled → find (is_outside t) (limited_basics t) ≡ None
unfolding is_settled
none_outside t e = by (find (is_outside t) (limited_basics t)) refl e
  where
    by_side : (a : ℕ) (o : Option Side) → is_outside t a ≡ true → missed_by t a ≡ o → choice_for t a o ≡ Settled → ⊥
    by_side a (Some s) out m q = true≢false (sym (ap is_settled q) ∙ exchange_not a s (entering t s a))
    by_side a None out m q = tests (is_under (limits_at t a).lower (basic_value t a)) (is_over (limits_at t a).upper (basic_value t a)) out m
      where
        some : (s : Side) → ◌≡◌ {A = Option Side} (Some s) None → ⊥
        some s q = cc

        tests : (x y : Bool) → (x || y) ≡ true → cond x (Some Lo) (cond y (Some Up) None) ≡ None → ⊥
        tests true y h k = some Lo k
        tests false true h k = some Up k
        tests false false h k = true≢false (sym h)

    by : (o : Option ℕ) → find (is_outside t) (limited_basics t) ≡ o → choice_at t o ≡ Settled → find (is_outside t) (limited_basics t) ≡ None
    by None f q = f
    by (Some a) f q = absurd (by_side a (missed_by t a) (found_passes (is_outside t) (limited_basics t) a f) refl q)

-- and so each limited basic variable is inside
pub inside_of : (t : Tableau) → settle_choice t ≡ Settled → All (λ k. is_outside t k ≡ false) (limited_basics t)
inside_of t e = none_passes (is_outside t) (limited_basics t) (none_outside t e)

pub listed : (test : ℕ → Bool) (n k : ℕ) → k < n → test k ≡ true → Contains (below n test) k
listed test zero k l e = absurd (omega arith)
listed test (suc n) k l e =
    elim (cases_lt k n) [
      | inl d ↦ Contains-append_left (below n test) (cond (test n) (n ∷ []) []) k (listed test n k d e)
      | inr d ↦
          (let q : k ≡ n = omega arith in
          subst (λ z. Contains (below n test ++ cond (test n) (n ∷ []) []) z) (sym q) (subst (λ b. Contains (below n test ++ cond b (n ∷ []) []) n) (sym (ap test (sym q) ∙ e)) (Contains-push (below n test) n)))
    ]

-- ---- within the limits
pub not_under : (o : Option ℚ) (v : ℚ) → is_under o v ≡ false → IfSome o (λ l. l ≤ℚ v)
not_under None v e = tt
not_under (Some b) v e = lt_q-false v b e

pub not_over : (o : Option ℚ) (v : ℚ) → is_over o v ≡ false → IfSome o (λ u. v ≤ℚ u)
not_over None v e = tt
not_over (Some b) v e = lt_q-false b v e

Ordered : Limits → Type 0
Ordered limits = IfSome limits.lower (λ l. IfSome limits.upper (λ u. l ≤ℚ u))

placed_within : (limits : Limits) (p : Place) → IsPlaced limits p → place_basic p ≡ false → Ordered limits → IsWithin limits (value_at_place limits p)
unfolding place_basic Ordered
placed_within limits Basic h b o = absurd (true≢false b)
placed_within limits AtLower h b o = by limits.lower limits.upper h o
  where
    by : (l u : Option ℚ) → IsSome l → IfSome l (λ l. IfSome u (λ u. l ≤ℚ u)) → IsWithin (record { lower = l; upper = u }) (number_or_zero l)
    by None u h o = absurd (true≢false (sym h))
    by (Some a) None h o = record { lower = le_refl_ℚ a; upper = tt }
    by (Some a) (Some c) h o = record { lower = le_refl_ℚ a; upper = o }
placed_within limits AtUpper h b o = by limits.lower limits.upper h o
  where
    by : (l u : Option ℚ) → IsSome u → IfSome l (λ l. IfSome u (λ u. l ≤ℚ u)) → IsWithin (record { lower = l; upper = u }) (number_or_zero u)
    by l None h o = absurd (true≢false (sym h))
    by None (Some c) h o = record { lower = tt; upper = le_refl_ℚ c }
    by (Some a) (Some c) h o = record { lower = o; upper = le_refl_ℚ c }
placed_within limits AtZero h b o = by limits.lower limits.upper h.0 h.1
  where
    by : (l u : Option ℚ) → l ≡ None → u ≡ None → IsWithin (record { lower = l; upper = u }) (value_at_place limits AtZero)
    by l u e f = record { lower = subst (λ z. IfSome z (λ l. l ≤ℚ value_at_place limits AtZero)) (sym e) tt; upper = subst (λ z. IfSome z (λ u. value_at_place limits AtZero ≤ℚ u)) (sym f) tt }

module _ (system : LinearSystem) (t : Tableau) (of : IsTableauOf system t) where
  pub limits_are : (v : ℕ) → v < length system.columns + length system.rows → limits_at t v ≡ variable_limits system v
  limits_are v l =
      ap (λ z. get_or z v no_limits) of.limits
      ∙ elim (cases_lt v (length system.columns)) [
        | inl h ↦ (get_or_append_left system.columns _ no_limits v h ∙ ap (λ b. cond b (get_or system.columns v no_limits) (get_or system.rows (v - length system.columns) empty_system_row).limits) (sym (lt-ltb v (length system.columns) h)))
        | inr h ↦
            (let m : v - length system.columns < length system.rows = omega arith in
            get_or-append_right system.columns _ (length system.columns) v no_limits refl h
            ∙ get_or_append_left (map (λ r. r.limits) system.rows) _ no_limits (v - length system.columns) (subst (λ n. v - length system.columns < n) (sym (length-map system.rows (λ r. r.limits))) m)
            ∙ get_or-map (λ r. r.limits) system.rows (v - length system.columns) empty_system_row no_limits m
            ∙ ap (λ b. cond b (get_or system.columns v no_limits) (get_or system.rows (v - length system.columns) empty_system_row).limits) (sym (le-ltb v (length system.columns) h)))
      ]

  pub limited_is : limited t ≡ length system.columns + length system.rows
  limited_is = by (is_some system.objective) refl
    where
      by : (b : Bool) → is_some system.objective ≡ b → limited t ≡ length system.columns + length system.rows
      by true e = ap (λ z. cond z (length t.basis - 1) (length t.basis)) (of.objective ∙ e) ∙ ap (λ z. z - 1) (of.size ∙ ap (λ z. length system.columns + length system.rows + cond z 1 0) e) ∙ (let q : length system.columns + length system.rows + 1 - 1 ≡ length system.columns + length system.rows = omega arith in q)
      by false e = ap (λ z. cond z (length t.basis - 1) (length t.basis)) (of.objective ∙ e) ∙ of.size ∙ ap (λ z. length system.columns + length system.rows + cond z 1 0) e ∙ (let q : length system.columns + length system.rows + 0 ≡ length system.columns + length system.rows = omega arith in q)

module _ (system : LinearSystem) (t : Tableau) (formed : IsWellFormedSystem system) (of : IsTableauOf system t) where
  -- the values solve the table
  pub solves : Solves t (value_of t)
  solves i b =
      cond-true (is_basic t.basis i) (basic_value t i) (place_value t i) b
      ∙ sum_nonbasic t.basis (λ k. t.factor i k *ℚ place_value t k) (λ k. t.factor i k *ℚ value_of t k) (λ k l n. ap (λ z. t.factor i k *ℚ z) (sym (cond-false (is_basic t.basis k) (basic_value t k) (place_value t k) n)))

  ordered_at : (v : ℕ) → v < length system.columns + length system.rows → Ordered (limits_at t v)
  unfolding Ordered
  ordered_at v l =
      subst (λ z. IfSome (get_or z v no_limits).lower (λ a. IfSome (get_or z v no_limits).upper (λ c. a ≤ℚ c))) (sym of.limits)
      (All-get_or (λ limits. IfSome limits.lower (λ a. IfSome limits.upper (λ c. a ≤ℚ c))) (all_limits system) v no_limits (subst (λ n. v < n) (sym (length_limits system)) (omega arith)) formed.ordered)

  -- a nonbasic variable is within its limits
  pub placed_inside : (v : ℕ) → v < length system.columns + length system.rows → is_basic t.basis v ≡ false → IsWithin (limits_at t v) (place_value t v)
  unfolding place_basic
  placed_inside v l b = placed_within (limits_at t v) (place_of t v) (of.placed v) b (ordered_at v l)

module _ (system : LinearSystem) (t : Tableau) (formed : IsWellFormedSystem system) (of : IsTableauOf system t) (settled : settle_choice t ≡ Settled) where
  within : (v : ℕ) → v < length system.columns + length system.rows → IsWithin (limits_at t v) (value_of t v)
  within v l =
      elim (cases_Bool (is_basic t.basis v)) [
        | inl b ↦
            (let out : is_outside t v ≡ false = All-contains (λ k. is_outside t k ≡ false) (limited_basics t) v (none_passes (is_outside t) (limited_basics t) (none_outside t settled)) (listed (is_basic t.basis) (limited t) v (subst (λ n. v < n) (sym (limited_is system t of)) l) b) in
            let parts = or_parts (is_under (limits_at t v).lower (basic_value t v)) (is_over (limits_at t v).upper (basic_value t v)) out in
            subst (IsWithin (limits_at t v)) (sym (cond-true (is_basic t.basis v) (basic_value t v) (place_value t v) b))
            (record { lower = not_under (limits_at t v).lower (basic_value t v) parts.0; upper = not_over (limits_at t v).upper (basic_value t v) parts.1 }))
        | inr b ↦
            subst (IsWithin (limits_at t v)) (sym (cond-false (is_basic t.basis v) (basic_value t v) (place_value t v) b))
            (placed_inside system t formed of v l b)
      ]

  pub solution_of : IsSolution system (value_of t)
  solution_of = record {
    rows = (of.table (value_of t)).1 (solves system t formed of);
    limits = λ v l. subst (λ z. IsWithin z (value_of t v)) (limits_are system t of v l) (within v l);
  }

pub feasible_law : FeasibleLaw
feasible_law system t formed of settled = solution_of system t formed of settled
