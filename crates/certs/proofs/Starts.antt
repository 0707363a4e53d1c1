-- The tableau at the start of a run is one of the system.
use Rattle.std.proofs.Common.{◌≡◌, ◌+◌, ◌-◌, ◌<◌, ◌≤◌, refl, sym, ◌∙◌, ap, subst, ℕ, zero, suc, Bool, true, false, true≢false, cond, not, List, [], ◌∷◌, ◌++◌, map, length, length-append, get_or, Option, None, Some, is_some, arith, inl, inr}
use Rattle.std.specs.Prelude.{All, IfSome}
use Rattle.std.proofs.lemmas.Bool.{cases_lt}
use Rattle.std.proofs.lemmas.List.{length-map, get_or-map, get_or_append_left, get_or-append_right, get_or_past}
use Rattle.std.proofs.lemmas.List.Elements.{All-get_or}
use Rattle.algebra.proofs.Ring.{x0, ◌:+◌, zero_of}
use Rattle.rational.specs.Rational.{ℚ, ◌+ℚ◌, ◌*ℚ◌, zero_ℚ}
use Rattle.rational.specs.Sum.{sum_over, sum_below}
use Rattle.rational.specs.Linear.{Term, Assignment, form_value, factor_of}
use Rattle.rational.proofs.Field.{ring_ℚ}
use Rattle.rational.proofs.Sums.{sum_below-ext, sum_below-zero, sum_below-split}
use Rattle.rational.proofs.Forms.{by_known}
use Rattle.lp_model.specs.Program.{IsForm}
use Rattle.certs.specs.System.{Limits, SystemRow, LinearSystem, no_limits, empty_system_row, KeepsRows, Place, is_basic}
use Rattle.certs.specs.System.Place.{Basic, AtLower, AtUpper, AtZero}
use Rattle.certs.specs.Tableau.{all_limits, nonbasics, row_value, Solves, limits_at, place_of, IsPlaced, IsTableauOf, start_place, start_basis, forms_of, start_forms, start_factor, start_tableau, IsWellFormedSystem, StartLaw}
use Rattle.certs.proofs.Tableaus.{sum_passing, place_basic}

-- ---- the basis
starts_nonbasic : (limits : Limits) → place_basic (start_place limits) ≡ false
unfolding place_basic
starts_nonbasic limits = by (is_some limits.lower) (is_some limits.upper)
  where
    by : (b c : Bool) → place_basic (cond b AtLower (cond c AtUpper AtZero)) ≡ false
    by true c = refl
    by false true = refl
    by false false = refl

-- a start limit is there
placed_start : (limits : Limits) → IsPlaced limits (start_place limits)
placed_start limits = by limits.lower limits.upper refl refl
  where
    by : (l u : Option ℚ) → limits.lower ≡ l → limits.upper ≡ u → IsPlaced limits (cond (is_some l) AtLower (cond (is_some u) AtUpper AtZero))
    by (Some a) u e f = ap is_some e
    by None (Some b) e f = ap is_some f
    by None None e f = (e, f)

module _ (system : LinearSystem) where
  abbrev pub n : ℕ
  n = length system.columns

  abbrev pub m : ℕ
  m = length system.rows

  abbrev pub o : ℕ
  o = cond (is_some system.objective) 1 0

  -- the basic part
  abbrev pub tail : List Place
  tail = map (λ r. Basic) system.rows ++ cond (is_some system.objective) (Basic ∷ []) []

  length_cond : (b : Bool) → length (cond b (Basic ∷ []) []) ≡ cond b 1 0
  length_cond true = refl
  length_cond false = refl

  pub length_tail : length tail ≡ m + o
  length_tail = length-append (map (λ r. Basic) system.rows) (cond (is_some system.objective) (Basic ∷ []) []) ∙ (let a : length (map (λ (r : SystemRow). Basic) system.rows) ≡ m = length-map system.rows (λ r. Basic) in let b = length_cond (is_some system.objective) in ap (λ z. z + length (cond (is_some system.objective) (Basic ∷ []) [])) a ∙ ap (λ z. m + z) b)

  pub length_start : length (start_basis system) ≡ n + (m + o)
  length_start = length-append (map (λ limits. start_place limits) system.columns) tail ∙ ap (λ z. z + length tail) (length-map system.columns (λ limits. start_place limits)) ∙ ap (λ z. n + z) length_tail

  first_columns : length (map (λ limits. start_place limits) system.columns) ≡ n
  first_columns = length-map system.columns (λ limits. start_place limits)

  -- a column is not basic
  column_place : (k : ℕ) → k < n → get_or (start_basis system) k AtZero ≡ start_place (get_or system.columns k no_limits)
  column_place k l =
      get_or_append_left (map (λ limits. start_place limits) system.columns) tail AtZero k (subst (λ z. k < z) (sym first_columns) l)
      ∙ get_or-map (λ limits. start_place limits) system.columns k no_limits AtZero l

  pub column_nonbasic : (k : ℕ) → k < n → is_basic (start_basis system) k ≡ false
  unfolding place_basic
  column_nonbasic k l = ap place_basic (column_place k l) ∙ starts_nonbasic (get_or system.columns k no_limits)

  all_basic : (rows : List SystemRow) (b : Bool) (d : ℕ) → d < length rows + cond b 1 0 → get_or (map (λ (r : SystemRow). Basic) rows ++ cond b (Basic ∷ []) []) d AtZero ≡ Basic
  all_basic [] true zero l = refl
  all_basic [] true (suc d) l = absurd (omega arith)
  all_basic [] false d l = absurd (omega arith)
  all_basic (r ∷ rows) b zero l = refl
  all_basic (r ∷ rows) b (suc d) l = all_basic rows b d (omega arith)

  -- the others are
  row_place : (v : ℕ) → n ≤ v → v < n + (m + o) → get_or (start_basis system) v AtZero ≡ Basic
  row_place v h l =
      get_or-append_right (map (λ limits. start_place limits) system.columns) tail n v AtZero first_columns h
      ∙ all_basic system.rows (is_some system.objective) (v - n) (omega arith)

  pub row_basic : (v : ℕ) → n ≤ v → v < n + (m + o) → is_basic (start_basis system) v ≡ true
  unfolding place_basic
  row_basic v h l = ap place_basic (row_place v h l)

  -- a sum over the nonbasic variables is one over the columns
  pub start_sum : (g : ℕ → ℚ) → sum_over g (nonbasics (start_basis system)) ≡ sum_below n g
  start_sum g =
      let h : ℕ → ℚ = λ k. cond (not (is_basic (start_basis system) k)) (g k) zero_ℚ in
      sum_passing g (length (start_basis system)) (λ k. not (is_basic (start_basis system) k))
      ∙ ap (λ z. sum_below z h) length_start
      ∙ sum_below-split n (m + o) h
      ∙ ap (λ z. z +ℚ sum_below (m + o) (λ d. h (n + d))) (sum_below-ext n h g (λ k l. ap (λ t. cond (not t) (g k) zero_ℚ) (column_nonbasic k l)))
      ∙ ap (λ z. sum_below n g +ℚ z) (sum_below-ext (m + o) (λ d. h (n + d)) (λ d. zero_ℚ) (λ d l. ap (λ t. cond (not t) (g (n + d)) zero_ℚ) (row_basic (n + d) (omega arith) (omega arith))) ∙ sum_below-zero (m + o))
      ∙ ring_ℚ (sum_below n g ∷ []) (x0 :+ zero_of) x0 tt

  -- ---- the limits
  count : (b : Bool) → length (cond b (no_limits ∷ []) []) ≡ cond b 1 0
  count true = refl
  count false = refl

  pub length_limits : length (all_limits system) ≡ n + (m + o)
  length_limits =
      length-append system.columns (map (λ r. r.limits) system.rows ++ cond (is_some system.objective) (no_limits ∷ []) [])
      ∙ ap (λ z. n + z) (length-append (map (λ r. r.limits) system.rows) (cond (is_some system.objective) (no_limits ∷ []) []) ∙ ap (λ z. z + length (cond (is_some system.objective) (no_limits ∷ []) [])) (length-map system.rows (λ r. r.limits)) ∙ ap (λ z. m + z) (count (is_some system.objective)))

  -- the form of a row
  abbrev pub form_at : ℕ → List Term
  form_at d = get_or (start_forms system) d []

  pub form_row : (d : ℕ) → d < m → form_at d ≡ (get_or system.rows d empty_system_row).terms
  form_row d l =
      get_or_append_left (map (λ r. r.terms) system.rows) (forms_of system.objective) [] d (subst (λ z. d < z) (sym (length-map system.rows (λ r. r.terms))) l)
      ∙ get_or-map (λ r. r.terms) system.rows d empty_system_row [] l

  pub form_objective : (terms : List Term) → system.objective ≡ Some terms → form_at m ≡ terms
  form_objective terms e =
      get_or-append_right (map (λ r. r.terms) system.rows) (forms_of system.objective) m m [] (length-map system.rows (λ r. r.terms)) (omega arith)
      ∙ (let z : m - m ≡ 0 = omega arith in ap (λ d. get_or (forms_of system.objective) d []) z)
      ∙ ap (λ q. get_or (forms_of q) 0 []) e

  module _ (formed : IsWellFormedSystem system) where
    -- the table's row is the value of the form
    row_is : (d : ℕ) (x : Assignment) → All (λ t. t.column < n) (form_at d) → row_value (start_tableau system) (n + d) x ≡ form_value (form_at d) x
    row_is d x known =
        start_sum (λ k. start_factor system (n + d) k *ℚ x k)
        ∙ (let z : (n + d) - n ≡ d = omega arith in ap (λ e. sum_below n (λ k. factor_of (form_at e) k *ℚ x k)) z)
        ∙ sym (by_known n (form_at d) x known)

    row_known : (d : ℕ) → d < m → All (λ t. t.column < n) (form_at d)
    row_known d l = subst (λ f. All (λ (t : Term). t.column < n) f) (sym (form_row d l)) (All-get_or (λ r. IsForm n r.terms) system.rows d empty_system_row l formed.rows).known

    objective_known : (terms : List Term) → system.objective ≡ Some terms → All (λ t. t.column < n) (form_at m)
    objective_known terms e = subst (λ f. All (λ (t : Term). t.column < n) f) (sym (form_objective terms e)) (let f : IsForm n terms = subst (λ q. IfSome q (IsForm n)) e formed.objective in f.known)

    keeps : (x : Assignment) → Solves (start_tableau system) x → KeepsRows system x
    keeps x s = record {
      rows = λ i l. s (n + i) (row_basic (n + i) (omega arith) (omega arith)) ∙ row_is i x (row_known i l) ∙ ap (λ f. form_value f x) (form_row i l);
      objective = by system.objective refl;
    }
      where
        by : (q : Option (List Term)) → system.objective ≡ q → IfSome q (λ terms. x (n + m) ≡ form_value terms x)
        by None e = tt
        by (Some terms) e =
            let one : o ≡ 1 = ap (λ q. cond (is_some q) 1 0) e in
            s (n + m) (row_basic (n + m) (omega arith) (omega arith)) ∙ row_is m x (objective_known terms e) ∙ ap (λ f. form_value f x) (form_objective terms e)

    -- what is basic is past the columns
    basic_known : (v : ℕ) → is_basic (start_basis system) v ≡ true → (n ≤ v) × (v < n + (m + o))
    unfolding place_basic
    basic_known v b = (
      elim (cases_lt v n) [ inl h ↦ absurd (true≢false (sym b ∙ column_nonbasic v h)) | inr h ↦ h ],
      elim (cases_lt v (n + (m + o))) [ inl h ↦ h | inr h ↦ absurd (true≢false (sym b ∙ ap place_basic (get_or_past (start_basis system) v AtZero (subst (λ z. z ≤ v) (sym length_start) h)))) ],
    )

    solved : (x : Assignment) → KeepsRows system x → Solves (start_tableau system) x
    solved x k v b =
        let r : (n ≤ v) × (v < n + (m + o)) = basic_known v b in
        let e : n + (v - n) ≡ v = (let h = r.0 in omega arith) in
        elim (cases_lt (v - n) m) [
          | inl h ↦ subst (λ w. x w ≡ row_value (start_tableau system) w x) e (k.rows (v - n) h ∙ ap (λ f. form_value f x) (sym (form_row (v - n) h)) ∙ sym (row_is (v - n) x (row_known (v - n) h)))
          | inr h ↦ last system.objective refl v e h r.1
        ]
      where
        last : (q : Option (List Term)) → system.objective ≡ q → (v : ℕ) → n + (v - n) ≡ v → m ≤ v - n → v < n + (m + o) → x v ≡ row_value (start_tableau system) v x
        last None e v s h l = (let none : o ≡ 0 = ap (λ q. cond (is_some q) 1 0) e in absurd (omega arith))
        last (Some terms) e v s h l =
            let one : o ≡ 1 = ap (λ q. cond (is_some q) 1 0) e in
            let is : n + m ≡ v = omega arith in
            let z : x (n + m) ≡ form_value terms x = subst (λ q. IfSome q (λ terms. x (n + m) ≡ form_value terms x)) e k.objective in
            subst (λ w. x w ≡ row_value (start_tableau system) w x) is (z ∙ ap (λ f. form_value f x) (sym (form_objective terms e)) ∙ sym (row_is m x (objective_known terms e)))

    placed : (v : ℕ) → IsPlaced (limits_at (start_tableau system) v) (place_of (start_tableau system) v)
    placed v =
        elim (cases_lt v n) [
          | inl h ↦
              subst (λ p. IsPlaced (limits_at (start_tableau system) v) p) (sym (column_place v h))
              (subst (λ l. IsPlaced l (start_place (get_or system.columns v no_limits))) (sym (get_or_append_left system.columns _ no_limits v h)) (placed_start (get_or system.columns v no_limits)))
          | inr h ↦
              elim (cases_lt v (n + (m + o))) [
                | inl l ↦ subst (λ p. IsPlaced (limits_at (start_tableau system) v) p) (sym (row_place v h l)) tt
                | inr l ↦
                    subst (λ p. IsPlaced (limits_at (start_tableau system) v) p) (sym (get_or_past (start_basis system) v AtZero (subst (λ z. z ≤ v) (sym length_start) l)))
                    (subst (λ q. IsPlaced q AtZero) (sym (get_or_past (all_limits system) v no_limits (subst (λ z. z ≤ v) (sym length_limits) l))) (refl, refl))
              ]
        ]

    pub start_of : IsTableauOf system (start_tableau system)
    start_of = record {
      limits = refl;
      objective = refl;
      size = length_start ∙ (let e : n + (m + o) ≡ (n + m) + o = omega arith in e);
      objective_basic = λ some. (let one : o ≡ 1 = ap (λ b. cond b 1 0) some in row_basic (n + m) (omega arith) (omega arith));
      placed = placed;
      table = λ x. (λ k. solved x k, λ s. keeps x s);
    }

pub start_law : StartLaw
start_law system formed = start_of system formed
