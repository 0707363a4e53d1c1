-- What the tests of a system find.
use Rattle.std.proofs.Common.{◌≡◌, ◌≢◌, ◌+◌, ◌<◌, ◌≤◌, ◌^◌, refl, sym, ◌∙◌, ap, subst, ℕ, suc, Bool, true, false, true≢false, ◌&&◌, not, List, [], ◌∷◌, length, drop, take, get_or, map, cond, nat_lt, arith, Option, Some, None, is_some}
use Rattle.std.specs.Prelude.{All, AllPairs, IfSome}
use Rattle.std.proofs.lemmas.Bool.{and_parts, and_from, not-true, not_from_false, ltb-true, ltb-false, lt-ltb, le-ltb, false_from_ne_true}
use Rattle.std.proofs.lemmas.List.{at_drop_more, take_all, length-map, get_or-map}
use Rattle.std.proofs.lemmas.List.Elements.{All-nil, All-cons, All-head, All-tail, All-weaker, All-append, All-map}
use Rattle.std.proofs.lemmas.List.Kept.{AllPairs-cons}
use Rattle.rational.specs.Rational.{ℚ, zero_ℚ, eq_ℚ, lt_q, ◌≤ℚ◌}
use Rattle.rational.specs.Linear.{Term}
use Rattle.rational.proofs.Compare.{eq-Decides, lt_q-Decides}
use Rattle.rational.proofs.Order.{lt_q-false, lt-le_clash_ℚ}
use Rattle.lp_model.specs.declared.parts.Row.{Row}
use Rattle.lp_model.specs.Program.{IsForm}
use Rattle.certs.specs.Rows.{row_of}
use Rattle.certs.specs.System.{Limits, SystemRow, LinearSystem, no_limits}
use Rattle.certs.specs.Tableau.{IsWellFormedSystem}
use Rattle.certs.specs.Checks.{every}
use Rattle.certs.proofs.Evaluate.{every_all}
use Rattle.certs.proofs.Refused.{every_passes}
use Rattle.certs.proofs.Lists.{all_front, all_back}
use Rattle.dictionary.specs.Starts.{FitForm, FitLimits, FitSystem}
use Rattle.dictionary.specs.Forming.{follows, ascends, in_order, uncrossed, passes}

-- ---- forms
next_is : (n least : ℕ) (t : Term) → follows n least t ≡ true → (least ≤ t.column) × ((t.column < n) × (t.factor ≢ zero_ℚ))
next_is n least t h =
    let p = and_parts (not (nat_lt t.column least)) (nat_lt t.column n && not (eq_ℚ t.factor zero_ℚ)) h in
    let q = and_parts (nat_lt t.column n) (not (eq_ℚ t.factor zero_ℚ)) p.1 in
    (ltb-false t.column least (not-true _ p.0), (ltb-true t.column n q.0, λ z. true≢false (sym ((eq-Decides t.factor zero_ℚ).1 z) ∙ not-true _ q.1)))

next_of : (n least : ℕ) (t : Term) → least ≤ t.column → t.column < n → t.factor ≢ zero_ℚ → follows n least t ≡ true
next_of n least t l k z =
    and_from (not (nat_lt t.column least)) _ (not_from_false _ (le-ltb t.column least l))
    (and_from (nat_lt t.column n) _ (lt-ltb t.column n k) (not_from_false _ (false_from_ne_true _ (λ e. z ((eq-Decides t.factor zero_ℚ).0 e)))))

no_pairs : AllPairs (λ (s t : Term). s.column < t.column) []
no_pairs i j d l m = absurd (omega arith)

pub form_is : (n least : ℕ) (ts : List Term) → ascends n least ts ≡ true → IsForm n ts × All (λ t. least ≤ t.column) ts
form_is n least [] h = (record { ascending = no_pairs; known = All-nil (λ (t : Term). t.column < n); nonzero = All-nil (λ (t : Term). t.factor ≢ zero_ℚ) }, All-nil (λ (t : Term). least ≤ t.column))
form_is n least (t ∷ ts) h =
    let p = and_parts (follows n least t) (ascends n (suc t.column) ts) h in
    let q = next_is n least t p.0 in
    let r = form_is n (suc t.column) ts p.1 in (
      record {
        ascending = AllPairs-cons (λ (s t : Term). s.column < t.column) t ts (All-weaker (λ (s : Term). suc t.column ≤ s.column) (λ (s : Term). t.column < s.column) (λ s l. omega (arith, l)) ts r.1) r.0.ascending;
        known = All-cons (λ (t : Term). t.column < n) t ts q.1.0 r.0.known;
        nonzero = All-cons (λ (t : Term). t.factor ≢ zero_ℚ) t ts q.1.1 r.0.nonzero;
      },
      All-cons (λ (t : Term). least ≤ t.column) t ts q.0 (All-weaker (λ (s : Term). suc t.column ≤ s.column) (λ (s : Term). least ≤ s.column) (λ s l. omega (arith, l, q.0)) ts r.1),
    )

pub form_ascends : (n least : ℕ) (ts : List Term) → IsForm n ts → All (λ t. least ≤ t.column) ts → ascends n least ts ≡ true
form_ascends n least [] f h = refl
form_ascends n least (t ∷ ts) f h =
    and_from (follows n least t) (ascends n (suc t.column) ts)
    (next_of n least t (All-head (λ (t : Term). least ≤ t.column) t ts h) (All-head (λ (t : Term). t.column < n) t ts f.known) (All-head (λ (t : Term). t.factor ≢ zero_ℚ) t ts f.nonzero))
    (form_ascends n (suc t.column) ts
    (record {
      ascending = λ i j d l m. f.ascending (suc i) (suc j) d (omega (arith, l)) (omega (arith, m));
      known = All-tail (λ (t : Term). t.column < n) t ts f.known;
      nonzero = All-tail (λ (t : Term). t.factor ≢ zero_ℚ) t ts f.nonzero;
    })
    (λ k d l. let e : t.column < _ = f.ascending 0 (suc k) d (omega arith) (omega (arith, l)) in omega (arith, e)))

pub any_form : (n : ℕ) (ts : List Term) → IsForm n ts → ascends n 0 ts ≡ true
any_form n ts f = form_ascends n 0 ts f (λ k d l. omega arith)

pub ascends_step : (n least : ℕ) (ts : List Term) (i : ℕ) (t : Term) → i < length ts → t ≡ get_or ts i t → follows n least t ≡ true → ascends n (t.column + 1) (drop (i + 1) ts) ≡ ascends n least (drop i ts)
ascends_step n least ts i t l is h =
    sym
    (at_drop_more (ascends n least) ts i t l
    ∙ ap (λ z. ascends n least (z ∷ drop (i + 1) ts)) (sym is)
    ∙ ap (λ b. b && ascends n (suc t.column) (drop (i + 1) ts)) h
    ∙ ap (λ k. ascends n k (drop (i + 1) ts)) (let e : suc t.column ≡ t.column + 1 = omega arith in e))

pub every_step : {X : Type 0} (test : X → Bool) (xs : List X) (i : ℕ) (x : X) → i < length xs → x ≡ get_or xs i x → test x ≡ true → every test (drop (i + 1) xs) ≡ every test (drop i xs)
every_step test xs i x l is h = sym (at_drop_more (every test) xs i x l ∙ ap (λ b. b && every test (drop (i + 1) xs)) (ap test (sym is) ∙ h))

pub every_item_fits : {X : Type 0} (P : X → Type 0) (xs : List X) (i : ℕ) → length xs ≤ i → All P (take i xs) → All P xs
every_item_fits P xs i l h = subst (All P) (take_all i xs l) h

-- what holds of each made thing holds of each it is made of
pub unmapped : {X Y : Type 0} (P : Y → Type 0) (f : X → Y) (xs : List X) → All P (map f xs) → All (λ x. P (f x)) xs
unmapped P f xs h k d l = subst P (get_or-map f xs k d (f d) l) (h k (f d) (subst (λ n. k < n) (sym (length-map xs f)) l))

-- ---- limits
abbrev pub IsOrdered : Limits → Type 0
IsOrdered limits = IfSome limits.lower (λ l. IfSome limits.upper (λ u. l ≤ℚ u))

in_order_is : (lower upper : Option ℚ) → in_order lower upper ≡ true → IfSome lower (λ l. IfSome upper (λ u. l ≤ℚ u))
in_order_is None upper h = tt
in_order_is (Some l) None h = tt
in_order_is (Some l) (Some u) h = lt_q-false u l (not-true _ h)

in_order_of : (lower upper : Option ℚ) → IfSome lower (λ l. IfSome upper (λ u. l ≤ℚ u)) → in_order lower upper ≡ true
in_order_of None upper h = refl
in_order_of (Some l) None h = refl
in_order_of (Some l) (Some u) h = not_from_false _ (false_from_ne_true _ (λ e. lt-le_clash_ℚ ((lt_q-Decides u l).0 e) h))

pub both_there : (lower upper : Option ℚ) (l u : ℚ) → lower ≡ Some l → upper ≡ Some u → not (lt_q u l) ≡ in_order lower upper
both_there lower upper l u e f = sym (ap (λ z. in_order z upper) e ∙ ap (in_order (Some l)) f)

-- ---- systems
pub every_map : {X Y : Type 0} (test : Y → Bool) (f : X → Y) (xs : List X) → every test (map f xs) ≡ every (λ x. test (f x)) xs
every_map test f [] = refl
every_map test f (x ∷ xs) = ap (λ b. test (f x) && b) (every_map test f xs)

abbrev pub Ascends : ℕ → Option (List Term) → Type 0
Ascends n objective = IfSome objective (λ terms. ascends n 0 terms ≡ true)

objective_is : (n : ℕ) (o : Option (List Term)) → Ascends n o → IfSome o (IsForm n)
objective_is n None h = tt
objective_is n (Some terms) h = (form_is n 0 terms h).0

objective_of : (n : ℕ) (o : Option (List Term)) → IfSome o (IsForm n) → Ascends n o
objective_of n None h = tt
objective_of n (Some terms) h = any_form n terms h

none_crossed : (b : Bool) → All IsOrdered (cond b (no_limits ∷ []) [])
none_crossed true = All-cons IsOrdered no_limits [] tt (All-nil IsOrdered)
none_crossed false = All-nil IsOrdered

module _ (system : LinearSystem) where
  pub well_formed : every uncrossed system.columns ≡ true → every (passes (length system.columns)) system.rows ≡ true → Ascends (length system.columns) system.objective → IsWellFormedSystem system
  well_formed columns rows objective =
      let n = length system.columns in
      let parts : (r : SystemRow) → passes n r ≡ true → (uncrossed r.limits ≡ true) × (ascends n 0 r.terms ≡ true) = λ r e. and_parts (uncrossed r.limits) (ascends n 0 r.terms) e in
      record {
        rows = every_all (passes n) (λ r. IsForm n r.terms) (λ r e. (form_is n 0 r.terms (parts r e).1).0) system.rows rows;
        objective = objective_is n system.objective objective;
        ordered =
            All-append IsOrdered system.columns _ (every_all uncrossed IsOrdered (λ l e. in_order_is l.lower l.upper e) system.columns columns)
            (All-append IsOrdered (map (λ (r : SystemRow). r.limits) system.rows) _
            (All-map IsOrdered (λ (r : SystemRow). r.limits) system.rows (every_all (passes n) (λ (r : SystemRow). IsOrdered r.limits) (λ r e. in_order_is r.limits.lower r.limits.upper (parts r e).0) system.rows rows))
            (none_crossed (is_some system.objective)));
      }

  pub columns_pass : IsWellFormedSystem system → every uncrossed system.columns ≡ true
  columns_pass formed = every_passes uncrossed IsOrdered (λ l e. in_order_of l.lower l.upper e) system.columns (all_front IsOrdered system.columns _ formed.ordered)

  rows_ordered : IsWellFormedSystem system → All (λ (r : SystemRow). IsOrdered r.limits) system.rows
  rows_ordered formed = unmapped IsOrdered (λ (r : SystemRow). r.limits) system.rows (all_front IsOrdered (map (λ (r : SystemRow). r.limits) system.rows) _ (all_back IsOrdered system.columns _ formed.ordered))

  pub rows_pass : IsWellFormedSystem system → every (passes (length system.columns)) system.rows ≡ true
  rows_pass formed = by system.rows formed.rows (rows_ordered formed)
    where
      by : (rows : List SystemRow) → All (λ r. IsForm (length system.columns) r.terms) rows → All (λ (r : SystemRow). IsOrdered r.limits) rows → every (passes (length system.columns)) rows ≡ true
      by [] f h = refl
      by (r ∷ rows) f h =
          and_from (passes (length system.columns) r) _
          (and_from (uncrossed r.limits) _ (in_order_of r.limits.lower r.limits.upper (All-head (λ (r : SystemRow). IsOrdered r.limits) r rows h)) (any_form (length system.columns) r.terms (All-head (λ (r : SystemRow). IsForm (length system.columns) r.terms) r rows f)))
          (by rows (All-tail (λ (r : SystemRow). IsForm (length system.columns) r.terms) r rows f) (All-tail (λ (r : SystemRow). IsOrdered r.limits) r rows h))

  pub objective_passes : IsWellFormedSystem system → Ascends (length system.columns) system.objective
  objective_passes formed = objective_of (length system.columns) system.objective formed.objective

-- ---- in code
module _ (columns : List Limits) (rows : List Row) (objective : Option (List Term)) where
  abbrev pub seen : LinearSystem
  seen = record { columns = columns; rows = map row_of rows; objective = objective }

  rows_seen : (n : ℕ) → every (λ (r : Row). passes n (row_of r)) rows ≡ every (passes n) (map row_of rows)
  rows_seen n = sym (every_map (passes n) row_of rows)

  pub formed_by : (n : ℕ) → n ≡ length columns → every uncrossed columns ≡ true → every (λ (r : Row). passes n (row_of r)) rows ≡ true → Ascends n objective → IsWellFormedSystem seen
  formed_by n e h k o = well_formed seen h (subst (λ n. every (passes n) (map row_of rows) ≡ true) e (sym (rows_seen n) ∙ k)) (subst (λ n. Ascends n objective) e o)

  pub rows_of : (n : ℕ) → n ≡ length columns → IsWellFormedSystem seen → every (λ (r : Row). passes n (row_of r)) rows ≡ true
  rows_of n e formed = rows_seen n ∙ subst (λ n. every (passes n) (map row_of rows) ≡ true) (sym e) (rows_pass seen formed)

  pub objective_passing : (n : ℕ) → n ≡ length columns → IsWellFormedSystem seen → Ascends n objective
  objective_passing n e formed = subst (λ n. Ascends n objective) (sym e) (objective_passes seen formed)

  pub fitting : (most n m : ℕ) (b : Bool) → n ≡ length columns → m ≡ length rows → b ≡ is_some objective → nat_lt (n + m + cond b 1 0) (2 ^ 31) ≡ true
      → All (FitLimits most) columns → All (λ (r : Row). FitLimits most (row_of r).limits) rows → All (λ (r : Row). FitForm most r.terms) rows → IfSome objective (FitForm most) → FitSystem most seen
  fitting most n m b e f g few columns_fit rows_fit forms_fit objective_fits = record {
    few =
        subst (λ z. z < 2 ^ 31) (ap (λ z. z + m + cond b 1 0) e ∙ ap (λ z. length columns + z + cond b 1 0) (f ∙ sym (length-map rows row_of)) ∙ ap (λ z. length columns + length (map row_of rows) + cond z 1 0) g)
        (ltb-true (n + m + cond b 1 0) (2 ^ 31) few);
    columns = columns_fit;
    row_limits = All-map (λ (r : SystemRow). FitLimits most r.limits) row_of rows rows_fit;
    row_forms = All-map (λ (r : SystemRow). FitForm most r.terms) row_of rows forms_fit;
    objective = objective_fits;
  }
