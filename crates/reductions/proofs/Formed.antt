-- Systems stay formed and as large.
use Rattle.std.proofs.Common.{◌≡◌, ◌≢◌, refl, sym, ◌∙◌, ap, subst, ℕ, ◌<◌, zero, suc, Bool, true, false, cond, not, ◌==◌, List, [], ◌∷◌, ◌++◌, map, length, filter, Option, Some, None, arith, true≢false, inl, inr}
use Rattle.std.specs.Prelude.{All, IfSome, slice_set, nat_lt}
use Rattle.std.specs.Option.{option_map}
use Rattle.std.proofs.lemmas.Bool.{cases_lt, cond_both, ltb-true}
use Rattle.std.proofs.lemmas.List.{length-set, length-map, get_or_past}
use Rattle.std.proofs.lemmas.List.Elements.{All-nil, All-cons, All-append, All-set, All-map, All-filter, All-weaker, All-get_or, All-head}
use Rattle.std.proofs.lemmas.List.Kept.{AllPairs-cons, AllPairs-filter}
use Rattle.rational.specs.Rational.{ℚ, zero_ℚ, ◌-ℚ◌, ◌*ℚ◌, ◌/ℚ◌, eq_ℚ}
use Rattle.rational.specs.Linear.{Term, factor_of}
use Rattle.rational.proofs.Compare.{eq-Decides}
use Rattle.lp_model.specs.Program.{IsForm}
use Rattle.lp_model.specs.declared.members.Side.{Side}
use Rattle.certs.specs.System.{SystemRow, LinearSystem, empty_system_row}
use Rattle.reductions.specs.declared.steps.Step.{Step}
use Rattle.reductions.specs.declared.steps.Step.TheVariants.{Empty, Singleton, Fixed, Redundant, Forcing, Doubleton}
use Rattle.reductions.specs.declared.steps.Doubleton.{Doubleton as Pair}
use Rattle.reductions.specs.Laws.{IsFormed, IsAsLarge}
use Rattle.reductions.specs.Limited.{opposite, taken_value}
use Rattle.reductions.specs.Reduction.{without_column, term_of, with_factor, fixed_row, forced_limits, pair_terms, pair_row, reduced_by, removed_row, left_without, after_step}
use Rattle.reductions.specs.Stage.{Stage, row_in, without_row, with_limits}
use Rattle.reductions.proofs.Origins.{Origin}

-- ---- forms
-- the terms that pass
pub form_filter : (n : ℕ) (p : Term → Bool) (terms : List Term) → IsForm n terms → IsForm n (filter p terms)
form_filter n p terms f = record {
  ascending = AllPairs-filter (λ s t. s.column < t.column) p terms f.ascending;
  known = All-filter p (λ t. t.column < n) terms f.known;
  nonzero = All-filter p (λ t. t.factor ≢ zero_ℚ) terms f.nonzero;
}

pub form_nil : (n : ℕ) → IsForm n []
form_nil n = record {
  ascending = λ i j d l m. absurd (omega arith);
  known = All-nil (λ t. t.column < n);
  nonzero = All-nil (λ t. t.factor ≢ zero_ℚ);
}

-- two forms, the columns of the first below all of the second
pub form_append : (n : ℕ) (xs ys : List Term) → IsForm n xs → IsForm n ys → All (λ x. All (λ (y : Term). x.column < y.column) ys) xs → IsForm n (xs ++ ys)
form_append n [] ys f g apart = g
form_append n (x ∷ xs) ys f g apart =
    let tail : IsForm n xs = record {
      ascending = λ i j d l m. f.ascending (suc i) (suc j) d (omega arith) (omega arith);
      known = λ k d l. f.known (suc k) d (omega arith);
      nonzero = λ k d l. f.nonzero (suc k) d (omega arith);
    } in
    let rest = form_append n xs ys tail g (λ k d l. apart (suc k) d (omega arith)) in
    let head : All (λ (y : Term). x.column < y.column) (xs ++ ys) =
    All-append (λ (y : Term). x.column < y.column) xs ys (λ k d l. f.ascending zero (suc k) d (omega arith) (omega arith)) (apart zero x (omega arith)) in
    record {
      ascending = AllPairs-cons (λ s t. s.column < t.column) x (xs ++ ys) head rest.ascending;
      known = All-cons (λ t. t.column < n) x (xs ++ ys) (f.known zero x (omega arith)) rest.known;
      nonzero = All-cons (λ t. t.factor ≢ zero_ℚ) x (xs ++ ys) (f.nonzero zero x (omega arith)) rest.nonzero;
    }

-- a term of its own
pub form_term : (n j : ℕ) (q : ℚ) → j < n → IsForm n (term_of j q)
form_term n j q l = by (eq_ℚ q zero_ℚ) refl
  where
    by : (b : Bool) → eq_ℚ q zero_ℚ ≡ b → IsForm n (cond b [] (record { column = j; factor = q } ∷ []))
    by true e = form_nil n
    by false e =
        let t : Term = record { column = j; factor = q } in
        record {
          ascending = λ i k d low m. absurd (omega arith);
          known = All-cons (λ t. t.column < n) t [] l (All-nil (λ t. t.column < n));
          nonzero = All-cons (λ t. t.factor ≢ zero_ℚ) t [] (λ z. true≢false (sym ((eq-Decides q zero_ℚ).1 z) ∙ e)) (All-nil (λ t. t.factor ≢ zero_ℚ));
        }

-- what passes, passes
pub passes : (p : Term → Bool) (terms : List Term) → All (λ t. p t ≡ true) (filter p terms)
passes p [] = All-nil (λ t. p t ≡ true)
passes p (t ∷ terms) = by (p t) refl (passes p terms)
  where
    by : (b : Bool) → p t ≡ b → All (λ t. p t ≡ true) (filter p terms) → All (λ t. p t ≡ true) (cond b (t ∷ filter p terms) (filter p terms))
    by true e rest = All-cons (λ t. p t ≡ true) t (filter p terms) e rest
    by false e rest = rest

-- the term of a column
pub all_term : (P : Term → Type 0) (j : ℕ) (q : ℚ) → P (record { column = j; factor = q }) → All P (term_of j q)
all_term P j q p = cond_both (eq_ℚ q zero_ℚ) [] (record { column = j; factor = q } ∷ []) (All P) (λ e. All-nil P) (λ e. All-cons P (record { column = j; factor = q }) [] p (All-nil P))

-- with another factor of a column
pub form_with : (n j : ℕ) (q : ℚ) (terms : List Term) → j < n → IsForm n terms → IsForm n (with_factor j q terms)
form_with n j q terms l f =
    let low = filter (λ t. nat_lt t.column j) terms in
    let high = filter (λ t. nat_lt j t.column) terms in
    let below : All (λ (t : Term). t.column < j) low = All-weaker (λ t. nat_lt t.column j ≡ true) (λ t. t.column < j) (λ (t : Term) (e : nat_lt t.column j ≡ true). ltb-true t.column j e) low (passes (λ t. nat_lt t.column j) terms) in
    let above : All (λ (t : Term). j < t.column) high = All-weaker (λ t. nat_lt j t.column ≡ true) (λ t. j < t.column) (λ (t : Term) (e : nat_lt j t.column ≡ true). ltb-true j t.column e) high (passes (λ t. nat_lt j t.column) terms) in
    form_append n low (term_of j q ++ high) (form_filter n (λ t. nat_lt t.column j) terms f)
    (form_append n (term_of j q) high (form_term n j q l) (form_filter n (λ t. nat_lt j t.column) terms f)
    (all_term (λ x. All (λ (y : Term). x.column < y.column) high) j q above))
    (All-weaker (λ (t : Term). t.column < j) (λ x. All (λ (y : Term). x.column < y.column) (term_of j q ++ high))
    (λ x s. All-append (λ (y : Term). x.column < y.column) (term_of j q) high
    (all_term (λ (y : Term). x.column < y.column) j q s)
    (All-weaker (λ (t : Term). j < t.column) (λ (y : Term). x.column < y.column) (λ y m. omega arith) high above)) low below)

-- ---- forms after a step
-- a row of a formed system, also one past the last
pub row_form : (system : LinearSystem) (i : ℕ) → IsFormed system → IsForm (length system.columns) (row_in system i).terms
row_form system i formed =
    elim (cases_lt i (length system.rows)) [
      | inl l ↦ All-get_or (λ r. IsForm (length system.columns) r.terms) system.rows i empty_system_row l formed.rows
      | inr l ↦ subst (λ (r : SystemRow). IsForm (length system.columns) r.terms) (sym (get_or_past system.rows i empty_system_row l)) (form_nil (length system.columns))
    ]

-- the objective
abbrev IsFormOf : ℕ → Option (List Term) → Type 0
IsFormOf n objective = IfSome objective (IsForm n)

mapped_objective : (n : ℕ) (f : List Term → List Term) (objective : Option (List Term)) → ((terms : List Term) → IsForm n terms → IsForm n (f terms)) → IsFormOf n objective → IsFormOf n (option_map f objective)
mapped_objective n f None g h = tt
mapped_objective n f (Some terms) g h = g terms h

-- the rows of a system
abbrev AreForms : ℕ → List SystemRow → Type 0
AreForms n rows = All (λ r. IsForm n r.terms) rows

mapped_rows : (n : ℕ) (f : SystemRow → SystemRow) (rows : List SystemRow) → ((r : SystemRow) → IsForm n r.terms → IsForm n (f r).terms) → AreForms n rows → AreForms n (map f rows)
mapped_rows n f rows g h = All-map (λ r. IsForm n r.terms) f rows (All-weaker (λ r. IsForm n r.terms) (λ r. IsForm n (f r).terms) g rows h)

without_row_forms : (n i : ℕ) (rows : List SystemRow) → AreForms n rows → AreForms n (slice_set rows i empty_system_row)
without_row_forms n i rows h = All-set (λ r. IsForm n r.terms) rows i empty_system_row (form_nil n) h

fixed_row_form : (n j : ℕ) (v : ℚ) (r : SystemRow) → IsForm n r.terms → IsForm n (fixed_row j v r).terms
fixed_row_form n j v r h = cond_both (eq_ℚ (factor_of r.terms j) zero_ℚ) r _ (λ z. IsForm n z.terms) (λ e. h) (λ e. form_filter n (λ t. not (t.column == j)) r.terms h)

pair_form : (n : ℕ) (d : Pair) (terms : List Term) → d.x < n → IsForm n terms → IsForm n (pair_terms d terms)
pair_form n d terms l h =
    cond_both (eq_ℚ (factor_of terms d.y) zero_ℚ) terms _ (IsForm n) (λ e. h)
    (λ e. form_with n d.x (factor_of terms d.x -ℚ (factor_of terms d.y /ℚ d.b) *ℚ d.a) (without_column d.y terms) l (form_filter n (λ t. not (t.column == d.y)) terms h))

pair_row_form : (n : ℕ) (d : Pair) (r : SystemRow) → d.x < n → IsForm n r.terms → IsForm n (pair_row d r).terms
pair_row_form n d r l h = cond_both (eq_ℚ (factor_of r.terms d.y) zero_ℚ) r _ (λ z. IsForm n z.terms) (λ e. h) (λ e. pair_form n d r.terms l h)

-- ---- sizes
forced_columns : (system : LinearSystem) (sum : Side) (terms : List Term) → length (forced_limits system sum terms).columns ≡ length system.columns
forced_columns system sum [] = refl
forced_columns system sum (t ∷ terms) =
    forced_columns (with_limits t.column (record { lower = Some (taken_value system sum t); upper = Some (taken_value system sum t) }) system) sum terms
    ∙ length-set system.columns t.column _

pub forced_rows : (system : LinearSystem) (sum : Side) (terms : List Term) → (forced_limits system sum terms).rows ≡ system.rows
forced_rows system sum [] = refl
forced_rows system sum (t ∷ terms) = forced_rows (with_limits t.column (record { lower = Some (taken_value system sum t); upper = Some (taken_value system sum t) }) system) sum terms

forced_objective : (system : LinearSystem) (sum : Side) (terms : List Term) → (forced_limits system sum terms).objective ≡ system.objective
forced_objective system sum [] = refl
forced_objective system sum (t ∷ terms) = forced_objective (with_limits t.column (record { lower = Some (taken_value system sum t); upper = Some (taken_value system sum t) }) system) sum terms

pub large_after : (step : Step) (system : LinearSystem) → IsAsLarge system (reduced_by step system)
large_after (Empty i) system = record { columns = refl; rows = length-set system.rows i empty_system_row }
large_after (Singleton s) system = record { columns = length-set system.columns s.column _; rows = length-set system.rows s.row empty_system_row }
large_after (Fixed f) system = record { columns = length-set system.columns f.column _; rows = length-map system.rows (fixed_row f.column f.value) }
large_after (Redundant i) system = record { columns = refl; rows = length-set system.rows i empty_system_row }
large_after (Forcing f) system = record {
  columns = forced_columns system (opposite f.side) f.terms;
  rows = length-set (forced_limits system (opposite f.side) f.terms).rows f.row empty_system_row ∙ ap length (forced_rows system (opposite f.side) f.terms);
}
large_after (Doubleton d) system = record {
  columns = length-set (slice_set system.columns d.x _) d.y _ ∙ length-set system.columns d.x _;
  rows = length-map (without_row d.row system).rows (pair_row d) ∙ length-set system.rows d.row empty_system_row;
}

pub lives_after : (step : Step) (stage : Stage) → length (after_step step stage).live ≡ length stage.live
lives_after step stage = by (removed_row step)
  where
    by : (o : Option ℕ) → length (left_without o stage.live) ≡ length stage.live
    by None = refl
    by (Some i) = length-set stage.live i false

-- ---- formed
-- with forms of as many columns
resized : (system other : LinearSystem) → length other.columns ≡ length system.columns → AreForms (length system.columns) other.rows → IsFormOf (length system.columns) other.objective → IsFormed other
resized system other e rows objective = record { rows = subst (λ n. AreForms n other.rows) (sym e) rows; objective = subst (λ n. IsFormOf n other.objective) (sym e) objective }

-- the column that is kept of an equation is a column
kept_column : (stage : Stage) (d : Pair) → IsFormed stage.system → Origin stage (Doubleton d) → d.x < length stage.system.columns
kept_column stage d formed o =
    let n = length stage.system.columns in
    let form : IsForm n (row_in stage.system o.row).terms = row_form stage.system o.row formed in
    let known : All (λ t. t.column < n) (o.first ∷ o.second ∷ []) = subst (All (λ (t : Term). t.column < n)) o.terms form.known in
    subst (λ k. k < n) (sym (ap (λ s. elim s [ Empty i ↦ 0 | Singleton s ↦ 0 | Fixed f ↦ 0 | Redundant i ↦ 0 | Forcing f ↦ 0 | Doubleton q ↦ q.x ]) o.step_is)) (All-head (λ (t : Term). t.column < n) o.first (o.second ∷ []) known)

pub formed_after : (stage : Stage) (step : Step) → IsFormed stage.system → Origin stage step → IsFormed (reduced_by step stage.system)
formed_after stage (Empty i) f o = record { rows = without_row_forms (length stage.system.columns) i stage.system.rows f.rows; objective = f.objective }
formed_after stage (Singleton s) f o = resized stage.system (reduced_by (Singleton s) stage.system) (large_after (Singleton s) stage.system).columns (without_row_forms (length stage.system.columns) s.row stage.system.rows f.rows) f.objective
formed_after stage (Fixed x) f o =
    let n = length stage.system.columns in
    resized stage.system (reduced_by (Fixed x) stage.system) (large_after (Fixed x) stage.system).columns
    (mapped_rows n (fixed_row x.column x.value) stage.system.rows (fixed_row_form n x.column x.value) f.rows)
    (mapped_objective n (without_column x.column) stage.system.objective (λ terms h. form_filter n (λ t. not (t.column == x.column)) terms h) f.objective)
formed_after stage (Redundant i) f o = record { rows = without_row_forms (length stage.system.columns) i stage.system.rows f.rows; objective = f.objective }
formed_after stage (Forcing x) f o =
    let n = length stage.system.columns in
    let forced = forced_limits stage.system (opposite x.side) x.terms in
    resized stage.system (reduced_by (Forcing x) stage.system) (large_after (Forcing x) stage.system).columns
    (without_row_forms n x.row forced.rows (subst (AreForms n) (sym (forced_rows stage.system (opposite x.side) x.terms)) f.rows))
    (subst (IsFormOf n) (sym (forced_objective stage.system (opposite x.side) x.terms)) f.objective)
formed_after stage (Doubleton d) f o =
    let n = length stage.system.columns in
    let l = kept_column stage d f o in
    resized stage.system (reduced_by (Doubleton d) stage.system) (large_after (Doubleton d) stage.system).columns
    (mapped_rows n (pair_row d) (without_row d.row stage.system).rows (λ r h. pair_row_form n d r l h) (without_row_forms n d.row stage.system.rows f.rows))
    (mapped_objective n (pair_terms d) stage.system.objective (λ terms h. pair_form n d terms l h) f.objective)
