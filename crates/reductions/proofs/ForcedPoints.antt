-- What meets a system before and after a forcing row is removed.
use Rattle.std.proofs.Common.{◌≡◌, refl, sym, ◌∙◌, ap, subst, ℕ, ◌+◌, ◌-◌, ◌<◌, get_or, zero, suc, false, List, [], ◌∷◌, length, Option, Some, None, IsSome, is_some, arith, true≢false, lt-ltb}
use Rattle.std.specs.Prelude.{All, AllPairs, nat_lt}
use Rattle.std.proofs.lemmas.Bool.{cond-true, cond-false, le-ltb}
use Rattle.std.proofs.lemmas.List.{length-set}
use Rattle.std.proofs.lemmas.List.Elements.{All-nil, All-cons, All-head, All-tail, All-weaker}
use Rattle.rational.specs.Rational.{ℚ, ◌≤ℚ◌}
use Rattle.rational.specs.Linear.{Term, Assignment, form_value}
use Rattle.rational.proofs.Order.{le_refl_ℚ, lt_q-false, le_antisymm_ℚ}
use Rattle.lp_model.specs.Program.{IsForm}
use Rattle.lp_model.specs.declared.members.Side.{Side}
use Rattle.lp_model.specs.declared.members.Side.TheVariants.{Lo, Up}
use Rattle.certs.specs.Combination.{number_or_zero}
use Rattle.certs.specs.Ended.{IsWithin}
use Rattle.certs.specs.Plain.{crosses, are_crossed}
use Rattle.certs.specs.System.{Limits, LinearSystem, no_limits, empty_system_row, limit_on, variable_limits}
use Rattle.reductions.specs.Limited.{opposite, turned, taken, taken_value}
use Rattle.reductions.specs.Reduction.{forced_limits}
use Rattle.reductions.specs.Laws.{Meets}
use Rattle.reductions.specs.Stage.{row_in, limits_in, without_row, with_limits}
use Rattle.reductions.proofs.Looks.{limits_set, limits_stay, column_there}
use Rattle.reductions.proofs.Points.{drop_row, add_row, put_limits, take_limits}
use Rattle.reductions.proofs.Extremes.{IsForced, forced_columns, taken_sum}

-- both limits at the value that a sum takes
abbrev equal_limits : LinearSystem → Side → Term → Limits
equal_limits system sum t = record { lower = Some (taken_value system sum t); upper = Some (taken_value system sum t) }

-- the value that a sum takes of a column keeps its limits, and the column is there
pub record IsForcible (system : LinearSystem) (sum : Side) (t : Term) : Type 0 where
  pub within : IsWithin (limits_in system t.column) (taken_value system sum t)
  pub known : t.column < length system.columns

-- limits of another column change nothing
module _ (system : LinearSystem) (sum : Side) (t : Term) (limits : Limits) (u : Term) (apart : t.column < u.column) where
  same_limits : limits_in (with_limits t.column limits system) u.column ≡ limits_in system u.column
  same_limits = limits_stay system.columns t.column u.column limits (λ e. absurd (omega (arith, e)))

  same_taken : taken_value (with_limits t.column limits system) sum u ≡ taken_value system sum u
  same_taken = ap (λ l. number_or_zero (limit_on l (turned u.factor sum))) same_limits

  still_forcible : IsForcible system sum u → IsForcible (with_limits t.column limits system) sum u
  still_forcible f = record {
    within = subst (λ l. IsWithin l (taken_value (with_limits t.column limits system) sum u)) (sym same_limits) (subst (IsWithin (limits_in system u.column)) (sym same_taken) f.within);
    known = subst (λ n. u.column < n) (sym (length-set system.columns t.column limits)) f.known;
  }

-- those behind the first
behind : (t : Term) (terms : List Term) → AllPairs (λ s u. s.column < u.column) (t ∷ terms) → All (λ (u : Term). t.column < u.column) terms
behind t terms h = λ k d l. h zero (suc k) d (omega arith) (omega arith)

ascending_tail : (t : Term) (terms : List Term) → AllPairs (λ s u. s.column < u.column) (t ∷ terms) → AllPairs (λ s u. s.column < u.column) terms
ascending_tail t terms h = λ i j d l m. h (suc i) (suc j) d (omega arith) (omega arith)

-- two facts of each
together : (P Q R : Term → Type 0) (terms : List Term) → ((t : Term) → P t → Q t → R t) → All P terms → All Q terms → All R terms
together P Q R terms f p q = λ k d l. f (get_or terms k d) (p k d l) (q k d l)

-- ---- the limits made equal
pub forced_keeps : (system : LinearSystem) (sum : Side) (x : Assignment) (terms : List Term) → AllPairs (λ s t. s.column < t.column) terms
    → All (λ t. x t.column ≡ taken_value system sum t) terms → Meets system x → Meets (forced_limits system sum terms) x
forced_keeps system sum x [] order at m = m
forced_keeps system sum x (t ∷ terms) order at m =
    let limits = equal_limits system sum t in
    let here : x t.column ≡ taken_value system sum t = All-head (λ t. x t.column ≡ taken_value system sum t) t terms at in
    let next = with_limits t.column limits system in
    forced_keeps next sum x terms (ascending_tail t terms order)
    (together (λ (u : Term). t.column < u.column) (λ u. x u.column ≡ taken_value system sum u) (λ u. x u.column ≡ taken_value next sum u) terms
    (λ u l e. e ∙ sym (same_taken system sum t limits u l)) (behind t terms order) (All-tail (λ t. x t.column ≡ taken_value system sum t) t terms at))
    (put_limits system t.column limits x m
    (record { lower = subst (λ z. taken_value system sum t ≤ℚ z) (sym here) (le_refl_ℚ (taken_value system sum t)); upper = subst (λ z. z ≤ℚ taken_value system sum t) (sym here) (le_refl_ℚ (taken_value system sum t)) }))

pub forced_back : (system : LinearSystem) (sum : Side) (x : Assignment) (terms : List Term) → AllPairs (λ s t. s.column < t.column) terms → All (IsForcible system sum) terms
    → Meets (forced_limits system sum terms) x → Meets system x × All (λ t. x t.column ≡ taken_value system sum t) terms
forced_back system sum x [] order fits m = (m, All-nil (λ t. x t.column ≡ taken_value system sum t))
forced_back system sum x (t ∷ terms) order fits m =
    let limits = equal_limits system sum t in
    let next = with_limits t.column limits system in
    let own : IsForcible system sum t = All-head (IsForcible system sum) t terms fits in
    let rest = forced_back next sum x terms (ascending_tail t terms order)
    (together (λ (u : Term). t.column < u.column) (IsForcible system sum) (IsForcible next sum) terms (λ u l f. still_forcible system sum t limits u l f) (behind t terms order) (All-tail (IsForcible system sum) t terms fits)) m in
    let here : IsWithin limits (x t.column) = subst (λ l. IsWithin l (x t.column)) (limits_set system.columns t.column limits own.known) (rest.0.columns t.column) in
    let value : x t.column ≡ taken_value system sum t = le_antisymm_ℚ here.upper here.lower in (
      take_limits system t.column limits x rest.0 (subst (IsWithin (limits_in system t.column)) (sym value) own.within),
      All-cons (λ t. x t.column ≡ taken_value system sum t) t terms value
          (together (λ (u : Term). t.column < u.column) (λ u. x u.column ≡ taken_value next sum u) (λ u. x u.column ≡ taken_value system sum u) terms
          (λ u l e. e ∙ same_taken system sum t limits u l) (behind t terms order) rest.1),
    )

-- ---- a limit that is there keeps the limits of its column, where these do not cross
uncrossed_within : (limits : Limits) (side : Side) → are_crossed limits.lower limits.upper ≡ false → IsSome (limit_on limits side) → IsWithin limits (number_or_zero (limit_on limits side))
uncrossed_within limits side e some = by limits.lower limits.upper e side some
  where
    by : (lower upper : Option ℚ) → are_crossed lower upper ≡ false → (side : Side) → IsSome (limit_on (record { lower = lower; upper = upper }) side)
        → IsWithin (record { lower = lower; upper = upper }) (number_or_zero (limit_on (record { lower = lower; upper = upper }) side))
    by None upper e Lo some = absurd (true≢false (sym some))
    by (Some l) None e Lo some = record { lower = le_refl_ℚ l; upper = tt }
    by (Some l) (Some u) e Lo some = record { lower = le_refl_ℚ l; upper = lt_q-false u l e }
    by lower None e Up some = absurd (true≢false (sym some))
    by None (Some u) e Up some = record { lower = tt; upper = le_refl_ℚ u }
    by (Some l) (Some u) e Up some = record { lower = lt_q-false u l e; upper = le_refl_ℚ u }

pub forcible : (system : LinearSystem) (sum : Side) (t : Term) → ((v : ℕ) → crosses system v ≡ false) → IsSome (taken system sum t) → IsForcible system sum t
forcible system sum t apart some =
    let known = column_there system t.column (turned t.factor sum) some in
    let limits : variable_limits system t.column ≡ limits_in system t.column = cond-true (nat_lt t.column (length system.columns)) _ _ (lt-ltb t.column (length system.columns) known) in
    record {
      within = uncrossed_within (limits_in system t.column) (turned t.factor sum) (ap (λ l. are_crossed l.lower l.upper) (sym limits) ∙ apart t.column) some;
      known = known;
    }

-- ---- the row
-- the other side of a row is kept too where its sides do not cross
row_uncrossed : (system : LinearSystem) (i : ℕ) → ((v : ℕ) → crosses system v ≡ false) → are_crossed (row_in system i).limits.lower (row_in system i).limits.upper ≡ false
row_uncrossed system i apart =
    let n : ℕ = length system.columns in
    let back : (n + i) - n ≡ i = omega arith in
    let limits : variable_limits system (n + i) ≡ (row_in system i).limits =
    cond-false (nat_lt (n + i) n) (get_or system.columns (n + i) no_limits) (get_or system.rows ((n + i) - n) empty_system_row).limits (le-ltb (n + i) n (omega arith))
    ∙ ap (λ k. (get_or system.rows k empty_system_row).limits) back in
    ap (λ l. are_crossed l.lower l.upper) (sym limits) ∙ apart (n + i)

-- making limits equal does not look at rows
forced_without : (i : ℕ) (system : LinearSystem) (sum : Side) (terms : List Term) → forced_limits (without_row i system) sum terms ≡ without_row i (forced_limits system sum terms)
forced_without i system sum [] = refl
forced_without i system sum (t ∷ terms) = forced_without i (with_limits t.column (equal_limits system sum t) system) sum terms

pub forcing_point : (system : LinearSystem) (i : ℕ) (side : Side) (x : Assignment) → IsForm (length system.columns) (row_in system i).terms → ((v : ℕ) → crosses system v ≡ false) → IsForced system i side
    → Meets (without_row i (forced_limits system (opposite side) (row_in system i).terms)) x → Meets system x
forcing_point system i side x form apart forced m =
    let terms = (row_in system i).terms in
    let sum = opposite side in
    let limits = (row_in system i).limits in
    let fits : All (IsForcible (without_row i system) sum) terms =
    All-weaker (λ t. IsSome (taken system sum t)) (IsForcible (without_row i system) sum)
    (λ t some. let f = forcible system sum t apart some in record { within = f.within; known = f.known }) terms forced.extreme.there in
    let back = forced_back (without_row i system) sum x terms form.ascending fits (subst (λ s. Meets s x) (sym (forced_without i system sum terms)) m) in
    let value : form_value terms x ≡ number_or_zero (limit_on limits side) =
    taken_sum system sum x terms back.1 ∙ sym forced.extreme.value ∙ ap number_or_zero (sym forced.side_is) in
    add_row system i x back.0
    (subst (IsWithin limits) (sym value) (uncrossed_within limits side (row_uncrossed system i apart) (ap is_some forced.side_is)))

pub forcing_keeps : (system : LinearSystem) (i : ℕ) (side : Side) (x : Assignment) → IsForm (length system.columns) (row_in system i).terms → IsForced system i side
    → Meets system x → Meets (without_row i (forced_limits system (opposite side) (row_in system i).terms)) x
forcing_keeps system i side x form forced m =
    let terms = (row_in system i).terms in
    drop_row (forced_limits system (opposite side) terms) i x
    (forced_keeps system (opposite side) x terms form.ascending (forced_columns system i side x forced m form.nonzero) m)
