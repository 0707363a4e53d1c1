-- Where the run of a set's plain system settles, the point satisfies the members of the set but the marks.
use Rattle.std.proofs.Common.{◌≡◌, ◌+◌, ◌-◌, ◌<◌, refl, sym, ◌∙◌, ap, subst, ℕ, Bool, true, false, true≢false, cond, List, length, get_or, Option, None, Some, ltb, arith, lt-ltb}
use Rattle.std.specs.Prelude.{IfSome, Contains}
use Rattle.std.proofs.lemmas.Bool.{cond-true, cond-false, le-ltb, or_left, or_right}
use Rattle.std.proofs.lemmas.List.{get_or-map, length-map}
use Rattle.std.proofs.lemmas.List.Elements.{All-contains_itself}
use Rattle.rational.specs.Rational.{ℚ, ◌*ℚ◌, ◌≤ℚ◌}
use Rattle.rational.specs.Linear.{Term, Assignment, form_value, factor_of}
use Rattle.rational.proofs.Forms.{by_known}
use Rattle.rational.proofs.Order.{le_of_lt_ℚ, le_trans_ℚ, lt_q-true}
use Rattle.rational.proofs.Sums.{sum_below-ext}
use Rattle.frac128.specs.Limit.{limit}
use Rattle.lp_model.specs.declared.members.Member.{Member}
use Rattle.lp_model.specs.declared.members.Member.TheVariants.{RowLo, RowUp, Lower, Upper, Whole}
use Rattle.lp_model.specs.Program.{Program, IsWellFormed, row_at}
use Rattle.lp_model.specs.Members.{has, is_mark, number}
use Rattle.lp_model.specs.MemberSets.{IsMemberFor}
use Rattle.lp_model.specs.Satisfaction.{Holds, IsAtLeast, IsAtMost, values_at}
use Rattle.lp_model.proofs.Sets.{Contains-filter, has_of_contains}
use Rattle.certs.specs.declared.evidence.Branch.{Branch}
use Rattle.certs.specs.declared.evidence.Source.TheVariants.{Member as Of, Below, Above}
use Rattle.certs.specs.Combination.{source_number}
use Rattle.certs.specs.System.{LinearSystem, SystemRow, empty_system_row, no_limits, variable_limits}
use Rattle.certs.specs.Tableau.{value_of}
use Rattle.certs.specs.Turns.{settle_choice}
use Rattle.certs.specs.Turns.Choice.{Settled}
use Rattle.certs.specs.Ended.{IsSolution, IsWithin, numbers_from}
use Rattle.certs.specs.Plain.{column_limits, has_row, is_lowered, is_raised, limit_number, number_in, plain_row, plain_system, rows_in}
use Rattle.certs.specs.Solves.{SettlesAt}
use Rattle.certs.specs.PlainLaws.{PlainPointLaw}
use Rattle.certs.proofs.Agreement.{agreed_choice}
use Rattle.certs.proofs.Feasible.{feasible_law}
use Rattle.certs.proofs.PlainForms.{plain_formed, row_form}
use Rattle.certs.proofs.RunEnds.{agree}
use Rattle.certs.proofs.Translated.{length_mapped, length_numbers, mapped_at, number_at}

-- ---- limits that are kept
pub at_least : (o : Option ℚ) (v : ℚ) → IfSome o (λ l. l ≤ℚ v) → IsAtLeast o v
at_least None v h = tt
at_least (Some b) v h = h

pub at_most : (o : Option ℚ) (v : ℚ) → IfSome o (λ u. v ≤ℚ u) → IsAtMost o v
at_most None v h = tt
at_most (Some b) v h = h

-- a number that is raised is kept where the greater one is
raised : (bound path : Option ℚ) (v : ℚ) → is_raised bound path ≡ true → IfSome path (λ l. l ≤ℚ v) → IsAtLeast bound v
raised None path v e h = tt
raised (Some b) None v e h = absurd (true≢false (sym e))
raised (Some b) (Some p) v e h = le_trans_ℚ (le_of_lt_ℚ (lt_q-true b p e)) h

lowered : (bound path : Option ℚ) (v : ℚ) → is_lowered bound path ≡ true → IfSome path (λ u. v ≤ℚ u) → IsAtMost bound v
lowered None path v e h = tt
lowered (Some b) None v e h = absurd (true≢false (sym e))
lowered (Some b) (Some p) v e h = le_trans_ℚ h (le_of_lt_ℚ (lt_q-true p b e))

-- ---- a solution of the plain system
module _ (model : Program) (set : List Member) (path : List Branch) (x y : Assignment) where
  abbrev system : LinearSystem
  system = plain_system model set path false

  abbrev columns : ℕ
  columns = length model.columns

  columns_are : length system.columns ≡ columns
  columns_are = length_mapped (column_limits model set path) columns

  module _ (formed : IsWellFormed model) (solution : IsSolution system x) (same : (j : ℕ) → j < columns → y j ≡ x j) where
    -- ---- rows
    listed : (i : ℕ) → i < length model.rows → Contains (numbers_from 0 (length model.rows)) i
    listed i l = (i, subst (λ n. i < n) (sym (length_numbers 0 (length model.rows))) l, number_at 0 (length model.rows) i i l ∙ (let e : 0 + i ≡ i = omega arith in e))

    value_same : (i : ℕ) → form_value (row_at model i).terms y ≡ form_value (row_at model i).terms x
    value_same i =
        let terms : List Term = (row_at model i).terms in
        let known = (row_form model i formed).known in
        by_known columns terms y known
        ∙ sum_below-ext columns (λ j. factor_of terms j *ℚ y j) (λ j. factor_of terms j *ℚ x j) (λ j l. ap (λ z. factor_of terms j *ℚ z) (same j l))
        ∙ sym (by_known columns terms x known)

    -- where the system's row is for a row of which the set has a side, the row's sum is within those sides
    row_within : (i : ℕ) → i < length model.rows → has_row set i ≡ true → IsWithin (plain_row model set i).limits (form_value (row_at model i).terms y)
    row_within i l h =
        let kept : Contains (rows_in model set) i = Contains-filter (has_row set) (numbers_from 0 (length model.rows)) i (listed i l) h in
        let k : ℕ = kept.0 in
        let n : ℕ = length system.columns in
        let row : get_or system.rows k empty_system_row ≡ plain_row model set i = get_or-map (plain_row model set) (rows_in model set) k i empty_system_row kept.1 ∙ ap (plain_row model set) kept.2 in
        let below : k < length system.rows = subst (λ z. k < z) (sym (length-map (rows_in model set) (plain_row model set))) kept.1 in
        let is : x (n + k) ≡ form_value (row_at model i).terms x = solution.rows.rows k below ∙ ap (λ (r : SystemRow). form_value r.terms x) row in
        let back : (n + k) - n ≡ k = omega arith in
        let limits : variable_limits system (n + k) ≡ (plain_row model set i).limits =
        cond-false (ltb (n + k) n) (get_or system.columns (n + k) no_limits) (get_or system.rows ((n + k) - n) empty_system_row).limits (le-ltb (n + k) n (omega arith))
        ∙ ap (λ d. (get_or system.rows d empty_system_row).limits) back
        ∙ ap (λ (r : SystemRow). r.limits) row in
        let within : IsWithin (plain_row model set i).limits (x (n + k)) = subst (λ z. IsWithin z (x (n + k))) limits (solution.limits (n + k) (omega arith)) in
        subst (IsWithin (plain_row model set i).limits) (is ∙ sym (value_same i)) within

    -- the number of a member that the set has
    number_there : (m : Member) → has set m ≡ true → number_in model set m ≡ number model m
    number_there m h = cond-true (has set m) (number model m) None h

    row_lower_holds : (i : ℕ) → i < length model.rows → has set (RowLo i) ≡ true → Holds model y (RowLo i)
    row_lower_holds i l h =
        let v : ℚ = form_value (row_at model i).terms y in
        subst (λ o. IsAtLeast o v) (number_there (RowLo i) h) (at_least (number_in model set (RowLo i)) v (row_within i l (or_left (has set (RowLo i)) (has set (RowUp i)) h)).lower)

    row_upper_holds : (i : ℕ) → i < length model.rows → has set (RowUp i) ≡ true → Holds model y (RowUp i)
    row_upper_holds i l h =
        let v : ℚ = form_value (row_at model i).terms y in
        subst (λ o. IsAtMost o v) (number_there (RowUp i) h) (at_most (number_in model set (RowUp i)) v (row_within i l (or_right (has set (RowLo i)) (has set (RowUp i)) h)).upper)

    -- ---- bounds
    pub column_within : (j : ℕ) → j < columns → IsWithin (column_limits model set path j) (x j)
    column_within j l =
        let below : j < length system.columns = subst (λ n. j < n) (sym columns_are) l in
        let limits : variable_limits system j ≡ column_limits model set path j =
        cond-true (ltb j (length system.columns)) (get_or system.columns j no_limits) (get_or system.rows (j - length system.columns) empty_system_row).limits (lt-ltb j (length system.columns) below)
        ∙ mapped_at (column_limits model set path) columns j no_limits l in
        subst (λ z. IsWithin z (x j)) limits (solution.limits j (omega arith))

    lower_kept : (j : ℕ) (t : Bool) → is_raised (number_in model set (Lower j)) (source_number model path (Above j)) ≡ t
        → IfSome (limit_number model set path (cond t (Above j) (Of (Lower j)))) (λ l. l ≤ℚ x j) → IsAtLeast (number_in model set (Lower j)) (x j)
    lower_kept j true e h = raised (number_in model set (Lower j)) (source_number model path (Above j)) (x j) e h
    lower_kept j false e h = at_least (number_in model set (Lower j)) (x j) h

    upper_kept : (j : ℕ) (t : Bool) → is_lowered (number_in model set (Upper j)) (source_number model path (Below j)) ≡ t
        → IfSome (limit_number model set path (cond t (Below j) (Of (Upper j)))) (λ u. x j ≤ℚ u) → IsAtMost (number_in model set (Upper j)) (x j)
    upper_kept j true e h = lowered (number_in model set (Upper j)) (source_number model path (Below j)) (x j) e h
    upper_kept j false e h = at_most (number_in model set (Upper j)) (x j) h

    lower_holds : (j : ℕ) → j < columns → has set (Lower j) ≡ true → Holds model y (Lower j)
    lower_holds j l h =
        let kept : IsAtLeast (number_in model set (Lower j)) (x j) = lower_kept j (is_raised (number_in model set (Lower j)) (source_number model path (Above j))) refl (column_within j l).lower in
        subst (λ o. IsAtLeast o (y j)) (number_there (Lower j) h) (subst (IsAtLeast (number_in model set (Lower j))) (sym (same j l)) kept)

    upper_holds : (j : ℕ) → j < columns → has set (Upper j) ≡ true → Holds model y (Upper j)
    upper_holds j l h =
        let kept : IsAtMost (number_in model set (Upper j)) (x j) = upper_kept j (is_lowered (number_in model set (Upper j)) (source_number model path (Below j))) refl (column_within j l).upper in
        subst (λ o. IsAtMost o (y j)) (number_there (Upper j) h) (subst (IsAtMost (number_in model set (Upper j))) (sym (same j l)) kept)

    pub member_holds : (m : Member) → IsMemberFor (length model.rows) columns m → has set m ≡ true → is_mark m ≡ false → Holds model y m
    member_holds (RowLo i) l h e = row_lower_holds i l h
    member_holds (RowUp i) l h e = row_upper_holds i l h
    member_holds (Lower j) l h e = lower_holds j l h
    member_holds (Upper j) l h e = upper_holds j l h
    member_holds (Whole j) l h e = absurd (true≢false e)

-- ---- the law
-- at the run's end the choice is to settle, whichever tableau stands there
settles : (system : LinearSystem) (pivots : ℕ) (values : List ℚ) (s : SettlesAt system pivots values) → settle_choice s.here.tableau ≡ Settled
settles system pivots values s =
    let end = s.run.run.ends in
    agreed_choice s.here.tableau end.here.tableau (agree limit system s.last s.here end.here) ∙ end.chosen

module _ (model : Program) (set : List Member) (path : List Branch) (pivots : ℕ) (values : List ℚ) (formed : IsWellFormed model) (s : SettlesAt (plain_system model set path false) pivots values) where
  pub end_solution : IsSolution (plain_system model set path false) (value_of s.here.tableau)
  end_solution = feasible_law (plain_system model set path false) s.here.tableau (plain_formed model set path false formed s.run.apart) s.here.is_of (settles (plain_system model set path false) pivots values s)

  pub end_same : (j : ℕ) → j < length model.columns → values_at values j ≡ value_of s.here.tableau j
  end_same j l = s.values_are j (subst (λ n. j < n) (sym (length_mapped (column_limits model set path) (length model.columns))) l)

pub plain_point : PlainPointLaw
plain_point model set path pivots values formed known s k d l =
    member_holds model set path (value_of s.here.tableau) (values_at values) formed (end_solution model set path pivots values formed s) (end_same model set path pivots values formed s)
    (get_or set k d) (known k d l) (has_of_contains set (get_or set k d) (All-contains_itself set k d l))
