-- What enforced members ask for, as limits of columns and of rows of the program.
use Rattle.std.proofs.Common.{◌≡◌, ◌<◌, refl, sym, ◌∙◌, ap, subst, ℕ, Bool, true, false, cond, List, [], length, Option, None, Some}
use Rattle.std.specs.Prelude.{All, IfSome}
use Rattle.std.proofs.lemmas.List.Elements.{All-cons, All-contains, All-filter, All-map, All-nil, filter_passes}
use Rattle.rational.specs.Rational.{ℚ, ◌≤ℚ◌, one_ℚ}
use Rattle.rational.specs.Linear.{Term, Assignment, form_value}
use Rattle.lp_model.specs.declared.members.Member.{Member}
use Rattle.lp_model.specs.declared.members.Member.TheVariants.{RowLo, RowUp, Lower, Upper, Whole}
use Rattle.lp_model.specs.Program.{Program, IsWellFormed, row_at}
use Rattle.lp_model.specs.Members.{column_form, form, has, is_mark, number}
use Rattle.lp_model.specs.MemberSets.{IsMemberFor}
use Rattle.lp_model.specs.Satisfaction.{Holds, IsAtLeast, IsAtMost, Satisfies}
use Rattle.lp_model.proofs.Sets.{contains_of_has, has_of_contains}
use Rattle.certs.specs.declared.evidence.Source.TheVariants.{Member as Of, Below, Above}
use Rattle.certs.specs.Ended.{IsSolution, IsWithin, numbers_from}
use Rattle.certs.specs.Plain.{column_limits, has_row, is_lowered, is_raised, number_in, plain_row, plain_system, rows_in}
use Rattle.certs.specs.System.{LinearSystem, SystemRow, no_limits}
use Rattle.certs.proofs.PlainForms.{row_form}
use Rattle.certs.proofs.PlainPoints.{member_holds}
use Rattle.certs.proofs.Translated.{length_mapped, mapped_at}
use Rattle.relaxation.proofs.Lists.{each}
use Rattle.relaxation.proofs.Solved.{Keeps, IsKnown, extended, extended_column, extended_solution}

-- ---- forms
column_known : (n j : ℕ) → j < n → IsKnown n (column_form j)
column_known n j l = All-cons (λ t. t.column < n) (record { column = j; factor = one_ℚ }) [] l (All-nil (λ (t : Term). t.column < n))

-- the form of a member names columns of the program
pub member_known : (model : Program) (m : Member) → IsWellFormed model → IsMemberFor (length model.rows) (length model.columns) m → IsKnown (length model.columns) (form model m)
member_known model (RowLo i) formed l = (row_form model i formed).known
member_known model (RowUp i) formed l = (row_form model i formed).known
member_known model (Lower j) formed l = column_known (length model.columns) j l
member_known model (Upper j) formed l = column_known (length model.columns) j l
member_known model (Whole j) formed l = column_known (length model.columns) j l

module _ (model : Program) (enforced : List Member) where
  abbrev n : ℕ
  n = length model.columns

  -- ---- limits that are kept by what holds
  at_least : (o : Option ℚ) (v : ℚ) → IsAtLeast o v → IfSome o (λ l. l ≤ℚ v)
  at_least None v h = tt
  at_least (Some b) v h = h

  at_most : (o : Option ℚ) (v : ℚ) → IsAtMost o v → IfSome o (λ u. v ≤ℚ u)
  at_most None v h = tt
  at_most (Some b) v h = h

  -- the limits of a column are the numbers of the enforced bounds
  not_raised : (o : Option ℚ) → is_raised o None ≡ false
  not_raised None = refl
  not_raised (Some b) = refl

  not_lowered : (o : Option ℚ) → is_lowered o None ≡ false
  not_lowered None = refl
  not_lowered (Some b) = refl

  lower_is : (j : ℕ) → (column_limits model enforced [] j).lower ≡ number_in model enforced (Lower j)
  lower_is j = ap (λ b. elim (cond b (Above j) (Of (Lower j))) [ Of m ↦ number_in model enforced m | Below k ↦ None | Above k ↦ None ]) (not_raised (number_in model enforced (Lower j)))

  upper_is : (j : ℕ) → (column_limits model enforced [] j).upper ≡ number_in model enforced (Upper j)
  upper_is j = ap (λ b. elim (cond b (Below j) (Of (Upper j))) [ Of m ↦ number_in model enforced m | Below k ↦ None | Above k ↦ None ]) (not_lowered (number_in model enforced (Upper j)))

  module _ (y : Assignment) (satisfies : Satisfies model enforced y) where
    held : (m : Member) → has enforced m ≡ true → Holds model y m
    held m e = All-contains (Holds model y) enforced m satisfies (contains_of_has enforced m e)

    lower_kept : (m : Member) (v : ℚ) (b : Bool) → (b ≡ true → IsAtLeast (number model m) v) → IfSome (cond b (number model m) None) (λ l. l ≤ℚ v)
    lower_kept m v true h = at_least (number model m) v (h refl)
    lower_kept m v false h = tt

    upper_kept : (m : Member) (v : ℚ) (b : Bool) → (b ≡ true → IsAtMost (number model m) v) → IfSome (cond b (number model m) None) (λ u. v ≤ℚ u)
    upper_kept m v true h = at_most (number model m) v (h refl)
    upper_kept m v false h = tt

    pub columns_within : (j : ℕ) → IsWithin (column_limits model enforced [] j) (y j)
    columns_within j = record {
      lower = subst (λ o. IfSome o (λ l. l ≤ℚ y j)) (sym (lower_is j)) (lower_kept (Lower j) (y j) (has enforced (Lower j)) (held (Lower j)));
      upper = subst (λ o. IfSome o (λ u. y j ≤ℚ u)) (sym (upper_is j)) (upper_kept (Upper j) (y j) (has enforced (Upper j)) (held (Upper j)));
    }

    pub row_within : (i : ℕ) → Keeps y (plain_row model enforced i)
    row_within i = record {
      lower = lower_kept (RowLo i) (form_value (row_at model i).terms y) (has enforced (RowLo i)) (held (RowLo i));
      upper = upper_kept (RowUp i) (form_value (row_at model i).terms y) (has enforced (RowUp i)) (held (RowUp i));
    }

  -- ---- and back: what keeps the limits satisfies the members
  module _ (formed : IsWellFormed model) (known : All (IsMemberFor (length model.rows) (length model.columns)) enforced) (linear : All (λ m. is_mark m ≡ false) enforced) (x : Assignment)
      (rows : All (λ i. has_row enforced i ≡ true → Keeps x (plain_row model enforced i)) (numbers_from 0 (length model.rows))) (columns : (j : ℕ) → j < length model.columns → IsWithin (column_limits model enforced [] j) (x j)) where
    abbrev plain : LinearSystem
    plain = plain_system model enforced [] false

    count : length plain.columns ≡ length model.columns
    count = length_mapped (column_limits model enforced []) (length model.columns)

    forms : All (λ (row : SystemRow). IsKnown (length plain.columns) row.terms) plain.rows
    forms = All-map (λ (row : SystemRow). IsKnown (length plain.columns) row.terms) (plain_row model enforced) (rows_in model enforced)
        (each (λ i. IsKnown (length plain.columns) (row_at model i).terms) (rows_in model enforced) (λ i c. subst (λ k. IsKnown k (row_at model i).terms) (sym count) (row_form model i formed).known))

    both : (P Q : ℕ → Type 0) (xs : List ℕ) → All (λ i. P i → Q i) xs → All P xs → All Q xs
    both P Q xs f h k d l = f k d l (h k d l)

    kept : All (Keeps x) plain.rows
    kept = All-map (Keeps x) (plain_row model enforced) (rows_in model enforced)
        (both (λ i. has_row enforced i ≡ true) (λ i. Keeps x (plain_row model enforced i)) (rows_in model enforced) (All-filter (has_row enforced) (λ i. has_row enforced i ≡ true → Keeps x (plain_row model enforced i)) (numbers_from 0 (length model.rows)) rows)
        (filter_passes (has_row enforced) (numbers_from 0 (length model.rows))))

    solution : IsSolution plain (extended plain x)
    solution = extended_solution plain x forms tt kept
        (λ j l. let below : j < length model.columns = subst (λ k. j < k) count l in
        subst (λ z. IsWithin z (x j)) (sym (mapped_at (column_limits model enforced []) (length model.columns) j no_limits below)) (columns j below))

    pub satisfied : (y : Assignment) → ((j : ℕ) → j < length model.columns → y j ≡ x j) → Satisfies model enforced y
    satisfied y same =
        each (Holds model y) enforced
        (λ m c. member_holds model enforced [] (extended plain x) y formed solution
        (λ j l. same j l ∙ sym (extended_column plain x j (subst (λ k. j < k) (sym count) l)))
        m (All-contains (IsMemberFor (length model.rows) (length model.columns)) enforced m known c) (has_of_contains enforced m c) (All-contains (λ m. is_mark m ≡ false) enforced m linear c))
