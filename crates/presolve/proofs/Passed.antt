-- Rows that are changed one after another.
use Rattle.std.proofs.Common.{◌≡◌, refl, sym, ◌∙◌, ap, subst, ℕ, ◌+◌, ◌<◌, ◌≤◌, Bool, true, false, cond, not, ◌==◌, List, [], ◌∷◌, ◌++◌, map, length, get_or, set, drop, append_assoc, append-nil, true≢false, add-one, inl, inr, eq-eqb, ne_eqb}
use Rattle.std.specs.Prelude.{filter, flat_map}
use Rattle.std.proofs.lemmas.Bool.{cases_eq, cond-true, cond-false}
use Rattle.std.proofs.lemmas.List.{at_drop_more, drop_all, get_or-map, get_or-set_same, get_or-set_other, length-map, length-set}
use Rattle.rational.specs.Rational.{ℚ, zero_ℚ, eq_ℚ}
use Rattle.rational.specs.Linear.{factor_of}
use Rattle.rational.proofs.Compare.{eq-Decides}
use Rattle.lp_model.specs.declared.parts.Row.{Row}
use Rattle.certs.specs.Rows.{row_of}
use Rattle.certs.specs.System.{SystemRow, empty_system_row}
use Rattle.reductions.specs.declared.steps.Change.{Change}
use Rattle.reductions.specs.Limited.{is_narrow}
use Rattle.reductions.specs.Rules.{changes_from, changes_steps}
use Rattle.presolve.specs.Plans.{At}
use Rattle.presolve.specs.declared.eliminating.Elimination.{Elimination}
use Rattle.presolve.specs.declared.eliminating.Elimination.TheVariants.{Value, Equation}
use Rattle.presolve.specs.Eliminated.{AreChanged, rows_steps, gone_column, is_equation, other_rows, emptied, times_by, row_times, row_with, row_steps, new_rows_from}
use Rattle.presolve.proofs.Narrow.{narrow_past, wide_part, narrow_nil}

-- those before number k are changed
pub record IsFar (e : Elimination) (rows : List SystemRow) (k : ℕ) (changes : List Change) (news : List (At SystemRow)) : Type 0 where
  pub changes_left : changes ++ changes_from (gone_column e) (times_by e) k (drop k rows) ≡ changes_from (gone_column e) (times_by e) 0 rows
  pub rows_left : news ++ new_rows_from (gone_column e) (row_with e) k (drop k rows) ≡ emptied e ++ new_rows_from (gone_column e) (row_with e) 0 rows
  pub work_left : is_narrow (changes_steps (gone_column e) (row_steps e) (drop k rows)) ≡ is_narrow (changes_steps (gone_column e) (row_steps e) rows)

-- at first
pub far_none : (e : Elimination) (rows : List SystemRow) → IsFar e rows 0 [] (emptied e)
far_none e rows = record { changes_left = refl; rows_left = refl; work_left = refl }

module _ (e : Elimination) (rows : List SystemRow) (k : ℕ) (changes : List Change) (news : List (At SystemRow)) (l : k < length rows) (far : IsFar e rows k changes news) where
  abbrev pub here : SystemRow
  here = get_or rows k empty_system_row

  abbrev pub lacks : Bool
  lacks = eq_ℚ (factor_of here.terms (gone_column e)) zero_ℚ

  at_work : lacks ≡ false → is_narrow (changes_steps (gone_column e) (row_steps e) (drop k rows)) ≡ is_narrow (row_steps e here ++ changes_steps (gone_column e) (row_steps e) (drop (k + 1) rows))
  at_work z =
      let j = gone_column e in
      let rest = drop (k + 1) rows in
      at_drop_more (λ rs. is_narrow (changes_steps j (row_steps e) rs)) rows k empty_system_row l
      ∙ ap (λ (b : Bool). is_narrow (flat_map (row_steps e) (cond (not b) (here ∷ filter (λ r. not (eq_ℚ (factor_of r.terms j) zero_ℚ)) rest) (filter (λ r. not (eq_ℚ (factor_of r.terms j) zero_ℚ)) rest)))) z

  -- the row lacks the column
  pub far_passed : lacks ≡ true → IsFar e rows (k + 1) changes news
  far_passed z =
      let j = gone_column e in
      let rest = drop (k + 1) rows in
      let at_changes : changes_from j (times_by e) (k + 1) rest ≡ changes_from j (times_by e) k (drop k rows) =
      ap (λ n. changes_from j (times_by e) n rest) (add-one k) ∙ sym (at_drop_more (changes_from j (times_by e) k) rows k empty_system_row l ∙ cond-true lacks _ _ z) in
      let at_rows : new_rows_from j (row_with e) (k + 1) rest ≡ new_rows_from j (row_with e) k (drop k rows) =
      ap (λ n. new_rows_from j (row_with e) n rest) (add-one k) ∙ sym (at_drop_more (new_rows_from j (row_with e) k) rows k empty_system_row l ∙ cond-true lacks _ _ z) in
      let at_work : is_narrow (changes_steps j (row_steps e) rest) ≡ is_narrow (changes_steps j (row_steps e) (drop k rows)) =
      sym (at_drop_more (λ rs. is_narrow (changes_steps j (row_steps e) rs)) rows k empty_system_row l
      ∙ ap (λ (b : Bool). is_narrow (flat_map (row_steps e) (cond (not b) (here ∷ filter (λ r. not (eq_ℚ (factor_of r.terms j) zero_ℚ)) rest) (filter (λ r. not (eq_ℚ (factor_of r.terms j) zero_ℚ)) rest)))) z) in
      record {
        changes_left = ap (λ z. changes ++ z) at_changes ∙ far.changes_left;
        rows_left = ap (λ z. news ++ z) at_rows ∙ far.rows_left;
        work_left = at_work ∙ far.work_left;
      }

  -- it has it, and is changed
  pub far_made : lacks ≡ false → is_narrow (row_steps e here) ≡ true
      → IsFar e rows (k + 1) (changes ++ record { row = k; factor = row_times e here } ∷ []) (news ++ record { number = k; item = row_with e here } ∷ [])
  far_made z narrow =
      let j = gone_column e in
      let rest = drop (k + 1) rows in
      let change : Change = record { row = k; factor = row_times e here } in
      let new : At SystemRow = record { number = k; item = row_with e here } in
      let at_changes : change ∷ changes_from j (times_by e) (k + 1) rest ≡ changes_from j (times_by e) k (drop k rows) =
      ap (λ n. change ∷ changes_from j (times_by e) n rest) (add-one k) ∙ sym (at_drop_more (changes_from j (times_by e) k) rows k empty_system_row l ∙ cond-false lacks _ _ z) in
      let at_rows : new ∷ new_rows_from j (row_with e) (k + 1) rest ≡ new_rows_from j (row_with e) k (drop k rows) =
      ap (λ n. new ∷ new_rows_from j (row_with e) n rest) (add-one k) ∙ sym (at_drop_more (new_rows_from j (row_with e) k) rows k empty_system_row l ∙ cond-false lacks _ _ z) in
      record {
        changes_left = append_assoc changes (change ∷ []) (changes_from j (times_by e) (k + 1) rest) ∙ ap (λ z. changes ++ z) at_changes ∙ far.changes_left;
        rows_left = append_assoc news (new ∷ []) (new_rows_from j (row_with e) (k + 1) rest) ∙ ap (λ z. news ++ z) at_rows ∙ far.rows_left;
        work_left = sym (narrow_past (row_steps e here) (changes_steps j (row_steps e) rest) narrow) ∙ sym (at_work z) ∙ far.work_left;
      }

  -- an operation is too wide there
  pub far_wide : lacks ≡ false → is_narrow (row_steps e here) ≡ false → is_narrow (changes_steps (gone_column e) (row_steps e) rows) ≡ false
  far_wide z wide = sym far.work_left ∙ at_work z ∙ wide_part (row_steps e here) (changes_steps (gone_column e) (row_steps e) (drop (k + 1) rows)) wide

-- ---- the equation itself
-- the factor that counts of a row: none of the equation, which is emptied
pub factor_there : (e : Elimination) (rows : List SystemRow) (k : ℕ) (r : SystemRow) → k < length rows → r ≡ get_or rows k empty_system_row
    → factor_of (get_or (other_rows e rows) k empty_system_row).terms (gone_column e) ≡ cond (is_equation e k) zero_ℚ (factor_of r.terms (gone_column e))
factor_there (Value j v) rows k r l is = ap (λ (z : SystemRow). factor_of z.terms j) (sym is)
factor_there (Equation q) rows k r l is =
    let i = q.row in
    let j = q.gone.column in
    elim (cases_eq i k) [
      | inl p ↦
          (ap (λ (z : SystemRow). factor_of z.terms j) (subst (λ n. get_or (set rows i empty_system_row) n empty_system_row ≡ empty_system_row) p (get_or-set_same rows i empty_system_row empty_system_row (subst (λ n. n < length rows) (sym p) l)))
          ∙ sym (cond-true (i == k) zero_ℚ (factor_of r.terms j) (eq-eqb i k p)))
      | inr p ↦
          (ap (λ (z : SystemRow). factor_of z.terms j) (get_or-set_other rows i k empty_system_row empty_system_row (λ h. p (sym h)) ∙ sym is)
          ∙ sym (cond-false (i == k) zero_ℚ (factor_of r.terms j) (ne_eqb i k p)))
    ]

-- a row that is not emptied stands there
pub row_there : (e : Elimination) (rows : List SystemRow) (k : ℕ) (r : SystemRow) → r ≡ get_or rows k empty_system_row → is_equation e k ≡ false → get_or (other_rows e rows) k empty_system_row ≡ r
row_there (Value j v) rows k r is z = sym is
row_there (Equation q) rows k r is z =
    get_or-set_other rows q.row k empty_system_row empty_system_row (λ h. true≢false (sym (eq-eqb q.row k (sym h)) ∙ z)) ∙ sym is

-- as many rows
pub other_length : (e : Elimination) (rows : List SystemRow) → length (other_rows e rows) ≡ length rows
other_length (Value j v) rows = refl
other_length (Equation q) rows = length-set rows q.row empty_system_row

-- ---- what code does with a row
-- a factor that is not 0 is that of the row, which is not the equation
pub factor_counts : (b : Bool) (f g : ℚ) → f ≡ cond b zero_ℚ g → eq_ℚ f zero_ℚ ≡ false → (b ≡ false) × (f ≡ g)
factor_counts true f g e h = absurd (true≢false (sym ((eq-Decides f zero_ℚ).1 e) ∙ h))
factor_counts false f g e h = (refl, e)

module _ (e : Elimination) (rows : List Row) (k : ℕ) (row : Row) (f : ℚ) (changes : List Change) (news : List (At SystemRow)) (l : k < length rows) (is : row ≡ get_or rows k row)
    (left : f ≡ cond (is_equation e k) zero_ℚ (factor_of row.terms (gone_column e))) (far : IsFar e (other_rows e (map row_of rows)) k changes news) where
  abbrev all : List SystemRow
  all = other_rows e (map row_of rows)

  known : k < length (map row_of rows)
  known = subst (λ n. k < n) (sym (length-map rows row_of)) l

  there : k < length all
  there = subst (λ n. k < n) (sym (other_length e (map row_of rows))) known

  item : row_of row ≡ get_or (map row_of rows) k empty_system_row
  item = ap row_of is ∙ sym (get_or-map row_of rows k row empty_system_row l)

  factor_is : factor_of (get_or all k empty_system_row).terms (gone_column e) ≡ f
  factor_is = factor_there e (map row_of rows) k (row_of row) known item ∙ sym left

  lacks_is : eq_ℚ (factor_of (get_or all k empty_system_row).terms (gone_column e)) zero_ℚ ≡ eq_ℚ f zero_ℚ
  lacks_is = ap (λ z. eq_ℚ z zero_ℚ) factor_is

  pub row_passed : eq_ℚ f zero_ℚ ≡ true → IsFar e (other_rows e (map row_of rows)) (k + 1) changes news
  row_passed h = far_passed e all k changes news there far (lacks_is ∙ h)

  module _ (h : eq_ℚ f zero_ℚ ≡ false) where
    stands : get_or all k empty_system_row ≡ row_of row
    stands = row_there e (map row_of rows) k (row_of row) item (factor_counts (is_equation e k) f (factor_of row.terms (gone_column e)) left h).0

    pub row_wide : is_narrow (row_steps e (row_of row)) ≡ false → is_narrow (changes_steps (gone_column e) (row_steps e) (other_rows e (map row_of rows))) ≡ false
    row_wide w = far_wide e all k changes news there far (lacks_is ∙ h) (ap (λ (r : SystemRow). is_narrow (row_steps e r)) stands ∙ w)

    pub row_changed : (times : ℚ) (new : SystemRow) → times ≡ row_times e (row_of row) → new ≡ row_with e (row_of row) → is_narrow (row_steps e (row_of row)) ≡ true
        → IsFar e (other_rows e (map row_of rows)) (k + 1) (changes ++ record { row = k; factor = times } ∷ []) (news ++ record { number = k; item = new } ∷ [])
    row_changed times new t n narrow =
        let one : IsFar e all (k + 1) (changes ++ record { row = k; factor = row_times e (get_or all k empty_system_row) } ∷ []) (news ++ record { number = k; item = row_with e (get_or all k empty_system_row) } ∷ []) =
        far_made e all k changes news there far (lacks_is ∙ h) (ap (λ (r : SystemRow). is_narrow (row_steps e r)) stands ∙ narrow) in
        subst (λ (q : ℚ). IsFar e all (k + 1) (changes ++ record { row = k; factor = q } ∷ []) (news ++ record { number = k; item = new } ∷ [])) (ap (row_times e) stands ∙ sym t)
        (subst (λ (r : SystemRow). IsFar e all (k + 1) (changes ++ record { row = k; factor = row_times e (get_or all k empty_system_row) } ∷ []) (news ++ record { number = k; item = r } ∷ [])) (ap (row_with e) stands ∙ sym n) one)

-- all rows are passed
pub rows_end : (e : Elimination) (rows : List Row) (k : ℕ) (changes : List Change) (news : List (At SystemRow)) → length rows ≤ k → IsFar e (other_rows e (map row_of rows)) k changes news
    → AreChanged e (map row_of rows) changes news × (is_narrow (rows_steps e (map row_of rows)) ≡ true)
rows_end e rows k changes news l far =
    let j = gone_column e in
    let all = other_rows e (map row_of rows) in
    let none : drop k all ≡ [] = drop_all k all (subst (λ n. n ≤ k) (sym (other_length e (map row_of rows) ∙ length-map rows row_of)) l) in (
      record {
        changes_are = sym (append-nil changes) ∙ ap (λ rs. changes ++ changes_from j (times_by e) k rs) (sym none) ∙ far.changes_left;
        rows_are = sym (append-nil news) ∙ ap (λ rs. news ++ new_rows_from j (row_with e) k rs) (sym none) ∙ far.rows_left;
      },
      sym far.work_left ∙ ap (λ rs. is_narrow (changes_steps j (row_steps e) rs)) none ∙ narrow_nil,
    )
