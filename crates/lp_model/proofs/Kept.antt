-- What each part that is added keeps.
use Rattle.std.proofs.Common.{◌≡◌, ◌≢◌, ◌<◌, ◌≤◌, ◌+◌, sym, ◌∙◌, subst, ℕ, Bool, false, true≢false, List, [], ◌∷◌, ◌++◌, length, map, get_or, arith, length-append}
use Rattle.std.specs.Str.{bytes_eq}
use Rattle.std.proofs.lemmas.List.{length-map}
use Rattle.std.proofs.lemmas.List.Elements.{All-push, All-weaker}
use Rattle.std.proofs.lemmas.List.Folds.{list_any_at}
use Rattle.std.proofs.lemmas.List.Quantifiers.{all_pairs_push}
use Rattle.std.proofs.lemmas.Slice.Eq.{bytes_eq-Decides}
use Rattle.name_map.proofs.NameLists.{any_map}
use Rattle.rational.specs.Linear.{Term}
use Rattle.lp_model.specs.Program.{Program, NamedRow, NamedColumn, Note, noted_column, IsForm, IsWellFormedRow, IsWellFormedColumn}
use Rattle.lp_model.specs.Shown.{IsKept, CanAdd, row_names, column_names, with_more_row, with_more_column, is_named, most_rows, most_columns}

-- a list and one element more
length_more : {X : Type 0} (xs : List X) (x : X) → length (xs ++ x ∷ []) ≡ length xs + 1
length_more xs x = length-append xs (x ∷ [])

-- a name that is not among those of a list differs from each
fresh_differs : {X : Type 0} (name : X → List ℕ) (xs : List X) (new : List ℕ) → is_named (map name xs) new ≡ false → (k : ℕ) (d : X) → k < length xs → name (get_or xs k d) ≢ new
fresh_differs name xs new fresh k d h e =
    true≢false
    (sym (list_any_at (λ x. bytes_eq new (name x)) xs k d h ((bytes_eq-Decides new (name (get_or xs k d))).1 (sym e)))
    ∙ (sym (any_map (bytes_eq new) name xs) ∙ fresh))

-- a form stays one where there are more columns
form_wider : (n m : ℕ) (terms : List Term) → n ≤ m → IsForm n terms → IsForm m terms
form_wider n m terms le f = record {
  ascending = f.ascending;
  known = All-weaker (λ t. t.column < n) (λ t. t.column < m) (λ t h. omega arith) terms f.known;
  nonzero = f.nonzero;
}

-- one row more
pub kept_row : (model : Program) (row : NamedRow) → IsKept model → IsWellFormedRow (length model.columns) row → CanAdd (row_names model) most_rows row.name → IsKept (with_more_row model row)
kept_row model row kept fits can =
    let w = kept.well_formed in
    let room : length model.rows < most_rows = subst (λ (n : ℕ). n < most_rows) (length-map model.rows (λ r. r.name)) can.room in
    record {
      well_formed = record {
        rows = All-push (IsWellFormedRow (length model.columns)) model.rows row w.rows fits;
        columns = w.columns;
        objective = w.objective;
        notes = w.notes;
        row_names = all_pairs_push (λ r s. r.name ≢ s.name) model.rows row w.row_names (fresh_differs (λ r. r.name) model.rows row.name can.fresh);
        column_names = w.column_names;
      };
      few_rows = omega (arith, length_more model.rows row);
      few_columns = kept.few_columns;
    }

-- one column more
pub kept_column : (model : Program) (column : NamedColumn) → IsKept model → IsWellFormedColumn column → CanAdd (column_names model) most_columns column.name → IsKept (with_more_column model column)
kept_column model column kept fits can =
    let w = kept.well_formed in
    let n = length model.columns in
    let m = length (model.columns ++ column ∷ []) in
    let more : n ≤ m = omega (arith, length_more model.columns column) in
    let room : n < most_columns = subst (λ (k : ℕ). k < most_columns) (length-map model.columns (λ c. c.name)) can.room in
    record {
      well_formed = record {
        rows = All-weaker (IsWellFormedRow n) (IsWellFormedRow m) (λ r h. record { form = form_wider n m r.terms more h.form; lower_weight = h.lower_weight; upper_weight = h.upper_weight; no_lower = h.no_lower; no_upper = h.no_upper }) model.rows w.rows;
        columns = All-push IsWellFormedColumn model.columns column w.columns fits;
        objective = form_wider n m model.objective more w.objective;
        notes = All-weaker (λ note. noted_column note < n) (λ note. noted_column note < m) (λ note h. omega arith) model.notes w.notes;
        row_names = w.row_names;
        column_names = all_pairs_push (λ c d. c.name ≢ d.name) model.columns column w.column_names (fresh_differs (λ c. c.name) model.columns column.name can.fresh);
      };
      few_rows = kept.few_rows;
      few_columns = omega (arith, length_more model.columns column);
    }

-- another objective
pub kept_objective : (model : Program) (terms : List Term) (maximise : Bool) → IsKept model → IsForm (length model.columns) terms → IsKept (record model { objective = terms; maximise = maximise })
kept_objective model terms maximise kept form =
    let w = kept.well_formed in
    record {
      well_formed = record { rows = w.rows; columns = w.columns; objective = form; notes = w.notes; row_names = w.row_names; column_names = w.column_names };
      few_rows = kept.few_rows;
      few_columns = kept.few_columns;
    }

-- one note more
pub kept_note : (model : Program) (note : Note) → IsKept model → noted_column note < length model.columns → IsKept (record model { notes = model.notes ++ note ∷ [] })
kept_note model note kept known =
    let w = kept.well_formed in
    record {
      well_formed = record {
        rows = w.rows;
        columns = w.columns;
        objective = w.objective;
        notes = All-push (λ n. noted_column n < length model.columns) model.notes note w.notes known;
        row_names = w.row_names;
        column_names = w.column_names;
      };
      few_rows = kept.few_rows;
      few_columns = kept.few_columns;
    }
