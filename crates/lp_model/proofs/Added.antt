-- What a new name gives the program that the code's lists show.
use Rattle.std.proofs.Common.{◌≡◌, sym, ◌∙◌, ap, subst, ℕ, List, [], ◌∷◌, ◌++◌, length, map, Result, Ok, Err, MatchResult}
use Rattle.std.specs.Prelude.{OnErr}
use Rattle.std.proofs.lemmas.List.{length-map}
use Rattle.name_map.specs.Names.{names_of}
use Rattle.name_map.proofs.NameLists.{map_push}
use Rattle.lp_model.specs.declared.models.ModelStop.{ModelStop}
use Rattle.lp_model.specs.declared.parts.Row.{Row}
use Rattle.lp_model.specs.declared.parts.Column.{Column}
use Rattle.lp_model.specs.Program.{Program, NamedRow, NamedColumn, IsWellFormedRow, IsWellFormedColumn}
use Rattle.lp_model.specs.Shown.{IsKept, CanAdd, row_names, column_names, with_more_row, with_more_column, named_row, named_column, most_rows, most_columns}
use Rattle.lp_model.specs.Refusals.{IsAddRefusal}
use Rattle.lp_model.proofs.Kept.{kept_row, kept_column}
use Rattle.lp_model.proofs.Read.{map_twice}

-- the answer to a new name among the entries of a map
abbrev pub Answers : {V : Type 0} → ℕ → List (List ℕ × V) → List (List ℕ × V) → List ℕ → V → Result ℕ ModelStop → Type 0
Answers most old new name value r =
    MatchResult r (λ i. CanAdd (names_of old) most name × (i ≡ length old) × (new ≡ old ++ (name, value) ∷ [])) (λ stop. IsAddRefusal (names_of old) most name stop)

-- ---- rows
-- the program with the rows of these entries
abbrev pub with_rows : Program → List (List ℕ × Row) → Program
with_rows model es = record model { rows = map (λ e. named_row e.0 e.1) es }

-- their names are those of the entries
row_names_are : (model : Program) (es : List (List ℕ × Row)) → row_names (with_rows model es) ≡ names_of es
row_names_are model es = map_twice (λ (r : NamedRow). r.name) (λ e. named_row e.0 e.1) es

-- one entry more is one row more
row_more : (model : Program) (es : List (List ℕ × Row)) (name : List ℕ) (row : Row) → with_rows model (es ++ (name, row) ∷ []) ≡ with_more_row (with_rows model es) (named_row name row)
row_more model es name row = ap (λ (rs : List NamedRow). let p : Program = record model { rows = rs } in p) (map_push (λ e. named_row e.0 e.1) es (name, row))

-- what is kept is kept
pub kept_new_row : (model : Program) (old new : List (List ℕ × Row)) (name : List ℕ) (row : Row) (r : Result ℕ ModelStop) → IsKept (with_rows model old) → IsWellFormedRow (length model.columns) (named_row name row) → Answers most_rows old new name row r → OnErr r (new ≡ old) → IsKept (with_rows model new)
kept_new_row model old new name row (Ok i) kept fits answer same =
    let can = subst (λ (ns : List (List ℕ)). CanAdd ns most_rows name) (sym (row_names_are model old)) answer.0 in
    subst IsKept (sym (ap (with_rows model) answer.2 ∙ row_more model old name row))
    (kept_row (with_rows model old) (named_row name row) kept fits can)
kept_new_row model old new name row (Err stop) kept fits answer same = subst (λ (es : List (List ℕ × Row)). IsKept (with_rows model es)) (sym same) kept

-- the answer, of the programs
pub answer_new_row : (model : Program) (old new : List (List ℕ × Row)) (name : List ℕ) (row : Row) (r : Result ℕ ModelStop) → Answers most_rows old new name row r
    → MatchResult r (λ i. CanAdd (row_names (with_rows model old)) most_rows name × (i ≡ length (with_rows model old).rows) × (with_rows model new ≡ with_more_row (with_rows model old) (named_row name row))) (λ stop. IsAddRefusal (row_names (with_rows model old)) most_rows name stop)
answer_new_row model old new name row (Ok i) answer = (
  subst (λ (ns : List (List ℕ)). CanAdd ns most_rows name) (sym (row_names_are model old)) answer.0,
  answer.1 ∙ sym (length-map old (λ e. named_row e.0 e.1)),
  ap (with_rows model) answer.2 ∙ row_more model old name row,
)
answer_new_row model old new name row (Err stop) answer = subst (λ (ns : List (List ℕ)). IsAddRefusal ns most_rows name stop) (sym (row_names_are model old)) answer

-- ---- columns
-- the program with the columns of these entries
abbrev pub with_columns : Program → List (List ℕ × Column) → Program
with_columns model es = record model { columns = map (λ e. named_column e.0 e.1) es }

-- their names are those of the entries
column_names_are : (model : Program) (es : List (List ℕ × Column)) → column_names (with_columns model es) ≡ names_of es
column_names_are model es = map_twice (λ (r : NamedColumn). r.name) (λ e. named_column e.0 e.1) es

-- one entry more is one column more
column_more : (model : Program) (es : List (List ℕ × Column)) (name : List ℕ) (column : Column) → with_columns model (es ++ (name, column) ∷ []) ≡ with_more_column (with_columns model es) (named_column name column)
column_more model es name column = ap (λ (rs : List NamedColumn). let p : Program = record model { columns = rs } in p) (map_push (λ e. named_column e.0 e.1) es (name, column))

-- what is kept is kept
pub kept_new_column : (model : Program) (old new : List (List ℕ × Column)) (name : List ℕ) (column : Column) (r : Result ℕ ModelStop) → IsKept (with_columns model old) → IsWellFormedColumn (named_column name column) → Answers most_columns old new name column r → OnErr r (new ≡ old) → IsKept (with_columns model new)
kept_new_column model old new name column (Ok i) kept fits answer same =
    let can = subst (λ (ns : List (List ℕ)). CanAdd ns most_columns name) (sym (column_names_are model old)) answer.0 in
    subst IsKept (sym (ap (with_columns model) answer.2 ∙ column_more model old name column))
    (kept_column (with_columns model old) (named_column name column) kept fits can)
kept_new_column model old new name column (Err stop) kept fits answer same = subst (λ (es : List (List ℕ × Column)). IsKept (with_columns model es)) (sym same) kept

-- the answer, of the programs
pub answer_new_column : (model : Program) (old new : List (List ℕ × Column)) (name : List ℕ) (column : Column) (r : Result ℕ ModelStop) → Answers most_columns old new name column r
    → MatchResult r (λ i. CanAdd (column_names (with_columns model old)) most_columns name × (i ≡ length (with_columns model old).columns) × (with_columns model new ≡ with_more_column (with_columns model old) (named_column name column))) (λ stop. IsAddRefusal (column_names (with_columns model old)) most_columns name stop)
answer_new_column model old new name column (Ok i) answer = (
  subst (λ (ns : List (List ℕ)). CanAdd ns most_columns name) (sym (column_names_are model old)) answer.0,
  answer.1 ∙ sym (length-map old (λ e. named_column e.0 e.1)),
  ap (with_columns model) answer.2 ∙ column_more model old name column,
)
answer_new_column model old new name column (Err stop) answer = subst (λ (ns : List (List ℕ)). IsAddRefusal ns most_columns name stop) (sym (column_names_are model old)) answer
