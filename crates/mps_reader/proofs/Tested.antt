-- What the tests of steps read, by names, and what the code reads, by places.
use Rattle.std.proofs.Common.{◌≡◌, ◌≢◌, ℕ, ◌<◌, Bool, true, false, cond, not, nat_eq, ◌&&◌, List, [], ◌∷◌, Option, Some, None, IfSome, length, map, get_or, refl, sym, ap, ◌∙◌, subst}
use Rattle.std.specs.List.{find, list_any}
use Rattle.std.specs.Option.{option_map, option_map_or}
use Rattle.std.specs.Str.{bytes_eq}
use Rattle.std.proofs.lemmas.List.{get_or-map}
use Rattle.std.proofs.lemmas.Slice.Eq.{bytes_eq-Decides}
use Rattle.std.proofs.lemmas.Bool.{ne_eqb}
use Rattle.name_map.specs.Names.{StandsAt, name_at, names_of}
use Rattle.name_map.proofs.NameLists.{length_map}
use Rattle.text_fields.specs.declared.faults.ReadKind.{ReadKind}
use Rattle.mps_lines.specs.declared.shapes.RowKind.{RowKind}
use Rattle.mps_lines.specs.declared.shapes.RowKind.TheVariants.{Free}
use Rattle.mps_reader.specs.Tables.{RowRecord, ColumnRecord, is_free}
use Rattle.mps_reader.specs.Faults.{first_true}
use Rattle.mps_reader.specs.Held.{KeepsRows, KeepsColumns, row_record, column_record, is_free_among, objective_among, is_dropped_among}
use Rattle.mps_reader.proofs.Looks.{any_at, find_at}

-- ---- tests in order
-- a test that is true decides
pub hits : (kind : ReadKind) (rest : List (Bool × ReadKind)) (b : Bool) → b ≡ true → first_true ((b, kind) ∷ rest) ≡ Some kind
unfolding first_true
hits kind rest b e = ap (λ b. cond b (Some kind) (first_true rest)) e

-- and one that is false does not
pub passes : (kind : ReadKind) (rest : List (Bool × ReadKind)) {found : Option ReadKind} (b : Bool) → b ≡ false → first_true rest ≡ found → first_true ((b, kind) ∷ rest) ≡ found
unfolding first_true
passes kind rest b e more = ap (λ b. cond b (Some kind) (first_true rest)) e ∙ more

-- at the end there is none
pub ends : first_true [] ≡ None
unfolding first_true
ends = refl

-- ---- names
-- the names of rows that are kept
pub row_names_same : (rows : List (List ℕ × RowKind)) → map (λ (r : RowRecord). r.name) (map row_record rows) ≡ names_of rows
row_names_same [] = refl
row_names_same (r ∷ rows) = ap (λ l. r.0 ∷ l) (row_names_same rows)

-- and of columns
pub column_names_same : (columns : List (List ℕ × Bool)) → map (λ (c : ColumnRecord). c.name) (map column_record columns) ≡ names_of columns
column_names_same [] = refl
column_names_same (c ∷ columns) = ap (λ l. c.0 ∷ l) (column_names_same columns)

-- ---- a row that stands at a place
module _ (rows : List (List ℕ × RowKind)) (free kept : ℕ) (objective : Option ℕ) (said : List RowRecord) (keeps : KeepsRows rows free kept objective said) where
  -- its name is among those that are said exactly where it is among those that are kept
  pub row_is_named : (name : List ℕ) → list_any (bytes_eq name) (map (λ (r : RowRecord). r.name) said) ≡ list_any (bytes_eq name) (names_of rows)
  row_is_named name = ap (λ (s : List RowRecord). list_any (bytes_eq name) (map (λ r. r.name) s)) keeps.same ∙ ap (list_any (bytes_eq name)) (row_names_same rows)

  module _ (name : List ℕ) (row : ℕ) (at : StandsAt (names_of rows) name row) where
    abbrev pub kind : RowKind
    kind = get_or (map (λ (e : List ℕ × RowKind). e.1) rows) row Free

    -- the record of a row where there is none
    abbrev none : RowRecord
    none = record { name = []; kind = Free }

    within : row < length (map row_record rows)
    within = subst (λ (n : ℕ). row < n) (length_map (λ (e : List ℕ × RowKind). e.0) rows ∙ sym (length_map row_record rows)) at.within

    below : row < length rows
    below = subst (λ (n : ℕ). row < n) (length_map row_record rows) within

    -- the name of the record at a place
    name_there : (k : ℕ) → k < length rows → (get_or (map row_record rows) k none).name ≡ name_at (names_of rows) k
    name_there k h = ap (λ (r : RowRecord). r.name) (get_or-map row_record rows k ([], Free) none h) ∙ sym (get_or-map (λ (e : List ℕ × RowKind). e.0) rows k ([], Free) [] h)

    kind_there : (get_or (map row_record rows) row none).kind ≡ kind
    kind_there = ap (λ (r : RowRecord). r.kind) (get_or-map row_record rows row ([], Free) none below) ∙ sym (get_or-map (λ (e : List ℕ × RowKind). e.1) rows row ([], Free) Free below)

    there : bytes_eq name (get_or (map row_record rows) row none).name ≡ true
    there = ap (bytes_eq name) (name_there row below) ∙ (bytes_eq-Decides name (name_at (names_of rows) row)).1 (sym at.named)

    elsewhere : (k : ℕ) → k < length (map row_record rows) → k ≢ row → bytes_eq name (get_or (map row_record rows) k none).name ≡ false
    elsewhere k h other =
        let lt : k < length rows = subst (λ (n : ℕ). k < n) (length_map row_record rows) h in
        ap (bytes_eq name) (name_there k lt) ∙ at.alone k (subst (λ (n : ℕ). k < n) (sym (length_map (λ (e : List ℕ × RowKind). e.0) rows)) lt) ∙ ne_eqb row k (λ e. other (sym e))

    -- it is free by its kind
    pub free_at : is_free_among said name ≡ is_free kind
    free_at = ap (λ (s : List RowRecord). is_free_among s name) keeps.same
        ∙ any_at (λ (r : RowRecord). bytes_eq name r.name) (λ r. is_free r.kind) (map row_record rows) row none within there elsewhere
        ∙ ap is_free kind_there

    -- its kind is found by its name
    pub kind_at : option_map (λ (r : RowRecord). r.kind) (find (λ r. bytes_eq name r.name) said) ≡ Some kind
    kind_at = ap (λ (s : List RowRecord). option_map (λ r. r.kind) (find (λ r. bytes_eq name r.name) s)) keeps.same
        ∙ ap (option_map (λ (r : RowRecord). r.kind)) (find_at (λ (r : RowRecord). bytes_eq name r.name) (map row_record rows) row none within there elsewhere)
        ∙ ap Some kind_there

    -- whether it is the objective
    objective_at : option_map_or (bytes_eq name) (objective_among said) false ≡ option_map_or (nat_eq row) objective false
    objective_at = ap (λ o. option_map_or (bytes_eq name) o false) keeps.objective_is ∙ by objective keeps.objective_within
      where
        by : (o : Option ℕ) → IfSome o (λ row. row < length rows) → option_map_or (bytes_eq name) (option_map (name_at (names_of rows)) o) false ≡ option_map_or (nat_eq row) o false
        by None h = refl
        by (Some k) h = at.alone k (subst (λ (n : ℕ). k < n) (sym (length_map (λ (e : List ℕ × RowKind). e.0) rows)) h)

    -- it is dropped where it is free and not the objective
    pub dropped_at : is_dropped_among said name ≡ (is_free kind && not (option_map_or (nat_eq row) objective false))
    dropped_at = λ i. free_at i && not (objective_at i)

-- the same of columns
pub column_is_named : (columns : List (List ℕ × Bool)) (said : List ColumnRecord) → KeepsColumns columns said → (name : List ℕ) → list_any (bytes_eq name) (map (λ (c : ColumnRecord). c.name) said) ≡ list_any (bytes_eq name) (names_of columns)
column_is_named columns said keeps name = ap (λ (s : List ColumnRecord). list_any (bytes_eq name) (map (λ c. c.name) s)) keeps.same ∙ ap (list_any (bytes_eq name)) (column_names_same columns)
