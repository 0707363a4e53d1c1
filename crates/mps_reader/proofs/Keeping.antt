-- What is kept after one step more.
use Rattle.std.proofs.Common.{◌≡◌, ℕ, ◌+◌, ◌<◌, ◌≤◌, Bool, true, false, cond, not, nat_le, ◌&&◌, ◌||◌, List, [], ◌∷◌, ◌++◌, Option, Some, None, IfSome, unwrap_or, length, map, slice_get, refl, sym, ap, ◌∙◌, subst, arith, true≢false, length-append, append-nil}
use Rattle.std.specs.List.{All, list_any}
use Rattle.std.specs.Option.{option_map, option_map_or}
use Rattle.std.specs.Str.{bytes_eq}
use Rattle.std.proofs.lemmas.Slice.Eq.{bytes_eq-Decides}
use Rattle.std.proofs.lemmas.List.Elements.{All-push, filter-append}
use Rattle.std.proofs.lemmas.List.Folds.{list_any-append}
use Rattle.std.proofs.Math.Seq.{get_or-append_seam}
use Rattle.rational.specs.Rational.{ℚ}
use Rattle.lp_model.specs.Shown.{most_rows, most_columns, longest_name}
use Rattle.name_map.specs.Names.{StandsAt, name_at, names_of}
use Rattle.name_map.proofs.NameLists.{length_map, map_push}
use Rattle.mps_lines.specs.declared.shapes.RowKind.{RowKind}
use Rattle.mps_lines.specs.declared.shapes.BoundKind.{BoundKind}
use Rattle.mps_lines.specs.Shapes.{Figure, Bounded}
use Rattle.mps_reader.specs.Tables.{RowRecord, ColumnRecord, EntryRecord, is_free, is_entry_at}
use Rattle.mps_reader.specs.Held.{KeepsSense, KeepsRows, KeepsColumns, KeepsEntries, KeepsFigures, KeepsSettings, row_record, column_record, free_among, kept_among, is_free_among, is_dropped_among, is_at, is_entry_kept, entry_value}
use Rattle.mps_reader.proofs.Looks.{both_push, find_same, kept_stays, entry_stays_rows, entry_stays_columns, name_stays}

-- ---- the sense
pub sense_given : (said : List Bool) (greatest : Bool) → KeepsSense None said → KeepsSense (Some greatest) (said ++ greatest ∷ [])
sense_given [] greatest h = refl
sense_given (s ∷ said) greatest h = absurd (cc)

-- ---- one row more
abbrev row_of : List ℕ → RowKind → RowRecord
row_of name kind = record { name = name; kind = kind }

-- those of a kind with one row more
free_push : (said : List RowRecord) (name : List ℕ) (kind : RowKind) → free_among (said ++ row_of name kind ∷ []) ≡ free_among said ++ cond (is_free kind) (row_of name kind ∷ []) []
free_push said name kind = filter-append (λ (r : RowRecord). is_free r.kind) said (row_of name kind ∷ [])

kept_push : (said : List RowRecord) (name : List ℕ) (kind : RowKind) → kept_among (said ++ row_of name kind ∷ []) ≡ kept_among said ++ cond (not (is_free kind)) (row_of name kind ∷ []) []
kept_push said name kind = filter-append (λ (r : RowRecord). not (is_free r.kind)) said (row_of name kind ∷ [])

-- the first of rows, with one more
first_push : (fs : List RowRecord) (r : RowRecord) → option_map (λ (r : RowRecord). r.name) (slice_get (fs ++ r ∷ []) 0) ≡ Some (unwrap_or (option_map (λ (r : RowRecord). r.name) (slice_get fs 0)) r.name)
first_push [] r = refl
first_push (f ∷ fs) r = refl

module _ (rows : List (List ℕ × RowKind)) (free kept : ℕ) (objective : Option ℕ) (said : List RowRecord) (keeps : KeepsRows rows free kept objective said) (name : List ℕ) (short : length name ≤ longest_name) where
  -- the places of names grow
  names_push : (kind : RowKind) → names_of (rows ++ (name, kind) ∷ []) ≡ names_of rows ++ name ∷ []
  names_push kind = map_push (λ (e : List ℕ × RowKind). e.0) rows (name, kind)

  same_push : (kind : RowKind) → said ++ row_of name kind ∷ [] ≡ map row_record (rows ++ (name, kind) ∷ [])
  same_push kind = ap (λ (s : List RowRecord). s ++ row_of name kind ∷ []) keeps.same ∙ sym (map_push row_record rows (name, kind))

  short_push : (kind : RowKind) → All (λ n. length n ≤ longest_name) (names_of (rows ++ (name, kind) ∷ []))
  short_push kind = subst (All (λ n. length n ≤ longest_name)) (sym (names_push kind)) (All-push (λ n. length n ≤ longest_name) (names_of rows) name keeps.short short)

  named_stays : (k : ℕ) (kind : RowKind) → k < length rows → name_at (names_of (rows ++ (name, kind) ∷ [])) k ≡ name_at (names_of rows) k
  named_stays k kind h = ap (λ ns. name_at ns k) (names_push kind) ∙ name_stays (names_of rows) name k (subst (λ (n : ℕ). k < n) (sym (length_map (λ (e : List ℕ × RowKind). e.0) rows)) h)

  within_more : (o : Option ℕ) (kind : RowKind) → IfSome o (λ row. row < length rows) → IfSome o (λ row. row < length (rows ++ (name, kind) ∷ []))
  within_more None kind h = tt
  within_more (Some k) kind h = omega (arith, length-append rows ((name, kind) ∷ []))

  -- a row that is not free
  pub row_kept : (kind : RowKind) → is_free kind ≡ false → nat_le most_rows kept ≡ false → KeepsRows (rows ++ (name, kind) ∷ []) free (kept + 1) objective (said ++ row_of name kind ∷ [])
  row_kept kind is room = record {
    same = same_push kind;
    free_is = ap length free_same ∙ keeps.free_is;
    kept_is = ap length (kept_push said name kind ∙ ap (λ b. kept_among said ++ cond (not b) (row_of name kind ∷ []) []) is) ∙ length-append (kept_among said) (row_of name kind ∷ []) ∙ ap (λ (n : ℕ). n + 1) keeps.kept_is;
    objective_is = ap (λ (s : List RowRecord). option_map (λ r. r.name) (slice_get s 0)) free_same ∙ keeps.objective_is ∙ by objective keeps.objective_within;
    objective_within = within_more objective kind keeps.objective_within;
    few = grind (arith);
    short = short_push kind;
  }
    where
      free_same : free_among (said ++ row_of name kind ∷ []) ≡ free_among said
      free_same = free_push said name kind ∙ ap (λ b. free_among said ++ cond b (row_of name kind ∷ []) []) is ∙ append-nil (free_among said)

      by : (o : Option ℕ) → IfSome o (λ row. row < length rows) → option_map (name_at (names_of rows)) o ≡ option_map (name_at (names_of (rows ++ (name, kind) ∷ []))) o
      by None h = refl
      by (Some k) h = ap Some (sym (named_stays k kind h))

  -- a free one
  pub row_freed : (kind : RowKind) → is_free kind ≡ true → KeepsRows (rows ++ (name, kind) ∷ []) (free + 1) kept (Some (unwrap_or objective (length rows))) (said ++ row_of name kind ∷ [])
  row_freed kind is = record {
    same = same_push kind;
    free_is = ap length free_more ∙ length-append (free_among said) (row_of name kind ∷ []) ∙ ap (λ (n : ℕ). n + 1) keeps.free_is;
    kept_is = ap length (kept_push said name kind ∙ ap (λ b. kept_among said ++ cond (not b) (row_of name kind ∷ []) []) is ∙ append-nil (kept_among said)) ∙ keeps.kept_is;
    objective_is = ap (λ (s : List RowRecord). option_map (λ r. r.name) (slice_get s 0)) free_more ∙ first_push (free_among said) (row_of name kind) ∙ ap (λ o. Some (unwrap_or o name)) keeps.objective_is ∙ by objective keeps.objective_within;
    objective_within = within objective keeps.objective_within;
    few = keeps.few;
    short = short_push kind;
  }
    where
      free_more : free_among (said ++ row_of name kind ∷ []) ≡ free_among said ++ row_of name kind ∷ []
      free_more = free_push said name kind ∙ ap (λ b. free_among said ++ cond b (row_of name kind ∷ []) []) is

      by : (o : Option ℕ) → IfSome o (λ row. row < length rows) → Some (unwrap_or (option_map (name_at (names_of rows)) o) name) ≡ Some (name_at (names_of (rows ++ (name, kind) ∷ [])) (unwrap_or o (length rows)))
      by None h = ap Some (sym (ap (λ ns. name_at ns (length rows)) (names_push kind) ∙ ap (λ (n : ℕ). name_at (names_of rows ++ name ∷ []) n) (sym (length_map (λ (e : List ℕ × RowKind). e.0) rows)) ∙ get_or-append_seam (names_of rows) name [] []))
      by (Some k) h = ap Some (sym (named_stays k kind h))

      within : (o : Option ℕ) → IfSome o (λ row. row < length rows) → unwrap_or o (length rows) < length (rows ++ (name, kind) ∷ [])
      within None h = omega (arith, length-append rows ((name, kind) ∷ []))
      within (Some k) h = omega (arith, length-append rows ((name, kind) ∷ []))

-- ---- what a row more does to other tables
or_false : (a b : Bool) → (a || b) ≡ false → a ≡ false
or_false true b h = absurd (true≢false h)
or_false false b h = refl

-- a row that is not free with one more is not free without
pub not_free_before : (said : List RowRecord) (name : List ℕ) (kind : RowKind) (row : List ℕ) → is_free_among (said ++ row_of name kind ∷ []) row ≡ false → is_free_among said row ≡ false
not_free_before said name kind row h =
    or_false (is_free_among said row) (list_any (λ (r : RowRecord). bytes_eq row r.name) (cond (is_free kind) (row_of name kind ∷ []) []))
    (sym (ap (λ (s : List RowRecord). list_any (λ r. bytes_eq row r.name) s) (free_push said name kind) ∙ list_any-append (λ (r : RowRecord). bytes_eq row r.name) (free_among said) (cond (is_free kind) (row_of name kind ∷ []) [])) ∙ h)

-- and one that is not dropped with one more is not dropped without
pub not_dropped_before : (said : List RowRecord) (name : List ℕ) (kind : RowKind) (row : List ℕ) → is_dropped_among (said ++ row_of name kind ∷ []) row ≡ false → is_dropped_among said row ≡ false
not_dropped_before said name kind row h = by (free_among said) (sym (ap dropped (free_push said name kind)) ∙ h)
  where
    dropped : List RowRecord → Bool
    dropped fs = list_any (λ r. bytes_eq row r.name) fs && not (option_map_or (bytes_eq row) (option_map (λ r. r.name) (slice_get fs 0)) false)

    last : (a b c : Bool) → ((a || b) && not c) ≡ false → (a && not c) ≡ false
    last true b c h = h
    last false b c h = refl

    by : (fs : List RowRecord) → dropped (fs ++ cond (is_free kind) (row_of name kind ∷ []) []) ≡ false → dropped fs ≡ false
    by [] h = refl
    by (f ∷ fs) h =
        last (bytes_eq row f.name || list_any (λ r. bytes_eq row r.name) fs) (list_any (λ r. bytes_eq row r.name) (cond (is_free kind) (row_of name kind ∷ []) [])) (bytes_eq row f.name)
        (ap (λ b. b && not (bytes_eq row f.name)) (sym (list_any-append (λ (r : RowRecord). bytes_eq row r.name) (f ∷ fs) (cond (is_free kind) (row_of name kind ∷ []) []))) ∙ h)

below_more : {V : Type 0} (names : List (List ℕ)) (x : List ℕ) (table : List (ℕ × V)) → All (λ e. e.0 < length names) table → All (λ e. e.0 < length (names ++ x ∷ [])) table
below_more names x table h = λ k d lt. let p = h k d lt in omega (arith, length-append names (x ∷ []))

-- figures with a row more
pub figures_stay : {V W : Type 0} (value : List ℕ → W) (show : V → W) (declared : List RowRecord) (rows : List (List ℕ)) (table : List (ℕ × V)) (said : List Figure) (name : List ℕ) (kind : RowKind)
    → KeepsFigures value show declared rows table said → KeepsFigures value show (declared ++ row_of name kind ∷ []) (rows ++ name ∷ []) table said
figures_stay {V} {W} value show declared rows table said name kind keeps = record {
  found = λ row h. keeps.found row (not_free_before declared name kind row h) ∙ ap (option_map (λ (e : ℕ × V). show e.1)) (sym (kept_stays rows name row table keeps.within));
  within = below_more rows name table keeps.within;
}

-- entries with a row more
pub entries_stay_rows : (declared : List RowRecord) (rows columns : List (List ℕ)) (entries : List ((ℕ × ℕ) × ℚ)) (count : ℕ) (said : List EntryRecord) (name : List ℕ) (kind : RowKind)
    → KeepsEntries declared rows columns entries count said → KeepsEntries (declared ++ row_of name kind ∷ []) (rows ++ name ∷ []) columns entries count said
entries_stay_rows declared rows columns entries count said name kind keeps = record {
  count_is = keeps.count_is;
  found = λ column row h. keeps.found column row (not_dropped_before declared name kind row h) ∙ ap (option_map (λ (e : (ℕ × ℕ) × ℚ). e.1)) (sym (entry_stays_rows rows columns name column row entries keeps.within));
  within = λ k d lt. let p = keeps.within k d lt in (omega (arith, length-append rows (name ∷ [])), p.1);
}

-- ---- one column more
module _ (columns : List (List ℕ × Bool)) (name : List ℕ) (whole : Bool) where
  column_names_push : names_of (columns ++ (name, whole) ∷ []) ≡ names_of columns ++ name ∷ []
  column_names_push = map_push (λ (e : List ℕ × Bool). e.0) columns (name, whole)

  pub column_put : (said : List ColumnRecord) → KeepsColumns columns said → length name ≤ longest_name → length columns < most_columns
      → KeepsColumns (columns ++ (name, whole) ∷ []) (said ++ (let c : ColumnRecord = record { name = name; whole = whole } in c) ∷ [])
  column_put said keeps short room = record {
    same = ap (λ (s : List ColumnRecord). s ++ (let c : ColumnRecord = record { name = name; whole = whole } in c) ∷ []) keeps.same ∙ sym (map_push column_record columns (name, whole));
    few = omega (arith, length-append columns ((name, whole) ∷ []));
    short = subst (All (λ n. length n ≤ longest_name)) (sym column_names_push) (All-push (λ n. length n ≤ longest_name) (names_of columns) name keeps.short short);
  }

-- entries with a column more
pub entries_stay_columns : (declared : List RowRecord) (rows columns : List (List ℕ)) (entries : List ((ℕ × ℕ) × ℚ)) (count : ℕ) (said : List EntryRecord) (name : List ℕ)
    → KeepsEntries declared rows columns entries count said → KeepsEntries declared rows (columns ++ name ∷ []) entries count said
entries_stay_columns declared rows columns entries count said name keeps = record {
  count_is = keeps.count_is;
  found = λ column row h. keeps.found column row h ∙ ap (option_map (λ (e : (ℕ × ℕ) × ℚ). e.1)) (sym (entry_stays_columns rows columns name column row entries keeps.within));
  within = λ k d lt. let p = keeps.within k d lt in (p.0, omega (arith, length-append columns (name ∷ [])));
}

-- settings with a column more
pub settings_stay : {V : Type 0} (sets : BoundKind → Bool) (value : Bounded → V) (columns : List (List ℕ)) (table : List (ℕ × V)) (said : List Bounded) (name : List ℕ)
    → KeepsSettings sets value columns table said → KeepsSettings sets value (columns ++ name ∷ []) table said
settings_stay {V} sets value columns table said name keeps = record {
  found = λ column. keeps.found column ∙ ap (option_map (λ (e : ℕ × V). e.1)) (sym (kept_stays columns name column table keeps.within));
  within = below_more columns name table keeps.within;
}

-- ---- one entry more
module _ (declared : List RowRecord) (rows columns : List (List ℕ)) (entries : List ((ℕ × ℕ) × ℚ)) (count : ℕ) (said : List EntryRecord) (keeps : KeepsEntries declared rows columns entries count said) (e : EntryRecord) where
  count_more : length (said ++ e ∷ []) ≡ count + 1
  count_more = length-append said (e ∷ []) ∙ ap (λ (n : ℕ). n + 1) keeps.count_is

  -- in a row that is dropped
  pub entry_counted : is_dropped_among declared e.row ≡ true → KeepsEntries declared rows columns entries (count + 1) (said ++ e ∷ [])
  entry_counted dropped = record {
    count_is = count_more;
    found = λ column row h. find_same entry_value (is_entry_at column row) said e (by column row h (bytes_eq column e.column) (bytes_eq row e.row) refl) ∙ keeps.found column row h;
    within = keeps.within;
  }
    where
      by : (column row : List ℕ) → is_dropped_among declared row ≡ false → (a b : Bool) → bytes_eq row e.row ≡ b → (a && b) ≡ false
      by column row h true true is = absurd (true≢false (sym dropped ∙ ap (is_dropped_among declared) (sym ((bytes_eq-Decides row e.row).0 is)) ∙ h))
      by column row h true false is = refl
      by column row h false b is = refl

  -- in one that is not
  pub entry_put : (row column : ℕ) (value : ℚ) → StandsAt rows e.row row → column < length columns → name_at columns column ≡ e.column → entry_value e ≡ value → KeepsEntries declared rows columns (entries ++ ((row, column), value) ∷ []) (count + 1) (said ++ e ∷ [])
  entry_put row column value at inside named is = record {
    count_is = count_more;
    found = λ c r h. both_push entry_value (is_entry_at c r) said e (λ (x : (ℕ × ℕ) × ℚ). x.1) (is_entry_kept rows columns c r) entries ((row, column), value) (keeps.found c r h)
        (λ i. bytes_eq c (sym named i) && bytes_eq r (sym at.named i)) is;
    within = All-push (λ x. (x.0.0 < length rows) × (x.0.1 < length columns)) entries ((row, column), value) keeps.within (at.within, inside);
  }

-- ---- one figure more
module _ {V W : Type 0} (value : List ℕ → W) (show : V → W) (declared : List RowRecord) (rows : List (List ℕ)) (table : List (ℕ × V)) (said : List Figure) (keeps : KeepsFigures value show declared rows table said) (f : Figure) where
  -- of a free row
  pub figure_passed : is_free_among declared f.row ≡ true → KeepsFigures value show declared rows table (said ++ f ∷ [])
  figure_passed free = record {
    found = λ row h. find_same (λ (f : Figure). value f.number) (λ f. bytes_eq row f.row) said f (by row h (bytes_eq row f.row) refl) ∙ keeps.found row h;
    within = keeps.within;
  }
    where
      by : (row : List ℕ) → is_free_among declared row ≡ false → (b : Bool) → bytes_eq row f.row ≡ b → b ≡ false
      by row h true is = absurd (true≢false (sym free ∙ ap (is_free_among declared) (sym ((bytes_eq-Decides row f.row).0 is)) ∙ h))
      by row h false is = refl

  -- of another
  pub figure_put : (row : ℕ) (v : V) → StandsAt rows f.row row → value f.number ≡ show v → KeepsFigures value show declared rows (table ++ (row, v) ∷ []) (said ++ f ∷ [])
  figure_put row v at is = record {
    found = λ r h. both_push (λ (f : Figure). value f.number) (λ f. bytes_eq r f.row) said f (λ (x : ℕ × V). show x.1) (is_at rows r) table (row, v) (keeps.found r h) (ap (bytes_eq r) (sym at.named)) is;
    within = All-push (λ x. x.0 < length rows) table (row, v) keeps.within at.within;
  }

-- ---- one bound more
module _ {V : Type 0} (sets : BoundKind → Bool) (value : Bounded → V) (columns : List (List ℕ)) (table : List (ℕ × V)) (said : List Bounded) (keeps : KeepsSettings sets value columns table said) (b : Bounded) where
  -- of a kind that does not set it
  pub setting_passed : sets b.kind ≡ false → KeepsSettings sets value columns table (said ++ b ∷ [])
  setting_passed is = record {
    found = λ column. find_same value (λ (b : Bounded). bytes_eq column b.column && sets b.kind) said b (by (bytes_eq column b.column) (sets b.kind) is) ∙ keeps.found column;
    within = keeps.within;
  }
    where
      by : (a c : Bool) → c ≡ false → (a && c) ≡ false
      by true c h = h
      by false c h = refl

  -- of one that does
  pub setting_put : (column : ℕ) (v : V) → StandsAt columns b.column column → sets b.kind ≡ true → value b ≡ v → KeepsSettings sets value columns (table ++ (column, v) ∷ []) (said ++ b ∷ [])
  setting_put column v at is same = record {
    found = λ c. both_push value (λ (b : Bounded). bytes_eq c b.column && sets b.kind) said b (λ (x : ℕ × V). x.1) (is_at columns c) table (column, v) (keeps.found c)
        ((λ i. bytes_eq c (sym at.named i) && is i) ∙ by (bytes_eq c (name_at columns column))) same;
    within = All-push (λ x. x.0 < length columns) table (column, v) keeps.within at.within;
  }
    where
      by : (a : Bool) → (a && true) ≡ a
      by true = refl
      by false = refl
