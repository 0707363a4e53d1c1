-- Readers that have taken one step more.
use Rattle.std.proofs.Common.{◌≡◌, ℕ, ◌+◌, ◌<◌, ◌≤◌, Bool, true, false, cond, not, nat_eq, nat_le, nat_lt, ◌&&◌, ◌||◌, List, [], ◌∷◌, ◌++◌, Option, Some, None, is_some, unwrap_or, length, map, refl, sym, ap, ◌∙◌, subst, arith, true≢false, ltb, eq-eqb, length-append}
use Rattle.std.specs.List.{All, list_any}
use Rattle.std.proofs.lemmas.List.Elements.{All-nil, All-cons}
use Rattle.std.proofs.lemmas.List.Folds.{list_any-append}
use Rattle.std.proofs.lemmas.Slice.Eq.{bytes_eq-Decides}
use Rattle.std.proofs.lemmas.Bool.Decides.{nat_tests}
use Rattle.std.proofs.Math.Seq.{get_or-append_seam}
use Rattle.std.specs.Str.{bytes_eq}
use Rattle.std.proofs.lemmas.Bool.{lt-ltb, ltb-true, ltb-false, ne_eqb}
use Rattle.name_map.specs.Names.{StandsAt, name_at, names_of}
use Rattle.name_map.proofs.NameLists.{length_map, map_push, any_map}
use Rattle.text_fields.specs.Numbers.{literal_in}
use Rattle.text_fields.specs.declared.faults.ReadKind.{ReadKind}
use Rattle.text_fields.specs.declared.faults.ReadKind.TheVariants.{DuplicateName, BadField, Limit}
use Rattle.text_fields.specs.declared.faults.ReadFault.{ReadFault}
use Rattle.text_fields.specs.declared.faults.ReadFault.TheVariants.{Stop}
use Rattle.mps_lines.specs.declared.shapes.RowKind.{RowKind}
use Rattle.mps_lines.specs.declared.shapes.BoundKind.{BoundKind}
use Rattle.mps_lines.specs.Shapes.{Bounded}
use Rattle.mps_lines.specs.Steps.{Step, ToSense, ToRow, ToColumn}
use Rattle.mps_reader.specs.declared.tables.Reader.{Reader}
use Rattle.mps_reader.specs.Tables.{RowRecord, ColumnRecord, senses_of, rows_of, columns_of, entries_of, sides_of, ranges_of, bounds_of, is_free, bound_in, sets_lower, sets_upper, makes_whole}
use Rattle.mps_reader.specs.Sides.{lower_set, upper_set}
use Rattle.lp_model.specs.Shown.{most_columns, most_free_rows, most_rows}
use Rattle.mps_reader.specs.Faults.{fault, is_full, is_too_long}
use Rattle.mps_reader.specs.Held.{Keeps, Holds, KeepsSense, KeepsEntries, KeepsFigures, KeepsSettings, column_record, row_names_held, column_names_held, IsStepStop, lacks_room}
use Rattle.mps_reader.proofs.Tested.{hits, passes, ends, row_is_named, column_is_named}
use Rattle.mps_reader.proofs.Looks.{name_stays}
use Rattle.mps_reader.proofs.Grows.{tables_sense, tables_row, tables_column}
use Rattle.mps_reader.proofs.Keeping.{sense_given, row_kept, row_freed, figures_stay, entries_stay_rows, column_put, entries_stay_columns, settings_stay}

-- a refusal with the fault of a step
pub stops : (line : ℕ) (found : Option ReadKind) (kind : ReadKind) (fault : ReadFault) → fault ≡ Stop (record { line = line; kind = kind }) → found ≡ Some kind → IsStepStop line found fault
stops line found kind fault is e = subst (IsStepStop line found) (sym is) (e, refl)

-- ---- the sense
pub sense_again : (reader : Reader) (steps : List Step) (greatest : Bool) → Holds reader steps → is_some reader.sense ≡ true → fault steps (ToSense greatest) ≡ Some BadField
unfolding fault
sense_again reader steps greatest h given = hits BadField [] _ (by (senses_of steps) reader.sense h.sense given)
  where
    by : (said : List Bool) (sense : Option Bool) → KeepsSense sense said → is_some sense ≡ true → nat_lt 0 (length said) ≡ true
    by [] None e g = absurd (true≢false (sym g))
    by [] (Some b) e g = absurd (cc)
    by (s ∷ said) sense e g = lt-ltb 0 (length (s ∷ said)) (omega arith)

pub sense_first : (reader : Reader) (steps : List Step) (greatest : Bool) → Holds reader steps → is_some reader.sense ≡ false → fault steps (ToSense greatest) ≡ None
unfolding fault
sense_first reader steps greatest h given = passes BadField [] _ (by (senses_of steps) reader.sense h.sense given) ends
  where
    by : (said : List Bool) (sense : Option Bool) → KeepsSense sense said → is_some sense ≡ false → nat_lt 0 (length said) ≡ false
    by [] sense e g = refl
    by (s ∷ said) None e g = absurd (cc)
    by (s ∷ said) (Some b) e g = absurd (true≢false g)

pub sense_taken : (reader : Reader) (steps : List Step) (greatest : Bool) → Holds reader steps → is_some reader.sense ≡ false → Holds (record reader { sense = Some greatest }) (steps ++ ToSense greatest ∷ [])
sense_taken reader steps greatest h given = subst (Keeps (record reader { sense = Some greatest })) (sym (tables_sense steps greatest)) (record {
  sense = by reader.sense given h.sense;
  rows = h.rows;
  columns = h.columns;
  entries = h.entries;
  rights = h.rights;
  ranges = h.ranges;
  lowers = h.lowers;
  uppers = h.uppers;
  wholes = h.wholes;
})
  where
    by : (sense : Option Bool) → is_some sense ≡ false → KeepsSense sense (senses_of steps) → KeepsSense (Some greatest) (senses_of steps ++ greatest ∷ [])
    by None g e = sense_given (senses_of steps) greatest e
    by (Some b) g e = absurd (true≢false g)

-- ---- rows
module _ (reader : Reader) (steps : List Step) (kind : RowKind) (name : List ℕ) (h : Holds reader steps) where
  row_there : (b : Bool) → list_any (bytes_eq name) (names_of reader.rows) ≡ b → list_any (bytes_eq name) (map (λ (r : RowRecord). r.name) (rows_of steps)) ≡ b
  row_there b e = row_is_named reader.rows reader.free reader.kept reader.objective (rows_of steps) h.rows name ∙ e

  full_is : is_full steps kind ≡ lacks_room reader kind
  full_is = λ i. cond (is_free kind) (nat_le most_free_rows (h.rows.free_is i)) (nat_le most_rows (h.rows.kept_is i))

  pub row_known : list_any (bytes_eq name) (names_of reader.rows) ≡ true → fault steps (ToRow kind name) ≡ Some DuplicateName
  unfolding fault
  row_known e = hits DuplicateName _ _ (row_there true e)

  pub row_long : list_any (bytes_eq name) (names_of reader.rows) ≡ false → is_too_long name ≡ true → fault steps (ToRow kind name) ≡ Some Limit
  unfolding fault
  row_long e long = passes DuplicateName _ _ (row_there false e) (hits Limit [] _ (ap (λ b. b || is_full steps kind) long))

  pub row_full : list_any (bytes_eq name) (names_of reader.rows) ≡ false → is_too_long name ≡ false → lacks_room reader kind ≡ true → fault steps (ToRow kind name) ≡ Some Limit
  unfolding fault
  row_full e long full = passes DuplicateName _ _ (row_there false e) (hits Limit [] _ (ap (λ b. b || is_full steps kind) long ∙ full_is ∙ full))

  pub row_fits : list_any (bytes_eq name) (names_of reader.rows) ≡ false → is_too_long name ≡ false → lacks_room reader kind ≡ false → fault steps (ToRow kind name) ≡ None
  unfolding fault
  row_fits e long full = passes DuplicateName _ _ (row_there false e) (passes Limit [] _ (ap (λ b. b || is_full steps kind) long ∙ full_is ∙ full) ends)

  -- the tables by rows, with one row more
  names_more : names_of (reader.rows ++ (name, kind) ∷ []) ≡ row_names_held reader ++ name ∷ []
  names_more = map_push (λ (e : List ℕ × RowKind). e.0) reader.rows (name, kind)

  abbrev rows_more : List RowRecord
  rows_more = rows_of steps ++ (let r : RowRecord = record { name = name; kind = kind } in r) ∷ []

  entries_more : KeepsEntries rows_more (names_of (reader.rows ++ (name, kind) ∷ [])) (column_names_held reader) reader.entries.entries reader.count (entries_of steps)
  entries_more = subst (λ ns. KeepsEntries rows_more ns (column_names_held reader) reader.entries.entries reader.count (entries_of steps)) (sym names_more)
      (entries_stay_rows (rows_of steps) (row_names_held reader) (column_names_held reader) reader.entries.entries reader.count (entries_of steps) name kind h.entries)

  rights_more : KeepsFigures bound_in (λ v. v) rows_more (names_of (reader.rows ++ (name, kind) ∷ [])) reader.rights.entries (sides_of steps)
  rights_more = subst (λ ns. KeepsFigures bound_in (λ v. v) rows_more ns reader.rights.entries (sides_of steps)) (sym names_more)
      (figures_stay bound_in (λ v. v) (rows_of steps) (row_names_held reader) reader.rights.entries (sides_of steps) name kind h.rights)

  ranges_more : KeepsFigures literal_in Some rows_more (names_of (reader.rows ++ (name, kind) ∷ [])) reader.ranges.entries (ranges_of steps)
  ranges_more = subst (λ ns. KeepsFigures literal_in Some rows_more ns reader.ranges.entries (ranges_of steps)) (sym names_more)
      (figures_stay literal_in Some (rows_of steps) (row_names_held reader) reader.ranges.entries (ranges_of steps) name kind h.ranges)

  -- a row that is not free
  pub row_taken : (rows : List (List ℕ × RowKind)) → rows ≡ reader.rows ++ (name, kind) ∷ [] → is_too_long name ≡ false → is_free kind ≡ false → lacks_room reader kind ≡ false
      → Holds (record reader { rows = rows; kept = reader.kept + 1 }) (steps ++ ToRow kind name ∷ [])
  row_taken rows grown long free full =
      subst (λ (rs : List (List ℕ × RowKind)). Holds (record reader { rows = rs; kept = reader.kept + 1 }) (steps ++ ToRow kind name ∷ [])) (sym grown)
      (subst (Keeps (record reader { rows = reader.rows ++ (name, kind) ∷ []; kept = reader.kept + 1 })) (sym (tables_row steps kind name)) (record {
        sense = h.sense;
        rows = row_kept reader.rows reader.free reader.kept reader.objective (rows_of steps) h.rows name (ltb-false _ _ long) kind free (sym (ap (λ b. cond b (nat_le most_free_rows reader.free) (nat_le most_rows reader.kept)) free) ∙ full);
        columns = h.columns;
        entries = entries_more;
        rights = rights_more;
        ranges = ranges_more;
        lowers = h.lowers;
        uppers = h.uppers;
        wholes = h.wholes;
      }))

  -- a free one
  pub free_taken : (rows : List (List ℕ × RowKind)) (place : ℕ) → rows ≡ reader.rows ++ (name, kind) ∷ [] → place ≡ unwrap_or reader.objective (length reader.rows) → is_too_long name ≡ false → is_free kind ≡ true
      → Holds (record reader { rows = rows; free = reader.free + 1; objective = Some place }) (steps ++ ToRow kind name ∷ [])
  free_taken rows place grown first long free =
      subst (λ (rs : List (List ℕ × RowKind) × ℕ). Holds (record reader { rows = rs.0; free = reader.free + 1; objective = Some rs.1 }) (steps ++ ToRow kind name ∷ [])) (λ i. (sym grown i, sym first i))
      (subst (Keeps (record reader { rows = reader.rows ++ (name, kind) ∷ []; free = reader.free + 1; objective = Some (unwrap_or reader.objective (length reader.rows)) })) (sym (tables_row steps kind name)) (record {
        sense = h.sense;
        rows = row_freed reader.rows reader.free reader.kept reader.objective (rows_of steps) h.rows name (ltb-false _ _ long) kind free;
        columns = h.columns;
        entries = entries_more;
        rights = rights_more;
        ranges = ranges_more;
        lowers = h.lowers;
        uppers = h.uppers;
        wholes = h.wholes;
      }))

-- ---- columns
module _ (reader : Reader) (steps : List Step) (name : List ℕ) (whole : Bool) (h : Holds reader steps) where
  column_there : (b : Bool) → list_any (bytes_eq name) (column_names_held reader) ≡ b → list_any (bytes_eq name) (map (λ (c : ColumnRecord). c.name) (columns_of steps)) ≡ b
  column_there b e = column_is_named reader.columns (columns_of steps) h.columns name ∙ e

  column_among : (b : Bool) → list_any (bytes_eq name) (column_names_held reader) ≡ b → list_any (λ (c : ColumnRecord). bytes_eq name c.name) (columns_of steps) ≡ b
  column_among b e = sym (any_map (bytes_eq name) (λ (c : ColumnRecord). c.name) (columns_of steps)) ∙ column_there b e

  few_are : length (columns_of steps) ≡ length reader.columns
  few_are = ap length h.columns.same ∙ length_map column_record reader.columns

  abbrev is_past : Bool
  is_past = is_too_long name || nat_le most_columns (length (columns_of steps))

  -- a column that is there
  pub column_old : list_any (bytes_eq name) (column_names_held reader) ≡ true → fault steps (ToColumn name whole) ≡ None
  unfolding fault
  column_old e = passes Limit [] _ (ap (λ b. not b && is_past) (column_there true e)) ends

  pub column_same : list_any (bytes_eq name) (column_names_held reader) ≡ true → Holds reader (steps ++ ToColumn name whole ∷ [])
  column_same e = subst (Keeps reader) (sym (tables_column steps name whole true (column_among true e))) (record {
    sense = h.sense;
    rows = h.rows;
    columns = h.columns;
    entries = h.entries;
    rights = h.rights;
    ranges = h.ranges;
    lowers = h.lowers;
    uppers = h.uppers;
    wholes = h.wholes;
  })

  -- a new one that does not fit
  pub column_long : list_any (bytes_eq name) (column_names_held reader) ≡ false → is_too_long name ≡ true → fault steps (ToColumn name whole) ≡ Some Limit
  unfolding fault
  column_long e long = hits Limit [] _ ((λ i. not (column_there false e i) && is_past) ∙ ap (λ b. b || nat_le most_columns (length (columns_of steps))) long)

  pub column_full : list_any (bytes_eq name) (column_names_held reader) ≡ false → is_too_long name ≡ false → most_columns ≤ length reader.columns → fault steps (ToColumn name whole) ≡ Some Limit
  unfolding fault
  column_full e long full = hits Limit [] _ ((λ i. not (column_there false e i) && is_past) ∙ ap (λ b. b || nat_le most_columns (length (columns_of steps))) long ∙ ap (nat_le most_columns) few_are ∙ grind (arith, nat_tests))

  -- and one that does
  pub column_fits : list_any (bytes_eq name) (column_names_held reader) ≡ false → is_too_long name ≡ false → length reader.columns < most_columns → fault steps (ToColumn name whole) ≡ None
  unfolding fault
  column_fits e long room = passes Limit [] _ ((λ i. not (column_there false e i) && is_past) ∙ ap (λ b. b || nat_le most_columns (length (columns_of steps))) long ∙ ap (nat_le most_columns) few_are ∙ grind (arith, nat_tests)) ends

  column_names_more : names_of (reader.columns ++ (name, whole) ∷ []) ≡ column_names_held reader ++ name ∷ []
  column_names_more = map_push (λ (e : List ℕ × Bool). e.0) reader.columns (name, whole)

  settings_more : {V : Type 0} (sets : BoundKind → Bool) (value : Bounded → V) (table : List (ℕ × V)) → KeepsSettings sets value (column_names_held reader) table (bounds_of steps) → KeepsSettings sets value (names_of (reader.columns ++ (name, whole) ∷ [])) table (bounds_of steps)
  settings_more sets value table keeps = subst (λ ns. KeepsSettings sets value ns table (bounds_of steps)) (sym column_names_more) (settings_stay sets value (column_names_held reader) table (bounds_of steps) name keeps)

  pub column_taken : (columns : List (List ℕ × Bool)) → columns ≡ reader.columns ++ (name, whole) ∷ [] → list_any (bytes_eq name) (column_names_held reader) ≡ false → is_too_long name ≡ false → length reader.columns < most_columns
      → Holds (record reader { columns = columns }) (steps ++ ToColumn name whole ∷ [])
  column_taken columns grown e long room =
      subst (λ (cs : List (List ℕ × Bool)). Holds (record reader { columns = cs }) (steps ++ ToColumn name whole ∷ [])) (sym grown)
      (subst (Keeps (record reader { columns = reader.columns ++ (name, whole) ∷ [] })) (sym (tables_column steps name whole false (column_among false e))) (record {
        sense = h.sense;
        rows = h.rows;
        columns = column_put reader.columns name whole (columns_of steps) h.columns (ltb-false _ _ long) room;
        entries = subst (λ ns. KeepsEntries (rows_of steps) (row_names_held reader) ns reader.entries.entries reader.count (entries_of steps)) (sym column_names_more)
            (entries_stay_columns (rows_of steps) (row_names_held reader) (column_names_held reader) reader.entries.entries reader.count (entries_of steps) name h.entries);
        rights = h.rights;
        ranges = h.ranges;
        lowers = settings_more sets_lower lower_set reader.lowers.entries h.lowers;
        uppers = settings_more sets_upper upper_set reader.uppers.entries h.uppers;
        wholes = settings_more makes_whole (λ b. tt) reader.wholes.entries h.wholes;
      }))

any_false : {X : Type 0} (p : X → Bool) (xs : List X) → list_any p xs ≡ false → All (λ x. p x ≡ false) xs
any_false p [] h = All-nil (λ x. p x ≡ false)
any_false p (x ∷ xs) h = split (p x) refl h (λ h. any_false p xs h)
  where
    split : (b : Bool) → p x ≡ b → (b || list_any p xs) ≡ false → (list_any p xs ≡ false → All (λ x. p x ≡ false) xs) → All (λ x. p x ≡ false) (x ∷ xs)
    split true e h rest = absurd (true≢false h)
    split false e h rest = All-cons (λ x. p x ≡ false) x xs e (rest h)

-- a name that was put last stands there
pub last_stands : (names : List (List ℕ)) (name : List ℕ) → list_any (bytes_eq name) names ≡ false → StandsAt (names ++ name ∷ []) name (length names)
last_stands names name absent =
    let self : bytes_eq name name ≡ true = (bytes_eq-Decides name name).1 refl in
    let last : name_at (names ++ name ∷ []) (length names) ≡ name = get_or-append_seam names name [] [] in
    record {
      within = omega (arith, length-append names (name ∷ []));
      named = last;
      alone = λ k h. by k (ltb k (length names)) refl (omega (arith, length-append names (name ∷ []))) self last;
      among = list_any-append (bytes_eq name) names (name ∷ []) ∙ ap (λ b. b || (bytes_eq name name || false)) absent ∙ ap (λ b. b || false) self;
    }
  where
    by : (k : ℕ) (b : Bool) → ltb k (length names) ≡ b → k ≤ length names → bytes_eq name name ≡ true → name_at (names ++ name ∷ []) (length names) ≡ name → bytes_eq name (name_at (names ++ name ∷ []) k) ≡ nat_eq (length names) k
    by k true e le self last =
        let lt : k < length names = ltb-true _ _ e in
        ap (bytes_eq name) (name_stays names name k lt) ∙ any_false (bytes_eq name) names absent k [] lt ∙ sym (ne_eqb (length names) k (λ q. omega arith))
    by k false e le self last =
        let ge : length names ≤ k = ltb-false _ _ e in
        let is : length names ≡ k = omega arith in
        subst (λ (n : ℕ). bytes_eq name (name_at (names ++ name ∷ []) n) ≡ nat_eq (length names) n) is (ap (bytes_eq name) last ∙ self ∙ sym (eq-eqb (length names) (length names) refl))
