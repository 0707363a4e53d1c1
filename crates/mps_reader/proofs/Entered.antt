-- Entries: their faults, and readers that have taken one more.
use Rattle.std.proofs.Common.{◌≡◌, ℕ, ◌+◌, ◌<◌, ◌≤◌, Bool, true, false, not, nat_eq, nat_le, ◌&&◌, List, [], ◌∷◌, ◌++◌, Option, Some, None, is_some, length, map, refl, sym, ap, ◌∙◌, subst, arith}
use Rattle.std.specs.List.{list_any}
use Rattle.std.specs.Option.{option_map_or}
use Rattle.std.specs.Map.{lookup}
use Rattle.std.specs.Str.{bytes_eq}
use Rattle.std.proofs.lemmas.Bool.Decides.{nat_tests}
use Rattle.rational.specs.Rational.{ℚ}
use Rattle.frac128.specs.declared.literal.Literal.{Literal}
use Rattle.frac128.specs.declared.literal.Literal.TheVariants.{Fits, TooWide}
use Rattle.indexmap.specs.IndexMap.{insert_entry}
use Rattle.name_map.specs.Names.{StandsAt}
use Rattle.name_map.proofs.NameLists.{insert_new}
use Rattle.text_fields.specs.Numbers.{literal_in}
use Rattle.text_fields.specs.declared.faults.TextKind.TheVariants.{BadNumber, NumberWide}
use Rattle.text_fields.specs.declared.faults.ReadKind.TheVariants.{Text, UnknownName, DuplicateEntry, Limit}
use Rattle.mps_lines.specs.Shapes.{Figure}
use Rattle.mps_lines.specs.Steps.{Step, ToEntry}
use Rattle.mps_reader.specs.declared.tables.Reader.{Reader}
use Rattle.mps_reader.specs.Tables.{RowRecord, EntryRecord, rows_of, entries_of, is_free, is_entry_at, is_dropped, fitting_value}
use Rattle.lp_model.specs.Shown.{most_entries}
use Rattle.mps_reader.specs.Faults.{fault, is_no_number, is_wide_number, is_wide_literal}
use Rattle.mps_reader.specs.Held.{Keeps, Holds, KeepsEntries, row_names_held, column_names_held, kind_held, entry_value, value_fitting}
use Rattle.mps_reader.specs.Gathered.{is_same_pair}
use Rattle.mps_reader.proofs.Looks.{any_find, any_lookup, entry_look}
use Rattle.mps_reader.proofs.Tested.{hits, passes, ends, row_is_named, dropped_at}
use Rattle.mps_reader.proofs.Grows.{tables_entry}
use Rattle.mps_reader.proofs.Keeping.{entry_counted, entry_put}

-- a literal that is found is a number
pub is_a_number : (o : Option Literal) (l : Literal) → o ≡ Some l → not (is_some o) ≡ false
is_a_number o l e = ap (λ o. not (is_some o)) e

-- and one that is not is none
pub is_none : (o : Option Literal) → o ≡ None → not (is_some o) ≡ true
is_none o e = ap (λ o. not (is_some o)) e

-- a literal fits or is wide
wide_of : (l : Literal) → is_wide_literal l ≡ not (is_some (value_fitting l))
wide_of (Fits value) = refl
wide_of (TooWide huge negative) = refl

-- the value of one that fits
value_of : (l : Literal) (v : ℚ) → value_fitting l ≡ Some v → fitting_value (Some l) ≡ v
value_of (Fits value) v e = cc
value_of (TooWide huge negative) v e = absurd (cc)

module _ (reader : Reader) (steps : List Step) (column : List ℕ) (figure : Figure) (h : Holds reader steps) where
  named : (b : Bool) → list_any (bytes_eq figure.row) (row_names_held reader) ≡ b → not (list_any (bytes_eq figure.row) (map (λ (r : RowRecord). r.name) (rows_of steps))) ≡ not b
  named b e = ap not (row_is_named reader.rows reader.free reader.kept reader.objective (rows_of steps) h.rows figure.row ∙ e)

  pub entry_unknown : list_any (bytes_eq figure.row) (row_names_held reader) ≡ false → fault steps (ToEntry column figure) ≡ Some UnknownName
  unfolding fault
  entry_unknown e = hits UnknownName _ _ (named false e)

  module _ (row : ℕ) (at : StandsAt (row_names_held reader) figure.row row) where
    pub entry_bad : literal_in figure.number ≡ None → fault steps (ToEntry column figure) ≡ Some (Text BadNumber)
    unfolding fault
    entry_bad e = passes UnknownName _ _ (named true at.among) (hits (Text BadNumber) _ _ (is_none (literal_in figure.number) e))

    module _ (literal : Literal) (reads : literal_in figure.number ≡ Some literal) where
      -- what the code tests of the row
      abbrev drops : Bool
      drops = is_free (kind_held reader row) && not (option_map_or (nat_eq row) reader.objective false)

      dropped_is : (b : Bool) → drops ≡ b → is_dropped steps figure.row ≡ b
      dropped_is b e = dropped_at reader.rows reader.free reader.kept reader.objective (rows_of steps) h.rows figure.row row at ∙ e

      number_is : is_no_number figure.number ≡ false
      number_is = is_a_number (literal_in figure.number) literal reads

      wide_is : is_wide_number figure.number ≡ not (is_some (value_fitting literal))
      wide_is = ap (λ o. option_map_or is_wide_literal o false) reads ∙ wide_of literal

      count_is : nat_le most_entries (length (entries_of steps)) ≡ nat_le most_entries reader.count
      count_is = ap (nat_le most_entries) h.entries.count_is

      -- in a dropped row
      pub entry_dropped_full : drops ≡ true → most_entries ≤ reader.count → fault steps (ToEntry column figure) ≡ Some Limit
      unfolding fault
      entry_dropped_full d full =
          passes UnknownName _ _ (named true at.among)
          (passes (Text BadNumber) _ _ number_is
          (passes (Text NumberWide) _ _ (ap (λ b. not b && is_wide_number figure.number) (dropped_is true d))
          (passes DuplicateEntry _ _ (ap (λ b. not b && list_any (is_entry_at column figure.row) (entries_of steps)) (dropped_is true d))
          (hits Limit [] _ (count_is ∙ grind (arith, nat_tests))))))

      pub entry_dropped_fits : drops ≡ true → reader.count < most_entries → fault steps (ToEntry column figure) ≡ None
      unfolding fault
      entry_dropped_fits d room =
          passes UnknownName _ _ (named true at.among)
          (passes (Text BadNumber) _ _ number_is
          (passes (Text NumberWide) _ _ (ap (λ b. not b && is_wide_number figure.number) (dropped_is true d))
          (passes DuplicateEntry _ _ (ap (λ b. not b && list_any (is_entry_at column figure.row) (entries_of steps)) (dropped_is true d))
          (passes Limit [] _ (count_is ∙ grind (arith, nat_tests)) ends))))

      pub entry_counts : drops ≡ true → Holds (record reader { count = reader.count + 1 }) (steps ++ ToEntry column figure ∷ [])
      entry_counts d = subst (Keeps (record reader { count = reader.count + 1 })) (sym (tables_entry steps column figure)) (record {
        sense = h.sense;
        rows = h.rows;
        columns = h.columns;
        entries = entry_counted (rows_of steps) (row_names_held reader) (column_names_held reader) reader.entries.entries reader.count (entries_of steps) h.entries (record { column = column; row = figure.row; number = figure.number }) (dropped_is true d);
        rights = h.rights;
        ranges = h.ranges;
        lowers = h.lowers;
        uppers = h.uppers;
        wholes = h.wholes;
      })

      -- in another row
      pub entry_wide : drops ≡ false → value_fitting literal ≡ None → fault steps (ToEntry column figure) ≡ Some (Text NumberWide)
      unfolding fault
      entry_wide d wide =
          passes UnknownName _ _ (named true at.among)
          (passes (Text BadNumber) _ _ number_is
          (hits (Text NumberWide) _ _ ((λ i. not (dropped_is false d i) && wide_is i) ∙ ap (λ o. not (is_some o)) wide)))

      module _ (value : ℚ) (fits : value_fitting literal ≡ Some value) (place : ℕ) (stands : StandsAt (column_names_held reader) column place) where
        not_wide : drops ≡ false → (not (is_dropped steps figure.row) && is_wide_number figure.number) ≡ false
        not_wide d = (λ i. not (dropped_is false d i) && wide_is i) ∙ ap (λ o. not (is_some o)) fits

        twice_is : drops ≡ false → (not (is_dropped steps figure.row) && list_any (is_entry_at column figure.row) (entries_of steps)) ≡ is_some (lookup (is_same_pair (row, place)) reader.entries.entries)
        twice_is d =
            ap (λ b. not b && list_any (is_entry_at column figure.row) (entries_of steps)) (dropped_is false d)
            ∙ any_find entry_value (is_entry_at column figure.row) (entries_of steps)
            ∙ ap is_some (h.entries.found column figure.row (dropped_is false d))
            ∙ ap is_some (sym (entry_look (row_names_held reader) (column_names_held reader) figure.row column row place reader.entries.entries at stands h.entries.within))

        pub entry_twice : drops ≡ false → is_some (lookup (is_same_pair (row, place)) reader.entries.entries) ≡ true → fault steps (ToEntry column figure) ≡ Some DuplicateEntry
        unfolding fault
        entry_twice d there =
            passes UnknownName _ _ (named true at.among)
            (passes (Text BadNumber) _ _ number_is
            (passes (Text NumberWide) _ _ (not_wide d)
            (hits DuplicateEntry _ _ (twice_is d ∙ there))))

        pub entry_full : drops ≡ false → is_some (lookup (is_same_pair (row, place)) reader.entries.entries) ≡ false → most_entries ≤ reader.count → fault steps (ToEntry column figure) ≡ Some Limit
        unfolding fault
        entry_full d absent full =
            passes UnknownName _ _ (named true at.among)
            (passes (Text BadNumber) _ _ number_is
            (passes (Text NumberWide) _ _ (not_wide d)
            (passes DuplicateEntry _ _ (twice_is d ∙ absent)
            (hits Limit [] _ (count_is ∙ grind (arith, nat_tests))))))

        pub entry_fits : drops ≡ false → is_some (lookup (is_same_pair (row, place)) reader.entries.entries) ≡ false → reader.count < most_entries → fault steps (ToEntry column figure) ≡ None
        unfolding fault
        entry_fits d absent room =
            passes UnknownName _ _ (named true at.among)
            (passes (Text BadNumber) _ _ number_is
            (passes (Text NumberWide) _ _ (not_wide d)
            (passes DuplicateEntry _ _ (twice_is d ∙ absent)
            (passes Limit [] _ (count_is ∙ grind (arith, nat_tests)) ends))))

        pub entry_taken : (other : Reader) → other.entries.entries ≡ insert_entry is_same_pair reader.entries.entries (row, place) value → is_some (lookup (is_same_pair (row, place)) reader.entries.entries) ≡ false
            → Holds (record reader { entries = other.entries; count = reader.count + 1 }) (steps ++ ToEntry column figure ∷ [])
        entry_taken other grown absent = subst (Keeps (record reader { entries = other.entries; count = reader.count + 1 })) (sym (tables_entry steps column figure)) (record {
          sense = h.sense;
          rows = h.rows;
          columns = h.columns;
          entries = subst (λ es. KeepsEntries (rows_of steps) (row_names_held reader) (column_names_held reader) es (reader.count + 1) (entries_of steps ++ (let e : EntryRecord = record { column = column; row = figure.row; number = figure.number } in e) ∷ []))
              (sym (grown ∙ insert_new is_same_pair reader.entries.entries (row, place) value (sym (any_lookup (is_same_pair (row, place)) reader.entries.entries) ∙ absent)))
              (entry_put (rows_of steps) (row_names_held reader) (column_names_held reader) reader.entries.entries reader.count (entries_of steps) h.entries (record { column = column; row = figure.row; number = figure.number }) row place value at stands.within stands.named
              (ap fitting_value reads ∙ value_of literal value fits));
          rights = h.rights;
          ranges = h.ranges;
          lowers = h.lowers;
          uppers = h.uppers;
          wholes = h.wholes;
        })
