-- Right sides and ranges: their faults, and readers that have taken one more.
use Rattle.std.proofs.Common.{◌≡◌, ℕ, Bool, true, false, not, nat_eq, ◌&&◌, List, [], ◌∷◌, ◌++◌, Option, Some, None, MatchOption, is_some, unwrap_or, map, refl, sym, ap, ◌∙◌, subst}
use Rattle.std.specs.List.{list_any, find}
use Rattle.std.specs.Option.{option_map, option_map_or}
use Rattle.std.specs.Map.{lookup}
use Rattle.std.specs.Str.{bytes_eq}
use Rattle.rational.specs.Rational.{ℚ, zero_ℚ}
use Rattle.frac128.specs.declared.literal.Literal.{Literal}
use Rattle.indexmap.specs.IndexMap.{insert_entry}
use Rattle.name_map.specs.Names.{StandsAt}
use Rattle.name_map.proofs.NameLists.{insert_new}
use Rattle.text_fields.specs.Numbers.{literal_in}
use Rattle.text_fields.specs.declared.faults.TextKind.TheVariants.{BadNumber, NumberWide}
use Rattle.text_fields.specs.declared.faults.ReadKind.{ReadKind}
use Rattle.text_fields.specs.declared.faults.ReadKind.TheVariants.{Text, UnknownName, DuplicateEntry, SumWide}
use Rattle.text_fields.specs.Numbers.{bound_of, is_wide_bound}
use Rattle.mps_lines.specs.declared.shapes.RowKind.{RowKind}
use Rattle.mps_lines.specs.Shapes.{Figure}
use Rattle.mps_lines.specs.Steps.{Step, ToSide, ToRange}
use Rattle.mps_reader.specs.declared.tables.Reader.{Reader}
use Rattle.mps_reader.specs.Tables.{RowRecord, rows_of, sides_of, ranges_of, is_free, is_free_row, figure_of, bound_in, right_side}
use Rattle.mps_reader.specs.declared.sides.Sides.{Sides}
use Rattle.mps_reader.specs.Sides.{Move, move_of, moved_sides, plain_sides, row_sides, is_move_wide, is_range_wide}
use Rattle.mps_reader.specs.Sides.Move.{Stays}
use Rattle.mps_reader.specs.Faults.{fault, first_true, figure_tests, is_no_number, is_wide_side, is_sum_wide}
use Rattle.mps_reader.specs.Held.{Keeps, Holds, KeepsFigures, row_names_held, kind_held, right_held}
use Rattle.mps_reader.proofs.Looks.{any_lookup, place_look, some_map}
use Rattle.mps_reader.proofs.Tested.{hits, passes, ends, row_is_named, free_at, kind_at}
use Rattle.mps_reader.proofs.Grows.{tables_side, tables_range}
use Rattle.mps_reader.proofs.Keeping.{figure_passed, figure_put}
use Rattle.mps_reader.proofs.Entered.{is_a_number, is_none}

-- what is found or else something
found_or : {X V : Type 0} (f : X → V) (o : Option X) (d : V) → unwrap_or (option_map f o) d ≡ option_map_or f o d
found_or f None d = refl
found_or f (Some x) d = refl

-- a table with a new place
pub grown_table : {V : Type 0} (table : List (ℕ × V)) (place : ℕ) (v : V) → is_some (lookup (nat_eq place) table) ≡ false → insert_entry nat_eq table place v ≡ table ++ (place, v) ∷ []
grown_table table place v absent = insert_new nat_eq table place v (sym (any_lookup (nat_eq place) table) ∙ absent)

module _ (reader : Reader) (steps : List Step) (said : List Figure) (figure : Figure) (rest : List (Bool × ReadKind)) (h : Holds reader steps) where
  abbrev pub tests_of : List (Bool × ReadKind)
  tests_of = figure_tests steps said figure ++ rest

  named : (b : Bool) → list_any (bytes_eq figure.row) (row_names_held reader) ≡ b → not (list_any (bytes_eq figure.row) (map (λ (r : RowRecord). r.name) (rows_of steps))) ≡ not b
  named b e = ap not (row_is_named reader.rows reader.free reader.kept reader.objective (rows_of steps) h.rows figure.row ∙ e)

  pub figure_unknown : list_any (bytes_eq figure.row) (row_names_held reader) ≡ false → first_true tests_of ≡ Some UnknownName
  figure_unknown e = hits UnknownName _ _ (named false e)

  module _ (row : ℕ) (at : StandsAt (row_names_held reader) figure.row row) where
    free_is : (b : Bool) → is_free (kind_held reader row) ≡ b → is_free_row steps figure.row ≡ b
    free_is b e = free_at reader.rows reader.free reader.kept reader.objective (rows_of steps) h.rows figure.row row at ∙ e

    pub figure_bad : literal_in figure.number ≡ None → first_true tests_of ≡ Some (Text BadNumber)
    figure_bad e = passes UnknownName _ _ (named true at.among) (hits (Text BadNumber) _ _ (is_none (literal_in figure.number) e))

    module _ (literal : Literal) (reads : literal_in figure.number ≡ Some literal) where
      number_is : is_no_number figure.number ≡ false
      number_is = is_a_number (literal_in figure.number) literal reads

      -- of a free row
      pub figure_free : {found : Option ReadKind} → is_free (kind_held reader row) ≡ true → first_true rest ≡ found → first_true tests_of ≡ found
      figure_free free more =
          passes UnknownName _ _ (named true at.among)
          (passes (Text BadNumber) _ _ number_is
          (passes (Text NumberWide) _ _ (ap (λ b. not b && is_wide_side figure.number) (free_is true free))
          (passes DuplicateEntry _ _ (ap (λ b. not b && is_some (figure_of said figure.row)) (free_is true free)) more)))

      -- of another
      wide_is : (b : Bool) → is_free (kind_held reader row) ≡ false → is_wide_bound literal ≡ b → (not (is_free_row steps figure.row) && is_wide_side figure.number) ≡ b
      wide_is b free e = (λ i. not (free_is false free i) && option_map_or is_wide_bound (reads i) false) ∙ e

      pub figure_wide : is_free (kind_held reader row) ≡ false → is_wide_bound literal ≡ true → first_true tests_of ≡ Some (Text NumberWide)
      figure_wide free wide =
          passes UnknownName _ _ (named true at.among)
          (passes (Text BadNumber) _ _ number_is
          (hits (Text NumberWide) _ _ (wide_is true free wide)))

      module _ {V W : Type 0} (value : List ℕ → W) (show : V → W) (table : List (ℕ × V)) (keeps : KeepsFigures value show (rows_of steps) (row_names_held reader) table said) where
        twice_is : (b : Bool) → is_free (kind_held reader row) ≡ false → is_some (lookup (nat_eq row) table) ≡ b → (not (is_free_row steps figure.row) && is_some (figure_of said figure.row)) ≡ b
        twice_is b free e =
            ap (λ c. not c && is_some (figure_of said figure.row)) (free_is false free)
            ∙ sym (some_map (λ (f : Figure). value f.number) (figure_of said figure.row))
            ∙ ap is_some (keeps.found figure.row (free_is false free))
            ∙ some_map (λ (e : ℕ × V). show e.1) (find _ table) ∙ sym (some_map (λ (e : ℕ × V). e.1) (find _ table))
            ∙ ap is_some (sym (place_look (row_names_held reader) figure.row row table at keeps.within))
            ∙ e

        pub figure_twice : is_free (kind_held reader row) ≡ false → is_wide_bound literal ≡ false → is_some (lookup (nat_eq row) table) ≡ true → first_true tests_of ≡ Some DuplicateEntry
        figure_twice free fits there =
            passes UnknownName _ _ (named true at.among)
            (passes (Text BadNumber) _ _ number_is
            (passes (Text NumberWide) _ _ (wide_is false free fits)
            (hits DuplicateEntry _ _ (twice_is true free there))))

        pub figure_once : {found : Option ReadKind} → is_free (kind_held reader row) ≡ false → is_wide_bound literal ≡ false → is_some (lookup (nat_eq row) table) ≡ false → first_true rest ≡ found → first_true tests_of ≡ found
        figure_once free fits absent more =
            passes UnknownName _ _ (named true at.among)
            (passes (Text BadNumber) _ _ number_is
            (passes (Text NumberWide) _ _ (wide_is false free fits)
            (passes DuplicateEntry _ _ (twice_is false free absent) more)))

-- ---- the right side of a row
-- what is kept of it is what is said
pub right_is : (reader : Reader) (steps : List Step) (name : List ℕ) (row : ℕ) → Holds reader steps → StandsAt (row_names_held reader) name row → is_free (kind_held reader row) ≡ false → right_held reader row ≡ right_side steps name
right_is reader steps name row h at free =
    ap (λ o. unwrap_or o (Some zero_ℚ)) (place_look (row_names_held reader) name row reader.rights.entries at h.rights.within
    ∙ sym (h.rights.found name (free_at reader.rows reader.free reader.kept reader.objective (rows_of steps) h.rows name row at ∙ free)))
    ∙ found_or (λ (f : Figure). bound_in f.number) (figure_of (sides_of steps) name) (Some zero_ℚ)

module _ (reader : Reader) (steps : List Step) (figure : Figure) (h : Holds reader steps) (row : ℕ) (at : StandsAt (row_names_held reader) figure.row row) (literal : Literal) (reads : literal_in figure.number ≡ Some literal) where
  free_row : is_free (kind_held reader row) ≡ true → is_free_row steps figure.row ≡ true
  free_row free = free_at reader.rows reader.free reader.kept reader.objective (rows_of steps) h.rows figure.row row at ∙ free

  -- a right side of a free row
  pub side_passed : is_free (kind_held reader row) ≡ true → Holds reader (steps ++ ToSide figure ∷ [])
  side_passed free = subst (Keeps reader) (sym (tables_side steps figure)) (record {
    sense = h.sense;
    rows = h.rows;
    columns = h.columns;
    entries = h.entries;
    rights = figure_passed bound_in (λ v. v) (rows_of steps) (row_names_held reader) reader.rights.entries (sides_of steps) h.rights figure (free_row free);
    ranges = h.ranges;
    lowers = h.lowers;
    uppers = h.uppers;
    wholes = h.wholes;
  })

  -- and of another
  pub side_taken : (other : Reader) → other.rights.entries ≡ insert_entry nat_eq reader.rights.entries row (bound_of literal) → is_some (lookup (nat_eq row) reader.rights.entries) ≡ false → Holds (record reader { rights = other.rights }) (steps ++ ToSide figure ∷ [])
  side_taken other grown absent = subst (Keeps (record reader { rights = other.rights })) (sym (tables_side steps figure)) (record {
    sense = h.sense;
    rows = h.rows;
    columns = h.columns;
    entries = h.entries;
    rights = subst (λ t. KeepsFigures bound_in (λ v. v) (rows_of steps) (row_names_held reader) t (sides_of steps ++ figure ∷ [])) (sym (grown ∙ grown_table reader.rights.entries row (bound_of literal) absent))
        (figure_put bound_in (λ v. v) (rows_of steps) (row_names_held reader) reader.rights.entries (sides_of steps) h.rights figure row (bound_of literal) at (ap (λ o. option_map_or bound_of o None) reads));
    ranges = h.ranges;
    lowers = h.lowers;
    uppers = h.uppers;
    wholes = h.wholes;
  })

  -- a range of a free row
  pub range_passed : is_free (kind_held reader row) ≡ true → Holds reader (steps ++ ToRange figure ∷ [])
  range_passed free = subst (Keeps reader) (sym (tables_range steps figure)) (record {
    sense = h.sense;
    rows = h.rows;
    columns = h.columns;
    entries = h.entries;
    rights = h.rights;
    ranges = figure_passed literal_in Some (rows_of steps) (row_names_held reader) reader.ranges.entries (ranges_of steps) h.ranges figure (free_row free);
    lowers = h.lowers;
    uppers = h.uppers;
    wholes = h.wholes;
  })

  -- and of another
  pub range_taken : (other : Reader) → other.ranges.entries ≡ insert_entry nat_eq reader.ranges.entries row literal → is_some (lookup (nat_eq row) reader.ranges.entries) ≡ false → Holds (record reader { ranges = other.ranges }) (steps ++ ToRange figure ∷ [])
  range_taken other grown absent = subst (Keeps (record reader { ranges = other.ranges })) (sym (tables_range steps figure)) (record {
    sense = h.sense;
    rows = h.rows;
    columns = h.columns;
    entries = h.entries;
    rights = h.rights;
    ranges = subst (λ t. KeepsFigures literal_in Some (rows_of steps) (row_names_held reader) t (ranges_of steps ++ figure ∷ [])) (sym (grown ∙ grown_table reader.ranges.entries row literal absent))
        (figure_put literal_in Some (rows_of steps) (row_names_held reader) reader.ranges.entries (ranges_of steps) h.ranges figure row literal at reads);
    lowers = h.lowers;
    uppers = h.uppers;
    wholes = h.wholes;
  })

  -- the last test of a range
  sum_is : (b : Bool) → is_free (kind_held reader row) ≡ false → is_range_wide (kind_held reader row) (right_held reader row) literal ≡ b → (not (is_free_row steps figure.row) && is_sum_wide steps figure) ≡ b
  sum_is b free e =
      (λ i. not ((free_at reader.rows reader.free reader.kept reader.objective (rows_of steps) h.rows figure.row row at ∙ free) i) && option_map_or (λ kind. option_map_or (is_range_wide kind (sym (right_is reader steps figure.row row h at free) i)) (reads i) false) (kind_at reader.rows reader.free reader.kept reader.objective (rows_of steps) h.rows figure.row row at i) false)
      ∙ e

  pub sum_wide : is_free (kind_held reader row) ≡ false → is_range_wide (kind_held reader row) (right_held reader row) literal ≡ true → first_true ((not (is_free_row steps figure.row) && is_sum_wide steps figure, SumWide) ∷ []) ≡ Some SumWide
  sum_wide free wide = hits SumWide [] _ (sum_is true free wide)

  pub sum_fits : is_free (kind_held reader row) ≡ false → is_range_wide (kind_held reader row) (right_held reader row) literal ≡ false → first_true ((not (is_free_row steps figure.row) && is_sum_wide steps figure, SumWide) ∷ []) ≡ None
  sum_fits free fits = passes SumWide [] _ (sum_is false free fits) ends

  pub sum_free : is_free (kind_held reader row) ≡ true → first_true ((not (is_free_row steps figure.row) && is_sum_wide steps figure, SumWide) ∷ []) ≡ None
  sum_free free = passes SumWide [] _ (ap (λ b. not b && is_sum_wide steps figure) (free_row free)) ends

-- the fault of a right side, by its tests
pub fault_side : (steps : List Step) (figure : Figure) → fault steps (ToSide figure) ≡ first_true (figure_tests steps (sides_of steps) figure ++ [])
unfolding fault
fault_side steps figure = refl

-- and of a range
pub fault_range : (steps : List Step) (figure : Figure) → fault steps (ToRange figure) ≡ first_true (figure_tests steps (ranges_of steps) figure ++ (not (is_free_row steps figure.row) && is_sum_wide steps figure, SumWide) ∷ [])
unfolding fault
fault_range steps figure = refl

-- ---- the sides of a row
-- what a move of the other side gives, by the kind of the row and its range
pub sides_moved : (kind : RowKind) (right : Option ℚ) (value : ℚ) (literal : Literal) (far : Option ℚ) (r : Option Sides) (m : Move) → right ≡ Some value → far ≡ bound_of literal → move_of kind literal ≡ m
    → MatchOption r (option_map_or (is_move_wide m value) far false ≡ true) (λ sides. (option_map_or (is_move_wide m value) far false ≡ false) × ((sides.lower, sides.upper) ≡ moved_sides m kind value far))
    → MatchOption r (is_range_wide kind right literal ≡ true) (λ sides. (is_range_wide kind right literal ≡ false) × ((sides.lower, sides.upper) ≡ row_sides kind right (Some literal)))
unfolding is_range_wide row_sides
sides_moved kind right value literal far r m is far_is move h =
    subst (λ (o : Option ℚ). MatchOption r (is_range_wide kind o literal ≡ true) (λ sides. (is_range_wide kind o literal ≡ false) × ((sides.lower, sides.upper) ≡ row_sides kind o (Some literal)))) (sym is)
    (subst (λ (p : Move × Option ℚ). MatchOption r (option_map_or (is_move_wide p.0 value) p.1 false ≡ true) (λ sides. (option_map_or (is_move_wide p.0 value) p.1 false ≡ false) × ((sides.lower, sides.upper) ≡ moved_sides p.0 kind value p.1))) (λ i. (sym move i, far_is i)) h)

-- a range that moves nothing
pub sides_stay : (kind : RowKind) (right : Option ℚ) (value : ℚ) (literal : Literal) (sides : Sides) → right ≡ Some value → move_of kind literal ≡ Stays → (sides.lower, sides.upper) ≡ plain_sides kind value
    → (is_range_wide kind right literal ≡ false) × ((sides.lower, sides.upper) ≡ row_sides kind right (Some literal))
unfolding is_range_wide row_sides
sides_stay kind right value literal sides is move h =
    subst (λ (o : Option ℚ). (is_range_wide kind o literal ≡ false) × ((sides.lower, sides.upper) ≡ row_sides kind o (Some literal))) (sym is)
    (subst (λ (m : Move). (option_map_or (is_move_wide m value) (bound_of literal) false ≡ false) × ((sides.lower, sides.upper) ≡ moved_sides m kind value (bound_of literal))) (sym move) (by (bound_of literal), h))
  where
    by : (o : Option ℚ) → option_map_or (is_move_wide Stays value) o false ≡ false
    by None = refl
    by (Some x) = refl
