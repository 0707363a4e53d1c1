-- The program that is built by places is the one that the steps declare by names.
use Rattle.std.proofs.Common.{◌≡◌, ℕ, zero, suc, ◌+◌, ◌<◌, ◌≤◌, Bool, true, false, cond, not, nat_eq, ◌&&◌, ◌||◌, List, [], ◌∷◌, ◌++◌, Option, Some, None, IfSome, MatchOption, is_some, unwrap_or, length, map, filter, take, get_or, slice_get, position, refl, sym, ap, ◌∙◌, subst, arith, true≢false, append-nil, eq-eqb}
use Rattle.std.specs.List.{All, IsDistinct, find, list_any}
use Rattle.std.specs.Option.{option_map, option_map_or}
use Rattle.std.specs.Map.{lookup}
use Rattle.std.specs.Str.{bytes_eq}
use Rattle.std.proofs.Math.Numerals.{add-one}
use Rattle.std.proofs.lemmas.List.{take_all, take_more, get_or-map, length-take}
use Rattle.std.proofs.lemmas.List.Elements.{filter-append}
use Rattle.std.proofs.lemmas.Slice.Eq.{bytes_eq-Decides}
use Rattle.std.proofs.lemmas.Bool.Decides.{nat_tests}
use Rattle.std.proofs.lemmas.List.Folds.{list_any_at}
use Rattle.rational.specs.Rational.{ℚ, zero_ℚ, one_ℚ, eq_ℚ}
use Rattle.rational.specs.Linear.{Term}
use Rattle.frac128.specs.declared.literal.Literal.{Literal}
use Rattle.text_fields.specs.Numbers.{literal_in}
use Rattle.name_map.specs.Names.{StandsAt, name_at, names_of}
use Rattle.name_map.proofs.NameLists.{length_map, map_push, place_is}
use Rattle.lp_model.specs.declared.parts.Note.{Note}
use Rattle.lp_model.specs.declared.parts.Note.TheVariants.{LowerRemoved}
use Rattle.lp_model.specs.Program.{Program}
use Rattle.lp_model.specs.Shown.{most_rows, named_row, named_column, new_row, new_column}
use Rattle.mps_lines.specs.declared.shapes.RowKind.{RowKind}
use Rattle.mps_lines.specs.declared.shapes.RowKind.TheVariants.{Free}
use Rattle.mps_lines.specs.declared.shapes.BoundKind.{BoundKind}
use Rattle.mps_lines.specs.declared.shapes.BoundKind.TheVariants.{Upper, Lower, Fixed, WholeLower, WholeUpper, Unbounded, NoLower, NoUpper, Binary}
use Rattle.mps_lines.specs.Shapes.{Figure, Bounded}
use Rattle.mps_lines.specs.Steps.{Step}
use Rattle.mps_reader.specs.declared.tables.Reader.{Reader}
use Rattle.mps_reader.specs.Tables.{RowRecord, ColumnRecord, rows_of, columns_of, column_names, entries_of, bounds_of, ranges_of, senses_of, kept_rows, is_free, is_dropped, is_free_row, is_entry_at, objective_of, factor_in, figure_of, range_of, right_side, setting, sets_lower, sets_upper, makes_whole}
use Rattle.mps_reader.specs.Sides.{row_sides, lower_set, upper_set, lower_in, upper_in, whole_in, is_removed, is_below, is_binary, number_of}
use Rattle.mps_reader.specs.Meaning.{with_term, terms_from, terms_of, named_row_of, named_column_of, notes_from, program_of}
use Rattle.mps_reader.specs.Held.{Holds, KeepsSettings, row_record, column_record, row_names_held, column_names_held, kind_held, entry_value}
use Rattle.mps_reader.specs.Gathered.{factor_kept, terms_to, listed, listed_where}
use Rattle.mps_reader.specs.Built.{column_held, lower_held, upper_held, is_removed_held, is_negative_bound, terms_held, sides_held, row_held, is_kept_held, objective_held, program_held}
use Rattle.mps_reader.proofs.Looks.{any_find, place_look, entry_look}
use Rattle.mps_reader.proofs.Tested.{column_names_same, free_at, dropped_at}
use Rattle.mps_reader.proofs.Sided.{right_is}

-- ---- lists by number
-- what is listed is what is mapped
listed_take : {X A : Type 0} (f : ℕ → X) (g : A → X) (xs : List A) (d : A) → ((i : ℕ) → i < length xs → f i ≡ g (get_or xs i d)) → (n : ℕ) → n ≤ length xs → listed f n ≡ map g (take n xs)
listed_take f g xs d same zero h = refl
listed_take {X} f g xs d same (suc n) h =
    (λ i. listed_take f g xs d same n (omega arith) i ++ same n (omega arith) i ∷ [])
    ∙ sym (ap (λ (k : ℕ). map g (take k xs)) (sym (add-one n)) ∙ ap (map g) (take_more xs n d (omega arith)) ∙ map_push g (take n xs) (get_or xs n d))

listed_all : {X A : Type 0} (f : ℕ → X) (g : A → X) (xs : List A) (d : A) → ((i : ℕ) → i < length xs → f i ≡ g (get_or xs i d)) → listed f (length xs) ≡ map g xs
listed_all f g xs d same = listed_take f g xs d same (length xs) (omega arith) ∙ ap (map g) (take_all (length xs) xs (omega arith))

-- and the same of those that pass a test
where_take : {X A : Type 0} (t : ℕ → Bool) (f : ℕ → X) (p : A → Bool) (g : A → X) (xs : List A) (d : A) → ((i : ℕ) → i < length xs → t i ≡ p (get_or xs i d)) → ((i : ℕ) → i < length xs → t i ≡ true → f i ≡ g (get_or xs i d))
    → (n : ℕ) → n ≤ length xs → listed_where t f n ≡ map g (filter p (take n xs))
where_take t f p g xs d tests same zero h = refl
where_take {X} {A} t f p g xs d tests same (suc n) h =
    by (t n) refl (where_take t f p g xs d tests same n (omega arith))
    ∙ sym (ap (λ (k : ℕ). map g (filter p (take k xs))) (sym (add-one n)) ∙ ap (λ l. map g (filter p l)) (take_more xs n d (omega arith)) ∙ ap (map g) (filter-append p (take n xs) (get_or xs n d ∷ [])))
  where
    by : (b : Bool) → t n ≡ b → listed_where t f n ≡ map g (filter p (take n xs)) → listed_where t f n ++ cond (t n) (f n ∷ []) [] ≡ map g (filter p (take n xs) ++ cond (p (get_or xs n d)) (get_or xs n d ∷ []) [])
    by true e h' =
        (λ i. h' i ++ cond (e i) (f n ∷ []) []) ∙ ap (λ x. map g (filter p (take n xs)) ++ x ∷ []) (same n (omega arith) e)
        ∙ sym (map_push g (filter p (take n xs)) (get_or xs n d)) ∙ ap (λ b. map g (filter p (take n xs) ++ cond b (get_or xs n d ∷ []) [])) (sym e ∙ tests n (omega arith))
    by false e h' =
        (λ i. h' i ++ cond (e i) (f n ∷ []) []) ∙ append-nil (map g (filter p (take n xs)))
        ∙ ap (map g) (sym (append-nil (filter p (take n xs)))) ∙ ap (λ b. map g (filter p (take n xs) ++ cond b (get_or xs n d ∷ []) [])) (sym e ∙ tests n (omega arith))

where_all : {X A : Type 0} (t : ℕ → Bool) (f : ℕ → X) (p : A → Bool) (g : A → X) (xs : List A) (d : A) → ((i : ℕ) → i < length xs → t i ≡ p (get_or xs i d)) → ((i : ℕ) → i < length xs → t i ≡ true → f i ≡ g (get_or xs i d))
    → listed_where t f (length xs) ≡ map g (filter p xs)
where_all t f p g xs d tests same = where_take t f p g xs d tests same (length xs) (omega arith) ∙ ap (λ l. map g (filter p l)) (take_all (length xs) xs (omega arith))

length_taken : {X : Type 0} (n : ℕ) (xs : List X) → n ≤ length xs → 0 + length (take n xs) ≡ n
length_taken n xs h = let e = length-take n xs in omega arith

-- ---- terms and notes
-- the terms of one name more
terms_push : (f : List ℕ → ℚ) (k : ℕ) (names : List (List ℕ)) (x : List ℕ) → terms_from f k (names ++ x ∷ []) ≡ terms_from f k names ++ with_term (k + length names) (f x) []
unfolding terms_from
terms_push f k [] x = ap (λ (n : ℕ). with_term n (f x) []) (omega arith)
terms_push f k (n ∷ names) x = ap (with_term k (f n)) (terms_push f (k + 1) names x) ∙ ap (λ (m : ℕ). with_term k (f n) (terms_from f (k + 1) names ++ with_term m (f x) [])) (omega arith) ∙ by (f n) (terms_from f (k + 1) names) (with_term (k + length (n ∷ names)) (f x) [])
  where
    by : (q : ℚ) (xs ys : List Term) → with_term k q (xs ++ ys) ≡ with_term k q xs ++ ys
    by q xs ys = split (eq_ℚ q zero_ℚ)
      where
        split : (b : Bool) → cond b (xs ++ ys) ((let t : Term = record { column = k; factor = q } in t) ∷ (xs ++ ys)) ≡ cond b xs ((let t : Term = record { column = k; factor = q } in t) ∷ xs) ++ ys
        split true = refl
        split false = refl

terms_take : (f : ℕ → ℚ) (g : List ℕ → ℚ) (names : List (List ℕ)) → ((i : ℕ) → i < length names → f i ≡ g (name_at names i)) → (n : ℕ) → n ≤ length names → terms_to f n ≡ terms_from g 0 (take n names)
unfolding terms_from
terms_take f g names same zero h = refl
terms_take f g names same (suc n) h =
    (λ i. terms_take f g names same n (omega arith) i ++ with_term n (same n (omega arith) i) [])
    ∙ ap (λ (k : ℕ). terms_from g 0 (take n names) ++ with_term k (g (name_at names n)) []) (sym (length_taken n names (omega arith)))
    ∙ sym (ap (λ (k : ℕ). terms_from g 0 (take k names)) (sym (add-one n)) ∙ ap (terms_from g 0) (take_more names n [] (omega arith)) ∙ terms_push g 0 (take n names) (name_at names n))

terms_all : (f : ℕ → ℚ) (g : List ℕ → ℚ) (names : List (List ℕ)) → ((i : ℕ) → i < length names → f i ≡ g (name_at names i)) → terms_to f (length names) ≡ terms_from g 0 names
terms_all f g names same = terms_take f g names same (length names) (omega arith) ∙ ap (terms_from g 0) (take_all (length names) names (omega arith))

notes_push : (steps : List Step) (k : ℕ) (names : List (List ℕ)) (x : List ℕ) → notes_from steps k (names ++ x ∷ []) ≡ notes_from steps k names ++ cond (is_removed steps x) (LowerRemoved (k + length names) ∷ []) []
unfolding notes_from
notes_push steps k [] x = ap (λ (n : ℕ). cond (is_removed steps x) (LowerRemoved n ∷ []) []) (omega arith)
notes_push steps k (n ∷ names) x = by (is_removed steps n) (notes_push steps (k + 1) names x ∙ ap (λ (m : ℕ). notes_from steps (k + 1) names ++ cond (is_removed steps x) (LowerRemoved m ∷ []) []) (omega arith))
  where
    by : (b : Bool) → notes_from steps (k + 1) (names ++ x ∷ []) ≡ notes_from steps (k + 1) names ++ cond (is_removed steps x) (LowerRemoved (k + length (n ∷ names)) ∷ []) []
        → cond b (LowerRemoved k ∷ notes_from steps (k + 1) (names ++ x ∷ [])) (notes_from steps (k + 1) (names ++ x ∷ [])) ≡ cond b (LowerRemoved k ∷ notes_from steps (k + 1) names) (notes_from steps (k + 1) names) ++ cond (is_removed steps x) (LowerRemoved (k + length (n ∷ names)) ∷ []) []
    by true h = ap (λ (l : List Note). LowerRemoved k ∷ l) h
    by false h = h

notes_take : (t : ℕ → Bool) (steps : List Step) (names : List (List ℕ)) → ((i : ℕ) → i < length names → t i ≡ is_removed steps (name_at names i)) → (n : ℕ) → n ≤ length names → listed_where t LowerRemoved n ≡ notes_from steps 0 (take n names)
unfolding notes_from
notes_take t steps names same zero h = refl
notes_take t steps names same (suc n) h =
    (λ i. notes_take t steps names same n (omega arith) i ++ cond (same n (omega arith) i) (LowerRemoved n ∷ []) [])
    ∙ ap (λ (k : ℕ). notes_from steps 0 (take n names) ++ cond (is_removed steps (name_at names n)) (LowerRemoved k ∷ []) []) (sym (length_taken n names (omega arith)))
    ∙ sym (ap (λ (k : ℕ). notes_from steps 0 (take k names)) (sym (add-one n)) ∙ ap (notes_from steps 0) (take_more names n [] (omega arith)) ∙ notes_push steps 0 (take n names) (name_at names n))

-- ---- places of names that differ
pub stands_at : (names : List (List ℕ)) (i : ℕ) → IsDistinct bytes_eq names → i < length names → StandsAt names (name_at names i) i
stands_at names i apart h = by (position (bytes_eq (name_at names i)) names) (place_is (name_at names i) names apart)
  where
    self : bytes_eq (name_at names i) (name_at names i) ≡ true
    self = (bytes_eq-Decides (name_at names i) (name_at names i)).1 refl

    by : (o : Option ℕ) → MatchOption o (list_any (bytes_eq (name_at names i)) names ≡ false) (StandsAt names (name_at names i)) → StandsAt names (name_at names i) i
    by None absent = absurd (true≢false (sym (list_any_at (bytes_eq (name_at names i)) names i [] h self) ∙ absent))
    by (Some k) at = let same : nat_eq k i ≡ true = sym (at.alone i h) ∙ self in let e : k ≡ i = grind (arith, nat_tests) in subst (StandsAt names (name_at names i)) e at

-- ---- options
mapped_or : {X V : Type 0} (f : X → V) (o : Option X) (d : V) → unwrap_or (option_map f o) d ≡ option_map_or f o d
mapped_or f None d = refl
mapped_or f (Some x) d = refl

-- ---- columns
-- a binary bound sets the lower bound too
binary_lower : (e : Bounded → Bool) (bs : List Bounded) (b : Bounded) → find (λ b. e b && sets_upper b.kind) bs ≡ Some b → is_binary b.kind ≡ true → is_some (find (λ b. e b && sets_lower b.kind) bs) ≡ true
binary_lower e [] b found is = absurd (cc)
binary_lower e (x ∷ bs) b found is = by (e x) refl (sets_upper x.kind) refl (sets_lower x.kind) refl found (λ rest. binary_lower e bs b rest is)
  where
    both : (kind : BoundKind) → is_binary kind ≡ true → sets_lower kind ≡ true
    both Binary h = refl
    both Upper h = absurd (true≢false (sym h))
    both Lower h = refl
    both Fixed h = refl
    both WholeLower h = refl
    both WholeUpper h = absurd (true≢false (sym h))
    both Unbounded h = refl
    both NoLower h = refl
    both NoUpper h = absurd (true≢false (sym h))

    by : (a : Bool) → e x ≡ a → (u : Bool) → sets_upper x.kind ≡ u → (l : Bool) → sets_lower x.kind ≡ l → cond (a && u) (Some x) (find (λ b. e b && sets_upper b.kind) bs) ≡ Some b
        → (find (λ b. e b && sets_upper b.kind) bs ≡ Some b → is_some (find (λ b. e b && sets_lower b.kind) bs) ≡ true) → is_some (cond (a && l) (Some x) (find (λ b. e b && sets_lower b.kind) bs)) ≡ true
    by false p u q l r f rest = rest f
    by true p false q true r f rest = refl
    by true p false q false r f rest = rest f
    by true p true q true r f rest = refl
    by true p true q false r f rest = absurd (true≢false (sym (both x.kind (ap (λ (b : Bounded). is_binary b.kind) (some_is x b f) ∙ is)) ∙ r))
      where
        some_is : (x b : Bounded) → Some x ≡ Some b → x ≡ b
        some_is x b h = cc

module _ (reader : Reader) (steps : List Step) (h : Holds reader steps) (i : ℕ) (at : StandsAt (column_names_held reader) (name_at (column_names_held reader) i) i) where
  abbrev name : List ℕ
  name = name_at (column_names_held reader) i

  looked : {V : Type 0} (sets : BoundKind → Bool) (value : Bounded → V) (table : List (ℕ × V)) → KeepsSettings sets value (column_names_held reader) table (bounds_of steps) → lookup (nat_eq i) table ≡ option_map value (setting sets steps name)
  looked sets value table keeps = place_look (column_names_held reader) name i table at keeps.within ∙ sym (keeps.found name)

  upper_is : upper_held reader i ≡ upper_in steps name
  unfolding upper_in
  upper_is = ap (λ o. unwrap_or o None) (looked sets_upper upper_set reader.uppers.entries h.uppers) ∙ mapped_or upper_set (setting sets_upper steps name) None

  -- a negative upper bound, where no bound sets the lower one
  negative_is : setting sets_lower steps name ≡ None → is_negative_bound (upper_held reader i) ≡ option_map_or is_below (setting sets_upper steps name) false
  negative_is none = ap (λ o. is_negative_bound (unwrap_or o None)) (looked sets_upper upper_set reader.uppers.entries h.uppers) ∙ by (setting sets_upper steps name) refl
    where
      by : (o : Option Bounded) → setting sets_upper steps name ≡ o → is_negative_bound (unwrap_or (option_map upper_set o) None) ≡ option_map_or is_below o false
      by None e = refl
      by (Some b) e = split (is_binary b.kind) refl
        where
          split : (c : Bool) → is_binary b.kind ≡ c → is_negative_bound (cond c (Some one_ℚ) (number_of b)) ≡ is_below b
          split false q = refl
          split true q = absurd (true≢false (sym (binary_lower (λ b. bytes_eq name b.column) (bounds_of steps) b e q) ∙ ap is_some none))

  removed_is : is_removed_held reader i ≡ is_removed steps name
  unfolding is_removed
  removed_is = ap (λ o. not (is_some o) && is_negative_bound (upper_held reader i)) (looked sets_lower lower_set reader.lowers.entries h.lowers) ∙ by (setting sets_lower steps name) refl
    where
      by : (o : Option Bounded) → setting sets_lower steps name ≡ o → (not (is_some (option_map lower_set o)) && is_negative_bound (upper_held reader i)) ≡ (not (is_some o) && option_map_or is_below (setting sets_upper steps name) false)
      by None e = negative_is e
      by (Some b) e = refl

  lower_is : lower_held reader i ≡ lower_in steps name
  unfolding lower_in is_removed
  lower_is = ap (λ o. unwrap_or o (cond (is_negative_bound (upper_held reader i)) None (Some zero_ℚ))) (looked sets_lower lower_set reader.lowers.entries h.lowers) ∙ by (setting sets_lower steps name) refl
    where
      by : (o : Option Bounded) → setting sets_lower steps name ≡ o → unwrap_or (option_map lower_set o) (cond (is_negative_bound (upper_held reader i)) None (Some zero_ℚ))
          ≡ option_map_or lower_set o (cond (not (is_some o) && option_map_or is_below (setting sets_upper steps name) false) None (Some zero_ℚ))
      by None e = ap (λ b. cond b None (Some zero_ℚ)) (negative_is e)
      by (Some b) e = refl

  mark_is : is_some (lookup (nat_eq i) reader.wholes.entries) ≡ list_any (λ b. bytes_eq name b.column && makes_whole b.kind) (bounds_of steps)
  mark_is = ap is_some (looked makes_whole (λ b. tt) reader.wholes.entries h.wholes) ∙ sym (any_find (λ (b : Bounded). tt) (λ b. bytes_eq name b.column && makes_whole b.kind) (bounds_of steps))

  column_is : (c : List ℕ × Bool) → c.0 ≡ name → get_or (map (λ (e : List ℕ × Bool). e.1) reader.columns) i false ≡ c.1 → column_held reader i ≡ named_column_of steps (column_record c)
  unfolding whole_in
  column_is c named marked = λ k. named_column (sym named k) (new_column
      ((lower_is ∙ ap (lower_in steps) (sym named)) k)
      ((upper_is ∙ ap (upper_in steps) (sym named)) k)
      (((λ j. marked j || mark_is j) ∙ ap (λ n. c.1 || list_any (λ b. bytes_eq n b.column && makes_whole b.kind) (bounds_of steps)) (sym named)) k))

module _ (reader : Reader) (steps : List Step) (h : Holds reader steps) (rows_apart : IsDistinct bytes_eq (row_names_held reader)) (columns_apart : IsDistinct bytes_eq (column_names_held reader)) where
  abbrev rows : List (List ℕ)
  rows = row_names_held reader

  abbrev columns : List (List ℕ)
  columns = column_names_held reader

  column_stands : (i : ℕ) → i < length reader.columns → StandsAt columns (name_at columns i) i
  column_stands i lt = stands_at columns i columns_apart (subst (λ (n : ℕ). i < n) (sym (length_map (λ (e : List ℕ × Bool). e.0) reader.columns)) lt)

  row_stands : (i : ℕ) → i < length reader.rows → StandsAt rows (name_at rows i) i
  row_stands i lt = stands_at rows i rows_apart (subst (λ (n : ℕ). i < n) (sym (length_map (λ (e : List ℕ × RowKind). e.0) reader.rows)) lt)

  names_are : column_names steps ≡ columns
  names_are = ap (map (λ (c : ColumnRecord). c.name)) h.columns.same ∙ column_names_same reader.columns

  columns_are : listed (column_held reader) (length reader.columns) ≡ map (named_column_of steps) (columns_of steps)
  columns_are =
      listed_all (column_held reader) (λ c. named_column_of steps (column_record c)) reader.columns ([], false)
      (λ i lt. column_is reader steps h i (column_stands i lt) (get_or reader.columns i ([], false)) (sym (get_or-map (λ (e : List ℕ × Bool). e.0) reader.columns i ([], false) [] lt)) (get_or-map (λ (e : List ℕ × Bool). e.1) reader.columns i ([], false) false lt))
      ∙ sym (ap (map (named_column_of steps)) h.columns.same ∙ map_map_is reader.columns)
    where
      map_map_is : (cs : List (List ℕ × Bool)) → map (named_column_of steps) (map column_record cs) ≡ map (λ c. named_column_of steps (column_record c)) cs
      map_map_is [] = refl
      map_map_is (c ∷ cs) = ap (λ l. named_column_of steps (column_record c) ∷ l) (map_map_is cs)

  notes_are : listed_where (is_removed_held reader) LowerRemoved (length reader.columns) ≡ notes_from steps 0 (column_names steps)
  notes_are =
      ap (listed_where (is_removed_held reader) LowerRemoved) (sym (length_map (λ (e : List ℕ × Bool). e.0) reader.columns))
      ∙ notes_take (is_removed_held reader) steps columns (λ i lt. removed_is reader steps h i (stands_at columns i columns_apart lt)) (length columns) (omega arith)
      ∙ ap (notes_from steps 0) (take_all (length columns) columns (omega arith) ∙ sym names_are)

  -- the terms of a row that is not dropped
  terms_are : (i : ℕ) → i < length reader.rows → is_dropped steps (name_at rows i) ≡ false → terms_held reader i ≡ terms_of steps (name_at rows i)
  unfolding terms_of factor_in
  terms_are i lt kept =
      ap (terms_to (factor_kept reader.entries.entries i)) (sym (length_map (λ (e : List ℕ × Bool). e.0) reader.columns))
      ∙ terms_all (factor_kept reader.entries.entries i) (λ column. factor_in steps column (name_at rows i)) columns
      (λ j inside. ap (λ o. unwrap_or o zero_ℚ) (entry_look rows columns (name_at rows i) (name_at columns j) i j reader.entries.entries (row_stands i lt) (stands_at columns j columns_apart inside) h.entries.within ∙ sym (h.entries.found (name_at columns j) (name_at rows i) kept))
      ∙ mapped_or entry_value (find (is_entry_at (name_at columns j) (name_at rows i)) (entries_of steps)) zero_ℚ)
      ∙ ap (terms_from (λ column. factor_in steps column (name_at rows i)) 0) (sym names_are)

  kept_is : (i : ℕ) (lt : i < length reader.rows) (b : Bool) → is_free (kind_held reader i) ≡ b → is_free_row steps (name_at rows i) ≡ b
  kept_is i lt b e = free_at reader.rows reader.free reader.kept reader.objective (rows_of steps) h.rows (name_at rows i) i (row_stands i lt) ∙ e

  range_is : (i : ℕ) (lt : i < length reader.rows) → is_free (kind_held reader i) ≡ false → lookup (nat_eq i) reader.ranges.entries ≡ range_of steps (name_at rows i)
  range_is i lt kept =
      place_look rows (name_at rows i) i reader.ranges.entries (row_stands i lt) h.ranges.within
      ∙ some_or (find _ reader.ranges.entries)
      ∙ ap (λ o. unwrap_or o None) (sym (h.ranges.found (name_at rows i) (kept_is i lt false kept)))
      ∙ mapped_or (λ (f : Figure). literal_in f.number) (figure_of (ranges_of steps) (name_at rows i)) None
    where
      some_or : (o : Option (ℕ × Literal)) → option_map (λ (e : ℕ × Literal). e.1) o ≡ unwrap_or (option_map (λ (e : ℕ × Literal). Some e.1) o) None
      some_or None = refl
      some_or (Some e) = refl

  not_dropped : (i : ℕ) (lt : i < length reader.rows) → is_free (kind_held reader i) ≡ false → is_dropped steps (name_at rows i) ≡ false
  not_dropped i lt kept = dropped_at reader.rows reader.free reader.kept reader.objective (rows_of steps) h.rows (name_at rows i) i (row_stands i lt) ∙ ap (λ b. b && not (option_map_or (nat_eq i) reader.objective false)) kept

  row_is : (i : ℕ) (lt : i < length reader.rows) (r : List ℕ × RowKind) → r.0 ≡ name_at rows i → r.1 ≡ kind_held reader i → is_kept_held reader i ≡ true → row_held reader i ≡ named_row_of steps (row_record r)
  row_is i lt r named kind kept =
      let not_free : is_free (kind_held reader i) ≡ false = not_true (is_free (kind_held reader i)) kept in
      let sides : sides_held reader i ≡ row_sides r.1 (right_side steps (name_at rows i)) (range_of steps (name_at rows i)) =
      λ k. row_sides (sym kind k) (right_is reader steps (name_at rows i) i h (row_stands i lt) not_free k) (range_is i lt not_free k) in
      let all = sides ∙ ap (λ n. row_sides r.1 (right_side steps n) (range_of steps n)) (sym named) in
      λ k. named_row (sym named k) (new_row ((terms_are i lt (not_dropped i lt not_free) ∙ ap (terms_of steps) (sym named)) k) (all k).0 (all k).1)
    where
      not_true : (b : Bool) → not b ≡ true → b ≡ false
      not_true true e = absurd (true≢false (sym e))
      not_true false e = refl

  rows_are : listed_where (is_kept_held reader) (row_held reader) (length reader.rows) ≡ map (named_row_of steps) (kept_rows steps)
  rows_are =
      where_all (is_kept_held reader) (row_held reader) (λ r. not (is_free r.1)) (λ r. named_row_of steps (row_record r)) reader.rows ([], Free)
      (λ i lt. ap (λ k. not (is_free k)) (get_or-map (λ (e : List ℕ × RowKind). e.1) reader.rows i ([], Free) Free lt))
      (λ i lt kept. row_is i lt (get_or reader.rows i ([], Free)) (sym (get_or-map (λ (e : List ℕ × RowKind). e.0) reader.rows i ([], Free) [] lt)) (sym (get_or-map (λ (e : List ℕ × RowKind). e.1) reader.rows i ([], Free) Free lt)) kept)
      ∙ sym (ap (λ (rs : List RowRecord). map (named_row_of steps) (filter (λ r. not (is_free r.kind)) rs)) h.rows.same ∙ kept_map reader.rows)
    where
      kept_map : (rs : List (List ℕ × RowKind)) → map (named_row_of steps) (filter (λ r. not (is_free r.kind)) (map row_record rs)) ≡ map (λ r. named_row_of steps (row_record r)) (filter (λ r. not (is_free r.1)) rs)
      kept_map [] = refl
      kept_map (r ∷ rs) = by (not (is_free r.1)) (kept_map rs)
        where
          by : (b : Bool) → map (named_row_of steps) (filter (λ r. not (is_free r.kind)) (map row_record rs)) ≡ map (λ r. named_row_of steps (row_record r)) (filter (λ r. not (is_free r.1)) rs)
              → map (named_row_of steps) (cond b (row_record r ∷ filter (λ r. not (is_free r.kind)) (map row_record rs)) (filter (λ r. not (is_free r.kind)) (map row_record rs))) ≡ map (λ r. named_row_of steps (row_record r)) (cond b (r ∷ filter (λ r. not (is_free r.1)) rs) (filter (λ r. not (is_free r.1)) rs))
          by true e = ap (λ l. named_row_of steps (row_record r) ∷ l) e
          by false e = e

  -- there are few of them
  pub few_are : length (listed_where (is_kept_held reader) (row_held reader) (length reader.rows)) ≤ most_rows
  few_are =
      let e = ap length rows_are ∙ length_map (named_row_of steps) (kept_rows steps) ∙ h.rows.kept_is in
      let few = h.rows.few in
      omega arith

  objective_are : objective_held reader ≡ option_map_or (terms_of steps) (objective_of steps) []
  objective_are = by reader.objective refl h.rows.objective_within ∙ ap (λ o. option_map_or (terms_of steps) o []) (sym h.rows.objective_is)
    where
      by : (o : Option ℕ) → reader.objective ≡ o → IfSome o (λ row. row < length reader.rows) → option_map_or (terms_held reader) o [] ≡ option_map_or (terms_of steps) (option_map (name_at rows) o) []
      by None e lt = refl
      by (Some i) e lt =
          terms_are i lt (dropped_at reader.rows reader.free reader.kept reader.objective (rows_of steps) h.rows (name_at rows i) i (row_stands i lt)
          ∙ ap (λ o. is_free (kind_held reader i) && not (option_map_or (nat_eq i) o false)) e ∙ ap (λ b. is_free (kind_held reader i) && not b) (eq-eqb i i refl) ∙ and_false (is_free (kind_held reader i)))
        where
          and_false : (b : Bool) → (b && false) ≡ false
          and_false true = refl
          and_false false = refl

  sense_are : unwrap_or reader.sense false ≡ option_map_or (λ b. b) (slice_get (senses_of steps) 0) false
  sense_are = ap (λ o. unwrap_or o false) (sym h.sense) ∙ by (slice_get (senses_of steps) 0)
    where
      by : (o : Option Bool) → unwrap_or o false ≡ option_map_or (λ b. b) o false
      by None = refl
      by (Some b) = refl

  pub program_is : program_held reader ≡ program_of steps
  unfolding program_of
  program_is = λ k. let p : Program = record { rows = rows_are k; columns = columns_are k; objective = objective_are k; maximise = sense_are k; notes = notes_are k } in p

-- places of names are places of rows and columns
pub places_within : (rows : List (List ℕ × RowKind)) (columns : List (List ℕ × Bool)) (entries : List ((ℕ × ℕ) × ℚ)) → All (λ e. (e.0.0 < length (names_of rows)) × (e.0.1 < length (names_of columns))) entries → All (λ e. (e.0.0 < length rows) × (e.0.1 < length columns)) entries
places_within rows columns entries h =
    subst (λ (n : ℕ × ℕ). All (λ (e : (ℕ × ℕ) × ℚ). (e.0.0 < n.0) × (e.0.1 < n.1)) entries) (λ i. (length_map (λ (e : List ℕ × RowKind). e.0) rows i, length_map (λ (e : List ℕ × Bool). e.0) columns i)) h
