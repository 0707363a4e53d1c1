-- The model that the tables make is the program that the statements declare.
use Rattle.std.proofs.Common.{◌≡◌, ◌≢◌, ℕ, zero, suc, ◌+◌, ◌<◌, ◌≤◌, Bool, true, false, cond, ltb, List, [], ◌∷◌, ◌++◌, None, length, map, take, get_or, refl, sym, ap, ◌∙◌, subst, arith, true≢false}
use Rattle.std.specs.List.{All, AllPairs, filter_map}
use Rattle.std.specs.Prelude.{slice_index_or}
use Rattle.std.proofs.lemmas.List.{length_push, get_or_push, get_or_append_left, get_or-map, take_all, length-take-le}
use Rattle.std.proofs.lemmas.List.Elements.{All-cons, All-nil, All-weaker}
use Rattle.std.proofs.lemmas.List.Kept.{AllPairs-cons}
use Rattle.std.proofs.lemmas.Bool.{ltb-true, ltb-false}
use Rattle.std.proofs.Math.Seq.{take-suc}
use Rattle.rational.specs.Rational.{zero_ℚ, eq_ℚ}
use Rattle.rational.specs.Linear.{Term as LinearTerm}
use Rattle.rational.proofs.Compare.{eq-Decides}
use Rattle.name_map.specs.Names.{names_of, name_at}
use Rattle.name_map.proofs.NameLists.{length_map}
use Rattle.lp_model.specs.declared.parts.Note.TheVariants.{LowerKept}
use Rattle.lp_model.specs.Program.{Program, IsForm, IsWellFormedRow, empty_row}
use Rattle.lp_model.proofs.New.{as_new_row_formed}
use Rattle.lp_model.specs.Shown.{most_columns, named_row}
use Rattle.lp_statements.specs.declared.parts.Relation.TheVariants.{AtMost}
use Rattle.lp_statements.specs.Statements.{Term, Statement}
use Rattle.lp_reader.specs.declared.reader.Reader.{Reader}
use Rattle.lp_reader.specs.declared.columns.Bounds.{Bounds}
use Rattle.lp_reader.specs.Numbers.{sum_of}
use Rattle.lp_reader.specs.Names.{columns_of, RowPart, rows_of, names_from}
use Rattle.lp_reader.specs.Bounds.{last_or}
use Rattle.lp_reader.specs.Program.{form_from, form_of, row_of, rows_from, column_of, objective_in, keeps_lower, notes_from, program_of}
use Rattle.lp_reader.specs.State.{plain, bounds_of}
use Rattle.lp_reader.specs.Held.{Holds}
use Rattle.lp_reader.specs.Building.{column_shown, keeps_lower_in, listed, columns_listed, no_row, rows_listed, note_of, notes_listed}
use Rattle.lp_reader.proofs.Holding.{same_list}
use Rattle.lp_reader.proofs.Fronts.{names_long}

-- ---- forms
terms_low : (names : List (List ℕ)) (j : ℕ) (terms : List Term) → All (λ t. j ≤ t.column) (form_from j names terms)
unfolding form_from
terms_low [] j terms = All-nil (λ (t : LinearTerm). j ≤ t.column)
terms_low (name ∷ names) j terms = by (eq_ℚ (sum_of name terms) zero_ℚ) (All-weaker (λ (t : LinearTerm). j + 1 ≤ t.column) (λ (t : LinearTerm). j ≤ t.column) (λ t h. omega arith) (form_from (j + 1) names terms) (terms_low names (j + 1) terms))
  where
    by : (b : Bool) → All (λ (t : LinearTerm). j ≤ t.column) (form_from (j + 1) names terms) → All (λ (t : LinearTerm). j ≤ t.column) (cond b (form_from (j + 1) names terms) (record { column = j; factor = sum_of name terms } ∷ form_from (j + 1) names terms))
    by true rest = rest
    by false rest = All-cons (λ (t : LinearTerm). j ≤ t.column) (record { column = j; factor = sum_of name terms }) (form_from (j + 1) names terms) (omega arith) rest

terms_known : (names : List (List ℕ)) (j n : ℕ) (terms : List Term) → j + length names ≤ n → All (λ t. t.column < n) (form_from j names terms)
unfolding form_from
terms_known [] j n terms le = All-nil (λ (t : LinearTerm). t.column < n)
terms_known (name ∷ names) j n terms le = by (eq_ℚ (sum_of name terms) zero_ℚ) (terms_known names (j + 1) n terms (omega arith))
  where
    by : (b : Bool) → All (λ (t : LinearTerm). t.column < n) (form_from (j + 1) names terms) → All (λ (t : LinearTerm). t.column < n) (cond b (form_from (j + 1) names terms) (record { column = j; factor = sum_of name terms } ∷ form_from (j + 1) names terms))
    by true rest = rest
    by false rest = All-cons (λ (t : LinearTerm). t.column < n) (record { column = j; factor = sum_of name terms }) (form_from (j + 1) names terms) (omega arith) rest

terms_nonzero : (names : List (List ℕ)) (j : ℕ) (terms : List Term) → All (λ t. t.factor ≢ zero_ℚ) (form_from j names terms)
unfolding form_from
terms_nonzero [] j terms = All-nil (λ (t : LinearTerm). t.factor ≢ zero_ℚ)
terms_nonzero (name ∷ names) j terms = by (eq_ℚ (sum_of name terms) zero_ℚ) refl (terms_nonzero names (j + 1) terms)
  where
    by : (b : Bool) → eq_ℚ (sum_of name terms) zero_ℚ ≡ b → All (λ (t : LinearTerm). t.factor ≢ zero_ℚ) (form_from (j + 1) names terms) → All (λ (t : LinearTerm). t.factor ≢ zero_ℚ) (cond b (form_from (j + 1) names terms) (record { column = j; factor = sum_of name terms } ∷ form_from (j + 1) names terms))
    by true e rest = rest
    by false e rest = All-cons (λ (t : LinearTerm). t.factor ≢ zero_ℚ) (record { column = j; factor = sum_of name terms }) (form_from (j + 1) names terms)
        (λ q. true≢false (sym ((eq-Decides (sum_of name terms) zero_ℚ).1 q) ∙ e)) rest

terms_ascend : (names : List (List ℕ)) (j : ℕ) (terms : List Term) → AllPairs (λ s t. s.column < t.column) (form_from j names terms)
unfolding form_from
terms_ascend [] j terms = λ a b d less within. absurd (omega arith)
terms_ascend (name ∷ names) j terms = by (eq_ℚ (sum_of name terms) zero_ℚ) (terms_ascend names (j + 1) terms)
  where
    by : (b : Bool) → AllPairs (λ (s t : LinearTerm). s.column < t.column) (form_from (j + 1) names terms) → AllPairs (λ (s t : LinearTerm). s.column < t.column) (cond b (form_from (j + 1) names terms) (record { column = j; factor = sum_of name terms } ∷ form_from (j + 1) names terms))
    by true rest = rest
    by false rest = AllPairs-cons (λ (s t : LinearTerm). s.column < t.column) (record { column = j; factor = sum_of name terms }) (form_from (j + 1) names terms)
        (All-weaker (λ (t : LinearTerm). j + 1 ≤ t.column) (λ (t : LinearTerm). j < t.column) (λ t h. omega arith) (form_from (j + 1) names terms) (terms_low names (j + 1) terms)) rest

pub form_formed : (names : List (List ℕ)) (terms : List Term) → IsForm (length names) (form_of names terms)
form_formed names terms = record {
  ascending = terms_ascend names 0 terms;
  known = terms_known names 0 (length names) terms (omega arith);
  nonzero = terms_nonzero names 0 terms;
}

-- ---- lists by index
pub length-listed : {X : Type 0} (f : ℕ → X) (n : ℕ) → length (listed f n) ≡ n
length-listed f zero = refl
length-listed f (suc n) = let before = length-listed f n in let long = length_push (listed f n) (f n) in omega arith

at-listed : {X : Type 0} (f : ℕ → X) (n i : ℕ) (d : X) → i < n → get_or (listed f n) i d ≡ f i
at-listed f zero i d h = absurd (omega arith)
at-listed f (suc n) i d h = by (ltb i n) refl (at-listed f n i d)
  where
    by : (b : Bool) → ltb i n ≡ b → (i < n → get_or (listed f n) i d ≡ f i) → get_or (listed f n ++ f n ∷ []) i d ≡ f i
    by true e before =
        let less : i < n = ltb-true i n e in
        let long = length-listed f n in
        get_or_append_left (listed f n) (f n ∷ []) d i (omega arith) ∙ before less
    by false e before =
        let least : n ≤ i = ltb-false i n e in
        let same : i ≡ n = omega arith in
        let long = length-listed f n in
        get_or_push (listed f n) (f n) d i (omega arith) ∙ ap f (sym same)

listed_is : {X : Type 0} (f : ℕ → X) (n : ℕ) (xs : List X) (d : X) → length xs ≡ n → ((i : ℕ) → i < n → f i ≡ get_or xs i d) → listed f n ≡ xs
listed_is f n xs d long each =
    same_list d (listed f n) xs (length-listed f n ∙ sym long) (λ i h. let l = length-listed f n in at-listed f n i d (omega arith) ∙ each i (omega arith))

-- ---- rows
rows_long : (n : ℕ) (columns : List (List ℕ)) (rows : List RowPart) → length (rows_from n columns rows) ≡ length rows
unfolding rows_from
rows_long n columns [] = refl
rows_long n columns (r ∷ rows) = let e = rows_long (n + 1) columns rows in omega arith

row_at_is : (n : ℕ) (columns : List (List ℕ)) (rows : List RowPart) (i : ℕ) → i < length rows → named_row (name_at (names_from n rows) i) (get_or (map (row_of columns) rows) i no_row) ≡ get_or (rows_from n columns rows) i empty_row
unfolding rows_from names_from
row_at_is n columns [] i h = absurd (omega arith)
row_at_is n columns (r ∷ rows) zero h = refl
row_at_is n columns (r ∷ rows) (suc i) h = row_at_is (n + 1) columns rows i (omega arith)

-- ---- notes
notes_push : (statements : List Statement) (j : ℕ) (names : List (List ℕ)) (name : List ℕ) → notes_from statements j (names ++ name ∷ []) ≡ notes_from statements j names ++ note_of (j + length names) (bounds_of statements name)
unfolding notes_from keeps_lower
notes_push statements j [] name = by (keeps_lower_in (bounds_of statements name)) (let e : j ≡ j + 0 = omega arith in e)
  where
    by : (b : Bool) → j ≡ j + 0 → cond b (LowerKept j ∷ []) [] ≡ cond b (LowerKept (j + 0) ∷ []) []
    by true e = ap (λ (k : ℕ). LowerKept k ∷ []) e
    by false e = refl
notes_push statements j (n ∷ names) name = by (keeps_lower_in (bounds_of statements n)) (notes_push statements (j + 1) names name ∙ ap (λ (k : ℕ). notes_from statements (j + 1) names ++ note_of k (bounds_of statements name)) (let e : j + 1 + length names ≡ j + suc (length names) = omega arith in e))
  where
    by : (b : Bool) → notes_from statements (j + 1) (names ++ name ∷ []) ≡ notes_from statements (j + 1) names ++ note_of (j + suc (length names)) (bounds_of statements name)
        → cond b (LowerKept j ∷ notes_from statements (j + 1) (names ++ name ∷ [])) (notes_from statements (j + 1) (names ++ name ∷ [])) ≡ cond b (LowerKept j ∷ notes_from statements (j + 1) names) (notes_from statements (j + 1) names) ++ note_of (j + suc (length names)) (bounds_of statements name)
    by true h = ap (λ ns. LowerKept j ∷ ns) h
    by false h = h

notes_are : (statements : List Statement) (columns : List (List ℕ)) (n : ℕ) → n ≤ length columns → notes_listed (map (bounds_of statements) columns) n ≡ notes_from statements 0 (take n columns)
unfolding notes_from
notes_are statements columns zero le = refl
notes_are statements columns (suc n) le =
    let long : length (take n columns) ≡ n = length-take-le n columns (omega arith) in
    ap (λ ns. ns ++ note_of n (get_or (map (bounds_of statements) columns) n plain)) (notes_are statements columns n (omega arith))
    ∙ (ap (λ (b : Bounds). notes_from statements 0 (take n columns) ++ note_of n b) (get_or-map (bounds_of statements) columns n [] plain (omega arith))
    ∙ (ap (λ (k : ℕ). notes_from statements 0 (take n columns) ++ note_of k (bounds_of statements (get_or columns n []))) (let e : n ≡ 0 + length (take n columns) = omega arith in e)
    ∙ (sym (notes_push statements 0 (take n columns) (get_or columns n [])) ∙ ap (notes_from statements 0) (sym (take-suc columns n [] (omega arith))))))

-- ---- the whole
module _ (reader : Reader) (statements : List Statement) (holds : Holds reader statements) where
  columns : List (List ℕ)
  columns = columns_of statements

  pub even : length reader.columns.bounds.items ≡ length reader.columns.names
  even = ap length holds.bounds ∙ (length_map (bounds_of statements) (columns_of statements) ∙ (sym (ap length holds.columns) ∙ length_map (λ e. e.0) reader.columns.names))

  names_counted : length (names_from 1 (rows_of statements)) ≡ length (rows_of statements)
  names_counted = long 1 (rows_of statements)
    where
      long : (n : ℕ) (rows : List RowPart) → length (names_from n rows) ≡ length rows
      long n rows = names_long n rows

  pub rows_even : length reader.rows.items.items ≡ length reader.rows.names
  rows_even = ap length holds.rows ∙ (length_map (row_of (columns_of statements)) (rows_of statements) ∙ (sym names_counted ∙ (sym (ap length holds.named) ∙ length_map (λ e. e.0) reader.rows.names)))

  pub row_formed : (i : ℕ) → i < length reader.rows.items.items → (name : List ℕ) → IsWellFormedRow (length (names_of reader.columns.names)) (named_row name (slice_index_or reader.rows.items.items i no_row))
  row_formed i h name =
      let long : length reader.rows.items.items ≡ length (rows_of statements) = ap length holds.rows ∙ length_map (row_of (columns_of statements)) (rows_of statements) in
      let part : RowPart = get_or (rows_of statements) i (record { label = None; left = None; terms = []; relation = AtMost; right = record { negative = false; infinite = false; text = record { text = []; line = 0 } } }) in
      let is : slice_index_or reader.rows.items.items i no_row ≡ row_of (columns_of statements) part = ap (λ rs. slice_index_or rs i no_row) holds.rows ∙ get_or-map (row_of (columns_of statements)) (rows_of statements) i (record { label = None; left = None; terms = []; relation = AtMost; right = record { negative = false; infinite = false; text = record { text = []; line = 0 } } }) no_row (omega arith) in
      as_new_row_formed (length (names_of reader.columns.names)) name _ _ _ _ is
      (subst (λ ns. IsForm (length ns) (form_of (columns_of statements) part.terms)) (sym holds.columns) (form_formed (columns_of statements) part.terms))

  pub objective_formed : IsForm (length (names_of reader.columns.names)) reader.objective
  objective_formed = subst (λ ts. IsForm (length (names_of reader.columns.names)) ts) (sym holds.objective) (subst (λ ns. IsForm (length ns) (form_of (columns_of statements) (last_or [] (filter_map objective_in statements)))) (sym holds.columns) (form_formed (columns_of statements) (last_or [] (filter_map objective_in statements))))

  columns_are : columns_listed (names_of reader.columns.names) reader.columns.bounds.items (length reader.columns.names) ≡ map (column_of statements) (columns_of statements)
  columns_are =
      let long : length reader.columns.names ≡ length (columns_of statements) = sym (length_map (λ e. e.0) reader.columns.names) ∙ ap length holds.columns in
      (λ k. columns_listed (holds.columns k) (holds.bounds k) (long k))
      ∙ listed_is (λ i. column_shown (name_at (columns_of statements) i) (slice_index_or (map (bounds_of statements) (columns_of statements)) i plain)) (length (columns_of statements)) (map (column_of statements) (columns_of statements)) (column_of statements [])
      (length_map (column_of statements) (columns_of statements))
      (λ i h. ap (column_shown (name_at (columns_of statements) i)) (get_or-map (bounds_of statements) (columns_of statements) i [] plain h) ∙ sym (get_or-map (column_of statements) (columns_of statements) i [] (column_of statements []) h))

  rows_are : rows_listed (names_of reader.rows.names) reader.rows.items.items (length reader.rows.items.items) ≡ rows_from 1 (columns_of statements) (rows_of statements)
  rows_are =
      let long : length reader.rows.items.items ≡ length (rows_of statements) = ap length holds.rows ∙ length_map (row_of (columns_of statements)) (rows_of statements) in
      (λ k. rows_listed (holds.named k) (holds.rows k) (long k))
      ∙ listed_is (λ i. named_row (name_at (names_from 1 (rows_of statements)) i) (slice_index_or (map (row_of (columns_of statements)) (rows_of statements)) i no_row)) (length (rows_of statements)) (rows_from 1 (columns_of statements) (rows_of statements)) empty_row
      (rows_long 1 (columns_of statements) (rows_of statements)) (λ i h. row_at_is 1 (columns_of statements) (rows_of statements) i h)

  notes_all : notes_listed reader.columns.bounds.items (length reader.columns.bounds.items) ≡ notes_from statements 0 (columns_of statements)
  notes_all =
      let long : length reader.columns.bounds.items ≡ length (columns_of statements) = ap length holds.bounds ∙ length_map (bounds_of statements) (columns_of statements) in
      (λ k. notes_listed (holds.bounds k) (long k)) ∙ (notes_are statements (columns_of statements) (length (columns_of statements)) (omega arith) ∙ ap (notes_from statements 0) (take_all (length (columns_of statements)) (columns_of statements) (omega arith)))

  pub built : (model : Program) → model ≡ record {
    rows = rows_listed (names_of reader.rows.names) reader.rows.items.items (length reader.rows.items.items);
    columns = columns_listed (names_of reader.columns.names) reader.columns.bounds.items (length reader.columns.names);
    objective = reader.objective;
    maximise = reader.maximise;
    notes = notes_listed reader.columns.bounds.items (length reader.columns.bounds.items);
  } → model ≡ program_of statements
  unfolding program_of
  built model is = is ∙ (λ k. record { rows = rows_are k; columns = columns_are k; objective = holds.objective k; maximise = holds.maximise k; notes = notes_all k })

  pub columns_counted : length (columns_listed (names_of reader.columns.names) reader.columns.bounds.items (length reader.columns.names)) ≡ length (names_of reader.columns.names)
  columns_counted = length-listed (λ i. column_shown (name_at (names_of reader.columns.names) i) (slice_index_or reader.columns.bounds.items i plain)) (length reader.columns.names) ∙ sym (length_map (λ e. e.0) reader.columns.names)

  pub bounds_few : length reader.columns.bounds.items ≤ most_columns
  bounds_few = let a = holds.few_columns in let b : length reader.columns.bounds.items ≡ length (columns_of statements) = ap length holds.bounds ∙ length_map (bounds_of statements) (columns_of statements) in omega arith

  pub bounds_named : length reader.columns.bounds.items ≡ length (names_of reader.columns.names)
  bounds_named = even ∙ sym (length_map (λ e. e.0) reader.columns.names)
