-- The tables after one statement more.
use Rattle.std.proofs.Common.{nat_eq, true≢false, ◌≡◌, ℕ, suc, ◌+◌, ◌<◌, ◌≤◌, Bool, true, false, cond, ◌||◌, List, [], ◌∷◌, ◌++◌, Option, Some, None, length, map, get_or, refl, sym, ap, ◌∙◌, subst, arith, append-nil, length-append}
use Rattle.std.specs.Prelude.{unwrap_or, slice_index_or, slice_set}
use Rattle.std.specs.List.{All, list_any, filter_map, cons_option}
use Rattle.std.specs.Str.{bytes_eq}
use Rattle.rational.specs.Rational.{ℚ}
use Rattle.std.proofs.lemmas.List.{map-append, length-set, get_or-set_same, get_or-set_other, get_or-map}
use Rattle.std.proofs.lemmas.Bool.{eqb-true, eqb-false}
use Rattle.text_fields.proofs.Floors.{same_test}
use Rattle.std.proofs.lemmas.Slice.Eq.{bytes_eq-Decides}
use Rattle.std.proofs.lemmas.List.Elements.{All-nil}
use Rattle.std.proofs.lemmas.List.Folds.{list_any-append}
use Rattle.rational.specs.Linear.{Term as LinearTerm}
use Rattle.name_map.specs.Names.{names_of, name_at, StandsAt}
use Rattle.name_map.proofs.NameLists.{map_agree, map_push, length_map}
use Rattle.lp_model.specs.Shown.{is_named, most_columns, most_rows, longest_name}
use Rattle.lp_model.specs.Shown.{new_row}
use Rattle.lp_statements.specs.declared.parts.Keyword.{Keyword}
use Rattle.lp_statements.specs.declared.parts.Relation.{Relation}
use Rattle.lp_statements.specs.Items.{Written}
use Rattle.lp_statements.specs.Statements.{Constant, Term, Statement, Objective, Heading, Row, Free, Bound, Listed}
use Rattle.lp_reader.specs.declared.reader.Reader.{Reader}
use Rattle.lp_reader.specs.declared.columns.Columns.{Columns}
use Rattle.lp_reader.specs.declared.bounds.Said.{Said}
use Rattle.lp_reader.specs.declared.bounds.Said.TheVariants.{Nothing}
use Rattle.lp_reader.specs.declared.columns.Bounds.{Bounds}
use Rattle.lp_reader.specs.Numbers.{is_of, side_of}
use Rattle.lp_reader.specs.Names.{terms_in, terms_of, with_names, columns_of, RowPart, row_in, rows_of, row_name, names_from}
use Rattle.lp_reader.specs.Bounds.{last_or, said_of, said_by, bound_after, lower_said, upper_said, whole_said, lower_constant, upper_constant}
use Rattle.lp_reader.specs.Program.{form_of, row_of, side_by, objective_in, sense_in}
use Rattle.lp_reader.specs.Said.{changed, SetsBounds}
use Rattle.lp_reader.specs.Sides.{lower_side, upper_side, ended_row, PutsRow}
use Rattle.lp_reader.specs.State.{plain, bounds_of, Widened, TakesForm}
use Rattle.lp_reader.specs.Held.{Holds}
use Rattle.lp_reader.proofs.NewColumns.{all_push}
use Rattle.lp_reader.proofs.Fronts.{terms_push, columns_push, named_stays, absent_terms, form_widen, bounds_push, unchanged, last_said, rows_push, rows_absent, row_names_push}

-- names of 255 bytes at most
abbrev AreShort : List (List ℕ) → Type 0
AreShort names = All (λ (name : List ℕ). length name ≤ longest_name) names

-- the terms of the objective are among those of the statements
objective_absent : (front : List Statement) (name : List ℕ) (d : List Term) → list_any (is_of name) d ≡ false → list_any (is_of name) (terms_of front) ≡ false → list_any (is_of name) (last_or d (filter_map objective_in front)) ≡ false
unfolding terms_of
objective_absent [] name d h none = h
objective_absent (s ∷ front) name d h none =
    by s (or_left (list_any (is_of name) (terms_in s)) (list_any (is_of name) (terms_of front)) (sym (list_any-append (is_of name) (terms_in s) (terms_of front)) ∙ none))
    (λ d h. objective_absent front name d h (or_right (list_any (is_of name) (terms_in s)) (list_any (is_of name) (terms_of front)) (sym (list_any-append (is_of name) (terms_in s) (terms_of front)) ∙ none)))
  where
    or_left : (a b : Bool) → (a || b) ≡ false → a ≡ false
    or_left true b h = h
    or_left false b h = refl

    or_right : (a b : Bool) → (a || b) ≡ false → b ≡ false
    or_right true b h = cc
    or_right false b h = h

    by : (s : Statement) → list_any (is_of name) (terms_in s) ≡ false → ((d : List Term) → list_any (is_of name) d ≡ false → list_any (is_of name) (last_or d (filter_map objective_in front)) ≡ false)
        → list_any (is_of name) (last_or d (cons_option (objective_in s) (filter_map objective_in front))) ≡ false
    by (Objective maximise label terms) here rest = rest terms here
    by (Row label left terms relation right) here rest = rest d h
    by (Heading keyword) here rest = rest d h
    by (Free column) here rest = rest d h
    by (Bound left column relation right) here rest = rest d h
    by (Listed binary column) here rest = rest d h

-- ---- statements that say nothing of bounds
module _ (old : Reader) (new : Columns) (front : List Statement) (s : Statement) (holds : Holds old front)
    (silent : (name : List ℕ) → bounds_of (front ++ s ∷ []) name ≡ bounds_of front name)
    (names : names_of new.names ≡ with_names (names_of old.columns.names) (terms_in s)) (widened : Widened old.columns new) where
  all : List Statement
  all = front ++ s ∷ []

  pub columns_are : names_of new.names ≡ columns_of (front ++ s ∷ [])
  columns_are = names ∙ (ap (λ ns. with_names ns (terms_in s)) holds.columns ∙ sym (columns_push front s))

  wider : columns_of (front ++ s ∷ []) ≡ columns_of front ++ widened.more
  wider = sym columns_are ∙ (widened.names ∙ ap (λ ns. ns ++ widened.more) holds.columns)

  fresh : All (λ name. is_named (columns_of front) name ≡ false) widened.more
  fresh = subst (λ ns. All (λ name. is_named ns name ≡ false) widened.more) holds.columns widened.fresh

  absent : (terms : List Term) → ((name : List ℕ) → list_any (is_of name) (terms_of front) ≡ false → list_any (is_of name) terms ≡ false) → All (λ name. list_any (is_of name) terms ≡ false) widened.more
  absent terms h = λ i d within. h (get_or widened.more i d) (absent_terms [] (terms_of front) (get_or widened.more i d) (fresh i d within))

  pub same_form : (terms : List Term) → ((name : List ℕ) → list_any (is_of name) (terms_of front) ≡ false → list_any (is_of name) terms ≡ false) → form_of (columns_of (front ++ s ∷ [])) terms ≡ form_of (columns_of front) terms
  same_form terms h = ap (λ ns. form_of ns terms) wider ∙ form_widen (columns_of front) 0 terms widened.more (absent terms h)

  pub bounds_are : new.bounds.items ≡ map (bounds_of (front ++ s ∷ [])) (columns_of (front ++ s ∷ []))
  bounds_are =
      widened.bounds
      ∙ (ap (λ bs. bs ++ map (λ (name : List ℕ). plain) widened.more) holds.bounds
      ∙ (ap (λ bs. map (bounds_of front) (columns_of front) ++ bs) (map_agree (λ (name : List ℕ). plain) (bounds_of front) (λ name. is_named (columns_of front) name ≡ false) (λ name h. sym (holds.quiet name h)) widened.more fresh)
      ∙ (sym (map-append (bounds_of front) (columns_of front) widened.more)
      ∙ (ap (map (bounds_of front)) (sym wider)
      ∙ map_agree (bounds_of front) (bounds_of (front ++ s ∷ [])) (λ name. Unit {0}) (λ name u. sym (silent name)) (columns_of (front ++ s ∷ [])) (λ i d h. tt)))))

  pub quiet_are : (name : List ℕ) → is_named (columns_of (front ++ s ∷ [])) name ≡ false → bounds_of (front ++ s ∷ []) name ≡ plain
  quiet_are name h = silent name ∙ holds.quiet name (named_stays (columns_of front) (terms_in s) name (sym (ap (λ ns. is_named ns name) (columns_push front s)) ∙ h))

  pub entries_are : new.entries ≡ old.columns.entries + length (terms_in s) → new.entries ≡ length (terms_of (front ++ s ∷ []))
  entries_are e =
      let a = holds.entries in let b = ap length (terms_push front s) in let c = length-append (terms_of front) (terms_in s) in omega arith

  pub rows_are : map (row_of (columns_of (front ++ s ∷ []))) (rows_of front) ≡ map (row_of (columns_of front)) (rows_of front)
  rows_are =
      map_agree (row_of (columns_of (front ++ s ∷ []))) (row_of (columns_of front)) (λ row. form_of (columns_of (front ++ s ∷ [])) row.terms ≡ form_of (columns_of front) row.terms)
      (λ row e. ap (λ (ts : List LinearTerm). new_row ts (row_of (columns_of front) row).lo (row_of (columns_of front) row).up) e)
      (rows_of front)
      (λ i d h. same_form (get_or (rows_of front) i d).terms (λ name none. rows_absent front name none i d h))

  pub objective_are : form_of (columns_of (front ++ s ∷ [])) (last_or [] (filter_map objective_in front)) ≡ form_of (columns_of front) (last_or [] (filter_map objective_in front))
  objective_are = same_form (last_or [] (filter_map objective_in front)) (λ name none. objective_absent front name [] refl none)

-- a keyword
pub hold_heading : (reader : Reader) (front : List Statement) (keyword : Keyword) → Holds reader front → Holds reader (front ++ Heading keyword ∷ [])
unfolding with_names lower_said upper_said whole_said
hold_heading reader front keyword holds =
    let s = Heading keyword in
    let silent : (name : List ℕ) → bounds_of (front ++ s ∷ []) name ≡ bounds_of front name = λ name. bounds_push front s name ∙ unchanged (bounds_of front name) in
    let wide : Widened reader.columns reader.columns = record { more = []; names = sym (append-nil (names_of reader.columns.names)); bounds = sym (append-nil reader.columns.bounds.items); fresh = All-nil (λ name. is_named (names_of reader.columns.names) name ≡ false) } in
    let rows : rows_of (front ++ s ∷ []) ≡ rows_of front = rows_push front s ∙ append-nil (rows_of front) in
    record {
      named = holds.named ∙ ap (names_from 1) (sym rows);
      rows = holds.rows ∙ (sym (rows_are reader reader.columns front s holds silent refl wide) ∙ ap (map (row_of (columns_of (front ++ s ∷ [])))) (sym rows));
      columns = columns_are reader reader.columns front s holds silent refl wide;
      entries = entries_are reader reader.columns front s holds silent refl wide (omega arith);
      bounds = bounds_are reader reader.columns front s holds silent refl wide;
      objective = holds.objective ∙ (sym (objective_are reader reader.columns front s holds silent refl wide) ∙ ap (form_of (columns_of (front ++ s ∷ []))) (sym (last_said objective_in [] front s)));
      maximise = holds.maximise ∙ sym (last_said sense_in false front s);
      quiet = quiet_are reader reader.columns front s holds silent refl wide;
      few_columns = subst (λ ns. length ns ≤ most_columns) (sym (columns_push front s)) holds.few_columns;
      few_rows = subst (λ ns. length ns ≤ most_rows) (ap (names_from 1) (sym rows)) holds.few_rows;
      short_columns = subst AreShort (sym (columns_push front s)) holds.short_columns;
      short_rows = subst AreShort (ap (names_from 1) (sym rows)) holds.short_rows;
    }

-- the objective
pub hold_objective : (old new : Reader) (front : List Statement) (maximise : Bool) (label : Option Written) (terms : List Term) (form : List LinearTerm) → Holds old front → TakesForm old.columns new.columns terms form
    → names_of new.rows.names ≡ names_of old.rows.names → new.rows.items.items ≡ old.rows.items.items → new.objective ≡ form → new.maximise ≡ maximise → Holds new (front ++ Objective maximise label terms ∷ [])
unfolding lower_said upper_said whole_said
hold_objective old new front maximise label terms form holds takes same_names same_rows objective sense =
    let s = Objective maximise label terms in
    let silent : (name : List ℕ) → bounds_of (front ++ s ∷ []) name ≡ bounds_of front name = λ name. bounds_push front s name ∙ unchanged (bounds_of front name) in
    let rows : rows_of (front ++ s ∷ []) ≡ rows_of front = rows_push front s ∙ append-nil (rows_of front) in
    let columns = columns_are old new.columns front s holds silent takes.names takes.widened in
    record {
      named = same_names ∙ (holds.named ∙ ap (names_from 1) (sym rows));
      rows = same_rows ∙ (holds.rows ∙ (sym (rows_are old new.columns front s holds silent takes.names takes.widened) ∙ ap (map (row_of (columns_of (front ++ s ∷ [])))) (sym rows)));
      columns = columns;
      entries = entries_are old new.columns front s holds silent takes.names takes.widened takes.entries;
      bounds = bounds_are old new.columns front s holds silent takes.names takes.widened;
      objective = objective ∙ (takes.form_is ∙ (ap (λ ns. form_of ns terms) columns ∙ ap (form_of (columns_of (front ++ s ∷ []))) (sym (last_said objective_in [] front s))));
      maximise = sense ∙ sym (last_said sense_in false front s);
      quiet = quiet_are old new.columns front s holds silent takes.names takes.widened;
      few_columns = subst (λ ns. length ns ≤ most_columns) columns takes.few;
      few_rows = subst (λ ns. length ns ≤ most_rows) (ap (names_from 1) (sym rows)) holds.few_rows;
      short_columns = subst AreShort columns (takes.short (subst AreShort (sym holds.columns) holds.short_columns));
      short_rows = subst AreShort (ap (names_from 1) (sym rows)) holds.short_rows;
    }

-- a bound after what a side says of it is the side
side_said : (old side : Option ℚ) → bound_after old (said_of side) ≡ side
side_said old None = refl
side_said old (Some value) = refl

-- the sides of a row by those of its constants
lower_is : (left : Option Constant) (relation : Relation) (right : Constant) → lower_side relation (said_by left) (side_of right) ≡ side_by (lower_constant left relation (Some right))
lower_is None Relation.AtMost right = refl
lower_is None Relation.AtLeast right = refl
lower_is None Relation.Equal right = refl
lower_is (Some left) Relation.AtMost right = side_said None (side_of left)
lower_is (Some left) Relation.AtLeast right = refl
lower_is (Some left) Relation.Equal right = side_said (side_of right) (side_of left)

upper_is : (left : Option Constant) (relation : Relation) (right : Constant) → upper_side relation (said_by left) (side_of right) ≡ side_by (upper_constant left relation (Some right))
upper_is None Relation.AtMost right = refl
upper_is None Relation.AtLeast right = refl
upper_is None Relation.Equal right = refl
upper_is (Some left) Relation.AtMost right = refl
upper_is (Some left) Relation.AtLeast right = side_said None (side_of left)
upper_is (Some left) Relation.Equal right = side_said (side_of right) (side_of left)

-- a row
pub hold_row : (old new : Reader) (front : List Statement) (label : Option Written) (left : Option Constant) (terms : List Term) (relation : Relation) (right : Constant) (form : List LinearTerm) → Holds old front → TakesForm old.columns new.columns terms form
    → PutsRow old.rows new.rows (row_name (length (names_of old.rows.names) + 1) label) (ended_row form relation (said_by left) (side_of right))
    → new.objective ≡ old.objective → new.maximise ≡ old.maximise → Holds new (front ++ Row label left terms relation right ∷ [])
unfolding lower_said upper_said whole_said
hold_row old new front label left terms relation right form holds takes puts objective sense =
    let s = Row label left terms relation right in
    let part : RowPart = record { label = label; left = left; terms = terms; relation = relation; right = right } in
    let silent : (name : List ℕ) → bounds_of (front ++ s ∷ []) name ≡ bounds_of front name = λ name. bounds_push front s name ∙ unchanged (bounds_of front name) in
    let rows : rows_of (front ++ s ∷ []) ≡ rows_of front ++ part ∷ [] = rows_push front s in
    let columns = columns_are old new.columns front s holds silent takes.names takes.widened in
    let names : names_of new.rows.names ≡ names_from 1 (rows_of (front ++ s ∷ [])) =
    puts.names ∙ (ap (λ ns. ns ++ row_name (length ns + 1) label ∷ []) holds.named ∙ (sym (row_names_push (rows_of front) part) ∙ ap (names_from 1) (sym rows))) in
    let row : ended_row form relation (said_by left) (side_of right) ≡ row_of (columns_of (front ++ s ∷ [])) part =
    ap (λ (r : List LinearTerm × Option ℚ × Option ℚ). new_row r.0 r.1 r.2)
    (λ i. ((takes.form_is ∙ ap (λ ns. form_of ns terms) columns) i, lower_is left relation right i, upper_is left relation right i)) in
    record {
      named = names;
      rows = puts.items ∙ (ap (λ rs. rs ++ ended_row form relation (said_by left) (side_of right) ∷ []) (holds.rows ∙ sym (rows_are old new.columns front s holds silent takes.names takes.widened))
          ∙ (ap (λ r. map (row_of (columns_of (front ++ s ∷ []))) (rows_of front) ++ r ∷ []) row ∙ (sym (map_push (row_of (columns_of (front ++ s ∷ []))) (rows_of front) part) ∙ ap (map (row_of (columns_of (front ++ s ∷ [])))) (sym rows))));
      columns = columns;
      entries = entries_are old new.columns front s holds silent takes.names takes.widened takes.entries;
      bounds = bounds_are old new.columns front s holds silent takes.names takes.widened;
      objective = objective ∙ (holds.objective ∙ (sym (objective_are old new.columns front s holds silent takes.names takes.widened) ∙ ap (form_of (columns_of (front ++ s ∷ []))) (sym (last_said objective_in [] front s))));
      maximise = sense ∙ (holds.maximise ∙ sym (last_said sense_in false front s));
      quiet = quiet_are old new.columns front s holds silent takes.names takes.widened;
      few_columns = subst (λ ns. length ns ≤ most_columns) columns takes.few;
      few_rows = subst (λ ns. length ns ≤ most_rows) names puts.few;
      short_columns = subst AreShort columns (takes.short (subst AreShort (sym holds.columns) holds.short_columns));
      short_rows = subst AreShort (sym puts.names ∙ names) (all_push (λ (name : List ℕ). length name ≤ longest_name) (names_of old.rows.names) (row_name (length (names_of old.rows.names) + 1) label) (subst AreShort (sym holds.named) holds.short_rows) puts.short);
    }

-- ---- statements of bounds and marks
pub bytes_sym : (a b : List ℕ) → bytes_eq a b ≡ bytes_eq b a
bytes_sym a b = same_test (bytes_eq a b) (bytes_eq b a) (λ e. (bytes_eq-Decides b a).1 (sym ((bytes_eq-Decides a b).0 e))) (λ e. (bytes_eq-Decides a b).1 (sym ((bytes_eq-Decides b a).0 e)))

pub same_list : {X : Type 0} (d : X) (xs ys : List X) → length xs ≡ length ys → ((i : ℕ) → i < length xs → get_or xs i d ≡ get_or ys i d) → xs ≡ ys
same_list d [] [] e h = refl
same_list d [] (y ∷ ys) e h = absurd (omega arith)
same_list d (x ∷ xs) [] e h = absurd (omega arith)
same_list d (x ∷ xs) (y ∷ ys) e h =
    let tails = same_list d xs ys (omega arith) (λ i l. h (suc i) (omega arith)) in
    λ k. h 0 (omega arith) k ∷ tails k

set_map : (columns : List (List ℕ)) (j : ℕ) (f g : List ℕ → Bounds) (v : Bounds) → j < length columns
    → ((k : ℕ) → k < length columns → g (name_at columns k) ≡ cond (nat_eq j k) v (f (name_at columns k))) → slice_set (map f columns) j v ≡ map g columns
set_map columns j f g v within each =
    let long : length (map f columns) ≡ length columns = length_map f columns in
    let longer : length (map g columns) ≡ length columns = length_map g columns in
    let kept : length (slice_set (map f columns) j v) ≡ length (map f columns) = length-set (map f columns) j v in
    same_list v (slice_set (map f columns) j v) (map g columns) (omega arith) (λ k h. at k (nat_eq j k) refl (omega arith))
  where
    at : (k : ℕ) (b : Bool) → nat_eq j k ≡ b → k < length columns → get_or (slice_set (map f columns) j v) k v ≡ get_or (map g columns) k v
    at k true e h =
        let is : j ≡ k = eqb-true j k e in
        let long : length (map f columns) ≡ length columns = length_map f columns in
        ap (λ (n : ℕ). get_or (slice_set (map f columns) n v) k v) is ∙ get_or-set_same (map f columns) k v v (omega arith)
        ∙ sym (get_or-map g columns k [] v h ∙ (each k h ∙ ap (λ b. cond b v (f (name_at columns k))) e))
    at k false e h =
        get_or-set_other (map f columns) j k v v (λ q. eqb-false j k e (sym q)) ∙ get_or-map f columns k [] v h
        ∙ sym (get_or-map g columns k [] v h ∙ (each k h ∙ ap (λ b. cond b v (f (name_at columns k))) e))

module _ (old new : Reader) (front : List Statement) (s : Statement) (name : List ℕ) (j : ℕ) (l u : Said) (w : Bool) (holds : Holds old front)
    (at : StandsAt (names_of old.columns.names) name j) (sets : SetsBounds old.columns new.columns j l u w)
    (no_terms : terms_in s ≡ []) (no_row : row_in s ≡ None) (no_objective : objective_in s ≡ None) (no_sense : sense_in s ≡ None)
    (lower : (n : List ℕ) → lower_said n s ≡ cond (bytes_eq n name) l Nothing) (upper : (n : List ℕ) → upper_said n s ≡ cond (bytes_eq n name) u Nothing) (whole : (n : List ℕ) → whole_said n s ≡ cond (bytes_eq n name) w false) where
  after : (n : List ℕ) → bounds_of (front ++ s ∷ []) n ≡ cond (bytes_eq n name) (changed (bounds_of front n) l u w) (bounds_of front n)
  after n =
      bounds_push front s n
      ∙ (ap (λ (b : Said × Said × Bool). changed (bounds_of front n) b.0 b.1 b.2) (λ i. (lower n i, upper n i, whole n i))
      ∙ by (bytes_eq n name))
    where
      by : (b : Bool) → changed (bounds_of front n) (cond b l Nothing) (cond b u Nothing) (cond b w false) ≡ cond b (changed (bounds_of front n) l u w) (bounds_of front n)
      by true = refl
      by false = unchanged (bounds_of front n)

  same_columns : columns_of (front ++ s ∷ []) ≡ columns_of front
  unfolding with_names
  same_columns = columns_push front s ∙ ap (with_names (columns_of front)) no_terms

  placed : StandsAt (columns_of front) name j
  placed = subst (λ ns. StandsAt ns name j) holds.columns at

  here : changed (bounds_of front (name_at (columns_of front) j)) l u w ≡ changed (slice_index_or old.columns.bounds.items j plain) l u w
  here = ap (λ (b : Bounds). changed b l u w) (sym (ap (λ bs. slice_index_or bs j plain) holds.bounds ∙ get_or-map (bounds_of front) (columns_of front) j [] plain placed.within))

  each : (k : ℕ) → k < length (columns_of front) → bounds_of (front ++ s ∷ []) (name_at (columns_of front) k) ≡ cond (nat_eq j k) (changed (slice_index_or old.columns.bounds.items j plain) l u w) (bounds_of front (name_at (columns_of front) k))
  each k h =
      after (name_at (columns_of front) k)
      ∙ (ap (λ b. cond b (changed (bounds_of front (name_at (columns_of front) k)) l u w) (bounds_of front (name_at (columns_of front) k))) (bytes_sym (name_at (columns_of front) k) name ∙ placed.alone k h)
      ∙ by (nat_eq j k) refl)
    where
      by : (b : Bool) → nat_eq j k ≡ b → cond b (changed (bounds_of front (name_at (columns_of front) k)) l u w) (bounds_of front (name_at (columns_of front) k)) ≡ cond b (changed (slice_index_or old.columns.bounds.items j plain) l u w) (bounds_of front (name_at (columns_of front) k))
      by true e = ap (λ (n : ℕ). changed (bounds_of front (name_at (columns_of front) n)) l u w) (sym (eqb-true j k e)) ∙ here
      by false e = refl

  other : (n : List ℕ) → is_named (columns_of front) n ≡ false → bytes_eq n name ≡ false
  other n h = by (bytes_eq n name) refl
    where
      by : (b : Bool) → bytes_eq n name ≡ b → b ≡ false
      by false e = refl
      by true e =
          let is : n ≡ name = (bytes_eq-Decides n name).0 e in
          absurd (true≢false (sym placed.among ∙ ap (is_named (columns_of front)) (sym is) ∙ h))

  pub hold_said : names_of new.rows.names ≡ names_of old.rows.names → new.rows.items.items ≡ old.rows.items.items → new.objective ≡ old.objective → new.maximise ≡ old.maximise → Holds new (front ++ s ∷ [])
  hold_said same_names same_rows objective sense =
      let rows : rows_of (front ++ s ∷ []) ≡ rows_of front = rows_push front s ∙ ap (λ o. rows_of front ++ cons_option o []) no_row ∙ append-nil (rows_of front) in
      record {
        named = same_names ∙ (holds.named ∙ ap (names_from 1) (sym rows));
        rows = same_rows ∙ (holds.rows ∙ (λ i. map (row_of (sym same_columns i)) (sym rows i)));
        columns = sets.names ∙ (holds.columns ∙ sym same_columns);
        entries = sets.entries ∙ (holds.entries ∙ ap length (sym (terms_push front s ∙ ap (λ ts. terms_of front ++ ts) no_terms ∙ append-nil (terms_of front))));
        bounds = sets.bounds ∙ (ap (λ bs. slice_set bs j (changed (slice_index_or old.columns.bounds.items j plain) l u w)) holds.bounds
            ∙ (set_map (columns_of front) j (bounds_of front) (bounds_of (front ++ s ∷ [])) (changed (slice_index_or old.columns.bounds.items j plain) l u w) placed.within each
            ∙ ap (map (bounds_of (front ++ s ∷ []))) (sym same_columns)));
        objective = objective ∙ (holds.objective ∙ (λ i. form_of (sym same_columns i) (sym (last_said objective_in [] front s ∙ ap (λ o. unwrap_or o (last_or [] (filter_map objective_in front))) no_objective) i)));
        maximise = sense ∙ (holds.maximise ∙ sym (last_said sense_in false front s ∙ ap (λ o. unwrap_or o (last_or false (filter_map sense_in front))) no_sense));
        quiet = λ n h. let absent = sym (ap (λ ns. is_named ns n) same_columns) ∙ h in after n ∙ (ap (λ b. cond b (changed (bounds_of front n) l u w) (bounds_of front n)) (other n absent) ∙ holds.quiet n absent);
        few_columns = subst (λ ns. length ns ≤ most_columns) (sym same_columns) holds.few_columns;
        few_rows = subst (λ ns. length ns ≤ most_rows) (ap (names_from 1) (sym rows)) holds.few_rows;
        short_columns = subst AreShort (sym same_columns) holds.short_columns;
        short_rows = subst AreShort (ap (names_from 1) (sym rows)) holds.short_rows;
      }
