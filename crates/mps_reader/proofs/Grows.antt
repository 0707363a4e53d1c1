-- What one step more says: each table is that in front, or has one more at its end.
use Rattle.std.proofs.Common.{◌≡◌, ℕ, Bool, true, false, cond, not, ◌||◌, List, [], ◌∷◌, ◌++◌, Option, Some, None, filter, refl, sym, ap, ◌∙◌, subst, true≢false, append-nil}
use Rattle.std.specs.List.{list_any, filter_map, cons_option}
use Rattle.std.specs.Str.{bytes_eq}
use Rattle.std.proofs.lemmas.Slice.Eq.{bytes_eq-Decides}
use Rattle.std.proofs.lemmas.List.Elements.{filter_map-append, filter-append}
use Rattle.mps_lines.specs.declared.shapes.RowKind.{RowKind}
use Rattle.mps_lines.specs.Shapes.{Figure, Bounded}
use Rattle.mps_lines.specs.Steps.{Step, ToSense, ToRow, ToColumn, ToEntry, ToSide, ToRange, ToBound}
use Rattle.mps_reader.specs.Tables.{RowRecord, ColumnRecord, EntryRecord, sense_in, row_in, column_in, entry_in, side_in, range_in, bounded_in, senses_of, rows_of, columns_of, entries_of, sides_of, ranges_of, bounds_of, firsts}
use Rattle.mps_reader.specs.Held.{Tables, tables}

-- a table with one step more
said_push : {R : Type 0} (said : Step → Option R) (steps : List Step) (s : Step) (r : R) → said s ≡ Some r → filter_map said (steps ++ s ∷ []) ≡ filter_map said steps ++ r ∷ []
said_push said steps s r is = filter_map-append said steps (s ∷ []) ∙ ap (λ o. filter_map said steps ++ cons_option o []) is

-- a table of which the step says nothing
said_same : {R : Type 0} (said : Step → Option R) (steps : List Step) (s : Step) → said s ≡ None → filter_map said (steps ++ s ∷ []) ≡ filter_map said steps
said_same said steps s is = filter_map-append said steps (s ∷ []) ∙ ap (λ o. filter_map said steps ++ cons_option o []) is ∙ append-nil (filter_map said steps)

pub tables_sense : (steps : List Step) (greatest : Bool) → tables (steps ++ ToSense greatest ∷ []) ≡ (let t : Tables = record (tables steps) { senses = senses_of steps ++ greatest ∷ [] } in t)
unfolding rows_of columns_of entries_of sides_of ranges_of bounds_of
tables_sense steps greatest =
    let s = ToSense greatest in
    let senses = said_push sense_in steps s greatest refl in
    let rows = said_same row_in steps s refl in
    let columns = ap firsts (said_same column_in steps s refl) in
    let entries = said_same entry_in steps s refl in
    let sides = said_same side_in steps s refl in
    let ranges = said_same range_in steps s refl in
    let bounds = said_same bounded_in steps s refl in
    λ i. record { senses = senses i; rows = rows i; columns = columns i; entries = entries i; sides = sides i; ranges = ranges i; bounds = bounds i }

pub tables_row : (steps : List Step) (kind : RowKind) (name : List ℕ) → tables (steps ++ ToRow kind name ∷ []) ≡ (let t : Tables = record (tables steps) { rows = rows_of steps ++ (let r : RowRecord = record { name = name; kind = kind } in r) ∷ [] } in t)
unfolding rows_of columns_of entries_of sides_of ranges_of bounds_of
tables_row steps kind name =
    let s = ToRow kind name in
    let senses = said_same sense_in steps s refl in
    let rows = said_push row_in steps s (record { name = name; kind = kind }) refl in
    let columns = ap firsts (said_same column_in steps s refl) in
    let entries = said_same entry_in steps s refl in
    let sides = said_same side_in steps s refl in
    let ranges = said_same range_in steps s refl in
    let bounds = said_same bounded_in steps s refl in
    λ i. record { senses = senses i; rows = rows i; columns = columns i; entries = entries i; sides = sides i; ranges = ranges i; bounds = bounds i }

pub tables_entry : (steps : List Step) (column : List ℕ) (figure : Figure) → tables (steps ++ ToEntry column figure ∷ []) ≡ (let t : Tables = record (tables steps) { entries = entries_of steps ++ (let e : EntryRecord = record { column = column; row = figure.row; number = figure.number } in e) ∷ [] } in t)
unfolding rows_of columns_of entries_of sides_of ranges_of bounds_of
tables_entry steps column figure =
    let s = ToEntry column figure in
    let senses = said_same sense_in steps s refl in
    let rows = said_same row_in steps s refl in
    let columns = ap firsts (said_same column_in steps s refl) in
    let entries = said_push entry_in steps s (record { column = column; row = figure.row; number = figure.number }) refl in
    let sides = said_same side_in steps s refl in
    let ranges = said_same range_in steps s refl in
    let bounds = said_same bounded_in steps s refl in
    λ i. record { senses = senses i; rows = rows i; columns = columns i; entries = entries i; sides = sides i; ranges = ranges i; bounds = bounds i }

pub tables_side : (steps : List Step) (figure : Figure) → tables (steps ++ ToSide figure ∷ []) ≡ (let t : Tables = record (tables steps) { sides = sides_of steps ++ figure ∷ [] } in t)
unfolding rows_of columns_of entries_of sides_of ranges_of bounds_of
tables_side steps figure =
    let s = ToSide figure in
    let senses = said_same sense_in steps s refl in
    let rows = said_same row_in steps s refl in
    let columns = ap firsts (said_same column_in steps s refl) in
    let entries = said_same entry_in steps s refl in
    let sides = said_push side_in steps s figure refl in
    let ranges = said_same range_in steps s refl in
    let bounds = said_same bounded_in steps s refl in
    λ i. record { senses = senses i; rows = rows i; columns = columns i; entries = entries i; sides = sides i; ranges = ranges i; bounds = bounds i }

pub tables_range : (steps : List Step) (figure : Figure) → tables (steps ++ ToRange figure ∷ []) ≡ (let t : Tables = record (tables steps) { ranges = ranges_of steps ++ figure ∷ [] } in t)
unfolding rows_of columns_of entries_of sides_of ranges_of bounds_of
tables_range steps figure =
    let s = ToRange figure in
    let senses = said_same sense_in steps s refl in
    let rows = said_same row_in steps s refl in
    let columns = ap firsts (said_same column_in steps s refl) in
    let entries = said_same entry_in steps s refl in
    let sides = said_same side_in steps s refl in
    let ranges = said_push range_in steps s figure refl in
    let bounds = said_same bounded_in steps s refl in
    λ i. record { senses = senses i; rows = rows i; columns = columns i; entries = entries i; sides = sides i; ranges = ranges i; bounds = bounds i }

pub tables_bound : (steps : List Step) (bound : Bounded) → tables (steps ++ ToBound bound ∷ []) ≡ (let t : Tables = record (tables steps) { bounds = bounds_of steps ++ bound ∷ [] } in t)
unfolding rows_of columns_of entries_of sides_of ranges_of bounds_of
tables_bound steps bound =
    let s = ToBound bound in
    let senses = said_same sense_in steps s refl in
    let rows = said_same row_in steps s refl in
    let columns = ap firsts (said_same column_in steps s refl) in
    let entries = said_same entry_in steps s refl in
    let sides = said_same side_in steps s refl in
    let ranges = said_same range_in steps s refl in
    let bounds = said_push bounded_in steps s bound refl in
    λ i. record { senses = senses i; rows = rows i; columns = columns i; entries = entries i; sides = sides i; ranges = ranges i; bounds = bounds i }

-- ---- columns
any_kept : {X : Type 0} (p q : X → Bool) → ((x : X) → q x ≡ true → p x ≡ true) → (xs : List X) → list_any q (filter p xs) ≡ list_any q xs
any_kept p q keeps [] = refl
any_kept p q keeps (x ∷ xs) = by (p x) (q x) refl refl (any_kept p q keeps xs)
  where
    by : (b c : Bool) → p x ≡ b → q x ≡ c → list_any q (filter p xs) ≡ list_any q xs → list_any q (cond b (x ∷ filter p xs) (filter p xs)) ≡ (q x || list_any q xs)
    by true c e f h = ap (λ a. q x || a) h
    by false true e f h = absurd (true≢false (sym (keeps x f) ∙ e))
    by false false e f h = h ∙ sym (ap (λ a. a || list_any q xs) f)

bytes_flip : (x y : List ℕ) (b : Bool) → bytes_eq x y ≡ b → bytes_eq y x ≡ b
bytes_flip x y true e = (bytes_eq-Decides y x).1 (sym ((bytes_eq-Decides x y).0 e))
bytes_flip x y false e = by (bytes_eq y x) refl
  where
    by : (c : Bool) → bytes_eq y x ≡ c → c ≡ false
    by true f = absurd (true≢false (sym ((bytes_eq-Decides x y).1 (sym ((bytes_eq-Decides y x).0 f))) ∙ e))
    by false f = refl

abbrev is_other : ColumnRecord → ColumnRecord → Bool
is_other c d = not (bytes_eq c.name d.name)

abbrev is_of : ColumnRecord → ColumnRecord → Bool
is_of c d = bytes_eq c.name d.name

any_keeps : (x y : ColumnRecord) → bytes_eq x.name y.name ≡ false → (ns : List ColumnRecord) → list_any (is_of x) (filter (is_other y) ns) ≡ list_any (is_of x) ns
any_keeps x y apart ns =
    any_kept (is_other y) (is_of x)
    (λ z q. ap not (subst (λ (n : List ℕ). bytes_eq y.name n ≡ false) ((bytes_eq-Decides x.name z.name).0 q) (bytes_flip x.name y.name false apart))) ns

firsts_push : (xs : List ColumnRecord) (x : ColumnRecord) → firsts (xs ++ x ∷ []) ≡ cond (list_any (is_of x) (firsts xs)) (firsts xs) (firsts xs ++ x ∷ [])
firsts_push [] x = refl
firsts_push (y ∷ ys) x =
    ap (λ (l : List ColumnRecord). y ∷ filter (is_other y) l) (firsts_push ys x) ∙ by (bytes_eq x.name y.name) (list_any (is_of x) (firsts ys)) refl refl
  where
    -- what the last column does to those that are kept
    last : (b : Bool) → bytes_eq x.name y.name ≡ b → filter (is_other y) (firsts ys ++ x ∷ []) ≡ filter (is_other y) (firsts ys) ++ cond (not b) (x ∷ []) []
    last b e = filter-append (is_other y) (firsts ys) (x ∷ []) ∙ ap (λ c. filter (is_other y) (firsts ys) ++ cond (not c) (x ∷ []) []) (bytes_flip x.name y.name b e)

    by : (b c : Bool) → bytes_eq x.name y.name ≡ b → list_any (is_of x) (firsts ys) ≡ c
        → y ∷ filter (is_other y) (cond c (firsts ys) (firsts ys ++ x ∷ [])) ≡ cond (bytes_eq x.name y.name || list_any (is_of x) (filter (is_other y) (firsts ys))) (y ∷ filter (is_other y) (firsts ys)) (y ∷ (filter (is_other y) (firsts ys) ++ x ∷ []))
    by true true e f = sym (ap (λ b. cond (b || list_any (is_of x) (filter (is_other y) (firsts ys))) (y ∷ filter (is_other y) (firsts ys)) (y ∷ (filter (is_other y) (firsts ys) ++ x ∷ []))) e)
    by true false e f =
        ap (λ (l : List ColumnRecord). y ∷ l) (last true e ∙ append-nil _)
        ∙ sym (ap (λ b. cond (b || list_any (is_of x) (filter (is_other y) (firsts ys))) (y ∷ filter (is_other y) (firsts ys)) (y ∷ (filter (is_other y) (firsts ys) ++ x ∷ []))) e)
    by false true e f =
        sym (ap (λ b. cond b (y ∷ filter (is_other y) (firsts ys)) (y ∷ (filter (is_other y) (firsts ys) ++ x ∷ []))) (ap (λ b. b || list_any (is_of x) (filter (is_other y) (firsts ys))) e ∙ any_keeps x y e (firsts ys) ∙ f))
    by false false e f =
        ap (λ (l : List ColumnRecord). y ∷ l) (last false e)
        ∙ sym (ap (λ b. cond b (y ∷ filter (is_other y) (firsts ys)) (y ∷ (filter (is_other y) (firsts ys) ++ x ∷ []))) (ap (λ b. b || list_any (is_of x) (filter (is_other y) (firsts ys))) e ∙ any_keeps x y e (firsts ys) ∙ f))

-- a column that is there adds nothing, and another one is put last
pub tables_column : (steps : List Step) (name : List ℕ) (whole : Bool) (b : Bool) → list_any (λ c. bytes_eq name c.name) (columns_of steps) ≡ b
    → tables (steps ++ ToColumn name whole ∷ []) ≡ (let t : Tables = record (tables steps) { columns = cond b (columns_of steps) (columns_of steps ++ (let c : ColumnRecord = record { name = name; whole = whole } in c) ∷ []) } in t)
unfolding rows_of columns_of entries_of sides_of ranges_of bounds_of
tables_column steps name whole b is =
    let s = ToColumn name whole in
    let c : ColumnRecord = record { name = name; whole = whole } in
    let before = filter_map column_in steps in
    let senses = said_same sense_in steps s refl in
    let rows = said_same row_in steps s refl in
    let columns = ap firsts (said_push column_in steps s c refl) ∙ firsts_push before c ∙ ap (λ b. cond b (firsts before) (firsts before ++ c ∷ [])) is in
    let entries = said_same entry_in steps s refl in
    let sides = said_same side_in steps s refl in
    let ranges = said_same range_in steps s refl in
    let bounds = said_same bounded_in steps s refl in
    λ i. record { senses = senses i; rows = rows i; columns = columns i; entries = entries i; sides = sides i; ranges = ranges i; bounds = bounds i }
