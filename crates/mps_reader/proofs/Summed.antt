-- The side that the range of a row makes fits: no right side comes after a range, and the sum was tested when the range came.
use Rattle.std.proofs.Common.{◌≡◌, ℕ, ◌+◌, Bool, true, false, cond, not, max, ◌&&◌, ◌||◌, is_some, unwrap_or, nat_eq, ◌<◌, List, [], ◌∷◌, ◌++◌, length, map, filter, drop, get_or, Option, Some, None, IfSome, Result, Ok, Err, refl, sym, ap, ◌∙◌, subst, true≢false, append_assoc, append-nil}
use Rattle.std.specs.List.{find, list_any, IsDistinct}
use Rattle.std.specs.Map.{lookup}
use Rattle.std.specs.Option.{option_map, option_map_or}
use Rattle.std.specs.Str.{bytes_eq}
use Rattle.std.proofs.lemmas.Bool.{or_parts, and_parts, not-true}
use Rattle.std.proofs.lemmas.List.{map-append}
use Rattle.std.proofs.lemmas.List.Elements.{filter-append}
use Rattle.std.proofs.lemmas.List.Folds.{list_any-append}
use Rattle.std.proofs.lemmas.Slice.Eq.{bytes_eq-Decides}
use Rattle.frac128.specs.declared.literal.Literal.{Literal}
use Rattle.text_fields.specs.declared.faults.TextKind.{TextKind}
use Rattle.text_fields.specs.declared.faults.ReadKind.{ReadKind}
use Rattle.text_fields.specs.declared.faults.ReadKind.TheVariants.{UnknownName, DuplicateEntry, SumWide, Text, Order, Truncated}
use Rattle.text_fields.specs.declared.faults.TextKind.TheVariants.{BadNumber, NumberWide}
use Rattle.text_fields.specs.Numbers.{literal_in}
use Rattle.text_fields.specs.Fields.{fields_of, field_fault}
use Rattle.text_fields.specs.Lines.{lines_of}
use Rattle.mps_lines.specs.declared.sections.Section.{Section}
use Rattle.mps_lines.specs.declared.sections.Section.TheVariants.{Start, Name, Sense, Rows, Columns, Sides, Ranges, Bounds, End}
use Rattle.mps_lines.specs.Sections.{heading_word, may_follow}
use Rattle.mps_lines.specs.Records.{Record, heading_of, is_passed_over, is_header, is_last, section_after, record_after, records_after, records}
use Rattle.mps_lines.specs.declared.shapes.RowKind.{RowKind}
use Rattle.mps_lines.specs.Shapes.{Figure, SetLine, BoundLine, ColumnsLine, row_word, sense_word, columns_line, set_line, bound_line}
use Rattle.mps_lines.specs.Shapes.ColumnsLine.{Marker, Entries}
use Rattle.mps_lines.specs.Contexts.{Context, context_of, is_used}
use Rattle.mps_lines.specs.Steps.{Step, Refused, ToSense, ToRow, ToColumn, ToEntry, ToSide, ToRange, ToBound, refused, sense_steps, sense_further, bare_further, further_steps, heading_steps, row_steps, row_data, columns_steps, set_steps, bound_steps, sense_data, data_steps, whole_steps, steps_unless, steps_of, Placed, placed, steps_after, ending, all_steps}
use Rattle.mps_lines.proofs.Ends.{section-next}
use Rattle.mps_reader.specs.Tables.{RowRecord, is_free, is_free_row, rows_of, sides_of, ranges_of, figure_of, right_side}
use Rattle.mps_reader.specs.Sides.{is_range_wide}
use Rattle.mps_reader.specs.Faults.{fault, first_true, first_fault, stop_or, mps_fault, figure_tests, is_sum_wide}
use Rattle.mps_reader.specs.declared.tables.Reader.{Reader}
use Rattle.mps_reader.specs.Held.{Holds, tables, row_names_held, kind_held, right_held, is_free_among, kind_among, side_among, MakesSide, MakeSides}
use Rattle.mps_reader.specs.Built.{HasSides}
use Rattle.name_map.specs.Names.{StandsAt, name_at}
use Rattle.name_map.proofs.NameLists.{length_map}
use Rattle.mps_reader.proofs.Looks.{place_look}
use Rattle.mps_reader.proofs.Meant.{stands_at}
use Rattle.mps_reader.proofs.Tested.{free_at, kind_at}
use Rattle.mps_reader.proofs.Firsts.{steps_placed}
use Rattle.mps_reader.proofs.Grows.{tables_sense, tables_row, tables_column, tables_entry, tables_side, tables_range, tables_bound}
use Rattle.mps_reader.proofs.Sided.{fault_range, right_is}

some_same : {A : Type 0} (a b : A) → Some a ≡ Some b → a ≡ b
some_same a b e = ap (λ o. unwrap_or o a) e

some_none : {A : Type 0} (a : A) → Some a ≡ None → ⊥
some_none a e = true≢false (ap is_some e)

-- ---- one step more
-- a row that is found is found among more
kind_more : (rows more : List RowRecord) (name : List ℕ) (kind : RowKind) → kind_among rows name ≡ Some kind → kind_among (rows ++ more) name ≡ Some kind
kind_more [] more name kind e = absurd (some_none kind (sym e))
kind_more (r ∷ rows) more name kind e = by (bytes_eq name r.name) e (kind_more rows more name kind)
  where
    by : (b : Bool) → option_map (λ (r : RowRecord). r.kind) (cond b (Some r) (find (λ r. bytes_eq name r.name) rows)) ≡ Some kind
        → (kind_among rows name ≡ Some kind → kind_among (rows ++ more) name ≡ Some kind)
        → option_map (λ (r : RowRecord). r.kind) (cond b (Some r) (find (λ r. bytes_eq name r.name) (rows ++ more))) ≡ Some kind
    by true e h = e
    by false e h = h e

-- a row that is not free among more is not free
free_fewer : (rows more : List RowRecord) (name : List ℕ) → is_free_among (rows ++ more) name ≡ false → is_free_among rows name ≡ false
free_fewer rows more name e =
    let free = λ (r : RowRecord). is_free r.kind in
    let named = λ (r : RowRecord). bytes_eq name r.name in
    (or_parts (list_any named (filter free rows)) (list_any named (filter free more))
    (sym (list_any-append named (filter free rows) (filter free more)) ∙ ap (list_any named) (sym (filter-append free rows more)) ∙ e)).0

rows_more : (rows more : List RowRecord) (sides : List Figure) (name : List ℕ) (o : Option Figure) → IfSome o (MakesSide rows sides name) → IfSome o (MakesSide (rows ++ more) sides name)
rows_more rows more sides name None h = tt
rows_more rows more sides name (Some f) h = record {
  kind = h.kind;
  declared = kind_more rows more name h.kind h.declared;
  fits = λ free. h.fits (free_fewer rows more name free);
}

-- the figure of a row among one more
figure_more : (figures : List Figure) (f : Figure) (name : List ℕ) (P : Figure → Type 0) → IfSome (figure_of figures name) P → (name ≡ f.row → P f) → IfSome (figure_of (figures ++ f ∷ []) name) P
figure_more [] f name P h new = by (bytes_eq name f.row) refl
  where
    by : (b : Bool) → bytes_eq name f.row ≡ b → IfSome (cond b (Some f) None) P
    by true e = new ((bytes_eq-Decides name f.row).0 e)
    by false e = tt
figure_more (g ∷ figures) f name P h new = by (bytes_eq name g.row) h (λ k. figure_more figures f name P k new)
  where
    by : (b : Bool) → IfSome (cond b (Some g) (figure_of figures name)) P → (IfSome (figure_of figures name) P → IfSome (figure_of (figures ++ f ∷ []) name) P) → IfSome (cond b (Some g) (figure_of (figures ++ f ∷ []) name)) P
    by true h more = h
    by false h more = more h

-- ---- a range that has no fault
false_first : (kind : ReadKind) (rest : List (Bool × ReadKind)) (b : Bool) → first_true ((b, kind) ∷ rest) ≡ None → (b ≡ false) × (first_true rest ≡ None)
unfolding first_true
false_first kind rest true e = absurd (some_none kind e)
false_first kind rest false e = (refl, e)

-- a row that is named has a kind
named_kind : (rows : List RowRecord) (name : List ℕ) → list_any (bytes_eq name) (map (λ (r : RowRecord). r.name) rows) ≡ true → (kind : RowKind) × (kind_among rows name ≡ Some kind)
named_kind [] name e = absurd (true≢false (sym e))
named_kind (r ∷ rows) name e = by (bytes_eq name r.name) e (named_kind rows name)
  where
    by : (b : Bool) → (b || list_any (bytes_eq name) (map (λ (r : RowRecord). r.name) rows)) ≡ true → (list_any (bytes_eq name) (map (λ (r : RowRecord). r.name) rows) ≡ true → (kind : RowKind) × (kind_among rows name ≡ Some kind))
        → (kind : RowKind) × (option_map (λ (r : RowRecord). r.kind) (cond b (Some r) (find (λ r. bytes_eq name r.name) rows)) ≡ Some kind)
    by true e h = (r.kind, refl)
    by false e h = h e

not_false : (b : Bool) → not b ≡ false → b ≡ true
not_false true e = refl
not_false false e = absurd (true≢false e)

-- what its tests tell
range_makes : (steps : List Step) (f : Figure) → fault steps (ToRange f) ≡ None → MakesSide (rows_of steps) (sides_of steps) f.row f
range_makes steps f e =
    let sum : Bool = not (is_free_row steps f.row) && is_sum_wide steps f in
    let all : first_true (figure_tests steps (ranges_of steps) f ++ (sum, SumWide) ∷ []) ≡ None = sym (fault_range steps f) ∙ e in
    let first = false_first UnknownName _ _ all in
    let second = false_first (Text BadNumber) _ _ first.1 in
    let third = false_first (Text NumberWide) _ _ second.1 in
    let fourth = false_first DuplicateEntry _ _ third.1 in
    let fifth = false_first SumWide _ _ fourth.1 in
    let found = named_kind (rows_of steps) f.row (not_false _ first.0) in
    record { kind = found.0; declared = found.1; fits = λ free. fits found.0 found.1 free (literal_in f.number) refl fifth.0 }
  where
    fits : (kind : RowKind) → kind_among (rows_of steps) f.row ≡ Some kind → is_free_among (rows_of steps) f.row ≡ false → (o : Option Literal) → literal_in f.number ≡ o
        → (not (is_free_row steps f.row) && is_sum_wide steps f) ≡ false → IfSome o (λ literal. is_range_wide kind (side_among (sides_of steps) f.row) literal ≡ false)
    fits kind is free None reads e = tt
    fits kind is free (Some literal) reads e =
        sym (λ i. not (free i) && option_map_or (λ kind. option_map_or (is_range_wide kind (right_side steps f.row)) (reads i) false) (is i) false) ∙ e

-- ---- the order of steps
-- a right side comes before all ranges
abbrev IsEarly : List Step → Step → Type 0
IsEarly steps (ToSide f) = ranges_of steps ≡ []
IsEarly steps _ = Unit {0}

abbrev AreEarly : List Step → List Step → Type 0
AreEarly steps [] = Unit {0}
AreEarly steps (s ∷ ss) = IsEarly steps s × AreEarly (steps ++ s ∷ []) ss

refused_fault : (steps : List Step) (kind : ReadKind) → fault steps (Refused kind) ≡ Some kind
unfolding fault
refused_fault steps kind = refl

-- one step more
step_makes : (steps : List Step) (s : Step) → fault steps s ≡ None → IsEarly steps s → MakeSides (tables steps) → MakeSides (tables (steps ++ s ∷ []))
step_makes steps (Refused kind) e early h = absurd (some_none kind (sym (refused_fault steps kind) ∙ e))
step_makes steps (ToSense greatest) e early h = subst MakeSides (sym (tables_sense steps greatest)) h
step_makes steps (ToRow kind name) e early h =
    let r : RowRecord = record { name = name; kind = kind } in
    subst MakeSides (sym (tables_row steps kind name)) (λ n. rows_more (rows_of steps) (r ∷ []) (sides_of steps) n (figure_of (ranges_of steps) n) (h n))
step_makes steps (ToColumn name whole) e early h = subst MakeSides (sym (tables_column steps name whole _ refl)) h
step_makes steps (ToEntry column figure) e early h = subst MakeSides (sym (tables_entry steps column figure)) h
step_makes steps (ToSide f) e early h =
    subst MakeSides (sym (tables_side steps f)) (λ n. subst (λ (fs : List Figure). IfSome (figure_of fs n) (MakesSide (rows_of steps) (sides_of steps ++ f ∷ []) n)) (sym early) tt)
step_makes steps (ToRange f) e early h =
    subst MakeSides (sym (tables_range steps f))
    (λ n. figure_more (ranges_of steps) f n (MakesSide (rows_of steps) (sides_of steps) n) (h n)
    (λ same. subst (λ (m : List ℕ). MakesSide (rows_of steps) (sides_of steps) m f) (sym same) (range_makes steps f e)))
step_makes steps (ToBound bound) e early h = subst MakeSides (sym (tables_bound steps bound)) h

-- all the steps after some
all_make : (steps : List Step) (ps : List Placed) → first_fault steps ps ≡ None → AreEarly steps (map (λ (p : Placed). p.step) ps) → MakeSides (tables steps) → MakeSides (tables (steps ++ map (λ (p : Placed). p.step) ps))
unfolding first_fault
all_make steps [] e early h = subst (λ (l : List Step). MakeSides (tables l)) (sym (append-nil steps)) h
all_make steps (p ∷ ps) e early h = by (fault steps p.step) refl e (λ e h. all_make (steps ++ p.step ∷ []) ps e early.1 h)
  where
    by : (o : Option ReadKind) → fault steps p.step ≡ o → stop_or p.line o (first_fault (steps ++ p.step ∷ []) ps) ≡ None
        → (first_fault (steps ++ p.step ∷ []) ps ≡ None → MakeSides (tables (steps ++ p.step ∷ [])) → MakeSides (tables ((steps ++ p.step ∷ []) ++ map (λ (p : Placed). p.step) ps)))
        → MakeSides (tables (steps ++ p.step ∷ map (λ (p : Placed). p.step) ps))
    by (Some kind) is e rest = absurd (some_none _ e)
    by None is e rest =
        subst (λ (l : List Step). MakeSides (tables l)) (append_assoc steps (p.step ∷ []) (map (λ (p : Placed). p.step) ps))
        (rest e (step_makes steps p.step is early.0 h))

-- ---- the order of sections
-- a section that comes after the right sides
is_late : Section → Bool
is_late Ranges = true
is_late Bounds = true
is_late End = true
is_late _ = false

late_follows : (before next : Section) → may_follow before next ≡ true → is_late before ≡ true → is_late next ≡ true
unfolding is_late
late_follows Ranges Bounds e l = refl
late_follows Ranges End e l = refl
late_follows Bounds End e l = refl
late_follows Ranges Start e l = absurd (true≢false (sym e))
late_follows Ranges Name e l = absurd (true≢false (sym e))
late_follows Ranges Sense e l = absurd (true≢false (sym e))
late_follows Ranges Rows e l = absurd (true≢false (sym e))
late_follows Ranges Columns e l = absurd (true≢false (sym e))
late_follows Ranges Sides e l = absurd (true≢false (sym e))
late_follows Ranges Ranges e l = refl
late_follows Bounds Start e l = absurd (true≢false (sym e))
late_follows Bounds Name e l = absurd (true≢false (sym e))
late_follows Bounds Sense e l = absurd (true≢false (sym e))
late_follows Bounds Rows e l = absurd (true≢false (sym e))
late_follows Bounds Columns e l = absurd (true≢false (sym e))
late_follows Bounds Sides e l = absurd (true≢false (sym e))
late_follows Bounds Ranges e l = refl
late_follows Bounds Bounds e l = refl
late_follows End next e l = absurd (true≢false (sym e))
late_follows Start next e l = absurd (true≢false (sym l))
late_follows Name next e l = absurd (true≢false (sym l))
late_follows Sense next e l = absurd (true≢false (sym l))
late_follows Rows next e l = absurd (true≢false (sym l))
late_follows Columns next e l = absurd (true≢false (sym l))
late_follows Sides next e l = absurd (true≢false (sym l))

-- a line says right sides only before the ranges, and ranges only after the right sides
abbrev IsIn : Bool → Step → Type 0
IsIn late (ToSide f) = late ≡ false
IsIn late (ToRange f) = late ≡ true
IsIn late _ = Unit {0}

abbrev AreIn : Bool → List Step → Type 0
AreIn late [] = Unit {0}
AreIn late (s ∷ ss) = IsIn late s × AreIn late ss

in_map : (late : Bool) (to : Figure → Step) → ((f : Figure) → IsIn late (to f)) → (figures : List Figure) → AreIn late (map to figures)
in_map late to h [] = tt
in_map late to h (f ∷ figures) = (h f, in_map late to h figures)

sense_in : (late : Bool) (o : Option Bool) → AreIn late (sense_steps o)
sense_in late None = (tt, tt)
sense_in late (Some greatest) = (tt, tt)

further_in : (late : Bool) (next : Section) (further : List (List ℕ)) → AreIn late (further_steps next further)
further_in late next further = by next
  where
    bare : (further : List (List ℕ)) → AreIn late (bare_further further)
    bare [] = tt
    bare (word ∷ further) = (tt, tt)

    sense : (further : List (List ℕ)) → AreIn late (sense_further further)
    sense [] = tt
    sense (word ∷ []) = sense_in late (sense_word word)
    sense (word ∷ more ∷ further) = (tt, tt)

    by : (next : Section) → AreIn late (further_steps next further)
    by Name = tt
    by Sense = sense further
    by Start = bare further
    by Rows = bare further
    by Columns = bare further
    by Sides = bare further
    by Ranges = bare further
    by Bounds = bare further
    by End = bare further

heading_in : (late : Bool) (before : Section) (next : Option Section) (further : List (List ℕ)) → AreIn late (heading_steps before next further)
heading_in late before None further = (tt, tt)
heading_in late before (Some next) further = by (may_follow before next)
  where
    by : (b : Bool) → AreIn late (cond b (further_steps next further) (refused Order))
    by true = further_in late next further
    by false = (tt, tt)

columns_in : (late whole : Bool) (line : Option ColumnsLine) → AreIn late (columns_steps whole line)
columns_in late whole None = (tt, tt)
columns_in late whole (Some (Marker on)) = tt
columns_in late whole (Some (Entries column figures)) = (tt, in_map late (ToEntry column) (λ f. tt) figures)

set_in : (late : Bool) (to : Figure → Step) → ((f : Figure) → IsIn late (to f)) → (first : Option (List ℕ)) (line : Option SetLine) → AreIn late (set_steps to first line)
set_in late to h first None = (tt, tt)
set_in late to h first (Some line) = by (is_used first line.set)
  where
    by : (b : Bool) → AreIn late (cond b (map to line.figures) [])
    by true = in_map late to h line.figures
    by false = tt

bound_in : (late : Bool) (first : Option (List ℕ)) (line : Result BoundLine ReadKind) → AreIn late (bound_steps first line)
bound_in late first (Err kind) = (tt, tt)
bound_in late first (Ok line) = by (is_used first line.set)
  where
    by : (b : Bool) → AreIn late (cond b (ToBound line.bound ∷ []) [])
    by true = (tt, tt)
    by false = tt

row_in : (late : Bool) (fields : List (List ℕ)) → AreIn late (row_data fields)
row_in late [] = (tt, tt)
row_in late (kind ∷ []) = (tt, tt)
row_in late (kind ∷ name ∷ []) = by (row_word kind)
  where
    by : (o : Option RowKind) → AreIn late (row_steps o name)
    by None = (tt, tt)
    by (Some kind) = (tt, tt)
row_in late (kind ∷ name ∷ more ∷ fields) = (tt, tt)

sense_data_in : (late : Bool) (fields : List (List ℕ)) → AreIn late (sense_data fields)
sense_data_in late [] = (tt, tt)
sense_data_in late (word ∷ []) = sense_in late (sense_word word)
sense_data_in late (word ∷ more ∷ fields) = (tt, tt)

data_in : (section : Section) (context : Context) (fields : List (List ℕ)) → AreIn (is_late section) (data_steps section context fields)
unfolding is_late
data_in Sense context fields = sense_data_in false fields
data_in Rows context fields = row_in false fields
data_in Columns context fields = columns_in false context.marked (columns_line fields)
data_in Sides context fields = set_in false ToSide (λ f. refl) context.sides (set_line fields)
data_in Ranges context fields = set_in true ToRange (λ f. refl) context.ranges (set_line fields)
data_in Bounds context fields = bound_in true context.bounds (bound_line fields)
data_in Start context fields = (tt, tt)
data_in Name context fields = (tt, tt)
data_in End context fields = (tt, tt)

line_in : (front : List Record) (r : Record) → AreIn (is_late r.section) (steps_of front r)
unfolding steps_of
line_in front r = by (field_fault r.text)
  where
    context : Context
    context = context_of (front ++ r ∷ [])

    whole : (p q : Bool) → AreIn (is_late r.section) (cond p [] (cond q (heading_steps r.section (heading_word (get_or (fields_of r.text) 0 [])) (drop 1 (fields_of r.text))) (data_steps r.section context (fields_of r.text))))
    whole true q = tt
    whole false true = heading_in (is_late r.section) r.section (heading_word (get_or (fields_of r.text) 0 [])) (drop 1 (fields_of r.text))
    whole false false = data_in r.section context (fields_of r.text)

    by : (fault : Option TextKind) → AreIn (is_late r.section) (steps_unless fault (whole_steps r context))
    by (Some kind) = (tt, tt)
    by None = whole (is_passed_over r.text) (is_header r.text)

-- ---- the section after a line
-- no step is refused
abbrev IsTaken : Step → Type 0
IsTaken (Refused kind) = ⊥
IsTaken _ = Unit {0}

abbrev AreTaken : List Step → Type 0
AreTaken [] = Unit {0}
AreTaken (s ∷ ss) = IsTaken s × AreTaken ss

-- a header is not passed over
header_read : (text : List ℕ) → is_header text ≡ true → is_passed_over text ≡ false
unfolding is_header
header_read text e = not-true _ (and_parts (not (is_passed_over text)) _ e).0

-- a line that is not refused leads from a late section to a late one
stays_late : (front : List Record) (r : Record) → r.section ≡ section_after front → AreTaken (steps_of front r) → is_late (section_after front) ≡ true → is_late (section_after (front ++ r ∷ [])) ≡ true
unfolding steps_of heading_of
stays_late front r own taken late = ap is_late (section-next front r) ∙ by (field_fault r.text) (is_passed_over r.text) (is_header r.text) refl refl taken
  where
    context : Context
    context = context_of (front ++ r ∷ [])

    word : Option Section
    word = heading_word (get_or (fields_of r.text) 0 [])

    to : (o : Option Section) → AreTaken (heading_steps r.section o (drop 1 (fields_of r.text))) → is_late (option_map_or (λ s. s) o (section_after front)) ≡ true
    to None taken = absurd taken.0
    to (Some next) taken = allowed (may_follow r.section next) refl taken
      where
        allowed : (b : Bool) → may_follow r.section next ≡ b → AreTaken (cond b (further_steps next (drop 1 (fields_of r.text))) (refused Order)) → is_late next ≡ true
        allowed true e taken = late_follows r.section next e (ap is_late own ∙ late)
        allowed false e taken = absurd taken.0

    by : (fault : Option TextKind) (p q : Bool) → is_passed_over r.text ≡ p → is_header r.text ≡ q
        → AreTaken (steps_unless fault (cond p [] (cond q (heading_steps r.section word (drop 1 (fields_of r.text))) (data_steps r.section context (fields_of r.text)))))
        → is_late (option_map_or (λ s. s) (cond q word None) (section_after front)) ≡ true
    by (Some kind) p q over header taken = absurd taken.0
    by None true true over header taken = absurd (true≢false (sym over ∙ header_read r.text header))
    by None true false over header taken = late
    by None false true over header taken = to word taken
    by None false false over header taken = late

-- ---- lines
-- before the ranges there is no range
abbrev HasNone : Bool → List Step → Type 0
HasNone late steps = late ≡ false → ranges_of steps ≡ []

-- a step that is no range adds none
no_range : (late : Bool) (steps : List Step) (s : Step) → IsIn late s → HasNone late steps → HasNone late (steps ++ s ∷ [])
unfolding ranges_of
no_range late steps s at h early = Rattle.std.proofs.lemmas.List.Elements.filter_map-append Rattle.mps_reader.specs.Tables.range_in steps (s ∷ []) ∙ append_none (Rattle.std.specs.List.filter_map Rattle.mps_reader.specs.Tables.range_in steps) (h early) (by s at)
  where
    append_none : (fs : List Figure) {gs : List Figure} → fs ≡ [] → gs ≡ [] → fs ++ gs ≡ []
    append_none fs {gs} e f = ap (λ l. l ++ gs) e ∙ f

    by : (s : Step) → IsIn late s → Rattle.std.specs.List.cons_option (Rattle.mps_reader.specs.Tables.range_in s) [] ≡ []
    by (Refused kind) at = refl
    by (ToSense greatest) at = refl
    by (ToRow kind name) at = refl
    by (ToColumn name whole) at = refl
    by (ToEntry column figure) at = refl
    by (ToSide f) at = refl
    by (ToRange f) at = absurd (true≢false (sym at ∙ early))
    by (ToBound bound) at = refl

-- what a line says is in order, and so is what comes after it
record Along (late : Bool) (steps ss : List Step) : Type 0 where
  none : HasNone late (steps ++ ss)
  then : (rest : List Step) → AreEarly (steps ++ ss) rest → AreEarly steps (ss ++ rest)

along : (late : Bool) (ss steps : List Step) → AreIn late ss → HasNone late steps → Along late steps ss
along late [] steps at h = record {
  none = subst (HasNone late) (sym (append-nil steps)) h;
  then = λ rest early. subst (λ (l : List Step). AreEarly l rest) (append-nil steps) early;
}
along late (s ∷ ss) steps at h =
    let more = along late ss (steps ++ s ∷ []) at.1 (no_range late steps s at.0 h) in
    record {
      none = subst (HasNone late) (append_assoc steps (s ∷ []) ss) more.none;
      then = λ rest early. (first s at.0, more.then rest (subst (λ (l : List Step). AreEarly l rest) (sym (append_assoc steps (s ∷ []) ss)) early));
    }
  where
    first : (s : Step) → IsIn late s → IsEarly steps s
    first (Refused kind) at = tt
    first (ToSense greatest) at = tt
    first (ToRow kind name) at = tt
    first (ToColumn name whole) at = tt
    first (ToEntry column figure) at = tt
    first (ToSide f) at = h at
    first (ToRange f) at = tt
    first (ToBound bound) at = tt

-- steps without a fault are not refused
record Passed (steps ss : List Step) (more : List Placed) : Type 0 where
  taken : AreTaken ss
  rest : first_fault (steps ++ ss) more ≡ None

passed : (line : ℕ) (ss steps : List Step) (more : List Placed) → first_fault steps (map (placed line) ss ++ more) ≡ None → Passed steps ss more
unfolding first_fault
passed line [] steps more e = record { taken = tt; rest = ap (λ (l : List Step). first_fault l more) (append-nil steps) ∙ e }
passed line (s ∷ ss) steps more e = by (fault steps s) refl e (λ e. passed line ss (steps ++ s ∷ []) more e)
  where
    taken_is : (s : Step) → fault steps s ≡ None → IsTaken s
    taken_is (Refused kind) e = some_none kind (sym (refused_fault steps kind) ∙ e)
    taken_is (ToSense greatest) e = tt
    taken_is (ToRow kind name) e = tt
    taken_is (ToColumn name whole) e = tt
    taken_is (ToEntry column figure) e = tt
    taken_is (ToSide f) e = tt
    taken_is (ToRange f) e = tt
    taken_is (ToBound bound) e = tt

    by : (o : Option ReadKind) → fault steps s ≡ o → stop_or line o (first_fault (steps ++ s ∷ []) (map (placed line) ss ++ more)) ≡ None
        → (first_fault (steps ++ s ∷ []) (map (placed line) ss ++ more) ≡ None → Passed (steps ++ s ∷ []) ss more) → Passed steps (s ∷ ss) more
    by (Some kind) is e rest = absurd (some_none _ e)
    by None is e rest =
        let p = rest e in
        record { taken = (taken_is s is, p.taken); rest = ap (λ (l : List Step). first_fault l more) (sym (append_assoc steps (s ∷ []) ss)) ∙ p.rest }

abbrev bare : List Placed → List Step
bare ps = map (λ (p : Placed). p.step) ps

-- the steps of lines are in order
lines_early : (front : List Record) (number : ℕ) (texts : List (List ℕ)) (steps : List Step) (tail : List Placed) → first_fault steps (steps_after front (records_after front number texts) ++ tail) ≡ None
    → HasNone (is_late (section_after front)) steps → ((more : List Step) → AreEarly more (bare tail)) → AreEarly steps (bare (steps_after front (records_after front number texts) ++ tail))
unfolding records_after steps_after
lines_early front number [] steps tail e none end = end steps
lines_early front number (text ∷ texts) steps tail e none end =
    subst (AreEarly steps) (sym said) (a.then (bare (left ++ tail)) (by (is_last text) refl p.rest (λ e none. lines_early more (number + 1) texts (steps ++ ss) tail e none end)))
  where
    r : Record
    r = record_after front number text

    ss : List Step
    ss = steps_of front r

    more : List Record
    more = front ++ r ∷ []

    left : List Placed
    left = steps_after more (cond (is_last text) [] (records_after more (number + 1) texts))

    assoc : (map (placed number) ss ++ left) ++ tail ≡ map (placed number) ss ++ (left ++ tail)
    assoc = append_assoc (map (placed number) ss) left tail

    said : bare ((map (placed number) ss ++ left) ++ tail) ≡ ss ++ bare (left ++ tail)
    said = ap bare assoc ∙ map-append (λ (p : Placed). p.step) (map (placed number) ss) (left ++ tail) ∙ ap (λ l. l ++ bare (left ++ tail)) (steps_placed number ss)

    p : Passed steps ss (left ++ tail)
    p = passed number ss steps (left ++ tail) (ap (first_fault steps) (sym assoc) ∙ e)

    a : Along (is_late (section_after front)) steps ss
    a = along (is_late (section_after front)) ss steps (line_in front r) none

    before : is_late (section_after more) ≡ false → is_late (section_after front) ≡ false
    before early = was (is_late (section_after front)) refl
      where
        was : (b : Bool) → is_late (section_after front) ≡ b → b ≡ false
        was true is = absurd (true≢false (sym (stays_late front r refl p.taken is) ∙ early))
        was false is = refl

    by : (b : Bool) → is_last text ≡ b → first_fault (steps ++ ss) (steps_after more (cond b [] (records_after more (number + 1) texts)) ++ tail) ≡ None
        → (first_fault (steps ++ ss) (steps_after more (records_after more (number + 1) texts) ++ tail) ≡ None → HasNone (is_late (section_after more)) (steps ++ ss) → AreEarly (steps ++ ss) (bare (steps_after more (records_after more (number + 1) texts) ++ tail)))
        → AreEarly (steps ++ ss) (bare (steps_after more (cond b [] (records_after more (number + 1) texts)) ++ tail))
    by true is e rest = end (steps ++ ss)
    by false is e rest = rest e (λ early. a.none (before early))

ending_early : (lines : List (List ℕ)) (more : List Step) → AreEarly more (bare (ending lines))
ending_early lines more = by (list_any is_last lines)
  where
    by : (b : Bool) → AreEarly more (bare (cond b [] (placed (max 1 (length lines)) (Refused Truncated) ∷ [])))
    by true = tt
    by false = (tt, tt)

-- ---- the whole text
nothing_makes : MakeSides (tables [])
unfolding ranges_of
nothing_makes name = tt

no_ranges : HasNone (is_late (section_after [])) []
unfolding ranges_of
no_ranges early = refl

-- the ranges of a text without a fault make sides that fit
pub sides_make : (bytes : List ℕ) → mps_fault bytes ≡ None → MakeSides (tables (bare (all_steps bytes)))
unfolding mps_fault all_steps
sides_make bytes e =
    all_make [] (steps_after [] (records bytes) ++ ending (lines_of bytes)) e
    (lines_early [] 1 (lines_of bytes) [] (ending (lines_of bytes)) e no_ranges (ending_early (lines_of bytes)))
    nothing_makes

-- ---- what a reader keeps
module _ (reader : Reader) (steps : List Step) (h : Holds reader steps) (apart : IsDistinct bytes_eq (row_names_held reader)) (make : MakeSides (tables steps)) where
  -- the side that the range of a row makes, as the reader keeps it
  pub sides_fit : (row : ℕ) → row < length reader.rows → HasSides reader row
  sides_fit row within free = by (lookup (nat_eq row) reader.ranges.entries) refl
    where
      names : List (List ℕ)
      names = row_names_held reader

      name : List ℕ
      name = name_at names row

      at : StandsAt names name row
      at = stands_at names row apart (subst (λ (n : ℕ). row < n) (sym (length_map (λ (e : List ℕ × RowKind). e.0) reader.rows)) within)

      free_is : is_free_among (rows_of steps) name ≡ false
      free_is = free_at reader.rows reader.free reader.kept reader.objective (rows_of steps) h.rows name row at ∙ free

      found : option_map (λ (f : Figure). literal_in f.number) (figure_of (ranges_of steps) name) ≡ option_map Some (lookup (nat_eq row) reader.ranges.entries)
      found = h.ranges.found name free_is ∙ shown (find _ reader.ranges.entries) ∙ ap (option_map Some) (sym (place_look names name row reader.ranges.entries at h.ranges.within))
        where
          shown : (o : Option (ℕ × Literal)) → option_map (λ (e : ℕ × Literal). Some e.1) o ≡ option_map Some (option_map (λ e. e.1) o)
          shown None = refl
          shown (Some e) = refl

      range_fits : (literal : Literal) (o : Option Figure) → IfSome o (MakesSide (rows_of steps) (sides_of steps) name) → option_map (λ (f : Figure). literal_in f.number) o ≡ Some (Some literal)
          → is_range_wide (kind_held reader row) (right_held reader row) literal ≡ false
      range_fits literal None m e = absurd (some_none _ (sym e))
      range_fits literal (Some f) m e =
          let reads : literal_in f.number ≡ Some literal = some_same (literal_in f.number) (Some literal) e in
          let kind : m.kind ≡ kind_held reader row = some_same m.kind (kind_held reader row) (sym m.declared ∙ kind_at reader.rows reader.free reader.kept reader.objective (rows_of steps) h.rows name row at) in
          let right : right_held reader row ≡ right_side steps name = right_is reader steps name row h at free in
          let fits : is_range_wide m.kind (right_side steps name) literal ≡ false = subst (λ o. IfSome o (λ literal. is_range_wide m.kind (right_side steps name) literal ≡ false)) reads (m.fits free_is) in
          (λ i. is_range_wide (sym kind i) (right i) literal) ∙ fits

      by : (o : Option Literal) → lookup (nat_eq row) reader.ranges.entries ≡ o → IfSome o (λ range. is_range_wide (kind_held reader row) (right_held reader row) range ≡ false)
      by None e = tt
      by (Some literal) e = range_fits literal (figure_of (ranges_of steps) name) (make name) (found ∙ ap (option_map Some) e)
