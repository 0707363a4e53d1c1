-- The names of an MPS text are words.
use Rattle.std.proofs.Common.{◌≡◌, ℕ, ◌+◌, ◌==◌, ◌||◌, not, Bool, true, false, cond, max, List, [], ◌∷◌, ◌++◌, length, map, filter, drop, get_or, Option, Some, None, Result, Ok, Err, refl, ap, ◌∙◌, true≢false, All}
use Rattle.std.specs.List.{list_all, list_any, slice_split, onto_first, filter_map}
use Rattle.std.specs.Str.{bytes_eq}
use Rattle.std.proofs.lemmas.Bool.{and_from, or_parts}
use Rattle.std.proofs.lemmas.List.Elements.{All-nil, All-cons, All-head, All-tail, All-map, All-filter}
use Rattle.lane_scan.specs.Bytes.{is_blank, is_end, is_foreign}
use Rattle.text_fields.specs.declared.faults.TextKind.{TextKind}
use Rattle.text_fields.specs.declared.faults.TextKind.TheVariants.{LongLine, ForeignByte}
use Rattle.text_fields.specs.declared.faults.ReadKind.{ReadKind}
use Rattle.text_fields.specs.declared.faults.ReadKind.TheVariants.{Truncated}
use Rattle.text_fields.specs.Fields.{fields_of, field_fault, is_filled, is_long, is_comment}
use Rattle.text_fields.specs.Lines.{lines_of, ended}
use Rattle.lp_model.specs.Program.{NamedRow, NamedColumn}
use Rattle.mps_lines.specs.declared.sections.Section.{Section}
use Rattle.mps_lines.specs.declared.sections.Section.TheVariants.{Start, Name, Sense, Rows, Columns, Sides, Ranges, Bounds, End}
use Rattle.mps_lines.specs.Sections.{heading_word, may_follow}
use Rattle.mps_lines.specs.Records.{Record, is_passed_over, is_header, is_last, record_after, records_after, records}
use Rattle.mps_lines.specs.declared.shapes.RowKind.{RowKind}
use Rattle.mps_lines.specs.Shapes.{Figure, SetLine, BoundLine, row_word, marker_word, columns_line, set_line, bound_line, figure}
use Rattle.mps_lines.specs.Shapes.ColumnsLine.{Marker, Entries}
use Rattle.mps_lines.specs.Contexts.{Context, context_of, is_used}
use Rattle.mps_lines.specs.Steps.{Step, Refused, ToSense, ToRow, ToColumn, ToEntry, ToSide, ToRange, ToBound, refused, sense_steps, sense_further, bare_further, further_steps, heading_steps, row_steps, columns_steps, set_steps, bound_steps, sense_data, row_data, data_steps, whole_steps, steps_unless, steps_of, Placed, placed, steps_after, ending, all_steps}
use Rattle.mps_lines.specs.Shapes.{sense_word}
use Rattle.mps_reader.specs.Tables.{RowRecord, ColumnRecord, row_in, rows_of, kept_rows, is_free, column_in, firsts, columns_of}
use Rattle.mps_reader.specs.Meaning.{named_row_of, named_column_of, program_of, mps_program}
use Rattle.report_text.specs.Names.{is_shown}
use Rattle.report_text.specs.Form.{is_word}
use Rattle.analysis.specs.NamesAreWords.{HasWords}
use Rattle.iis_run.proofs.ShownBytes.{field_byte_shown, word}

abbrev IsWord : List ℕ → Type 0
IsWord name = is_word name ≡ true

abbrev AreWords : List (List ℕ) → Type 0
AreWords [] = Unit {0}
AreWords (name ∷ names) = IsWord name × AreWords names

-- ---- lines and fields
-- no byte of a line passes
abbrev IsWithout : (ℕ → Bool) → List ℕ → Type 0
IsWithout p line = list_any p line ≡ false

abbrev AreWithout : (ℕ → Bool) → List (List ℕ) → Type 0
AreWithout p [] = Unit {0}
AreWithout p (part ∷ parts) = IsWithout p part × AreWithout p parts

without_onto : (p : ℕ → Bool) (x : ℕ) → p x ≡ false → (parts : List (List ℕ)) → AreWithout p parts → AreWithout p (onto_first x parts)
without_onto p x e [] h = (ap (λ (b : Bool). b || false) e, tt)
without_onto p x e (part ∷ parts) h = (ap (λ (b : Bool). b || list_any p part) e ∙ h.0, h.1)

-- no part of a text has a byte at which it is parted
parted : (p : ℕ → Bool) (xs : List ℕ) → AreWithout p (slice_split p xs)
parted p [] = (refl, tt)
parted p (x ∷ xs) = by (p x) refl (parted p xs)
  where
    by : (b : Bool) → p x ≡ b → AreWithout p (slice_split p xs) → AreWithout p (cond b ([] ∷ slice_split p xs) (onto_first x (slice_split p xs)))
    by true e h = (refl, h)
    by false e h = without_onto p x e (slice_split p xs) h

-- what no byte of a text is, no byte of its parts is
kept : (p q : ℕ → Bool) (xs : List ℕ) → IsWithout p xs → AreWithout p (slice_split q xs)
kept p q [] h = (refl, tt)
kept p q (x ∷ xs) h = by (q x) (kept p q xs (or_parts (p x) (list_any p xs) h).1)
  where
    by : (b : Bool) → AreWithout p (slice_split q xs) → AreWithout p (cond b ([] ∷ slice_split q xs) (onto_first x (slice_split q xs)))
    by true k = (refl, k)
    by false k = without_onto p x (or_parts (p x) (list_any p xs) h).0 (slice_split q xs) k

ended_without : (p : ℕ → Bool) (parts : List (List ℕ)) → AreWithout p parts → AreWithout p (ended parts)
ended_without p [] h = tt
ended_without p (part ∷ []) h = by (length part == 0)
  where
    by : (b : Bool) → AreWithout p (cond b [] (part ∷ []))
    by true = tt
    by false = h
ended_without p (part ∷ next ∷ parts) h = (h.0, ended_without p (next ∷ parts) h.1)

-- no line has an end in it
line_ends : (bytes : List ℕ) → AreWithout is_end (lines_of bytes)
unfolding lines_of
line_ends bytes = ended_without is_end (slice_split is_end bytes) (parted is_end bytes)

-- bytes that are neither foreign nor blanks nor ends may be shown
all_shown : (bs : List ℕ) → IsWithout is_foreign bs → IsWithout is_blank bs → IsWithout is_end bs → list_all is_shown bs ≡ true
all_shown [] f g h = refl
all_shown (b ∷ bs) f g h =
    let p = or_parts (is_foreign b) (list_any is_foreign bs) f in
    let q = or_parts (is_blank b) (list_any is_blank bs) g in
    let r = or_parts (is_end b) (list_any is_end bs) h in
    and_from (is_shown b) (list_all is_shown bs) (field_byte_shown b p.0 q.0 r.0) (all_shown bs p.1 q.1 r.1)

-- the parts that are filled are words
filled_words : (parts : List (List ℕ)) → AreWithout is_foreign parts → AreWithout is_blank parts → AreWithout is_end parts → AreWords (filter is_filled parts)
filled_words [] f g h = tt
filled_words (part ∷ parts) f g h = by (is_filled part) refl (filled_words parts f.1 g.1 h.1)
  where
    by : (b : Bool) → is_filled part ≡ b → AreWords (filter is_filled parts) → AreWords (cond b (part ∷ filter is_filled parts) (filter is_filled parts))
    by true e k = (and_from (is_filled part) (list_all is_shown part) e (all_shown part f.0 g.0 h.0), k)
    by false e k = k

field_words : (line : List ℕ) → IsWithout is_foreign line → IsWithout is_end line → AreWords (fields_of line)
unfolding fields_of
field_words line f h = filled_words (slice_split is_blank line) (kept is_foreign is_blank line f) (parted is_blank line) (kept is_end is_blank line h)

-- ---- steps
-- a row or a column that a step names has a word for a name
abbrev IsNamed : Step → Type 0
IsNamed (ToRow kind name) = IsWord name
IsNamed (ToColumn name whole) = IsWord name
IsNamed _ = Unit {0}

abbrev AreNamed : List Step → Type 0
AreNamed [] = Unit {0}
AreNamed (step ∷ steps) = IsNamed step × AreNamed steps

named_append : (xs ys : List Step) → AreNamed xs → AreNamed ys → AreNamed (xs ++ ys)
named_append [] ys h k = k
named_append (x ∷ xs) ys h k = (h.0, named_append xs ys h.1 k)

named_map : (to : Figure → Step) → ((f : Figure) → IsNamed (to f)) → (figures : List Figure) → AreNamed (map to figures)
named_map to h [] = tt
named_map to h (f ∷ figures) = (h f, named_map to h figures)

sense_named : (o : Option Bool) → AreNamed (sense_steps o)
sense_named None = (tt, tt)
sense_named (Some greatest) = (tt, tt)

sense_further_named : (further : List (List ℕ)) → AreNamed (sense_further further)
sense_further_named [] = tt
sense_further_named (word ∷ []) = sense_named (sense_word word)
sense_further_named (word ∷ next ∷ further) = (tt, tt)

bare_named : (further : List (List ℕ)) → AreNamed (bare_further further)
bare_named [] = tt
bare_named (word ∷ further) = (tt, tt)

further_named : (next : Section) (further : List (List ℕ)) → AreNamed (further_steps next further)
further_named Name further = tt
further_named Sense further = sense_further_named further
further_named Start further = bare_named further
further_named Rows further = bare_named further
further_named Columns further = bare_named further
further_named Sides further = bare_named further
further_named Ranges further = bare_named further
further_named Bounds further = bare_named further
further_named End further = bare_named further

heading_named : (before : Section) (next : Option Section) (further : List (List ℕ)) → AreNamed (heading_steps before next further)
heading_named before None further = (tt, tt)
heading_named before (Some next) further = by (may_follow before next)
  where
    by : (b : Bool) → AreNamed (cond b (further_steps next further) (refused Rattle.text_fields.specs.declared.faults.ReadKind.TheVariants.Order))
    by true = further_named next further
    by false = (tt, tt)

row_named : (kind : Option RowKind) (name : List ℕ) → IsWord name → AreNamed (row_steps kind name)
row_named None name h = (tt, tt)
row_named (Some kind) name h = (h, tt)

rows_named : (fields : List (List ℕ)) → AreWords fields → AreNamed (row_data fields)
rows_named [] h = (tt, tt)
rows_named (kind ∷ []) h = (tt, tt)
rows_named (kind ∷ name ∷ []) h = row_named (row_word kind) name h.1.0
rows_named (kind ∷ name ∷ more ∷ rest) h = (tt, tt)

marker_named : (whole : Bool) (o : Option Bool) → AreNamed (columns_steps whole (Rattle.std.specs.Option.option_map Marker o))
marker_named whole None = (tt, tt)
marker_named whole (Some on) = tt

entries_named : (whole : Bool) (column : List ℕ) (figures : List Figure) → IsWord column → AreNamed (columns_steps whole (Some (Entries column figures)))
entries_named whole column figures h = (h, named_map (ToEntry column) (λ f. tt) figures)

columns_named : (whole : Bool) (fields : List (List ℕ)) → AreWords fields → AreNamed (columns_steps whole (columns_line fields))
columns_named whole [] h = (tt, tt)
columns_named whole (a ∷ []) h = (tt, tt)
columns_named whole (a ∷ b ∷ []) h = (tt, tt)
columns_named whole (a ∷ b ∷ c ∷ []) h = by (bytes_eq b (Rattle.std.specs.Prelude.codes "'MARKER'"))
  where
    by : (t : Bool) → AreNamed (columns_steps whole (cond t (Rattle.std.specs.Option.option_map Marker (marker_word c)) (Some (Entries a (figure b c ∷ [])))))
    by true = marker_named whole (marker_word c)
    by false = entries_named whole a (figure b c ∷ []) h.0
columns_named whole (a ∷ b ∷ c ∷ d ∷ []) h = (tt, tt)
columns_named whole (a ∷ b ∷ c ∷ d ∷ e ∷ []) h = entries_named whole a (figure b c ∷ figure d e ∷ []) h.0
columns_named whole (a ∷ b ∷ c ∷ d ∷ e ∷ f ∷ fields) h = (tt, tt)

set_named : (to : Figure → Step) → ((f : Figure) → IsNamed (to f)) → (first : Option (List ℕ)) (line : Option SetLine) → AreNamed (set_steps to first line)
set_named to h first None = (tt, tt)
set_named to h first (Some line) = by (is_used first line.set)
  where
    by : (b : Bool) → AreNamed (cond b (map to line.figures) [])
    by true = named_map to h line.figures
    by false = tt

bound_named : (first : Option (List ℕ)) (line : Result BoundLine ReadKind) → AreNamed (bound_steps first line)
bound_named first (Err kind) = (tt, tt)
bound_named first (Ok line) = by (is_used first line.set)
  where
    by : (b : Bool) → AreNamed (cond b (ToBound line.bound ∷ []) [])
    by true = (tt, tt)
    by false = tt

sense_data_named : (fields : List (List ℕ)) → AreNamed (sense_data fields)
sense_data_named [] = (tt, tt)
sense_data_named (word ∷ []) = sense_named (sense_word word)
sense_data_named (word ∷ next ∷ fields) = (tt, tt)

data_named : (section : Section) (context : Context) (fields : List (List ℕ)) → AreWords fields → AreNamed (data_steps section context fields)
data_named Sense context fields h = sense_data_named fields
data_named Rows context fields h = rows_named fields h
data_named Columns context fields h = columns_named context.marked fields h
data_named Sides context fields h = set_named ToSide (λ f. tt) context.sides (set_line fields)
data_named Ranges context fields h = set_named ToRange (λ f. tt) context.ranges (set_line fields)
data_named Bounds context fields h = bound_named context.bounds (bound_line fields)
data_named Start context fields h = (tt, tt)
data_named Name context fields h = (tt, tt)
data_named End context fields h = (tt, tt)

-- a line that is no comment and has no fault has no foreign byte
no_foreign : (line : List ℕ) → field_fault line ≡ None → is_comment line ≡ false → IsWithout is_foreign line
unfolding field_fault
no_foreign line e f = by (is_long line) (is_comment line) (list_any is_foreign line) refl e f
  where
    none_some : {A : Type 0} (a : A) → Some a ≡ None → ⊥
    none_some a e = true≢false (ap Rattle.std.proofs.Common.is_some e)

    by : (l c b : Bool) → list_any is_foreign line ≡ b → cond l (Some LongLine) (cond c None (cond b (Some ForeignByte) None)) ≡ None → c ≡ false → list_any is_foreign line ≡ false
    by true c b g e f = absurd (none_some LongLine e)
    by false true b g e f = absurd (true≢false f)
    by false false true g e f = absurd (none_some ForeignByte e)
    by false false false g e f = g

-- what is not passed over is no comment
passed_over : (text : List ℕ) → is_passed_over text ≡ false → is_comment text ≡ false
unfolding is_passed_over
passed_over text e = (or_parts (is_comment text) (length (fields_of text) == 0) e).0

line_named : (front : List Record) (r : Record) → IsWithout is_end r.text → AreNamed (steps_of front r)
unfolding steps_of
line_named front r h = by (field_fault r.text) refl
  where
    context : Context
    context = context_of (front ++ r ∷ [])

    whole : (p q : Bool) → is_passed_over r.text ≡ p → field_fault r.text ≡ None → AreNamed (cond p [] (cond q (heading_steps r.section (heading_word (get_or (fields_of r.text) 0 [])) (drop 1 (fields_of r.text))) (data_steps r.section context (fields_of r.text))))
    whole true q e f = tt
    whole false true e f = heading_named r.section (heading_word (get_or (fields_of r.text) 0 [])) (drop 1 (fields_of r.text))
    whole false false e f = data_named r.section context (fields_of r.text) (field_words r.text (no_foreign r.text f (passed_over r.text e)) h)

    by : (fault : Option TextKind) → field_fault r.text ≡ fault → AreNamed (steps_unless fault (whole_steps r context))
    by (Some kind) e = (tt, tt)
    by None e = whole (is_passed_over r.text) (is_header r.text) refl e

-- ---- the text
abbrev AreEnded : List Record → Type 0
AreEnded [] = Unit {0}
AreEnded (r ∷ rs) = IsWithout is_end r.text × AreEnded rs

records_ended : (front : List Record) (number : ℕ) (texts : List (List ℕ)) → AreWithout is_end texts → AreEnded (records_after front number texts)
unfolding records_after
records_ended front number [] h = tt
records_ended front number (text ∷ texts) h = (h.0, by (is_last text) (records_ended (front ++ record_after front number text ∷ []) (number + 1) texts h.1))
  where
    by : (b : Bool) → AreEnded (records_after (front ++ record_after front number text ∷ []) (number + 1) texts) → AreEnded (cond b [] (records_after (front ++ record_after front number text ∷ []) (number + 1) texts))
    by true k = tt
    by false k = k

abbrev AreNamedPlaced : List Placed → Type 0
AreNamedPlaced [] = Unit {0}
AreNamedPlaced (p ∷ ps) = IsNamed p.step × AreNamedPlaced ps

placed_append : (xs ys : List Placed) → AreNamedPlaced xs → AreNamedPlaced ys → AreNamedPlaced (xs ++ ys)
placed_append [] ys h k = k
placed_append (x ∷ xs) ys h k = (h.0, placed_append xs ys h.1 k)

placed_map : (line : ℕ) (steps : List Step) → AreNamed steps → AreNamedPlaced (map (placed line) steps)
placed_map line [] h = tt
placed_map line (step ∷ steps) h = (h.0, placed_map line steps h.1)

steps_named : (front rs : List Record) → AreEnded rs → AreNamedPlaced (steps_after front rs)
unfolding steps_after
steps_named front [] h = tt
steps_named front (r ∷ rs) h =
    placed_append (map (placed r.number) (steps_of front r)) (steps_after (front ++ r ∷ []) rs) (placed_map r.number (steps_of front r) (line_named front r h.0)) (steps_named (front ++ r ∷ []) rs h.1)

ending_named : (lines : List (List ℕ)) → AreNamedPlaced (ending lines)
ending_named lines = by (list_any is_last lines)
  where
    by : (b : Bool) → AreNamedPlaced (cond b [] (placed (max 1 (length lines)) (Refused Truncated) ∷ []))
    by true = tt
    by false = (tt, tt)

text_named : (bytes : List ℕ) → AreNamedPlaced (all_steps bytes)
unfolding all_steps
text_named bytes = placed_append (steps_after [] (records bytes)) (ending (lines_of bytes)) (steps_named [] (records bytes) (records_ended [] 1 (lines_of bytes) (line_ends bytes))) (ending_named (lines_of bytes))

unplaced : (ps : List Placed) → AreNamedPlaced ps → AreNamed (map (λ p. p.step) ps)
unplaced [] h = tt
unplaced (p ∷ ps) h = (h.0, unplaced ps h.1)

-- ---- the program
abbrev IsNamedRow : RowRecord → Type 0
IsNamedRow r = IsWord r.name

abbrev IsNamedColumn : ColumnRecord → Type 0
IsNamedColumn c = IsWord c.name

rows_of_named : (steps : List Step) → AreNamed steps → All IsNamedRow (filter_map row_in steps)
rows_of_named [] h = All-nil IsNamedRow
rows_of_named (Refused kind ∷ steps) h = rows_of_named steps h.1
rows_of_named (ToSense greatest ∷ steps) h = rows_of_named steps h.1
rows_of_named (ToRow kind name ∷ steps) h = All-cons IsNamedRow (record { name = name; kind = kind }) (filter_map row_in steps) h.0 (rows_of_named steps h.1)
rows_of_named (ToColumn name whole ∷ steps) h = rows_of_named steps h.1
rows_of_named (ToEntry column figure ∷ steps) h = rows_of_named steps h.1
rows_of_named (ToSide figure ∷ steps) h = rows_of_named steps h.1
rows_of_named (ToRange figure ∷ steps) h = rows_of_named steps h.1
rows_of_named (ToBound bound ∷ steps) h = rows_of_named steps h.1

columns_in_named : (steps : List Step) → AreNamed steps → All IsNamedColumn (filter_map column_in steps)
columns_in_named [] h = All-nil IsNamedColumn
columns_in_named (Refused kind ∷ steps) h = columns_in_named steps h.1
columns_in_named (ToSense greatest ∷ steps) h = columns_in_named steps h.1
columns_in_named (ToRow kind name ∷ steps) h = columns_in_named steps h.1
columns_in_named (ToColumn name whole ∷ steps) h = All-cons IsNamedColumn (record { name = name; whole = whole }) (filter_map column_in steps) h.0 (columns_in_named steps h.1)
columns_in_named (ToEntry column figure ∷ steps) h = columns_in_named steps h.1
columns_in_named (ToSide figure ∷ steps) h = columns_in_named steps h.1
columns_in_named (ToRange figure ∷ steps) h = columns_in_named steps h.1
columns_in_named (ToBound bound ∷ steps) h = columns_in_named steps h.1

firsts_named : (cs : List ColumnRecord) → All IsNamedColumn cs → All IsNamedColumn (firsts cs)
firsts_named [] h = h
firsts_named (c ∷ cs) h =
    All-cons IsNamedColumn c (filter (λ (d : ColumnRecord). not (bytes_eq c.name d.name)) (firsts cs)) (All-head IsNamedColumn c cs h)
    (All-filter (λ (d : ColumnRecord). not (bytes_eq c.name d.name)) IsNamedColumn (firsts cs) (firsts_named cs (All-tail IsNamedColumn c cs h)))

-- each name of the program that an MPS text declares
pub mps_words : (bytes : List ℕ) → HasWords (mps_program bytes)
unfolding program_of rows_of columns_of
mps_words bytes =
    let steps = map (λ (p : Placed). p.step) (all_steps bytes) in
    let named : AreNamed steps = unplaced (all_steps bytes) (text_named bytes) in
    record {
      rows = All-map (λ (r : NamedRow). IsWord r.name) (named_row_of steps) (kept_rows steps)
          (All-filter (λ (r : RowRecord). not (is_free r.kind)) IsNamedRow (rows_of steps) (rows_of_named steps named));
      columns = All-map (λ (c : NamedColumn). IsWord c.name) (named_column_of steps) (columns_of steps)
          (firsts_named (filter_map column_in steps) (columns_in_named steps named));
    }
