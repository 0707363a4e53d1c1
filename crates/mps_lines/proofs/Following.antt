-- How the line after a line is to be read.
use Rattle.std.proofs.Common.{◌≡◌, ℕ, Bool, true, false, List, [], ◌∷◌, ◌++◌, refl, ap, ◌∙◌}
use Rattle.std.specs.Prelude.{◌&&◌, not, cond, slice_get, slice_index, slice_index_or, Option, Some, None}
use Rattle.std.specs.List.{filter_map, last_or, cons_option}
use Rattle.std.specs.Option.{option_map_or}
use Rattle.std.proofs.lemmas.List.Elements.{filter_map-append}
use Rattle.lane_scan.specs.Bytes.{is_blank}
use Rattle.text_fields.specs.Fields.{fields_of}
use Rattle.mps_lines.specs.Sections.{is_section, Section, Start, Name, Sense, Rows, Columns, Sides, Ranges, Bounds, End, heading_word}
use Rattle.mps_lines.specs.Records.{Record, is_passed_over, is_header, is_data, heading_of}
use Rattle.mps_lines.specs.Contexts.{Context, context_of, marker_in, set_in, first_or, fields_in, data_context, marker_of, set_of_fields}
use Rattle.mps_lines.specs.Shapes.{columns_line}
use Rattle.mps_lines.specs.Said.{next_context}

-- the last of a list with one more, if there is one more
last_or-more : {A : Type 0} (o : Option A) (xs : List A) (v : Option A) → last_or o (xs ++ cons_option v []) ≡ option_map_or (λ x. Some x) v (last_or o xs)
last_or-more o [] None = refl
last_or-more o [] (Some v) = refl
last_or-more o (x ∷ xs) v = last_or-more (Some x) xs v

-- and what it says, or else d
last-more : {A B : Type 0} (h : B → Option A) (d : A) (front : List B) (r : B) → option_map_or (λ x. x) (last_or None (filter_map h (front ++ r ∷ []))) d ≡ option_map_or (λ x. x) (h r) (option_map_or (λ x. x) (last_or None (filter_map h front)) d)
last-more {A = A} h d front r =
    ap (λ xs. option_map_or (λ x. x) (last_or None xs) d) (filter_map-append h front (r ∷ []))
    ∙ ap (λ o. option_map_or (λ x. x) o d) (last_or-more None (filter_map h front) (h r))
    ∙ by (h r) (last_or None (filter_map h front))
  where
    by : (v o : Option A) → option_map_or (λ x. x) (option_map_or (λ x. Some x) v o) d ≡ option_map_or (λ x. x) v (option_map_or (λ x. x) o d)
    by None o = refl
    by (Some v) o = refl

-- the first of a list with one more, if there is one more
get-more : (xs : List (List ℕ)) (v : Option (List ℕ)) → slice_get (xs ++ cons_option v []) 0 ≡ first_or (slice_get xs 0) v
get-more [] None = refl
get-more [] (Some v) = refl
get-more (x ∷ xs) v = refl

first-more : (h : Record → Option (List ℕ)) (front : List Record) (r : Record) → slice_get (filter_map h (front ++ r ∷ [])) 0 ≡ first_or (slice_get (filter_map h front) 0) (h r)
first-more h front r = ap (λ xs. slice_get xs 0) (filter_map-append h front (r ∷ [])) ∙ get-more (filter_map h front) (h r)

-- a context with what a line says
abbrev pub with_line : Context → Record → Context
with_line context r = record {
  section = option_map_or (λ s. s) (heading_of r.text) context.section;
  marked = option_map_or (λ b. b) (marker_in r) context.marked;
  sides = first_or context.sides (set_in Sides r);
  ranges = first_or context.ranges (set_in Ranges r);
  bounds = first_or context.bounds (set_in Bounds r);
}

same : (a b : Context) → a.section ≡ b.section → a.marked ≡ b.marked → a.sides ≡ b.sides → a.ranges ≡ b.ranges → a.bounds ≡ b.bounds → a ≡ b
same a b s m x y z = rw (s, m, x, y, z) refl

pub with-line : (front : List Record) (r : Record) → context_of (front ++ r ∷ []) ≡ with_line (context_of front) r
unfolding context_of
with-line front r = same (context_of (front ++ r ∷ [])) (with_line (context_of front) r)
    (last-more (λ (x : Record). heading_of x.text) Start front r)
    (last-more marker_in false front r)
    (first-more (set_in Sides) front r)
    (first-more (set_in Ranges) front r)
    (first-more (set_in Bounds) front r)

first-none : (o : Option (List ℕ)) → first_or o None ≡ o
first-none None = refl
first-none (Some x) = refl

-- a line without data says nothing about sets and markers
no-fields : (r : Record) (section : Section) → is_data r.text ≡ false → fields_in section r ≡ None
no-fields r section e = by (is_section section r.section) (is_data r.text) e
  where
    by : (a b : Bool) → b ≡ false → cond (a && b) (Some (fields_of r.text)) None ≡ None
    by true b e = ap (λ t. cond t (Some (fields_of r.text)) None) e
    by false b e = refl

-- one with data says what its section says
some-fields : (r : Record) (section : Section) → is_data r.text ≡ true → fields_in section r ≡ cond (is_section section r.section) (Some (fields_of r.text)) None
some-fields r section e = by (is_section section r.section) (is_data r.text) e
  where
    by : (a b : Bool) → b ≡ true → cond (a && b) (Some (fields_of r.text)) None ≡ cond a (Some (fields_of r.text)) None
    by true b e = ap (λ t. cond t (Some (fields_of r.text)) None) e
    by false b e = refl

module _ (context : Context) (r : Record) where
  without-data : is_data r.text ≡ false → with_line context r ≡ record context { section = option_map_or (λ s. s) (heading_of r.text) context.section }
  without-data e = same (with_line context r) (record context { section = option_map_or (λ s. s) (heading_of r.text) context.section })
      refl
      (ap (λ o. option_map_or (λ b. b) (option_map_or (λ fields. marker_of (columns_line fields)) o None) context.marked) (no-fields r Columns e))
      (ap (λ o. first_or context.sides (option_map_or (set_of_fields Sides) o None)) (no-fields r Sides e) ∙ first-none context.sides)
      (ap (λ o. first_or context.ranges (option_map_or (set_of_fields Ranges) o None)) (no-fields r Ranges e) ∙ first-none context.ranges)
      (ap (λ o. first_or context.bounds (option_map_or (set_of_fields Bounds) o None)) (no-fields r Bounds e) ∙ first-none context.bounds)

  -- the parts of a line with data, by its section
  abbrev part : Section → Section → Option (List (List ℕ))
  part section own = cond (is_section section own) (Some (fields_of r.text)) None

  abbrev parts : Section → Context
  parts own = record {
    section = context.section;
    marked = option_map_or (λ b. b) (option_map_or (λ fields. marker_of (columns_line fields)) (part Columns own) None) context.marked;
    sides = first_or context.sides (option_map_or (set_of_fields Sides) (part Sides own) None);
    ranges = first_or context.ranges (option_map_or (set_of_fields Ranges) (part Ranges own) None);
    bounds = first_or context.bounds (option_map_or (set_of_fields Bounds) (part Bounds own) None);
  }

  with-data : is_data r.text ≡ true → heading_of r.text ≡ None → r.section ≡ context.section → with_line context r ≡ data_context context.section context (fields_of r.text)
  with-data e none s = step ∙ by context.section
    where
      fields-are : (section : Section) → fields_in section r ≡ part section context.section
      fields-are section = some-fields r section e ∙ ap (part section) s

      step : with_line context r ≡ parts context.section
      step = same (with_line context r) (parts context.section)
          (ap (λ o. option_map_or (λ t. t) o context.section) none)
          (ap (λ o. option_map_or (λ b. b) (option_map_or (λ fields. marker_of (columns_line fields)) o None) context.marked) (fields-are Columns))
          (ap (λ o. first_or context.sides (option_map_or (set_of_fields Sides) o None)) (fields-are Sides))
          (ap (λ o. first_or context.ranges (option_map_or (set_of_fields Ranges) o None)) (fields-are Ranges))
          (ap (λ o. first_or context.bounds (option_map_or (set_of_fields Bounds) o None)) (fields-are Bounds))

      by : (own : Section) → parts own ≡ data_context own context (fields_of r.text)
      by Start = same (parts Start) context refl refl (first-none context.sides) (first-none context.ranges) (first-none context.bounds)
      by Name = same (parts Name) context refl refl (first-none context.sides) (first-none context.ranges) (first-none context.bounds)
      by Sense = same (parts Sense) context refl refl (first-none context.sides) (first-none context.ranges) (first-none context.bounds)
      by Rows = same (parts Rows) context refl refl (first-none context.sides) (first-none context.ranges) (first-none context.bounds)
      by Columns = same (parts Columns) (data_context Columns context (fields_of r.text)) refl refl (first-none context.sides) (first-none context.ranges) (first-none context.bounds)
      by Sides = same (parts Sides) (data_context Sides context (fields_of r.text)) refl refl refl (first-none context.ranges) (first-none context.bounds)
      by Ranges = same (parts Ranges) (data_context Ranges context (fields_of r.text)) refl refl (first-none context.sides) refl (first-none context.bounds)
      by Bounds = same (parts Bounds) (data_context Bounds context (fields_of r.text)) refl refl (first-none context.sides) (first-none context.ranges) refl
      by End = same (parts End) context refl refl (first-none context.sides) (first-none context.ranges) (first-none context.bounds)

  -- the first field as a header
  abbrev word : Option Section
  word = heading_word (slice_index_or (fields_of r.text) 0 [])

  -- all three
  line-next : r.section ≡ context.section → with_line context r ≡ next_context context r
  unfolding is_data is_header heading_of
  line-next s = by (is_passed_over r.text) (is_blank (slice_index r.text 0)) refl refl
    where
      by : (p b : Bool) → is_passed_over r.text ≡ p → is_blank (slice_index r.text 0) ≡ b
          → with_line context r ≡ cond p context (cond b (data_context context.section context (fields_of r.text)) (record context { section = option_map_or (λ t. t) word context.section }))
      by true b p q = without-data (ap (λ t. not t && is_blank (slice_index r.text 0)) p) ∙ ap (λ o. record context { section = option_map_or (λ t. t) o context.section }) (ap (λ t. cond (not t && not (is_blank (slice_index r.text 0))) word None) p)
      by false true p q = with-data (ap (λ t. not t && is_blank (slice_index r.text 0)) p ∙ q) (ap (λ t. cond (not t && not (is_blank (slice_index r.text 0))) word None) p ∙ ap (λ t. cond (not t) word None) q) s
      by false false p q = without-data (ap (λ t. not t && is_blank (slice_index r.text 0)) p ∙ q) ∙ ap (λ o. record context { section = option_map_or (λ t. t) o context.section }) (ap (λ t. cond (not t && not (is_blank (slice_index r.text 0))) word None) p ∙ ap (λ t. cond (not t) word None) q)

-- the context after a line, by the one before it
pub context-next : (front : List Record) (r : Record) → r.section ≡ (context_of front).section → context_of (front ++ r ∷ []) ≡ next_context (context_of front) r
context-next front r s = with-line front r ∙ line-next (context_of front) r s
