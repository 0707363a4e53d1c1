-- The first field of a line, and the rest.
use Rattle.std.proofs.Common.{◌≡◌, ℕ, ◌+◌, ◌-◌, ◌<◌, ◌≤◌, Bool, true, false, not, cond, List, [], ◌∷◌, ◌++◌, length, get_or, take, drop, None, refl, sym, ap, ◌∙◌, arith, length-take, inl, inr, filter, map}
use Rattle.std.proofs.Math.Numerals.{one-add}
use Rattle.std.specs.List.{All, slice_split, slice_range, position_or_len, before_first, after_first}
use Rattle.std.proofs.lemmas.Bool.{cases_lt, lt-ltb, not-true}
use Rattle.std.proofs.lemmas.List.{take_all, drop_all, drop_more, get_or-take, get_or-drop, append-nil, append_assoc, map_push, nil_from_length}
use Rattle.std.proofs.lemmas.List.Elements.{All-nil, All-cons}
use Rattle.std.proofs.lemmas.List.Sums.{fails_before_first, passes_at_first, prefix_len-le-length}
use Rattle.std.proofs.lemmas.List.Splits.{slice_split_none, slice_split_first, slice_split-cons_yes}
use Rattle.lane_scan.specs.Bytes.{is_blank, is_nonblank, nonblank_within}
use Rattle.lane_scan.proofs.Firsts.{length-range}
use Rattle.text_fields.specs.declared.spans.Span.{Span}
use Rattle.text_fields.specs.declared.spans.Line.{Line}
use Rattle.text_fields.specs.Lines.{text_of, line_text}
use Rattle.text_fields.specs.Fields.{is_filled, fields_of, field_fault, AddsFields, AreInOrder, IsInside, blank_within}
use Rattle.text_fields.proofs.Ranges.{range-front, range-rest, get_or-range}

-- a blank before the fields changes nothing
pub fields_of-blank : (x : ℕ) (xs : List ℕ) → is_blank x ≡ true → fields_of (x ∷ xs) ≡ fields_of xs
unfolding fields_of
fields_of-blank x xs e = ap (filter is_filled) (slice_split-cons_yes is_blank x xs e)

pub fields_of-nil : fields_of [] ≡ []
unfolding fields_of
fields_of-nil = refl

-- and so do all the blanks before them
pub fields_of-blanks : (xs : List ℕ) → fields_of xs ≡ fields_of (drop (position_or_len is_nonblank xs) xs)
fields_of-blanks [] = refl
fields_of-blanks (x ∷ xs) = by (is_blank x) refl (fields_of-blanks xs)
  where
    next : (n : ℕ) → drop (1 + n) (x ∷ xs) ≡ drop n xs
    next n = rw one-add refl

    by : (b : Bool) → is_blank x ≡ b → fields_of xs ≡ fields_of (drop (position_or_len is_nonblank xs) xs)
        → fields_of (x ∷ xs) ≡ fields_of (drop (cond (not (not b)) (1 + position_or_len is_nonblank xs) 0) (x ∷ xs))
    by true e h = fields_of-blank x xs e ∙ h ∙ ap fields_of (sym (next (position_or_len is_nonblank xs)))
    by false e h = refl

-- what stands before the first blank is a field, where something does, and the others follow it
pub fields_of-first : (xs : List ℕ) → 0 < position_or_len is_blank xs → fields_of xs ≡ before_first is_blank xs ∷ fields_of (drop (position_or_len is_blank xs) xs)
unfolding fields_of
fields_of-first xs some = elim (cases_lt (position_or_len is_blank xs) (length xs)) [
  | inl l ↦
      let n : ℕ = position_or_len is_blank xs in
      let filled : is_filled (before_first is_blank xs) ≡ true = lt-ltb 0 (length (take n xs)) (simp length-take (omega arith)) in
      let rest : fields_of (drop n xs) ≡ fields_of (after_first is_blank xs) =
      ap fields_of (drop_more xs n 0 l) ∙ fields_of-blank (get_or xs n 0) (drop (n + 1) xs) (passes_at_first is_blank xs 0 l) in
      ap (filter is_filled) (slice_split_first is_blank xs 0 l)
      ∙ ap (λ b. cond b (before_first is_blank xs ∷ fields_of (after_first is_blank xs)) (fields_of (after_first is_blank xs))) filled
      ∙ ap (λ fs. before_first is_blank xs ∷ fs) (sym rest)
  | inr m ↦
      let n : ℕ = position_or_len is_blank xs in
      let low = prefix_len-le-length (λ x. not (is_blank x)) xs in
      let all : slice_split is_blank xs ≡ xs ∷ [] = slice_split_none is_blank xs (λ k d lt. fails_before_first is_blank xs k d (omega arith)) in
      let filled : is_filled xs ≡ true = lt-ltb 0 (length xs) (omega arith) in
      let none : drop n xs ≡ [] = drop_all n xs m in
      ap (filter is_filled) all
      ∙ ap (λ b. cond b (xs ∷ []) []) filled
      ∙ ap (λ l. l ∷ []) (sym (take_all n xs m))
      ∙ ap (λ ys. before_first is_blank xs ∷ fields_of ys) (sym none)
]

-- one span more
pub AreInOrder-push : (from at : ℕ) (spans : List Span) (span : Span) → AreInOrder from at spans → at ≤ span.from → span.from < span.to → AreInOrder from span.to (spans ++ span ∷ [])
AreInOrder-push from at [] span h low some = (omega arith, some, omega arith)
AreInOrder-push from at (s ∷ spans) span h low some = (h.0, h.1, AreInOrder-push s.to at spans span h.2 low some)

-- the end may lie further on
pub AreInOrder-further : (from to end : ℕ) (spans : List Span) → AreInOrder from to spans → to ≤ end → AreInOrder from end spans
AreInOrder-further from to end [] h low = omega arith
AreInOrder-further from to end (s ∷ spans) h low = (h.0, h.1, AreInOrder-further s.to to end spans h.2 low)

-- the fields up to `at` are appended, and what stands from there on begins with no blank
pub record FieldsSoFar (bytes : List ℕ) (line : Line) (old new : List Span) (at : ℕ) : Type 0 where
  pub spans : List Span
  pub appended : new ≡ old ++ spans
  pub texts : map (text_of bytes) spans ++ fields_of (slice_range bytes at line.to) ≡ fields_of (line_text bytes line)
  pub in_order : AreInOrder line.from at spans
  pub low : line.from ≤ at
  pub high : at ≤ line.to
  pub begins : at < line.to → is_blank (get_or bytes at 0) ≡ false

-- from the first place without a blank on stand the same fields
pub record NonblankFrom (xs : List ℕ) (from to at : ℕ) : Type 0 where
  pub low : from ≤ at
  pub high : at ≤ to
  pub begins : at < to → is_blank (get_or xs at 0) ≡ false
  pub same : fields_of (slice_range xs at to) ≡ fields_of (slice_range xs from to)

pub nonblank_from : (xs : List ℕ) (from to at : ℕ) → from ≤ to → to ≤ length xs → at ≡ nonblank_within xs from to → NonblankFrom xs from to at
nonblank_from xs from to at low high e =
    let part : List ℕ = slice_range xs from to in
    let n : ℕ = position_or_len is_nonblank part in
    let long = length-range xs from to low high in
    let few : n ≤ length part = prefix_len-le-length (λ x. not (is_nonblank x)) part in
    record {
      low = omega arith;
      high = omega arith;
      begins = λ h.
          let here : is_nonblank (get_or part n 0) ≡ true = passes_at_first is_nonblank part 0 (omega arith) in
          let read : get_or part n 0 ≡ get_or xs at 0 = get_or-take (to - from) (drop from xs) n 0 (omega arith) ∙ get_or-drop from xs n 0 ∙ ap (λ (k : ℕ). get_or xs k 0) (sym e) in
          not-true (is_blank (get_or xs at 0)) (ap is_nonblank (sym read) ∙ here);
      same =
          ap fields_of (range-rest xs from at to (omega arith) (omega arith) ∙ ap (λ (k : ℕ). drop k part) (omega arith)) ∙ sym (fields_of-blanks part);
    }

-- a field stands up to the next blank
pub record FieldAt (xs : List ℕ) (at to end : ℕ) : Type 0 where
  pub some : at < end
  pub high : end ≤ to
  pub first : fields_of (slice_range xs at to) ≡ slice_range xs at end ∷ fields_of (slice_range xs end to)

pub field_at : (xs : List ℕ) (at to end : ℕ) → at < to → to ≤ length xs → is_blank (get_or xs at 0) ≡ false → end ≡ blank_within xs at to → FieldAt xs at to end
field_at xs at to end low high begins e =
    let part : List ℕ = slice_range xs at to in
    let n : ℕ = position_or_len is_blank part in
    let long = length-range xs at to (omega arith) high in
    let few : n ≤ length part = prefix_len-le-length (λ x. not (is_blank x)) part in
    let here : is_blank (get_or part 0 0) ≡ false = ap is_blank (get_or-range xs at to low) ∙ begins in
    let some : 0 < n = some_first part (omega arith) here in
    let k : end - at ≡ n = omega arith in
    record {
      some = omega arith;
      high = omega arith;
      first =
          fields_of-first part some
          ∙ ap (λ (l : List ℕ). l ∷ fields_of (drop n part)) (ap (λ (i : ℕ). take i part) (sym k) ∙ sym (range-front xs at end to (omega arith) (omega arith)))
          ∙ ap (λ (l : List ℕ). slice_range xs at end ∷ fields_of l) (ap (λ (i : ℕ). drop i part) (sym k) ∙ sym (range-rest xs at end to (omega arith) (omega arith)));
    }
  where
    some_first : (part : List ℕ) → 0 < length part → is_blank (get_or part 0 0) ≡ false → 0 < position_or_len is_blank part
    some_first [] h b = absurd (omega arith)
    some_first (x ∷ part) h b = rw (ap (λ t. cond (not t) (1 + position_or_len is_blank part) 0) b) (omega arith)

-- before the first field
pub so_far-init : (bytes : List ℕ) (line : Line) (old : List Span) (at : ℕ) → line.from ≤ line.to → line.to ≤ length bytes → at ≡ nonblank_within bytes line.from line.to → FieldsSoFar bytes line old old at
so_far-init bytes line old at low high e =
    let n = nonblank_from bytes line.from line.to at low high e in
    record { spans = []; appended = sym (append-nil old); texts = n.same; in_order = n.low; low = n.low; high = n.high; begins = n.begins }

-- one field more
pub so_far-more : (bytes : List ℕ) (line : Line) (old new more : List Span) (at end next : ℕ) → line.to ≤ length bytes → FieldsSoFar bytes line old new at → at < line.to
    → end ≡ blank_within bytes at line.to → next ≡ nonblank_within bytes end line.to → more ≡ new ++ (record { from = at; to = end }) ∷ [] → FieldsSoFar bytes line old more next
so_far-more bytes line old new more at end next high h l e f m =
    let field = field_at bytes at line.to end l high (h.begins l) e in
    let n = nonblank_from bytes end line.to next field.high high f in
    let span : Span = record { from = at; to = end } in
    record {
      spans = h.spans ++ span ∷ [];
      appended = m ∙ ap (λ (ss : List Span). ss ++ span ∷ []) h.appended ∙ append_assoc old h.spans (span ∷ []);
      texts =
          ap (λ fs. fs ++ fields_of (slice_range bytes next line.to)) (map_push (text_of bytes) h.spans span)
          ∙ append_assoc (map (text_of bytes) h.spans) (slice_range bytes at end ∷ []) (fields_of (slice_range bytes next line.to))
          ∙ ap (λ fs. map (text_of bytes) h.spans ++ (slice_range bytes at end ∷ fs)) n.same
          ∙ ap (λ fs. map (text_of bytes) h.spans ++ fs) (sym field.first)
          ∙ h.texts;
      in_order = AreInOrder-further line.from end next (h.spans ++ span ∷ []) (AreInOrder-push line.from at h.spans span h.in_order (omega arith) field.some) n.low;
      low = let a = h.low in let b = field.some in let c = n.low in omega arith;
      high = n.high;
      begins = n.begins;
    }

-- spans in order up to the end of a line stand within the text
inside : (bytes : List ℕ) (from to : ℕ) (spans : List Span) → AreInOrder from to spans → to ≤ length bytes → All (IsInside bytes) spans
inside bytes from to [] h l = All-nil (IsInside bytes)
inside bytes from to (s ∷ spans) h l = All-cons (IsInside bytes) s spans (h.1, (let a = order s.to to spans h.2 in omega arith)) (inside bytes s.to to spans h.2 l)
  where
    order : (from to : ℕ) (spans : List Span) → AreInOrder from to spans → from ≤ to
    order from to [] h = h
    order from to (s ∷ spans) h = (let a = order s.to to spans h.2 in let b = h.0 in let c = h.1 in omega arith)

-- no field is left
pub so_far-all : (bytes : List ℕ) (line : Line) (old new : List Span) (at : ℕ) → line.to ≤ length bytes → FieldsSoFar bytes line old new at → line.to ≤ at → field_fault (line_text bytes line) ≡ None → AddsFields bytes line old new
so_far-all bytes line old new at high h l e =
    let none : slice_range bytes at line.to ≡ [] = nil_from_length (slice_range bytes at line.to) (simp length-take (omega arith)) in
    record {
      spans = h.spans;
      no_fault = e;
      appended = h.appended;
      texts = sym (append-nil (map (text_of bytes) h.spans)) ∙ ap (λ fs. map (text_of bytes) h.spans ++ fs) (sym fields_of-nil ∙ ap fields_of (sym none)) ∙ h.texts;
      in_order = AreInOrder-further line.from at line.to h.spans h.in_order h.high;
      inside = inside bytes line.from line.to h.spans (AreInOrder-further line.from at line.to h.spans h.in_order h.high) high;
    }
