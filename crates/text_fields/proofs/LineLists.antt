-- The first line of a text, and the rest.
use Rattle.std.proofs.Common.{◌≡◌, ℕ, ◌+◌, ◌<◌, ◌≤◌, min, Bool, true, false, not, cond, List, [], ◌∷◌, length, take, drop, refl, sym, ap, ◌∙◌, arith, length-drop, inl, inr}
use Rattle.std.specs.List.{slice_split, slice_range, position_or_len, before_first, after_first, onto_first}
use Rattle.std.proofs.lemmas.Bool.{cases_lt, ne_eqb}
use Rattle.std.proofs.lemmas.List.{take_all, drop_all, drop-drop, drop_min}
use Rattle.std.proofs.lemmas.List.Sums.{fails_before_first, prefix_len-le-length}
use Rattle.std.proofs.lemmas.List.Splits.{slice_split_none, slice_split_first}
use Rattle.lane_scan.specs.Bytes.{is_end, end_from}
use Rattle.text_fields.specs.Lines.{ended, lines_of, IsLineAt}

-- a list is cut into at least one part
split_some : (p : ℕ → Bool) (xs : List ℕ) → (part : List ℕ) × (parts : List (List ℕ)) × (slice_split p xs ≡ part ∷ parts)
split_some p [] = ([], [], refl)
split_some p (x ∷ xs) = by (p x) (slice_split p xs)
  where
    by : (b : Bool) (parts : List (List ℕ)) → (part : List ℕ) × (rest : List (List ℕ)) × (cond b ([] ∷ parts) (onto_first x parts) ≡ part ∷ rest)
    by true parts = ([], parts, refl)
    by false [] = (x ∷ [], [], refl)
    by false (part ∷ parts) = (x ∷ part, parts, refl)

ended-cons : (part : List ℕ) (parts next : List (List ℕ)) (first : List ℕ) → next ≡ first ∷ parts → ended (part ∷ next) ≡ part ∷ ended next
ended-cons part parts next first e = ap (λ ps. ended (part ∷ ps)) e ∙ ap (λ ps. part ∷ ended ps) (sym e)

-- no line stands in no bytes
pub lines_of-nil : lines_of [] ≡ []
unfolding lines_of
lines_of-nil = refl

-- what stands before the first end is a line, and the others follow it
pub lines_of-first : (xs : List ℕ) → 0 < length xs → lines_of xs ≡ before_first is_end xs ∷ lines_of (after_first is_end xs)
unfolding lines_of
lines_of-first xs some = elim (cases_lt (position_or_len is_end xs) (length xs)) [
  | inl l ↦
      let rest = split_some is_end (after_first is_end xs) in
      ap ended (slice_split_first is_end xs 0 l) ∙ ended-cons (before_first is_end xs) rest.1 (slice_split is_end (after_first is_end xs)) rest.0 rest.2
  | inr m ↦
      let all : slice_split is_end xs ≡ xs ∷ [] = slice_split_none is_end xs (λ k d lt. fails_before_first is_end xs k d (omega arith)) in
      let none : after_first is_end xs ≡ [] = drop_all (position_or_len is_end xs + 1) xs (omega arith) in
      ap ended all ∙ ap (λ b. cond b [] (xs ∷ [])) (ne_eqb (length xs) 0 (λ e. omega arith))
      ∙ ap (λ l. l ∷ []) (sym (take_all (position_or_len is_end xs) xs m))
      ∙ ap (λ ys. before_first is_end xs ∷ ended (slice_split is_end ys)) (sym none)
]

-- the line that begins at a place where the text does not end
pub line_at : (bytes : List ℕ) (at number to : ℕ) → at ≤ length bytes → (at ≡ length bytes → ⊥) → to ≡ end_from bytes at → IsLineAt bytes at number (record { number = number; from = at; to = to })
line_at bytes at number to low some e =
    let rest : List ℕ = drop at bytes in
    let n : ℕ = position_or_len is_end rest in
    let long = length-drop at bytes in
    let few : n ≤ length rest = prefix_len-le-length (λ x. not (is_end x)) rest in
    let text : before_first is_end rest ≡ slice_range bytes at to = ap (λ (k : ℕ). take k rest) (omega arith) in
    let next : after_first is_end rest ≡ drop (min (to + 1) (length bytes)) bytes =
    drop-drop (n + 1) at bytes ∙ ap (λ (k : ℕ). drop k bytes) (omega arith) ∙ sym (drop_min (to + 1) bytes) in
    record {
      number_is = refl;
      from_is = refl;
      some = omega arith;
      in_order = omega arith;
      within = omega arith;
      first = lines_of-first rest (omega arith) ∙ ap (λ l. l ∷ lines_of (after_first is_end rest)) text ∙ ap (λ (ys : List ℕ). slice_range bytes at to ∷ lines_of ys) next;
    }
