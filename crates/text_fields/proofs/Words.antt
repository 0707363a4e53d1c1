-- Fields have bytes, and no blanks.
use Rattle.std.proofs.Common.{◌≡◌, ℕ, ◌||◌, Bool, true, false, cond, List, [], ◌∷◌, refl, ap, ◌∙◌}
use Rattle.std.specs.List.{All, slice_split, onto_first, list_any}
use Rattle.std.proofs.lemmas.Bool.{ltb-true}
use Rattle.std.proofs.lemmas.List.Elements.{All-nil, All-cons, All-head, All-tail, All-filter, filter_passes}
use Rattle.lane_scan.specs.Bytes.{is_blank}
use Rattle.text_fields.specs.Fields.{is_filled, fields_of}
use Rattle.text_fields.specs.Laws.{IsField}

-- no part has what parts it
abbrev Parted : (ℕ → Bool) → List ℕ → Type 0
Parted p part = list_any p part ≡ false

onto_parted : (p : ℕ → Bool) (x : ℕ) → p x ≡ false → (parts : List (List ℕ)) → All (Parted p) parts → All (Parted p) (onto_first x parts)
onto_parted p x e [] h = All-cons (Parted p) (x ∷ []) [] (ap (λ (b : Bool). b || false) e) (All-nil (Parted p))
onto_parted p x e (part ∷ parts) h =
    All-cons (Parted p) (x ∷ part) parts
    (ap (λ (b : Bool). b || list_any p part) e ∙ All-head (Parted p) part parts h) (All-tail (Parted p) part parts h)

split_parted : (p : ℕ → Bool) (xs : List ℕ) → All (Parted p) (slice_split p xs)
split_parted p [] = All-cons (Parted p) [] [] refl (All-nil (Parted p))
split_parted p (x ∷ xs) = by (p x) refl (split_parted p xs)
  where
    by : (b : Bool) → p x ≡ b → All (Parted p) (slice_split p xs) → All (Parted p) (cond b ([] ∷ slice_split p xs) (onto_first x (slice_split p xs)))
    by true e h = All-cons (Parted p) [] (slice_split p xs) refl h
    by false e h = onto_parted p x e (slice_split p xs) h

pub each_field : (line : List ℕ) → All IsField (fields_of line)
unfolding fields_of
each_field line k d h =
    (ltb-true 0 _ (filter_passes is_filled (slice_split is_blank line) k d h), All-filter is_filled (Parted is_blank) (slice_split is_blank line) (split_parted is_blank line) k d h)
