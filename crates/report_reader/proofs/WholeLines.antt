-- The first line of a text, and its parts between byte 10.
use Rattle.std.proofs.Common.{◌≡◌, ◌≢◌, ℕ, ◌+◌, ◌-◌, ◌<◌, cond, List, [], ◌∷◌, Option, Some, None, length, take, drop, position, refl, sym, ap, subst, ◌∙◌, arith, inl, inr}
use Rattle.std.specs.Prelude.{◌⊎◌}
use Rattle.std.specs.List.{slice_split}
use Rattle.std.proofs.lemmas.Bool.{ne_eqb}
use Rattle.std.proofs.lemmas.List.{length-take-le, take_rest}
use Rattle.std.proofs.lemmas.List.Splits.{length-slice_split}
use Rattle.lane_scan.specs.Bytes.{is_end}
use Rattle.lane_scan.proofs.Firsts.{length-range}
use Rattle.text_fields.specs.declared.spans.Line.{Line}
use Rattle.text_fields.specs.Lines.{lines_of, ended, line_text, IsLineAt}
use Rattle.phrase_reader.specs.Parts.{parts}
use Rattle.phrase_reader.proofs.Cuts.{Cuts, cut_parts}

abbrev head_of : List (List ℕ) → List ℕ
head_of [] = []
head_of (x ∷ xs) = x

-- the first line is the first part, where there is something in it or after it
ended-one : (part : List ℕ) → length part ≢ 0 → head_of (ended (part ∷ [])) ≡ part
ended-one part n = ap (λ b. head_of (cond b [] (part ∷ []))) (ne_eqb (length part) 0 n)

ended-more : (part : List ℕ) (more : List (List ℕ)) → 0 < length more → head_of (ended (part ∷ more)) ≡ part
ended-more part [] n = absurd (omega (arith, n))
ended-more part (next ∷ more) n = refl

module _ (xs : List ℕ) (line : Line) (h : IsLineAt xs 0 1 line) where
  first-line : head_of (lines_of xs) ≡ line_text xs line
  first-line = ap head_of h.first

  to-is : length (line_text xs line) ≡ line.to
  to-is = let z = h.from_is in let e = length-range xs line.from line.to h.in_order h.within in omega (arith, z, e)

  -- where no byte 10 is there, the line goes to the end
  no-end : slice_split is_end xs ≡ xs ∷ [] → line.to ≡ length xs
  unfolding lines_of
  no-end e = sym to-is ∙ ap length (sym first-line ∙ ap (λ ps. head_of (ended ps)) e ∙ ended-one xs (λ z. let s = h.some in omega (arith, z, s)))

  -- else it goes to the first
  an-end : (i : ℕ) → i < length xs → slice_split is_end xs ≡ take i xs ∷ slice_split is_end (drop (i + 1) xs) → line.to ≡ i
  unfolding lines_of
  an-end i l e =
      let n = length-slice_split is_end (drop (i + 1) xs) in
      sym to-is ∙ ap length (sym first-line ∙ ap (λ ps. head_of (ended ps)) e ∙ ended-more (take i xs) (slice_split is_end (drop (i + 1) xs)) (omega (arith, n))) ∙ length-take-le i xs (omega (arith, l))

  by-cut : Cuts is_end xs (position is_end xs) → ((line.to ≡ length xs) × (slice_split is_end xs ≡ xs ∷ [])) ⊎ ((line.to < length xs) × (slice_split is_end xs ≡ take line.to xs ∷ slice_split is_end (drop (line.to + 1) xs)))
  by-cut = by (position is_end xs)
    where
      by : (r : Option ℕ) → Cuts is_end xs r → ((line.to ≡ length xs) × (slice_split is_end xs ≡ xs ∷ [])) ⊎ ((line.to < length xs) × (slice_split is_end xs ≡ take line.to xs ∷ slice_split is_end (drop (line.to + 1) xs)))
      by None c = inl (no-end c, c)
      by (Some i) c =
          let t = an-end i c.0 c.1 in
          inr (subst (λ (k : ℕ). k < length xs) (sym t) c.0, subst (λ (k : ℕ). slice_split is_end xs ≡ take k xs ∷ slice_split is_end (drop (k + 1) xs)) (sym t) c.1)

  found : ((line.to ≡ length xs) × (slice_split is_end xs ≡ xs ∷ [])) ⊎ ((line.to < length xs) × (slice_split is_end xs ≡ take line.to xs ∷ slice_split is_end (drop (line.to + 1) xs)))
  found = by-cut (cut_parts is_end xs)

  -- a line that goes to the end is all there is
  pub whole-rest : line.to ≡ length xs → parts 10 xs ≡ xs ∷ []
  whole-rest e = elim found [ inl h ↦ h.1 | inr h ↦ (let l = h.0 in absurd (omega (arith, l, e))) ]

  -- one that does not is the first part, and the others come after its end
  pub first-part : (line.to ≡ length xs → ⊥) → parts 10 xs ≡ take line.to xs ∷ parts 10 (take (length xs - (line.to + 1)) (drop (line.to + 1) xs))
  first-part n = elim found [ inl h ↦ absurd (n h.0) | inr h ↦ h.1 ∙ ap (λ ds. take line.to xs ∷ slice_split is_end ds) (sym (take_rest xs (line.to + 1))) ]
