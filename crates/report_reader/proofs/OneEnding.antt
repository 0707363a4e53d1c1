-- Bytes come to one end: they are a report, or have one bad line, or are truncated.
use Rattle.std.proofs.Common.{◌≡◌, refl, sym, ap, subst, ◌∙◌, ℕ, suc, List, [], ◌∷◌, ◌++◌, length, append_assoc, append-nil, ◌⊎◌, inl, inr}
use Rattle.lp_model.specs.Program.{Program}
use Rattle.report_text.specs.declared.report.Report.{Report}
use Rattle.report_text.specs.Grammar.{Line, report_lines}
use Rattle.report_reader.specs.Reading.{Reads, IsFront, IsWhole, IsBadLine, IsTruncated}
use Rattle.report_reader.proofs.Endings.{shorter_front, whole_ends}
use Rattle.report_reader.proofs.Said.{parts_of_read}

not_empty : (a b : List Line) (x : Line) → a ++ x ∷ b ≡ [] → ⊥
not_empty [] b x e = cc
not_empty (w ∷ a) b x e = cc

-- one list cut at two places: the first place is before the last element, or is the last element
abbrev Before : List Line → Line → List Line → Type 0
Before a x c = (r : List Line) × (c ≡ a ++ x ∷ r)

at_last : (a : List Line) (x : Line) (b c : List Line) (y : Line) → a ++ x ∷ b ≡ c ++ y ∷ [] → ((b ≡ []) × (a ≡ c) × (x ≡ y)) ⊎ Before a x c
at_last [] x b [] y e = inl (cc, refl, cc)
at_last [] x b (z ∷ c) y e = inr (c, cc)
at_last (w ∷ a) x b [] y e = absurd (not_empty a b x cc)
at_last (w ∷ a) x b (z ∷ c) y e = elim (at_last a x b c y cc) [
  | inl h ↦ inl (h.0, (let p : a ≡ c = h.1 in cc), h.2)
  | inr h ↦ inr (h.0, (let p : c ≡ a ++ x ∷ h.0 = h.1 in cc))
]

-- two places: one, or the one before the other
two_places : (a : List Line) (x : Line) (b c : List Line) (y : Line) (d : List Line) → a ++ x ∷ b ≡ c ++ y ∷ d → (a ≡ c) ⊎ (Before a x c ⊎ Before c y a)
two_places [] x b [] y d e = inl refl
two_places [] x b (z ∷ c) y d e = inr (inl (c, cc))
two_places (w ∷ a) x b [] y d e = inr (inr (a, cc))
two_places (w ∷ a) x b (z ∷ c) y d e = elim (two_places a x b c y d cc) [
  | inl h ↦ inl cc
  | inr h ↦ elim h [
    | inl k ↦ inr (inl (k.0, (let p : c ≡ a ++ x ∷ k.0 = k.1 in cc)))
    | inr k ↦ inr (inr (k.0, (let p : a ≡ c ++ y ∷ k.0 = k.1 in cc)))
  ]
]

module _ (model : Program) (bytes : List ℕ) where
  -- a front that has the line after these has them with the line
  with_line : (front : List Line) (line : Line) (lines : List Line) → Before front line lines → IsFront model lines → IsFront model (front ++ line ∷ [])
  with_line front line lines b h = shorter_front model (front ++ line ∷ []) b.0 (subst (IsFront model) (b.1 ∙ sym (append_assoc front (line ∷ []) b.0)) h)

  whole_of : (report : Report) → Reads model bytes report → IsWhole model (report_lines model report)
  whole_of report h = record { report = report; form = h.form; lines = sym (append-nil (report_lines model report)) }

  pub read_has_no_bad_line : (report : Report) (n : ℕ) → Reads model bytes report → ¬ (IsBadLine model bytes n)
  read_has_no_bad_line report n h bad =
      let lines = report_lines model report in
      elim (at_last bad.front bad.line bad.back lines [] (sym bad.cut ∙ parts_of_read model bytes report h)) [
        | inl k ↦ elim bad.judged [ inl more ↦ more k.0 | inr whole ↦ whole.1 k.2 ]
        | inr k ↦ bad.wrong (with_line bad.front bad.line lines k ([], whole_of report h))
      ]

  pub read_is_not_truncated : (report : Report) → Reads model bytes report → ¬ (IsTruncated model bytes)
  read_is_not_truncated report h cut =
      let lines = report_lines model report in
      elim (at_last lines [] [] cut.lines cut.last (sym (parts_of_read model bytes report h) ∙ cut.cut)) [
        | inl k ↦ cut.unfinished (subst (IsWhole model) k.1 (whole_of report h))
        | inr k ↦ (let p : [] ∷ k.0 ≡ [] = whole_ends model lines ([] ∷ k.0) (whole_of report h) (subst (IsFront model) k.1 cut.right) in cc)
      ]

  pub bad_is_not_truncated : (n : ℕ) → IsBadLine model bytes n → ¬ (IsTruncated model bytes)
  bad_is_not_truncated n bad cut =
      elim (at_last bad.front bad.line bad.back cut.lines cut.last (sym bad.cut ∙ cut.cut)) [
        | inl k ↦ elim bad.judged [ inl more ↦ more k.0 | inr whole ↦ cut.unfinished (subst (IsWhole model) k.1 whole.0) ]
        | inr k ↦ bad.wrong (with_line bad.front bad.line cut.lines k cut.right)
      ]

  pub one_bad_line : (n m : ℕ) → IsBadLine model bytes n → IsBadLine model bytes m → n ≡ m
  one_bad_line n m a b =
      elim (two_places a.front a.line a.back b.front b.line b.back (sym a.cut ∙ b.cut)) [
        | inl k ↦ a.number ∙ ap (λ f. suc (length f)) k ∙ sym b.number
        | inr k ↦ elim k [
          | inl p ↦ absurd (a.wrong (with_line a.front a.line b.front p b.right))
          | inr p ↦ absurd (b.wrong (with_line b.front b.line a.front p a.right))
        ]
      ]
