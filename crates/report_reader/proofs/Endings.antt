-- Laws of the grammar: the last line of a report stands nowhere else in it, so bytes have one ending.
use Rattle.std.proofs.Common.{◌≡◌, refl, sym, ap, ◌∙◌, ℕ, Bool, true, false, List, [], ◌∷◌, ◌++◌, ◌==◌, true≢false, append_assoc, append-nil, arith}
use Rattle.std.specs.Prelude.{◌≢◌, All, AllPairs, codes, slice_index}
use Rattle.std.proofs.lemmas.List.Elements.{All-nil, All-cons, All-head, All-tail}
use Rattle.std.proofs.lemmas.List.Kept.{AllPairs-cons}
use Rattle.lp_model.specs.Program.{Program, noted_column}
use Rattle.lp_model.specs.declared.parts.Note.TheVariants.{LowerRemoved, LowerKept}
use Rattle.reductions.specs.declared.steps.ReduceStep.TheVariants.{Empty, Singleton, Fixed, Redundant, Forcing, Doubleton}
use Rattle.report_text.specs.declared.report.Report.{Report}
use Rattle.report_text.specs.Grammar.{Line, keyword_text, branch_keyword, stop_details, command_words, spelled, phrase_line, lines_of, body_phrases, report_lines}
use Rattle.report_text.specs.Form.{IsNamedColumn, IsReportFor}
use Rattle.report_text.specs.declared.phrases.Phrase.{Phrase}
use Rattle.report_text.specs.declared.phrases.StopPhrase.{StopPhrase}
use Rattle.report_text.specs.declared.report.Refusal.{Refusal}
use Rattle.report_reader.specs.Reading.{IsFront, IsWhole}
use Rattle.report_reader.proofs.Said.{is_foot, IsBefore, body_for}
use Rattle.std.proofs.lemmas.List.{map-append}

-- two elements of which the first stands before the second
pub pair_in_order : {X : Type 0} (R : X → X → Type 0) (x y : X) → R x y → AllPairs R (x ∷ y ∷ [])
pair_in_order R x y h = AllPairs-cons R x (y ∷ []) (All-cons (R x) y [] h (All-nil (R x))) (AllPairs-cons R y [] (All-nil (R y)) (λ i j d lt within. absurd (omega arith)))

-- the report of no notes and no entries stands in the grammar
pub nothing_in_form : (model : Program) → IsReportFor model (record { notes = []; entries = [] })
nothing_in_form model = record { notes = All-nil (λ note. IsNamedColumn model (noted_column note)); entries = tt; numbered = tt }

-- ---- the foot
abbrev pub foot : Line
foot = codes "report end"

-- two lists that end at their first foot: nothing follows in the one where nothing follows in the other
one_foot : (b c rest : List Line) → All (λ l. l ≢ foot) b → All (λ l. l ≢ foot) c → b ++ foot ∷ [] ≡ (c ++ foot ∷ []) ++ rest → rest ≡ []
one_foot [] [] rest hb hc e = cc
one_foot [] (l ∷ c) rest hb hc e = absurd (All-head (λ l. l ≢ foot) l c hc cc)
one_foot (l ∷ b) [] rest hb hc e = absurd (All-head (λ l. l ≢ foot) l b hb cc)
one_foot (l ∷ b) (m ∷ c) rest hb hc e = one_foot b c rest (All-tail (λ l. l ≢ foot) l b hb) (All-tail (λ l. l ≢ foot) m c hc) cc

-- a line that begins with another byte is no foot, nor is one whose third byte is another
other_start : (line : Line) → (slice_index line 0 == 114) ≡ false → line ≢ foot
other_start line h e = let p : (slice_index line 0 == 114) ≡ true = ap (λ l. slice_index l 0 == 114) e in absurd (true≢false (sym p ∙ h))

other_third : (line : Line) → (slice_index line 2 == 112) ≡ false → line ≢ foot
other_third line h e = let p : (slice_index line 2 == 112) ≡ true = ap (λ l. slice_index l 2 == 112) e in absurd (true≢false (sym p ∙ h))

abbrev pub NotFoot : Line → Type 0
NotFoot l = l ≢ foot

-- the line of a phrase that is not the foot
phrase_apart : (model : Program) (p : Phrase) → is_foot p ≡ false → NotFoot (phrase_line model p)
phrase_apart model Phrase.Foot e = absurd (true≢false e)
phrase_apart model (Phrase.Note (LowerRemoved j)) e = other_start (phrase_line model (Phrase.Note (LowerRemoved j))) refl
phrase_apart model (Phrase.Note (LowerKept j)) e = other_start (phrase_line model (Phrase.Note (LowerKept j))) refl
phrase_apart model (Phrase.Stop StopPhrase.Wide) e = other_start (phrase_line model (Phrase.Stop StopPhrase.Wide)) refl
phrase_apart model (Phrase.Stop (StopPhrase.Branch b)) e = by b.upper
  where
    by : (upper : Bool) → NotFoot (spelled (keyword_text (branch_keyword upper)) (stop_details model (StopPhrase.Branch b)))
    by true = other_start (spelled (codes "below") (stop_details model (StopPhrase.Branch b))) refl
    by false = other_start (spelled (codes "above") (stop_details model (StopPhrase.Branch b))) refl
phrase_apart model (Phrase.Stop s) e = other_start (phrase_line model (Phrase.Stop s)) refl
phrase_apart model (Phrase.Command c) e = other_start (phrase_line model (Phrase.Command c)) (by (command_words c))
  where
    by : (words : List (List ℕ)) → (slice_index (spelled (codes "command") words) 0 == 114) ≡ false
    by [] = refl
    by (word ∷ words) = refl
phrase_apart model (Phrase.Refused r) e = by r
  where
    by : (r : Refusal) → NotFoot (phrase_line model (Phrase.Refused r))
    by Refusal.UnknownName = other_start (codes "unknown name") refl
    by Refusal.NoChange = other_start (codes "no change") refl
    by Refusal.NothingToUndo = other_start (codes "nothing to undo") refl
phrase_apart model Phrase.RigidInfeasible e = other_third (codes "rigid infeasible") refl
phrase_apart model (Phrase.Rounds n) e = other_third (phrase_line model (Phrase.Rounds n)) refl
phrase_apart model Phrase.Ray e = other_third (codes "ray") refl
phrase_apart model Phrase.Reduced e = other_third (codes "reduced") refl
phrase_apart model (Phrase.Reduction (Redundant i)) e = other_third (phrase_line model (Phrase.Reduction (Redundant i))) refl
phrase_apart model (Phrase.Reduction (Empty i)) e = other_start (phrase_line model (Phrase.Reduction (Empty i))) refl
phrase_apart model (Phrase.Reduction (Singleton i)) e = other_start (phrase_line model (Phrase.Reduction (Singleton i))) refl
phrase_apart model (Phrase.Reduction (Fixed j v)) e = other_start (phrase_line model (Phrase.Reduction (Fixed j v))) refl
phrase_apart model (Phrase.Reduction (Forcing i side)) e = other_start (phrase_line model (Phrase.Reduction (Forcing i side))) refl
phrase_apart model (Phrase.Reduction (Doubleton i j)) e = other_start (phrase_line model (Phrase.Reduction (Doubleton i j))) refl
phrase_apart model p e = other_start (phrase_line model p) refl

-- and of phrases
phrases_apart : (model : Program) (ps : List Phrase) → All (IsBefore model) ps → All NotFoot (lines_of model ps)
phrases_apart model [] h = All-nil NotFoot
phrases_apart model (p ∷ ps) h =
    All-cons NotFoot (phrase_line model p) (lines_of model ps) (phrase_apart model p (All-head (IsBefore model) p ps h).before) (phrases_apart model ps (All-tail (IsBefore model) p ps h))

-- all that stands before the foot
abbrev pub body : Program → Report → List Line
body model report = lines_of model (body_phrases model report.notes report.entries)

pub body_is : (model : Program) (report : Report) → IsReportFor model report → All NotFoot (body model report)
body_is model report h = phrases_apart model (body_phrases model report.notes report.entries) (body_for model report h)

-- a report is its body and the foot
pub body_and_foot : (model : Program) (report : Report) → report_lines model report ≡ body model report ++ foot ∷ []
body_and_foot model report = map-append (phrase_line model) (body_phrases model report.notes report.entries) (Phrase.Foot ∷ [])

-- ---- fronts
-- no lines are the front of a report
pub nothing_is_front : (model : Program) → IsFront model []
nothing_is_front model = (report_lines model (record { notes = []; entries = [] }), record { report = record { notes = []; entries = [] }; form = nothing_in_form model; lines = refl })

-- what stands before a front is one
pub shorter_front : (model : Program) (a b : List Line) → IsFront model (a ++ b) → IsFront model a
shorter_front model a b h = (b ++ h.0, record { report = h.1.report; form = h.1.form; lines = h.1.lines ∙ append_assoc a b h.0 })

-- no report goes on after a whole one
pub whole_ends : (model : Program) (front back : List Line) → IsWhole model front → IsFront model (front ++ back) → back ≡ []
whole_ends model front back whole longer =
    let w : front ≡ body model whole.report ++ foot ∷ [] = sym (append-nil front) ∙ sym whole.lines ∙ body_and_foot model whole.report in
    let l : body model longer.1.report ++ foot ∷ [] ≡ front ++ (back ++ longer.0) = sym (body_and_foot model longer.1.report) ∙ longer.1.lines ∙ append_assoc front back longer.0 in
    let e : body model longer.1.report ++ foot ∷ [] ≡ (body model whole.report ++ foot ∷ []) ++ (back ++ longer.0) = l ∙ ap (λ f. f ++ (back ++ longer.0)) w in
    let r : back ++ longer.0 ≡ [] = one_foot (body model longer.1.report) (body model whole.report) (back ++ longer.0) (body_is model longer.1.report longer.1.form) (body_is model whole.report whole.form) e in
    nothing_before back longer.0 r
  where
    nothing_before : (x y : List Line) → x ++ y ≡ [] → x ≡ []
    nothing_before [] y e = refl
    nothing_before (l ∷ x) y e = cc

-- lines without a foot are no report
pub needs_foot : (model : Program) (lines : List Line) → All NotFoot lines → ¬ (IsWhole model lines)
needs_foot model lines h whole = never (body model whole.report) lines h (sym (body_and_foot model whole.report) ∙ whole.lines ∙ append-nil lines)
  where
    never : (b lines : List Line) → All NotFoot lines → b ++ foot ∷ [] ≡ lines → ⊥
    never [] [] h e = cc
    never [] (l ∷ lines) h e = All-head NotFoot l lines h cc
    never (m ∷ b) [] h e = cc
    never (m ∷ b) (l ∷ lines) h e = never b lines (All-tail NotFoot l lines h) cc

-- a line that no report begins with
pub needs_head : (model : Program) (line : Line) (lines : List Line) → line ≢ codes "iisan report 2" → ¬ (IsFront model (line ∷ lines))
needs_head model line lines h front = let e : report_lines model front.1.report ≡ line ∷ (lines ++ front.0) = front.1.lines in h cc
