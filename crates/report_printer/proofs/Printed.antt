-- The parts of a report, one after another.
use Rattle.std.proofs.Common.{◌≡◌, ◌≤◌, refl, sym, ◌∙◌, ap, ℕ, List, [], ◌∷◌, ◌++◌, append_assoc, append-nil, drop, length, map}
use Rattle.std.proofs.Math.ListN.{drop_of_length-le}
use Rattle.lp_model.specs.declared.parts.Note.{Note}
use Rattle.lp_model.specs.Program.{Program}
use Rattle.report_text.specs.declared.report.Entry.{Entry}
use Rattle.report_text.specs.declared.report.Command.{Command}
use Rattle.report_text.specs.Turns.{after, gathered}
use Rattle.report_text.specs.declared.phrases.Phrase.{Phrase}
use Rattle.report_text.specs.Grammar.{phrase_line, entry_phrases, entries_phrases, phrases_text}
pub use Rattle.report_printer.proofs.EvidencePrinted.{text_both}
use Rattle.report_printer.specs.Printing.{ended, head_phrases, PartsLaw}

-- the text of entries, one after another
entries_text : (model : Program) (before : List Command) (entries : List Entry) → phrases_text model (entries_phrases model before entries) ≡ gathered (λ front e. phrases_text model (entry_phrases (after model front) e)) before entries
entries_text model before [] = refl
entries_text model before (e ∷ entries) =
    let next = before ++ e.command ∷ [] in
    text_both model (entry_phrases (after model before) e) (entries_phrases model next entries) ∙ ap (λ t. phrases_text model (entry_phrases (after model before) e) ++ t) (entries_text model next entries)

-- the text of a report, part by part
pub parts_of : PartsLaw
parts_of model report =
    let head = phrases_text model (head_phrases report.notes) in
    let entries = entries_phrases model [] report.entries in
    let foot = phrases_text model (Phrase.Foot ∷ []) in
    text_both model (head_phrases report.notes ++ entries) (Phrase.Foot ∷ [])
    ∙ ap (λ t. t ++ foot) (text_both model (head_phrases report.notes) entries ∙ ap (λ t. head ++ t) (entries_text model [] report.entries))
    ∙ append_assoc head (gathered (λ front e. phrases_text model (entry_phrases (after model front) e)) [] report.entries) foot

-- the head, once no note is left
pub head_ended : (model : Program) (notes : List Note) (i : ℕ) (start s0 done : List ℕ) → length notes ≤ i → s0 ≡ start ++ ended (phrase_line model Phrase.Head)
    → done ++ phrases_text model (map Phrase.Note (drop i notes)) ≡ s0 ++ phrases_text model (map Phrase.Note notes) → done ≡ start ++ phrases_text model (head_phrases notes)
head_ended model notes i start s0 done e first_is h =
    sym (append-nil done)
    ∙ (ap (λ (l : List Note). done ++ phrases_text model (map Phrase.Note l)) (sym (drop_of_length-le notes e))
    ∙ (h
    ∙ (ap (λ t. t ++ phrases_text model (map Phrase.Note notes)) first_is
    ∙ append_assoc start (ended (phrase_line model Phrase.Head)) (phrases_text model (map Phrase.Note notes)))))
