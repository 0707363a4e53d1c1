-- Bytes are those of one report: their lines say one list of phrases, by which a report is known.
use Rattle.std.proofs.Common.{◌≡◌, refl, sym, ◌∙◌, [], ◌∷◌}
use Rattle.std.proofs.lemmas.List.{append_cancel_right}
use Rattle.report_text.specs.declared.phrases.Phrase.{Phrase}
use Rattle.report_text.specs.Grammar.{report_lines, report_phrases}
use Rattle.report_reader.specs.Reading.{OneReportLaw}
use Rattle.phrase_reader.proofs.OnePhrase.{phrases_one}
use Rattle.report_reader.proofs.Said.{report_for, parts_of_read}
use Rattle.report_reader.proofs.Reports.{told_alone}

pub one_report : OneReportLaw
one_report model bytes r s names a b =
    let lines : report_lines model r ≡ report_lines model s = append_cancel_right (report_lines model r) (report_lines model s) ([] ∷ []) (sym (parts_of_read model bytes r a) ∙ parts_of_read model bytes s b) in
    let phrases = phrases_one model names (report_phrases model r) (report_phrases model s) (report_for model r a.form) (report_for model s b.form) lines in
    told_alone model names r s (Phrase.Foot ∷ []) (Phrase.Foot ∷ []) a.form b.form phrases refl refl
