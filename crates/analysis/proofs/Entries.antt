-- Entries one after another: the settings before them, their text, their stops.
use Rattle.std.proofs.Common.{◌≡◌, refl, ◌∙◌, ap, Bool, true, false, ◌||◌, List, [], ◌∷◌, ◌++◌}
use Rattle.std.specs.List.{list_any}
use Rattle.std.proofs.lemmas.List.Sums.{fold-append}
use Rattle.lp_model.specs.Program.{Program}
use Rattle.report_text.specs.declared.report.Command.{Command}
use Rattle.report_text.specs.declared.report.Entry.{Entry}
use Rattle.report_text.specs.Turns.{after, entry_commands}
use Rattle.report_text.specs.Grammar.{entry_phrases, entries_phrases, phrases_text}
use Rattle.report_printer.proofs.Printed.{text_both}
use Rattle.report_text.proofs.InTurn.{gathered-push}
use Rattle.analysis.specs.Right.{settings_after, settings_in_force, first_settings}
use Rattle.analysis.specs.Written.{entries_text, is_unmet}
use Rattle.analysis.specs.Pieces.{entry_text}

-- the settings after one command more
pub settings_more : (before : List Command) (c : Command) → settings_in_force (before ++ c ∷ []) ≡ settings_after (settings_in_force before) c
settings_more before c = fold-append settings_after first_settings before (c ∷ [])

-- one text more
pub text_more : (model : Program) (entries : List Entry) (e : Entry) → entries_text model (entries ++ e ∷ []) ≡ entries_text model entries ++ entry_text model (entry_commands entries) e.command e.answer
text_more model entries e =
    ap (phrases_text model) (gathered-push (λ front x. entry_phrases (after model front) x) [] entries e)
    ∙ text_both model (entries_phrases model [] entries) (entry_phrases (after model (entry_commands entries)) e)

-- whether some command was not done, with one more
pub unmet_more : (entries : List Entry) (e : Entry) → list_any (λ (d : Entry). is_unmet d.answer) (entries ++ e ∷ []) ≡ (list_any (λ (d : Entry). is_unmet d.answer) entries || is_unmet e.answer)
unmet_more [] e = by (is_unmet e.answer)
  where
    by : (b : Bool) → (b || false) ≡ b
    by true = refl
    by false = refl
unmet_more (x ∷ entries) e = by (is_unmet x.answer) (unmet_more entries e)
  where
    by : (b : Bool) → list_any (λ (d : Entry). is_unmet d.answer) (entries ++ e ∷ []) ≡ (list_any (λ (d : Entry). is_unmet d.answer) entries || is_unmet e.answer)
        → (b || list_any (λ (d : Entry). is_unmet d.answer) (entries ++ e ∷ [])) ≡ ((b || list_any (λ (d : Entry). is_unmet d.answer) entries) || is_unmet e.answer)
    by true h = refl
    by false h = h
