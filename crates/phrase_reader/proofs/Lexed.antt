-- What a line says, by its words.
use Rattle.std.proofs.Common.{◌≡◌, ◌≢◌, refl, sym, ap, ◌∙◌, false, true≢false, ℕ, List, ◌∷◌, Option, Some, None}
use Rattle.std.specs.Prelude.{codes, IfSome, IfOk, Result, Ok, Err}
use Rattle.std.specs.Str.{bytes_eq}
use Rattle.std.proofs.lemmas.Slice.Eq.{bytes_eq-Decides}
use Rattle.lp_model.specs.Program.{Program, IsWellFormed}
use Rattle.report_text.specs.declared.phrases.Keyword.{Keyword}
use Rattle.report_text.specs.declared.phrases.Phrase.{Phrase}
use Rattle.report_text.specs.Grammar.{keyword_text, keyword_of, details}
use Rattle.phrase_reader.specs.Parts.{parts}
use Rattle.phrase_reader.specs.Phrases.{Says}
use Rattle.phrase_reader.specs.Words.{IsSpelled, Finds, line_said}
use Rattle.phrase_reader.proofs.Spelling.{words_of_line, line_of_words}
use Rattle.phrase_reader.proofs.Scripted.{only_command}
use Rattle.phrase_reader.proofs.Table.{line_told, own_line}

module _ (model : Program) (line first : List ℕ) (ws : List (List ℕ)) (cut : parts 32 line ≡ first ∷ ws) where
  -- a line that is not a command's
  pub found_row : IsWellFormed model → bytes_eq first (codes "command") ≡ false → Finds (Says model line) (line_said model first ws)
  found_row f other = record { found = by (line_said model first ws) refl; all = λ p h. own_line model f line first ws p cut (apart p h) h }
    where
      by : (o : Option Phrase) → line_said model first ws ≡ o → IfSome o (Says model line)
      by None e = tt
      by (Some p) e = line_told model line first ws p cut e

      apart : (p : Phrase) → Says model line p → keyword_of p ≢ Keyword.Command
      apart p h is =
          let e : first ∷ ws ≡ keyword_text (keyword_of p) ∷ details model p = sym cut ∙ words_of_line model line p h in
          let front : first ≡ keyword_text (keyword_of p) = cc in
          true≢false (sym ((bytes_eq-Decides first (codes "command")).1 (front ∙ ap keyword_text is)) ∙ other)

  -- a command's
  pub found_command : {E : Type 0} (r : Result (Option Phrase) E) → first ≡ codes "command" → IfOk r (Finds (IsSpelled model Keyword.Command ws)) → IfOk r (Finds (Says model line))
  found_command (Err stop) front h = tt
  found_command (Ok result) front h = record { found = by result h.found; all = λ p s. h.all p (spelled p s) }
    where
      by : (o : Option Phrase) → IfSome o (IsSpelled model Keyword.Command ws) → IfSome o (Says model line)
      by None i = tt
      by (Some p) i = line_of_words model line p i.form (cut ∙ ap (λ w. w ∷ ws) (front ∙ ap keyword_text (sym i.keyword)) ∙ ap (λ l. keyword_text (keyword_of p) ∷ l) i.behind)

      spelled : (p : Phrase) → Says model line p → IsSpelled model Keyword.Command ws p
      spelled p s =
          let e : first ∷ ws ≡ keyword_text (keyword_of p) ∷ details model p = sym cut ∙ words_of_line model line p s in
          let word : first ≡ keyword_text (keyword_of p) = cc in
          let behind : ws ≡ details model p = cc in
          record { form = s.form; keyword = only_command (keyword_of p) (sym word ∙ front); behind = behind }
