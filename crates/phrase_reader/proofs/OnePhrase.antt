-- A line says one thing, where the names of the program differ.
use Rattle.std.proofs.Common.{◌≡◌, ◌≢◌, refl, sym, ap, ◌∙◌, List, [], ◌∷◌, ◌⊎◌, inl, inr}
use Rattle.std.specs.Prelude.{map, All}
use Rattle.std.proofs.lemmas.Option.{same_Some}
use Rattle.std.proofs.lemmas.List.Elements.{All-head, All-tail}
use Rattle.lp_model.specs.Program.{Program, IsWellFormed}
use Rattle.report_text.specs.declared.phrases.Keyword.{Keyword}
use Rattle.report_text.specs.declared.phrases.Phrase.{Phrase}
use Rattle.report_text.specs.Grammar.{Line, keyword_text, keyword_of, details, phrase_line}
use Rattle.phrase_reader.specs.Phrases.{IsPhraseFor, Says}
use Rattle.phrase_reader.proofs.Spelling.{words_of_line}
use Rattle.phrase_reader.proofs.Scripted.{command_behind, is_command, only_command}
use Rattle.phrase_reader.proofs.Table.{own_line}

module _ (model : Program) (f : IsWellFormed model) where
  -- a line says one phrase
  phrase_one : (line : Line) (p q : Phrase) → Says model line p → Says model line q → p ≡ q
  phrase_one line p q h k = by (is_command (keyword_of p))
    where
      words : keyword_text (keyword_of p) ∷ details model p ≡ keyword_text (keyword_of q) ∷ details model q
      words = sym (words_of_line model line p h) ∙ words_of_line model line q k

      text : keyword_text (keyword_of p) ≡ keyword_text (keyword_of q)
      text = let e = words in cc

      behind : details model p ≡ details model q
      behind = let e = words in cc

      commands : keyword_of p ≡ Keyword.Command → keyword_of q ≡ Keyword.Command → p ≡ q
      commands e g =
          let a = command_behind model (details model p) p (record { form = h.form; keyword = e; behind = refl }) in
          let b = command_behind model (details model p) q (record { form = k.form; keyword = g; behind = behind }) in
          a.is ∙ ap Phrase.Command (same_Some a.command b.command (sym a.said ∙ b.said)) ∙ sym b.is

      rows : keyword_of p ≢ Keyword.Command → keyword_of q ≢ Keyword.Command → p ≡ q
      rows e g =
          let cut = words_of_line model line p h in
          same_Some p q
          (sym (own_line model f line (keyword_text (keyword_of p)) (details model p) p cut e h)
          ∙ own_line model f line (keyword_text (keyword_of p)) (details model p) q cut g k)

      by : (keyword_of p ≡ Keyword.Command) ⊎ (keyword_of p ≢ Keyword.Command) → p ≡ q
      by (inl e) = commands e (only_command (keyword_of q) (sym text ∙ ap keyword_text e))
      by (inr e) = rows e (λ g. e (only_command (keyword_of p) (text ∙ ap keyword_text g)))

  -- lines say one list of phrases
  pub phrases_one : (ps qs : List Phrase) → All (IsPhraseFor model) ps → All (IsPhraseFor model) qs → map (phrase_line model) ps ≡ map (phrase_line model) qs → ps ≡ qs
  phrases_one [] [] h k e = refl
  phrases_one [] (q ∷ qs) h k e = absurd (cc)
  phrases_one (p ∷ ps) [] h k e = absurd (cc)
  phrases_one (p ∷ ps) (q ∷ qs) h k e =
      ap (λ x. x ∷ ps) (phrase_one (phrase_line model p) p q (record { form = All-head (IsPhraseFor model) p ps h; text = refl }) (record { form = All-head (IsPhraseFor model) q qs k; text = cc }))
      ∙ ap (λ l. q ∷ l) (phrases_one ps qs (All-tail (IsPhraseFor model) p ps h) (All-tail (IsPhraseFor model) q qs k) (let rest : map (phrase_line model) ps ≡ map (phrase_line model) qs = cc in rest))
