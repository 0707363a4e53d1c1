-- What is left to be printed after a step.
use Rattle.std.proofs.Common.{◌≡◌, ◌<◌, ◌≤◌, ◌+◌, refl, sym, ◌∙◌, ap, ℕ, List, [], ◌∷◌, ◌++◌, append_assoc, append-nil, drop, get_or, length, zip, map, flat_map}
use Rattle.std.proofs.lemmas.List.{at_drop_more, map-append}
use Rattle.std.proofs.Math.ListN.{drop_of_length-le}
use Rattle.std.proofs.lemmas.Grind.{flat_map-append}
use Rattle.lp_model.specs.declared.members.Member.{Member}
use Rattle.lp_model.specs.Program.{Program}
use Rattle.certs.specs.declared.evidence.Point.{Point}
use Rattle.report_text.specs.declared.phrases.Phrase.{Phrase}
use Rattle.report_text.specs.Grammar.{phrase_line, witness_phrases, phrases_text, text_of}
use Rattle.report_printer.specs.Evidence.{ended}

-- the text of phrases is that of the first ones and of the others
pub text_both : (model : Program) (first others : List Phrase) → phrases_text model (first ++ others) ≡ phrases_text model first ++ phrases_text model others
text_both model first others = ap text_of (map-append (phrase_line model) first others) ∙ flat_map-append (λ line. line ++ 10 ∷ []) (map (phrase_line model) first) (map (phrase_line model) others)

-- what was printed is no longer left
pub goes_on : (done a next left rest start : List ℕ) → next ≡ done ++ a → left ≡ a ++ rest → done ++ left ≡ start → next ++ rest ≡ start
goes_on done a next left rest start e s h = ap (λ t. t ++ rest) e ∙ (append_assoc done a rest ∙ (ap (λ t. done ++ t) (sym s) ∙ h))

-- a word behind a text, and what follows it
pub word_more : (start mid new word rest : List ℕ) → mid ≡ start ++ (word ++ 32 ∷ []) → new ≡ mid ++ rest → new ≡ start ++ (word ++ 32 ∷ rest)
word_more start mid new word rest m e = e ∙ (ap (λ t. t ++ rest) m ∙ (append_assoc start (word ++ 32 ∷ []) rest ∙ ap (λ t. start ++ t) (append_assoc word (32 ∷ []) rest)))

-- at the end nothing is left
pub nothing_left : (done left start : List ℕ) → left ≡ [] → done ++ left ≡ start → done ≡ start
nothing_left done left start e h = sym (append-nil done) ∙ (ap (λ t. done ++ t) (sym e) ∙ h)

-- members and the witnesses that are left, the first of them and the others
pub witnesses_left : (model : Program) (members others : List Member) (witnesses : List Point) (i : ℕ) (m : Member) (w : Point) → members ≡ m ∷ others → i < length witnesses → w ≡ get_or witnesses i w
    → phrases_text model (flat_map witness_phrases (zip members (drop i witnesses))) ≡ phrases_text model (witness_phrases (m, w)) ++ phrases_text model (flat_map witness_phrases (zip others (drop (i + 1) witnesses)))
witnesses_left model members others witnesses i m w first l is =
    ap (λ (ms : List Member). phrases_text model (flat_map witness_phrases (zip ms (drop i witnesses)))) first
    ∙ (at_drop_more (λ (ws : List Point). phrases_text model (flat_map witness_phrases (zip (m ∷ others) ws))) witnesses i w l
    ∙ (ap (λ (p : Point). phrases_text model (flat_map witness_phrases ((m, p) ∷ zip others (drop (i + 1) witnesses)))) (sym is)
    ∙ text_both model (witness_phrases (m, w)) (flat_map witness_phrases (zip others (drop (i + 1) witnesses)))))

-- without witnesses there is no member with one
pub zip_none : (ms : List Member) (ws : List Point) → ws ≡ [] → zip ms ws ≡ []
zip_none [] ws e = refl
zip_none (m ∷ ms) [] e = refl
zip_none (m ∷ ms) (w ∷ ws) e = absurd (cc)

-- nor where no witness is left
pub no_witness : (model : Program) (ms : List Member) (witnesses : List Point) (i : ℕ) → length witnesses ≤ i → phrases_text model (flat_map witness_phrases (zip ms (drop i witnesses))) ≡ []
no_witness model ms witnesses i e = ap (λ l. phrases_text model (flat_map witness_phrases l)) (zip_none ms (drop i witnesses) (drop_of_length-le witnesses e))

-- more lines
pub lines_more : (model : Program) (start done next : List ℕ) (phrases more : List Phrase) → done ≡ start ++ phrases_text model phrases → next ≡ done ++ phrases_text model more → next ≡ start ++ phrases_text model (phrases ++ more)
lines_more model start done next phrases more d e = e ∙ (ap (λ t. t ++ phrases_text model more) d ∙ (append_assoc start (phrases_text model phrases) (phrases_text model more) ∙ ap (λ t. start ++ t) (sym (text_both model phrases more))))

-- one line more
pub line_more : (model : Program) (start done next : List ℕ) (phrases : List Phrase) (p : Phrase) → done ≡ start ++ phrases_text model phrases → next ≡ done ++ ended (phrase_line model p) → next ≡ start ++ phrases_text model (phrases ++ p ∷ [])
line_more model start done next phrases p d e = lines_more model start done next phrases (p ∷ []) d (e ∙ ap (λ t. done ++ t) (sym (append-nil (ended (phrase_line model p)))))

-- a first line
pub line_first : (model : Program) (start next : List ℕ) (p : Phrase) → next ≡ start ++ ended (phrase_line model p) → next ≡ start ++ phrases_text model (p ∷ [])
line_first model start next p e = e ∙ ap (λ t. start ++ t) (sym (append-nil (ended (phrase_line model p))))

-- a first line and two parts
pub in_parts : (model : Program) (first : Phrase) (a b : List Phrase) (start s1 s2 s3 : List ℕ) → s1 ≡ start ++ ended (phrase_line model first) → s2 ≡ s1 ++ phrases_text model a → s3 ≡ s2 ++ phrases_text model b → s3 ≡ start ++ phrases_text model (first ∷ (a ++ b))
in_parts model first a b start s1 s2 s3 e1 e2 e3 =
    lines_more model start s1 s3 (first ∷ []) (a ++ b) (line_first model start s1 first e1) (lines_more model s1 s2 s3 a b e2 e3)
