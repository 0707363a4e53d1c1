-- What is spelled by a row of the table is read, and what is read is spelled so.
use Rattle.std.proofs.Common.{◌≡◌, ◌≢◌, refl, sym, ap, subst, ◌∙◌, ℕ, ◌==◌, Bool, true, false, ◌&&◌, cond, List, [], ◌∷◌, ◌++◌, Option, Some, None, not}
use Rattle.std.specs.Prelude.{codes, find, flat_map, position, option_map}
use Rattle.std.specs.Option.{option_and_then}
use Rattle.std.specs.Str.{bytes_eq}
use Rattle.std.proofs.lemmas.Bool.{and_parts}
use Rattle.std.proofs.lemmas.Option.{same_Some, option_and_then_some}
use Rattle.std.proofs.lemmas.Slice.Eq.{bytes_eq-Decides}
use Rattle.lp_model.specs.Program.{Program, NamedRow, NamedColumn, empty_row, empty_column, row_at, IsWellFormed}
use Rattle.lp_model.specs.Shown.{row_names, column_names}
use Rattle.lp_model.specs.declared.parts.Note.TheVariants.{LowerRemoved}
use Rattle.lp_model.specs.declared.members.Member.{Member}
use Rattle.lp_model.specs.declared.members.Member.TheVariants.{RowLo, RowUp, Lower, Upper, Whole}
use Rattle.lp_model.specs.declared.members.Side.{Side}
use Rattle.lp_model.specs.declared.members.Side.TheVariants.{Lo, Up}
use Rattle.certs.specs.declared.evidence.Source.{Source}
use Rattle.certs.specs.declared.evidence.Source.TheVariants.{Member as Of, Below, Above}
use Rattle.certs.specs.declared.solving.SiteKind.{SiteKind}
use Rattle.certs.specs.declared.solving.SiteKind.TheVariants.{Settle, Improve, Stretch, Relax, Alternative}
use Rattle.frac128.specs.Printed.{printed}
use Rattle.frac128.specs.declared.Op.{Op}
use Rattle.frac128.specs.declared.Op.TheVariants.{Plus, Minus, Times, Over}
use Rattle.reductions.specs.declared.steps.ReduceStep.TheVariants.{Empty}
use Rattle.report_text.specs.declared.report.Refusal.{Refusal}
use Rattle.report_text.specs.declared.phrases.Keyword.{Keyword}
use Rattle.report_text.specs.declared.phrases.Phrase.{Phrase}
use Rattle.report_text.specs.declared.phrases.StopPhrase.{StopPhrase}
use Rattle.report_text.specs.declared.table.Kind.{Kind}
use Rattle.report_text.specs.declared.table.Given.{Given}
use Rattle.report_text.specs.declared.table.TheConstants.{KEYWORDS}
use Rattle.report_text.specs.Form.{is_word, IsNamedRow, IsNamedColumn, IsNamedMember, IsNamedSource}
use Rattle.report_text.specs.Grammar.{Line, column_name, name_of, kind_word, source_word, source_name, met_word, site_word, op_word, noted_word, word_text, keyword_text, keyword_of, kinds_of, words_at, no_given, given_of, note_by, phrase_by, branch_keyword, details}
use Rattle.phrase_reader.specs.Parts.{parts}
use Rattle.phrase_reader.specs.Phrases.{IsPhraseFor, Says}
use Rattle.phrase_reader.specs.Numerals.{fraction_in}
use Rattle.phrase_reader.specs.Words.{row_in, column_in, member_in, source_in, met_in, site_in, op_in, noted_in, nonzero, positive, whole_in, below_limit, count_in, word_in, kind_in, given_in, begins, fits, row_said, line_said}
use Rattle.phrase_reader.proofs.Named.{split_if, told, told_if, found_spelled, found_passes, place_told, place_is}
use Rattle.phrase_reader.proofs.Quotients.{own_fraction, fraction_said}
use Rattle.phrase_reader.proofs.Numbered.{nonzero_own, nonzero_said, positive_own, positive_said, whole_own, whole_said, split_own, split_said, count_own, count_said}
use Rattle.phrase_reader.proofs.Fitting.{IsFit, AreFit, AreSo, fit_so, so_fit, phrase_fits, by_kinds}
use Rattle.phrase_reader.proofs.Spelling.{words_of_line, line_of_words}

-- ---- what is taken of one thing given into another, by a kind
abbrev taken : Kind → Given → Given → Given
taken (Kind.Word w) from into = into
taken Kind.Row from into = record into { row = from.row }
taken Kind.Column from into = record into { column = from.column }
taken Kind.Member from into = record into { member = from.member }
taken Kind.Source from into = record into { source = from.source }
taken Kind.Side from into = record into { side = from.side }
taken Kind.Site from into = record into { site = from.site }
taken Kind.Op from into = record into { op = from.op }
taken Kind.Noted from into = record into { kept = from.kept }
taken Kind.Fraction from into = record into { value = from.value }
taken Kind.Nonzero from into = record into { value = from.value }
taken Kind.Positive from into = record into { value = from.value }
taken Kind.Right from into = record into { right = from.right }
taken Kind.Whole from into = record into { at = from.at }
taken Kind.Split from into = record into { at = from.at }
taken Kind.Count from into = record into { count = from.count }
taken Kind.Second from into = record into { second = from.second }

abbrev all_taken : List Kind → Given → Given → Given
all_taken [] from into = into
all_taken (k ∷ ks) from into = all_taken ks from (taken k from into)

-- kinds of two parts
abbrev part : Kind → ℕ
part (Kind.Word w) = 0
part Kind.Row = 1
part Kind.Column = 2
part Kind.Member = 3
part Kind.Source = 4
part Kind.Side = 5
part Kind.Site = 6
part Kind.Op = 7
part Kind.Noted = 8
part Kind.Right = 10
part Kind.Whole = 11
part Kind.Split = 11
part Kind.Count = 12
part Kind.Second = 13
part k = 9

abbrev apart : Kind → Kind → Bool
apart (Kind.Word w) l = true
apart k l = not (part k == part l)

abbrev apart_all : Kind → List Kind → Bool
apart_all k [] = true
apart_all k (l ∷ ls) = apart l k && apart_all k ls

abbrev are_apart : List Kind → Bool
are_apart [] = true
are_apart (k ∷ ks) = apart_all k ks && are_apart ks

-- what is taken by one kind stays where another part is taken
one_part : (k l : Kind) (h g x : Given) → taken l (taken k h g) x ≡ cond (apart k l) (taken l g x) (taken l (taken k h g) x)
one_part (Kind.Word v) (Kind.Word w) h g x = refl
one_part Kind.Row Kind.Row h g x = refl
one_part Kind.Column Kind.Column h g x = refl
one_part Kind.Member Kind.Member h g x = refl
one_part Kind.Source Kind.Source h g x = refl
one_part Kind.Side Kind.Side h g x = refl
one_part Kind.Site Kind.Site h g x = refl
one_part Kind.Op Kind.Op h g x = refl
one_part Kind.Noted Kind.Noted h g x = refl
one_part Kind.Fraction Kind.Fraction h g x = refl
one_part Kind.Nonzero Kind.Nonzero h g x = refl
one_part Kind.Positive Kind.Positive h g x = refl
one_part Kind.Right Kind.Right h g x = refl
one_part Kind.Whole Kind.Whole h g x = refl
one_part Kind.Split Kind.Split h g x = refl
one_part Kind.Count Kind.Count h g x = refl
one_part Kind.Second Kind.Second h g x = refl
one_part k l h g x = refl

stays : (k l : Kind) (h g x : Given) → apart k l ≡ true → taken l (taken k h g) x ≡ taken l g x
stays k l h g x e = one_part k l h g x ∙ ap (λ b. cond b (taken l g x) (taken l (taken k h g) x)) e

-- the lines of the table have no part twice
distinct : (k : Keyword) → are_apart (kinds_of k) ≡ true
distinct Keyword.Iisan = refl
distinct k = refl

-- words say this at a kind, with others behind them
record KindSaid (model : Program) (k : Kind) (ws : List (List ℕ)) (g : Given) (r : Given × List (List ℕ)) : Type 0 where
  pub words : ws ≡ words_at model r.0 k ++ r.1
  pub fit : IsFit model r.0 k
  pub is : r.0 ≡ taken k r.0 g

-- ---- what is read is spelled so
record WordSaid (model : Program) (k : Kind) (word : List ℕ) (g h : Given) : Type 0 where
  pub words : word ∷ [] ≡ words_at model h k
  pub fit : IsFit model h k
  pub is : h ≡ taken k h g

-- a member, or a source, of these words
record MemberSaid (model : Program) (kind name : List ℕ) (m : Member) : Type 0 where
  pub named : IsNamedMember model m
  pub words : kind ∷ name ∷ [] ≡ kind_word m ∷ name_of model m ∷ []

record SourceSaid (model : Program) (word name : List ℕ) (s : Source) : Type 0 where
  pub named : IsNamedSource model s
  pub words : word ∷ name ∷ [] ≡ source_word s ∷ source_name model s ∷ []

record GivenSaid (model : Program) (ks : List Kind) (ws : List (List ℕ)) (h : Given) : Type 0 where
  pub words : ws ≡ flat_map (words_at model h) ks
  pub fit : AreFit model h ks

-- what is given is that of the phrase
record PhraseSaid (model : Program) (k : Keyword) (g : Given) (p : Phrase) : Type 0 where
  pub form : IsPhraseFor model p
  pub keyword : keyword_of p ≡ k
  pub behind : flat_map (words_at model g) (kinds_of k) ≡ details model p

module _ (model : Program) where
  -- words and what is asked go by what is taken alone
  taken_words : (k : Kind) (g x : Given) → words_at model (taken k g x) k ≡ words_at model g k
  taken_words (Kind.Word w) g x = refl
  taken_words k g x = refl

  fit_taken : (k : Kind) (g x : Given) → IsFit model g k → IsFit model (taken k g x) k
  fit_taken (Kind.Word w) g x h = h
  fit_taken k g x h = h

  taken_fit : (k : Kind) (g x : Given) → IsFit model (taken k g x) k → IsFit model g k
  taken_fit (Kind.Word w) g x h = h
  taken_fit k g x h = h

  row_told : (name : List ℕ) (i : ℕ) → row_in model name ≡ Some i → IsNamedRow model i × (name ≡ (row_at model i).name)
  row_told name i e =
      let t = told_if (is_word name) _ i e in
      let p = place_told (λ (r : NamedRow). r.name) model.rows empty_row name i t.1 in
      (record { known = p.0; word = subst (λ n. is_word n ≡ true) p.1 t.0 }, p.1)

  column_told : (name : List ℕ) (j : ℕ) → column_in model name ≡ Some j → IsNamedColumn model j × (name ≡ column_name model j)
  column_told name j e =
      let t = told_if (is_word name) _ j e in
      let p = place_told (λ (c : NamedColumn). c.name) model.columns empty_column name j t.1 in
      (record { known = p.0; word = subst (λ n. is_word n ≡ true) p.1 t.0 }, p.1)

  -- what a word and the name of a row or a column make
  of_name : {X : Type 0} (Said : List ℕ → List ℕ → X → Type 0) (Is : ℕ → Type 0) (called : ℕ → List ℕ) (o : Option ℕ) (make : ℕ → X) (word name text : List ℕ) (x : X)
      → ((i : ℕ) → o ≡ Some i → Is i × (name ≡ called i)) → ((i : ℕ) → Is i → Said text (called i) (make i)) → word ≡ text → option_map make o ≡ Some x → Said word name x
  of_name Said Is called o make word name text x found said e g =
      let t = told make o x g in
      let r = found t.0 t.1.0 in
      subst (Said word name) t.1.1 (subst (λ w. Said w name (make t.0)) (sym e) (subst (λ n. Said text n (make t.0)) (sym r.1) (said t.0 r.0)))

  of_row : (kind name text : List ℕ) (make : ℕ → Member) (m : Member) → ((i : ℕ) → IsNamedRow model i → MemberSaid model text (row_at model i).name (make i)) → kind ≡ text → option_map make (row_in model name) ≡ Some m → MemberSaid model kind name m
  of_row kind name text make m said e g = of_name (MemberSaid model) (IsNamedRow model) (λ i. (row_at model i).name) (row_in model name) make kind name text m (row_told name) said e g

  of_column : (kind name text : List ℕ) (make : ℕ → Member) (m : Member) → ((j : ℕ) → IsNamedColumn model j → MemberSaid model text (column_name model j) (make j)) → kind ≡ text → option_map make (column_in model name) ≡ Some m → MemberSaid model kind name m
  of_column kind name text make m said e g = of_name (MemberSaid model) (IsNamedColumn model) (column_name model) (column_in model name) make kind name text m (column_told name) said e g

  member_told : (kind name : List ℕ) (m : Member) → member_in model kind name ≡ Some m → MemberSaid model kind name m
  member_told kind name m e =
      split_if (MemberSaid model kind name m) kind (codes "rowlo") (option_map RowLo (row_in model name)) _ m e
      (of_row kind name (codes "rowlo") RowLo m (λ i h. record { named = record { known = h.known; word = h.word }; words = refl }))
      (λ e. split_if (MemberSaid model kind name m) kind (codes "rowup") (option_map RowUp (row_in model name)) _ m e
      (of_row kind name (codes "rowup") RowUp m (λ i h. record { named = record { known = h.known; word = h.word }; words = refl }))
      (λ e. split_if (MemberSaid model kind name m) kind (codes "lower") (option_map Lower (column_in model name)) _ m e
      (of_column kind name (codes "lower") Lower m (λ j h. record { named = record { known = h.known; word = h.word }; words = refl }))
      (λ e. split_if (MemberSaid model kind name m) kind (codes "upper") (option_map Upper (column_in model name)) _ m e
      (of_column kind name (codes "upper") Upper m (λ j h. record { named = record { known = h.known; word = h.word }; words = refl }))
      (λ e. split_if (MemberSaid model kind name m) kind (codes "whole") (option_map Whole (column_in model name)) None m e
      (of_column kind name (codes "whole") Whole m (λ j h. record { named = record { known = h.known; word = h.word }; words = refl }))
      (λ e. absurd (let s : None ≡ Some m = e in cc))))))

  of_side : (word name text : List ℕ) (make : ℕ → Source) (s : Source) → ((j : ℕ) → IsNamedColumn model j → SourceSaid model text (column_name model j) (make j)) → word ≡ text → option_map make (column_in model name) ≡ Some s → SourceSaid model word name s
  of_side word name text make s said e g = of_name (SourceSaid model) (IsNamedColumn model) (column_name model) (column_in model name) make word name text s (column_told name) said e g

  source_told : (word name : List ℕ) (s : Source) → source_in model word name ≡ Some s → SourceSaid model word name s
  source_told word name s e =
      split_if (SourceSaid model word name s) word (codes "below") (option_map Below (column_in model name)) _ s e
      (of_side word name (codes "below") Below s (λ j h. record { named = h; words = refl }))
      (λ e. split_if (SourceSaid model word name s) word (codes "above") (option_map Above (column_in model name)) _ s e
      (of_side word name (codes "above") Above s (λ j h. record { named = h; words = refl }))
      (λ e. let t = told Of (member_in model word name) s e in let m = member_told word name t.0 t.1.0 in subst (SourceSaid model word name) t.1.1 (record { named = m.named; words = m.words })))

  made : {X : Type 0} (k : Kind) (word : List ℕ) (g : Given) (put : X → Given) (o : Option X) (h : Given) → option_map put o ≡ Some h → ((x : X) → o ≡ Some x → WordSaid model k word g (put x)) → WordSaid model k word g h
  made k word g put o h e f = let t = told put o h e in subst (WordSaid model k word g) t.1.1 (f t.0 t.1.0)

  word_told : (k : Kind) (word : List ℕ) (g h : Given) → word_in model k word g ≡ Some h → WordSaid model k word g h
  word_told (Kind.Word w) word g h e =
      let t = told_if (bytes_eq word (word_text w)) (Some g) h e in
      record { words = ap (λ v. v ∷ []) ((bytes_eq-Decides word (word_text w)).0 t.0); fit = tt; is = sym (same_Some g h t.1) }
  word_told Kind.Row word g h e = made Kind.Row word g (λ i. record g { row = i }) (row_in model word) h e (λ i f. let t = row_told word i f in record { words = ap (λ v. v ∷ []) t.1; fit = t.0; is = refl })
  word_told Kind.Column word g h e = made Kind.Column word g (λ j. record g { column = j }) (column_in model word) h e (λ j f. let t = column_told word j f in record { words = ap (λ v. v ∷ []) t.1; fit = t.0; is = refl })
  word_told Kind.Member word g h e = absurd (let s : None ≡ Some h = e in cc)
  word_told Kind.Source word g h e = absurd (let s : None ≡ Some h = e in cc)
  word_told Kind.Side word g h e = made Kind.Side word g (λ s. record g { side = s }) (met_in word) h e (λ s f. record { words = ap (λ v. v ∷ []) (found_spelled met_word (Lo ∷ Up ∷ []) word s f); fit = tt; is = refl })
  word_told Kind.Site word g h e = made Kind.Site word g (λ s. record g { site = s }) (site_in word) h e (λ s f. record { words = ap (λ v. v ∷ []) (found_spelled site_word (Settle ∷ Improve ∷ Stretch ∷ Relax ∷ Alternative ∷ []) word s f); fit = tt; is = refl })
  word_told Kind.Op word g h e = made Kind.Op word g (λ o. record g { op = o }) (op_in word) h e (λ o f. record { words = ap (λ v. v ∷ []) (found_spelled op_word (Plus ∷ Minus ∷ Times ∷ Over ∷ []) word o f); fit = tt; is = refl })
  word_told Kind.Noted word g h e = made Kind.Noted word g (λ b. record g { kept = b }) (noted_in word) h e (λ b f. record { words = ap (λ v. v ∷ []) (found_spelled noted_word (true ∷ false ∷ []) word b f); fit = tt; is = refl })
  word_told Kind.Fraction word g h e = made Kind.Fraction word g (λ v. record g { value = v }) (fraction_in word) h e (λ v f. let t = fraction_said word v f in record { words = ap (λ w. w ∷ []) t.1; fit = t.0; is = refl })
  word_told Kind.Nonzero word g h e = made Kind.Nonzero word g (λ v. record g { value = v }) (option_and_then nonzero (fraction_in word)) h e (λ v f. let t = nonzero_said word v f in record { words = ap (λ w. w ∷ []) t.0.1; fit = (t.0.0, t.1); is = refl })
  word_told Kind.Positive word g h e = made Kind.Positive word g (λ v. record g { value = v }) (option_and_then positive (fraction_in word)) h e (λ v f. let t = positive_said word v f in record { words = ap (λ w. w ∷ []) t.0.1; fit = (t.1, t.0.0); is = refl })
  word_told Kind.Right word g h e = made Kind.Right word g (λ v. record g { right = v }) (fraction_in word) h e (λ v f. let t = fraction_said word v f in record { words = ap (λ w. w ∷ []) t.1; fit = t.0; is = refl })
  word_told Kind.Whole word g h e = made Kind.Whole word g (λ k. record g { at = k }) (whole_in word) h e (λ k f. let t = whole_said word k f in record { words = ap (λ w. w ∷ []) t.1; fit = t.0; is = refl })
  word_told Kind.Split word g h e = made Kind.Split word g (λ k. record g { at = k }) (option_and_then below_limit (whole_in word)) h e (λ k f. let t = split_said word k f in record { words = ap (λ w. w ∷ []) t.1; fit = t.0; is = refl })
  word_told Kind.Count word g h e = made Kind.Count word g (λ n. record g { count = n }) (count_in word) h e (λ n f. let t = count_said word n f in record { words = ap (λ w. w ∷ []) t.1; fit = t.0; is = refl })
  word_told Kind.Second word g h e = made Kind.Second word g (λ n. record g { second = n }) (count_in word) h e (λ n f. let t = count_said word n f in record { words = ap (λ w. w ∷ []) t.1; fit = t.0; is = refl })

  kind_told : (k : Kind) (ws : List (List ℕ)) (g : Given) (r : Given × List (List ℕ)) → kind_in model k ws g ≡ Some r → KindSaid model k ws g r
  kind_told k [] g r e = absurd (let s : None ≡ Some r = e in cc)
  kind_told Kind.Member (kind ∷ name ∷ ws) g r e =
      let t = told (λ m. (record g { member = m }, ws)) (member_in model kind name) r e in
      let m = member_told kind name t.0 t.1.0 in
      subst (KindSaid model Kind.Member (kind ∷ name ∷ ws) g) t.1.1 (record { words = ap (λ l. l ++ ws) m.words; fit = m.named; is = refl })
  kind_told Kind.Source (word ∷ name ∷ ws) g r e =
      let t = told (λ s. (record g { source = s }, ws)) (source_in model word name) r e in
      let s = source_told word name t.0 t.1.0 in
      subst (KindSaid model Kind.Source (word ∷ name ∷ ws) g) t.1.1 (record { words = ap (λ l. l ++ ws) s.words; fit = s.named; is = refl })
  kind_told k (word ∷ ws) g r e =
      let t = told (λ h. (h, ws)) (word_in model k word g) r e in
      let w = word_told k word g t.0 t.1.0 in
      subst (KindSaid model k (word ∷ ws) g) t.1.1 (record { words = ap (λ l. l ++ ws) w.words; fit = w.fit; is = w.is })

  -- what no kind of a line takes is as it was
  kept : (ks : List Kind) (ws : List (List ℕ)) (g h : Given) → given_in model ks ws g ≡ Some h → (k : Kind) (x : Given) → apart_all k ks ≡ true → taken k h x ≡ taken k g x
  kept [] [] g h e k x a = ap (λ z. taken k z x) (sym (same_Some g h e))
  kept [] (word ∷ ws) g h e k x a = absurd (let s : None ≡ Some h = e in cc)
  kept (l ∷ ks) ws g h e k x a =
      let both = and_parts (apart l k) (apart_all k ks) a in
      option_and_then_some (λ (r : Given × List (List ℕ)). given_in model ks r.1 r.0) (kind_in model l ws g) h e
      (λ r f i. kept ks r.1 r.0 h i k x both.1 ∙ ap (λ z. taken k z x) (kind_told l ws g r f).is ∙ stays l k r.0 g x both.0)

  given_told : (ks : List Kind) (ws : List (List ℕ)) (g h : Given) → are_apart ks ≡ true → given_in model ks ws g ≡ Some h → GivenSaid model ks ws h
  given_told [] [] g h a e = record { words = refl; fit = tt }
  given_told [] (word ∷ ws) g h a e = absurd (let s : None ≡ Some h = e in cc)
  given_told (k ∷ ks) ws g h a e =
      let both = and_parts (apart_all k ks) (are_apart ks) a in
      option_and_then_some (λ (r : Given × List (List ℕ)). given_in model ks r.1 r.0) (kind_in model k ws g) h e
      (λ r f i.
      let said = kind_told k ws g r f in
      let rest = given_told ks r.1 r.0 h both.1 i in
      let same : taken k h g ≡ taken k r.0 g = kept ks r.1 r.0 h i k g both.0 in
      let words : words_at model r.0 k ≡ words_at model h k = sym (taken_words k r.0 g) ∙ ap (λ z. words_at model z k) (sym same) ∙ taken_words k h g in
      record {
        words = said.words ∙ ap (λ l. l ++ r.1) words ∙ ap (λ l. words_at model h k ++ l) rest.words;
        fit = (taken_fit k h g (subst (λ z. IsFit model z k) (sym same) (fit_taken k r.0 g said.fit)), rest.fit);
      })

  note_told : (b : Bool) (j : ℕ) (p : Phrase) → IsNamedColumn model j → Some (Phrase.Note (note_by b j)) ≡ Some p → IsPhraseFor model p × ((keyword_of p ≡ Keyword.Note) × (column_name model j ∷ codes "lower" ∷ noted_word b ∷ [] ≡ details model p))
  note_told true j p h e = subst (λ q. IsPhraseFor model q × ((keyword_of q ≡ Keyword.Note) × (column_name model j ∷ codes "lower" ∷ noted_word true ∷ [] ≡ details model q))) (same_Some _ p e) (h, (refl, refl))
  note_told false j p h e = subst (λ q. IsPhraseFor model q × ((keyword_of q ≡ Keyword.Note) × (column_name model j ∷ codes "lower" ∷ noted_word false ∷ [] ≡ details model q))) (same_Some _ p e) (h, (refl, refl))

  phrase_told : (k : Keyword) (g : Given) (p : Phrase) → AreSo model g (kinds_of k) → phrase_by k g ≡ Some p → PhraseSaid model k g p
  phrase_told Keyword.Command g p h e = absurd (let s : None ≡ Some p = e in cc)
  phrase_told Keyword.Note g p h e = let t = note_told g.kept g.column p h.0 e in record { form = t.0; keyword = t.1.0; behind = t.1.1 }
  phrase_told Keyword.Use g p h e = subst (PhraseSaid model Keyword.Use g) (same_Some _ p e) (record { form = record { named = h.0; positive = h.1.0; fits = h.1.1 }; keyword = refl; behind = refl })
  phrase_told Keyword.Forcing g p h e = subst (PhraseSaid model Keyword.Forcing g) (same_Some _ p e) (record { form = h.0; keyword = refl; behind = refl })
  phrase_told Keyword.BranchBelow g p h e = subst (PhraseSaid model Keyword.BranchBelow g) (same_Some _ p e) (record { form = record { named = h.0; fits = h.1 }; keyword = refl; behind = refl })
  phrase_told Keyword.BranchAbove g p h e = subst (PhraseSaid model Keyword.BranchAbove g) (same_Some _ p e) (record { form = record { named = h.0; fits = h.1 }; keyword = refl; behind = refl })
  phrase_told Keyword.Operation g p h e = subst (PhraseSaid model Keyword.Operation g) (same_Some _ p e) (record { form = record { left = h.1.0; right = h.1.1 }; keyword = refl; behind = refl })
  phrase_told k g p h e = subst (PhraseSaid model k g) (same_Some _ p e) (record { form = h; keyword = refl; behind = refl })

  -- what a line says that is not a command
  pub line_told : (line first : Line) (ws : List (List ℕ)) (p : Phrase) → parts 32 line ≡ first ∷ ws → line_said model first ws ≡ Some p → Says model line p
  line_told line first ws p cut e =
      option_and_then_some (row_said model ws) (find (begins first ws) KEYWORDS) p e
      (λ k found row. option_and_then_some (phrase_by k) (given_in model (kinds_of k) ws no_given) p row
      (λ g given is.
      let said = given_told (kinds_of k) ws no_given g (distinct k) given in
      let phrase = phrase_told k g p (fit_so model g (kinds_of k) said.fit) is in
      let front : first ≡ keyword_text k = (bytes_eq-Decides first (keyword_text k)).0 (and_parts (bytes_eq first (keyword_text k)) (fits (kinds_of k) ws) (found_passes (begins first ws) KEYWORDS k found)).0 in
      line_of_words model line p phrase.form
      (cut ∙ ap (λ w. w ∷ ws) (front ∙ ap keyword_text (sym phrase.keyword)) ∙ ap (λ l. keyword_text (keyword_of p) ∷ l) (said.words ∙ phrase.behind))))

-- ---- what is spelled is read
module _ (model : Program) (f : IsWellFormed model) where
  own_row : (i : ℕ) → IsNamedRow model i → row_in model (row_at model i).name ≡ Some i
  own_row i h = ap (λ b. cond b (position (bytes_eq (row_at model i).name) (row_names model)) None) h.word ∙ place_is (λ (r : NamedRow). r.name) model.rows empty_row f.row_names (row_at model i).name i h.known refl

  own_column : (j : ℕ) → IsNamedColumn model j → column_in model (column_name model j) ≡ Some j
  own_column j h = ap (λ b. cond b (position (bytes_eq (column_name model j)) (column_names model)) None) h.word ∙ place_is (λ (c : NamedColumn). c.name) model.columns empty_column f.column_names (column_name model j) j h.known refl

  own_member : (m : Member) → IsNamedMember model m → member_in model (kind_word m) (name_of model m) ≡ Some m
  own_member (RowLo i) h = ap (option_map RowLo) (own_row i (record { known = h.known; word = h.word }))
  own_member (RowUp i) h = ap (option_map RowUp) (own_row i (record { known = h.known; word = h.word }))
  own_member (Lower j) h = ap (option_map Lower) (own_column j (record { known = h.known; word = h.word }))
  own_member (Upper j) h = ap (option_map Upper) (own_column j (record { known = h.known; word = h.word }))
  own_member (Whole j) h = ap (option_map Whole) (own_column j (record { known = h.known; word = h.word }))

  own_source : (s : Source) → IsNamedSource model s → source_in model (source_word s) (source_name model s) ≡ Some s
  own_source (Below j) h = ap (option_map Below) (own_column j h)
  own_source (Above j) h = ap (option_map Above) (own_column j h)
  own_source (Of (RowLo i)) h = ap (option_map Of) (own_member (RowLo i) h)
  own_source (Of m) h = ap (option_map Of) (own_member m h)

  own_met : (s : Side) → met_in (met_word s) ≡ Some s
  own_met Lo = refl
  own_met Up = refl

  own_site : (k : SiteKind) → site_in (site_word k) ≡ Some k
  own_site Settle = refl
  own_site k = refl

  own_op : (o : Op) → op_in (op_word o) ≡ Some o
  own_op Plus = refl
  own_op o = refl

  own_noted : (b : Bool) → noted_in (noted_word b) ≡ Some b
  own_noted true = refl
  own_noted false = refl

  put : {X : Type 0} (set : X → Given) (ws : List (List ℕ)) (o : Option X) (x : X) → o ≡ Some x → option_map {U = Given × List (List ℕ)} (λ h. (h, ws)) (option_map set o) ≡ Some (set x, ws)
  put set ws o x e = ap (λ p. option_map {U = Given × List (List ℕ)} (λ h. (h, ws)) (option_map set p)) e

  own_kind : (k : Kind) (h g : Given) (ws : List (List ℕ)) → IsFit model h k → kind_in model k (words_at model h k ++ ws) g ≡ Some (taken k h g, ws)
  own_kind (Kind.Word w) h g ws fit = ap (λ b. option_map {U = Given × List (List ℕ)} (λ x. (x, ws)) (cond b (Some g) None)) ((bytes_eq-Decides (word_text w) (word_text w)).1 refl)
  own_kind Kind.Row h g ws fit = put (λ i. record g { row = i }) ws _ h.row (own_row h.row fit)
  own_kind Kind.Column h g ws fit = put (λ j. record g { column = j }) ws _ h.column (own_column h.column fit)
  own_kind Kind.Member h g ws fit = ap (option_map {U = Given × List (List ℕ)} (λ m. (record g { member = m }, ws))) (own_member h.member fit)
  own_kind Kind.Source h g ws fit = ap (option_map {U = Given × List (List ℕ)} (λ s. (record g { source = s }, ws))) (own_source h.source fit)
  own_kind Kind.Side h g ws fit = put (λ s. record g { side = s }) ws _ h.side (own_met h.side)
  own_kind Kind.Site h g ws fit = put (λ s. record g { site = s }) ws _ h.site (own_site h.site)
  own_kind Kind.Op h g ws fit = put (λ o. record g { op = o }) ws _ h.op (own_op h.op)
  own_kind Kind.Noted h g ws fit = put (λ b. record g { kept = b }) ws _ h.kept (own_noted h.kept)
  own_kind Kind.Fraction h g ws fit = put (λ v. record g { value = v }) ws _ h.value (own_fraction (printed h.value) h.value (fit, refl))
  own_kind Kind.Nonzero h g ws fit = put (λ v. record g { value = v }) ws _ h.value (nonzero_own h.value fit.0 fit.1)
  own_kind Kind.Positive h g ws fit = put (λ v. record g { value = v }) ws _ h.value (positive_own h.value fit.1 fit.0)
  own_kind Kind.Right h g ws fit = put (λ v. record g { right = v }) ws _ h.right (own_fraction (printed h.right) h.right (fit, refl))
  own_kind Kind.Whole h g ws fit = put (λ k. record g { at = k }) ws _ h.at (whole_own h.at fit)
  own_kind Kind.Split h g ws fit = put (λ k. record g { at = k }) ws _ h.at (split_own h.at fit)
  own_kind Kind.Count h g ws fit = put (λ n. record g { count = n }) ws _ h.count (count_own h.count fit)
  own_kind Kind.Second h g ws fit = put (λ n. record g { second = n }) ws _ h.second (count_own h.second fit)

  own_given : (ks : List Kind) (h g : Given) → AreFit model h ks → given_in model ks (flat_map (words_at model h) ks) g ≡ Some (all_taken ks h g)
  own_given [] h g fit = refl
  own_given (k ∷ ks) h g fit =
      ap (option_and_then (λ (r : Given × List (List ℕ)). given_in model ks r.1 r.0)) (own_kind k h g (flat_map (words_at model h) ks) fit.0)
      ∙ own_given ks h (taken k h g) fit.1

  -- the phrase of what is given of it
  own_phrase : (p : Phrase) → keyword_of p ≢ Keyword.Command → phrase_by (keyword_of p) (all_taken (kinds_of (keyword_of p)) (given_of p) no_given) ≡ Some p
  own_phrase (Phrase.Command c) other = absurd (other refl)
  own_phrase (Phrase.Note (LowerRemoved j)) other = refl
  own_phrase (Phrase.Refused Refusal.UnknownName) other = refl
  own_phrase (Phrase.Reduction (Empty i)) other = refl
  own_phrase (Phrase.Stop (StopPhrase.Branch b)) other = by b.upper refl
    where
      by : (upper : Bool) → b.upper ≡ upper → phrase_by (branch_keyword upper) (all_taken (kinds_of (branch_keyword upper)) (given_of (Phrase.Stop (StopPhrase.Branch b))) no_given) ≡ Some (Phrase.Stop (StopPhrase.Branch b))
      by true e = ap (λ u. Some (Phrase.Stop (StopPhrase.Branch (record b { upper = u })))) (sym e)
      by false e = ap (λ u. Some (Phrase.Stop (StopPhrase.Branch (record b { upper = u })))) (sym e)
  own_phrase p other = refl

  -- its line begins as no other row
  own_front : (p : Phrase) → keyword_of p ≢ Keyword.Command → find (begins (keyword_text (keyword_of p)) (details model p)) KEYWORDS ≡ Some (keyword_of p)
  own_front (Phrase.Command c) other = absurd (other refl)
  own_front (Phrase.Note (LowerRemoved j)) other = refl
  own_front (Phrase.Refused Refusal.UnknownName) other = refl
  own_front (Phrase.Reduction (Empty i)) other = refl
  own_front (Phrase.Stop (StopPhrase.Branch b)) other = by b.upper
    where
      by : (upper : Bool) → find (begins (keyword_text (branch_keyword upper)) (details model (Phrase.Stop (StopPhrase.Branch b)))) KEYWORDS ≡ Some (branch_keyword upper)
      by true = refl
      by false = refl
  own_front p other = refl

  pub own_words : (p : Phrase) → keyword_of p ≢ Keyword.Command → IsPhraseFor model p → line_said model (keyword_text (keyword_of p)) (details model p) ≡ Some p
  own_words p other h =
      let k = keyword_of p in
      let g = given_of p in
      ap (option_and_then (row_said model (details model p))) (own_front p other)
      ∙ ap (λ ws. option_and_then (phrase_by k) (given_in model (kinds_of k) ws no_given)) (by_kinds model p other)
      ∙ ap (option_and_then (phrase_by k)) (own_given (kinds_of k) g no_given (so_fit model g (kinds_of k) (phrase_fits model p h)))
      ∙ own_phrase p other

  pub own_line : (line first : Line) (ws : List (List ℕ)) (p : Phrase) → parts 32 line ≡ first ∷ ws → keyword_of p ≢ Keyword.Command → Says model line p → line_said model first ws ≡ Some p
  own_line line first ws p cut other h =
      let e : first ∷ ws ≡ keyword_text (keyword_of p) ∷ details model p = sym cut ∙ words_of_line model line p h in
      let a : first ≡ keyword_text (keyword_of p) = cc in
      let b : ws ≡ details model p = cc in
      ap (λ w. line_said model w ws) a ∙ ap (line_said model (keyword_text (keyword_of p))) b ∙ own_words p other h.form
