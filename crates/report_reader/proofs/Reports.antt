-- A report without its last line is read as a head, notes and entries, and is known by what it says.
use Rattle.std.proofs.Common.{◌≡◌, refl, sym, ap, subst, ◌∙◌, ℕ, ◌+◌, false, true≢false, ◌&&◌, ◌||◌, List, [], ◌∷◌, ◌++◌, length, append_assoc, arith}
use Rattle.std.specs.Prelude.{All, map, Result, Ok, Err}
use Rattle.std.proofs.lemmas.List.{length-map}
use Rattle.std.proofs.lemmas.List.Elements.{All-nil, All-push}
use Rattle.lp_model.specs.Program.{Program, IsWellFormed, noted_column}
use Rattle.lp_model.specs.declared.parts.Note.{Note}
use Rattle.report_text.specs.declared.report.Command.{Command}
use Rattle.report_text.specs.declared.report.Answer.{Answer}
use Rattle.report_text.specs.declared.report.Entry.{Entry}
use Rattle.report_text.specs.declared.report.Report.{Report}
use Rattle.report_text.specs.declared.phrases.Phrase.{Phrase}
use Rattle.report_text.specs.Turns.{after}
use Rattle.report_text.specs.Grammar.{entry_phrases, entries_phrases, body_phrases}
use Rattle.report_text.specs.Form.{IsCommand, IsNamedColumn, AreEntriesFor, AreNumbered, IsReportFor}
use Rattle.report_text.proofs.Standing.{after_well_formed}
use Rattle.report_reader.specs.declared.reader.ReportStop.{ReportStop}
use Rattle.report_reader.specs.declared.cursor.Cursor.{Cursor}
use Rattle.report_reader.specs.Kinds.{Kind, word, both, is_none, is_there, begins, IsRead, IsCursor}
use Rattle.report_reader.specs.Things.{notes, command_of}
use Rattle.report_reader.specs.Entries.{entries as entries_of}
use Rattle.report_reader.proofs.Both.{Alone, Follows, both_alone, both_read, not_behind, only_second, rest_of}
use Rattle.report_reader.proofs.Gathered.{entry_same}
use Rattle.report_reader.proofs.Parts.{behind_word}
use Rattle.report_reader.proofs.Passing.{begun_before, come_from, any_value, read_to}
use Rattle.report_reader.proofs.Sorted.{notes_alone}

-- ---- the numbers of lines
-- entries with the numbers of their lines, where line number n is that of the first
abbrev pub numbered : Program → List Command → ℕ → List Entry → List Entry
numbered first before n [] = []
numbered first before n (e ∷ es) = record e { line = n } ∷ numbered first (before ++ e.command ∷ []) (n + length (entry_phrases (after first before) e)) es

module _ (first : Program) where
  -- they say the same
  numbered_said : (before : List Command) (n : ℕ) (es : List Entry) → entries_phrases first before (numbered first before n es) ≡ entries_phrases first before es
  numbered_said before n [] = refl
  numbered_said before n (e ∷ es) = ap (λ l. entry_phrases (after first before) e ++ l) (numbered_said (before ++ e.command ∷ []) (n + length (entry_phrases (after first before) e)) es)

  numbered_for : (before : List Command) (n : ℕ) (es : List Entry) → AreEntriesFor first before es → AreEntriesFor first before (numbered first before n es)
  numbered_for before n [] h = tt
  numbered_for before n (e ∷ es) h = (record { command = h.0.command; kind = h.0.kind; answer = h.0.answer }, numbered_for (before ++ e.command ∷ []) (n + length (entry_phrases (after first before) e)) es h.1)

  numbered_so : (before : List Command) (n : ℕ) (es : List Entry) → AreNumbered first before n (numbered first before n es)
  numbered_so before n [] = tt
  numbered_so before n (e ∷ es) = (refl, numbered_so (before ++ e.command ∷ []) (n + length (entry_phrases (after first before) e)) es)

  -- entries that have these numbers stay as they are
  numbered_same : (before : List Command) (n : ℕ) (es : List Entry) → AreNumbered first before n es → numbered first before n es ≡ es
  numbered_same before n [] h = refl
  numbered_same before n (e ∷ es) h =
      ap (λ k. record e { line = k } ∷ numbered first (before ++ e.command ∷ []) (n + length (entry_phrases (after first before) e)) es) (sym h.0)
      ∙ ap (λ l. e ∷ l) (numbered_same (before ++ e.command ∷ []) (n + length (entry_phrases (after first before) e)) es h.1)

module _ (first : Program) (names : IsWellFormed first) where
  -- entries with these numbers are known by what they say
  entries_one : (before : List Command) (n : ℕ) (a b : List Entry) (m k : List Phrase) → All IsCommand before → AreEntriesFor first before a → AreEntriesFor first before b → AreNumbered first before n a → AreNumbered first before n b
      → entries_phrases first before a ++ m ≡ entries_phrases first before b ++ k → begins (λ q. is_there (command_of q)) m ≡ false → begins (λ q. is_there (command_of q)) k ≡ false → a ≡ b
  entries_one before n [] [] m k known ha hb na nb e om ok = refl
  entries_one before n [] (y ∷ b) m k known ha hb na nb e om ok = absurd (true≢false (sym (ap (begins (λ q. is_there (command_of q))) e) ∙ om))
  entries_one before n (x ∷ a) [] m k known ha hb na nb e om ok = absurd (true≢false (ap (begins (λ q. is_there (command_of q))) e ∙ ok))
  entries_one before n (x ∷ a) (y ∷ b) m k known ha hb na nb e om ok =
      let model = after first before in
      let parts = entry_same model (after_well_formed first before names known) x y (entries_phrases first (before ++ x.command ∷ []) a ++ m) (entries_phrases first (before ++ y.command ∷ []) b ++ k) ha.0 hb.0
      (sym (append_assoc (entry_phrases model x) (entries_phrases first (before ++ x.command ∷ []) a) m) ∙ e ∙ append_assoc (entry_phrases model y) (entries_phrases first (before ++ y.command ∷ []) b) k) in
      let same : x ≡ y = one parts.0 parts.1.0 (na.0 ∙ sym nb.0) in
      ap (λ z. z ∷ a) same
      ∙ ap (λ l. y ∷ l)
      (entries_one (before ++ x.command ∷ []) (n + length (entry_phrases model x)) a b m k (All-push IsCommand before x.command known ha.0.command) ha.1
      (subst (λ (z : Entry). AreEntriesFor first (before ++ z.command ∷ []) b) (sym same) hb.1) na.1
      (subst (λ (z : Entry). AreNumbered first (before ++ z.command ∷ []) (n + length (entry_phrases model z)) b) (sym same) nb.1)
      (parts.1.1 ∙ ap (λ (z : Entry). entries_phrases first (before ++ z.command ∷ []) b ++ k) (sym same)) om ok)
    where
      made : Command → Answer → ℕ → Entry
      made c r l = record { command = c; answer = r; line = l }

      one : {x y : Entry} → x.command ≡ y.command → x.answer ≡ y.answer → x.line ≡ y.line → x ≡ y
      one {x} {y} c r l = ap (λ z. made z x.answer x.line) c ∙ ap (λ z. made y.command z x.line) r ∙ ap (made y.command y.answer) l

-- ---- kinds
-- the head and the notes
abbrev pub front : Program → Kind
front model = both (word Phrase.Head) (notes model)

-- all of a report but its last line, whatever the numbers of lines
abbrev body : Program → Kind
body model = both (front model) (entries_of model)

-- and with them
abbrev pub told : Program → Kind
told model = record { Value = Report; IsFor = IsReportFor model; said = λ r. body_phrases model r.notes r.entries; goes_on = λ r q. (body model).goes_on ((tt, r.notes), r.entries) q }

module _ (model : Program) (names : IsWellFormed model) where
  head_behind : Follows (word Phrase.Head) (notes model)
  head_behind = behind_word model names Phrase.Head (notes model) [] (All-nil (λ note. IsNamedColumn model (noted_column note)))

  entries_behind : Follows (front model) (entries_of model)
  entries_behind = record { alone = both_alone model names (word Phrase.Head) (notes model) head_behind (notes_alone model names); some = []; form = tt; apart = λ x es. apart x es }
    where
      apart : (x : (front model).Value) (es : List Entry) → begins ((front model).goes_on x) (entries_phrases model [] es) ≡ false
      apart x [] = refl
      apart x (e ∷ es) = refl

  pub told_alone : Alone (told model)
  told_alone r s m n hr hs e nr ns =
      let f = entries_behind in
      let front_r = (front model).said (tt, r.notes) in
      let front_s = (front model).said (tt, s.notes) in
      let rest_r = entries_phrases model [] r.entries in
      let rest_s = entries_phrases model [] s.entries in
      let split : front_r ++ (rest_r ++ m) ≡ front_s ++ (rest_s ++ n) = sym (append_assoc front_r rest_r m) ∙ e ∙ append_assoc front_s rest_s n in
      let fronts = f.alone (tt, r.notes) (tt, s.notes) (rest_r ++ m) (rest_s ++ n) (tt, hr.notes) (tt, hs.notes) split
      (not_behind ((front model).goes_on (tt, r.notes)) (λ q. is_there (command_of q)) rest_r m nr (f.apart (tt, r.notes) r.entries))
      (not_behind ((front model).goes_on (tt, s.notes)) (λ q. is_there (command_of q)) rest_s n ns (f.apart (tt, s.notes) s.entries)) in
      let noted : r.notes ≡ s.notes = ap (λ (v : (front model).Value). v.1) fronts in
      let entered : r.entries ≡ s.entries =
      entries_one model names [] (2 + length r.notes) r.entries s.entries m n (All-nil IsCommand) hr.entries hs.entries hr.numbered (subst (λ (l : List Note). AreNumbered model [] (2 + length l) s.entries) (sym noted) hs.numbered)
      (rest_of front_r front_s (rest_r ++ m) (rest_s ++ n) (ap (front model).said fronts) split)
      (only_second ((front model).goes_on (tt, r.notes)) (λ q. is_there (command_of q)) (is_none rest_r) m nr)
      (only_second ((front model).goes_on (tt, s.notes)) (λ q. is_there (command_of q)) (is_none rest_s) n ns) in
      ap (λ l. report_of l r.entries) noted ∙ ap (report_of s.notes) entered
    where
      report_of : List Note → List Entry → Report
      report_of l es = record { notes = l; entries = es }

  -- ---- what is read of it
  pub front_read : (old mid new : Cursor) (ns : List Note) → IsRead model (word Phrase.Head) old mid tt → IsCursor model mid → IsRead model (notes model) mid new ns → IsCursor model new → IsRead model (front model) old new (tt, ns)
  front_read old mid new ns = both_read model names (word Phrase.Head) (notes model) head_behind old mid new tt ns

  abbrev to : (body model).Value → Report
  to v = record { notes = v.0.1; entries = numbered model [] (2 + length v.0.1) v.1 }

  module _ (old mid new : Cursor) (ns : List Note) (es : List Entry) (stands : IsCursor model old) (head : IsRead model (front model) old mid (tt, ns)) (between : IsCursor model mid) (rest : IsRead model (entries_of model) mid new es) (behind : IsCursor model new) where
    body_read : IsRead model (told model) old new (to ((tt, ns), es))
    body_read =
        read_to model names (body model) (told model) to
        (λ v form. record { notes = form.0.1; entries = numbered_for model [] (2 + length v.0.1) v.1 form.1; numbered = numbered_so model [] (2 + length v.0.1) v.1 })
        (λ v. ap (λ l. Phrase.Head ∷ (map Phrase.Note v.0.1 ++ l)) (numbered_said model [] (2 + length v.0.1) v.1))
        (λ v q. ap (λ l. is_there (command_of q) || ((front model).goes_on v.0 q && is_none l)) (numbered_said model [] (2 + length v.0.1) v.1))
        old new ((tt, ns), es) stands
        (λ p f w more tail form is. (((tt, w.notes), w.entries), (((tt, form.notes), form.entries), again w.notes w.entries form.numbered)))
        (both_read model names (front model) (entries_of model) entries_behind old mid new (tt, ns) es head between rest behind)
      where
        again : (l : List Note) (a : List Entry) → AreNumbered model [] (2 + length l) a → to ((tt, l), a) ≡ record { notes = l; entries = a }
        again l a h = ap (λ b. record { notes = l; entries = b }) (numbered_same model [] (2 + length l) a h)

    -- the numbers are those of the lines
    pub told_read : old.number ≡ 1 → AreNumbered model [] mid.number es → IsRead model (told model) old new (record { notes = ns; entries = es })
    told_read one each = by new.ahead refl
      where
        number : (q : Phrase) → new.ahead ≡ Ok q → mid.number ≡ 2 + length ns
        number q f =
            let p = begun_before model names (entries_of model) mid new es q f rest.reading in
            let o = begun_before model names (front model) old mid (tt, ns) p.0 p.1 head.reading in
            let come = come_from model names (front model) old mid (tt, ns) o.0 p.0 o.1 p.1 head.reading between in
            let count : mid.number ≡ old.number + length (Phrase.Head ∷ map Phrase.Note ns) = come.number in
            let long = length-map ns Phrase.Note in
            omega arith

        by : (s : Result Phrase ReportStop) → new.ahead ≡ s → IsRead model (told model) old new (record { notes = ns; entries = es })
        by (Ok q) f =
            subst (λ (l : List Entry). IsRead model (told model) old new (record { notes = ns; entries = l })) (numbered_same model [] (2 + length ns) es (subst (λ k. AreNumbered model [] k es) (number q f) each)) body_read
        by (Err stop) f = any_value model names (told model) old new (to ((tt, ns), es)) (record { notes = ns; entries = es }) stop f body_read
