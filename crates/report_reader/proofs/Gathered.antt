-- Entries are read one by one, each for the program after the commands before it.
use Rattle.std.proofs.Common.{◌≡◌, ◌<◌, refl, sym, ap, subst, ◌∙◌, ℕ, Bool, true, false, true≢false, List, [], ◌∷◌, ◌++◌, append_assoc, append-nil, None, arith, ◌⊎◌, inl, inr}
use Rattle.std.specs.Prelude.{All, Result, Ok, Err}
use Rattle.std.proofs.lemmas.List.{append_cancel_left}
use Rattle.std.proofs.lemmas.List.Elements.{All-nil, All-cons, All-push}
use Rattle.lp_model.specs.Program.{Program, IsWellFormed}
use Rattle.report_text.specs.History.{HistoryValue}
use Rattle.report_text.specs.Session.{session_at}
use Rattle.report_text.specs.Turns.{after, entry_commands}
use Rattle.report_text.specs.declared.report.Command.{Command}
use Rattle.report_text.specs.declared.report.Answer.{Answer}
use Rattle.report_text.specs.declared.report.Entry.{Entry}
use Rattle.report_text.specs.declared.phrases.Phrase.{Phrase}
use Rattle.report_text.specs.Grammar.{answer_phrases, entry_phrases, entries_phrases}
use Rattle.report_text.specs.Form.{IsCommand, IsEntryFor, AreEntriesFor, AreNumbered, can_answer}
use Rattle.report_text.proofs.InTurn.{commands_push, gathered-push, AllEntries-push, numbered-push}
use Rattle.report_text.proofs.Standing.{after_well_formed}
use Rattle.report_reader.specs.declared.reader.ReportStop.{ReportStop}
use Rattle.report_reader.specs.declared.reader.ReportStop.TheVariants.{Memory}
use Rattle.report_reader.specs.declared.cursor.Cursor.{Cursor}
use Rattle.report_reader.specs.Kinds.{Kind, word, both, begins, is_there, lines_from, IsFrontOf, IsWrong, IsOutcome, IsReading, IsReadingFrom, IsEnded, IsRead, IsCursor, IsCursorAt, Passes, Pushes}
use Rattle.report_reader.specs.Things.{found, command_of, answer}
use Rattle.report_reader.specs.Entries.{entries as entries_of, IsTaken, StaysOn}
use Rattle.report_reader.proofs.Answered.{answer_alone}
use Rattle.report_reader.proofs.Alike.{cursor_before, cursor_after, reading_before}
use Rattle.report_reader.proofs.Both.{both_read}
use Rattle.report_reader.proofs.Parts.{never_on, behind_word}
use Rattle.report_reader.proofs.Passing.{Comes, ComesFrom, comes_start, comes_before, comes_to, comes_whole, comes_stopped, comes_more, one_ahead, word_read, room, room_read, room_some}
use Rattle.report_reader.proofs.Refusals.{some_answer, some_form}
use Rattle.report_reader.proofs.Replayed.{fresh_at, stays_same, stays_more}

-- the entry of a command behind these ones
abbrev entry_of : Program → List Entry → Command → Kind
entry_of first es c = both (word (Phrase.Command c)) (answer (after first (entry_commands es)) c)

-- what is read of it
abbrev pub read_entry : Command → Answer → ℕ → Entry
read_entry c a n = record { command = c; answer = a; line = n }

-- whether a phrase goes on with entries
abbrev on : Phrase → Bool
on q = is_there (command_of q)

-- other entries, behind commands, say what is left before the end of both
abbrev LeftBehind : Program → List Command → List Phrase → List Phrase → Type 0
LeftBehind first commands m rest = (left : List Entry) × (AreEntriesFor first commands left × (entries_phrases first commands left ++ m ≡ rest))

-- what the loop keeps
pub record ReadsEntries (start session : HistoryValue) (old mid : Cursor) (es : List Entry) : Type 0 where
  pub stands : IsCursor start.model mid
  pub formed : IsWellFormed session.model
  pub came : Comes start.model (entries_of start.model) old mid (entries_phrases start.model [] es)
  pub numbered : AreNumbered start.model [] old.number es
  pub stays : StaysOn start session
  pub grown : (q : Phrase) → mid.ahead ≡ Ok q → AreEntriesFor start.model [] es × (session ≡ session_at start.model (entry_commands es))

-- entries that say the same are alike up to their lines
pub entry_same : (model : Program) → IsWellFormed model → (x y : Entry) (m n : List Phrase) → IsEntryFor model x → IsEntryFor model y → entry_phrases model x ++ m ≡ entry_phrases model y ++ n → (x.command ≡ y.command) × ((x.answer ≡ y.answer) × (m ≡ n))
entry_same model names x y m n hx hy e =
    let first : Phrase.Command x.command ≡ Phrase.Command y.command = cc in
    let command : x.command ≡ y.command = cc in
    let behind : answer_phrases model x.answer ++ m ≡ answer_phrases model y.answer ++ n = cc in
    let same = answer_alone model names y.command x.answer y.answer m n (hx.answer, ap (λ c. can_answer c x.answer) (sym command) ∙ hx.kind) (hy.answer, hy.kind) behind (never_on m) (never_on n) in
    (command, (same, append_cancel_left (answer_phrases model y.answer) m n (ap (λ a. answer_phrases model a ++ m) (sym same) ∙ behind)))

module _ (first : Program) where
  commands_known : (before : List Command) (es : List Entry) → AreEntriesFor first before es → All IsCommand (entry_commands es)
  commands_known before [] h = All-nil IsCommand
  commands_known before (x ∷ es) h = All-cons IsCommand x.command (entry_commands es) h.0.command (commands_known (before ++ x.command ∷ []) es h.1)

module _ (first : Program) (names : IsWellFormed first) where
  -- Entries that say what others say and more have these first, up to their lines.
  entries_left : (before : List Command) (es all : List Entry) (m rest : List Phrase) → All IsCommand before → AreEntriesFor first before es → AreEntriesFor first before all → entries_phrases first before all ++ m ≡ entries_phrases first before es ++ rest
      → begins on m ≡ false → LeftBehind first (before ++ entry_commands es) m rest
  entries_left before [] all m rest known h k e off = subst (λ b. LeftBehind first b m rest) (sym (append-nil before)) (all, (k, e))
  entries_left before (x ∷ es) [] m rest known h k e off = absurd (true≢false (sym (ap (begins on) e) ∙ off))
  entries_left before (x ∷ es) (y ∷ all) m rest known h k e off =
      let model = after first before in
      let mine = entries_phrases first (before ++ x.command ∷ []) es ++ rest in
      let same = entry_same model (after_well_formed first before names known) y x (entries_phrases first (before ++ y.command ∷ []) all ++ m) mine k.0 h.0
      (sym (append_assoc (entry_phrases model y) (entries_phrases first (before ++ y.command ∷ []) all) m) ∙ e ∙ append_assoc (entry_phrases model x) (entries_phrases first (before ++ x.command ∷ []) es) rest) in
      subst (λ b. LeftBehind first b m rest) (append_assoc before (x.command ∷ []) (entry_commands es))
      (entries_left (before ++ x.command ∷ []) es all m rest (All-push IsCommand before x.command known h.0.command) h.1 (subst (λ c. AreEntriesFor first (before ++ c ∷ []) all) same.0 k.1)
      (ap (λ c. entries_phrases first (before ++ c ∷ []) all ++ m) (sym same.0) ∙ same.1.1) off)

  -- ---- an entry more
  module _ (es : List Entry) (h : AreEntriesFor first [] es) (c : Command) (known : IsCommand c) where
    right : (front : List Phrase) → (front ≡ []) ⊎ ((tail : List Phrase) × (front ≡ Phrase.Command c ∷ tail)) → IsFrontOf (entry_of first es c) front → IsFrontOf (entries_of first) (entries_phrases first [] es ++ front)
    right front starts t =
        let e = read_entry c t.value.1 0 in
        record {
          value = es ++ e ∷ [];
          form = AllEntries-push (λ before e. IsEntryFor (after first before) e) [] es e h (record { command = known; kind = t.form.1.1; answer = t.form.1.0 });
          more = t.more;
          is = gathered-push (λ before e. entry_phrases (after first before) e) [] es e ∙ ap (λ l. entries_phrases first [] es ++ l) t.is ∙ sym (append_assoc (entries_phrases first [] es) front t.more);
        }

    wrong : (front : List Phrase) (r : Phrase) → ((tail : List Phrase) → (more : List Phrase) × (front ++ r ∷ tail ≡ Phrase.Command c ∷ more)) → IsWrong (entry_of first es c) front r → IsWrong (entries_of first) (entries_phrases first [] es ++ front) r
    wrong front r head w all more rest form e = by (begins on more) refl
      where
        ends : (left : List Entry) → AreEntriesFor first (entry_commands es) left → entries_phrases first (entry_commands es) left ++ more ≡ front ++ r ∷ rest → begins on more ≡ false → ⊥
        ends [] k said off = true≢false (sym (ap (begins on) (said ∙ (head rest).1)) ∙ off)
        ends (v ∷ left) k said off =
            let behind = entries_phrases first (entry_commands es ++ v.command ∷ []) left ++ more in
            let split : entry_phrases (after first (entry_commands es)) v ++ behind ≡ front ++ r ∷ rest = sym (append_assoc (entry_phrases (after first (entry_commands es)) v) (entries_phrases first (entry_commands es ++ v.command ∷ []) left) more) ∙ said in
            let starts : Phrase.Command v.command ∷ (answer_phrases (after first (entry_commands es)) v.answer ++ behind) ≡ Phrase.Command c ∷ (head rest).0 = split ∙ (head rest).1 in
            let begun : Phrase.Command v.command ≡ Phrase.Command c = cc in
            let same : v.command ≡ c = cc in
            true≢false (sym (w (tt, v.answer) behind rest (tt, (k.0.answer, ap (λ c. can_answer c v.answer) (sym same) ∙ k.0.kind))
            (ap (λ c. Phrase.Command c ∷ (answer_phrases (after first (entry_commands es)) v.answer ++ behind)) (sym same) ∙ split)) ∙ never_on behind)

        by : (b : Bool) → begins on more ≡ b → begins on more ≡ true
        by true f = f
        by false f =
            let t = entries_left [] es all more (front ++ r ∷ rest) (All-nil IsCommand) h form (e ∙ append_assoc (entries_phrases first [] es) front (r ∷ rest)) f in
            absurd (ends t.0 t.1.0 t.1.1 f)

-- ---- the loop
module _ (start : HistoryValue) (fresh : start.formers ≡ []) where
  pub entries_start : (old : Cursor) → IsCursor start.model old → ReadsEntries start start old old []
  entries_start old c = record {
    stands = c;
    formed = c.names;
    came = comes_start start.model c.names (entries_of start.model) old c;
    numbered = tt;
    stays = stays_same start;
    grown = λ q f. (tt, fresh_at start fresh);
  }

  module _ (session : HistoryValue) (old mid : Cursor) (es : List Entry) (h : ReadsEntries start session old mid es) where
    -- what is next is asked of the program as it is edited
    pub entries_stand : IsCursor session.model mid
    entries_stand =
        let now = h.stays start.model [] (fresh_at start fresh) in
        let is : session.model ≡ after start.model now.0 = ap (λ (s : HistoryValue). s.model) now.1 in
        subst (λ m. IsCursor m mid) (sym is) (cursor_after start.model now.0 mid (subst IsWellFormed is h.formed) h.stands)

    pub entries_end : found command_of mid.ahead ≡ None → IsRead start.model (entries_of start.model) old mid es
    entries_end none = by mid.ahead refl
      where
        by : (s : Result Phrase ReportStop) → mid.ahead ≡ s → IsRead start.model (entries_of start.model) old mid es
        by (Ok q) f = record {
          reading = comes_whole start.model h.stands.names (entries_of start.model) old mid es (h.grown q f).0 h.came;
          ended = subst (IsEnded (entries_of start.model) es) (sym f) (ap is_there (subst (λ s. found command_of s ≡ None) f none));
        }
        by (Err stop) f = record { reading = comes_stopped start.model h.stands.names (entries_of start.model) old mid (entries_phrases start.model [] es) es stop f h.came; ended = subst (IsEnded (entries_of start.model) es) (sym f) tt }

    module _ (c : Command) (f : mid.ahead ≡ Ok (Phrase.Command c)) where
      pub command_known : IsCommand c
      command_known = (subst (λ s. IsCursorAt start.model s mid) f h.stands.at).0

      begun : (p : Phrase) × (old.ahead ≡ Ok p)
      begun = comes_before start.model h.stands.names (entries_of start.model) old mid (entries_phrases start.model [] es) (Phrase.Command c) f h.came

      here : session.model ≡ after start.model (entry_commands es)
      here = ap (λ (s : HistoryValue). s.model) (h.grown (Phrase.Command c) f).1

      -- the program stays well formed
      formed_on : (further : HistoryValue) → IsTaken session c further → IsWellFormed further.model
      formed_on further taken =
          let g = h.grown (Phrase.Command c) f in
          subst (λ (s : HistoryValue). IsWellFormed s.model) (sym (taken.1.goes_on start.model (entry_commands es) g.1))
          (after_well_formed start.model (entry_commands es ++ c ∷ []) h.stands.names (All-push IsCommand (entry_commands es) c (commands_known start.model [] es g.0) command_known))

      -- memory is refused
      pub entries_refused : (new : Cursor) → IsRead start.model (entries_of start.model) old (record new { ahead = Err Memory }) es
      entries_refused new = record { reading = subst (λ s. IsReadingFrom start.model (entries_of start.model) s old (record new { ahead = Err Memory }) es) (sym begun.1) tt; ended = tt }

      stopped : (new : Cursor) (further : HistoryValue) → IsTaken session c further → ReadsEntries start further old (record new { ahead = Err Memory }) es
      stopped new further taken = record {
        stands = record { names = h.stands.names; at = tt };
        formed = formed_on further taken;
        came = subst (λ s. ComesFrom start.model (entries_of start.model) s old (record new { ahead = Err Memory }) (entries_phrases start.model [] es)) (sym begun.1) tt;
        numbered = h.numbered;
        stays = stays_more start session further c h.stays taken;
        grown = λ q e. absurd (cc);
      }

      -- what is behind the command is read as an answer
      module _ (a : Answer) (next new : Cursor) (passes : Passes session.model true mid next) (stands : IsCursor session.model next) (read : IsRead session.model (answer session.model c) next new a) (behind : IsCursor session.model new) where
        entry_stands : IsCursor start.model new
        entry_stands = cursor_before start.model (entry_commands es) new h.stands.names (subst (λ m. IsCursor m new) here behind)

        -- the entry is read by the program as it is edited, and so by the first one
        entry_read : IsReading start.model (entry_of start.model es c) mid new (tt, a)
        entry_read =
            reading_before start.model (entry_commands es) (entry_of start.model es c) mid new (tt, a)
            (subst (λ m. IsReading m (both (word (Phrase.Command c)) (answer m c)) mid new (tt, a)) here
            (both_read session.model h.formed (word (Phrase.Command c)) (answer session.model c) (behind_word session.model h.formed (Phrase.Command c) (answer session.model c) (some_answer c) (some_form session.model c)) mid next new tt a
            (word_read session.model h.formed (Phrase.Command c) true mid next (λ e q g. one_ahead q (Phrase.Command c) (sym g ∙ f)) (λ e g. true≢false e) entries_stand passes) stands read behind).reading)

        entry_form : (q : Phrase) → new.ahead ≡ Ok q → IsEntryFor (after start.model (entry_commands es)) (read_entry c a mid.number)
        entry_form q g =
            let outcome = subst (λ s. IsReadingFrom start.model (entry_of start.model es c) s mid new (tt, a)) f entry_read in
            let passed = subst (λ s. IsOutcome start.model (entry_of start.model es c) (lines_from start.model (Phrase.Command c) mid.rest.now) mid.number (tt, a) s new) g outcome in
            record { command = command_known; kind = passed.form.1.1; answer = passed.form.1.0 }

        more : (further : HistoryValue) → IsTaken session c further → ReadsEntries start further old new (es ++ read_entry c a mid.number ∷ [])
        more further taken =
            let g = h.grown (Phrase.Command c) f in
            let e = read_entry c a mid.number in
            record {
              stands = entry_stands;
              formed = formed_on further taken;
              came =
                  subst (Comes start.model (entries_of start.model) old new) (sym (gathered-push (λ before e. entry_phrases (after start.model before) e) [] es e))
                  (comes_more start.model h.stands.names (entries_of start.model) (entry_of start.model es c) (entries_phrases start.model [] es) (Phrase.Command c)
                  (right start.model h.stands.names es g.0 c command_known) (wrong start.model h.stands.names es g.0 c command_known) old mid new (tt, a) entry_stands h.came f entry_read);
              numbered = numbered-push start.model [] old.number es e h.numbered (comes_to start.model h.stands.names (entries_of start.model) old mid (entries_phrases start.model [] es) begun.0 (Phrase.Command c) begun.1 f h.came).number;
              stays = stays_more start session further c h.stays taken;
              grown = λ q ahead. (AllEntries-push (λ before e. IsEntryFor (after start.model before) e) [] es e g.0 (entry_form q ahead), taken.1.goes_on start.model (entry_commands es) g.1 ∙ ap (session_at start.model) (sym (commands_push es e)));
            }

        -- it is pushed, or memory is refused; and fewer lines are left
        pub entries_pushed : (further : HistoryValue) (last : Cursor) (all : List Entry) → IsTaken session c further → Pushes new es (read_entry c a mid.number) last all → ReadsEntries start further old last all × (room last.ahead last.number < room mid.ahead mid.number)
        entries_pushed further last all taken pushes = elim pushes [
          | inl p ↦ subst (λ (z : Cursor). ReadsEntries start further old z all × (room z.ahead z.number < room mid.ahead mid.number)) (sym p.0)
              (subst (ReadsEntries start further old new) (sym p.1) (more further taken), room_read start.model h.stands.names (entry_of start.model es c) mid new (tt, a) (Phrase.Command c) f h.stands entry_stands (omega arith) entry_read)
          | inr p ↦ subst (λ (z : Cursor). ReadsEntries start further old z all × (room z.ahead z.number < room mid.ahead mid.number)) (sym p.0)
              (subst (ReadsEntries start further old (record new { ahead = Err Memory })) (sym p.1) (stopped new further taken), room_some start.model h.stands.names mid (Phrase.Command c) f h.stands)
        ]
