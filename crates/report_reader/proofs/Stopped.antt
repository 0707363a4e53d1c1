-- What the lines come to: a report, or where they cease to be one.
use Rattle.std.proofs.Common.{◌≡◌, refl, sym, ap, subst, ◌∙◌, ℕ, ◌+◌, false, true≢false, List, [], ◌∷◌, ◌++◌, append_assoc, append-nil, arith, inl, inr}
use Rattle.std.specs.Prelude.{All, MatchResult, Result, Ok, Err}
use Rattle.std.proofs.lemmas.List.{length-append, length-map, map-append}
use Rattle.std.proofs.lemmas.List.Elements.{All-nil, All-head, All-tail}
use Rattle.certs.proofs.Lists.{all_front}
use Rattle.lp_model.specs.Program.{Program, IsWellFormed}
use Rattle.lp_model.specs.declared.parts.Note.{Note}
use Rattle.phrase_reader.specs.Parts.{parts}
use Rattle.phrase_reader.specs.Phrases.{IsPhraseFor, Says}
use Rattle.phrase_reader.proofs.Spelling.{some_parts, text_of_parts}
use Rattle.report_text.specs.declared.report.Entry.{Entry}
use Rattle.report_text.specs.declared.report.Report.{Report}
use Rattle.report_text.specs.declared.phrases.Phrase.{Phrase}
use Rattle.report_text.specs.Grammar.{Line, phrase_line, lines_of, body_phrases, report_phrases, report_lines}
use Rattle.report_text.specs.Form.{AreNumbered}
use Rattle.report_reader.specs.declared.reader.ReportStop.{ReportStop}
use Rattle.report_reader.specs.declared.reader.ReportStop.TheVariants.{BadLine, Truncated, Memory}
use Rattle.report_reader.specs.declared.cursor.Cursor.{Cursor}
use Rattle.report_reader.specs.Reading.{Reads, IsFront, IsWhole, IsJudged, IsBadLine, IsTruncated, IsReportStop}
use Rattle.report_reader.specs.Kinds.{Kind, word, both, IsFrontOf, IsBad, IsCut, IsStop, lines_from, IsPassed, IsOutcome, IsReadingFrom, IsEnded, IsRead, IsAhead, IsCursor, IsLookedAt}
use Rattle.report_reader.specs.Things.{notes}
use Rattle.report_reader.specs.Entries.{entries as entries_of, end_of}
use Rattle.report_reader.proofs.Both.{Follows, phrase_one, front_first, stop_first, stop_second}
use Rattle.report_reader.proofs.Endings.{NotFoot, foot, body_is, body_and_foot, nothing_in_form, whole_ends, needs_foot}
use Rattle.report_reader.proofs.Passing.{come_start, refused, looked_at}
use Rattle.report_reader.proofs.Reports.{told, told_alone, told_read, front_read}
use Rattle.report_reader.proofs.Said.{is_foot, report_for}

module _ (model : Program) (names : IsWellFormed model) where
  -- phrases with the lines of others, and one line more, say these first, and then what that line says
  said_first : (said ps : List Phrase) (line : Line) (back : List Line) → All (IsPhraseFor model) said → All (IsPhraseFor model) ps → lines_of model ps ≡ lines_of model said ++ line ∷ back
      → (q : Phrase) × (tail : List Phrase) × Says model line q × (ps ≡ said ++ q ∷ tail)
  said_first [] [] line back h k e = absurd (cc)
  said_first [] (p ∷ ps) line back h k e = (p, ps, record { form = All-head (IsPhraseFor model) p ps k; text = (let same : phrase_line model p ≡ line = cc in sym same) }, refl)
  said_first (s ∷ said) [] line back h k e = absurd (cc)
  said_first (s ∷ said) (p ∷ ps) line back h k e =
      let first : phrase_line model p ≡ phrase_line model s = cc in
      let behind : lines_of model ps ≡ lines_of model said ++ line ∷ back = cc in
      let same = phrase_one model names (phrase_line model s) p s (record { form = All-head (IsPhraseFor model) p ps k; text = sym first }) (record { form = All-head (IsPhraseFor model) s said h; text = refl }) in
      let t = said_first said ps line back (All-tail (IsPhraseFor model) s said h) (All-tail (IsPhraseFor model) p ps k) behind in
      (t.0, t.1, t.2, ap (λ x. x ∷ ps) same ∙ ap (λ l. s ∷ l) t.3)

  -- ---- a report, its last line with it
  foot_behind : Follows (told model) (word Phrase.Foot)
  foot_behind = record { alone = told_alone model names; some = tt; form = tt; apart = λ r y. refl }

  abbrev whole : Kind
  whole = both (told model) (word Phrase.Foot)

  is_front : (said : List Phrase) → IsFrontOf whole said → IsFront model (lines_of model said)
  is_front said h = (lines_of model h.more, record { report = h.value.0; form = h.form.0; lines = ap (lines_of model) h.is ∙ map-append (phrase_line model) said h.more })

  bad_line : (bytes : List ℕ) (n : ℕ) → IsBad model whole (parts 10 bytes) 1 n → IsBadLine model bytes n
  bad_line bytes n h = record {
    front = lines_of model h.said;
    line = h.line;
    back = h.back;
    cut = h.cut;
    number = (let a = h.number in let b = length-map h.said (phrase_line model) in omega arith);
    judged = inl h.whole;
    right = is_front h.said h.right;
    wrong = λ goes. (
        let r = goes.1.report in
        let t = said_first h.said (report_phrases model r) h.line goes.0 h.each (report_for model r goes.1.form) (goes.1.lines ∙ append_assoc (lines_of model h.said) (h.line ∷ []) goes.0) in
        true≢false (sym (h.wrong t.0 t.2 (r, tt) [] t.1 (goes.1.form, tt) (append-nil (report_phrases model r) ∙ t.3)))
        );
  }

  cut_short : (bytes : List ℕ) → IsCut model (told model) (parts 10 bytes) → IsTruncated model bytes
  cut_short bytes h = record {
    lines = lines_of model h.said;
    last = h.last;
    cut = h.cut;
    right = is_front h.said (front_first model names (told model) (word Phrase.Foot) foot_behind h.said h.right);
    unfinished =
        needs_foot model (lines_of model h.said)
        (all_front NotFoot (lines_of model h.said) (lines_of model h.right.more) (subst (All NotFoot) (ap (lines_of model) h.right.is ∙ map-append (phrase_line model) h.said h.right.more) (body_is model h.right.value h.right.form)));
  }

  -- reading stops before the last line
  stopped : (bytes : List ℕ) (stop : ReportStop) → IsStop model (told model) (parts 10 bytes) 1 stop → IsReportStop model bytes stop
  stopped bytes (BadLine n) h = bad_line bytes n (stop_first model names (told model) (word Phrase.Foot) foot_behind (parts 10 bytes) 1 (BadLine n) h)
  stopped bytes Truncated h = cut_short bytes h
  stopped bytes Memory h = tt

  -- at the first line
  nothing_told : IsFrontOf (told model) []
  nothing_told = record { value = record { notes = []; entries = [] }; form = nothing_in_form model; more = body_phrases model [] []; is = refl }

  stopped_first : (bytes rest : List ℕ) (stop : ReportStop) → IsAhead model 1 bytes (Err stop) rest → IsStop model (told model) (parts 10 bytes) 1 stop
  stopped_first bytes rest (BadLine n) h = record {
    said = [];
    line = h.1.line;
    back = h.1.back;
    cut = h.1.cut;
    whole = h.1.whole;
    number = (let a = h.0 in omega arith);
    each = All-nil (IsPhraseFor model);
    right = nothing_told;
    wrong = λ q says. absurd (h.1.unsaid q says);
  }
  stopped_first bytes rest Truncated h = record { said = []; last = bytes; cut = h; each = All-nil (IsPhraseFor model); right = nothing_told }
  stopped_first bytes rest Memory h = tt

  -- ---- the end
  module _ (bytes : List ℕ) (report : Report) (number : ℕ) where
    -- another line than the last stands there
    no_foot : (q : Phrase) (rest : List ℕ) → IsPassed model (told model) (parts 10 bytes) 1 report (lines_from model q rest) number → IsPhraseFor model q → (told model).goes_on report q ≡ false → is_foot q ≡ false → IsBadLine model bytes number
    no_foot q rest h form off other =
        bad_line bytes number
        (stop_second model names (told model) (word Phrase.Foot) foot_behind (parts 10 bytes) 1 report q rest number h form off (BadLine number)
        (refused model names (word Phrase.Foot) (lines_from model q rest) number [] q rest number (come_start model names q rest number form) (record { value = tt; form = tt; more = Phrase.Foot ∷ []; is = refl })
        (λ done more tail is e. absurd (let same : Phrase.Foot ≡ q = cc in true≢false (ap is_foot same ∙ other)))))

    module _ (rest : List ℕ) (h : IsPassed model (told model) (parts 10 bytes) 1 report (lines_from model Phrase.Foot rest) number) where
      cut : parts 10 bytes ≡ report_lines model report ++ parts 10 rest
      cut =
          h.cut ∙ sym (append_assoc (lines_of model (body_phrases model report.notes report.entries)) (foot ∷ []) (parts 10 rest))
          ∙ ap (λ l. l ++ parts 10 rest) (sym (body_and_foot model report))

      is_whole : IsWhole model (report_lines model report)
      is_whole = record { report = report; form = h.form; lines = sym (append-nil (report_lines model report)) }

      -- bytes stand behind it
      byte_behind : (b : ℕ) (more : List ℕ) → rest ≡ b ∷ more → IsBadLine model bytes (number + 1)
      byte_behind b more some = by (parts 10 rest) refl
        where
          judged : (line : Line) (back : List Line) → parts 10 rest ≡ line ∷ back → IsJudged model (report_lines model report) line back
          judged [] [] e = absurd (let t : rest ≡ [] = text_of_parts rest [] e in cc)
          judged [] (l ∷ back) e = inl (λ z. absurd (cc))
          judged (c ∷ line) back e = inr (is_whole, (λ z. absurd (cc)))

          by : (lines : List Line) → parts 10 rest ≡ lines → IsBadLine model bytes (number + 1)
          by [] e = absurd (some_parts 10 rest e)
          by (line ∷ back) e = record {
            front = report_lines model report;
            line = line;
            back = back;
            cut = cut ∙ ap (λ l. report_lines model report ++ l) e;
            number = (let a = h.number in let b = length-map (report_phrases model report) (phrase_line model) in let c = length-append (body_phrases model report.notes report.entries) (Phrase.Foot ∷ []) in omega arith);
            judged = judged line back e;
            right = ([], is_whole);
            wrong = λ goes. (let z : line ∷ [] ≡ [] = whole_ends model (report_lines model report) (line ∷ []) is_whole goes in absurd (cc));
          }

    at_foot : (rest : List ℕ) → IsPassed model (told model) (parts 10 bytes) 1 report (lines_from model Phrase.Foot rest) number → MatchResult (end_of number (Ok Phrase.Foot) rest report) (Reads model bytes) (IsReportStop model bytes)
    at_foot [] h = record { form = h.form; text = text_of_parts bytes (report_lines model report) (cut [] h) }
    at_foot (b ∷ more) h = byte_behind (b ∷ more) h b more refl

  ended : (bytes : List ℕ) (report : Report) (new : Cursor) (s : Result Phrase ReportStop) → IsLookedAt model s → IsOutcome model (told model) (parts 10 bytes) 1 report s new → IsEnded (told model) report s
      → MatchResult (end_of new.number s new.rest.now report) (Reads model bytes) (IsReportStop model bytes)
  ended bytes report new (Err stop) form h off = stopped bytes stop h
  ended bytes report new (Ok Phrase.Foot) form h off = at_foot bytes report new.number new.rest.now h
  ended bytes report new (Ok q) form h off = no_foot bytes report new.number q new.rest.now h form off refl

  -- what the reader's lines come to
  pub comes_to : (bytes : List ℕ) (start head noted last : Cursor) (ns : List Note) (es : List Entry) → IsAhead model 1 bytes start.ahead start.rest.now → start.number ≡ 1 → IsCursor model start → IsRead model (word Phrase.Head) start head tt → IsCursor model head
      → IsRead model (notes model) head noted ns → IsCursor model noted → IsRead model (entries_of model) noted last es → AreNumbered model [] noted.number es → IsCursor model last → MatchResult (end_of last.number last.ahead last.rest.now (record { notes = ns; entries = es })) (Reads model bytes) (IsReportStop model bytes)
  comes_to bytes start head noted last ns es ahead one at_start headed at_head listed at_notes entered each at_end = by start.ahead refl ahead read.reading
    where
      report : Report
      report = record { notes = ns; entries = es }

      read : IsRead model (told model) start last report
      read = told_read model names start noted last ns es at_start (front_read model names start head noted ns headed at_head listed at_notes) at_notes entered at_end one each

      by : (s : Result Phrase ReportStop) → start.ahead ≡ s → IsAhead model 1 bytes s start.rest.now → IsReadingFrom model (told model) s start last report
          → MatchResult (end_of last.number last.ahead last.rest.now report) (Reads model bytes) (IsReportStop model bytes)
      by (Ok p) e a t =
          ended bytes report last last.ahead (looked_at model last at_end)
          (subst (λ l. IsOutcome model (told model) l 1 report last.ahead last) (sym a.0) (subst (λ n. IsOutcome model (told model) (lines_from model p start.rest.now) n report last.ahead last) one t)) read.ended
      by (Err stop) e a t =
          subst (λ (s : Result Phrase ReportStop). MatchResult (end_of last.number s last.rest.now report) (Reads model bytes) (IsReportStop model bytes)) (sym (ap (λ (z : Cursor). z.ahead) t ∙ e)) (stopped bytes stop (stopped_first bytes start.rest.now stop a))
