-- What a line says is asked of the same names in programs of the same names.
use Rattle.std.proofs.Common.{◌≡◌, sym, ap, ◌∙◌, subst, ℕ, ◌<◌, true, List, [], ◌∷◌, ◌++◌, length}
use Rattle.std.specs.Prelude.{All, Result, Ok, Err}
use Rattle.std.proofs.lemmas.List.Elements.{All-weaker}
use Rattle.phrase_reader.specs.Parts.{parts}
use Rattle.lp_model.specs.Program.{Program, IsWellFormed, row_at, noted_column}
use Rattle.lp_model.specs.declared.members.Member.{Member}
use Rattle.lp_model.specs.declared.members.Member.TheVariants.{RowLo, RowUp, Lower, Upper, Whole}
use Rattle.lp_model.specs.MemberSets.{IsMemberFor}
use Rattle.certs.specs.declared.evidence.Source.{Source}
use Rattle.certs.specs.declared.evidence.Source.TheVariants.{Member as Of, Below, Above}
use Rattle.reductions.specs.declared.steps.ReduceStep.{ReduceStep}
use Rattle.reductions.specs.declared.steps.ReduceStep.TheVariants.{Empty, Singleton, Fixed, Redundant, Forcing, Doubleton}
use Rattle.report_text.specs.declared.report.Command.{Command}
use Rattle.report_text.specs.declared.phrases.Phrase.{Phrase}
use Rattle.report_text.specs.declared.phrases.StopPhrase.{StopPhrase}
use Rattle.report_text.specs.Turns.{after}
use Rattle.report_text.specs.Grammar.{Line, column_name, name_of, phrase_line, lines_of}
use Rattle.report_text.specs.Form.{is_word, IsNamedRow, IsNamedColumn, IsNamedMember, IsNamedSource, IsStepFor}
use Rattle.phrase_reader.specs.Phrases.{IsStopPhrase, IsPhraseFor, Says}
use Rattle.report_text.proofs.Unchanged.{same_names, rows_same, columns_same, row_name_same, column_name_same, phrase_line_same, lines_of_same}
use Rattle.report_reader.specs.declared.reader.ReportStop.{ReportStop}
use Rattle.report_reader.specs.declared.reader.ReportStop.TheVariants.{BadLine, Truncated, Memory}
use Rattle.report_reader.specs.declared.cursor.Cursor.{Cursor}
use Rattle.report_reader.specs.Kinds.{Kind, lines_from, IsOutcome, IsReading, IsReadingFrom, IsCursor, IsCursorAt}

-- as many rows and columns, of the same names
record HasNamesOf (a b : Program) : Type 0 where
  pub rows : length a.rows ≡ length b.rows
  pub columns : length a.columns ≡ length b.columns
  pub row : (i : ℕ) → (row_at a i).name ≡ (row_at b i).name
  pub column : (j : ℕ) → column_name a j ≡ column_name b j

module _ (a b : Program) (names : HasNamesOf a b) where
  member_name : (m : Member) → name_of a m ≡ name_of b m
  member_name (RowLo i) = names.row i
  member_name (RowUp i) = names.row i
  member_name (Lower j) = names.column j
  member_name (Upper j) = names.column j
  member_name (Whole j) = names.column j

  column_alike : (j : ℕ) → IsNamedColumn a j → IsNamedColumn b j
  column_alike j h = record { known = subst (λ n. j < n) names.columns h.known; word = subst (λ (w : List ℕ). is_word w ≡ true) (names.column j) h.word }

  row_alike : (i : ℕ) → IsNamedRow a i → IsNamedRow b i
  row_alike i h = record { known = subst (λ n. i < n) names.rows h.known; word = subst (λ (w : List ℕ). is_word w ≡ true) (names.row i) h.word }

  member_alike : (m : Member) → IsNamedMember a m → IsNamedMember b m
  member_alike m h = record {
    known = subst (λ n. IsMemberFor (length b.rows) n m) names.columns (subst (λ n. IsMemberFor n (length a.columns) m) names.rows h.known);
    word = subst (λ (w : List ℕ). is_word w ≡ true) (member_name m) h.word;
  }

  source_alike : (s : Source) → IsNamedSource a s → IsNamedSource b s
  source_alike (Of m) h = member_alike m h
  source_alike (Below j) h = column_alike j h
  source_alike (Above j) h = column_alike j h

  stop_alike : (s : StopPhrase) → IsStopPhrase a s → IsStopPhrase b s
  stop_alike (StopPhrase.Without m) h = member_alike m h
  stop_alike (StopPhrase.Enforced m) h = member_alike m h
  stop_alike (StopPhrase.Branch branch) h = record { named = column_alike branch.column h.named; fits = h.fits }
  stop_alike s h = h

  step_alike : (s : ReduceStep) → IsStepFor a s → IsStepFor b s
  step_alike (Empty i) h = row_alike i h
  step_alike (Singleton i) h = row_alike i h
  step_alike (Fixed j v) h = (column_alike j h.0, h.1)
  step_alike (Redundant i) h = row_alike i h
  step_alike (Forcing i side) h = row_alike i h
  step_alike (Doubleton i j) h = (row_alike i h.0, column_alike j h.1)

  phrase_alike : (p : Phrase) → IsPhraseFor a p → IsPhraseFor b p
  phrase_alike (Phrase.Note note) h = column_alike (noted_column note) h
  phrase_alike (Phrase.Value j v) h = (column_alike j h.0, h.1)
  phrase_alike (Phrase.NotLinear j) h = column_alike j h
  phrase_alike (Phrase.Member m) h = member_alike m h
  phrase_alike (Phrase.Use s) h = record { named = source_alike s.source h.named; positive = h.positive; fits = h.fits }
  phrase_alike (Phrase.Stop s) h = stop_alike s h
  phrase_alike (Phrase.Reduction s) h = step_alike s h
  phrase_alike (Phrase.Split j k) h = (column_alike j h.0, h.1)
  phrase_alike p h = h

  cursor_alike : (s : Result Phrase ReportStop) (c : Cursor) → IsCursorAt a s c → IsCursorAt b s c
  cursor_alike (Ok p) c h = (phrase_alike p h.0, h.1)
  cursor_alike (Err stop) c h = tt

-- ---- the program after commands
module _ (first : Program) (before : List Command) where
  names_before : HasNamesOf (after first before) first
  names_before =
      let same = same_names first before in
      record {
        rows = rows_same first (after first before) same;
        columns = columns_same first (after first before) same;
        row = row_name_same first (after first before) same;
        column = column_name_same first (after first before) same;
      }

  names_after : HasNamesOf first (after first before)
  names_after = record {
    rows = sym names_before.rows;
    columns = sym names_before.columns;
    row = λ i. sym (names_before.row i);
    column = λ j. sym (names_before.column j);
  }

  -- a phrase for the one is one for the other
  pub phrase_before : (p : Phrase) → IsPhraseFor (after first before) p → IsPhraseFor first p
  phrase_before = phrase_alike (after first before) first names_before

  pub phrase_after : (p : Phrase) → IsPhraseFor first p → IsPhraseFor (after first before) p
  phrase_after = phrase_alike first (after first before) names_after

  -- and has the same line
  pub same_line : (p : Phrase) → phrase_line (after first before) p ≡ phrase_line first p
  same_line p = phrase_line_same first (after first before) (same_names first before) p

  pub says_after : (line : Line) (p : Phrase) → Says first line p → Says (after first before) line p
  says_after line p h = record { form = phrase_after p h.form; text = h.text ∙ sym (same_line p) }

  -- ---- cursors
  pub cursor_before : (c : Cursor) → IsWellFormed first → IsCursor (after first before) c → IsCursor first c
  cursor_before c names h = record { names = names; at = cursor_alike (after first before) first names_before c.ahead c h.at }

  pub cursor_after : (c : Cursor) → IsWellFormed (after first before) → IsCursor first c → IsCursor (after first before) c
  cursor_after c names h = record { names = names; at = cursor_alike first (after first before) names_after c.ahead c h.at }

  -- ---- what is read by the program after commands is read so by the first one
  cut_before : (p : Phrase) (rest : List ℕ) (said : List Phrase) (back : List Line) → lines_from (after first before) p rest ≡ lines_of (after first before) said ++ back → lines_from first p rest ≡ lines_of first said ++ back
  cut_before p rest said back e = ap (λ l. l ∷ parts 10 rest) (sym (same_line p)) ∙ e ∙ ap (λ ls. ls ++ back) (lines_of_same first (after first before) (same_names first before) said)

  each_before : (said : List Phrase) → All (IsPhraseFor (after first before)) said → All (IsPhraseFor first) said
  each_before said h = All-weaker (IsPhraseFor (after first before)) (IsPhraseFor first) phrase_before said h

  outcome_before : (K : Kind) (p : Phrase) (rest : List ℕ) (n : ℕ) (value : K.Value) (s : Result Phrase ReportStop) (new : Cursor) → IsOutcome (after first before) K (lines_from (after first before) p rest) n value s new → IsOutcome first K (lines_from first p rest) n value s new
  outcome_before K p rest n value (Ok q) new t = record {
    form = t.form;
    cut = cut_before p rest (K.said value) (lines_from (after first before) q new.rest.now) t.cut ∙ ap (λ l. lines_of first (K.said value) ++ l ∷ parts 10 new.rest.now) (same_line q);
    each = each_before (K.said value) t.each;
    number = t.number;
  }
  outcome_before K p rest n value (Err (BadLine m)) new t = record {
    said = t.said;
    line = t.line;
    back = t.back;
    cut = cut_before p rest t.said (t.line ∷ t.back) t.cut;
    whole = t.whole;
    number = t.number;
    each = each_before t.said t.each;
    right = t.right;
    wrong = λ q says. t.wrong q (says_after t.line q says);
  }
  outcome_before K p rest n value (Err Truncated) new t = record { said = t.said; last = t.last; cut = cut_before p rest t.said (t.last ∷ []) t.cut; each = each_before t.said t.each; right = t.right }
  outcome_before K p rest n value (Err Memory) new t = tt

  pub reading_before : (K : Kind) (old new : Cursor) (value : K.Value) → IsReading (after first before) K old new value → IsReading first K old new value
  reading_before K old new value h = by old.ahead h
    where
      by : (s : Result Phrase ReportStop) → IsReadingFrom (after first before) K s old new value → IsReadingFrom first K s old new value
      by (Ok p) t = outcome_before K p old.rest.now old.number value new.ahead new t
      by (Err stop) t = t
