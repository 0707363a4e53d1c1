-- The program as commands edit it.
use Rattle.std.specs.Prelude.{◌≡◌, ⊤, ◌<◌, ℕ, Bool, true, false, length, List, [], ◌∷◌, ◌++◌, map, Option, Some, None, Result, Ok, Err}
use Rattle.lp_model.specs.Program.{Program}
use Rattle.lp_model.specs.declared.edits.Edit.{Edit as OneEdit}
use Rattle.lp_model.specs.declared.edits.Former.{Former}
use Rattle.lp_model.specs.Edits.{edited, former_of, put_back}
use Rattle.lp_model.specs.Shown.{row_names, column_names}
use Rattle.report_text.specs.History.{HistoryValue, IsUndone, changes, history_of}
use Rattle.report_text.specs.declared.report.Command.{Command}
use Rattle.report_text.specs.declared.report.NamedEdit.{NamedEdit}
use Rattle.report_text.specs.declared.report.Answer.{Answer}
use Rattle.report_text.specs.declared.report.Answer.TheVariants.{Done, Refused}
use Rattle.report_text.specs.Edits.{named_edit}
use Rattle.report_text.specs.Turns.{after, edits_after, answer_after}
use Rattle.report_text.specs.Grammar.{phrase_line}
use Rattle.report_text.specs.declared.phrases.Phrase.{Phrase}
use Rattle.report_text.specs.declared.session.EditStop.{EditStop}
use Rattle.report_text.specs.declared.session.UndoStop.{UndoStop}

-- the session of a program after commands: the program as they edited it, and what each edit that stands changed
abbrev pub session_at : Program → List Command → HistoryValue
session_at first before = history_of first (edits_after first before)

-- the program that stands where all that was changed is put back
abbrev pub put_all_back : Program → List Former → Program
put_all_back model [] = model
put_all_back model (former ∷ formers) = put_all_back (put_back model former) formers

-- the first program of a session
abbrev pub first_of : HistoryValue → Program
first_of session = put_all_back session.model session.formers

-- a session stands where commands have brought it from its first program
abbrev pub IsSessionAt : HistoryValue → List Command → Type 0
IsSessionAt session before = session ≡ session_at (first_of session) before

-- ---- calls
-- an edit is made, which makes another program; or its name is unknown; or it makes the same program; a refused one changes nothing
abbrev pub EditsBy : HistoryValue → NamedEdit → Result (Unit {0}) EditStop → HistoryValue → Type 0
EditsBy old e (Ok done) new =
    (edit : OneEdit) × ((named_edit old.model e ≡ Some edit) × ((changes old.model edit ≡ true) × (new ≡ record { model = edited old.model edit; formers = former_of old.model edit ∷ old.formers })))
EditsBy old e (Err EditStop.UnknownName) new = (named_edit old.model e ≡ None) × (new ≡ old)
EditsBy old e (Err EditStop.NoChange) new = (edit : OneEdit) × ((named_edit old.model e ≡ Some edit) × ((edited old.model edit ≡ old.model) × (new ≡ old)))

-- a row, or a column, that the program has
abbrev pub IsPlaceIn : Program → Bool → ℕ → Type 0
IsPlaceIn model true i = i < length model.rows
IsPlaceIn model false j = j < length model.columns

-- the last edit that stands is taken back, or there is none
abbrev pub UndoesBy : HistoryValue → Result (Unit {0}) UndoStop → HistoryValue → Type 0
UndoesBy old (Ok done) new = IsUndone old true new
UndoesBy old (Err UndoStop.NothingToUndo) new = IsUndone old false new

-- a command is taken: the session of any program after any commands becomes the one after this command too, and what is answered is what is to be
pub record Takes (old : HistoryValue) (command : Command) (answer : Option Answer) (new : HistoryValue) : Type 0 where
  pub goes_on : (first : Program) (before : List Command) → old ≡ session_at first before → new ≡ session_at first (before ++ command ∷ [])
  pub answers : (first : Program) (before : List Command) → old ≡ session_at first before → answer ≡ answer_after first before command

-- the answer tells that something was done or refused, and has no part
abbrev pub IsReply : Answer → Type 0
IsReply Done = ⊤
IsReply (Refused r) = ⊤
IsReply _ = ⊥

-- all edits are taken back
abbrev pub Rewinds : HistoryValue → HistoryValue → Type 0
Rewinds old new = (first : Program) (before : List Command) → old ≡ session_at first before → new ≡ session_at first []

-- ---- what no edit changes
-- the names of rows and columns, the forms of rows, the objective and its sense, and the notes
pub record SameNames (first model : Program) : Type 0 where
  pub rows : row_names model ≡ row_names first
  pub forms : map (λ r. r.terms) model.rows ≡ map (λ r. r.terms) first.rows
  pub columns : column_names model ≡ column_names first
  pub objective : model.objective ≡ first.objective
  pub maximise : model.maximise ≡ first.maximise
  pub notes : model.notes ≡ first.notes

-- so each phrase has the line that it has by the first program
pub record NamesStandLaw : Type 0 where
  pub same : (first : Program) (before : List Command) → SameNames first (after first before)
  pub lines : (first : Program) (before : List Command) (p : Phrase) → phrase_line (after first before) p ≡ phrase_line first p
