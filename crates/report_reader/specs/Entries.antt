-- Entries that are read, the end of a report, and the session in which this is done.
use Rattle.std.specs.Prelude.{◌≡◌, ◌+◌, ℕ, List, [], ◌∷◌, Option, Result, Ok, Err}
use Rattle.lp_model.specs.Program.{Program}
use Rattle.report_text.specs.History.{HistoryValue}
use Rattle.report_text.specs.Session.{session_at, Takes as TakesCommand}
use Rattle.report_text.specs.declared.report.Command.{Command}
use Rattle.report_text.specs.declared.report.Answer.{Answer}
use Rattle.report_text.specs.declared.report.Entry.{Entry}
use Rattle.report_text.specs.declared.report.Report.{Report}
use Rattle.report_text.specs.declared.phrases.Phrase.{Phrase}
use Rattle.report_text.specs.Grammar.{entries_phrases}
use Rattle.report_text.specs.Form.{AreEntriesFor}
use Rattle.report_reader.specs.declared.reader.ReportStop.{ReportStop}
use Rattle.report_reader.specs.declared.reader.ReportStop.TheVariants.{BadLine}
use Rattle.report_reader.specs.Kinds.{Kind, is_there}
use Rattle.report_reader.specs.Things.{command_of}

-- entries, whatever the numbers of their lines
abbrev pub entries : Program → Kind
entries first = record { Value = List Entry; IsFor = AreEntriesFor first []; said = entries_phrases first []; goes_on = λ es q. is_there (command_of q) }

-- what the next line, and the bytes behind it, have come to: the report, where its last line stands there and nothing is behind it
abbrev pub end_of : ℕ → Result Phrase ReportStop → List ℕ → Report → Result Report ReportStop
end_of n (Ok Phrase.Foot) [] report = Ok report
end_of n (Ok Phrase.Foot) (b ∷ rest) report = Err (BadLine (n + 1))
end_of n (Ok q) rest report = Err (BadLine n)
end_of n (Err stop) rest report = Err stop

-- where commands have brought a session, it stands afterwards where some commands bring it
abbrev pub StaysOn : HistoryValue → HistoryValue → Type 0
StaysOn old new = (first : Program) (before : List Command) → old ≡ session_at first before → (now : List Command) × (new ≡ session_at first now)

-- a command is taken, whatever is answered to it
abbrev pub IsTaken : HistoryValue → Command → HistoryValue → Type 0
IsTaken old command new = (answer : Option Answer) × TakesCommand old command answer new
