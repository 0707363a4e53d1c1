-- What a check makes of a session at an entry.
use Rattle.std.specs.Prelude.{◌≡◌, List, [], ◌∷◌, ◌++◌, Result, OnOk}
use Rattle.lp_model.specs.Program.{Program}
use Rattle.report_text.specs.History.{HistoryValue}
use Rattle.report_text.specs.Session.{session_at}
use Rattle.report_text.specs.declared.report.Command.{Command}
use Rattle.report_text.specs.declared.report.Entry.{Entry}
use Rattle.cert_check.specs.declared.outcome.Stop.{Stop}
use Rattle.cert_check.specs.Trials.{entry_trials}
use Rattle.cert_check.specs.Stops.{first_stop, Says}

-- An entry is checked by the session of any program after any commands: the entry's trials stop the check as is said; and where nothing does, the session is the one after its command too.
pub record Replays (old : HistoryValue) (e : Entry) (result : Result (Unit {0}) Stop) (new : HistoryValue) : Type 0 where
  pub says : (first : Program) (before : List Command) → old ≡ session_at first before → Says (first_stop (entry_trials first before e)) result
  pub goes_on : OnOk result ((first : Program) (before : List Command) → old ≡ session_at first before → new ≡ session_at first (before ++ e.command ∷ []))
