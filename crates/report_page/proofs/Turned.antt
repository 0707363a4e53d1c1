-- Entries that are written one after another, each of the program as the commands before it edited it.
use Rattle.std.proofs.Common.{◌≡◌, ap, List, [], ◌∷◌, ◌++◌}
use Rattle.std.specs.Prelude.{All}
use Rattle.std.proofs.lemmas.List.Elements.{All-nil, All-cons}
use Rattle.lp_model.specs.Program.{Program}
use Rattle.report_text.specs.History.{HistoryValue}
use Rattle.report_text.specs.Session.{session_at}
use Rattle.report_text.specs.declared.report.Command.{Command}
use Rattle.report_text.specs.declared.report.Entry.{Entry}
use Rattle.report_text.specs.declared.report.Report.{Report}
use Rattle.report_text.specs.Form.{IsCommand, AreEntriesFor, IsReportFor}

-- ---- the commands of a report in the grammar may be asked
entry_asked : (model : Program) (before : List Command) (entries : List Entry) → AreEntriesFor model before entries → All (λ e. IsCommand e.command) entries
entry_asked model before [] h = All-nil (λ e. IsCommand e.command)
entry_asked model before (e ∷ entries) h = All-cons (λ e. IsCommand e.command) e entries h.0.command (entry_asked model (before ++ e.command ∷ []) entries h.1)

pub commands_asked : (model : Program) (report : Report) → IsReportFor model report → All (λ e. IsCommand e.command) report.entries
commands_asked model report h = entry_asked model [] report.entries h.entries

-- ---- the session
-- one of which nothing was edited yet
pub fresh_at : (session : HistoryValue) → session.formers ≡ [] → session ≡ session_at session.model []
fresh_at session e = ap (λ formers. record { model = session.model; formers = formers }) e
