use Rattle.std.proofs.Common.{sym, subst}
use Rattle.std.specs.Prelude.{MatchResult, Result}
use Rattle.std.proofs.lemmas.Result.{MatchResult-weaker}
use Rattle.lp_model.specs.Program.{Program, IsWellFormed}
use Rattle.report_text.specs.declared.report.Report.{Report}
use Rattle.report_text.specs.declared.phrases.Phrase.{Phrase}
use Rattle.report_reader.specs.declared.reader.ReportStop.{ReportStop}
use Rattle.report_reader.specs.Reading.{Reads, IsReportStop}
use Rattle.report_reader.specs.Kinds.{word, IsAhead, IsCursor, IsRead}
use Rattle.report_reader.specs.Things.{notes}
use Rattle.report_reader.proofs.OneReport.{one_report}
use Rattle.report_reader.proofs.Stopped.{comes_to}
use Rattle.report_reader.proofs.reader.read_lines.Goals as goal

come : (c : goal.After-end) → MatchResult c.end.result (Reads c.args.session.now.model c.args.bytes.now) (IsReportStop c.args.session.now.model c.args.bytes.now)
come c =
    let start = subst (λ (m : Program). IsCursor m c.new-cursor.result) c.model.ensures c.new-cursor.ensures.stands in
    subst (λ (r : Result Report ReportStop). MatchResult r (Reads c.args.session.now.model c.args.bytes.now) (IsReportStop c.args.session.now.model c.args.bytes.now)) (sym c.end.ensures)
    (comes_to c.args.session.now.model start.names c.args.bytes.now c.new-cursor.result c.pass_word.new.self c.read_notes-notes.new.cursor c.read_entries-entries.new.cursor c.read_notes-notes.result c.read_entries-entries.result
    (subst (λ (m : Program). IsAhead m 1 c.args.bytes.now c.new-cursor.result.ahead c.new-cursor.result.rest.now) c.model.ensures c.new-cursor.ensures.ahead) c.new-cursor.ensures.number start
    (subst (λ (m : Program). IsRead m (word Phrase.Head) c.new-cursor.result c.pass_word.new.self tt) c.model-2.ensures c.pass_word.ensures.read)
    (subst (λ (m : Program). IsCursor m c.pass_word.new.self) c.model-2.ensures c.pass_word.ensures.stands)
    (subst (λ (m : Program). IsRead m (notes m) c.pass_word.new.self c.read_notes-notes.new.cursor c.read_notes-notes.result) c.model-3.ensures c.read_notes-notes.ensures.read)
    (subst (λ (m : Program). IsCursor m c.read_notes-notes.new.cursor) c.model-3.ensures c.read_notes-notes.ensures.stands)
    c.read_entries-entries.ensures.read c.read_entries-entries.ensures.numbered c.read_entries-entries.ensures.looked)

pub returns-clause-read : goal.returns-clause-read
returns-clause-read c = MatchResult-weaker c.end.result (come c) (λ report h. h) (λ stop h. tt)

pub returns-clause-one : goal.returns-clause-one
returns-clause-one c =
    MatchResult-weaker c.end.result (come c)
    (λ report h other read. one_report c.args.session.now.model c.args.bytes.now other report (subst IsWellFormed c.model.ensures c.new-cursor.ensures.stands.names) read h) (λ stop h. tt)

pub returns-clause-stop : goal.returns-clause-stop
returns-clause-stop c = MatchResult-weaker c.end.result (come c) (λ report h. tt) (λ stop h. h)
