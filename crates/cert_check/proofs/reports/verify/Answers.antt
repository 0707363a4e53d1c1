use Rattle.std.proofs.Common.{◌≡◌, ◌⊎◌, sym, ◌∙◌, ap, subst, inr, List, [], None}
use Rattle.lp_model.specs.Program.{Program}
use Rattle.report_text.specs.History.{HistoryValue, history_of}
use Rattle.report_text.specs.declared.report.Entry.{Entry}
use Rattle.report_text.specs.declared.report.Report.{Report}
use Rattle.cert_check.specs.declared.outcome.Stop.{Stop}
use Rattle.cert_check.specs.declared.outcome.Outcome.{Outcome}
use Rattle.cert_check.specs.declared.outcome.Outcome.TheVariants.{Accepted, Memory}
use Rattle.cert_check.specs.Trials.{trials, settled_count, unsettled_count, outcome_of, IsAccepted}
use Rattle.cert_check.specs.Stops.{first_stop, IsStop}
use Rattle.cert_check.proofs.Ended.{ends_as, outcome_is, stop_is}
use Rattle.cert_check.proofs.reports.verify.Goals as goal

-- what the check says of the program of the session, it says of the program that was given
told : (model : Program) (report : Report) (session : HistoryValue) (entries : List Entry) (o : Outcome) → session ≡ history_of model [] → first_stop (trials session.model report) ≡ None
    → entries ≡ report.entries → o ≡ Accepted (settled_count entries) (unsettled_count entries) → o ≡ outcome_of report.entries (trials model report)
told model report session entries o started h same is =
    let passes : first_stop (trials model report) ≡ None = subst (λ p. first_stop (trials p report) ≡ None) (ap (λ (v : HistoryValue). v.model) started) h in
    is ∙ ap (λ (l : List Entry). Accepted (settled_count l) (unsettled_count l)) same ∙ sym (outcome_is report.entries (trials model report) ∙ ap (ends_as report.entries) passes)

stops_of : (model : Program) (report : Report) (session : HistoryValue) (s : Stop) → session ≡ history_of model [] → IsStop (first_stop (trials session.model report)) s → IsStop (first_stop (trials model report)) s
stops_of model report session s started h = subst (λ p. IsStop (first_stop (trials p report)) s) (ap (λ (v : HistoryValue). v.model) started) h

pub returns-in-Ok-clause-said : goal.returns-in-Ok-clause-said
returns-in-Ok-clause-said c = inr (told c.args.model c.args.report c.new-session.result c.as_slice.result.now c.accepted.result c.new-session.ensures c.in-Ok.ensures c.as_slice.ensures c.accepted.ensures)

pub returns-in-Ok-clause-notes : goal.returns-in-Ok-clause-notes
returns-in-Ok-clause-notes c = λ a.
    let is = told c.args.model c.args.report c.new-session.result c.as_slice.result.now c.accepted.result c.new-session.ensures c.in-Ok.ensures c.as_slice.ensures c.accepted.ensures in
    (c.accepted_reports_are_true.ensures c.args.model c.args.report c.row_count-rows.ensures.well_formed c.requires.form (subst IsAccepted is a)).0

pub returns-in-Ok-clause-true_answers : goal.returns-in-Ok-clause-true_answers
returns-in-Ok-clause-true_answers c = λ a.
    let is = told c.args.model c.args.report c.new-session.result c.as_slice.result.now c.accepted.result c.new-session.ensures c.in-Ok.ensures c.as_slice.ensures c.accepted.ensures in
    (c.accepted_reports_are_true.ensures c.args.model c.args.report c.row_count-rows.ensures.well_formed c.requires.form (subst IsAccepted is a)).1

pub returns-clause-said : goal.returns-clause-said
returns-clause-said c =
    let report = c.args.report in
    subst (λ (o : Outcome). (o ≡ Memory) ⊎ (o ≡ outcome_of report.entries (trials c.args.model report))) (sym c.ending_of.ensures)
    (stop_is report.entries (trials c.args.model report) c.in-Err.stop (stops_of c.args.model report c.new-session.result c.in-Err.stop c.new-session.ensures c.in-Err.ensures))

pub returns-in-Ok-clause-settled : goal.returns-in-Ok-clause-settled
returns-in-Ok-clause-settled c = λ _. c.accepted.ensures ∙ ap (λ (l : List Entry). Accepted (settled_count l) (unsettled_count l)) c.as_slice.ensures
