use Rattle.std.proofs.Common.{sym, ◌∙◌, ap, subst, List, []}
use Rattle.std.proofs.lemmas.Result.{err_from_is_err_and}
use Rattle.lp_model.specs.declared.parts.Note.{Note}
use Rattle.lp_model.specs.Program.{Program}
use Rattle.report_text.specs.declared.report.Entry.{Entry}
use Rattle.cert_check.specs.Trials.{paired_trials, same_note, entries_trials}
use Rattle.cert_check.specs.Stops.{first_stop}
use Rattle.cert_check.specs.Uses.{AreShort}
use Rattle.cert_check.proofs.Firsts.{stop_first, stop_of, says_second, says_of}
use Rattle.cert_check.proofs.Numbers.{report_short}
use Rattle.cert_check.proofs.reports.check_report.Goals as goal

pub returns-in_err-check_notes : goal.returns-in_err-check_notes
returns-in_err-check_notes c =
    let model = c.args.session.now.model in
    let report = c.args.report.now in
    let s = c.in_err-check_notes.field-0.0 in
    let p = err_from_is_err_and c.from_residual.result c.from_residual.ensures.1 in
    rw (p.1, p.2)
    (stop_first (paired_trials same_note 2 report.notes model.notes) (entries_trials model [] report.entries) s
    (stop_of _ _ s
    (ap (λ (l : List Note). first_stop (paired_trials same_note 2 l c.notes.result.now)) c.as_slice.ensures
    ∙ ap (λ (l : List Note). first_stop (paired_trials same_note 2 report.notes l)) (c.notes.ensures ∙ ap (λ (p : Program). p.notes) c.model.ensures))
    c.in_err-check_notes.ensures))

pub check_entries-requires-clause-short : goal.check_entries-requires-clause-short
check_entries-requires-clause-short c =
    subst (λ (l : List Entry). AreShort c.args.session.now.model [] l) (sym c.as_slice-2.ensures)
    (report_short c.args.session.now.model c.args.report.now c.requires.form.numbered c.requires.short)

pub returns : goal.returns
returns c =
    let model = c.args.session.now.model in
    let report = c.args.report.now in
    let notes =
    ap (λ (l : List Note). first_stop (paired_trials same_note 2 l c.notes.result.now)) c.as_slice.ensures
    ∙ ap (λ (l : List Note). first_stop (paired_trials same_note 2 report.notes l)) (c.notes.ensures ∙ ap (λ (p : Program). p.notes) c.model.ensures) in
    says_second (paired_trials same_note 2 report.notes model.notes) (entries_trials model [] report.entries) c.check_entries.result
    (sym notes ∙ c.in_ok-check_notes.ensures)
    (says_of _ _ c.check_entries.result (ap (λ (l : List Entry). first_stop (entries_trials model [] l)) c.as_slice-2.ensures) c.check_entries.ensures)
