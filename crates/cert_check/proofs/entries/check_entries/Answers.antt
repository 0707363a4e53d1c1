use Rattle.std.proofs.Common.{sym, ◌∙◌, ap, subst, [], take}
use Rattle.std.proofs.lemmas.Result.{err_from_is_err_and}
use Rattle.lp_model.specs.Program.{Program}
use Rattle.report_text.specs.History.{HistoryValue}
use Rattle.report_text.specs.Session.{session_at}
use Rattle.report_text.specs.Form.{IsEntryFor}
use Rattle.report_text.specs.Turns.{after, entry_commands}
use Rattle.report_text.proofs.InTurn.{AllEntries-at}
use Rattle.cert_check.specs.Uses.{IsShort}
use Rattle.cert_check.proofs.Firsts.{stop_of}
use Rattle.cert_check.proofs.Entered.{entry_stops, entry_passes, commands_more}
use Rattle.cert_check.proofs.entries.check_entries.Goals as goal

pub check_entry-requires-clause-form : goal.check_entry-requires-clause-form
check_entry-requires-clause-form c =
    let first = c.args.session.now.model in
    let i = c.loop-entry.entry-index in
    let e = c.entry-item.result in
    subst (λ (p : Program). IsEntryFor p e) (sym (ap (λ (v : HistoryValue). v.model) c.loop-entry.invariant.at))
    (subst (IsEntryFor (after first (entry_commands (take i c.args.entries.now)))) (sym c.entry-item.is)
    (AllEntries-at (λ front x. IsEntryFor (after first front) x) [] c.args.entries.now i e c.requires.form c.loop-entry-test.true))

pub check_entry-requires-clause-short : goal.check_entry-requires-clause-short
check_entry-requires-clause-short c =
    let first = c.args.session.now.model in
    let i = c.loop-entry.entry-index in
    let e = c.entry-item.result in
    subst (λ (p : Program). IsShort p e) (sym (ap (λ (v : HistoryValue). v.model) c.loop-entry.invariant.at))
    (subst (IsShort (after first (entry_commands (take i c.args.entries.now)))) (sym c.entry-item.is)
    (AllEntries-at (λ front x. IsShort (after first front) x) [] c.args.entries.now i e c.requires.short c.loop-entry-test.true))

pub returns-in_err-check_entry : goal.returns-in_err-check_entry
returns-in_err-check_entry c =
    let first = c.args.session.now.model in
    let i = c.loop-entry.entry-index in
    let s = c.in_err-check_entry.field-0.0 in
    let p = err_from_is_err_and c.from_residual.result c.from_residual.ensures.1 in
    rw (p.1, p.2)
    (stop_of _ _ s c.loop-entry.invariant.rest
    (entry_stops first c.args.entries.now i c.entry-item.result c.loop-entry-test.true c.entry-item.is s (c.in_err-check_entry.ensures.replays.says first (entry_commands (take i c.args.entries.now)) c.loop-entry.invariant.at)))

pub loop-entry-preserved : goal.loop-entry-preserved
loop-entry-preserved c =
    let first = c.args.session.now.model in
    let i = c.loop-entry.entry-index in
    let entries = c.args.entries.now in
    let front = entry_commands (take i entries) in
    let e = c.entry-item.result in
    let replays = c.in_ok-check_entry.ensures.replays in
    record {
      at = replays.goes_on first front c.loop-entry.invariant.at ∙ ap (session_at first) (commands_more first entries i e c.loop-entry-test.true c.entry-item.is);
      kept = c.in_ok-check_entry.ensures.kept first front c.loop-entry.invariant.at;
      rest = entry_passes first entries i e c.loop-entry-test.true c.entry-item.is (replays.says first front c.loop-entry.invariant.at) ∙ c.loop-entry.invariant.rest;
    }
