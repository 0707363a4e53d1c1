use Rattle.std.proofs.Common.{◌+◌, ◌<◌, ◌^◌, sym, ◌∙◌, ap, subst, take}
use Rattle.std.proofs.lemmas.Result.{err_from_is_err_and}
use Rattle.std.proofs.lemmas.List.Elements.{All-get_or}
use Rattle.report_text.specs.Form.{IsCommand}
use Rattle.report_text.specs.Session.{session_at}
use Rattle.analysis.specs.Answers.{settings_of}
use Rattle.analysis.specs.Right.{Settings}
use Rattle.analysis.proofs.Sofar.{HasPut, has_more, has_stopped, has_all, few_after, next_front}
use Rattle.analysis.proofs.pieces.put_entries.Goals as goal

pub returns-in_err-unmet : goal.returns-in_err-unmet
returns-in_err-unmet g c =
    let p = err_from_is_err_and c.from_residual.result c.from_residual.ensures.1 in
    let l = c.loop-command in
    let first = c.args.session.now.model in
    rw (p.1, p.2)
    (has_stopped g.W.Sink.faults g.W.Sink.taken c.args.out.now l.out c.put_entry.new.out first c.args.commands.now l.command-index c.command-item.result c.command-item.result (settings_of l.settings) l.some_unmet _ c.loop-command-test.true c.command-item.is l.invariant.put
    (c.in_err-unmet.ensures.put first (take l.command-index c.args.commands.now) l.invariant.stands l.invariant.put.settings_are))

pub loop-command-preserved : goal.loop-command-preserved
loop-command-preserved g c =
    let l = c.loop-command in
    let first = c.args.session.now.model in
    let before = take l.command-index c.args.commands.now in
    record {
      put =
          subst (HasPut g.W.Sink.faults g.W.Sink.taken c.args.out.now c.put_entry.new.out first c.args.commands.now (l.command-index + 1) (settings_of c.after-settings.result)) (sym c.is_either-some_unmet.ensures)
          (has_more g.W.Sink.faults g.W.Sink.taken c.args.out.now l.out c.put_entry.new.out first c.args.commands.now l.command-index c.command-item.result c.command-item.result (settings_of l.settings) (settings_of c.after-settings.result) l.some_unmet c.in_ok-unmet.unmet
          c.loop-command-test.true c.command-item.is l.invariant.put (c.in_ok-unmet.ensures.put first before l.invariant.stands l.invariant.put.settings_are) c.after-settings.ensures);
      stands = c.in_ok-unmet.ensures.goes_on first before l.invariant.stands ∙ ap (session_at first) (sym (next_front c.args.commands.now l.command-index c.command-item.result c.command-item.result c.loop-command-test.true c.command-item.is));
      few = subst (λ (b : Settings). b.budgets.pivots < 2 ^ 63) (sym c.after-settings.ensures) (few_after (settings_of l.settings) c.command-item.result (subst IsCommand (sym c.command-item.is) (All-get_or IsCommand c.args.commands.now l.command-index c.command-item.result c.loop-command-test.true c.requires.built)) l.invariant.few);
    }

pub returns : goal.returns
returns g c =
    let l = c.loop-command in
    has_all g.W.Sink.faults g.W.Sink.taken c.args.out.now l.out l.out c.args.session.now.model c.args.commands.now l.command-index (settings_of l.settings) l.some_unmet c.loop-command-test.false l.invariant.put
