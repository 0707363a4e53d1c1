use Rattle.std.proofs.Common.{sym, ◌∙◌}
use Rattle.report_page.proofs.Turned.{fresh_at}
use Rattle.report_page.proofs.pages.write_overview.Goals as goal

pub returns-clause-back : goal.returns-clause-back
returns-clause-back c =
    let session = c.args.session.now in
    let on = c.write_verdicts-written.ensures.of_program in
    c.rewind.ensures session.model on.before on.at ∙ sym (fresh_at session c.requires.fresh)
