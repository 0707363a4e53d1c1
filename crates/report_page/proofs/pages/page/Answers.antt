use Rattle.std.proofs.Common.{sym, ◌∙◌, subst, List, ℕ}
use Rattle.std.specs.Prelude.{OnOk}
use Rattle.report_page.specs.Pieces.{IsMarkedUp}
use Rattle.report_page.proofs.Turned.{fresh_at}
use Rattle.report_page.proofs.pages.page.Goals as goal

pub returns-clause-written : goal.returns-clause-written
returns-clause-written c =
    subst (λ (start : List ℕ). OnOk c.write_body-written.result (IsMarkedUp start c.write_body-written.new.into.items)) c.in_ok-write_head.ensures c.write_body-written.ensures.written

pub returns-clause-back : goal.returns-clause-back
returns-clause-back c =
    let session = c.args.session.now in
    let on = c.write_body-written.ensures.of_program in
    c.rewind.ensures session.model on.before on.at ∙ sym (fresh_at session c.requires.fresh)
