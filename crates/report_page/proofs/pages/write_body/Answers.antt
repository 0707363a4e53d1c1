use Rattle.report_page.proofs.Marked.{more, then_more}
use Rattle.report_page.proofs.pages.write_body.Goals as goal

pub returns-clause-written : goal.returns-clause-written
returns-clause-written c =
    then_more _ _ _ c.write_fixed.result
    (more _ _ _ (more _ _ _ (more _ _ _ (more _ _ _ c.in_ok-write_model.ensures c.in_ok-write_overview.ensures.written) c.in_ok-write_counts.ensures) c.in_ok-write_notes.ensures) c.in_ok-write_entries.ensures.written)
    c.write_fixed.ensures
