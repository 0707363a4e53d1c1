use Rattle.report_page.proofs.Marked.{more, then_more}
use Rattle.report_page.proofs.objectives.write_bounded.Goals as goal

pub returns : goal.returns
returns c = then_more _ _ _ c.write-2.result (more _ _ _ (more _ _ _ (more _ _ _ (more _ _ _ c.in_ok-write.ensures c.in_ok-write_reached.ensures) c.in_ok-write_fold.ensures) c.in_ok-write_holders.ensures) c.in_ok-write_fixed.ensures) c.write-2.ensures
