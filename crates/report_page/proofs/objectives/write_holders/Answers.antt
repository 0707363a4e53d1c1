use Rattle.report_page.proofs.Marked.{more, then_more}
use Rattle.report_page.proofs.objectives.write_holders.Goals as goal

pub loop-share-preserved : goal.loop-share-preserved
loop-share-preserved c = more _ _ _ (more _ _ _ (more _ _ _ c.loop-share.invariant c.in_ok-write_holder.ensures) c.in_ok-write_taken.ensures) c.in_ok-write_fixed-2.ensures

pub returns : goal.returns
returns c = then_more _ _ _ c.write_fixed-2.result c.loop-share.invariant c.write_fixed-2.ensures
