use Rattle.report_page.proofs.Marked.{more, then_more}
use Rattle.report_page.proofs.cases.write_sum.Goals as goal

pub loop-share-preserved : goal.loop-share-preserved
loop-share-preserved c = more _ _ _ (more _ _ _ (more _ _ _ c.loop-share.invariant c.in_ok-write.ensures) c.in_ok-write_source.ensures) c.in_ok-write_fixed-2.ensures

pub returns : goal.returns
returns c = then_more _ _ _ c.write_fixed-2.result c.loop-share.invariant c.write_fixed-2.ensures
