use Rattle.report_page.proofs.Marked.{then_more}
use Rattle.report_page.proofs.points.write_fold.Goals as goal

pub returns : goal.returns
returns c = then_more _ _ _ c.write_fixed-2.result c.loop-column.invariant c.write_fixed-2.ensures
