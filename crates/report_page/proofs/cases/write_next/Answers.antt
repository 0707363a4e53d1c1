use Rattle.report_page.proofs.Marked.{then_more}
use Rattle.report_page.proofs.cases.write_next.Goals as goal

pub returns-in-Some-case : goal.returns-in-Some-case
returns-in-Some-case c = then_more _ _ _ c.write_second.result c.loop-case.invariant c.write_second.ensures
