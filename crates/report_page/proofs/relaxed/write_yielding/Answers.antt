use Rattle.report_page.proofs.Marked.{more, then_more}
use Rattle.report_page.proofs.relaxed.write_yielding.Goals as goal

pub loop-member-preserved : goal.loop-member-preserved
loop-member-preserved c = more _ _ _ c.loop-member.invariant c.in_ok-write_missed.ensures

pub returns : goal.returns
returns c = then_more _ _ _ c.write_fixed.result c.loop-member.invariant c.write_fixed.ensures
