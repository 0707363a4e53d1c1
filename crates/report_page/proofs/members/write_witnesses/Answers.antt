use Rattle.report_page.proofs.Marked.{then_more}
use Rattle.report_page.proofs.members.write_witnesses.Goals as goal

pub returns : goal.returns
returns c = then_more _ _ _ c.write_fixed.result c.loop-member.invariant c.write_fixed.ensures
