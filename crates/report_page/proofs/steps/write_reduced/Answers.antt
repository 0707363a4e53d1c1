use Rattle.report_page.proofs.Marked.{more, then_more}
use Rattle.report_page.proofs.steps.write_reduced.Goals as goal

pub loop-step-preserved : goal.loop-step-preserved
loop-step-preserved c = more _ _ _ (more _ _ _ (more _ _ _ c.loop-step.invariant c.in_ok-write_fixed-2.ensures) c.in_ok-write_step.ensures) c.in_ok-write_fixed-3.ensures

pub returns : goal.returns
returns c = then_more _ _ _ c.write-2.result c.loop-step.invariant c.write-2.ensures
