use Rattle.report_page.proofs.Marked.{then_more}
use Rattle.report_page.proofs.pages.write_notes.Goals as goal

pub returns : goal.returns
returns c = then_more _ _ _ c.write_fixed-2.result c.loop-note.invariant c.write_fixed-2.ensures
