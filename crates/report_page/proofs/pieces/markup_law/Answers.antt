use Rattle.report_page.proofs.Placed.{law}
use Rattle.report_page.proofs.pieces.markup_law.Goals as goal

pub returns : goal.returns
returns c = law
