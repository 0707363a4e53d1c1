use Rattle.report_page.proofs.Escaped.{law}
use Rattle.report_page.proofs.pieces.escaping_law.Goals as goal

pub returns : goal.returns
returns c = law
