use Rattle.report_text.proofs.Unchanged.{names_stand_law}
use Rattle.report_text.proofs.session.names_stand.Goals as goal

pub returns : goal.returns
returns c = names_stand_law
