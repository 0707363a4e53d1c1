use Rattle.report_text.proofs.Changing.{changes_law_by}
use Rattle.report_text.proofs.history.changes_law.Goals as goal

pub returns : goal.returns
returns c = changes_law_by c.edit_goes_back.ensures
