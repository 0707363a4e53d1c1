use Rattle.report_text.proofs.Histories.{history_law_by}
use Rattle.report_text.proofs.history.history_law.Goals as goal

pub returns : goal.returns
returns c = history_law_by c.edit_goes_back.ensures
