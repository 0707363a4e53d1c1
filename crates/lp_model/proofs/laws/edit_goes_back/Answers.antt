use Rattle.lp_model.proofs.TakenBack.{back_law}
use Rattle.lp_model.proofs.laws.edit_goes_back.Goals as goal

pub returns : goal.returns
returns c = back_law
