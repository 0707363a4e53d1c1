use Rattle.model_maker.proofs.Declared.{declared}
use Rattle.model_maker.proofs.plan_laws.plan_declares.Goals as goal

pub returns : goal.returns
returns c = declared
