use Rattle.model_maker.proofs.Declared.{read}
use Rattle.model_maker.proofs.plan_laws.plan_is_read.Goals as goal

pub returns : goal.returns
returns c = read
