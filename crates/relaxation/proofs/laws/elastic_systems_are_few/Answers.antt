use Rattle.relaxation.proofs.Few.{few_law}
use Rattle.relaxation.proofs.laws.elastic_systems_are_few.Goals as goal

pub returns : goal.returns
returns c = few_law
