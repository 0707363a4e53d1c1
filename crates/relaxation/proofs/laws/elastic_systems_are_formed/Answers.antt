use Rattle.relaxation.proofs.Formed.{formed_law}
use Rattle.relaxation.proofs.laws.elastic_systems_are_formed.Goals as goal

pub returns : goal.returns
returns c = formed_law
