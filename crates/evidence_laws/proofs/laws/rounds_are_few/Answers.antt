use Rattle.evidence_laws.proofs.Enforced.{rounds_law}
use Rattle.evidence_laws.proofs.laws.rounds_are_few.Goals as goal

pub returns : goal.returns
returns c = rounds_law
