use Rattle.evidence_laws.proofs.Outcomes.{yes_law}
use Rattle.evidence_laws.proofs.laws.yes_is_all_passed.Goals as goal

pub returns : goal.returns
returns c = yes_law
