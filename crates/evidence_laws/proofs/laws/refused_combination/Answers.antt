use Rattle.certs.proofs.Refused.{combination_no_law}
use Rattle.evidence_laws.proofs.laws.refused_combination.Goals as goal

pub returns : goal.returns
returns c = combination_no_law
