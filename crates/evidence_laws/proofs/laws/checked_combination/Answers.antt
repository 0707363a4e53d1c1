use Rattle.certs.proofs.Passed.{combination_check_law}
use Rattle.evidence_laws.proofs.laws.checked_combination.Goals as goal

pub returns : goal.returns
returns c = combination_check_law
