use Rattle.certs.proofs.Sound.{unsatisfiable_law}
use Rattle.evidence_laws.proofs.laws.taken_combination_is_unsatisfiable.Goals as goal

pub returns : goal.returns
returns c = unsatisfiable_law
