use Rattle.certs.proofs.Filters.{one_early_law}
use Rattle.evidence_laws.proofs.laws.one_early.Goals as goal

pub returns : goal.returns
returns c = one_early_law
