use Rattle.certs.proofs.Filters.{one_late_law}
use Rattle.evidence_laws.proofs.laws.one_late.Goals as goal

pub returns : goal.returns
returns c = one_late_law
