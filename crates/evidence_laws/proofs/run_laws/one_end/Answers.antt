use Rattle.certs.proofs.RunEnds.{one_end_law}
use Rattle.evidence_laws.proofs.run_laws.one_end.Goals as goal

pub returns : goal.returns
returns c = one_end_law
