use Rattle.certs.proofs.Blocked.{blocked_law}
use Rattle.evidence_laws.proofs.run_laws.blocked_is_combination.Goals as goal

pub returns : goal.returns
returns c = blocked_law
