use Rattle.certs.proofs.PlainCuts.{plain_cut}
use Rattle.evidence_laws.proofs.run_laws.plain_cut_refutes.Goals as goal

pub returns : goal.returns
returns c = plain_cut
