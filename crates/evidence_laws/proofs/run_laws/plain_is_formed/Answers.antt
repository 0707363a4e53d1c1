use Rattle.certs.proofs.PlainForms.{plain_formed}
use Rattle.evidence_laws.proofs.run_laws.plain_is_formed.Goals as goal

pub returns : goal.returns
returns c = plain_formed
