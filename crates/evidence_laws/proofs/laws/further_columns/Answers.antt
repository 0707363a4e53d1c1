use Rattle.certs.proofs.Further.{further_columns_law}
use Rattle.evidence_laws.proofs.laws.further_columns.Goals as goal

pub returns : goal.returns
returns c = further_columns_law
