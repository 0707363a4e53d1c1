use Rattle.certs.proofs.Tableaus.{table_law}
use Rattle.evidence_laws.proofs.run_laws.one_table.Goals as goal

pub returns : goal.returns
returns c = table_law
