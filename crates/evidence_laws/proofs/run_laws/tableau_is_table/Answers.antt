use Rattle.evidence_laws.proofs.Tables.{terms_law}
use Rattle.evidence_laws.proofs.run_laws.tableau_is_table.Goals as goal

pub returns : goal.returns
returns c = terms_law
