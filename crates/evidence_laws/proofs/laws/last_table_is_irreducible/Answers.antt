use Rattle.evidence_laws.proofs.LastTable.{last_table_law}
use Rattle.evidence_laws.proofs.laws.last_table_is_irreducible.Goals as goal

pub returns : goal.returns
returns c = last_table_law
