use Rattle.evidence_laws.proofs.Cheapest.{cheapest_law}
use Rattle.evidence_laws.proofs.laws.last_table_is_cheapest.Goals as goal

pub returns : goal.returns
returns c = cheapest_law
