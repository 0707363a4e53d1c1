use Rattle.certs.proofs.Filters.{late_groups_law}
use Rattle.evidence_laws.proofs.laws.late_groups.Goals as goal

pub returns : goal.returns
returns c = late_groups_law
