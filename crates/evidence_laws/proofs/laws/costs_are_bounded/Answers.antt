use Rattle.evidence_laws.proofs.Costing.{costs_law}
use Rattle.evidence_laws.proofs.laws.costs_are_bounded.Goals as goal

pub returns : goal.returns
returns c = costs_law
