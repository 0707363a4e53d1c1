use Rattle.evidence_laws.proofs.Outcomes.{wide_law}
use Rattle.evidence_laws.proofs.laws.wide_is_first.Goals as goal

pub returns : goal.returns
returns c = wide_law
