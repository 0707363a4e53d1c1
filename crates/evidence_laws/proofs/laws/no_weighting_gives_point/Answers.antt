use Rattle.evidence_laws.proofs.NoWeighting.{no_weighting_law}
use Rattle.evidence_laws.proofs.laws.no_weighting_gives_point.Goals as goal

pub returns : goal.returns
returns c = no_weighting_law
