use Rattle.evidence_laws.proofs.PlainPaths.{plain_path}
use Rattle.evidence_laws.proofs.run_laws.plain_point_keeps_path.Goals as goal

pub returns : goal.returns
returns c = plain_path
