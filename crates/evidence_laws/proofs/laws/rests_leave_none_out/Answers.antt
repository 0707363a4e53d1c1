use Rattle.evidence_laws.proofs.Replaying.{rests_law}
use Rattle.evidence_laws.proofs.laws.rests_leave_none_out.Goals as goal

pub returns : goal.returns
returns c = rests_law
