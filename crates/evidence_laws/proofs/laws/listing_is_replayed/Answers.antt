use Rattle.evidence_laws.proofs.Replaying.{replay_law}
use Rattle.evidence_laws.proofs.laws.listing_is_replayed.Goals as goal

pub returns : goal.returns
returns c = replay_law
