use Rattle.reductions.proofs.Next.{next}
use Rattle.reductions.proofs.laws.next_is_found.Goals as goal

pub returns : goal.returns
returns c = next
