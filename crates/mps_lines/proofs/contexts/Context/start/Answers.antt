use Rattle.std.proofs.Common.{refl}
use Rattle.mps_lines.specs.Contexts.{context_of}
use Rattle.mps_lines.proofs.contexts.Context.start.Goals as goal

pub returns : goal.returns
unfolding context_of
returns c = refl
