use Rattle.model_files.proofs.Meaning.{meaning}
use Rattle.model_files.proofs.laws.one_meaning.Goals as goal

pub returns : goal.returns
returns c = meaning
