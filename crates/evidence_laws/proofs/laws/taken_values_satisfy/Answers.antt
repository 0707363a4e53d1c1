use Rattle.certs.proofs.Sound.{satisfiable_law}
use Rattle.evidence_laws.proofs.laws.taken_values_satisfy.Goals as goal

pub returns : goal.returns
returns c = satisfiable_law
