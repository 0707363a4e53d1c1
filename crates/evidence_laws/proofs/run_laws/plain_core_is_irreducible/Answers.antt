use Rattle.evidence_laws.proofs.CoresIrreducible.{core_law}
use Rattle.evidence_laws.proofs.run_laws.plain_core_is_irreducible.Goals as goal

pub returns : goal.returns
returns c = core_law
