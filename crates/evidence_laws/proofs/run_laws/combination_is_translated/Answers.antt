use Rattle.certs.proofs.Translated.{translation}
use Rattle.evidence_laws.proofs.run_laws.combination_is_translated.Goals as goal

pub returns : goal.returns
returns c = translation
