use Rattle.certs.proofs.Filters.{early_test_law}
use Rattle.evidence_laws.proofs.laws.early_tests.Goals as goal

pub returns : goal.returns
returns c = early_test_law
