use Rattle.certs.proofs.Filters.{late_test_law}
use Rattle.evidence_laws.proofs.laws.late_tests.Goals as goal

pub returns : goal.returns
returns c = late_test_law
