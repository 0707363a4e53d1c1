use Rattle.least_checks.proofs.Steps.{violation_passes}
use Rattle.least_checks.proofs.violations.checked_violation.Goals as goal

pub returns : goal.returns
returns c = λ model set x t e. violation_passes model set x t e
