use Rattle.rational.proofs.Compare.{eq-Decides}
use Rattle.certs.specs.Bound.{objective_value}
use Rattle.bound_checks.proofs.Apart.{value_passes}
use Rattle.bound_checks.proofs.values.checked_value.Goals as goal

pub returns : goal.returns
returns c = λ model x v e. (eq-Decides (objective_value model x) v).0 (value_passes model x v e)
