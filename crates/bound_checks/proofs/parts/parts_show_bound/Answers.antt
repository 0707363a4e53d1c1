use Rattle.frac128.specs.Limit.{limit}
use Rattle.certs.proofs.Passed.{bound_check_law}
use Rattle.bound_checks.proofs.Apart.{both_pass}
use Rattle.bound_checks.proofs.parts.parts_show_bound.Goals as goal

pub returns : goal.returns
returns c = λ model set shares b formed e f. bound_check_law limit model set shares b formed (both_pass model set shares b e f)
