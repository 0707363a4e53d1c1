use Rattle.std.proofs.Common.{◌<◌, [], length}
use Rattle.std.proofs.lemmas.List.Elements.{All-nil}
use Rattle.frac128.specs.Limit.{limit}
use Rattle.certs.specs.declared.evidence.Branch.{Branch}
use Rattle.certs.proofs.Passed.{least_check_law}
use Rattle.least_checks.proofs.Steps.{both_pass}
use Rattle.least_checks.proofs.parts.parts_show_least.Goals as goal

pub returns : goal.returns
returns c = λ model set shares t formed e f. least_check_law limit model set [] shares t formed (All-nil (λ (b : Branch). b.column < length model.columns)) (both_pass model set shares t e f)
