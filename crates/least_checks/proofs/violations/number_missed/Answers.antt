use Rattle.std.proofs.Common.{◌∙◌}
use Rattle.least_checks.proofs.Missing.{none_of, nothing_missed}
use Rattle.least_checks.proofs.violations.number_missed.Goals as goal

pub returns-in_default : goal.returns-in_default
returns-in_default c = let none = nothing_missed c.args.side c.args.number c.args.value (none_of c.args.number c.in_default.not-Some) in (c.whole.ensures ∙ none.0, none.1)
