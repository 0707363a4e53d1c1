use Rattle.std.proofs.Common.{sym, ◌∙◌, subst}
use Rattle.frac128.specs.Limit.{limit}
use Rattle.frac128.specs.Calculation.{first_wide}
use Rattle.lp_model.specs.declared.members.Member.{Member}
use Rattle.lp_model.specs.Satisfaction.{values_at}
use Rattle.certs.specs.Violation.{violation}
use Rattle.std.proofs.Common.{◌≡◌, None}
use Rattle.least_checks.specs.Parts.{missing_operations}
use Rattle.least_checks.proofs.Missing.{mark_missed}
use Rattle.least_checks.proofs.violations.member_violation.Goals as goal

pub returns-in-Whole : goal.returns-in-Whole
returns-in-Whole c =
    let model = c.args.model.now in
    let x = values_at c.args.values.now in
    let mark = mark_missed model x c.in-Whole.field-0 in
    subst (λ (m : Member). (c.whole.result ≡ violation model x m) × (first_wide limit (missing_operations model m x) ≡ None)) (sym c.in-Whole.is) (c.whole.ensures ∙ mark.0, mark.1)
