use Rattle.std.proofs.Common.{sym, ap, ◌∙◌, Ok}
use Rattle.lp_model.specs.Satisfaction.{values_at}
use Rattle.certs.specs.Checks.{checked_of}
use Rattle.certs.proofs.Held.{answered, absent}
use Rattle.cert_check.proofs.Reached.{not_true}
use Rattle.cert_check.proofs.sparse.holds.Goals as goal

pub returns-then-not-is_present : goal.returns-then-not-is_present
returns-then-not-is_present c e =
    sym (absent c.args.model.now (values_at c.args.values.now) c.args.member (sym c.is_present.ensures.there ∙ not_true c.is_present.result e))

pub returns-in-Ok-true : goal.returns-in-Ok-true
returns-in-Ok-true c e =
    sym (answered c.args.model.now (values_at c.args.values.now) c.args.member c.holds.result c.holds.ensures)
    ∙ (ap checked_of c.in-Ok-true.is ∙ ap (λ b. checked_of (Ok b)) c.in-Ok-true.field-0-test)
