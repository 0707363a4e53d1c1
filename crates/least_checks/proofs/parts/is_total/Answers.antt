use Rattle.std.proofs.Common.{[], ◌∷◌, sym, ◌∙◌}
use Rattle.rational.specs.Rational.{eq_ℚ, neg_ℚ}
use Rattle.certs.specs.Checks.{right_step}
use Rattle.least_checks.proofs.Steps.{unusable, usable}
use Rattle.least_checks.proofs.parts.is_total.Goals as goal

pub returns-then-not-are_usable : goal.returns-then-not-are_usable
returns-then-not-are_usable c = unusable c.args.model.now c.args.set.now.members c.args.shares.now (right_step c.args.model.now [] c.args.shares.now (λ r. eq_ℚ c.args.total (neg_ℚ r)) ∷ []) (sym c.are_usable.ensures ∙ c.if-not-are_usable.true)

pub returns : goal.returns
returns c =
    c.is_right.ensures
    ∙ sym (usable c.args.model.now c.args.set.now.members c.args.shares.now (right_step c.args.model.now [] c.args.shares.now (λ r. eq_ℚ c.args.total (neg_ℚ r)) ∷ []) (sym c.are_usable.ensures ∙ c.if-not-are_usable.false))
