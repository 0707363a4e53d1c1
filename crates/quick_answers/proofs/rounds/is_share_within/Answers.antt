use Rattle.std.proofs.Common.{sym, ◌∙◌, ap, ◌||◌}
use Rattle.rational.specs.Rational.{ℚ, le_q}
use Rattle.rational.proofs.Compare.{le_q-is}
use Rattle.quick_answers.specs.Stretching.{is_enforced}
use Rattle.quick_answers.proofs.rounds.is_share_within.Goals as goal

pub returns-then-le : goal.returns-then-le
returns-then-le c =
    let weight = c.args.share.weight in
    c.if-le.true ∙ sym (ap (λ b. b || is_enforced c.args.enforced.now.members c.args.share.source)
    (sym (ap (λ (q : ℚ). le_q weight q) c.whole.ensures) ∙ le_q-is weight c.whole.result ∙ sym c.le.ensures ∙ c.if-le.true))

pub returns-else-le : goal.returns-else-le
returns-else-le c =
    let weight = c.args.share.weight in
    let enforced = c.args.enforced.now.members in
    c.is_enforced.ensures ∙ sym (ap (λ b. b || is_enforced enforced c.args.share.source)
    (sym (ap (λ (q : ℚ). le_q weight q) c.whole.ensures) ∙ le_q-is weight c.whole.result ∙ sym c.le.ensures ∙ c.if-le.false))
