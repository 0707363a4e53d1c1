use Rattle.std.proofs.Common.{sym, ◌∙◌, ap, not, ◌&&◌}
use Rattle.rational.specs.Rational.{ℚ, lt_q, zero_ℚ}
use Rattle.rational.proofs.Compare.{lt_q-is}
use Rattle.quick_answers.proofs.rounds.is_further.Goals as goal

pub returns-then-not-contains : goal.returns-then-not-contains
returns-then-not-contains c =
    c.lt.ensures ∙ sym (lt_q-is c.whole.result c.args.missed) ∙ ap (λ (q : ℚ). lt_q q c.args.missed) c.whole.ensures
    ∙ sym (ap (λ b. not b && lt_q zero_ℚ c.args.missed) (sym c.contains.ensures ∙ c.if-not-contains.true))
