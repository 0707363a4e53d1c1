use Rattle.std.proofs.Common.{◌≡◌, ◌∙◌, sym, true, false, None, Some, Result, Ok, Err}
use Rattle.std.specs.Prelude.{MatchResult}
use Rattle.rational.specs.Rational.{ℚ, ◌-ℚ◌, zero_ℚ, lt_q}
use Rattle.frac128.specs.declared.Op.TheVariants.{Minus}
use Rattle.frac128.specs.declared.Wide.{Wide as Operation}
use Rattle.frac128.specs.Limit.{limit}
use Rattle.frac128.specs.Width.{operation, is_wide}
use Rattle.frac128.specs.Calculation.{first_wide}
use Rattle.certs.specs.Violation.{larger}
use Rattle.least_checks.specs.Parts.{excess_operations}
use Rattle.least_checks.proofs.Missing.{is_excess, no_excess, nothing_taken, taken_fits, taken_wide}
use Rattle.least_checks.proofs.violations.excess.Goals as goal

subtracted : (a b : ℚ) (r : Result ℚ Operation) → lt_q b a ≡ true
    → MatchResult r (λ v. (v ≡ a -ℚ b) × (is_wide limit (operation Minus a b) ≡ false)) (λ w. (w ≡ operation Minus a b) × (is_wide limit w ≡ true))
    → MatchResult r (λ v. (v ≡ larger zero_ℚ (a -ℚ b)) × (first_wide limit (excess_operations a b) ≡ None)) (λ w. first_wide limit (excess_operations a b) ≡ Some w)
subtracted a b (Ok v) e h = (h.0 ∙ is_excess a b e, taken_fits a b e h.1)
subtracted a b (Err w) e h = taken_wide a b w e h.0 h.1

pub returns-then-is_less : goal.returns-then-is_less
returns-then-is_less c = subtracted c.args.number c.args.other c.minus.result (sym c.is_less.ensures ∙ c.if-is_less.true) c.minus.ensures

pub returns : goal.returns
returns c =
    let less = sym c.is_less.ensures ∙ c.if-is_less.false in
    (c.whole.ensures ∙ no_excess c.args.number c.args.other less, nothing_taken c.args.number c.args.other less)
