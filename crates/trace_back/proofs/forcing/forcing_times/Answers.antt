use Rattle.std.proofs.Common.{◌≡◌, sym, ◌∙◌, ap, subst, List, None}
use Rattle.std.proofs.lemmas.Result.{err_from_is_err_and}
use Rattle.rational.specs.Rational.{◌/ℚ◌, zero_ℚ}
use Rattle.rational.specs.Linear.{Term}
use Rattle.rational.specs.Sum.{sum_over}
use Rattle.frac128.specs.Limit.{limit}
use Rattle.frac128.specs.Calculation.{first_wide}
use Rattle.certs.specs.Improves.{magnitude}
use Rattle.reductions.specs.Back.{forced_weight, times_work}
use Rattle.trace_back.specs.Held.{weights_in}
use Rattle.trace_back.specs.Taking.{time_work, times_with as more}
use Rattle.trace_back.proofs.Folding.{made-all, made-more, made-wide}
use Rattle.trace_back.proofs.Sums.{from_zero, times-made, times-work}
use Rattle.trace_back.proofs.forcing.forcing_times.Goals as goal

pub returns-in_err-times : goal.returns-in_err-times
returns-in_err-times c =
    let f = c.args.forcing.now in
    let w = weights_in c.args.weights.now in
    let xs = c.as_slice-terms.result.now in
    let p = err_from_is_err_and c.from_residual.result c.from_residual.ensures.1 in
    rw (p.1, p.2)
    (sym (ap (λ (l : List Term). first_wide limit (times_work f w zero_ℚ l)) c.as_slice-terms.ensures)
    ∙ sym (ap (first_wide limit) (times-work f w zero_ℚ xs))
    ∙ made-wide (time_work f w) (more f w) zero_ℚ xs c.loop-term.term-index c.loop-term.times c.loop-term.invariant c.term-item.result c.loop-term-test.true c.term-item.is _ c.in_err-times.ensures)

pub loop-term-preserved : goal.loop-term-preserved
loop-term-preserved c =
    let f = c.args.forcing.now in
    let w = weights_in c.args.weights.now in
    made-more (time_work f w) (more f w) zero_ℚ c.as_slice-terms.result.now c.loop-term.term-index c.loop-term.times c.loop-term.invariant c.term-item.result c.loop-term-test.true c.term-item.is _ c.in_ok-times.ensures.0 c.in_ok-times.ensures.1

pub returns : goal.returns
returns c =
    let f = c.args.forcing.now in
    let w = weights_in c.args.weights.now in
    let xs = c.as_slice-terms.result.now in
    let m = made-all (time_work f w) (more f w) zero_ℚ xs c.loop-term.term-index c.loop-term.times c.loop-term.invariant c.loop-term-test.false in (
      m.0 ∙ times-made f w zero_ℚ xs ∙ from_zero _ ∙ ap (sum_over (λ (t : Term). forced_weight f w t /ℚ magnitude t.factor)) c.as_slice-terms.ensures,
      subst (λ (l : List Term). first_wide limit (times_work f w zero_ℚ l) ≡ None) c.as_slice-terms.ensures (sym (ap (first_wide limit) (times-work f w zero_ℚ xs)) ∙ m.1),
    )
