use Rattle.std.proofs.Common.{◌≡◌, ◌∙◌, ap, sym, subst, true, false}
use Rattle.rational.specs.Rational.{ℚ, ◌+ℚ◌, ◌*ℚ◌}
use Rattle.rational.specs.Linear.{Term}
use Rattle.reductions.specs.Limited.{is_narrow, taken}
use Rattle.presolve.proofs.Extremal.{term_steps, extreme_after, after-zero, at-wide, at-next, at-end}
use Rattle.presolve.proofs.sums.extreme.Goals as goal

pub loop-term-init : goal.loop-term-init
loop-term-init c =
    ap (λ (s : ℚ). extreme_after c.args.system.now c.args.side s c.args.terms.now) c.whole-sum.ensures
    ∙ after-zero c.args.system.now c.args.side c.args.terms.now

pub returns-in_err-sum : goal.returns-in_err-sum
returns-in_err-sum c =
    let q = ap (λ (t : Term). t.factor) c.term.view_is in
    c.from_residual-in_err-sum.ensures
    ∙ sym
    (at-wide c.args.system.now c.args.side c.args.terms.now c.loop-term.term-index c.term-item.result c.loop-term.sum c.loop-term-test.true c.term-item.is c.in_ok-limit.limit (sym (c.in_ok-limit.ensures ∙ ap (taken c.args.system.now c.args.side) c.term.view_is))
    (subst (λ (f : ℚ). is_narrow (term_steps c.loop-term.sum f c.in_ok-limit.limit) ≡ false) q c.in_err-sum.ensures))
    ∙ c.loop-term.invariant

pub loop-term-preserved : goal.loop-term-preserved
loop-term-preserved c =
    let q = ap (λ (t : Term). t.factor) c.term.view_is in
    let e = c.in_ok-sum.ensures in
    sym
    (at-next c.args.system.now c.args.side c.args.terms.now c.loop-term.term-index c.term-item.result c.loop-term.sum c.loop-term-test.true c.term-item.is c.in_ok-limit.limit c.in_ok-sum.sum
    (sym (c.in_ok-limit.ensures ∙ ap (taken c.args.system.now c.args.side) c.term.view_is)) (e.0 ∙ ap (λ (f : ℚ). c.loop-term.sum +ℚ f *ℚ c.in_ok-limit.limit) q)
    (subst (λ (f : ℚ). is_narrow (term_steps c.loop-term.sum f c.in_ok-limit.limit) ≡ true) q e.1))
    ∙ c.loop-term.invariant

pub returns : goal.returns
returns c =
    sym (at-end c.args.system.now c.args.side c.args.terms.now c.loop-term.term-index c.loop-term.sum c.loop-term-test.false)
    ∙ c.loop-term.invariant
