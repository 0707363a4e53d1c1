use Rattle.std.proofs.Common.{◌∙◌, ap, subst, List}
use Rattle.std.proofs.lemmas.Result.{err_from_is_err_and}
use Rattle.rational.specs.Rational.{◌-ℚ◌, neg_ℚ, zero_ℚ}
use Rattle.frac128.specs.declared.Op.TheVariants.{Minus}
use Rattle.certs.specs.Turns.{counted}
use Rattle.reductions.specs.declared.steps.Change.{Change}
use Rattle.reductions.specs.declared.steps.Step.TheVariants.{Fixed}
use Rattle.reductions.specs.Back.{part_on, taken_of, taken_work}
use Rattle.trace_back.specs.Held.{weights_in, with_sides}
use Rattle.trace_back.proofs.Works.{IsFirst, AreNarrow, first_here, first_past, narrow_both}
use Rattle.trace_back.proofs.Writes.{now_as}
use Rattle.trace_back.specs.Back.{dual_before}
use Rattle.trace_back.proofs.dual_steps.fixed_before.Goals as goal

pub returns-in_err-taken : goal.returns-in_err-taken
returns-in_err-taken c =
    let n = c.args.weights.now.columns in
    let w = weights_in c.args.weights.now in
    let f = c.args.fixed.now in
    let p = err_from_is_err_and c.from_residual.result c.from_residual.ensures.1 in
    rw (p.1, p.2)
    (first_here (taken_work n w zero_ℚ f.changes) _ c.in_err-taken.field-0.0
    (subst (λ (l : List Change). IsFirst (taken_work n w zero_ℚ l) c.in_err-taken.field-0.0) c.as_slice.ensures c.in_err-taken.ensures))

pub returns-in_err-left : goal.returns-in_err-left
returns-in_err-left c =
    let n = c.args.weights.now.columns in
    let w = weights_in c.args.weights.now in
    let f = c.args.fixed.now in
    let narrow = subst (λ (l : List Change). AreNarrow (taken_work n w zero_ℚ l)) c.as_slice.ensures c.in_ok-taken.ensures.1 in
    let same = c.in_ok-taken.ensures.0 ∙ ap (λ (l : List Change). taken_of n l w) c.as_slice.ensures in
    let p = err_from_is_err_and c.from_residual-in_err-left.result c.from_residual-in_err-left.ensures.1 in
    rw (p.1, p.2)
    (first_past (taken_work n w zero_ℚ f.changes) _ c.in_err-left.field-0.0 narrow
    (subst (λ z. IsFirst (counted Minus z f.objective) c.in_err-left.field-0.0) same c.in_err-left.ensures))

pub returns : goal.returns
returns c =
    let old = c.args.weights.now in
    let n = old.columns in
    let w = weights_in old in
    let f = c.args.fixed.now in
    let narrow = subst (λ (l : List Change). AreNarrow (taken_work n w zero_ℚ l)) c.as_slice.ensures c.in_ok-taken.ensures.1 in
    let same = c.in_ok-taken.ensures.0 ∙ ap (λ (l : List Change). taken_of n l w) c.as_slice.ensures in (
      now_as old c.put_parts.new.self (with_sides f.column (λ side. part_on side c.negate.result) w) (dual_before n (Fixed f) w) c.put_parts.ensures
          (ap (λ z. with_sides f.column (λ side. part_on side z) w) (c.negate.ensures ∙ ap neg_ℚ (c.in_ok-left.ensures.0 ∙ ap (λ z. z -ℚ f.objective) same))),
      narrow_both (taken_work n w zero_ℚ f.changes) (counted Minus (taken_of n f.changes w) f.objective) narrow
          (subst (λ z. AreNarrow (counted Minus z f.objective)) same c.in_ok-left.ensures.1),
    )
