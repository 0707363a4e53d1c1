use Rattle.std.proofs.Common.{◌≡◌, ◌∙◌, ap, subst, List, None}
use Rattle.rational.specs.Rational.{neg_ℚ, zero_ℚ}
use Rattle.frac128.specs.Limit.{limit}
use Rattle.frac128.specs.Calculation.{first_wide}
use Rattle.reductions.specs.declared.steps.Change.{Change}
use Rattle.reductions.specs.Back.{fixed_before, part_on, taken_of, taken_work}
use Rattle.trace_back.specs.Held.{weights_in, with_sides}
use Rattle.trace_back.proofs.Writes.{now_as}
use Rattle.trace_back.proofs.singletons.fixed_back.Goals as goal

pub returns : goal.returns
returns c =
    let old = c.args.weights.now in
    let w = weights_in old in
    let f = c.args.fixed.now in
    let same = c.as_slice.ensures in (
      now_as old c.put_parts.new.self (with_sides f.column (λ side. part_on side c.negate.result) w) (fixed_before old.columns f.column f.changes w) c.put_parts.ensures
          (ap (λ z. with_sides f.column (λ side. part_on side z) w) (c.negate.ensures ∙ ap neg_ℚ c.in_ok-taken.ensures.0)
          ∙ ap (λ (l : List Change). with_sides f.column (λ side. part_on side (neg_ℚ (taken_of old.columns l w))) w) same),
      subst (λ (l : List Change). first_wide limit (taken_work old.columns w zero_ℚ l) ≡ None) same c.in_ok-taken.ensures.1,
    )
