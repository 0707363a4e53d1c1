use Rattle.std.proofs.Common.{◌≡◌, sym, ◌∙◌, ap, subst, List, [], ◌∷◌, ◌++◌, map, None}
use Rattle.std.specs.Prelude.{flat_map}
use Rattle.std.proofs.lemmas.Result.{err_from_is_err_and}
use Rattle.rational.specs.Linear.{Term}
use Rattle.frac128.specs.Limit.{limit}
use Rattle.frac128.specs.Calculation.{first_wide}
use Rattle.certs.specs.System.{VariableShare}
use Rattle.trace_back.specs.Held.{weights_in}
use Rattle.trace_back.specs.Taking.{forced_share, part_work}
use Rattle.trace_back.proofs.Folding.{made-all, made-more, made-wide}
use Rattle.trace_back.proofs.Sums.{limit_work, limit_more, limits-made, limits-work}
use Rattle.trace_back.proofs.forcing.forced_limits.Goals as goal

pub returns-in_err-limit : goal.returns-in_err-limit
returns-in_err-limit c =
    let f = c.args.forcing.now in
    let w = weights_in c.args.weights.now in
    let times = c.args.times in
    let xs = c.as_slice-terms.result.now in
    let p = err_from_is_err_and c.from_residual.result c.from_residual.ensures.1 in
    rw (p.1, p.2)
    (sym (ap (λ (l : List Term). first_wide limit (flat_map (part_work f w times) l)) c.as_slice-terms.ensures)
    ∙ sym (ap (first_wide limit) (limits-work f w times [] xs))
    ∙ made-wide (limit_work f w times) (limit_more f w times) [] xs c.loop-term.term-index c.loop-term.limits.items c.loop-term.invariant c.term-item.result c.loop-term-test.true c.term-item.is _ c.in_err-limit.ensures)

pub loop-term-preserved : goal.loop-term-preserved
loop-term-preserved c =
    let f = c.args.forcing.now in
    let w = weights_in c.args.weights.now in
    let times = c.args.times in
    made-more (limit_work f w times) (limit_more f w times) [] c.as_slice-terms.result.now c.loop-term.term-index c.loop-term.limits.items c.loop-term.invariant c.term-item.result c.loop-term-test.true c.term-item.is
    c.push.new.self.items (c.in_ok-push.ensures.items ∙ ap (λ (s : VariableShare). c.loop-term.limits.items ++ s ∷ []) c.in_ok-limit.ensures.0) c.in_ok-limit.ensures.1

pub returns : goal.returns
returns c =
    let f = c.args.forcing.now in
    let w = weights_in c.args.weights.now in
    let times = c.args.times in
    let xs = c.as_slice-terms.result.now in
    let m = made-all (limit_work f w times) (limit_more f w times) [] xs c.loop-term.term-index c.loop-term.limits.items c.loop-term.invariant c.loop-term-test.false in (
      m.0 ∙ limits-made f w times [] xs ∙ ap (map (forced_share f w times)) c.as_slice-terms.ensures,
      subst (λ (l : List Term). first_wide limit (flat_map (part_work f w times) l) ≡ None) c.as_slice-terms.ensures (sym (ap (first_wide limit) (limits-work f w times [] xs)) ∙ m.1),
    )
