use Rattle.std.proofs.Common.{◌≡◌, ◌+◌, ◌∙◌, ap}
use Rattle.std.proofs.lemmas.Result.{err_from_is_err_and}
use Rattle.rational.specs.Rational.{◌*ℚ◌}
use Rattle.lp_model.specs.declared.members.Side.{Side}
use Rattle.certs.specs.Improves.{magnitude}
use Rattle.reductions.specs.declared.steps.Step.TheVariants.{Doubleton}
use Rattle.reductions.specs.Back.{by_maker as made_by, made_quotient, part_on}
use Rattle.trace_back.specs.Held.{unmade, weights_in, with_sides}
use Rattle.trace_back.proofs.Writes.{now_as, now_over}
use Rattle.trace_back.specs.Back.{dual_before as before}
use Rattle.trace_back.proofs.Operations.{equation_first, equation_second, equation_third, equation_all, equation_is, equation_sum}
use Rattle.trace_back.proofs.dual_steps.pair_before.Goals as goal

pub returns-in_err-asked : goal.returns-in_err-asked
returns-in_err-asked c =
    let old = c.args.weights.now in
    let p = err_from_is_err_and c.from_residual.result c.from_residual.ensures.1 in
    rw (p.1, p.2) (equation_first old.columns c.args.pair.now (weights_in old) _ c.in_err-asked.ensures)

pub returns-in_err-lower : goal.returns-in_err-lower
returns-in_err-lower c =
    let old = c.args.weights.now in
    let p = err_from_is_err_and c.from_residual-in_err-lower.result c.from_residual-in_err-lower.ensures.1 in
    rw (p.1, p.2) (equation_second old.columns c.args.pair.now (weights_in old) c.in_ok-asked.ensures.1 c.in_ok-asked.asked c.in_ok-asked.ensures.0 c.at.result c.at.ensures _ c.in_err-lower.ensures)

pub returns-in_err-upper : goal.returns-in_err-upper
returns-in_err-upper c =
    let old = c.args.weights.now in
    let p = err_from_is_err_and c.from_residual-in_err-upper.result c.from_residual-in_err-upper.ensures.1 in
    rw (p.1, p.2)
    (equation_third old.columns c.args.pair.now (weights_in old) c.in_ok-asked.ensures.1 c.in_ok-asked.asked c.in_ok-asked.ensures.0 c.at.result c.at.ensures
    c.in_ok-lower.ensures.1.1 c.in_ok-lower.lower.times c.in_ok-lower.ensures.0 c.at-2.result c.at-2.ensures _ c.in_err-upper.ensures)

pub returns : goal.returns
returns c =
    let d = c.args.pair.now in
    let old = c.args.weights.now in
    let n = old.columns in
    let w = weights_in old in
    let narrow = c.in_ok-asked.ensures.1 in
    let asked = c.in_ok-asked.asked in
    let eg = c.in_ok-asked.ensures.0 in
    let lower = c.in_ok-lower.lower in
    let upper = c.in_ok-upper.upper in
    let q = λ (side : Side). made_by d.lower d.upper side c.magnitude.result c.magnitude-2.result in
    let times = λ (side : Side). part_on side upper.times in
    let rest = unmade d.x d.lower d.upper w in
    let row = c.variable-row.result in
    let first = now_over old c.unmake.new.self c.put_made.new.self rest d.y q c.unmake.ensures c.put_made.ensures in
    let second = now_over old c.put_made.new.self c.put_parts.new.self (with_sides d.y q rest) row times first c.put_parts.ensures in
    let same : with_sides row times (with_sides d.y q rest) ≡ before n (Doubleton d) w =
    ap (λ z. with_sides z times (with_sides d.y q rest)) c.variable-row.ensures
    ∙ ap (λ z. with_sides (n + d.row) times (with_sides d.y (λ side. made_by d.lower d.upper side z c.magnitude-2.result) rest)) c.magnitude.ensures
    ∙ ap (λ z. with_sides (n + d.row) times (with_sides d.y (λ side. made_by d.lower d.upper side (magnitude lower.worth) z) rest)) c.magnitude-2.ensures
    ∙ equation_is n d w upper.times lower.worth upper.worth
    (equation_sum n d w narrow asked eg c.at.result c.at.ensures c.in_ok-lower.ensures.1.1 lower.times c.in_ok-lower.ensures.0 c.at-2.result c.at-2.ensures upper.times c.in_ok-upper.ensures.0)
    (c.in_ok-lower.ensures.1.0 ∙ ap (λ z. d.b *ℚ made_quotient d.a d.lower z) c.at.ensures)
    (c.in_ok-upper.ensures.1.0 ∙ ap (λ z. d.b *ℚ made_quotient d.a d.upper z) c.at-2.ensures) in (
      now_as old c.put_parts.new.self (with_sides row times (with_sides d.y q rest)) (before n (Doubleton d) w) second same,
      equation_all n d w narrow asked eg c.at.result c.at.ensures c.in_ok-lower.ensures.1.1 lower.times c.in_ok-lower.ensures.0 c.at-2.result c.at-2.ensures c.in_ok-upper.ensures.1.1,
    )
