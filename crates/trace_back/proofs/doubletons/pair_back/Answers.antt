use Rattle.std.proofs.Common.{◌≡◌, ◌+◌, ◌∙◌, ap, subst, List}
use Rattle.std.proofs.lemmas.Result.{err_from_is_err_and}
use Rattle.rational.specs.Rational.{◌*ℚ◌, neg_ℚ, zero_ℚ}
use Rattle.lp_model.specs.declared.members.Side.{Side}
use Rattle.certs.specs.Improves.{magnitude}
use Rattle.reductions.specs.declared.steps.Change.{Change}
use Rattle.reductions.specs.Back.{by_maker as made_by, equation_work, made_quotient, pair_before, part_on, taken_of}
use Rattle.trace_back.specs.Held.{unmade, weights_in, with_sides}
use Rattle.trace_back.proofs.Pairs.{pair_first, pair_second, pair_third, pair_all, pair_is, pair_times}
use Rattle.trace_back.proofs.Works.{IsFirst, AreNarrow}
use Rattle.trace_back.proofs.Writes.{now_as, now_over}
use Rattle.trace_back.proofs.doubletons.pair_back.Goals as goal

pub returns-in_err-given : goal.returns-in_err-given
returns-in_err-given c =
    let old = c.args.weights.now in
    let w = weights_in old in
    let p = err_from_is_err_and c.from_residual.result c.from_residual.ensures.1 in
    rw (p.1, p.2)
    (pair_first old.columns c.args.pair.now w c.in_err-given.field-0.0 (subst (λ (l : List Change). IsFirst (equation_work old.columns w zero_ℚ l) c.in_err-given.field-0.0) c.as_slice.ensures c.in_err-given.ensures))

pub returns-in_err-lower : goal.returns-in_err-lower
returns-in_err-lower c =
    let old = c.args.weights.now in
    let w = weights_in old in
    let narrow = subst (λ (l : List Change). AreNarrow (equation_work old.columns w zero_ℚ l)) c.as_slice.ensures c.in_ok-given.ensures.1 in
    let eg = c.in_ok-given.ensures.0 ∙ ap (λ (l : List Change). neg_ℚ (taken_of old.columns l w)) c.as_slice.ensures in
    let p = err_from_is_err_and c.from_residual-in_err-lower.result c.from_residual-in_err-lower.ensures.1 in
    rw (p.1, p.2) (pair_second old.columns c.args.pair.now w narrow c.in_ok-given.given eg c.at.result c.at.ensures _ c.in_err-lower.ensures)

pub returns-in_err-upper : goal.returns-in_err-upper
returns-in_err-upper c =
    let old = c.args.weights.now in
    let w = weights_in old in
    let narrow = subst (λ (l : List Change). AreNarrow (equation_work old.columns w zero_ℚ l)) c.as_slice.ensures c.in_ok-given.ensures.1 in
    let eg = c.in_ok-given.ensures.0 ∙ ap (λ (l : List Change). neg_ℚ (taken_of old.columns l w)) c.as_slice.ensures in
    let p = err_from_is_err_and c.from_residual-in_err-upper.result c.from_residual-in_err-upper.ensures.1 in
    rw (p.1, p.2)
    (pair_third old.columns c.args.pair.now w narrow c.in_ok-given.given eg c.at.result c.at.ensures c.in_ok-lower.ensures.1.1 c.in_ok-lower.lower.times c.in_ok-lower.ensures.0 c.at-2.result c.at-2.ensures _ c.in_err-upper.ensures)

pub returns : goal.returns
returns c =
    let d = c.args.pair.now in
    let old = c.args.weights.now in
    let w = weights_in old in
    let narrow = subst (λ (l : List Change). AreNarrow (equation_work old.columns w zero_ℚ l)) c.as_slice.ensures c.in_ok-given.ensures.1 in
    let eg = c.in_ok-given.ensures.0 ∙ ap (λ (l : List Change). neg_ℚ (taken_of old.columns l w)) c.as_slice.ensures in
    let lower = c.in_ok-lower.lower in
    let upper = c.in_ok-upper.upper in
    let q = λ (side : Side). made_by d.lower d.upper side c.magnitude.result c.magnitude-2.result in
    let r = λ (side : Side). made_by d.lower d.upper side (magnitude lower.worth) (magnitude upper.worth) in
    let times = λ (side : Side). part_on side upper.times in
    let rest = unmade d.x d.lower d.upper w in
    let row = c.variable-row.result in
    let first = now_over old c.unmake.new.self c.put_made.new.self rest d.y q c.unmake.ensures c.put_made.ensures in
    let second = now_over old c.put_made.new.self c.put_parts.new.self (with_sides d.y q rest) row times first c.put_parts.ensures in
    let same : with_sides row times (with_sides d.y q rest) ≡ pair_before old.columns d w =
    ap (λ z. with_sides z times (with_sides d.y q rest)) c.variable-row.ensures
    ∙ ap (λ z. with_sides (old.columns + d.row) times (with_sides d.y (λ side. made_by d.lower d.upper side z c.magnitude-2.result) rest)) c.magnitude.ensures
    ∙ ap (λ z. with_sides (old.columns + d.row) times (with_sides d.y (λ side. made_by d.lower d.upper side (magnitude lower.worth) z) rest)) c.magnitude-2.ensures
    ∙ pair_is old.columns d w upper.times lower.worth upper.worth
    (pair_times old.columns d w narrow c.in_ok-given.given eg c.at.result c.at.ensures c.in_ok-lower.ensures.1.1 lower.times c.in_ok-lower.ensures.0 c.at-2.result c.at-2.ensures upper.times c.in_ok-upper.ensures.0)
    (c.in_ok-lower.ensures.1.0 ∙ ap (λ z. d.b *ℚ made_quotient d.a d.lower z) c.at.ensures)
    (c.in_ok-upper.ensures.1.0 ∙ ap (λ z. d.b *ℚ made_quotient d.a d.upper z) c.at-2.ensures) in (
      now_as old c.put_parts.new.self (with_sides row times (with_sides d.y q rest)) (pair_before old.columns d w) second same,
      pair_all old.columns d w narrow c.in_ok-given.given eg c.at.result c.at.ensures c.in_ok-lower.ensures.1.1 lower.times c.in_ok-lower.ensures.0 c.at-2.result c.at-2.ensures c.in_ok-upper.ensures.1.1,
    )
