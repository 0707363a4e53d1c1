use Rattle.std.proofs.Common.{◌≡◌, ◌∙◌, ap}
use Rattle.std.proofs.lemmas.Result.{err_from_is_err_and}
use Rattle.lp_model.specs.declared.members.Side.{Side}
use Rattle.lp_model.specs.declared.members.Side.TheVariants.{Lo, Up}
use Rattle.certs.specs.Improves.{magnitude}
use Rattle.reductions.specs.Back.{by_maker as made_by, made_quotient as quotient_of, single_before}
use Rattle.trace_back.specs.Held.{unmade, weights_in, with_sides}
use Rattle.trace_back.proofs.Pairs.{single_first, single_second, single_all, single_is}
use Rattle.trace_back.proofs.Writes.{now_as, now_over}
use Rattle.trace_back.proofs.singletons.single_back.Goals as goal

pub returns-in_err-lower : goal.returns-in_err-lower
returns-in_err-lower c =
    let w = weights_in c.args.weights.now in
    let p = err_from_is_err_and c.from_residual.result c.from_residual.ensures.1 in
    rw (p.1, p.2) (single_first c.args.single.now w c.at.result (w Up c.args.single.now.column) c.at.ensures _ c.in_err-lower.ensures)

pub returns-in_err-upper : goal.returns-in_err-upper
returns-in_err-upper c =
    let w = weights_in c.args.weights.now in
    let p = err_from_is_err_and c.from_residual-in_err-upper.result c.from_residual-in_err-upper.ensures.1 in
    rw (p.1, p.2) (single_second c.args.single.now w c.at.result c.at-2.result c.at.ensures c.at-2.ensures c.in_ok-lower.ensures.1 _ c.in_err-upper.ensures)

pub returns : goal.returns
returns c =
    let s = c.args.single.now in
    let old = c.args.weights.now in
    let w = weights_in old in
    let l = c.in_ok-lower.lower in
    let u = c.in_ok-upper.upper in
    let q = λ (side : Side). made_by s.lower s.upper side l u in
    let el : l ≡ quotient_of (magnitude s.factor) s.lower (w Lo s.column) = c.in_ok-lower.ensures.0 ∙ ap (quotient_of (magnitude s.factor) s.lower) c.at.ensures in
    let eu : u ≡ quotient_of (magnitude s.factor) s.upper (w Up s.column) = c.in_ok-upper.ensures.0 ∙ ap (quotient_of (magnitude s.factor) s.upper) c.at-2.ensures in
    let rest = unmade s.column s.lower s.upper w in (
      now_as old c.put_made.new.self (with_sides c.variable-row.result q rest) (single_before old.columns s w)
          (now_over old c.unmake.new.self c.put_made.new.self rest c.variable-row.result q c.unmake.ensures c.put_made.ensures)
          (ap (λ r. with_sides r q rest) c.variable-row.ensures ∙ single_is old.columns s w l u el eu),
      single_all s w c.at.result c.at-2.result c.at.ensures c.at-2.ensures c.in_ok-lower.ensures.1 c.in_ok-upper.ensures.1,
    )
