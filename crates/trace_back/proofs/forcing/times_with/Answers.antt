use Rattle.std.proofs.Common.{◌≡◌, sym, ◌∙◌, ap}
use Rattle.std.proofs.lemmas.Result.{err_from_is_err_and}
use Rattle.rational.specs.Linear.{Term}
use Rattle.certs.specs.Improves.{magnitude}
use Rattle.reductions.specs.Back.{forced_side, forced_weight}
use Rattle.reductions.specs.Limited.{opposite, turned}
use Rattle.reductions.proofs.WeightSides.{magnitude_some}
use Rattle.trace_back.specs.Held.{weights_in}
use Rattle.trace_back.proofs.Works.{added_first, added_last}
use Rattle.trace_back.proofs.forcing.times_with.Goals as goal

pub quotient-requires : goal.quotient-requires
quotient-requires c =
    let t = c.args.term.now in
    λ e. magnitude_some t.factor c.requires.known.nonzero (sym (c.magnitude.ensures ∙ ap (λ (z : Term). magnitude z.factor) c.term.view_is) ∙ e)

pub returns-in_err-quotient : goal.returns-in_err-quotient
returns-in_err-quotient c =
    let t = c.args.term.now in
    let f = c.args.forcing.now in
    let held = c.args.weights.now in
    let w = weights_in held in
    let fe : c.term.inside.factor ≡ t.factor = ap (λ (z : Term). z.factor) c.term.view_is in
    let ex : c.at.result ≡ forced_weight f w t =
    c.at.ensures
    ∙ ap (λ s. w s c.term.inside.column) (c.opposite-made.ensures ∙ ap opposite (c.forced_side.ensures ∙ ap (λ z. turned z (opposite f.side)) fe))
    ∙ ap (λ (z : Term). w (opposite (forced_side f t)) z.column) c.term.view_is in
    let p = err_from_is_err_and c.from_residual.result c.from_residual.ensures.1 in
    rw (p.1, p.2) (added_first c.args.so_far (forced_weight f w t) (magnitude t.factor) c.at.result c.magnitude.result c.args.so_far ex (c.magnitude.ensures ∙ ap magnitude fe) _ c.in_err-quotient.ensures)

pub returns : goal.returns
returns c =
    let t = c.args.term.now in
    let f = c.args.forcing.now in
    let held = c.args.weights.now in
    let w = weights_in held in
    let fe : c.term.inside.factor ≡ t.factor = ap (λ (z : Term). z.factor) c.term.view_is in
    let ex : c.at.result ≡ forced_weight f w t =
    c.at.ensures
    ∙ ap (λ s. w s c.term.inside.column) (c.opposite-made.ensures ∙ ap opposite (c.forced_side.ensures ∙ ap (λ z. turned z (opposite f.side)) fe))
    ∙ ap (λ (z : Term). w (opposite (forced_side f t)) z.column) c.term.view_is in
    added_last c.args.so_far (forced_weight f w t) (magnitude t.factor) c.at.result c.magnitude.result c.in_ok-quotient.quotient ex (c.magnitude.ensures ∙ ap magnitude fe) c.in_ok-quotient.ensures.0 c.in_ok-quotient.ensures.1 c.sum.result c.sum.ensures
