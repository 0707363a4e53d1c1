use Rattle.std.proofs.Common.{◌≡◌, ◌∙◌, ap}
use Rattle.std.proofs.lemmas.Result.{err_from_is_err_and}
use Rattle.rational.specs.Linear.{Term}
use Rattle.certs.specs.Improves.{magnitude}
use Rattle.reductions.specs.Back.{forced_side, forced_weight}
use Rattle.reductions.specs.Limited.{opposite, turned}
use Rattle.trace_back.specs.Held.{weights_in}
use Rattle.trace_back.proofs.Works.{product_first, product_second, product_third, product_all, product_sum}
use Rattle.trace_back.proofs.forcing.forced_limit.Goals as goal

pub returns-in_err-product : goal.returns-in_err-product
returns-in_err-product c =
    let t = c.args.term.now in
    let f = c.args.forcing.now in
    let held = c.args.weights.now in
    let w = weights_in held in
    let fe : c.term.inside.factor ≡ t.factor = ap (λ (z : Term). z.factor) c.term.view_is in
    let p = err_from_is_err_and c.from_residual.result c.from_residual.ensures.1 in
    rw (p.1, p.2)
    (product_first (magnitude t.factor) c.args.times (forced_weight f w t) (w (forced_side f t) t.column) c.magnitude.result (c.magnitude.ensures ∙ ap magnitude fe) _ c.in_err-product.ensures)

pub returns-in_err-rest : goal.returns-in_err-rest
returns-in_err-rest c =
    let t = c.args.term.now in
    let f = c.args.forcing.now in
    let held = c.args.weights.now in
    let w = weights_in held in
    let fe : c.term.inside.factor ≡ t.factor = ap (λ (z : Term). z.factor) c.term.view_is in
    let es : c.forced_side-side.result ≡ forced_side f t = c.forced_side-side.ensures ∙ ap (λ z. turned z (opposite f.side)) fe in
    let em : c.magnitude.result ≡ magnitude t.factor = c.magnitude.ensures ∙ ap magnitude fe in
    let ex : c.at.result ≡ forced_weight f w t =
    c.at.ensures
    ∙ ap (λ s. w s c.term.inside.column) (c.opposite.ensures ∙ ap opposite es)
    ∙ ap (λ (z : Term). w (opposite (forced_side f t)) z.column) c.term.view_is in
    let p = err_from_is_err_and c.from_residual-in_err-rest.result c.from_residual-in_err-rest.ensures.1 in
    rw (p.1, p.2)
    (product_second (magnitude t.factor) c.args.times (forced_weight f w t) (w (forced_side f t) t.column) c.magnitude.result em _ c.in_ok-product.ensures.0 c.in_ok-product.ensures.1 c.at.result ex _ c.in_err-rest.ensures)

pub returns-in_err-weight : goal.returns-in_err-weight
returns-in_err-weight c =
    let t = c.args.term.now in
    let f = c.args.forcing.now in
    let held = c.args.weights.now in
    let w = weights_in held in
    let fe : c.term.inside.factor ≡ t.factor = ap (λ (z : Term). z.factor) c.term.view_is in
    let es : c.forced_side-side.result ≡ forced_side f t = c.forced_side-side.ensures ∙ ap (λ z. turned z (opposite f.side)) fe in
    let em : c.magnitude.result ≡ magnitude t.factor = c.magnitude.ensures ∙ ap magnitude fe in
    let ex : c.at.result ≡ forced_weight f w t =
    c.at.ensures
    ∙ ap (λ s. w s c.term.inside.column) (c.opposite.ensures ∙ ap opposite es)
    ∙ ap (λ (z : Term). w (opposite (forced_side f t)) z.column) c.term.view_is in
    let ey : c.at-2.result ≡ w (forced_side f t) t.column =
    c.at-2.ensures ∙ ap (λ s. w s c.term.inside.column) es ∙ ap (λ (z : Term). w (forced_side f t) z.column) c.term.view_is in
    let p = err_from_is_err_and c.from_residual-in_err-weight.result c.from_residual-in_err-weight.ensures.1 in
    rw (p.1, p.2)
    (product_third (magnitude t.factor) c.args.times (forced_weight f w t) (w (forced_side f t) t.column) c.magnitude.result em _ c.in_ok-product.ensures.0 c.in_ok-product.ensures.1 c.at.result ex _ c.in_ok-rest.ensures.0 c.in_ok-rest.ensures.1 c.at-2.result ey
    _ c.in_err-weight.ensures)

pub returns : goal.returns
returns c =
    let t = c.args.term.now in
    let f = c.args.forcing.now in
    let held = c.args.weights.now in
    let w = weights_in held in
    let fe : c.term.inside.factor ≡ t.factor = ap (λ (z : Term). z.factor) c.term.view_is in
    let es : c.forced_side-side.result ≡ forced_side f t = c.forced_side-side.ensures ∙ ap (λ z. turned z (opposite f.side)) fe in
    let em : c.magnitude.result ≡ magnitude t.factor = c.magnitude.ensures ∙ ap magnitude fe in
    let ex : c.at.result ≡ forced_weight f w t =
    c.at.ensures
    ∙ ap (λ s. w s c.term.inside.column) (c.opposite.ensures ∙ ap opposite es)
    ∙ ap (λ (z : Term). w (opposite (forced_side f t)) z.column) c.term.view_is in
    let ey : c.at-2.result ≡ w (forced_side f t) t.column =
    c.at-2.ensures ∙ ap (λ s. w s c.term.inside.column) es ∙ ap (λ (z : Term). w (forced_side f t) z.column) c.term.view_is in
    let ew =
    product_sum (magnitude t.factor) c.args.times (forced_weight f w t) (w (forced_side f t) t.column) c.magnitude.result em _ c.in_ok-product.ensures.0 c.in_ok-product.ensures.1 c.at.result ex _ c.in_ok-rest.ensures.0 c.in_ok-rest.ensures.1 c.at-2.result ey
    c.in_ok-weight.weight c.in_ok-weight.ensures.0 in (
      λ i. record { variable = ap (λ (z : Term). z.column) c.term.view_is i; side = es i; weight = ew i },
      product_all (magnitude t.factor) c.args.times (forced_weight f w t) (w (forced_side f t) t.column) c.magnitude.result em _ c.in_ok-product.ensures.0 c.in_ok-product.ensures.1 c.at.result ex _ c.in_ok-rest.ensures.0 c.in_ok-rest.ensures.1 c.at-2.result ey
          c.in_ok-weight.ensures.1,
    )
