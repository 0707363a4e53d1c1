use Rattle.std.proofs.Common.{◌≡◌, ◌+◌, ◌∙◌, ap, refl}
use Rattle.std.proofs.lemmas.Result.{err_from_is_err_and}
use Rattle.rational.specs.Rational.{◌+ℚ◌, ◌-ℚ◌}
use Rattle.frac128.specs.declared.Op.TheVariants.{Plus, Minus}
use Rattle.lp_model.specs.declared.members.Side.TheVariants.{Lo, Up}
use Rattle.trace_back.specs.Held.{weights_in}
use Rattle.trace_back.proofs.Works.{row_first, row_second, row_third, row_last}
use Rattle.trace_back.proofs.taking.given_with.Goals as goal

pub returns-in_err-lower : goal.returns-in_err-lower
returns-in_err-lower c =
    let held = c.args.weights.now in
    let f = c.args.change.now.factor in
    let v = held.columns + c.args.change.now.row in
    let ex : c.at.result ≡ weights_in held Lo v = c.at.ensures ∙ ap (weights_in held Lo) c.variable-row.ensures in
    let p = err_from_is_err_and c.from_residual.result c.from_residual.ensures.1 in
    rw (p.1, p.2) (row_first Plus Minus (λ a b. a +ℚ b) (λ a b. a -ℚ b) f c.args.so_far (weights_in held Lo v) (weights_in held Up v) c.at.result (weights_in held Up v) ex refl _ c.in_err-lower.ensures)

pub returns-in_err-more : goal.returns-in_err-more
returns-in_err-more c =
    let held = c.args.weights.now in
    let f = c.args.change.now.factor in
    let v = held.columns + c.args.change.now.row in
    let ex : c.at.result ≡ weights_in held Lo v = c.at.ensures ∙ ap (weights_in held Lo) c.variable-row.ensures in
    let p = err_from_is_err_and c.from_residual-in_err-more.result c.from_residual-in_err-more.ensures.1 in
    rw (p.1, p.2)
    (row_second Plus Minus (λ a b. a +ℚ b) (λ a b. a -ℚ b) f c.args.so_far (weights_in held Lo v) (weights_in held Up v) c.at.result (weights_in held Up v) ex refl _ c.in_ok-lower.ensures.0 c.in_ok-lower.ensures.1 _ c.in_err-more.ensures)

pub returns-in_err-upper : goal.returns-in_err-upper
returns-in_err-upper c =
    let held = c.args.weights.now in
    let f = c.args.change.now.factor in
    let v = held.columns + c.args.change.now.row in
    let ex : c.at.result ≡ weights_in held Lo v = c.at.ensures ∙ ap (weights_in held Lo) c.variable-row.ensures in
    let ey : c.at-2.result ≡ weights_in held Up v = c.at-2.ensures ∙ ap (weights_in held Up) c.variable-row.ensures in
    let p = err_from_is_err_and c.from_residual-in_err-upper.result c.from_residual-in_err-upper.ensures.1 in
    rw (p.1, p.2)
    (row_third Plus Minus (λ a b. a +ℚ b) (λ a b. a -ℚ b) f c.args.so_far (weights_in held Lo v) (weights_in held Up v) c.at.result c.at-2.result ex ey _ c.in_ok-lower.ensures.0 c.in_ok-lower.ensures.1 _ c.in_ok-more.ensures.0 c.in_ok-more.ensures.1 _ c.in_err-upper.ensures)

pub returns : goal.returns
returns c =
    let held = c.args.weights.now in
    let f = c.args.change.now.factor in
    let v = held.columns + c.args.change.now.row in
    let ex : c.at.result ≡ weights_in held Lo v = c.at.ensures ∙ ap (weights_in held Lo) c.variable-row.ensures in
    let ey : c.at-2.result ≡ weights_in held Up v = c.at-2.ensures ∙ ap (weights_in held Up) c.variable-row.ensures in
    row_last Plus Minus (λ a b. a +ℚ b) (λ a b. a -ℚ b) f c.args.so_far (weights_in held Lo v) (weights_in held Up v) c.at.result c.at-2.result ex ey _ c.in_ok-lower.ensures.0 c.in_ok-lower.ensures.1 _ c.in_ok-more.ensures.0 c.in_ok-more.ensures.1
    _ c.in_ok-upper.ensures.0 c.in_ok-upper.ensures.1 c.difference.result c.difference.ensures
