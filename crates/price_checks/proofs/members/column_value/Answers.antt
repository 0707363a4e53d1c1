use Rattle.std.proofs.Common.{◌∙◌, ap, refl, length, List}
use Rattle.std.proofs.lemmas.List.{get_or_read_under}
use Rattle.rational.specs.Rational.{ℚ, zero_ℚ}
use Rattle.lp_model.specs.Satisfaction.{values_at}
use Rattle.certs.specs.Combination.{signed}
use Rattle.price_checks.proofs.Products.{column_told}
use Rattle.price_checks.proofs.members.column_value.Goals as goal

pub returns : goal.returns
returns c =
    let side = c.args.side in
    let j = c.args.column in
    let ys : List ℚ = c.args.values.now in
    let value = get_or_read_under ys j (length ys) c.index-values-column.result zero_ℚ c.index-values-column.is c.requires refl in
    column_told side j (values_at ys) c.whole-2.result c.signed-factor.result c.index-values-column.result c.whole-2.ensures (c.signed-factor.ensures ∙ ap (signed side) c.whole.ensures) value c.added.result c.added.ensures
