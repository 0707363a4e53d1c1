use Rattle.std.proofs.Common.{[], ◌∷◌, sym, ◌∙◌, ap}
use Rattle.rational.specs.Rational.{◌-ℚ◌, ◌*ℚ◌}
use Rattle.frac128.specs.Limit.{limit}
use Rattle.frac128.specs.Width.{operation, is_wide}
use Rattle.frac128.specs.declared.Op.TheVariants.{Minus, Times}
use Rattle.presolve.proofs.Narrow.{narrow_one, narrow_next, wide_here}
use Rattle.presolve.proofs.eliminating.less_product.Goals as goal

pub returns-in_default : goal.returns-in_default
returns-in_default c =
    wide_here (operation Times c.args.left c.args.right) (operation Minus c.args.number (c.args.left *ℚ c.args.right) ∷ [])
    (ap (is_wide limit) (sym c.in_default.ensures.0) ∙ c.in_default.ensures.1)

pub returns-in-Ok-minus : goal.returns-in-Ok-minus
returns-in-Ok-minus c =
    let p = c.in-Ok.ensures in
    let product = c.args.left *ℚ c.args.right in (
      c.in-Ok-minus.ensures.0 ∙ ap (λ z. c.args.number -ℚ z) p.0,
      narrow_next (operation Times c.args.left c.args.right) (operation Minus c.args.number product ∷ []) p.1
          ∙ narrow_one (operation Minus c.args.number product) (ap (λ z. is_wide limit (operation Minus c.args.number z)) (sym p.0) ∙ c.in-Ok-minus.ensures.1),
    )

pub returns-in-Err : goal.returns-in-Err
returns-in-Err c =
    let p = c.in-Ok.ensures in
    let product = c.args.left *ℚ c.args.right in
    narrow_next (operation Times c.args.left c.args.right) (operation Minus c.args.number product ∷ []) p.1
    ∙ wide_here (operation Minus c.args.number product) []
    (ap (λ z. is_wide limit (operation Minus c.args.number z)) (sym p.0) ∙ ap (is_wide limit) (sym c.in-Err.ensures.0) ∙ c.in-Err.ensures.1)
