use Rattle.std.proofs.Common.{[], sym, ◌∙◌, ap}
use Rattle.frac128.specs.Limit.{limit}
use Rattle.frac128.specs.Width.{operation, is_wide}
use Rattle.frac128.specs.declared.Op.TheVariants.{Over}
use Rattle.presolve.proofs.Narrow.{narrow_one, wide_here}
use Rattle.presolve.proofs.eliminating.quotient.Goals as goal

pub returns-in-Ok : goal.returns-in-Ok
returns-in-Ok c = (c.in-Ok.ensures.0, narrow_one (operation Over c.args.number c.args.divisor) c.in-Ok.ensures.1)

pub returns-in-Err : goal.returns-in-Err
returns-in-Err c = wide_here (operation Over c.args.number c.args.divisor) [] (ap (is_wide limit) (sym c.in-Err.ensures.0) ∙ c.in-Err.ensures.1)
