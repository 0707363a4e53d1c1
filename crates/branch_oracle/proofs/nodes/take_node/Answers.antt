use Rattle.std.proofs.Common.{◌∙◌, ap, length}
use Rattle.lp_model.specs.Program.{Program}
use Rattle.branch_oracle.proofs.Values.{point_each}
use Rattle.branch_oracle.proofs.nodes.take_node.Goals as goal

pub step_at-requires-clause-each : goal.step_at-requires-clause-each
step_at-requires-clause-each g c =
    point_each (g.B.Oracle.state c.args.inner.now).model c.args.set.now.members c.args.path.now (g.B.Oracle.state c.args.inner.now).budgets.pivots c.in_ok-point.field-0 c.in-Point.point c.in-Point.is c.in_ok-point.ensures.end ∙ ap (λ (m : Program). length m.columns) c.requires.program
