use Rattle.std.proofs.Common.{sym, ◌∙◌}
use Rattle.table_oracle.specs.Value.{point}
use Rattle.table_oracle.proofs.Judged.{point_judged}
use Rattle.table_oracle.proofs.oracle.found.Goals as goal

pub returns-then-is_point-clause-answered : goal.returns-then-is_point-clause-answered
returns-then-is_point-clause-answered c = point_judged c.args.model.now c.args.set.now.members c.args.point (sym c.is_point.ensures ∙ c.if-is_point.true)

pub returns-then-is_point-clause-next : goal.returns-then-is_point-clause-next
returns-then-is_point-clause-next c = λ answers. (sym c.is_point.ensures ∙ c.if-is_point.true, point)
