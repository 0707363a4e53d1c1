use Rattle.std.proofs.Common.{sym, ◌∙◌}
use Rattle.alt_polyhedron.proofs.Factors.{other_factor, own_factor}
use Rattle.alt_polyhedron.proofs.counting.unit_factor.Goals as goal

pub returns-then-own-column : goal.returns-then-own-column
returns-then-own-column c = c.whole.ensures ∙ sym (own_factor c.args.own c.args.column c.if-own-column.true)

pub returns-else-own-column : goal.returns-else-own-column
returns-else-own-column c = c.whole-else-own-column.ensures ∙ sym (other_factor c.args.own c.args.column c.if-own-column.false)
