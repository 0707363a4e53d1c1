use Rattle.std.proofs.Common.{sym, ap, ◌∙◌, None}
use Rattle.mps_reader.specs.Sides.{row_sides}
use Rattle.mps_reader.proofs.sides.sides_of.Goals as goal

pub returns-in_default : goal.returns-in_default
unfolding row_sides
returns-in_default c = ap (λ right. row_sides c.args.kind right None) (sym c.in_default.is)

pub returns : goal.returns
unfolding row_sides
returns c = c.plain.ensures ∙ ap (λ right. row_sides c.args.kind right None) (sym c.in-Some.is)
