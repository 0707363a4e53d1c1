use Rattle.std.proofs.Common.{◌∙◌, sym, ap}
use Rattle.lp_model.specs.Edits.{Sides, lower_part, upper_part}
use Rattle.lp_model.specs.Program.{row_at}
use Rattle.lp_model.proofs.models.Model.former_sides.Goals as goal

pub returns : goal.returns
returns c =
    let row = row_at c.args.self.now c.args.row in
    ap (λ p. Sides c.args.row p c.upper_side.result) (c.lower_side.ensures row.name ∙ ap lower_part (sym c.row-held.ensures))
    ∙ ap (Sides c.args.row (lower_part row)) (c.upper_side.ensures row.name ∙ ap upper_part (sym c.row-held.ensures))
