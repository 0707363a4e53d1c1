use Rattle.std.proofs.Common.{sym, ap, ◌∙◌}
use Rattle.lp_model.specs.Program.{NamedRow, empty_row}
use Rattle.lp_model.specs.Shown.{named_row}
use Rattle.lp_model.proofs.Read.{shown_at}
use Rattle.lp_model.proofs.models.Model.row_name.Goals as goal

pub returns : goal.returns
returns c =
    let es = c.self.inside.rows in
    let r = shown_at (λ e. e.0) (λ e. named_row e.0 e.1) es c.args.index c.name.result.now empty_row c.name.ensures in
    rw (← c.self.view_is) (sym r.1 ∙ sym (ap (λ (row : NamedRow). row.name) r.2))
