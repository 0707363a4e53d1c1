use Rattle.std.proofs.Common.{sym, ap, ◌∙◌}
use Rattle.lp_model.specs.Program.{NamedRow, empty_row}
use Rattle.lp_model.specs.Shown.{named_row}
use Rattle.lp_model.proofs.Read.{shown_at}
use Rattle.lp_model.proofs.models.Model.row.Goals as goal

pub returns : goal.returns
returns c =
    let es = c.self.inside.rows in
    let r = shown_at (λ e. e.1) (λ e. named_row e.0 e.1) es c.args.index c.value.result.now empty_row c.value.ensures in
    rw (← c.self.view_is)
    (r.2 ∙ (ap (named_row r.0.0) r.1 ∙ ap (λ name. named_row name c.value.result.now) (sym (ap (λ (row : NamedRow). row.name) r.2))))
