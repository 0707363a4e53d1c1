use Rattle.std.proofs.Common.{sym, ap, ◌∙◌}
use Rattle.lp_model.specs.Program.{NamedColumn, empty_column}
use Rattle.lp_model.specs.Shown.{named_column}
use Rattle.lp_model.proofs.Read.{shown_at}
use Rattle.lp_model.proofs.models.Model.column.Goals as goal

pub returns : goal.returns
returns c =
    let es = c.self.inside.columns in
    let r = shown_at (λ e. e.1) (λ e. named_column e.0 e.1) es c.args.index c.value.result.now empty_column c.value.ensures in
    rw (← c.self.view_is)
    (r.2 ∙ (ap (named_column r.0.0) r.1 ∙ ap (λ name. named_column name c.value.result.now) (sym (ap (λ (row : NamedColumn). row.name) r.2))))
