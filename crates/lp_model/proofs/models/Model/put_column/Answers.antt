use Rattle.std.proofs.Common.{◌∙◌, sym, ap, subst, map, refl}
use Rattle.lp_model.specs.Program.{Program, column_at, IsWellFormedColumn}
use Rattle.lp_model.specs.Shown.{named_column, IsKept}
use Rattle.lp_model.specs.contracts.models.Model.{the_view}
use Rattle.lp_model.proofs.Changed.{column_shown, kept_column}
use Rattle.lp_model.proofs.models.Model.put_column.Goals as goal

pub invariant_of-self : goal.invariant_of-self
invariant_of-self c =
    let view = the_view c.self.inside in
    let fits = subst (λ (p : Program). IsWellFormedColumn (named_column (column_at p c.args.index).name c.args.column)) (sym c.self.view_is) c.requires.fitting in
    let shown = ap (map (λ e. named_column e.0 e.1)) c.replace.ensures.put ∙ column_shown c.self.inside.columns c.args.index c.args.column in
    subst (λ columns. IsKept (record view { columns = columns })) (sym shown) (kept_column view c.args.index (named_column (column_at view c.args.index).name c.args.column) c.self.invariant refl fits)

pub returns : goal.returns
returns c =
    let view = the_view c.self.inside in
    let shown = ap (map (λ e. named_column e.0 e.1)) c.replace.ensures.put ∙ column_shown c.self.inside.columns c.args.index c.args.column in
    rw (← c.self.view_is) (ap (λ columns. record view { columns = columns }) shown)
