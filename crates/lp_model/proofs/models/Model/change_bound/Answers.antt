use Rattle.std.proofs.Common.{◌≡◌, ◌∙◌, sym, ap, subst}
use Rattle.lp_model.specs.Edits.{changed_bound, changed_bounds, with_column}
use Rattle.lp_model.specs.declared.edits.Change.TheVariants.{Nothing}
use Rattle.lp_model.specs.Program.{column_at, NamedColumn, IsWellFormedColumn}
use Rattle.lp_model.specs.Shown.{named_column}
use Rattle.lp_model.proofs.Edited.{column_formed}
use Rattle.lp_model.proofs.Changed.{bound_fits}
use Rattle.lp_model.proofs.models.Model.change_bound.Goals as goal
use Rattle.lp_model.proofs.models.Model.change_bound.Goals.{in-Lo, in-Up}

pub change_column-requires-clause-fitting : goal.change_column-requires-clause-fitting
change_column-requires-clause-fitting c =
    let column = column_at c.args.self.now c.args.column in
    let formed = column_formed c.args.self.now.columns c.args.column c.row_count-rows.ensures.well_formed.columns in
    let same : named_column column.name c.match-side.changed ≡ changed_bound column c.args.side c.args.change =
    (elim c.match-side.branch [
      | in-Lo w ↦ ap (named_column column.name) w.changed-is ∙ w.with_bounds-changed.ensures column.name ∙ ap (λ k. changed_bounds k c.args.change Nothing) (sym c.column-former.ensures) ∙ ap (λ s. changed_bound column s c.args.change) (sym w.in-Lo.is)
      | in-Up w ↦ ap (named_column column.name) w.changed-is ∙ w.with_bounds-changed-in-Up.ensures column.name ∙ ap (λ k. changed_bounds k Nothing c.args.change) (sym c.column-former.ensures) ∙ ap (λ s. changed_bound column s c.args.change) (sym w.in-Up.is)
    ]) in
    subst (λ (k : NamedColumn). IsWellFormedColumn k) (sym same) (bound_fits column c.args.side c.args.change c.requires.fitting formed)

pub returns-clause-made : goal.returns-clause-made
returns-clause-made c =
    let column = column_at c.args.self.now c.args.column in
    c.change_column.ensures.made ∙ ap (with_column c.args.self.now c.args.column) (elim c.match-side.branch [
      | in-Lo w ↦ ap (named_column column.name) w.changed-is ∙ w.with_bounds-changed.ensures column.name ∙ ap (λ k. changed_bounds k c.args.change Nothing) (sym c.column-former.ensures) ∙ ap (λ s. changed_bound column s c.args.change) (sym w.in-Lo.is)
      | in-Up w ↦ ap (named_column column.name) w.changed-is ∙ w.with_bounds-changed-in-Up.ensures column.name ∙ ap (λ k. changed_bounds k Nothing c.args.change) (sym c.column-former.ensures) ∙ ap (λ s. changed_bound column s c.args.change) (sym w.in-Up.is)
    ])
