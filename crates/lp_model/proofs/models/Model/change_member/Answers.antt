use Rattle.std.proofs.Common.{◌∙◌, sym, ap, subst}
use Rattle.lp_model.specs.Edits.{changed_mark, done, where_there, with_column}
use Rattle.lp_model.specs.Program.{column_at, NamedColumn, IsWellFormedColumn}
use Rattle.lp_model.proofs.Edited.{column_formed}
use Rattle.lp_model.proofs.Changed.{there_mark, mark_changed_fits}
use Rattle.lp_model.proofs.models.Model.change_member.Goals as goal

pub change_column-requires-clause-fitting : goal.change_column-requires-clause-fitting
change_column-requires-clause-fitting c =
    let j = c.in-Whole.column in
    let column = column_at c.args.self.now j in
    let formed = column_formed c.args.self.now.columns j c.row_count-rows.ensures.well_formed.columns in
    let same = c.with_mark_changed-changed.ensures column.name ∙ ap (λ k. changed_mark k c.args.change) (sym c.column.ensures) in
    subst (λ (k : NamedColumn). IsWellFormedColumn k) (sym same) (mark_changed_fits column c.args.change formed)

pub returns-in-Whole-clause-made : goal.returns-in-Whole-clause-made
returns-in-Whole-clause-made c =
    let j = c.in-Whole.column in
    let column = column_at c.args.self.now j in
    let same = c.with_mark_changed-changed.ensures column.name ∙ ap (λ k. changed_mark k c.args.change) (sym c.column.ensures) in
    c.change_column.ensures.made
    ∙ ap (with_column c.args.self.now j) same
    ∙ sym (there_mark c.args.self.now j c.args.change c.requires.own)
    ∙ ap (where_there (done c.args.change) c.args.self.now) (sym c.in-Whole.is)
