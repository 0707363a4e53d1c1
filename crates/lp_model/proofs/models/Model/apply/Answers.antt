use Rattle.std.proofs.Common.{◌∙◌, sym, ap, subst}
use Rattle.lp_model.specs.Edits.{edited, marked, with_column}
use Rattle.lp_model.specs.Program.{column_at, NamedColumn, IsWellFormedColumn}
use Rattle.lp_model.proofs.Edited.{column_formed}
use Rattle.lp_model.proofs.Changed.{mark_fits}
use Rattle.lp_model.proofs.models.Model.apply.Goals as goal

pub change_column-requires-clause-fitting : goal.change_column-requires-clause-fitting
change_column-requires-clause-fitting c =
    let j = c.in-SetMark.column in
    let column = column_at c.args.self.now j in
    let formed = column_formed c.args.self.now.columns j c.row_count-rows.ensures.well_formed.columns in
    let same = c.with_mark-marked.ensures column.name ∙ ap (λ k. marked k c.in-SetMark.whole) (sym c.column.ensures) in
    subst (λ (k : NamedColumn). IsWellFormedColumn k) (sym same) (mark_fits column c.in-SetMark.whole formed)

pub returns-in-SetMark-clause-made : goal.returns-in-SetMark-clause-made
returns-in-SetMark-clause-made c =
    let j = c.in-SetMark.column in
    let column = column_at c.args.self.now j in
    let same = c.with_mark-marked.ensures column.name ∙ ap (λ k. marked k c.in-SetMark.whole) (sym c.column.ensures) in
    c.change_column.ensures.made ∙ ap (with_column c.args.self.now j) same ∙ ap (edited c.args.self.now) (sym c.in-SetMark.is)
