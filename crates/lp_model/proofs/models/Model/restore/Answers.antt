use Rattle.std.proofs.Common.{subst, length}
use Rattle.std.proofs.lemmas.List.{get_or-set_same}
use Rattle.lp_model.specs.Edits.{with_sides, put_back, IsKnownFormer}
use Rattle.lp_model.specs.Program.{NamedRow, NamedColumn, row_at, column_at, empty_row, empty_column, IsWellFormed, IsWellFormedRow, IsWellFormedColumn}
use Rattle.lp_model.specs.Shown.{named_column}
use Rattle.lp_model.proofs.Edited.{row_formed, column_formed}
use Rattle.lp_model.proofs.models.Model.restore.Goals as goal

pub put_sides-requires-clause-fitting : goal.put_sides-requires-clause-fitting
put_sides-requires-clause-fitting c =
    let model = c.args.self.now in
    let i = c.in-Sides.row in
    let row = with_sides (row_at model i) c.in-Sides.lower c.in-Sides.upper in
    let within = subst (IsKnownFormer model) c.in-Sides.is c.requires.known in
    let formed = subst (λ f. IsWellFormed (put_back model f)) c.in-Sides.is c.requires.fitting in
    subst (λ (r : NamedRow). IsWellFormedRow (length model.columns) r) (get_or-set_same model.rows i row empty_row within) (row_formed (length model.columns) _ i formed.rows)

pub put_column-requires-clause-fitting : goal.put_column-requires-clause-fitting
put_column-requires-clause-fitting c =
    let model = c.args.self.now in
    let j = c.in-Bounds.index in
    let column = named_column (column_at model j).name c.in-Bounds.column in
    let within = subst (IsKnownFormer model) c.in-Bounds.is c.requires.known in
    let formed = subst (λ f. IsWellFormed (put_back model f)) c.in-Bounds.is c.requires.fitting in
    subst (λ (k : NamedColumn). IsWellFormedColumn k) (get_or-set_same model.columns j column empty_column within) (column_formed _ j formed.columns)
