use Rattle.std.proofs.Common.{sym, ◌∙◌, ap, subst}
use Rattle.name_map.specs.Names.{names_of}
use Rattle.lp_model.specs.declared.parts.Column.{Column}
use Rattle.lp_model.specs.Program.{IsWellFormedColumn}
use Rattle.lp_model.specs.Shown.{named_column, new_column, with_more_column}
use Rattle.lp_reader.proofs.Columned.{column_formed, name_is}
use Rattle.lp_reader.proofs.building.put_column.Goals as goal

pub add_column-requires : goal.add_column-requires
add_column-requires c =
    subst (λ (column : Column). IsWellFormedColumn (named_column c.name.result.now column)) (sym c.new-column.ensures) (column_formed c.name.result.now c.bounds_at-bounds.result)

pub returns-in-Ok : goal.returns-in-Ok
returns-in-Ok c =
    let column = c.new-column.ensures ∙ ap (λ b. new_column b.lo b.up b.whole) c.bounds_at-bounds.ensures in
    c.in-Ok.ensures.answer.2 ∙ (λ i. with_more_column c.args.model.now (named_column (name_is (names_of c.args.columns.now.names) c.args.index c.name.result.now c.name.ensures i) (column i)))
