use Rattle.std.proofs.Common.{◌≡◌, ◌<◌, length, sym, subst, arith}
use Rattle.name_map.specs.Names.{names_of, name_at}
use Rattle.name_map.proofs.NameLists.{length_map}
use Rattle.lp_model.specs.Program.{Program}
use Rattle.lp_model.specs.Shown.{most_columns, column_names, CanAdd}
use Rattle.lp_reader.proofs.Fits.{column_fits}
use Rattle.lp_reader.proofs.building.put_columns.Goals as goal

pub put_column-requires-clause-fits : goal.put_column-requires-clause-fits
put_column-requires-clause-fits c =
    let names = names_of c.args.columns.now.names in
    let long : length names ≡ length c.args.columns.now.names = length_map (λ e. e.0) c.args.columns.now.names in
    let is = c.len-index-end.ensures.len in let on = c.loop-index-test.true in
    let within : c.loop-index.index < length names = omega arith in
    subst (λ (m : Program). CanAdd (column_names m) most_columns (name_at names c.loop-index.index)) (sym c.loop-index.invariant)
    (column_fits names most_columns c.len-index-end.ensures.distinct c.requires.few c.requires.short c.args.columns.now.bounds.items c.loop-index.index within)
