use Rattle.std.proofs.Common.{◌≡◌, ℕ, suc, ◌+◌, ◌<◌, ◌∷◌, List, length, drop, get_or, sym, ap, ◌∙◌, subst, arith}
use Rattle.name_map.specs.Names.{names_of}
use Rattle.name_map.proofs.NameLists.{length_map}
use Rattle.lp_model.specs.declared.parts.Row.{Row}
use Rattle.lp_model.specs.Program.{Program, IsWellFormedRow}
use Rattle.lp_model.specs.Shown.{named_row, with_more_row, most_rows, row_names, CanAdd}
use Rattle.lp_reader.specs.Building.{no_row, rows_listed}
use Rattle.lp_reader.proofs.Columned.{name_is}
use Rattle.lp_reader.proofs.Fits.{row_fits, left_first, left_rest}
use Rattle.lp_reader.proofs.building.put_rows.Goals as goal

pub put_row-requires-clause-formed : goal.put_row-requires-clause-formed
put_row-requires-clause-formed c =
    let items = c.args.rows.items in let is = c.len-index-end.ensures.len in let on = c.loop-index-test.true in let even = c.requires.even in
    let within : c.loop-index.index < length items = omega arith in
    let row_is : c.in-Some.row ≡ get_or items c.loop-index.index no_row = left_first items c.loop-index.index no_row c.in-Some.row c.next.new.self.rest.items (sym c.loop-index.invariant.left ∙ c.in-Some.ensures.cases.0) within in
    subst (λ (m : Program). IsWellFormedRow (length m.columns) (named_row c.name.result.now c.in-Some.row)) (sym c.loop-index.invariant.model)
    (subst (λ (r : Row). IsWellFormedRow (length c.args.model.now.columns) (named_row c.name.result.now r)) (sym row_is) (c.requires.formed c.loop-index.index within c.name.result.now))

pub put_row-requires-clause-fits : goal.put_row-requires-clause-fits
put_row-requires-clause-fits c =
    let names = names_of c.args.names.now in
    let long : length names ≡ length c.args.names.now = length_map (λ e. e.0) c.args.names.now in
    let is = c.len-index-end.ensures.len in let on = c.loop-index-test.true in
    let within : c.loop-index.index < length names = omega arith in
    subst (λ (m : Program). CanAdd (row_names m) most_rows c.name.result.now) (sym c.loop-index.invariant.model)
    (subst (λ (name : List ℕ). CanAdd (row_names (record c.args.model.now { rows = rows_listed names c.args.rows.items c.loop-index.index })) most_rows name) (sym (name_is names c.loop-index.index c.name.result.now c.name.ensures))
    (row_fits names most_rows c.len-index-end.ensures.distinct c.requires.few c.requires.short c.args.rows.items c.loop-index.index within))

pub loop-index-preserved : goal.loop-index-preserved
loop-index-preserved c =
    let items = c.args.rows.items in let names = names_of c.args.names.now in let i = c.loop-index.index in
    let is = c.len-index-end.ensures.len in let on = c.loop-index-test.true in let even = c.requires.even in
    let within : i < length items = omega arith in
    let first : drop i items ≡ c.in-Some.row ∷ c.next.new.self.rest.items = sym c.loop-index.invariant.left ∙ c.in-Some.ensures.cases.0 in
    let row_is : c.in-Some.row ≡ get_or items i no_row = left_first items i no_row c.in-Some.row c.next.new.self.rest.items first within in
    let name = name_is names i c.name.result.now c.name.ensures in
    let next : suc i ≡ i + 1 = omega arith in
    record {
      model = c.in_ok-put_row.ensures ∙ (λ k. with_more_row (c.loop-index.invariant.model k) (named_row (name k) (row_is k))) ∙ ap (λ (n : ℕ). let p : Program = record c.args.model.now { rows = rows_listed names items n } in p) next;
      left = left_rest items i no_row c.in-Some.row c.next.new.self.rest.items first within;
      count = let less = c.in-Some.ensures.cases.1 in let before = c.loop-index.invariant.count in omega arith;
    }
