use Rattle.std.proofs.Common.{ap, ◌∙◌, subst}
use Rattle.std.proofs.lemmas.Result.{err_from_is_err_and}
use Rattle.name_map.specs.Names.{names_of}
use Rattle.lp_model.specs.declared.parts.Row.{Row}
use Rattle.lp_statements.specs.Statements.{shown_text, shown_constant}
use Rattle.lp_reader.specs.Sides.{PutsRow, ended_row}
use Rattle.lp_reader.proofs.EndRows.{label_fresh, label_room, label_short, labelled_fault, labelled_none}
use Rattle.lp_reader.proofs.rows.end_labelled.Goals as goal

pub returns-in_err-side : goal.returns-in_err-side
returns-in_err-side c =
    let p = err_from_is_err_and c.from_residual.result c.from_residual.ensures.1 in
    rw (p.1, p.2) (labelled_fault (names_of c.args.rows.now.names) (shown_text c.args.label) (shown_constant c.args.right) c.in_err-side.field-0.0 c.in_err-side.ensures)

pub put_row-requires-clause-fresh : goal.put_row-requires-clause-fresh
put_row-requires-clause-fresh c = label_fresh (names_of c.args.rows.now.names) (shown_text c.args.label) c.requires

pub put_row-requires-clause-room : goal.put_row-requires-clause-room
put_row-requires-clause-room c = label_room (names_of c.args.rows.now.names) (shown_text c.args.label) c.requires

pub put_row-requires-clause-short : goal.put_row-requires-clause-short
put_row-requires-clause-short c = label_short (names_of c.args.rows.now.names) (shown_text c.args.label) c.requires

pub returns : goal.returns
returns c = (
  labelled_none (names_of c.args.rows.now.names) (shown_text c.args.label) (shown_constant c.args.right) c.in_ok-side.ensures.0,
  subst (λ (row : Row). PutsRow c.args.rows.now c.put_row.new.rows c.args.label.bytes.now row) (c.make_row.ensures ∙ ap (ended_row c.args.form c.args.relation c.args.left.now) c.in_ok-side.ensures.1) c.in_ok-put_row.ensures,
)
