use Rattle.std.proofs.Common.{◌+◌, length, map, refl, subst}
use Rattle.std.proofs.lemmas.Result.{err_from_is_err_and}
use Rattle.lp_reader.specs.declared.bounds.Said.{Said}
use Rattle.name_map.specs.Names.{names_of}
use Rattle.lp_reader.specs.Numbers.{side_of}
use Rattle.lp_reader.specs.Names.{row_name}
use Rattle.lp_reader.specs.Sides.{PutsRow, ended_row}
use Rattle.std.specs.Option.{option_map}
use Rattle.lp_statements.specs.Statements.{shown_text, shown_term, shown_constant}
use Rattle.lp_reader.proofs.Taking.{row_label_fails, row_left_fails, row_terms_fail, row_end_fails, row_none}
use Rattle.lp_reader.proofs.Holding.{hold_row}
use Rattle.lp_reader.proofs.reader.take_row.Goals as goal

pub returns-in_err-check_label : goal.returns-in_err-check_label
returns-in_err-check_label c = λ front holds.
    let p = err_from_is_err_and c.from_residual.result c.from_residual.ensures.1 in
    rw (p.1, p.2) (row_label_fails c.args.reader.now front holds (option_map shown_text c.args.label) (option_map shown_constant c.args.left) (map shown_term c.args.terms.now) c.args.relation (shown_constant c.args.right) c.in_err-check_label.field-0.0 c.in_err-check_label.ensures)

pub returns-in_err-left_said : goal.returns-in_err-left_said
returns-in_err-left_said c = λ front holds.
    let p = err_from_is_err_and c.from_residual-in_err-left_said.result c.from_residual-in_err-left_said.ensures.1 in
    rw (p.1, p.2) (row_left_fails c.args.reader.now front holds (option_map shown_text c.args.label) (option_map shown_constant c.args.left) (map shown_term c.args.terms.now) c.args.relation (shown_constant c.args.right) c.in_err-left_said.field-0.0 c.in_ok-check_label.ensures c.in_err-left_said.ensures)

pub returns-in_err-form : goal.returns-in_err-form
returns-in_err-form c = λ front holds.
    let p = err_from_is_err_and c.from_residual-in_err-form.result c.from_residual-in_err-form.ensures.1 in
    rw (p.1, p.2) (row_terms_fail c.args.reader.now front holds (option_map shown_text c.args.label) (option_map shown_constant c.args.left) (map shown_term c.args.terms.now) c.args.relation (shown_constant c.args.right) c.in_err-form.field-0.0 c.in_ok-check_label.ensures c.in_ok-left_said.ensures.0 c.in_err-form.ensures)

pub returns-in_err-end_row : goal.returns-in_err-end_row
returns-in_err-end_row c = λ front holds.
    let p = err_from_is_err_and c.from_residual-in_err-end_row.result c.from_residual-in_err-end_row.ensures.1 in
    rw (p.1, p.2) (row_end_fails c.args.reader.now front holds (option_map shown_text c.args.label) (option_map shown_constant c.args.left) (map shown_term c.args.terms.now) c.args.relation (shown_constant c.args.right) c.in_err-end_row.field-0.0 c.in_ok-check_label.ensures c.in_ok-left_said.ensures.0 c.in_ok-form.ensures.no_fault c.in_err-end_row.ensures)

pub returns : goal.returns
returns c = λ front holds.
    let label = option_map shown_text c.args.label in let left = option_map shown_constant c.args.left in let terms = map shown_term c.args.terms.now in let right = shown_constant c.args.right in (
      row_none c.args.reader.now front holds label left terms c.args.relation right c.in_ok-check_label.ensures c.in_ok-left_said.ensures.0 c.in_ok-form.ensures.no_fault c.in_ok-end_row.ensures.0,
      hold_row c.args.reader.now _ front label left terms c.args.relation right c.in_ok-form.form holds c.in_ok-form.ensures
          (subst (λ (l : Said). PutsRow c.args.reader.now.rows c.end_row.new.rows (row_name (length (names_of c.args.reader.now.rows.names) + 1) label) (ended_row c.in_ok-form.form c.args.relation l (side_of right)))
          c.in_ok-left_said.ensures.1 c.in_ok-end_row.ensures.1) refl refl,
    )
