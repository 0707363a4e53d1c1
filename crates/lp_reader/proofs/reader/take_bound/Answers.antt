use Rattle.std.proofs.Common.{◌≡◌, ◌∙◌, false, refl, subst}
use Rattle.std.proofs.lemmas.Result.{err_from_is_err_and}
use Rattle.lp_reader.specs.declared.bounds.Said.{Said}
use Rattle.lp_reader.specs.Bounds.{said_by}
use Rattle.lp_reader.specs.Said.{lower_by, upper_by, SetsBounds}
use Rattle.std.specs.Option.{option_map}
use Rattle.lp_statements.specs.Statements.{shown_text, shown_constant}
use Rattle.lp_reader.proofs.Taking.{bound_left_fails, bound_name_fails, bound_right_fails, bound_none, bound_taken}
use Rattle.lp_reader.proofs.reader.take_bound.Goals as goal

pub returns-in_err-left_said : goal.returns-in_err-left_said
returns-in_err-left_said c = λ front holds.
    let p = err_from_is_err_and c.from_residual.result c.from_residual.ensures.1 in
    rw (p.1, p.2) (bound_left_fails c.args.reader.now front holds (option_map shown_constant c.args.left) (shown_text c.args.name) c.args.relation (option_map shown_constant c.args.right) c.in_err-left_said.field-0.0 c.in_err-left_said.ensures)

pub returns-in_err-column : goal.returns-in_err-column
returns-in_err-column c = λ front holds.
    let p = err_from_is_err_and c.from_residual-in_err-column.result c.from_residual-in_err-column.ensures.1 in
    rw (p.1, p.2) (bound_name_fails c.args.reader.now front holds (option_map shown_constant c.args.left) (shown_text c.args.name) c.args.relation (option_map shown_constant c.args.right) c.in_err-column.field-0.0 c.in_ok-left_said.ensures.0 c.in_err-column.ensures)

pub returns-in_err-right_said : goal.returns-in_err-right_said
returns-in_err-right_said c = λ front holds.
    let p = err_from_is_err_and c.from_residual-in_err-right_said.result c.from_residual-in_err-right_said.ensures.1 in
    rw (p.1, p.2) (bound_right_fails c.args.reader.now front holds (option_map shown_constant c.args.left) (shown_text c.args.name) c.args.relation (option_map shown_constant c.args.right) c.in_err-right_said.field-0.0 c.in_ok-left_said.ensures.0 c.in_ok-column.ensures.0 c.in_err-right_said.ensures)

pub returns : goal.returns
returns c = λ front holds.
    let left = option_map shown_constant c.args.left in let name = shown_text c.args.name in let right = option_map shown_constant c.args.right in
    let lower : c.lower_said-lower.result ≡ lower_by (said_by left) c.args.relation (said_by right) = c.lower_said-lower.ensures ∙ (λ i. lower_by (c.in_ok-left_said.ensures.1 i) c.args.relation (c.in_ok-right_said.ensures.1 i)) in
    let upper : c.upper_said-upper.result ≡ upper_by (said_by left) c.args.relation (said_by right) = c.upper_said-upper.ensures ∙ (λ i. upper_by (c.in_ok-left_said.ensures.1 i) c.args.relation (c.in_ok-right_said.ensures.1 i)) in (
      bound_none c.args.reader.now front holds left name c.args.relation right c.in_ok-left_said.ensures.0 c.in_ok-column.ensures.0 c.in_ok-right_said.ensures.0,
      bound_taken c.args.reader.now front holds _ left name c.args.relation right c.in_ok-column.column c.in_ok-column.ensures.1
          (subst (λ (b : Said × Said). SetsBounds c.args.reader.now.columns c.set_bounds.new.columns c.in_ok-column.column b.0 b.1 false) (λ i. (lower i, upper i)) c.set_bounds.ensures) refl refl refl refl,
    )
