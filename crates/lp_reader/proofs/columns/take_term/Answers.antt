use Rattle.std.proofs.lemmas.Result.{err_from_is_err_and}
use Rattle.lp_statements.specs.Statements.{shown_term}
use Rattle.lp_reader.proofs.Terms.{term_taken, no_term_fault, wide_term}
use Rattle.lp_reader.proofs.columns.take_term.Goals as goal

pub returns : goal.returns
returns c = λ before holds.
    let old = c.args.columns.now in let new = c.column_for.new.columns in let t = shown_term c.args.term in (
      no_term_fault old new before t c.in_ok-value.value c.in_ok-column.column c.args.sums.now.entries holds c.in_ok-column.ensures.1 c.in_ok-value.ensures.1 c.in_ok-value.ensures.0 c.in_ok-column.ensures.0 c.in_ok-add_sum.ensures.0,
      term_taken old new before t c.in_ok-value.value c.in_ok-column.column c.args.sums.now.entries holds c.in_ok-column.ensures.1 c.in_ok-value.ensures.1 c.add_sum.new.sums.entries c.in_ok-add_sum.ensures.1,
    )

pub returns-in_err-add_sum : goal.returns-in_err-add_sum
returns-in_err-add_sum c =
    let p = err_from_is_err_and c.from_residual-in_err-add_sum.result c.from_residual-in_err-add_sum.ensures.1 in
    rw (p.1, p.2) (λ before holds.
    let old = c.args.columns.now in let new = c.column_for.new.columns in let t = shown_term c.args.term in
    wide_term old new before t c.in_ok-value.value c.in_ok-column.column c.args.sums.now.entries holds c.in_ok-column.ensures.1 c.in_ok-value.ensures.1 c.in_err-add_sum.field-0.0 c.in_ok-value.ensures.0 c.in_ok-column.ensures.0 c.in_err-add_sum.ensures)
