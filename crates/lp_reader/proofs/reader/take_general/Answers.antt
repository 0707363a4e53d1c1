use Rattle.std.proofs.Common.{false, refl}
use Rattle.std.proofs.lemmas.Result.{err_from_is_err_and}
use Rattle.lp_statements.specs.Statements.{shown_text}
use Rattle.lp_reader.proofs.Taking.{listed_fails, general_taken}
use Rattle.lp_reader.proofs.reader.take_general.Goals as goal

pub returns-in_err-column : goal.returns-in_err-column
returns-in_err-column c = λ front holds.
    let p = err_from_is_err_and c.from_residual.result c.from_residual.ensures.1 in
    rw (p.1, p.2) (listed_fails c.args.reader.now front holds false (shown_text c.args.name) c.in_err-column.field-0.0 c.in_err-column.ensures)

pub returns : goal.returns
returns c = λ front holds. general_taken c.args.reader.now front holds _ (shown_text c.args.name) c.in_ok-column.column c.in_ok-column.ensures.1 c.set_bounds.ensures c.in_ok-column.ensures.0 refl refl refl refl
