use Rattle.std.proofs.Common.{map, refl}
use Rattle.std.proofs.lemmas.Result.{err_from_is_err_and}
use Rattle.std.specs.Option.{option_map}
use Rattle.lp_statements.specs.Statements.{shown_text, shown_term}
use Rattle.lp_reader.proofs.Taking.{objective_label_fails, objective_terms_fail, objective_none}
use Rattle.lp_reader.proofs.Holding.{hold_objective}
use Rattle.lp_reader.proofs.reader.take_objective.Goals as goal

pub returns-in_err-check_objective_label : goal.returns-in_err-check_objective_label
returns-in_err-check_objective_label c = λ front holds.
    let p = err_from_is_err_and c.from_residual.result c.from_residual.ensures.1 in
    rw (p.1, p.2) (objective_label_fails c.args.reader.now front holds c.args.maximise (option_map shown_text c.args.label) (map shown_term c.args.terms.now) c.in_err-check_objective_label.field-0.0 c.in_err-check_objective_label.ensures)

pub returns-in_err-form : goal.returns-in_err-form
returns-in_err-form c = λ front holds.
    let p = err_from_is_err_and c.from_residual-in_err-form.result c.from_residual-in_err-form.ensures.1 in
    rw (p.1, p.2) (objective_terms_fail c.args.reader.now front holds c.args.maximise (option_map shown_text c.args.label) (map shown_term c.args.terms.now) c.in_err-form.field-0.0 c.in_ok-check_objective_label.ensures c.in_err-form.ensures)

pub returns : goal.returns
returns c = λ front holds. (
  objective_none c.args.reader.now front holds c.args.maximise (option_map shown_text c.args.label) (map shown_term c.args.terms.now) c.in_ok-check_objective_label.ensures c.in_ok-form.ensures.no_fault,
  hold_objective c.args.reader.now _ front c.args.maximise (option_map shown_text c.args.label) (map shown_term c.args.terms.now) c.in_ok-form.form holds c.in_ok-form.ensures refl refl refl refl,
)
