use Rattle.std.proofs.Common.{◌≡◌, sym, ◌∙◌, ap, Some, None}
use Rattle.std.proofs.lemmas.Result.{err_from_is_err_and}
use Rattle.frac128.proofs.Calculations.{first_wide-before}
use Rattle.certs.specs.Improves.{improvement_for, improving, reach_operations}
use Rattle.dictionary.specs.Value.{tableau_of}
use Rattle.simplex.proofs.Steps.{whole_work, whole_choice}
use Rattle.simplex.proofs.Turned.{moves_nonbasic}
use Rattle.simplex.proofs.improve_choices.choose.Goals as goal

pub returns-in_err-look_at_values-clause-choice : goal.returns-in_err-look_at_values-clause-choice
returns-in_err-look_at_values-clause-choice g c =
    let t = tableau_of c.look_at_values.new.dictionary in
    let p = err_from_is_err_and c.from_residual.result c.from_residual.ensures.1 in
    rw (p.1, p.2) (first_wide-before g.N.Exact.most _ (reach_operations t (improving t)) _ c.in_err-look_at_values.ensures.narrow)

pub choose_for-requires-clause-moving : goal.choose_for-requires-clause-moving
choose_for-requires-clause-moving g c = (moves_nonbasic (tableau_of c.look_at_values.new.dictionary) c.in-Some.variable (sym c.improving.ensures ∙ c.in-Some.is)).known

pub choose_for-requires-clause-nonbasic : goal.choose_for-requires-clause-nonbasic
choose_for-requires-clause-nonbasic g c = (moves_nonbasic (tableau_of c.look_at_values.new.dictionary) c.in-Some.variable (sym c.improving.ensures ∙ c.in-Some.is)).nonbasic

pub returns-in_err-look_at_objective-clause-choice : goal.returns-in_err-look_at_objective-clause-choice
returns-in_err-look_at_objective-clause-choice g c =
    let p = err_from_is_err_and c.from_residual-in_err-look_at_objective.result c.from_residual-in_err-look_at_objective.ensures.1 in
    rw (p.1, p.2) (whole_work g.N.Exact.most (tableau_of c.look_at_values.new.dictionary) None (sym c.improving.ensures ∙ c.in_default.is) c.in_ok-look_at_values.ensures.narrow _ c.in_err-look_at_objective.ensures)

pub returns-in_default-clause-choice : goal.returns-in_default-clause-choice
returns-in_default-clause-choice g c =
    let t = tableau_of c.look_at_values.new.dictionary in
    let none : improving t ≡ None = sym c.improving.ensures ∙ c.in_default.is in
    (whole_work g.N.Exact.most t None none c.in_ok-look_at_values.ensures.narrow None c.in_ok-look_at_objective.ensures, ap (improvement_for t) (sym none))

pub returns-clause-choice : goal.returns-clause-choice
returns-clause-choice g c = whole_choice g.N.Exact.most (tableau_of c.look_at_values.new.dictionary) (Some c.in-Some.variable) (sym c.improving.ensures ∙ c.in-Some.is) c.in_ok-look_at_values.ensures.narrow c.choose_for.result c.choose_for.ensures
