use Rattle.std.proofs.Common.{◌≡◌, ◌∙◌, ◌++◌, Option, None, Some, Result, Ok, Err, List}
use Rattle.std.specs.Prelude.{MatchResult}
use Rattle.std.proofs.lemmas.Result.{err_from_is_err_and}
use Rattle.rational.specs.Rational.{ℚ}
use Rattle.rational.specs.Linear.{Assignment, Term, form_value}
use Rattle.lp_model.specs.declared.members.Side.{Side}
use Rattle.frac128.specs.declared.Wide.{Wide as Operation}
use Rattle.frac128.specs.Limit.{limit}
use Rattle.frac128.specs.Calculation.{first_wide}
use Rattle.lp_model.specs.Satisfaction.{values_at}
use Rattle.lp_model.specs.Evaluation.{side_operations, value_operations}
use Rattle.certs.specs.Checks.{missed_operations}
use Rattle.certs.specs.Violation.{missed_by}
use Rattle.least_checks.proofs.Missing.{no_form, form_wide, form_fits, none_told, some_told}
use Rattle.least_checks.proofs.violations.form_missed.Goals as goal

-- the distance of the value that was found
found : (side : Side) (o : Option ℚ) (terms : List Term) (x : Assignment) (v b : ℚ) (r : Result ℚ Operation) → o ≡ Some b → v ≡ form_value terms x → first_wide limit (value_operations terms x) ≡ None
    → MatchResult r (λ q. (q ≡ missed_by side o v) × (first_wide limit (missed_operations side o v) ≡ None)) (λ w. first_wide limit (missed_operations side o v) ≡ Some w)
    → MatchResult r (λ q. (q ≡ missed_by side o (form_value terms x)) × (first_wide limit (side_operations o terms x ++ missed_operations side o (form_value terms x)) ≡ None))
    (λ w. first_wide limit (side_operations o terms x ++ missed_operations side o (form_value terms x)) ≡ Some w)
found side o terms x v b (Ok q) e is f h = (rw (← is) h.0, form_fits side o terms x b e f ∙ rw (← is) h.1)
found side o terms x v b (Err w) e is f h = form_fits side o terms x b e f ∙ rw (← is) h

pub returns-then-is_none : goal.returns-then-is_none
returns-then-is_none c =
    let none = no_form c.args.side c.args.number c.args.terms.now (values_at c.args.values.now) (none_told c.args.number c.is_none.result c.is_none.ensures c.if-is_none.true) in
    (c.whole.ensures ∙ none.0, none.1)

pub returns-in_err-value : goal.returns-in_err-value
returns-in_err-value c =
    let some = some_told c.args.number c.is_none.result c.is_none.ensures c.if-is_none.false in
    let p = err_from_is_err_and c.from_residual.result c.from_residual.ensures.1 in
    rw (p.1, p.2) (form_wide c.args.side c.args.number c.args.terms.now (values_at c.args.values.now) some.0 _ some.1 c.in_err-value.ensures)

pub returns : goal.returns
returns c =
    let some = some_told c.args.number c.is_none.result c.is_none.ensures c.if-is_none.false in
    let value = c.in_ok-value.ensures in
    found c.args.side c.args.number c.args.terms.now (values_at c.args.values.now) c.in_ok-value.value some.0 c.number_missed.result some.1 value.0 value.1 c.number_missed.ensures
