use Rattle.std.proofs.Common.{◌≡◌, ◌∙◌, sym, ap, subst, length, arith}
use Rattle.std.proofs.lemmas.Grind.{common_steps}
use Rattle.frac128.specs.Limit.{limit}
use Rattle.lp_model.specs.declared.parts.Row.{Row}
use Rattle.certs.specs.Checks.{every}
use Rattle.certs.specs.Rows.{row_of}
use Rattle.certs.specs.Tableau.{IsWellFormedSystem}
use Rattle.std.specs.Prelude.{All}
use Rattle.dictionary.specs.Starts.{FitForm, FitLimits, FitSystem}
use Rattle.dictionary.specs.Forming.{uncrossed, passes}
use Rattle.dictionary.proofs.Formed.{seen, formed_by, fitting, columns_pass, rows_of, objective_passing}
use Rattle.dictionary.proofs.forming.is_formed.Goals as goal

pub returns-then-not-are_uncrossed-clause-all : goal.returns-then-not-are_uncrossed-clause-all
returns-then-not-are_uncrossed-clause-all c =
    let d = c.system.inside in
    λ formed few. sym c.if-not-are_uncrossed.true ∙ c.are_uncrossed.ensures.test ∙ ap (every uncrossed) c.deref.ensures.value
    ∙ columns_pass (seen d.columns.items d.rows.items d.objective) (subst IsWellFormedSystem (sym c.system.view_is) formed)

pub returns-then-not-are_rows-clause-all : goal.returns-then-not-are_rows-clause-all
returns-then-not-are_rows-clause-all c =
    let d = c.system.inside in
    let many : c.len-columns.result ≡ length d.columns.items = c.len-columns.ensures ∙ d.columns.ok.0 in
    λ formed few. sym c.if-not-are_rows.true ∙ c.are_rows.ensures.test ∙ ap (every (λ (r : Row). passes c.len-columns.result (row_of r))) c.deref-2.ensures.value
    ∙ rows_of d.columns.items d.rows.items d.objective c.len-columns.result many (subst IsWellFormedSystem (sym c.system.view_is) formed)

pub returns-clause-formed : goal.returns-clause-formed
returns-clause-formed c =
    let d = c.system.inside in
    let many : c.len-columns.result ≡ length d.columns.items = c.len-columns.ensures ∙ d.columns.ok.0 in
    λ h. subst IsWellFormedSystem c.system.view_is
    (formed_by d.columns.items d.rows.items d.objective c.len-columns.result many
    (ap (every uncrossed) (sym c.deref.ensures.value) ∙ sym c.are_uncrossed.ensures.test ∙ c.if-not-are_uncrossed.false)
    (ap (every (λ (r : Row). passes c.len-columns.result (row_of r))) (sym c.deref-2.ensures.value) ∙ sym c.are_rows.ensures.test ∙ c.if-not-are_rows.false)
    (c.is_objective.ensures.test h))

pub returns-clause-fits : goal.returns-clause-fits
returns-clause-fits c =
    let d = c.system.inside in
    let many : c.len-columns.result ≡ length d.columns.items = c.len-columns.ensures ∙ d.columns.ok.0 in
    λ h. subst (FitSystem limit) c.system.view_is
    (fitting d.columns.items d.rows.items d.objective limit c.len-columns.result c.len.result c.is_some.result many (c.len.ensures ∙ d.rows.ok.0) c.is_some.ensures (sym c.are_few.ensures ∙ c.if-not-are_few.false)
    (subst (λ l. All (FitLimits limit) l) c.deref.ensures.value (c.are_uncrossed.ensures.fits c.if-not-are_uncrossed.false))
    (subst (λ l. All (λ (r : Row). FitLimits limit (row_of r).limits) l) c.deref-2.ensures.value (c.are_rows.ensures.fits c.if-not-are_rows.false))
    (subst (λ l. All (λ (r : Row). FitForm limit r.terms) l) c.deref-2.ensures.value (c.are_rows.ensures.forms_fit c.if-not-are_rows.false))
    (c.is_objective.ensures.fits h))

pub returns-clause-all : goal.returns-clause-all
returns-clause-all c =
    let d = c.system.inside in
    let many : c.len-columns.result ≡ length d.columns.items = c.len-columns.ensures ∙ d.columns.ok.0 in
    λ formed few. c.is_objective.ensures.all (objective_passing d.columns.items d.rows.items d.objective c.len-columns.result many (subst IsWellFormedSystem (sym c.system.view_is) formed))

pub returns-then-not-are_few-clause-formed : goal.returns-then-not-are_few-clause-formed
returns-then-not-are_few-clause-formed c = grind (arith, common_steps)

pub returns-then-not-are_few-clause-fits : goal.returns-then-not-are_few-clause-fits
returns-then-not-are_few-clause-fits c = grind (arith, common_steps)

pub returns-then-not-are_few-clause-all : goal.returns-then-not-are_few-clause-all
returns-then-not-are_few-clause-all c = grind (arith, common_steps)

pub returns-then-not-are_uncrossed-clause-fits : goal.returns-then-not-are_uncrossed-clause-fits
returns-then-not-are_uncrossed-clause-fits c = grind (arith, common_steps)

pub returns-then-not-are_rows-clause-formed : goal.returns-then-not-are_rows-clause-formed
returns-then-not-are_rows-clause-formed c = grind (arith, common_steps)

pub returns-then-not-are_rows-clause-fits : goal.returns-then-not-are_rows-clause-fits
returns-then-not-are_rows-clause-fits c = grind (arith, common_steps)
