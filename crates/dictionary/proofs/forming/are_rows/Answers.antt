use Rattle.std.proofs.Common.{sym, subst, ◌∙◌}
use Rattle.std.proofs.lemmas.List.Elements.{All-more}
use Rattle.frac128.specs.Limit.{limit}
use Rattle.lp_model.specs.declared.parts.Row.{Row}
use Rattle.certs.specs.Rows.{row_of}
use Rattle.dictionary.specs.Starts.{FitForm, FitLimits}
use Rattle.dictionary.specs.Forming.{passes}
use Rattle.dictionary.proofs.Formed.{every_step, every_item_fits}
use Rattle.dictionary.proofs.forming.are_rows.Goals as goal

pub loop-row-preserved : goal.loop-row-preserved
loop-row-preserved c =
    let i = c.loop-row.row-index in
    let rs = c.args.rows.now in
    let r = c.row-item.result in
    record {
      left = every_step (λ (r : Row). passes c.args.columns (row_of r)) rs i r c.loop-row-test.true c.row-item.is (sym c.is_row.ensures.test ∙ c.if-not-is_row.false) ∙ c.loop-row.invariant.left;
      fits = All-more (λ (r : Row). FitLimits limit (row_of r).limits) rs i r c.loop-row-test.true c.loop-row.invariant.fits (subst (λ (r : Row). FitLimits limit (row_of r).limits) c.row-item.is c.is_row.ensures.fits);
      forms_fit = All-more (λ (r : Row). FitForm limit r.terms) rs i r c.loop-row-test.true c.loop-row.invariant.forms_fit (subst (λ (r : Row). FitForm limit r.terms) c.row-item.is (c.is_row.ensures.form_fits c.if-not-is_row.false));
    }

pub returns-clause-fits : goal.returns-clause-fits
returns-clause-fits c = λ _. every_item_fits (λ (r : Row). FitLimits limit (row_of r).limits) c.args.rows.now c.loop-row.row-index c.loop-row-test.false c.loop-row.invariant.fits

pub returns-clause-forms_fit : goal.returns-clause-forms_fit
returns-clause-forms_fit c = λ _. every_item_fits (λ (r : Row). FitForm limit r.terms) c.args.rows.now c.loop-row.row-index c.loop-row-test.false c.loop-row.invariant.forms_fit
