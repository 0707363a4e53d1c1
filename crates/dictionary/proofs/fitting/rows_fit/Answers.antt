use Rattle.std.proofs.Common.{refl, subst}
use Rattle.std.proofs.lemmas.List.Elements.{All-more}
use Rattle.frac128.specs.Limit.{narrow_limit}
use Rattle.lp_model.specs.declared.parts.Row.{Row}
use Rattle.certs.specs.Rows.{row_of}
use Rattle.dictionary.specs.Starts.{FitForm, FitLimits}
use Rattle.dictionary.proofs.Formed.{every_item_fits}
use Rattle.dictionary.proofs.fitting.rows_fit.Goals as goal

pub loop-row-preserved : goal.loop-row-preserved
loop-row-preserved c =
    let i = c.loop-row.row-index in
    let rs = c.args.rows.now in
    let fit = c.row_fits.ensures.0 c.if-not-row_fits.false in
    record {
      limits = All-more (λ (r : Row). FitLimits narrow_limit (row_of r).limits) rs i c.row-item.result c.loop-row-test.true c.loop-row.invariant.limits (subst (λ (r : Row). FitLimits narrow_limit (row_of r).limits) c.row-item.is fit.0);
      forms = All-more (λ (r : Row). FitForm narrow_limit r.terms) rs i c.row-item.result c.loop-row-test.true c.loop-row.invariant.forms (subst (λ (r : Row). FitForm narrow_limit r.terms) c.row-item.is fit.1);
    }

pub returns : goal.returns
returns c = (
  λ _. (every_item_fits (λ (r : Row). FitLimits narrow_limit (row_of r).limits) c.args.rows.now c.loop-row.row-index c.loop-row-test.false c.loop-row.invariant.limits, every_item_fits (λ (r : Row). FitForm narrow_limit r.terms) c.args.rows.now c.loop-row.row-index c.loop-row-test.false c.loop-row.invariant.forms),
  λ _. refl,
)
