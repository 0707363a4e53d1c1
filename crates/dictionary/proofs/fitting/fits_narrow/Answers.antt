use Rattle.std.proofs.Common.{◌≡◌, ◌∙◌, sym, subst, true≢false, length}
use Rattle.std.specs.Prelude.{All}
use Rattle.frac128.specs.Limit.{narrow_limit}
use Rattle.lp_model.specs.declared.parts.Row.{Row}
use Rattle.certs.specs.Rows.{row_of}
use Rattle.certs.specs.System.{SystemRow}
use Rattle.dictionary.specs.Starts.{FitForm, FitLimits, FitSystem}
use Rattle.dictionary.proofs.Formed.{fitting, unmapped}
use Rattle.dictionary.proofs.fitting.fits_narrow.Goals as goal

pub returns-then-not-rows_fit : goal.returns-then-not-rows_fit
returns-then-not-rows_fit c =
    let rows = c.system.inside.rows.items in (
      λ f. absurd (true≢false (sym f)),
      λ f.
          (let fit : FitSystem narrow_limit _ = subst (FitSystem narrow_limit) (sym c.system.view_is) f in
          sym c.if-not-rows_fit.true
          ∙ c.rows_fit.ensures.1 (
            subst (All (λ (r : Row). FitLimits narrow_limit (row_of r).limits)) (sym c.deref-2.ensures.value) (unmapped (λ (r : SystemRow). FitLimits narrow_limit r.limits) row_of rows fit.row_limits),
            subst (All (λ (r : Row). FitForm narrow_limit r.terms)) (sym c.deref-2.ensures.value) (unmapped (λ (r : SystemRow). FitForm narrow_limit r.terms) row_of rows fit.row_forms),
          )),
    )

pub returns : goal.returns
returns c =
    let d = c.system.inside in
    let many : c.len-columns.result ≡ length d.columns.items = c.len-columns.ensures ∙ d.columns.ok.0 in
    let fit = c.rows_fit.ensures.0 c.if-not-rows_fit.false in (
      λ h.
          subst (FitSystem narrow_limit) c.system.view_is
          (fitting d.columns.items d.rows.items d.objective narrow_limit c.len-columns.result c.len.result c.is_some.result many (c.len.ensures ∙ d.rows.ok.0) c.is_some.ensures (sym c.are_few.ensures ∙ c.if-not-are_few.false)
          (subst (λ l. All (FitLimits narrow_limit) l) c.deref.ensures.value (c.all_limits_fit.ensures.0 c.if-not-all_limits_fit.false))
          (subst (λ l. All (λ (r : Row). FitLimits narrow_limit (row_of r).limits) l) c.deref-2.ensures.value fit.0)
          (subst (λ l. All (λ (r : Row). FitForm narrow_limit r.terms) l) c.deref-2.ensures.value fit.1)
          (c.objective_fits.ensures.0 h)),
      λ f. c.objective_fits.ensures.1 (subst (FitSystem narrow_limit) (sym c.system.view_is) f).objective,
    )
