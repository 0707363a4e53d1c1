use Rattle.std.proofs.Common.{sym, ap, ◌∙◌, ◌≡◌}
use Rattle.std.proofs.lemmas.Option.{same_Some}
use Rattle.rational.proofs.Compare.{eq-Decides}
use Rattle.frac128.specs.Limit.{limit}
use Rattle.frac128.specs.Width.{is_too_wide}
use Rattle.frac128.specs.Printed.{printed}
use Rattle.phrase_reader.proofs.printing.is_fraction.Goals as goal

pub returns : goal.returns
returns c =
    let v = c.widen-value.result in
    let same : v ≡ c.args.value = c.widen-value.ensures.value in
    let found = c.in-Some.ensures.found in (
      λ t. found.1 ∙ ap printed ((eq-Decides c.in-Some.read v).0 (sym c.eq.ensures ∙ t) ∙ same),
      λ e. c.eq.ensures ∙ (eq-Decides c.in-Some.read v).1 (same_Some c.in-Some.read v (c.in-Some.ensures.all v (ap (is_too_wide limit) same ∙ c.widen-value.ensures.fits, e ∙ ap printed (sym same)))),
    )
