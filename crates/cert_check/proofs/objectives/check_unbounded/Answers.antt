use Rattle.std.proofs.Common.{◌≡◌, ◌+◌, [], ◌∷◌, ◌∙◌, ap, length, None, arith, subst}
use Rattle.std.proofs.lemmas.Result.{err_from_is_err_and}
use Rattle.lp_model.specs.Members.{active_members}
use Rattle.certs.specs.declared.evidence.Checked.{Checked}
use Rattle.report_text.specs.Grammar.{point_phrases}
use Rattle.cert_check.specs.Trials.{point_trial, ray_trial}
use Rattle.cert_check.specs.Stops.{stop_or}
use Rattle.cert_check.proofs.Firsts.{says_second, says_of, stop_first, stop_of}
use Rattle.cert_check.proofs.objectives.check_unbounded.Goals as goal

pub returns-in_err-settle-clause-says : goal.returns-in_err-settle-clause-says
returns-in_err-settle-clause-says c =
    let model = c.args.model.now in
    let p = err_from_is_err_and c.from_residual.result c.from_residual.ensures.1 in
    rw (p.1, p.2)
    (stop_first (point_trial model (active_members model) (c.args.line + 2) c.args.point.now ∷ []) (ray_trial model (c.args.line + (2 + length (point_phrases c.args.point.now))) c.args.ray.now ∷ []) c.in_err-settle.field-0.0
    (stop_of _ _ c.in_err-settle.field-0.0 (ap (λ (f : Checked). stop_or (c.args.line + 2) f None) c.in-Ok.ensures.found) c.in_err-settle.ensures))

pub returns-clause-says : goal.returns-clause-says
returns-clause-says c =
    let model = c.args.model.now in
    let next = c.args.line + (2 + length (point_phrases c.args.point.now)) in
    let place : c.args.line + 2 + c.in-Ok.lines ≡ next = omega (arith, c.in-Ok.ensures.lines) in
    says_second (point_trial model (active_members model) (c.args.line + 2) c.args.point.now ∷ []) (ray_trial model next c.args.ray.now ∷ []) c.settle-2.result
    (subst (λ (f : Checked). stop_or (c.args.line + 2) f None ≡ None) c.in-Ok.ensures.found c.in_ok-settle.ensures)
    (says_of _ _ c.settle-2.result (ap (λ n. stop_or n c.in-Ok-check_active_ray.found None) place ∙ ap (λ (f : Checked). stop_or next f None) c.in-Ok-check_active_ray.ensures.found) c.settle-2.ensures)
