-- The trials of a least weighted violation are not failed.
use Rattle.std.proofs.Common.{◌+◌, ℕ, [], ◌∷◌, length}
use Rattle.std.proofs.lemmas.List.Elements.{All-cons}
use Rattle.lp_model.specs.Program.{Program}
use Rattle.lp_model.specs.Members.{active_members}
use Rattle.lp_model.specs.Satisfaction.{values_at}
use Rattle.certs.specs.declared.evidence.Point.{Point}
use Rattle.certs.specs.Checks.{outcome}
use Rattle.certs.specs.declared.evidence.Dual.{Dual}
use Rattle.least_checks.specs.Least.{IsLeastBy}
use Rattle.least_checks.specs.Parts.{total_steps, violation_steps, weight_steps}
use Rattle.report_text.specs.Grammar.{point_phrases}
use Rattle.cert_check.specs.Trials.{on_line, least_trials, point_trial, rigid_active, total_trials}
use Rattle.iis_run.proofs.Unfailed.{IsUnfailed, AreUnfailed, one_more, alone, joined}
use Rattle.iis_run.proofs.Passing.{total_never, violation_never, weights_never}
use Rattle.iis_run.proofs.Shown.{point_unfailed}

pub least_unfailed : (model : Program) (n : ℕ) (p : Point) (dual : Dual) → IsLeastBy model (active_members model) p dual → AreUnfailed (least_trials model n p dual)
least_unfailed model n p dual h =
    let set = active_members model in
    let x = values_at p.values in
    let shares = dual.combo.shares in
    let line = n + (3 + length (point_phrases p)) in
    let missed = outcome (violation_steps model set x dual.bound) in
    let weights = outcome (weight_steps model set shares) in
    joined (total_trials model (n + 2) p dual) (point_trial model (rigid_active model) (n + 3) p ∷ on_line line weights ∷ [])
    (one_more (n + 2) (outcome (total_steps model set shares dual.bound)) (on_line (n + 2) missed ∷ []) (total_never model set shares dual.bound h.dual_of)
    (alone (n + 2) missed (violation_never model set x dual.bound h.total)))
    (All-cons IsUnfailed (point_trial model (rigid_active model) (n + 3) p) (on_line line weights ∷ []) (point_unfailed model (rigid_active model) (n + 3) p h.least.satisfies)
    (alone line weights (weights_never model set shares dual.bound h.dual_of)))
