-- What is so where nothing stops the check of a least violation.
use Rattle.std.proofs.Common.{◌≡◌, ◌+◌, sym, subst, ℕ, [], ◌∷◌, length, None}
use Rattle.frac128.specs.Limit.{limit}
use Rattle.lp_model.specs.Program.{Program, IsWellFormed}
use Rattle.lp_model.specs.Members.{active_members}
use Rattle.lp_model.specs.Satisfaction.{values_at}
use Rattle.certs.specs.declared.evidence.Point.{Point}
use Rattle.certs.specs.Checks.{outcome, point_steps}
use Rattle.certs.specs.Violation.{weighted_violation, IsLeastDual}
use Rattle.certs.proofs.Passed.{point_check_law}
use Rattle.certs.specs.declared.evidence.Dual.{Dual}
use Rattle.least_checks.specs.Least.{IsLeastBy, ReachedLaw}
use Rattle.least_checks.specs.Parts.{PartsLaw, ViolationLaw, total_steps, violation_steps, weight_steps}
use Rattle.report_text.specs.Form.{IsLeastFor}
use Rattle.report_text.specs.Grammar.{point_phrases}
use Rattle.cert_check.specs.Trials.{on_line, point_trial, rigid_active, total_trials, least_trials}
use Rattle.cert_check.specs.Stops.{first_stop}
use Rattle.cert_check.proofs.Firsts.{found_yes, parts_pass}

pub least_by : PartsLaw → ViolationLaw → ReachedLaw → (model : Program) (n : ℕ) (p : Point) (dual : Dual) → IsWellFormed model → IsLeastFor model p dual → first_stop (least_trials model n p dual) ≡ None → IsLeastBy model (active_members model) p dual
least_by parts violations reached model n p dual formed h e =
    let set = active_members model in
    let x = values_at p.values in
    let shares = dual.combo.shares in
    let line = n + (3 + length (point_phrases p)) in
    let right = outcome (total_steps model set shares dual.bound) in
    let missed = outcome (violation_steps model set x dual.bound) in
    let weights = outcome (weight_steps model set shares) in
    let one = parts_pass (total_trials model (n + 2) p dual) (point_trial model (rigid_active model) (n + 3) p ∷ on_line line weights ∷ []) e in
    let two = found_yes (n + 2) right (first_stop (on_line (n + 2) missed ∷ [])) one.0 in
    let three = found_yes (n + 2) missed None two.1 in
    let four = found_yes (n + 3) (outcome (point_steps model (rigid_active model) x)) (first_stop (on_line line weights ∷ [])) one.1 in
    let five = found_yes line weights None four.1 in
    let total : weighted_violation model set x ≡ dual.bound = violations model set x dual.bound three.0 in
    let of : IsLeastDual model set [] shares dual.bound = parts model set shares dual.bound formed two.0 five.0 in
    record {
      each_column = h.point.len;
      least = reached model set shares x (point_check_law limit model (rigid_active model) x four.0) (subst (IsLeastDual model set [] shares) (sym total) of);
      total = total;
      dual_of = of;
      ordered = h.uses.in_order;
    }
