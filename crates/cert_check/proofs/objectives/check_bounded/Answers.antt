use Rattle.std.proofs.Common.{Option, All, sym, ◌<◌, ◌≡◌, ◌+◌, [], ◌∷◌, ◌++◌, ◌∙◌, List, ap, subst, length, None, arith}
use Rattle.std.proofs.lemmas.Result.{err_from_is_err_and}
use Rattle.rational.specs.Linear.{Term}
use Rattle.certs.specs.Combination.{source_form}
use Rattle.certs.specs.declared.evidence.Share.{Share}
use Rattle.report_text.specs.declared.report.Bounded.{Bounded}
use Rattle.rational.specs.Rational.{ℚ}
use Rattle.lp_model.specs.Members.{active_members}
use Rattle.certs.specs.declared.evidence.Checked.{Checked}
use Rattle.certs.specs.declared.evidence.Point.{Point}
use Rattle.report_text.specs.Grammar.{point_phrases, objective_phrases}
use Rattle.cert_check.specs.Trials.{point_trial, value_trials, dual_trials}
use Rattle.cert_check.specs.Stops.{first_stop, stop_or, IsStop}
use Rattle.cert_check.proofs.Bounding.{uses_known}
use Rattle.cert_check.proofs.Firsts.{passed_over, stop_first, stop_of, stop_second}
use Rattle.cert_check.proofs.objectives.check_bounded.Goals as goal

pub check_dual-requires-clause-known : goal.check_dual-requires-clause-known
check_dual-requires-clause-known c =
    let n = length c.args.model.now.columns in
    subst (λ (b : Bounded). All (λ (s : Share). All (λ (t : Term). t.column < n) (source_form c.args.model.now s.source)) b.dual.combo.shares) (sym c.bounded.view_is)
    (uses_known c.args.model.now c.row_count-rows.ensures.well_formed c.args.bounded.now.dual.combo.shares c.requires.form.uses)

pub returns-in_err-settle-clause-says : goal.returns-in_err-settle-clause-says
returns-in_err-settle-clause-says c =
    let model = c.args.model.now in
    let b = c.args.bounded.now in
    let next = c.args.line + (2 + length (point_phrases b.point)) in
    let p = err_from_is_err_and c.from_residual.result c.from_residual.ensures.1 in
    rw (p.1, p.2)
    (stop_first (point_trial model (active_members model) (c.args.line + 2) b.point ∷ [])
    (value_trials model next b.point b.objective ++ dual_trials model (next + length (objective_phrases b.objective)) b.objective b.dual) c.in_err-settle.field-0.0
    (stop_of _ _ c.in_err-settle.field-0.0 (ap (λ (f : Checked). stop_or (c.args.line + 2) f None) c.in-Ok.ensures.found) c.in_err-settle.ensures))

pub returns-in_err-bound-clause-says : goal.returns-in_err-bound-clause-says
returns-in_err-bound-clause-says c =
    let model = c.args.model.now in
    let b = c.args.bounded.now in
    let next = c.args.line + (2 + length (point_phrases b.point)) in
    let place : c.args.line + 2 + c.in-Ok.lines ≡ next = omega (arith, c.in-Ok.ensures.lines) in
    let point : record { values = c.in-Ok-spread.values } ≡ b.point = ap (λ (values : List ℚ). record { values = values }) c.in-Ok-spread.ensures.values ∙ ap (λ (b : Bounded). b.point) c.bounded.view_is in
    let p = err_from_is_err_and c.from_residual-in_err-bound.result c.from_residual-in_err-bound.ensures.1 in
    rw (p.1, p.2)
    (stop_second (point_trial model (active_members model) (c.args.line + 2) b.point ∷ [])
    (value_trials model next b.point b.objective ++ dual_trials model (next + length (objective_phrases b.objective)) b.objective b.dual) c.in_err-bound.field-0.0
    (subst (λ (f : Checked). stop_or (c.args.line + 2) f None ≡ None) c.in-Ok.ensures.found c.in_ok-settle.ensures)
    (stop_first (value_trials model next b.point b.objective) (dual_trials model (next + length (objective_phrases b.objective)) b.objective b.dual) c.in_err-bound.field-0.0
    (stop_of _ _ c.in_err-bound.field-0.0 (ap (λ (p : Point). first_stop (value_trials model (c.args.line + 2 + c.in-Ok.lines) p b.objective)) point ∙ ap (λ n. first_stop (value_trials model n b.point b.objective)) place)
    (subst (λ (v : Option ℚ). IsStop (first_stop (value_trials model (c.args.line + 2 + c.in-Ok.lines) (record { values = c.in-Ok-spread.values }) v)) c.in_err-bound.field-0.0) (ap (λ (b : Bounded). b.objective) c.bounded.view_is) c.in_err-bound.ensures))))

pub returns-in_err-check_dual-clause-says : goal.returns-in_err-check_dual-clause-says
returns-in_err-check_dual-clause-says c =
    let model = c.args.model.now in
    let b = c.args.bounded.now in
    let next = c.args.line + (2 + length (point_phrases b.point)) in
    let place : c.args.line + 2 + c.in-Ok.lines ≡ next = omega (arith, c.in-Ok.ensures.lines) in
    let point : record { values = c.in-Ok-spread.values } ≡ b.point = ap (λ (values : List ℚ). record { values = values }) c.in-Ok-spread.ensures.values ∙ ap (λ (b : Bounded). b.point) c.bounded.view_is in
    let both = subst (λ (v : Option ℚ). (first_stop (value_trials model (c.args.line + 2 + c.in-Ok.lines) (record { values = c.in-Ok-spread.values }) v) ≡ None) × (c.in_ok-bound.bound ≡ c.args.line + 2 + c.in-Ok.lines + length (objective_phrases v))) (ap (λ (b : Bounded). b.objective) c.bounded.view_is) c.in_ok-bound.ensures in
    let value : first_stop (value_trials model next b.point b.objective) ≡ None = subst (λ n. first_stop (value_trials model n b.point b.objective) ≡ None) place (subst (λ (p : Point). first_stop (value_trials model (c.args.line + 2 + c.in-Ok.lines) p b.objective) ≡ None) point both.0) in
    let line : c.in_ok-bound.bound ≡ next + length (objective_phrases b.objective) = both.1 ∙ ap (λ n. n + length (objective_phrases b.objective)) place in
    let p = err_from_is_err_and c.from_residual-in_err-check_dual.result c.from_residual-in_err-check_dual.ensures.1 in
    let dual = subst (λ (d : Bounded). IsStop (first_stop (dual_trials model c.in_ok-bound.bound d.objective d.dual)) c.in_err-check_dual.field-0.0) c.bounded.view_is c.in_err-check_dual.ensures in
    rw (p.1, p.2)
    (stop_second (point_trial model (active_members model) (c.args.line + 2) b.point ∷ [])
    (value_trials model next b.point b.objective ++ dual_trials model (next + length (objective_phrases b.objective)) b.objective b.dual) c.in_err-check_dual.field-0.0
    (subst (λ (f : Checked). stop_or (c.args.line + 2) f None ≡ None) c.in-Ok.ensures.found c.in_ok-settle.ensures)
    (stop_second (value_trials model next b.point b.objective) (dual_trials model (next + length (objective_phrases b.objective)) b.objective b.dual) c.in_err-check_dual.field-0.0 value
    (stop_of _ _ c.in_err-check_dual.field-0.0 (ap (λ n. first_stop (dual_trials model n b.objective b.dual)) line) dual)))

pub returns-clause-says : goal.returns-clause-says
returns-clause-says c =
    let model = c.args.model.now in
    let b = c.args.bounded.now in
    let next = c.args.line + (2 + length (point_phrases b.point)) in
    let place : c.args.line + 2 + c.in-Ok.lines ≡ next = omega (arith, c.in-Ok.ensures.lines) in
    let point : record { values = c.in-Ok-spread.values } ≡ b.point = ap (λ (values : List ℚ). record { values = values }) c.in-Ok-spread.ensures.values ∙ ap (λ (b : Bounded). b.point) c.bounded.view_is in
    let both = subst (λ (v : Option ℚ). (first_stop (value_trials model (c.args.line + 2 + c.in-Ok.lines) (record { values = c.in-Ok-spread.values }) v) ≡ None) × (c.in_ok-bound.bound ≡ c.args.line + 2 + c.in-Ok.lines + length (objective_phrases v))) (ap (λ (b : Bounded). b.objective) c.bounded.view_is) c.in_ok-bound.ensures in
    let value : first_stop (value_trials model next b.point b.objective) ≡ None = subst (λ n. first_stop (value_trials model n b.point b.objective) ≡ None) place (subst (λ (p : Point). first_stop (value_trials model (c.args.line + 2 + c.in-Ok.lines) p b.objective) ≡ None) point both.0) in
    let line : c.in_ok-bound.bound ≡ next + length (objective_phrases b.objective) = both.1 ∙ ap (λ n. n + length (objective_phrases b.objective)) place in
    let dual = subst (λ (d : Bounded). first_stop (dual_trials model c.in_ok-bound.bound d.objective d.dual) ≡ None) c.bounded.view_is c.in_ok-check_dual.ensures in
    passed_over (point_trial model (active_members model) (c.args.line + 2) b.point ∷ [])
    (value_trials model next b.point b.objective ++ dual_trials model (next + length (objective_phrases b.objective)) b.objective b.dual)
    (subst (λ (f : Checked). stop_or (c.args.line + 2) f None ≡ None) c.in-Ok.ensures.found c.in_ok-settle.ensures)
    ∙ (passed_over (value_trials model next b.point b.objective) (dual_trials model (next + length (objective_phrases b.objective)) b.objective b.dual) value
    ∙ (sym (ap (λ n. first_stop (dual_trials model n b.objective b.dual)) line) ∙ dual))
