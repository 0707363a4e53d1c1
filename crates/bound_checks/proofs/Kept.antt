-- The outcome of the check of a ray, member by member.
use Rattle.std.proofs.Common.{◌≡◌, ℕ, refl, sym, ◌∙◌, ap, Bool, true, false, true≢false, cond, List, [], ◌∷◌, Option, None, Some, is_some}
use Rattle.rational.specs.Rational.{ℚ, zero_ℚ, lt_q}
use Rattle.rational.specs.Linear.{Term, Assignment}
use Rattle.lp_model.specs.declared.members.Member.{Member}
use Rattle.lp_model.specs.declared.members.Member.TheVariants.{RowLo, RowUp, Lower, Upper, Whole}
use Rattle.lp_model.specs.declared.members.Side.TheVariants.{Lo, Up}
use Rattle.lp_model.specs.Program.{Program, row_at, column_at}
use Rattle.lp_model.specs.Members.{exists}
use Rattle.lp_model.specs.Evaluation.{side_operations, member_operations, value_operations}
use Rattle.frac128.specs.declared.Wide.{Wide as Operation}
use Rattle.frac128.specs.Limit.{limit}
use Rattle.frac128.specs.Calculation.{first_wide}
use Rattle.frac128.proofs.Calculations.{first_wide-nil}
use Rattle.certs.specs.declared.evidence.Checked.TheVariants.{Yes, No, Wide}
use Rattle.certs.specs.Bound.{directed, objective_value}
use Rattle.certs.specs.Checks.{outcome, unless_wide, kept_test, ray_test, ray_steps}

-- ---- one member and those after it
module _ (model : Program) (m : Member) (rest : List Member) (x : Assignment) where
  is_step : outcome (ray_steps model (m ∷ rest) x) ≡ unless_wide (first_wide limit (member_operations model m x)) (cond (ray_test model x m) (outcome (ray_steps model rest x)) No)
  is_step = refl

  pub member_wide : (o : Operation) → first_wide limit (member_operations model m x) ≡ Some o → outcome (ray_steps model (m ∷ rest) x) ≡ Wide o
  member_wide o e = is_step ∙ ap (λ (p : Option Operation). unless_wide p (cond (ray_test model x m) (outcome (ray_steps model rest x)) No)) e

  pub member_decides : (kept : Bool) → kept ≡ ray_test model x m → first_wide limit (member_operations model m x) ≡ None → outcome (ray_steps model (m ∷ rest) x) ≡ cond kept (outcome (ray_steps model rest x)) No
  member_decides kept k e =
      is_step
      ∙ ap (λ (p : Option Operation). unless_wide p (cond (ray_test model x m) (outcome (ray_steps model rest x)) No)) e
      ∙ ap (λ (t : Bool). cond t (outcome (ray_steps model rest x)) No) (sym k)

-- ---- the objective
module _ (model : Program) (x : Assignment) where
  is_last : outcome (ray_steps model [] x) ≡ unless_wide (first_wide limit (value_operations model.objective x)) (cond (lt_q (directed model zero_ℚ) (directed model (objective_value model x))) Yes No)
  is_last = refl

  pub objective_wide : (o : Operation) → first_wide limit (value_operations model.objective x) ≡ Some o → outcome (ray_steps model [] x) ≡ Wide o
  objective_wide o e = is_last ∙ ap (λ (p : Option Operation). unless_wide p (cond (lt_q (directed model zero_ℚ) (directed model (objective_value model x))) Yes No)) e

  pub objective_decides : first_wide limit (value_operations model.objective x) ≡ None → outcome (ray_steps model [] x) ≡ cond (lt_q (directed model zero_ℚ) (directed model (objective_value model x))) Yes No
  objective_decides e = is_last ∙ ap (λ (p : Option Operation). unless_wide p (cond (lt_q (directed model zero_ℚ) (directed model (objective_value model x))) Yes No)) e

-- ---- a member that the program does not have
no_number : (o : Option ℚ) (b : Bool) → is_some o ≡ false → true ≡ cond (is_some o) b true
no_number o b e = sym (ap (λ (t : Bool). cond t b true) e)

no_side : (o : Option ℚ) (terms : List Term) (x : Assignment) → is_some o ≡ false → first_wide limit (side_operations o terms x) ≡ None
no_side None terms x e = first_wide-nil limit
no_side (Some b) terms x e = absurd (true≢false e)

pub absent : (model : Program) (x : Assignment) (m : Member) → exists model m ≡ false → (true ≡ ray_test model x m) × (first_wide limit (member_operations model m x) ≡ None)
absent model x (RowLo i) e = (no_number (row_at model i).lower _ e, no_side (row_at model i).lower (row_at model i).terms x e)
absent model x (RowUp i) e = (no_number (row_at model i).upper _ e, no_side (row_at model i).upper (row_at model i).terms x e)
absent model x (Lower j) e = (no_number (column_at model j).lower _ e, first_wide-nil limit)
absent model x (Upper j) e = (no_number (column_at model j).upper _ e, first_wide-nil limit)
absent model x (Whole j) e = (refl, first_wide-nil limit)

-- ---- one that it has
there : (o : Option ℚ) (b k : Bool) → is_some o ≡ true → k ≡ b → k ≡ cond (is_some o) b true
there o b k e h = h ∙ sym (ap (λ (t : Bool). cond t b true) e)

pub lower_kept : (model : Program) (x : Assignment) (j : ℕ) (k : Bool) → exists model (Lower j) ≡ true → k ≡ kept_test Lo (x j) → (k ≡ ray_test model x (Lower j)) × (first_wide limit (member_operations model (Lower j) x) ≡ None)
lower_kept model x j k e h = (there (column_at model j).lower (kept_test Lo (x j)) k e h, first_wide-nil limit)

pub upper_kept : (model : Program) (x : Assignment) (j : ℕ) (k : Bool) → exists model (Upper j) ≡ true → k ≡ kept_test Up (x j) → (k ≡ ray_test model x (Upper j)) × (first_wide limit (member_operations model (Upper j) x) ≡ None)
upper_kept model x j k e h = (there (column_at model j).upper (kept_test Up (x j)) k e h, first_wide-nil limit)

pub mark_kept : (model : Program) (x : Assignment) (j : ℕ) → (true ≡ ray_test model x (Whole j)) × (first_wide limit (member_operations model (Whole j) x) ≡ None)
mark_kept model x j = (refl, first_wide-nil limit)
