-- A point's members, one after another.
use Rattle.std.proofs.Common.{◌≡◌, refl, sym, ◌∙◌, ap, Bool, true, false, true≢false, cond, List, [], ◌∷◌, Option, None, Some, is_some, IsTrue, Result, Ok, Err}
use Rattle.std.specs.Prelude.{◌↔◌, MatchResult}
use Rattle.rational.specs.Rational.{ℚ}
use Rattle.rational.specs.Linear.{Term, Assignment, form_value}
use Rattle.lp_model.specs.declared.members.Member.{Member}
use Rattle.lp_model.specs.declared.members.Member.TheVariants.{RowLo, RowUp, Lower, Upper, Whole}
use Rattle.lp_model.specs.Program.{Program, row_at, column_at}
use Rattle.lp_model.specs.Members.{exists}
use Rattle.lp_model.specs.Satisfaction.{Holds}
use Rattle.lp_model.specs.Evaluation.{side_operations, member_operations}
use Rattle.frac128.specs.declared.Wide.{Wide as Operation}
use Rattle.frac128.specs.Limit.{limit}
use Rattle.frac128.specs.Calculation.{first_wide, product_steps}
use Rattle.certs.specs.declared.evidence.Checked.TheVariants.{Yes, No}
use Rattle.certs.specs.Checks.{outcome, unless_wide, checked_of, point_steps, at_least_test, at_most_test, holds_test}
use Rattle.certs.proofs.Evaluate.{holds-true}
use Rattle.certs.proofs.Refused.{holds_passes}

-- two answers to one question
pub one_answer : (P : Type 0) (b t : Bool) → (IsTrue b ↔ P) → (t ≡ true → P) → (P → t ≡ true) → b ≡ t
one_answer P true true h f g = refl
one_answer P true false h f g = absurd (true≢false (sym (g (h.0 refl))))
one_answer P false true h f g = absurd (true≢false (sym (h.1 (f refl))))
one_answer P false false h f g = refl

pub told : (b : Bool) → checked_of (Ok b) ≡ cond b Yes No
told true = refl
told false = refl

-- ---- one member
pub answered : (model : Program) (x : Assignment) (m : Member) (r : Result Bool Operation)
    → MatchResult r (λ b. (IsTrue b ↔ Holds model x m) × (first_wide limit (member_operations model m x) ≡ None)) (λ w. first_wide limit (member_operations model m x) ≡ Some w)
    → checked_of r ≡ outcome (point_steps model (m ∷ []) x)
answered model x m (Ok b) h =
    told b
    ∙ (ap (λ (t : Bool). cond t Yes No) (one_answer (Holds model x m) b (holds_test model x m) h.0 (holds-true model x m) (holds_passes model x m))
    ∙ sym (ap (λ (o : Option Operation). unless_wide o (cond (holds_test model x m) Yes No)) h.1))
answered model x m (Err w) h = sym (ap (λ (o : Option Operation). unless_wide o (cond (holds_test model x m) Yes No)) h)

no_lower : (o : Option ℚ) (v : ℚ) → is_some o ≡ false → Yes ≡ cond (at_least_test o v) Yes No
no_lower None v e = refl
no_lower (Some b) v e = absurd (true≢false e)

no_upper : (o : Option ℚ) (v : ℚ) → is_some o ≡ false → Yes ≡ cond (at_most_test o v) Yes No
no_upper None v e = refl
no_upper (Some b) v e = absurd (true≢false e)

no_mark : (t b : Bool) → t ≡ false → Yes ≡ cond (cond t b true) Yes No
no_mark true b e = absurd (true≢false e)
no_mark false b e = refl

no_lower_side : (o : Option ℚ) (terms : List Term) (x : Assignment) → is_some o ≡ false → Yes ≡ unless_wide (first_wide limit (side_operations o terms x)) (cond (at_least_test o (form_value terms x)) Yes No)
unfolding first_wide
no_lower_side None terms x e = refl
no_lower_side (Some b) terms x e = absurd (true≢false e)

no_upper_side : (o : Option ℚ) (terms : List Term) (x : Assignment) → is_some o ≡ false → Yes ≡ unless_wide (first_wide limit (side_operations o terms x)) (cond (at_most_test o (form_value terms x)) Yes No)
unfolding first_wide
no_upper_side None terms x e = refl
no_upper_side (Some b) terms x e = absurd (true≢false e)

pub absent : (model : Program) (x : Assignment) (m : Member) → exists model m ≡ false → Yes ≡ outcome (point_steps model (m ∷ []) x)
unfolding first_wide product_steps
absent model x (RowLo i) e = no_lower_side (row_at model i).lower (row_at model i).terms x e
absent model x (RowUp i) e = no_upper_side (row_at model i).upper (row_at model i).terms x e
absent model x (Lower j) e = no_lower (column_at model j).lower (x j) e
absent model x (Upper j) e = no_upper (column_at model j).upper (x j) e
absent model x (Whole j) e = no_mark (column_at model j).whole _ e
