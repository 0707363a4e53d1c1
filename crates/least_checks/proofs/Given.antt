-- How much the shares give a member, share by share, and whether it is within its weight.
use Rattle.std.proofs.Common.{◌≡◌, refl, sym, ◌∙◌, ap, subst, Bool, true, false, cond, not, List, [], ◌∷◌, ◌++◌, filter, map, Option, None, Some}
use Rattle.rational.specs.Rational.{ℚ, ◌+ℚ◌, zero_ℚ, le_q}
use Rattle.lp_model.specs.declared.members.Member.{Member}
use Rattle.lp_model.specs.declared.parts.Weight.TheVariants.{Soft, Rigid}
use Rattle.lp_model.specs.Program.{Program}
use Rattle.lp_model.specs.Members.{weight}
use Rattle.frac128.specs.declared.Op.TheVariants.{Plus}
use Rattle.frac128.specs.declared.Wide.{Wide as Operation}
use Rattle.frac128.specs.Limit.{limit}
use Rattle.frac128.specs.Width.{operation, is_wide}
use Rattle.frac128.specs.Calculation.{first_wide, sum_steps}
use Rattle.frac128.proofs.Calculations.{sum_steps-wide, sum_steps-next, sum_steps-end}
use Rattle.certs.specs.declared.evidence.Share.{Share}
use Rattle.certs.specs.declared.evidence.Checked.TheVariants.{Yes, No, Wide}
use Rattle.certs.specs.Checks.{Step, outcome, unless_wide, weight_operations, within_test, within_steps}
use Rattle.certs.specs.Violation.{is_of, is_rigid, weight_on}

-- ---- one share and those after it
-- the first wide operation of what is left to be added for a member
abbrev pub left_operations : Member → ℚ → List Share → Option Operation
left_operations m sum shares = first_wide limit (sum_steps (λ (t : Share). t.weight) sum (filter (λ t. is_of m t.source) shares))

module _ (m : Member) (sum : ℚ) (s : Share) (rest : List Share) where
  own_first : is_of m s.source ≡ true → filter (λ t. is_of m t.source) (s ∷ rest) ≡ s ∷ filter (λ t. is_of m t.source) rest
  own_first e = ap (λ b. cond b (s ∷ filter (λ t. is_of m t.source) rest) (filter (λ t. is_of m t.source) rest)) e

  other_first : is_of m s.source ≡ false → filter (λ t. is_of m t.source) (s ∷ rest) ≡ filter (λ t. is_of m t.source) rest
  other_first e = ap (λ b. cond b (s ∷ filter (λ t. is_of m t.source) rest) (filter (λ t. is_of m t.source) rest)) e

  pub own_wide : (o : Operation) → is_of m s.source ≡ true → o ≡ operation Plus sum s.weight → is_wide limit o ≡ true → left_operations m sum (s ∷ rest) ≡ Some o
  own_wide o e is f =
      ap (λ l. first_wide limit (sum_steps (λ (t : Share). t.weight) sum l)) (own_first e)
      ∙ sum_steps-wide limit (λ (t : Share). t.weight) sum s (filter (λ t. is_of m t.source) rest) (subst (λ (p : Operation). is_wide limit p ≡ true) is f)
      ∙ ap Some (sym is)

  pub own_fits : (next : ℚ) → is_of m s.source ≡ true → next ≡ sum +ℚ s.weight → is_wide limit (operation Plus sum s.weight) ≡ false
      → left_operations m sum (s ∷ rest) ≡ first_wide limit (sum_steps (λ (t : Share). t.weight) next (filter (λ t. is_of m t.source) rest))
  own_fits next e is f =
      ap (λ l. first_wide limit (sum_steps (λ (t : Share). t.weight) sum l)) (own_first e)
      ∙ sum_steps-next limit (λ (t : Share). t.weight) sum s (filter (λ t. is_of m t.source) rest) f
      ∙ ap (λ z. first_wide limit (sum_steps (λ (t : Share). t.weight) z (filter (λ t. is_of m t.source) rest))) (sym is)

  pub other_same : is_of m s.source ≡ false → left_operations m sum (s ∷ rest) ≡ left_operations m sum rest
  other_same e = ap (λ l. first_wide limit (sum_steps (λ (t : Share). t.weight) sum l)) (other_first e)

  pub own_given : is_of m s.source ≡ true → weight_on (s ∷ rest) m ≡ s.weight +ℚ weight_on rest m
  own_given e = ap (λ b. cond b s.weight zero_ℚ +ℚ weight_on rest m) e

  pub other_given : is_of m s.source ≡ false → weight_on (s ∷ rest) m ≡ zero_ℚ +ℚ weight_on rest m
  other_given e = ap (λ b. cond b s.weight zero_ℚ +ℚ weight_on rest m) e

pub nothing_left : (m : Member) (sum : ℚ) → first_wide limit (sum_steps (λ (t : Share). t.weight) sum (filter (λ t. is_of m t.source) [])) ≡ None
nothing_left m sum = sum_steps-end limit (λ (t : Share). t.weight) sum

-- ---- members in order
module _ (model : Program) (shares : List Share) where
  step_for : Member → Step
  step_for m = record { operations = weight_operations shares m; passes = within_test (weight_on shares m) (weight model m) }

  -- one member and those after it
  pub within_first : (m : Member) (rest : List Member) → within_steps model (m ∷ rest) shares ≡ within_steps model (m ∷ []) shares ++ within_steps model rest shares
  within_first m rest = by (is_rigid (weight model m))
    where
      by : (b : Bool) → map (λ n. record { operations = weight_operations shares n; passes = within_test (weight_on shares n) (weight model n) }) (cond (not b) (m ∷ filter (λ n. not (is_rigid (weight model n))) rest) (filter (λ n. not (is_rigid (weight model n))) rest))
          ≡ map (λ n. record { operations = weight_operations shares n; passes = within_test (weight_on shares n) (weight model n) }) (cond (not b) (m ∷ []) []) ++ within_steps model rest shares
      by true = refl
      by false = refl

  -- a rigid one takes nothing
  pub rigid_passes : (m : Member) → weight model m ≡ Rigid → outcome (within_steps model (m ∷ []) shares) ≡ Yes
  rigid_passes m e = ap (λ w. outcome (map (λ n. record { operations = weight_operations shares n; passes = within_test (weight_on shares n) (weight model n) }) (cond (not (is_rigid w)) (m ∷ []) []))) e

  -- and a soft one is tried by its sum
  soft_is : (m : Member) (w : ℚ) → weight model m ≡ Soft w → outcome (within_steps model (m ∷ []) shares) ≡ unless_wide (first_wide limit (weight_operations shares m)) (cond (le_q (weight_on shares m) w) Yes No)
  soft_is m w e =
      ap (λ u. outcome (map (λ n. record { operations = weight_operations shares n; passes = within_test (weight_on shares n) (weight model n) }) (cond (not (is_rigid u)) (m ∷ []) []))) e
      ∙ ap (λ u. unless_wide (first_wide limit (weight_operations shares m)) (cond (within_test (weight_on shares m) u) Yes No)) e

  pub soft_wide : (m : Member) (w : ℚ) (o : Operation) → weight model m ≡ Soft w → first_wide limit (weight_operations shares m) ≡ Some o → outcome (within_steps model (m ∷ []) shares) ≡ Wide o
  soft_wide m w o e f = soft_is m w e ∙ ap (λ p. unless_wide p (cond (le_q (weight_on shares m) w) Yes No)) f

  pub soft_decides : (m : Member) (w : ℚ) → weight model m ≡ Soft w → first_wide limit (weight_operations shares m) ≡ None → outcome (within_steps model (m ∷ []) shares) ≡ cond (le_q (weight_on shares m) w) Yes No
  soft_decides m w e f = soft_is m w e ∙ ap (λ p. unless_wide p (cond (le_q (weight_on shares m) w) Yes No)) f
