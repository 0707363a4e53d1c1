-- By how much members are missed: numbers above others, and weighted sums member by member.
use Rattle.std.proofs.Common.{◌≡◌, refl, sym, ◌∙◌, ap, subst, ℕ, Bool, true, false, cond, List, [], ◌∷◌, ◌++◌, append_assoc, Option, None, Some}
use Rattle.std.specs.Prelude.{is_some, not}
use Rattle.algebra.proofs.Ring.{x0, x1, ◌:-◌, zero_of}
use Rattle.rational.specs.Rational.{ℚ, ◌+ℚ◌, ◌-ℚ◌, ◌*ℚ◌, zero_ℚ, lt_q}
use Rattle.rational.specs.Linear.{Term, Assignment, form_value}
use Rattle.rational.proofs.Order.{le_by, nonneg_of_le, lt_q-true, lt_q-false, lt-le_clash_ℚ}
use Rattle.lp_model.specs.declared.members.Member.{Member}
use Rattle.lp_model.specs.declared.members.Member.TheVariants.{Whole}
use Rattle.lp_model.specs.declared.members.Side.{Side}
use Rattle.lp_model.specs.declared.members.Side.TheVariants.{Lo, Up}
use Rattle.lp_model.specs.declared.parts.Weight.{Weight}
use Rattle.lp_model.specs.declared.parts.Weight.TheVariants.{Soft, Rigid}
use Rattle.lp_model.specs.Program.{Program}
use Rattle.lp_model.specs.Members.{number, side, value, weight}
use Rattle.lp_model.specs.Evaluation.{side_operations, value_operations, member_operations}
use Rattle.frac128.specs.declared.Op.TheVariants.{Minus, Times, Plus}
use Rattle.frac128.specs.declared.Wide.{Wide as Operation}
use Rattle.frac128.specs.Limit.{limit}
use Rattle.frac128.specs.Width.{operation, is_wide}
use Rattle.frac128.specs.Calculation.{Calculation, first_wide, or_else}
use Rattle.frac128.proofs.Calculations.{first_wide-append, first_wide-nil, first_wide-here, first_wide-next}
use Rattle.certs.specs.Checks.{missed_operations, weighted_operations}
use Rattle.certs.specs.Violation.{larger, missed_by, violation, weighed, weighted_violation}
use Rattle.least_checks.specs.Parts.{excess_operations, missing_operations}

-- ---- a number above another
-- what is above another exceeds it
pub exceeds : (a b : ℚ) → lt_q zero_ℚ (a -ℚ b) ≡ lt_q b a
exceeds a b = by (lt_q zero_ℚ (a -ℚ b)) (lt_q b a) refl refl
  where
    by : (p q : Bool) → lt_q zero_ℚ (a -ℚ b) ≡ p → lt_q b a ≡ q → p ≡ q
    by true true e f = refl
    by false false e f = refl
    by true false e f = lt-le_clash_ℚ (lt_q-true zero_ℚ (a -ℚ b) e) (le_by (a ∷ b ∷ []) (x0 :- x1) zero_of (x1 :- x0) (nonneg_of_le (lt_q-false b a f)) tt)
    by false true e f = lt-le_clash_ℚ (lt_q-true b a f) (le_by (a ∷ b ∷ []) x0 x1 (zero_of :- (x0 :- x1)) (nonneg_of_le (lt_q-false zero_ℚ (a -ℚ b) e)) tt)

-- the larger of 0 and the difference, and the one operation that it takes
pub is_excess : (a b : ℚ) → lt_q b a ≡ true → a -ℚ b ≡ larger zero_ℚ (a -ℚ b)
is_excess a b e = sym (ap (λ t. cond t (a -ℚ b) zero_ℚ) (exceeds a b ∙ e))

pub no_excess : (a b : ℚ) → lt_q b a ≡ false → zero_ℚ ≡ larger zero_ℚ (a -ℚ b)
no_excess a b e = sym (ap (λ t. cond t (a -ℚ b) zero_ℚ) (exceeds a b ∙ e))

taken : (a b : ℚ) (t : Bool) → lt_q b a ≡ t → first_wide limit (excess_operations a b) ≡ first_wide limit (cond t (operation Minus a b ∷ []) [])
taken a b t e = ap (λ u. first_wide limit (cond u (operation Minus a b ∷ []) [])) e

pub nothing_taken : (a b : ℚ) → lt_q b a ≡ false → first_wide limit (excess_operations a b) ≡ None
nothing_taken a b e = taken a b false e ∙ first_wide-nil limit

pub taken_fits : (a b : ℚ) → lt_q b a ≡ true → is_wide limit (operation Minus a b) ≡ false → first_wide limit (excess_operations a b) ≡ None
taken_fits a b e f = taken a b true e ∙ first_wide-next limit (operation Minus a b) [] f ∙ first_wide-nil limit

pub taken_wide : (a b : ℚ) (o : Operation) → lt_q b a ≡ true → o ≡ operation Minus a b → is_wide limit o ≡ true → first_wide limit (excess_operations a b) ≡ Some o
taken_wide a b o e is f = taken a b true e ∙ first_wide-here limit (operation Minus a b) [] (subst (λ (p : Operation). is_wide limit p ≡ true) is f) ∙ ap Some (sym is)

-- ---- a number that is not there
pub none_told : (o : Option ℚ) (b : Bool) → is_some o ≡ not b → b ≡ true → o ≡ None
none_told None b e f = refl
none_told (Some v) true e f = absurd (cc)
none_told (Some v) false e f = absurd (cc)

pub some_told : (o : Option ℚ) (b : Bool) → is_some o ≡ not b → b ≡ false → (v : ℚ) × (o ≡ Some v)
some_told None true e f = absurd (cc)
some_told None false e f = absurd (cc)
some_told (Some v) b e f = (v, refl)

pub none_of : (o : Option ℚ) → ((v : ℚ) → o ≡ Some v → ⊥) → o ≡ None
none_of None h = refl
none_of (Some v) h = absurd (h v refl)

pub nothing_missed : (side : Side) (o : Option ℚ) (v : ℚ) → o ≡ None → (zero_ℚ ≡ missed_by side o v) × (first_wide limit (missed_operations side o v) ≡ None)
nothing_missed Lo None v e = (refl, first_wide-nil limit)
nothing_missed Up None v e = (refl, first_wide-nil limit)
nothing_missed side (Some b) v e = absurd (cc)

-- nor a form for it
pub no_form : (side : Side) (o : Option ℚ) (terms : List Term) (x : Assignment) → o ≡ None
    → (zero_ℚ ≡ missed_by side o (form_value terms x)) × (first_wide limit (side_operations o terms x ++ missed_operations side o (form_value terms x)) ≡ None)
no_form side None terms x e = nothing_missed side None (form_value terms x) refl
no_form side (Some b) terms x e = absurd (cc)

-- one that is there
module _ (side : Side) (o : Option ℚ) (terms : List Term) (x : Assignment) where
  some_form : (b : ℚ) → o ≡ Some b → side_operations o terms x ≡ value_operations terms x
  some_form b e = ap (λ p. side_operations p terms x) e

  after : Option Operation → Option Operation
  after w = or_else w (first_wide limit (missed_operations side o (form_value terms x)))

  joined : (b : ℚ) → o ≡ Some b → first_wide limit (side_operations o terms x ++ missed_operations side o (form_value terms x)) ≡ or_else (first_wide limit (value_operations terms x)) (first_wide limit (missed_operations side o (form_value terms x)))
  joined b e = first_wide-append limit (side_operations o terms x) (missed_operations side o (form_value terms x)) ∙ ap (λ w. or_else (first_wide limit w) (first_wide limit (missed_operations side o (form_value terms x)))) (some_form b e)

  pub form_wide : (b : ℚ) (w : Operation) → o ≡ Some b → first_wide limit (value_operations terms x) ≡ Some w → first_wide limit (side_operations o terms x ++ missed_operations side o (form_value terms x)) ≡ Some w
  form_wide b w e f = joined b e ∙ ap (λ p. or_else p (first_wide limit (missed_operations side o (form_value terms x)))) f

  pub form_fits : (b : ℚ) → o ≡ Some b → first_wide limit (value_operations terms x) ≡ None → first_wide limit (side_operations o terms x ++ missed_operations side o (form_value terms x)) ≡ first_wide limit (missed_operations side o (form_value terms x))
  form_fits b e f = joined b e ∙ ap (λ p. or_else p (first_wide limit (missed_operations side o (form_value terms x)))) f

-- what is not soft is rigid
pub rigid_of : (w : Weight) → ((v : ℚ) → w ≡ Soft v → ⊥) → w ≡ Rigid
rigid_of Rigid h = refl
rigid_of (Soft v) h = absurd (h v refl)

-- a mark asks for no number
pub mark_missed : (model : Program) (x : Assignment) (j : ℕ) → (zero_ℚ ≡ violation model x (Whole j)) × (first_wide limit (missing_operations model (Whole j) x) ≡ None)
mark_missed model x j = nothing_missed (side (Whole j)) None (value model (Whole j) x) refl

-- ---- the weighted violation, one member and those after it
module _ (model : Program) (total : ℚ) (m : Member) (rest : List Member) (x : Assignment) where
  abbrev by_weight : Weight → Calculation
  by_weight Rigid = weighted_operations model total rest x
  by_weight (Soft w) = missing_operations model m x ++ operation Times w (violation model x m) ∷ operation Plus total (w *ℚ violation model x m) ∷ weighted_operations model (total +ℚ w *ℚ violation model x m) rest x

  abbrev stated : Weight → Calculation
  stated Rigid = weighted_operations model total rest x
  stated (Soft w) = member_operations model m x ++ (missed_operations (side m) (number model m) (value model m x) ++ operation Times w (violation model x m) ∷ operation Plus total (w *ℚ violation model x m) ∷ weighted_operations model (total +ℚ w *ℚ violation model x m) rest x)

  is_stated : (w : Weight) → elim w [ Rigid ↦ weighted_operations model total rest x | Soft w ↦ member_operations model m x ++ (missed_operations (side m) (number model m) (value model m x) ++ operation Times w (violation model x m) ∷ operation Plus total (w *ℚ violation model x m) ∷ weighted_operations model (total +ℚ w *ℚ violation model x m) rest x) ] ≡ stated w
  is_stated Rigid = refl
  is_stated (Soft w) = refl

  step_is : (w : Weight) → weight model m ≡ w → weighted_operations model total (m ∷ rest) x ≡ by_weight w
  step_is Rigid e = is_stated (weight model m) ∙ ap stated e
  step_is (Soft w) e = is_stated (weight model m) ∙ ap stated e ∙ (sym (append_assoc (member_operations model m x) (missed_operations (side m) (number model m) (value model m x)) (operation Times w (violation model x m) ∷ operation Plus total (w *ℚ violation model x m) ∷ weighted_operations model (total +ℚ w *ℚ violation model x m) rest x)))

  pub rigid_step : weight model m ≡ Rigid → weighted_operations model total (m ∷ rest) x ≡ weighted_operations model total rest x
  rigid_step e = step_is Rigid e

  pub rigid_sum : weight model m ≡ Rigid → weighted_violation model (m ∷ rest) x ≡ zero_ℚ +ℚ weighted_violation model rest x
  rigid_sum e = ap (λ w. weighed w (violation model x m) +ℚ weighted_violation model rest x) e

  module _ (w : ℚ) (e : weight model m ≡ Soft w) where
    abbrev missing : Option Operation
    missing = first_wide limit (missing_operations model m x)

    abbrev tail : Calculation
    tail = operation Times w (violation model x m) ∷ operation Plus total (w *ℚ violation model x m) ∷ weighted_operations model (total +ℚ w *ℚ violation model x m) rest x

    soft_step : first_wide limit (weighted_operations model total (m ∷ rest) x) ≡ or_else (first_wide limit (missing_operations model m x)) (first_wide limit tail)
    soft_step = ap (first_wide limit) (step_is (Soft w) e) ∙ first_wide-append limit (missing_operations model m x) tail

    pub missing_wide : (o : Operation) → first_wide limit (missing_operations model m x) ≡ Some o → first_wide limit (weighted_operations model total (m ∷ rest) x) ≡ Some o
    missing_wide o f = soft_step ∙ ap (λ p. or_else p (first_wide limit tail)) f

    module _ (f : first_wide limit (missing_operations model m x) ≡ None) where
      on_tail : first_wide limit (weighted_operations model total (m ∷ rest) x) ≡ first_wide limit tail
      on_tail = soft_step ∙ ap (λ p. or_else p (first_wide limit tail)) f

      pub product_wide : (o : Operation) → o ≡ operation Times w (violation model x m) → is_wide limit o ≡ true → first_wide limit (weighted_operations model total (m ∷ rest) x) ≡ Some o
      product_wide o is h =
          on_tail
          ∙ first_wide-here limit (operation Times w (violation model x m)) (operation Plus total (w *ℚ violation model x m) ∷ weighted_operations model (total +ℚ w *ℚ violation model x m) rest x) (subst (λ (p : Operation). is_wide limit p ≡ true) is h)
          ∙ ap Some (sym is)

      module _ (g : is_wide limit (operation Times w (violation model x m)) ≡ false) where
        on_sum : first_wide limit (weighted_operations model total (m ∷ rest) x) ≡ first_wide limit (operation Plus total (w *ℚ violation model x m) ∷ weighted_operations model (total +ℚ w *ℚ violation model x m) rest x)
        on_sum = on_tail ∙ first_wide-next limit (operation Times w (violation model x m)) (operation Plus total (w *ℚ violation model x m) ∷ weighted_operations model (total +ℚ w *ℚ violation model x m) rest x) g

        pub sum_wide : (o : Operation) → o ≡ operation Plus total (w *ℚ violation model x m) → is_wide limit o ≡ true → first_wide limit (weighted_operations model total (m ∷ rest) x) ≡ Some o
        sum_wide o is h =
            on_sum
            ∙ first_wide-here limit (operation Plus total (w *ℚ violation model x m)) (weighted_operations model (total +ℚ w *ℚ violation model x m) rest x) (subst (λ (p : Operation). is_wide limit p ≡ true) is h)
            ∙ ap Some (sym is)

        pub sum_fits : is_wide limit (operation Plus total (w *ℚ violation model x m)) ≡ false → first_wide limit (weighted_operations model total (m ∷ rest) x) ≡ first_wide limit (weighted_operations model (total +ℚ w *ℚ violation model x m) rest x)
        sum_fits h = on_sum ∙ first_wide-next limit (operation Plus total (w *ℚ violation model x m)) (weighted_operations model (total +ℚ w *ℚ violation model x m) rest x) h

    pub soft_sum : weighted_violation model (m ∷ rest) x ≡ w *ℚ violation model x m +ℚ weighted_violation model rest x
    soft_sum = ap (λ u. weighed u (violation model x m) +ℚ weighted_violation model rest x) e
