-- A row and a form from which what is put in for a column is taken.
use Rattle.std.proofs.Common.{◌≡◌, refl, sym, ◌∙◌, ap, true, false, List, [], ◌++◌, Some, None}
use Rattle.std.proofs.lemmas.Bool.{cond-true, cond-false}
use Rattle.rational.specs.Rational.{ℚ, zero_ℚ, ◌-ℚ◌, ◌*ℚ◌, eq_ℚ, inv_ℚ}
use Rattle.rational.specs.Linear.{Term, factor_of}
use Rattle.rational.proofs.Sums.{nothing_times}
use Rattle.certs.specs.System.{Limits, SystemRow}
use Rattle.reductions.specs.Limited.{is_narrow, map_limits}
use Rattle.presolve.specs.declared.eliminating.Elimination.{Elimination}
use Rattle.presolve.specs.declared.eliminating.Elimination.TheVariants.{Value, Equation}
use Rattle.presolve.specs.Eliminated.{IsChanged, gone_column, put_number, times_by, times_steps, terms_with, terms_steps, sides_steps, row_times, row_with, row_steps, form_steps}
use Rattle.presolve.proofs.Narrow.{narrow_nil, narrow_past, narrow_parts, wide_part, wide_end}

-- none is taken for the factor 0
pub times_none : (e : Elimination) → times_by e zero_ℚ ≡ zero_ℚ
times_none (Value j v) = refl
times_none (Equation q) = nothing_times (inv_ℚ q.gone.factor)

-- ---- a row with factor g of the column
module _ (e : Elimination) (r : SystemRow) (g : ℚ) (is : g ≡ factor_of r.terms (gone_column e)) where
  pub row_times_wide : is_narrow (times_steps e g) ≡ false → is_narrow (row_steps e r) ≡ false
  row_times_wide h =
      wide_part (times_steps e (factor_of r.terms (gone_column e))) (terms_steps e (row_times e r) r.terms ++ sides_steps (row_times e r) (put_number e) r.limits)
      (ap (λ z. is_narrow (times_steps e z)) (sym is) ∙ h)

  module _ (times : ℚ) (t : times ≡ times_by e g) (narrow : is_narrow (times_steps e g) ≡ true) where
    times_are : times ≡ row_times e r
    times_are = t ∙ ap (times_by e) is

    past : is_narrow (row_steps e r) ≡ is_narrow (terms_steps e times r.terms ++ sides_steps times (put_number e) r.limits)
    past =
        narrow_past (times_steps e (factor_of r.terms (gone_column e))) (terms_steps e (row_times e r) r.terms ++ sides_steps (row_times e r) (put_number e) r.limits)
        (ap (λ z. is_narrow (times_steps e z)) (sym is) ∙ narrow)
        ∙ ap (λ z. is_narrow (terms_steps e z r.terms ++ sides_steps z (put_number e) r.limits)) (sym times_are)

    pub row_sides_wide : is_narrow (sides_steps times (put_number e) r.limits) ≡ false → is_narrow (row_steps e r) ≡ false
    row_sides_wide h = past ∙ wide_end (terms_steps e times r.terms) (sides_steps times (put_number e) r.limits) h

    pub row_terms_wide : is_narrow (terms_steps e times r.terms) ≡ false → is_narrow (row_steps e r) ≡ false
    row_terms_wide h = past ∙ wide_part (terms_steps e times r.terms) (sides_steps times (put_number e) r.limits) h

    -- what is made of it
    pub row_made : (terms : List Term) (sides : Limits) → terms ≡ terms_with e times r.terms → is_narrow (terms_steps e times r.terms) ≡ true
        → sides ≡ map_limits (λ s. s -ℚ times *ℚ put_number e) r.limits → is_narrow (sides_steps times (put_number e) r.limits) ≡ true
        → ((times ≡ row_times e r) × (let made : SystemRow = record { terms = terms; limits = sides } in made ≡ row_with e r)) × (is_narrow (row_steps e r) ≡ true)
    row_made terms sides p n q m = (
      (
        times_are,
        (λ i. record { terms = (p ∙ ap (λ z. terms_with e z r.terms) times_are) i; limits = (q ∙ ap (λ z. map_limits (λ s. s -ℚ z *ℚ put_number e) r.limits) times_are) i }),
      ),
      past ∙ narrow_parts (terms_steps e times r.terms) (sides_steps times (put_number e) r.limits) n m,
    )

-- ---- a form with factor g of the column
module _ (e : Elimination) (terms : List Term) (g : ℚ) (is : g ≡ factor_of terms (gone_column e)) where
  test_is : eq_ℚ (factor_of terms (gone_column e)) zero_ℚ ≡ eq_ℚ g zero_ℚ
  test_is = ap (λ z. eq_ℚ z zero_ℚ) (sym is)

  pub form_lacks : (z : ℚ) → z ≡ zero_ℚ → g ≡ zero_ℚ → eq_ℚ g zero_ℚ ≡ true
      → IsChanged e (Some terms) z None × (is_narrow (form_steps e terms) ≡ true)
  form_lacks z n o h = (
    record {
      times_are = n ∙ sym (times_none e) ∙ ap (times_by e) (sym o ∙ is);
      terms_are = ap (λ (ts : List Term). Some ts) (sym (cond-true (eq_ℚ (factor_of terms (gone_column e)) zero_ℚ) terms _ (test_is ∙ h)));
    },
    ap is_narrow (cond-true (eq_ℚ (factor_of terms (gone_column e)) zero_ℚ) [] _ (test_is ∙ h)) ∙ narrow_nil,
  )

  module _ (has : eq_ℚ g zero_ℚ ≡ false) where
    steps_are : form_steps e terms ≡ times_steps e g ++ terms_steps e (times_by e g) terms
    steps_are =
        cond-false (eq_ℚ (factor_of terms (gone_column e)) zero_ℚ) [] _ (test_is ∙ has)
        ∙ ap (λ z. times_steps e z ++ terms_steps e (times_by e z) terms) (sym is)

    pub form_times_wide : is_narrow (times_steps e g) ≡ false → is_narrow (form_steps e terms) ≡ false
    form_times_wide h = ap is_narrow steps_are ∙ wide_part (times_steps e g) (terms_steps e (times_by e g) terms) h

    module _ (times : ℚ) (t : times ≡ times_by e g) (narrow : is_narrow (times_steps e g) ≡ true) where
      after : is_narrow (form_steps e terms) ≡ is_narrow (terms_steps e times terms)
      after = ap is_narrow steps_are ∙ narrow_past (times_steps e g) (terms_steps e (times_by e g) terms) narrow ∙ ap (λ z. is_narrow (terms_steps e z terms)) (sym t)

      pub form_terms_wide : is_narrow (terms_steps e times terms) ≡ false → is_narrow (form_steps e terms) ≡ false
      form_terms_wide h = after ∙ h

      pub form_made : (made : List Term) → made ≡ terms_with e times terms → is_narrow (terms_steps e times terms) ≡ true
          → IsChanged e (Some terms) times (Some made) × (is_narrow (form_steps e terms) ≡ true)
      form_made made p n = (
        record {
          times_are = t ∙ ap (times_by e) is;
          terms_are =
              ap (λ (ts : List Term). Some ts) (p ∙ ap (λ z. terms_with e z terms) (t ∙ ap (times_by e) is)
              ∙ sym (cond-false (eq_ℚ (factor_of terms (gone_column e)) zero_ℚ) terms _ (test_is ∙ has)));
        },
        after ∙ n,
      )
