-- What a dictionary shows at the end of a system's runs.
use Rattle.std.proofs.Common.{◌≡◌, ◌<◌, refl, sym, ◌∙◌, ap, subst, ℕ, List, map, length, Option, Some, None}
use Rattle.std.specs.Prelude.{IfSome}
use Rattle.rational.specs.Rational.{ℚ}
use Rattle.rational.specs.Linear.{Term, form_value}
use Rattle.lp_model.specs.Satisfaction.{values_at}
use Rattle.certs.specs.Improves.{objective_variable}
use Rattle.certs.specs.Named.{named}
use Rattle.certs.specs.Order.{AreSharesInOrder}
use Rattle.certs.specs.System.{LinearSystem}
use Rattle.certs.specs.Tableau.{IsWellFormedSystem, value_of}
use Rattle.certs.proofs.Feasible.{feasible_law}
use Rattle.certs.specs.declared.evidence.Dual.{Dual}
use Rattle.dictionary.specs.Value.{DictionaryValue, tableau_of}
use Rattle.simplex.specs.Duals.{IsNamedDual, optimal_shares}
use Rattle.simplex.proofs.Optimal.{objective_value_law}
use Rattle.unbounded.proofs.Ordered.{optimal_in_order}
use Rattle.relaxation.specs.Runs.{IsBest, StandsBest}
use Rattle.unbounded.proofs.Settled.{settled}

-- what holds of an objective that is there
if_some : {A : Type 0} (o : Option A) (P : A → Type 0) → ((a : A) → o ≡ Some a → P a) → IfSome o P
if_some None P h = tt
if_some (Some a) P h = h a refl

module _ (system : LinearSystem) (now : DictionaryValue) (formed : IsWellFormedSystem system) (count : length system.columns ≡ now.columns) (stands : StandsBest system now) where
  pub best : (values : List ℚ) (dual : Dual)
      → (length values ≡ now.columns) × ((v : ℕ) → v < now.columns → values_at values v ≡ value_of (tableau_of now) v)
      → dual.combo.shares ≡ map (named now.columns) (optimal_shares system (tableau_of now))
      → dual.bound ≡ value_of (tableau_of now) (objective_variable (tableau_of now))
      → ((terms : List Term) → system.objective ≡ Some terms → IsNamedDual system terms dual.combo.shares dual.bound) → IsBest system values dual
  best values dual read shares bound named_dual = record {
    formed = formed;
    count = read.0 ∙ sym count;
    at = value_of (tableau_of now);
    solution = feasible_law system (tableau_of now) formed stands.is_of (settled system (tableau_of now) stands.is_of stands.within);
    values_are = λ j l. read.1 j (subst (λ n. j < n) count l);
    dual_of = if_some system.objective (λ terms. IsNamedDual system terms dual.combo.shares dual.bound) named_dual;
    tight = if_some system.objective (λ terms. form_value terms (value_of (tableau_of now)) ≡ dual.bound) (λ terms e. sym (bound ∙ objective_value_law system (tableau_of now) terms formed e stands.is_of));
    ordered = subst AreSharesInOrder (sym (shares ∙ ap (λ n. map (named n) (optimal_shares system (tableau_of now))) (sym count))) (optimal_in_order system (tableau_of now));
  }
