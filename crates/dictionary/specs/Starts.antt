-- What a dictionary asks of the system that it starts from.
use Rattle.std.specs.Prelude.{◌≡◌, ℕ, ◌<◌, ◌^◌, false, List, IfSome, All}
use Rattle.rational.specs.Rational.{ℚ}
use Rattle.rational.specs.Linear.{Term}
use Rattle.frac128.specs.Width.{is_too_wide}
use Rattle.certs.specs.System.{Limits, LinearSystem}
use Rattle.certs.specs.Tableau.{variables}

-- a number whose parts do not pass `most`
abbrev pub Fits : ℕ → ℚ → Type 0
Fits most q = is_too_wide most q ≡ false

-- both limits, where they are there
pub record FitLimits (most : ℕ) (limits : Limits) : Type 0 where
  pub lower : IfSome limits.lower (Fits most)
  pub upper : IfSome limits.upper (Fits most)

-- the factors of a form
abbrev pub FitForm : ℕ → List Term → Type 0
FitForm most terms = All (λ t. Fits most t.factor) terms

-- all numbers of a system, and there are few variables
pub record FitSystem (most : ℕ) (system : LinearSystem) : Type 0 where
  pub few : variables system < 2 ^ 31
  pub columns : All (FitLimits most) system.columns
  pub row_limits : All (λ r. FitLimits most r.limits) system.rows
  pub row_forms : All (λ r. FitForm most r.terms) system.rows
  pub objective : IfSome system.objective (FitForm most)
