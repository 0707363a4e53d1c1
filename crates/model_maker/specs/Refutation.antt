-- That production plans cannot be met.
use Rattle.std.specs.Prelude.{ℕ, ◌≤◌}
use Rattle.rational.specs.Linear.{Assignment}
use Rattle.lp_model.specs.Program.{Program}
use Rattle.lp_model.specs.Members.{active_members}
use Rattle.lp_model.specs.Satisfaction.{Satisfies, IsUnsatisfiable}
use Rattle.model_maker.specs.PlanProgram.{plan_program}

-- no values of the columns satisfy the active members of the program, and so no point does
pub record CannotBeMet (model : Program) : Type 0 where
  pub values : (x : Assignment) → ¬ (Satisfies model (active_members model) x)
  pub points : IsUnsatisfiable model (active_members model)

-- a plan of at least one period cannot be met
abbrev pub UnsatisfiableLaw : Type 0
UnsatisfiableLaw = (n : ℕ) → 1 ≤ n → CannotBeMet (plan_program n)
