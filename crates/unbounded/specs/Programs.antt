-- What duals and rays of the plain system of a set are in the program.
use Rattle.std.specs.Prelude.{true, List, []}
use Rattle.rational.specs.Rational.{ℚ}
use Rattle.lp_model.specs.declared.members.Member.{Member}
use Rattle.lp_model.specs.Program.{Program, IsWellFormed}
use Rattle.lp_model.specs.Satisfaction.{values_at}
use Rattle.certs.specs.declared.evidence.Share.{Share}
use Rattle.certs.specs.Bound.{directed, without_marks, IsBoundDual, IsImproving}
use Rattle.certs.specs.Named.{program_shares}
use Rattle.certs.specs.Plain.{greatest_objective, plain_system}
use Rattle.simplex.specs.Duals.{IsNamedDual}
use Rattle.simplex.specs.Rays.{IsSystemRay}

-- A dual of the system, its shares named in the program, is a dual of the set without its marks; its bound is negated when minimising.
abbrev pub ProgramDualLaw : Type 0
ProgramDualLaw = (model : Program) (set : List Member) (shares : List Share) (b : ℚ) → IsWellFormed model
    → IsNamedDual (plain_system model set [] true) (greatest_objective model) shares b
    → IsBoundDual model (without_marks set) (program_shares model set [] shares) (directed model b)

-- a ray of the system keeps every member of the set but the marks, and improves the objective
abbrev pub ProgramRayLaw : Type 0
ProgramRayLaw = (model : Program) (set : List Member) (values : List ℚ) → IsWellFormed model
    → IsSystemRay (plain_system model set [] true) values → IsImproving model (without_marks set) (values_at values)
