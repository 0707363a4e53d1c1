-- What quick runs show of the objective.
use Rattle.std.specs.Prelude.{List}
use Rattle.lp_model.specs.declared.members.Member.{Member}
use Rattle.lp_model.specs.Program.{Program}
use Rattle.unbounded.specs.declared.diagnosing.Diagnosis.{Diagnosis}
use Rattle.unbounded.specs.declared.diagnosing.Diagnosis.TheVariants.{Unbounded, Bounded, Infeasible}
use Rattle.unbounded.specs.Diagnosed.{IsUnboundedBy, IsBoundedBy}

-- a point of the set with a ray along which the objective runs away, or with a bound on it; never that there is no point
abbrev pub IsBestOf : Program → List Member → Diagnosis → Type 0
IsBestOf model set (Unbounded point ray) = IsUnboundedBy model set point ray
IsBestOf model set (Bounded point value dual) = IsBoundedBy model set point value dual
IsBestOf model set (Infeasible proof) = ⊥
