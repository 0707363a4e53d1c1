-- What a relaxation gives, and its stops.
use Rattle.std.specs.Prelude.{◌≡◌, ⊤, ℕ, List, []}
use Rattle.lp_model.specs.declared.members.Member.{Member}
use Rattle.lp_model.specs.Program.{Program}
use Rattle.certs.specs.declared.solving.Site.{Site}
use Rattle.certs.specs.declared.solving.SiteKind.TheVariants.{Relax}
use Rattle.certs.specs.declared.solving.Stop.{Stop}
use Rattle.certs.specs.declared.solving.Stop.TheVariants.{Wide, Pivots, Nodes, Large, Memory}
use Rattle.certs.specs.Checks.{IsSetOf}
use Rattle.certs.specs.Sites.{IsStopped}
use Rattle.certs.specs.Violation.{rigid_members}
use Rattle.relaxation.specs.Laws.{RefutesEnforced}
use Rattle.least_checks.specs.Least.{IsLeastBy}
use Rattle.relaxation.specs.declared.relaxing.Relaxed.{Relaxed}
use Rattle.relaxation.specs.declared.relaxing.Relaxed.TheVariants.{Least, RigidInfeasible}

-- a point and a dual of the least weighted violation; or a combination of the rigid members, in order
abbrev pub IsRelaxed : Program → List Member → Relaxed → Type 0
IsRelaxed model set (Least point dual) = IsLeastBy model set point dual
IsRelaxed model set (RigidInfeasible combo) = RefutesEnforced model (rigid_members model set) combo.shares

-- the site is that of the elastic system of just this set, its rigid members enforced, on no path
pub record IsRelaxSite (model : Program) (set : List Member) (site : Site) : Type 0 where
  pub kind : site.kind ≡ Relax
  pub set_of : IsSetOf model site.set
  pub set_is : site.set.members ≡ set
  pub enforced_of : IsSetOf model site.enforced
  pub enforced_is : site.enforced.members ≡ rigid_members model set
  pub path_is : site.path ≡ []

-- Its run stops so within the pivots. Want of memory may come at any time.
abbrev pub IsRelaxStop : Program → List Member → ℕ → Stop → Type 0
IsRelaxStop model set pivots (Wide site step operation) = IsRelaxSite model set site × IsStopped model (record { pivots = pivots; nodes = 0 }) (Wide site step operation)
IsRelaxStop model set pivots (Pivots site) = IsRelaxSite model set site × IsStopped model (record { pivots = pivots; nodes = 0 }) (Pivots site)
IsRelaxStop model set pivots (Nodes site) = ⊥
IsRelaxStop model set pivots (Large size) = ⊥
IsRelaxStop model set pivots Memory = ⊤
