-- Runs of elastic systems: how they end, and their stops.
use Rattle.std.specs.Prelude.{◌≡◌, ⊤, ℕ, ◌<◌, true, List, [], length, None, IfSome}
use Rattle.rational.specs.Linear.{Assignment, form_value}
use Rattle.rational.specs.Rational.{ℚ}
use Rattle.lp_model.specs.declared.members.Member.{Member}
use Rattle.lp_model.specs.Program.{Program}
use Rattle.lp_model.specs.Satisfaction.{values_at}
use Rattle.frac128.specs.Calculation.{first_wide}
use Rattle.frac128.specs.Limit.{limit}
use Rattle.certs.specs.declared.solving.Site.{Site}
use Rattle.certs.specs.declared.solving.SiteKind.{SiteKind}
use Rattle.certs.specs.declared.solving.SiteKind.TheVariants.{Relax, Stretch}
use Rattle.certs.specs.declared.solving.Stop.{Stop}
use Rattle.certs.specs.declared.solving.Stop.TheVariants.{Wide, Pivots, Nodes, Large, Memory}
use Rattle.certs.specs.Checks.{IsSetOf}
use Rattle.certs.specs.Ended.{IsSolution}
use Rattle.certs.specs.Named.{IsNamedCombination}
use Rattle.certs.specs.Order.{AreSharesInOrder}
use Rattle.certs.specs.Sites.{IsStopped}
use Rattle.certs.specs.System.{LinearSystem}
use Rattle.certs.specs.Tableau.{IsTableauOf, IsWellFormedSystem}
use Rattle.certs.specs.Turns.{settle_choice, settle_values}
use Rattle.certs.specs.declared.evidence.Dual.{Dual}
use Rattle.dictionary.specs.Value.{DictionaryValue, tableau_of}
use Rattle.simplex.specs.Ends.{IsEnd}
use Rattle.simplex.specs.declared.settling.Settled.TheVariants.{Infeasible as SettlesInfeasible}
use Rattle.simplex.specs.ImproveEnds.{EndsAt, KeepsLimits}
use Rattle.simplex.specs.declared.improving.Improved.TheVariants.{Optimal as ImprovesOptimal}
use Rattle.simplex.specs.Duals.{IsNamedDual}
use Rattle.simplex.specs.Rays.{IsVariableRay}
use Rattle.two_widths.specs.Ends.{StopsSo}
use Rattle.relaxation.specs.declared.systems.Costs.{Costs}
use Rattle.relaxation.specs.declared.systems.Costs.TheVariants.{Ones, Weights}
use Rattle.relaxation.specs.Costs.{system_by}
use Rattle.relaxation.specs.Laws.{RefutesEnforced}
use Rattle.relaxation.specs.declared.running.Reached.{Reached}
use Rattle.relaxation.specs.declared.running.Reached.TheVariants.{Blocked, Best}
use Rattle.relaxation.specs.declared.solving.Solved.{Solved}
use Rattle.relaxation.specs.declared.solving.Solved.TheVariants.{Infeasible, Optimal}
use Rattle.relaxation.specs.declared.solving.Failure.{Failure}
use Rattle.relaxation.specs.declared.solving.Failure.TheVariants.{Stopped, OutOfMemory}

-- ---- of any system
-- nothing raises the objective without end
abbrev pub HasNoRay : LinearSystem → Type 0
HasNoRay system = (ray : Assignment) → IsVariableRay system ray → ⊥

-- the dictionary stands where the settle run is blocked
pub record StandsBlocked (system : LinearSystem) (now : DictionaryValue) (variable : ℕ) : Type 0 where
  pub is_of : IsTableauOf system (tableau_of now)
  pub usable : now.usable ≡ true
  pub blocked : IsEnd (SettlesInfeasible variable) (settle_choice (tableau_of now))
  pub narrow : first_wide limit (settle_values (tableau_of now)) ≡ None

-- or where the improve run is optimal, within the limits
pub record StandsBest (system : LinearSystem) (now : DictionaryValue) : Type 0 where
  pub is_of : IsTableauOf system (tableau_of now)
  pub within : KeepsLimits system (tableau_of now)
  pub ended : EndsAt limit now ImprovesOptimal

-- where the two runs end
abbrev pub IsReached : LinearSystem → DictionaryValue → Reached → Type 0
IsReached system now (Blocked variable) = StandsBlocked system now variable
IsReached system now Best = StandsBest system now

-- The values are those of the columns in a solution, of which the objective reaches the bound of a dual; the shares of the dual stand in order.
pub record IsBest (system : LinearSystem) (values : List ℚ) (dual : Dual) : Type 0 where
  pub formed : IsWellFormedSystem system
  pub count : length values ≡ length system.columns
  pub at : Assignment
  pub solution : IsSolution system at
  pub values_are : (j : ℕ) → j < length system.columns → values_at values j ≡ at j
  pub dual_of : IfSome system.objective (λ terms. IsNamedDual system terms dual.combo.shares dual.bound)
  pub tight : IfSome system.objective (λ terms. form_value terms at ≡ dual.bound)
  pub ordered : AreSharesInOrder dual.combo.shares

-- a combination of the system, in order, or its best values
abbrev pub IsSolved : LinearSystem → Solved → Type 0
IsSolved system (Infeasible combo) = IsNamedCombination system combo.shares × AreSharesInOrder combo.shares
IsSolved system (Optimal values dual) = IsBest system values.values dual

-- how its two runs stop
abbrev pub IsFailure : LinearSystem → ℕ → Failure → Type 0
IsFailure system pivots (Stopped stop) = StopsSo system pivots stop
IsFailure system pivots OutOfMemory = ⊤

-- ---- of an elastic one
-- a combination of the enforced members, in order, or the best values of the system
abbrev pub IsEased : Program → List Member → List Member → Costs → Solved → Type 0
IsEased model set enforced costs (Infeasible combo) = RefutesEnforced model enforced combo.shares
IsEased model set enforced costs (Optimal values dual) = IsBest (system_by model set enforced costs) values.values dual

-- which run it is
abbrev pub kind_by : Costs → SiteKind
kind_by Ones = Stretch
kind_by Weights = Relax

-- the site is that of the elastic system of just this set with just this enforced part, on no path
pub record IsSiteBy (model : Program) (set enforced : List Member) (costs : Costs) (site : Site) : Type 0 where
  pub kind : site.kind ≡ kind_by costs
  pub set_of : IsSetOf model site.set
  pub set_is : site.set.members ≡ set
  pub enforced_of : IsSetOf model site.enforced
  pub enforced_is : site.enforced.members ≡ enforced
  pub path_is : site.path ≡ []

-- That run stops so within the pivots. Want of memory may come at any time.
abbrev pub IsStopBy : Program → List Member → List Member → Costs → ℕ → Stop → Type 0
IsStopBy model set enforced costs pivots (Wide site step operation) = IsSiteBy model set enforced costs site × IsStopped model (record { pivots = pivots; nodes = 0 }) (Wide site step operation)
IsStopBy model set enforced costs pivots (Pivots site) = IsSiteBy model set enforced costs site × IsStopped model (record { pivots = pivots; nodes = 0 }) (Pivots site)
IsStopBy model set enforced costs pivots (Nodes site) = ⊥
IsStopBy model set enforced costs pivots (Large size) = ⊥
IsStopBy model set enforced costs pivots Memory = ⊤
