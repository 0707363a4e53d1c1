-- What is diagnosed of a program's objective, and what the diagnosis rests on.
use Rattle.std.specs.Prelude.{◌≡◌, ◌⊎◌, ⊤, ℕ, true, false, List, [], length, Option, Some, None, Result, Ok, Err}
use Rattle.rational.specs.Rational.{ℚ}
use Rattle.rational.specs.Linear.{Assignment}
use Rattle.lp_model.specs.declared.members.Member.{Member}
use Rattle.lp_model.specs.Program.{Program}
use Rattle.lp_model.specs.Satisfaction.{values_at, Satisfies}
use Rattle.lp_model.specs.Evaluation.{value_operations}
use Rattle.frac128.specs.Limit.{limit}
use Rattle.frac128.specs.declared.Wide.{Wide as Operation}
use Rattle.frac128.specs.Calculation.{first_wide}
use Rattle.certs.specs.declared.evidence.Point.{Point}
use Rattle.certs.specs.declared.evidence.Ray.{Ray}
use Rattle.certs.specs.declared.solving.Site.{Site}
use Rattle.certs.specs.declared.solving.SiteKind.TheVariants.{Improve}
use Rattle.certs.specs.declared.solving.Stop.{Stop}
use Rattle.certs.specs.declared.solving.Stop.TheVariants.{Wide, Pivots, Nodes, Large, Memory}
use Rattle.certs.specs.declared.solving.Verdict.{Verdict}
use Rattle.certs.specs.declared.solving.Verdict.TheVariants.{Feasible, Infeasible as Refuted}
use Rattle.certs.specs.Bound.{objective_value, without_marks, IsBoundDual, IsImproving}
use Rattle.certs.specs.Checks.{IsSetOf}
use Rattle.certs.specs.Improves.ImproveEnd.{AtOptimum, Unbounded as WithoutEnd}
use Rattle.certs.specs.Order.{AreSharesInOrder}
use Rattle.certs.specs.Proof.{IsProof}
use Rattle.certs.specs.Sites.{IsStopped}
use Rattle.certs.specs.Tales.{IsPointOf, OracleState, asked_after}
use Rattle.certs.specs.Trees.{has_mark}
use Rattle.certs.specs.declared.evidence.Dual.{Dual}
use Rattle.unbounded.specs.Runs.{IsLastPoint}
use Rattle.unbounded.specs.declared.diagnosing.Diagnosis.{Diagnosis}
use Rattle.unbounded.specs.declared.diagnosing.Diagnosis.TheVariants.{Unbounded, Bounded, Infeasible}

-- ---- what it says
-- a value that is calculated, where no operation of it is too wide
abbrev pub if_narrow : Option Operation → ℚ → Option ℚ
if_narrow None v = Some v
if_narrow (Some o) v = None

-- A point of the set; and a direction, with a change for each column, that improves the objective and keeps every member but the marks.
pub record IsUnboundedBy (model : Program) (set : List Member) (point : Point) (ray : Ray) : Type 0 where
  pub point_of : IsPointOf model set point
  pub each_column : length ray.values ≡ length model.columns
  pub improving : IsImproving model (without_marks set) (values_at ray.values)

-- some assignment that satisfies the set has this value of the objective
pub record Reaches (model : Program) (set : List Member) (v : ℚ) : Type 0 where
  pub at : Assignment
  pub satisfies : Satisfies model set at
  pub value : objective_value model at ≡ v

-- A point of the set, and a bound by the members but the marks, with its shares in order, that is reached where marks do not count. Without a mark the point reaches the bound; with one its value is told where no operation of it is too wide.
pub record IsBoundedBy (model : Program) (set : List Member) (point : Point) (value : Option ℚ) (dual : Dual) : Type 0 where
  pub point_of : IsPointOf model set point
  pub dual_of : IsBoundDual model (without_marks set) dual.combo.shares dual.bound
  pub ordered : AreSharesInOrder dual.combo.shares
  pub tight : Reaches model (without_marks set) dual.bound
  pub reached : has_mark set ≡ false → (value ≡ Some dual.bound) × (objective_value model (values_at point.values) ≡ dual.bound)
  pub marked : has_mark set ≡ true
      → value ≡ if_narrow (first_wide limit (value_operations model.objective (values_at point.values))) (objective_value model (values_at point.values))

-- what a diagnosis says of a set
abbrev pub IsDiagnosis : Program → List Member → Diagnosis → Type 0
IsDiagnosis model set (Unbounded point ray) = IsUnboundedBy model set point ray
IsDiagnosis model set (Bounded point value dual) = IsBoundedBy model set point value dual
IsDiagnosis model set (Infeasible proof) = IsProof model set proof.nodes

-- the point is the last one of the improve run, which is unbounded or optimal
abbrev pub HasLastPoint : Program → List Member → ℕ → Diagnosis → Type 0
HasLastPoint model set pivots (Unbounded point ray) = (j : ℕ) × IsLastPoint model set pivots (WithoutEnd j) point.values
HasLastPoint model set pivots (Bounded point value dual) = IsLastPoint model set pivots AtOptimum point.values
HasLastPoint model set pivots (Infeasible proof) = ⊤

-- ---- its own stops
-- the site is that of the improve run of just this set, with no path and no enforced part
pub record IsImproveSite (model : Program) (set : List Member) (site : Site) : Type 0 where
  pub kind : site.kind ≡ Improve
  pub set_of : IsSetOf model site.set
  pub set_is : site.set.members ≡ set
  pub enforced_of : IsSetOf model site.enforced
  pub none_enforced : site.enforced.members ≡ []
  pub path_is : site.path ≡ []

-- That run stops so within the pivots. Want of memory may come at any time.
abbrev pub IsOwnStop : Program → List Member → ℕ → Stop → Type 0
IsOwnStop model set pivots (Wide site step operation) = IsImproveSite model set site × IsStopped model (record { pivots = pivots; nodes = 0 }) (Wide site step operation)
IsOwnStop model set pivots (Pivots site) = IsImproveSite model set site × IsStopped model (record { pivots = pivots; nodes = 0 }) (Pivots site)
IsOwnStop model set pivots (Nodes site) = ⊥
IsOwnStop model set pivots (Large size) = ⊥
IsOwnStop model set pivots Memory = ⊤

-- ---- by the oracle's answer
-- A stop and a proof are passed on; a point is, where the set has a mark.
abbrev pub PassesOn : List Member → Result Verdict Stop → Result Diagnosis Stop → Type 0
PassesOn set (Err stop) result = result ≡ Err stop
PassesOn set (Ok (Refuted proof)) result = result ≡ Ok (Infeasible proof)
PassesOn set (Ok (Feasible asked)) (Ok (Unbounded point ray)) = has_mark set ≡ true → point ≡ asked
PassesOn set (Ok (Feasible asked)) (Ok (Bounded point value dual)) = has_mark set ≡ true → point ≡ asked
PassesOn set (Ok (Feasible asked)) (Ok (Infeasible proof)) = ⊥
PassesOn set (Ok (Feasible asked)) (Err stop) = ⊤

-- the oracle is asked for the set, and for nothing else
pub record IsAfterAsk (Answers : Result Verdict Stop → Type 0) (old new : OracleState) (set : List Member) (result : Result Diagnosis Stop) : Type 0 where
  pub answer : Result Verdict Stop
  pub answered : Answers answer
  pub told : new ≡ asked_after old set answer
  pub passed : PassesOn set answer result

-- or not at all, where there is no memory for the set
abbrev pub AsksOnce : (Result Verdict Stop → Type 0) → OracleState → OracleState → List Member → Result Diagnosis Stop → Type 0
AsksOnce Answers old new set result = ((new ≡ old) × (result ≡ Err Memory)) ⊎ IsAfterAsk Answers old new set result
