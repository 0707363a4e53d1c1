-- What solvers tell of their calls: how often they were asked, their stops, and the first core.
use Rattle.std.specs.Prelude.{◌≡◌, ⊤, ℕ, ◌+◌, ◌-◌, ◌<◌, ◌^◌, nat_lt, Bool, false, not, cond, List, [], ◌∷◌, ◌++◌, length, filter, Option, Some, None, Result, Ok, Err, All}
use Rattle.lp_model.specs.declared.members.Member.{Member}
use Rattle.lp_model.specs.Program.{Program}
use Rattle.lp_model.specs.Members.{has}
use Rattle.lp_model.specs.MemberSets.{SetValue}
use Rattle.lp_model.specs.Satisfaction.{Satisfies, values_at, IsPart}
use Rattle.certs.specs.declared.evidence.Point.{Point as OnePoint}
use Rattle.certs.specs.declared.evidence.Branch.{Branch}
use Rattle.certs.specs.declared.solving.Site.{Site}
use Rattle.certs.specs.declared.solving.Stop.{Stop}
use Rattle.certs.specs.declared.solving.Stop.TheVariants.{Wide, Pivots, Nodes, Large, Memory}
use Rattle.certs.specs.declared.solving.Verdict.{Verdict}
use Rattle.certs.specs.declared.solving.Verdict.TheVariants.{Feasible, Infeasible}
use Rattle.certs.specs.declared.solving.NodeEnd.{NodeEnd}
use Rattle.certs.specs.declared.solving.NodeEnd.TheVariants.{Point, Cut}
use Rattle.certs.specs.declared.solving.Stretched.{Stretched}
use Rattle.certs.specs.declared.solving.Stretched.TheVariants.{Met, Stretched as Further, Cut as Refuted}
use Rattle.certs.specs.declared.solving.SiteKind.TheVariants.{Settle, Stretch}
use Rattle.certs.specs.Checks.{IsSetOf}
use Rattle.certs.specs.Combination.{IsCombination}
use Rattle.certs.specs.Proof.{IsProof}
use Rattle.certs.specs.Filter.{Stretches}
use Rattle.certs.specs.Named.{IsKnownNode, used_members}
use Rattle.certs.specs.Plain.{plain_system}
use Rattle.certs.specs.Runs.End.{TooWide, Spent}
use Rattle.certs.specs.Sites.{Budgets, IsStopped}
use Rattle.certs.specs.Solves.{SettlesAt, IsPlainCut, RunEnds}

-- a count with one more; it stays at its greatest value once it is there
abbrev pub one_more : ℕ → ℕ
one_more n = cond (nat_lt n (2 ^ 64 - 1)) (n + 1) n

-- ---- stops
-- a stop, and the set that was asked for; for a stretch also its enforced part
pub record Stopped : Type 0 where
  pub stop : Stop
  pub set : List Member
  pub enforced : List Member

-- want of memory is not listed
abbrev pub listed_stop : Stop → List Member → List Member → List Stopped
listed_stop (Wide site step operation) set enforced = record { stop = Wide site step operation; set = set; enforced = enforced } ∷ []
listed_stop (Pivots site) set enforced = record { stop = Pivots site; set = set; enforced = enforced } ∷ []
listed_stop (Nodes site) set enforced = record { stop = Nodes site; set = set; enforced = enforced } ∷ []
listed_stop (Large size) set enforced = record { stop = Large size; set = set; enforced = enforced } ∷ []
listed_stop Memory set enforced = []

-- the stops with that of a call, where it stopped
abbrev pub stops_after : {A : Type 0} → List Stopped → List Member → List Member → Result A Stop → List Stopped
stops_after stops set enforced (Ok answer) = stops
stops_after stops set enforced (Err stop) = stops ++ listed_stop stop set enforced

-- a site names a part of the set that was asked for
abbrev pub IsSiteWithin : List Member → Stop → Type 0
IsSiteWithin set (Wide site step operation) = IsPart site.set.members set
IsSiteWithin set (Pivots site) = IsPart site.set.members set
IsSiteWithin set (Nodes site) = IsPart site.set.members set
IsSiteWithin set (Large size) = ⊤
IsSiteWithin set Memory = ⊤

-- ---- verdicts
-- the point has a value for each column, and every one of the members holds there
pub record IsPointOf (model : Program) (members : List Member) (point : OnePoint) : Type 0 where
  pub each_column : length point.values ≡ length model.columns
  pub satisfies : Satisfies model members (values_at point.values)

-- a point of the set; or a proof that there is none
abbrev pub IsVerdict : Program → List Member → Verdict → Type 0
IsVerdict model set (Feasible point) = IsPointOf model set point
IsVerdict model set (Infeasible proof) = IsProof model set proof.nodes

-- a proof names members that the set may have
abbrev pub IsKnownVerdict : SetValue → Verdict → Type 0
IsKnownVerdict set (Feasible point) = ⊤
IsKnownVerdict set (Infeasible proof) = All (IsKnownNode set) proof.nodes

-- the members that an infeasible verdict used, and the set that was asked for
pub record FirstCore : Type 0 where
  pub core : List Member
  pub asked : List Member

-- that of the first infeasible verdict stays
abbrev pub first_core_after : Option FirstCore → List Member → Result Verdict Stop → Option FirstCore
first_core_after (Some first) set result = Some first
first_core_after None set (Ok (Infeasible proof)) = Some (record { core = used_members set proof.nodes; asked = set })
first_core_after None set (Ok (Feasible point)) = None
first_core_after None set (Err stop) = None

-- ---- tales
-- what an oracle tells of its calls: how often it was asked, its stops in order, and the first core
pub record TaleValue : Type 0 where
  pub asks : ℕ
  pub stops : List Stopped
  pub first_core : Option FirstCore

-- nothing was asked yet
abbrev pub no_tale : TaleValue
no_tale = record { asks = 0; stops = []; first_core = None }

-- after an ask for the set: one ask more, the stop at the end of the list, and the first core where there was none
abbrev pub tale_after : TaleValue → List Member → Result Verdict Stop → TaleValue
tale_after tale set result = record {
  asks = one_more tale.asks;
  stops = stops_after tale.stops set [] result;
  first_core = first_core_after tale.first_core set result;
}

-- what callers see of an oracle: the program, what each solve may spend, which sets it serves, and its tale
pub record OracleState : Type 0 where
  pub model : Program
  pub budgets : Budgets
  pub serves : List Member → Bool
  pub tale : TaleValue

-- after an ask for the set only the tale is another
abbrev pub asked_after : OracleState → List Member → Result Verdict Stop → OracleState
asked_after state set result = record state { tale = tale_after state.tale set result }

-- ---- runs of nodes
-- the site is the plain system's of just this set of the program and this path, and it has no enforced part
pub record IsNodeSite (model : Program) (set : List Member) (path : List Branch) (site : Site) : Type 0 where
  pub kind : site.kind ≡ Settle
  pub set_of : IsSetOf model site.set
  pub set_is : site.set.members ≡ set
  pub enforced_of : IsSetOf model site.enforced
  pub none_enforced : site.enforced.members ≡ []
  pub path_is : site.path ≡ path

-- The run of the set on the path ends or stops so. Want of memory may come at any time.
abbrev pub IsNodeEnd : Program → List Member → List Branch → ℕ → Result NodeEnd Stop → Type 0
IsNodeEnd model set path pivots (Ok (Point point)) = SettlesAt (plain_system model set path false) pivots point.values
IsNodeEnd model set path pivots (Ok (Cut combo)) = IsPlainCut model set path pivots combo.shares
IsNodeEnd model set path pivots (Err (Wide site step operation)) = IsNodeSite model set path site × RunEnds (plain_system model set path false) pivots (TooWide step operation)
IsNodeEnd model set path pivots (Err (Pivots site)) = IsNodeSite model set path site × RunEnds (plain_system model set path false) pivots Spent
IsNodeEnd model set path pivots (Err (Nodes site)) = ⊥
IsNodeEnd model set path pivots (Err (Large size)) = ⊥
IsNodeEnd model set path pivots (Err Memory) = ⊤

-- ---- rounds of stretching
-- the members that are to be enforced next and are not enforced yet; there is one
pub record IsFurther (model : Program) (set enforced further : List Member) : Type 0 where
  pub next : List Member
  pub stretches : Stretches model set enforced next
  pub further_are : further ≡ filter (λ m. not (has enforced m)) next
  pub some : 0 < length further

-- a point of the whole set; the members to be enforced besides; or a combination of those enforced
abbrev pub IsStretched : Program → List Member → List Member → Stretched → Type 0
IsStretched model set enforced (Met point) = IsPointOf model set point
IsStretched model set enforced (Further further) = IsFurther model set enforced further.members
IsStretched model set enforced (Refuted combo) = IsCombination model enforced [] combo.shares

-- the site is the elastic system's of just this set of the program and this enforced part
pub record IsStretchSite (model : Program) (set enforced : List Member) (site : Site) : Type 0 where
  pub kind : site.kind ≡ Stretch
  pub set_of : IsSetOf model site.set
  pub set_is : site.set.members ≡ set
  pub enforced_of : IsSetOf model site.enforced
  pub enforced_is : site.enforced.members ≡ enforced
  pub path_is : site.path ≡ []

-- the run of the elastic system stops so; want of memory may come at any time
abbrev pub IsStretchStop : Program → Budgets → List Member → List Member → Stop → Type 0
IsStretchStop model budgets set enforced (Wide site step operation) = IsStretchSite model set enforced site × IsStopped model budgets (Wide site step operation)
IsStretchStop model budgets set enforced (Pivots site) = IsStretchSite model set enforced site × IsStopped model budgets (Pivots site)
IsStretchStop model budgets set enforced (Nodes site) = ⊥
IsStretchStop model budgets set enforced (Large size) = ⊥
IsStretchStop model budgets set enforced Memory = ⊤
