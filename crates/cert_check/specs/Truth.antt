-- What a report claims of a program, apart from any check.
use Rattle.std.specs.Prelude.{◌≡◌, true, false, List, [], All, IfSome, zip, None, Some}
use Rattle.rational.specs.Rational.{ℚ}
use Rattle.lp_model.specs.Program.{Program, IsWellFormed}
use Rattle.lp_model.specs.declared.members.Member.{Member}
use Rattle.lp_model.specs.Members.{active_members}
use Rattle.lp_model.specs.Satisfaction.{values_at, Satisfies, IsUnsatisfiable, IsIrreducible, IsPart}
use Rattle.certs.specs.declared.evidence.Point.{Point}
use Rattle.certs.specs.declared.evidence.Proof.{Proof}
use Rattle.certs.specs.declared.evidence.Ray.{Ray}
use Rattle.certs.specs.Alternative.{cost, IsCheapest, IsPrice}
use Rattle.certs.specs.Bound.{objective_value, Unbounded, IsBoundDual, IsImproving, IsValidBound}
use Rattle.certs.specs.Trees.{has_mark}
use Rattle.least_checks.specs.Least.{IsLeastBy}
use Rattle.report_text.specs.declared.report.Bounded.{Bounded}
use Rattle.report_text.specs.declared.report.Core.{Core}
use Rattle.report_text.specs.declared.report.Answer.{Answer}
use Rattle.report_text.specs.declared.report.Answer.TheVariants.{Feasible, Infeasible, Irreducible, Unbounded as RunsAway, Bounded as BoundedBy, Least as LeastBy, RigidInfeasible as RigidRefuted, Reduced, Done, Refused, NotLinear, Stopped}
use Rattle.report_text.specs.declared.report.Command.{Command}
use Rattle.report_text.specs.declared.report.Entry.{Entry}
use Rattle.report_text.specs.Turns.{after, answer_after, AllEntries}
use Rattle.report_text.specs.declared.report.Report.{Report}
use Rattle.report_text.specs.Form.{IsReportFor}
use Rattle.cert_check.specs.Trials.{leaf_shares, others, may_be_left_out, rigid_active, trials, outcome_of, IsAccepted}

-- some of these members, which no point satisfies
pub record IsRefuted (model : Program) (among set : List Member) : Type 0 where
  pub part : IsPart set among
  pub unsatisfiable : IsUnsatisfiable model set

-- Members that are active, that no point satisfies, and of which each may be left out: its own witness satisfies all the others.
pub record IsIrreducibleBy (model : Program) (set : List Member) (witnesses : List Point) : Type 0 where
  pub active : IsPart set (active_members model)
  pub unsatisfiable : IsUnsatisfiable model set
  pub witnessed : All (λ w. Satisfies model (others set w.0) (values_at w.1.values)) (zip set witnesses)
  pub irreducible : IsIrreducible model set

-- Where a total with its price is told, the proof is one leaf, whose shares are a cheapest weighting of the active members, and cost the total; and the price is one for it.
pub record IsPricedBy (model : Program) (proof : Proof) (t : ℚ) (p : Point) : Type 0 where
  pub cheapest : IsCheapest model (active_members model) (leaf_shares proof.nodes)
  pub total : cost model (leaf_shares proof.nodes) ≡ t
  pub price : IsPrice model (active_members model) t (values_at p.values)

-- an irreducible set with its witnesses, and with its price where that is told
pub record IsTrueCore (model : Program) (core : Core) : Type 0 where
  pub set : IsIrreducibleBy model core.members.members core.witnesses
  pub price : IfSome core.price (λ p. IsPricedBy model core.proof p.0 p.1)

-- A point that satisfies the active members, and a ray that keeps them and improves the objective: so for every number some point of them has a better value.
pub record IsUnboundedAt (model : Program) (p : Point) (ray : Ray) : Type 0 where
  pub satisfies : Satisfies model (active_members model) (values_at p.values)
  pub improving : IsImproving model (active_members model) (values_at ray.values)
  pub unbounded : Unbounded model (active_members model)

-- A point that satisfies the active members; a value that is told is the objective's there, and one is left out only where an active member is a mark and its sum is too wide; the dual shows a bound, which no point passes; and without an active mark the value is told and reaches it.
pub record IsBoundedAt (model : Program) (b : Bounded) : Type 0 where
  pub satisfies : Satisfies model (active_members model) (values_at b.point.values)
  pub value : (v : ℚ) → b.objective ≡ Some v → objective_value model (values_at b.point.values) ≡ v
  pub left_out : b.objective ≡ None → may_be_left_out model b.point ≡ true
  pub dual : IsBoundDual model (active_members model) b.dual.combo.shares b.dual.bound
  pub valid : IsValidBound model (active_members model) b.dual.bound
  pub reached : has_mark (active_members model) ≡ false → b.objective ≡ Some b.dual.bound

-- What an answer claims: its point satisfies the active members, or its members are refuted, or irreducible by its witnesses, and where a price is told by a cheapest weighting; or the objective is unbounded along its ray, or bounded by its dual; or at its point the weighted violation is least, by its dual, or its members are rigid and refuted. Where a command is done or refused, or a solve stopped, nothing is claimed of the program; nor where it is told how far the program is reduced, or that a column is to be whole where it may not be.
abbrev pub IsTrueAnswer : Program → Answer → Type 0
IsTrueAnswer model (Feasible p) = Satisfies model (active_members model) (values_at p.values)
IsTrueAnswer model (Infeasible set proof) = IsRefuted model (active_members model) set.members
IsTrueAnswer model (Irreducible core) = IsTrueCore model core
IsTrueAnswer model (RunsAway p ray) = IsUnboundedAt model p ray
IsTrueAnswer model (BoundedBy b) = IsBoundedAt model b
IsTrueAnswer model (LeastBy p dual) = IsLeastBy model (active_members model) p dual
IsTrueAnswer model (RigidRefuted set proof) = IsRefuted model (rigid_active model) set.members
IsTrueAnswer model (Reduced r) = Unit {0}
IsTrueAnswer model Done = Unit {0}
IsTrueAnswer model (Refused r) = Unit {0}
IsTrueAnswer model (NotLinear j) = Unit {0}
IsTrueAnswer model (Stopped stop) = Unit {0}

-- what an entry claims is so of the program after the commands before it, and where its command is an edit or an undo, its answer is the right one
pub record IsTrueOf (first : Program) (before : List Command) (e : Entry) : Type 0 where
  pub answer : IsTrueAnswer (after first before) e.answer
  pub reply : (right : Answer) → answer_after first before e.command ≡ Some right → e.answer ≡ right

-- and that of each entry, after the commands before it
abbrev pub AreTrue : Program → List Command → List Entry → Type 0
AreTrue first before entries = AllEntries (IsTrueOf first) before entries

-- ---- what is accepted is true
-- where the trials of a report in the grammar for a program all pass, its notes are the program's, and what each entry claims is so
abbrev pub AcceptedLaw : Type 0
AcceptedLaw = (model : Program) (report : Report) → IsWellFormed model → IsReportFor model report → IsAccepted (outcome_of report.entries (trials model report)) → (report.notes ≡ model.notes) × AreTrue model [] report.entries
