-- What is right can be printed.
use Rattle.std.proofs.Common.{◌≡◌, refl, sym, subst, ℕ, not, List, [], length, Some, None, Option, Result, Ok, Err, inl, inr}
use Rattle.std.specs.Prelude.{All, IfOk, IfSome}
use Rattle.std.proofs.lemmas.Bool.{cases_lt}
use Rattle.std.proofs.lemmas.List.Elements.{All-filter}
use Rattle.rational.specs.Rational.{ℚ}
use Rattle.lp_model.specs.declared.members.Member.{Member}
use Rattle.lp_model.specs.Program.{Program, IsWellFormed}
use Rattle.lp_model.specs.Members.{active_members, has}
use Rattle.lp_model.specs.MemberSets.{SetValue, active_set}
use Rattle.lp_model.specs.Satisfaction.{IsPart}
use Rattle.certs.specs.declared.evidence.Point.{Point}
use Rattle.certs.specs.declared.evidence.Proof.{Proof}
use Rattle.certs.specs.declared.solving.Site.{Site}
use Rattle.certs.specs.declared.solving.Stop.{Stop}
use Rattle.certs.specs.Checks.{IsSetOf}
use Rattle.certs.specs.Proof.{IsProof}
use Rattle.certs.specs.Sites.{Budgets}
use Rattle.certs.specs.Violation.{rigid_members}
use Rattle.report_text.specs.declared.report.Method.{Method}
use Rattle.report_text.specs.declared.report.Method.TheVariants.{Deletion, Additive, Sensitivity, Elastic, Alternative}
use Rattle.report_text.specs.declared.report.Core.{Core}
use Rattle.report_text.specs.declared.report.ToldSite.{ToldSite}
use Rattle.report_text.specs.declared.report.ToldStop.{ToldStop}
use Rattle.report_text.specs.declared.report.ToldStop.TheVariants.{Wide, Pivots as Spent, Nodes, Large}
use Rattle.report_text.specs.Told.{told_site}
use Rattle.report_text.specs.declared.report.Answer.{Answer}
use Rattle.report_text.specs.declared.report.Answer.TheVariants.{Feasible, Infeasible, Irreducible, Unbounded as RunsAway, Bounded as BoundedBy, Least as LeastBy, RigidInfeasible as RigidRefuted, Reduced, Stopped}
use Rattle.alt_polyhedron.specs.Pricing.{IsPricingStop}
use Rattle.relaxation.specs.Relaxed.{IsRelaxStop}
use Rattle.unbounded.specs.Diagnosed.{IsOwnStop}
use Rattle.report_printer.specs.Printing.{IsKnownAnswer, IsKnownCore, IsKnownMember, IsKnownPrice, IsKnownProof, IsKnownSite, IsKnownStep, IsKnownStop}
use Rattle.analysis.specs.Least.{IsLeastTold, IsRelaxation}
use Rattle.analysis.specs.Linear.{IsLinearly, IsLinearlyBy, alternative_size, elastic_size, first_mark}
use Rattle.analysis.specs.Objectives.{IsDiagnosed, IsSized, IsTold, most_entries, system_size}
use Rattle.analysis.specs.Right.{IsAtRun, IsChainStop, IsChecked, IsCoreFound, IsEarlyFound, IsEnforcedTold, IsFound, IsIsolated, IsLateFound, IsPrintedSite, IsReduction, IsRefutation, IsRightCore, IsRunAt, IsSettleStop, IsSolved, IsStoppedBy, IsWeighedTold, IsWhole}
use Rattle.analysis.proofs.Easing.{least_known}
use Rattle.analysis.proofs.Found.{part_possible, possible_members_are}
use Rattle.analysis.proofs.Leaving.{known_steps}
use Rattle.analysis.proofs.Marks.{mark_known}
use Rattle.analysis.proofs.Objectives.{dual_sources}
use Rattle.analysis.proofs.Refuting.{known_nodes, used_of_model, used_within}
use Rattle.analysis.proofs.Stopping.{part_all}

module _ (model : Program) where
  -- ---- parts of answers
  known_proof : (part : List Member) (proof : Proof) → IsPart part (active_members model) → IsProof model part proof.nodes → IsKnownProof model proof
  known_proof part proof h p = known_nodes model part (part_possible model part h) proof.nodes p

  known_refutation : (printed : SetValue) (proof : Proof) → IsRefutation model printed proof → IsSetOf model printed × IsKnownProof model proof
  known_refutation printed proof h = (
    used_of_model model (active_set model) proof.nodes printed refl h.used,
    known_proof printed.members proof (used_within model printed proof.nodes h.used) h.proves,
  )

  known_price : (price : Option (ℚ × Point)) → IfSome price (λ p. length p.1.values ≡ length model.columns) → IsKnownPrice model price
  known_price None h = tt
  known_price (Some p) h = h

  known_core : (core : Core) → IsRightCore model core → IsKnownCore model core
  known_core core h = record {
    members = h.of_model;
    points = λ k d l. (h.witnesses.each k d l).each_column;
    proof = known_proof core.members.members core.proof h.active h.proves;
    price = known_price core.price h.price;
  }

  known_site : (site : Site) → IsPrintedSite model site → IsKnownSite model (told_site model site)
  known_site site h =
      let known : All (IsKnownMember model) (active_members model) = possible_members_are model in record {
        left = All-filter (λ (m : Member). not (has site.set.members m)) (IsKnownMember model) (active_members model) known;
        enforced = part_all (IsKnownMember model) site.enforced.members site.set.members (active_members model) h.enforced_part h.active known;
        path = h.known;
      }

  known_run : (IsSo : Site → Type 0) (told : ToldSite) → IsRunAt model IsSo told → IsKnownSite model told
  known_run IsSo told h = subst (IsKnownSite model) (sym h.is) (known_site h.site h.printed)

  known_stop : (IsSo : Site → Stop → Type 0) (stop : ToldStop) → IsAtRun model IsSo stop → IsKnownStop model stop
  known_stop IsSo (Wide told k o) h = known_run _ told h
  known_stop IsSo (Spent told) h = known_run _ told h
  known_stop IsSo (Nodes told) h = known_run _ told h
  known_stop IsSo (Large size) h = absurd h

  known_stopped : (IsSo : Site → Stop → Type 0) (answer : Answer) → IsStoppedBy (IsAtRun model IsSo) answer → IsKnownAnswer model answer
  known_stopped IsSo answer h = subst (IsKnownAnswer model) (sym h.is) (known_stop IsSo h.stop h.so)

  -- ---- answers
  known_solved : (budgets : Budgets) (answer : Answer) → IsSolved model budgets answer → IsKnownAnswer model answer
  known_solved budgets (Feasible p) h = h.0.each_column
  known_solved budgets (Infeasible printed proof) h = known_refutation printed proof h.0
  known_solved budgets (Stopped stop) h = known_stop (IsSettleStop (IsWhole model) model budgets) stop h
  known_solved budgets _ h = absurd h

  known_isolated : (IsKept : Core → Type 0) (IsTest : List Member → Type 0) (budgets : Budgets) (answer : Answer) → IsIsolated IsKept IsTest model budgets answer → IsKnownAnswer model answer
  known_isolated IsKept IsTest budgets (Feasible p) h = h.each_column
  known_isolated IsKept IsTest budgets (Irreducible core) h = known_core core h.0
  known_isolated IsKept IsTest budgets (Stopped stop) h = known_stop (IsSettleStop IsTest model budgets) stop h
  known_isolated IsKept IsTest budgets _ h = absurd h

  -- a size, or what is told
  known_sized : (size : ℕ) (IsTold : Answer → Type 0) (answer : Answer) → ((a : Answer) → IsTold a → IsKnownAnswer model a) → IsSized size IsTold answer → IsKnownAnswer model answer
  known_sized size IsTold answer told h = elim (cases_lt most_entries size) [
    | inl l ↦ subst (IsKnownAnswer model) (sym (h.0 l)) tt
    | inr l ↦ told answer (h.1 l)
  ]

  -- the column of the first mark, a size, or what is told
  known_linearly : (size : ℕ) (IsTold : Answer → Type 0) (answer : Answer) → ((a : Answer) → IsTold a → IsKnownAnswer model a) → IsLinearly model size IsTold answer → IsKnownAnswer model answer
  known_linearly size IsTold answer told h = by (first_mark (active_members model)) refl h
    where
      by : (mark : Option ℕ) → first_mark (active_members model) ≡ mark → IsLinearlyBy mark size IsTold answer → IsKnownAnswer model answer
      by (Some j) e h = subst (IsKnownAnswer model) (sym h) (mark_known model j e)
      by None e h = known_sized size IsTold answer told h

  known_enforced : (budgets : Budgets) (answer : Answer) → IsEnforcedTold model budgets answer → IsKnownAnswer model answer
  known_enforced budgets answer (inl h) = known_isolated _ _ budgets answer h
  known_enforced budgets answer (inr h) = known_stopped (λ site s. IsChainStop model budgets s) answer h

  known_weighed : (budgets : Budgets) (answer : Answer) → IsWeighedTold model budgets answer → IsKnownAnswer model answer
  known_weighed budgets answer (inl h) = known_isolated _ _ budgets answer h
  known_weighed budgets answer (inr h) = known_stopped (λ site s. IsPricingStop model (active_members model) budgets.pivots s) answer h

  known_found : (method : Method) (budgets : Budgets) (answer : Answer) → IsFound method model budgets answer → IsKnownAnswer model answer
  known_found Deletion budgets answer h = known_sized (system_size model 0) (IsLateFound model budgets) answer (known_isolated _ _ budgets) h
  known_found Additive budgets answer h = known_sized (system_size model 0) (IsEarlyFound model budgets) answer (known_isolated _ _ budgets) h
  known_found Sensitivity budgets answer h = known_sized (system_size model 0) (IsCoreFound model budgets) answer (known_isolated _ _ budgets) h
  known_found Elastic budgets answer h = known_linearly (elastic_size model (active_members model) []) (IsEnforcedTold model budgets) answer (known_enforced budgets) h
  known_found Alternative budgets answer h = known_linearly (alternative_size model (active_members model)) (IsWeighedTold model budgets) answer (known_weighed budgets) h

  known_told : (budgets : Budgets) (answer : Answer) → IsTold model budgets answer → IsKnownAnswer model answer
  known_told budgets (RunsAway p ray) h = (h.point_of.each_column, h.each_column)
  known_told budgets (BoundedBy b) h = record { point = h.point_of.each_column; sources = dual_sources model b.dual.combo.shares b.dual.bound h.dual_of }
  known_told budgets (Infeasible printed proof) h = known_refutation printed proof h
  known_told budgets (Stopped stop) (inl h) = known_stop (IsSettleStop (IsWhole model) model budgets) stop h
  known_told budgets (Stopped stop) (inr h) = known_stop (λ site s. IsOwnStop model (active_members model) budgets.pivots s) stop h
  known_told budgets _ h = absurd h

  known_least : (budgets : Budgets) (answer : Answer) → IsLeastTold model budgets answer → IsKnownAnswer model answer
  known_least budgets (LeastBy p dual) h = least_known model p dual h
  known_least budgets (RigidRefuted printed proof) h = known_refutation printed proof h.0
  known_least budgets (Stopped stop) h = known_stop (λ site s. IsRelaxStop model (active_members model) budgets.pivots s) stop h
  known_least budgets _ h = absurd h

  known_relaxed : (budgets : Budgets) (answer : Answer) → IsRelaxation model budgets answer → IsKnownAnswer model answer
  known_relaxed budgets answer h = known_linearly (elastic_size model (active_members model) (rigid_members model (active_members model))) (IsLeastTold model budgets) answer (known_least budgets) h

  known_reduced : IsWellFormed model → (answer : Answer) → IsReduction model answer → IsKnownAnswer model answer
  known_reduced formed (Reduced r) h = subst (All (IsKnownStep model)) (sym h.steps_are) (known_steps model (active_members model) h.last h.made formed h.reduces)
  known_reduced formed (Infeasible printed proof) h = known_refutation printed proof h.0
  known_reduced formed _ h = absurd h

-- ---- what a call answers
pub known_check : (model : Program) (budgets : Budgets) {E : Type 0} (result : Result Answer E) → IfOk result (IsChecked model budgets) → IfOk result (IsKnownAnswer model)
known_check model budgets (Ok answer) h = known_sized model (system_size model 0) (IsSolved model budgets) answer (known_solved model budgets) h
known_check model budgets (Err error) h = tt

pub known_search : (method : Method) (model : Program) (budgets : Budgets) {E : Type 0} (result : Result Answer E) → IfOk result (IsFound method model budgets) → IfOk result (IsKnownAnswer model)
known_search method model budgets (Ok answer) h = known_found model method budgets answer h
known_search method model budgets (Err error) h = tt

pub known_diagnosis : (model : Program) (budgets : Budgets) {E : Type 0} (result : Result Answer E) → IfOk result (IsDiagnosed model budgets) → IfOk result (IsKnownAnswer model)
known_diagnosis model budgets (Ok answer) h = known_sized model (system_size model 1) (IsTold model budgets) answer (known_told model budgets) h
known_diagnosis model budgets (Err error) h = tt

pub known_relaxation : (model : Program) (budgets : Budgets) {E : Type 0} (result : Result Answer E) → IfOk result (IsRelaxation model budgets) → IfOk result (IsKnownAnswer model)
known_relaxation model budgets (Ok answer) h = known_relaxed model budgets answer h
known_relaxation model budgets (Err error) h = tt

pub known_reduction : (model : Program) {E : Type 0} (result : Result Answer E) → IsWellFormed model → IfOk result (IsReduction model) → IfOk result (IsKnownAnswer model)
known_reduction model (Ok answer) formed h = known_reduced model formed answer h
known_reduction model (Err error) formed h = tt
