-- The trials of an answer that is right to its command are not failed.
use Rattle.std.proofs.Common.{◌≡◌, ◌+◌, ◌<◌, ◌≤◌, refl, sym, subst, ℕ, false, cond, not, List, [], ◌∷◌, ◌++◌, length, inl, inr, Option, None, Some}
use Rattle.std.proofs.lemmas.Bool.{cases_lt, cond_both, not_from_false}
use Rattle.std.proofs.lemmas.List.Folds.{list_any_none}
use Rattle.lp_model.specs.declared.members.Member.{Member}
use Rattle.lp_model.specs.Program.{Program}
use Rattle.lp_model.specs.Members.{active_members, is_mark}
use Rattle.lp_model.specs.MemberSets.{SetValue}
use Rattle.certs.specs.declared.evidence.Proof.{Proof}
use Rattle.report_text.specs.declared.report.ToldStop.{ToldStop}
use Rattle.report_text.specs.declared.report.ToldStop.TheVariants.{Large}
use Rattle.certs.specs.Filter.{Early, IsEarlyTest, IsLateTest, Late}
use Rattle.certs.specs.Sites.{Budgets}
use Rattle.certs.specs.Trees.{has_mark}
use Rattle.certs.specs.Violation.{rigid_members}
use Rattle.report_text.specs.declared.report.Answer.{Answer}
use Rattle.report_text.specs.declared.report.Answer.TheVariants.{Feasible, Infeasible, Irreducible, Unbounded as RunsAway, Bounded as BoundedBy, Least as LeastBy, RigidInfeasible as RigidRefuted, Reduced, Stopped}
use Rattle.report_text.specs.declared.report.Core.{Core}
use Rattle.report_text.specs.declared.report.Method.TheVariants.{Deletion, Additive, Sensitivity, Elastic, Alternative}
use Rattle.analysis.specs.Least.{IsLeastTold, IsRelaxation}
use Rattle.analysis.specs.Linear.{IsLinearly, IsLinearlyBy, first_mark, alternative_size, elastic_size}
use Rattle.analysis.specs.Objectives.{IsDiagnosed, IsSized, IsTold, most_entries, system_size}
use Rattle.analysis.specs.Right.{IsBare, IsCheapestCore, IsChecked, IsCoreFound, IsCoreTest, IsEarlyFound, IsEnforcedTold, IsFound, IsIsolated, IsLateFound, IsLateOfCore, IsLateOfRounds, IsReduction, IsRightCore, IsRoundsTest, IsSolved, IsStoppedBy, IsSupportTest, IsWeighedTold}
use Rattle.analysis.specs.Stops.{IsRefutation}
use Rattle.analysis.proofs.Marks.{no_mark}
use Rattle.analysis.proofs.Refuting.{used_within}
use Rattle.cert_check.specs.Trials.{on_line, said, answer_trials, price_trials, rounds_trials, settles}
use Rattle.iis_run.proofs.Unfailed.{AreUnfailed, nothing, alone, joined, said_true}
use Rattle.iis_run.proofs.Shown.{point_unfailed, refuted_unfailed}
use Rattle.iis_run.proofs.Isolated.{core_unfailed, enforces_some, no_price, no_rounds, price_unfailed, rounds_unfailed}
use Rattle.iis_run.proofs.Diagnosed.{bounded_unfailed, unbounded_unfailed}
use Rattle.iis_run.proofs.Relaxed.{least_unfailed}

module _ (model : Program) (n : ℕ) where
  -- nothing on a line of the answer fails
  abbrev pub Passes : Answer → Type 0
  Passes answer = AreUnfailed (answer_trials model n answer)

  -- ---- refutations
  refutation_passes : (printed : SetValue) (proof : Proof) → IsRefutation model printed proof → Passes (Infeasible printed proof)
  refutation_passes printed proof h = refuted_unfailed model (active_members model) n printed proof (used_within model printed proof.nodes h.used) h.used h.proves

  -- ---- checks
  solved_passes : (budgets : Budgets) (answer : Answer) → IsSolved model budgets answer → Passes answer
  solved_passes budgets (Feasible p) h = alone (n + 2) _ (point_unfailed model (active_members model) (n + 2) p h.0.satisfies)
  solved_passes budgets (Infeasible printed proof) h = refutation_passes printed proof h.0
  solved_passes budgets (Stopped stop) h = nothing
  solved_passes budgets _ h = absurd h

  -- a size, or what is told
  sized_passes : (size : ℕ) (IsTold : Answer → Type 0) (answer : Answer) → IsSized size IsTold answer → (IsTold answer → Passes answer) → Passes answer
  sized_passes size IsTold answer h told = elim (cases_lt most_entries size) [
    | inl l ↦ subst Passes (sym (h.0 l)) nothing
    | inr l ↦ told (h.1 l)
  ]

  pub checked_passes : (budgets : Budgets) (answer : Answer) → IsChecked model budgets answer → Passes answer
  checked_passes budgets answer h = sized_passes (system_size model 0) (IsSolved model budgets) answer h (solved_passes budgets answer)

  -- ---- irreducible sets
  -- what stands behind the proof does not fail
  record HasTail (core : Core) : Type 0 where
    rounds : (line : ℕ) → AreUnfailed (rounds_trials (length core.members.members) line core.rounds)
    price : (line : ℕ) → AreUnfailed (price_trials model line core.proof core.price)

  core_passes : (core : Core) → IsRightCore model core → HasTail core → Passes (Irreducible core)
  core_passes core h t = core_unfailed model n core h.active h.in_order h.proves h.witnesses t.rounds t.price

  bare_tail : (IsKept : List Member → Type 0) (core : Core) → IsRightCore model core → IsBare IsKept core → HasTail core
  bare_tail IsKept core right h = record {
    rounds = λ line. no_rounds (length core.members.members) line core.rounds h.0;
    price = λ line. no_price model line core.proof core.price h.1.0;
  }

  rounds_tail : (core : Core) → IsRightCore model core → IsLateOfRounds model core → HasTail core
  rounds_tail core right h = record {
    rounds = λ line.
        rounds_unfailed (length core.members.members) line core.rounds h.count h.told (enforces_some model (active_members model) h.count h.enforced h.rounds.chain)
        (h.few core.members.members right.active right.irreducible.cannot);
    price = λ line. no_price model line core.proof core.price h.price;
  }

  cheapest_tail : (core : Core) → IsRightCore model core → IsCheapestCore model core → HasTail core
  cheapest_tail core right h = record {
    rounds = λ line. no_rounds (length core.members.members) line core.rounds h.rounds;
    price = λ line.
        price_unfailed model line core.proof core.price h.combo h.total h.price h.told h.leaf
        (record { right = h.cheapest.weighting.contradicts; total = h.cheapest.total_is }) h.cheapest.price_is;
  }

  isolated_passes : (IsKept : Core → Type 0) (IsTest : List Member → Type 0) → ((core : Core) → IsRightCore model core → IsKept core → HasTail core)
      → (budgets : Budgets) (answer : Answer) → IsIsolated IsKept IsTest model budgets answer → Passes answer
  isolated_passes IsKept IsTest tail budgets (Feasible p) h = alone (n + 2) _ (point_unfailed model (active_members model) (n + 2) p h.satisfies)
  isolated_passes IsKept IsTest tail budgets (Irreducible core) h = core_passes core h.0 (tail core h.0 h.1)
  isolated_passes IsKept IsTest tail budgets (Stopped stop) h = nothing
  isolated_passes IsKept IsTest tail budgets _ h = absurd h

  bare_passes : (IsKept IsTest : List Member → Type 0) (budgets : Budgets) (answer : Answer) → IsIsolated (IsBare IsKept) IsTest model budgets answer → Passes answer
  bare_passes IsKept IsTest budgets answer h = isolated_passes (IsBare IsKept) IsTest (bare_tail IsKept) budgets answer h

  -- a stop
  stopped_passes : (IsSo : ToldStop → Type 0) (answer : Answer) → IsStoppedBy IsSo answer → Passes answer
  stopped_passes IsSo answer h = subst Passes (sym h.is) nothing

  enforced_passes : (budgets : Budgets) (answer : Answer) → IsEnforcedTold model budgets answer → Passes answer
  enforced_passes budgets answer (inl h) = isolated_passes (IsLateOfRounds model) (IsRoundsTest model) rounds_tail budgets answer h
  enforced_passes budgets answer (inr h) = stopped_passes _ answer h

  weighed_passes : (budgets : Budgets) (answer : Answer) → IsWeighedTold model budgets answer → Passes answer
  weighed_passes budgets answer (inl h) = isolated_passes (IsCheapestCore model) (IsSupportTest model) cheapest_tail budgets answer h
  weighed_passes budgets answer (inr h) = stopped_passes _ answer h

  -- ---- commands for linear constraints alone
  -- such an answer with the line that tells that no active member is a mark
  abbrev pub LinearPasses : Answer → Type 0
  LinearPasses answer = AreUnfailed (cond (settles answer) (on_line (n + 1) (said (not (has_mark (active_members model)))) ∷ []) [] ++ answer_trials model n answer)

  linearly_passes : (size : ℕ) (IsTold : Answer → Type 0) (answer : Answer) → IsLinearly model size IsTold answer → (IsTold answer → Passes answer) → LinearPasses answer
  linearly_passes size IsTold answer h told = by (first_mark (active_members model)) refl h
    where
      by : (mark : Option ℕ) → first_mark (active_members model) ≡ mark → IsLinearlyBy mark size IsTold answer → LinearPasses answer
      by (Some j) e h = subst LinearPasses (sym h) nothing
      by None e h =
          let none : has_mark (active_members model) ≡ false = list_any_none is_mark (active_members model) (no_mark (active_members model) e) in
          let line = on_line (n + 1) (said (not (has_mark (active_members model)))) in
          joined (cond (settles answer) (line ∷ []) []) (answer_trials model n answer)
          (cond_both (settles answer) (line ∷ []) [] AreUnfailed
          (λ _. alone (n + 1) (said (not (has_mark (active_members model)))) (said_true (not (has_mark (active_members model))) (not_from_false (has_mark (active_members model)) none))) (λ _. nothing))
          (sized_passes size IsTold answer h told)

  -- ---- least weighted violations
  least_passes : (budgets : Budgets) (answer : Answer) → IsLeastTold model budgets answer → Passes answer
  least_passes budgets (LeastBy p dual) h = least_unfailed model n p dual h
  least_passes budgets (RigidRefuted printed proof) h = refuted_unfailed model (rigid_members model (active_members model)) n printed proof h.1.0 h.0.used h.0.proves
  least_passes budgets (Stopped stop) h = nothing
  least_passes budgets _ h = absurd h

  pub relaxation_passes : (budgets : Budgets) (answer : Answer) → IsRelaxation model budgets answer → LinearPasses answer
  relaxation_passes budgets answer h =
      linearly_passes (elastic_size model (active_members model) (rigid_members model (active_members model))) (IsLeastTold model budgets) answer h (least_passes budgets answer)

  -- ---- what the objective does
  told_passes : (budgets : Budgets) (answer : Answer) → IsTold model budgets answer → Passes answer
  told_passes budgets (RunsAway p ray) h = unbounded_unfailed model n p ray h
  told_passes budgets (BoundedBy b) h = bounded_unfailed model n b h
  told_passes budgets (Infeasible printed proof) h = refutation_passes printed proof h
  told_passes budgets (Stopped stop) h = nothing
  told_passes budgets _ h = absurd h

  pub diagnosis_passes : (budgets : Budgets) (answer : Answer) → IsDiagnosed model budgets answer → Passes answer
  diagnosis_passes budgets answer h = sized_passes (system_size model 1) (IsTold model budgets) answer h (told_passes budgets answer)

  -- ---- reductions
  pub reduction_passes : (answer : Answer) → IsReduction model answer → Passes answer
  reduction_passes (Reduced r) h = nothing
  reduction_passes (Infeasible printed proof) h = refutation_passes printed proof h.0
  reduction_passes _ h = absurd h

  -- ---- searches by each method
  pub deletion_passes : (budgets : Budgets) (answer : Answer) → IsFound Deletion model budgets answer → Passes answer
  deletion_passes budgets answer h = sized_passes (system_size model 0) (IsLateFound model budgets) answer h (bare_passes (Late model (active_members model)) (IsLateTest model (active_members model)) budgets answer)

  pub additive_passes : (budgets : Budgets) (answer : Answer) → IsFound Additive model budgets answer → Passes answer
  additive_passes budgets answer h = sized_passes (system_size model 0) (IsEarlyFound model budgets) answer h (bare_passes (Early model (active_members model)) (IsEarlyTest model (active_members model)) budgets answer)

  pub sensitivity_passes : (budgets : Budgets) (answer : Answer) → IsFound Sensitivity model budgets answer → Passes answer
  sensitivity_passes budgets answer h = sized_passes (system_size model 0) (IsCoreFound model budgets) answer h (bare_passes (IsLateOfCore model budgets) (IsCoreTest model budgets) budgets answer)

  pub elastic_passes : (budgets : Budgets) (answer : Answer) → IsFound Elastic model budgets answer → LinearPasses answer
  elastic_passes budgets answer h = linearly_passes (elastic_size model (active_members model) []) (IsEnforcedTold model budgets) answer h (enforced_passes budgets answer)

  pub alternative_passes : (budgets : Budgets) (answer : Answer) → IsFound Alternative model budgets answer → LinearPasses answer
  alternative_passes budgets answer h = linearly_passes (alternative_size model (active_members model)) (IsWeighedTold model budgets) answer h (weighed_passes budgets answer)
