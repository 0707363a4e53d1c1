-- What a diagnosis gives, as an answer.
use Rattle.std.proofs.Common.{◌≡◌, ◌⊎◌, ◌<◌, ◌≤◌, refl, sym, subst, Bool, not, List, [], filter, length, Result, Ok, Err, inl, inr, arith}
use Rattle.std.specs.Prelude.{All, Contains, IfOk, IfErr}
use Rattle.std.proofs.lemmas.List.Filters.{length-filter_both}
use Rattle.certs.specs.Ended.{numbers_from}
use Rattle.certs.specs.Plain.{has_row, rows_in}
use Rattle.certs.proofs.Translated.{length_numbers}
use Rattle.std.proofs.lemmas.List.Elements.{All-contains_itself, All-filter, All-nil, All-weaker}
use Rattle.rational.specs.Rational.{ℚ}
use Rattle.lp_model.specs.declared.members.Member.{Member}
use Rattle.lp_model.specs.Program.{Program}
use Rattle.lp_model.specs.Members.{active_members, is_mark}
use Rattle.lp_model.specs.Satisfaction.{IsPart}
use Rattle.certs.specs.declared.evidence.Branch.{Branch}
use Rattle.certs.specs.declared.evidence.Proof.{Proof}
use Rattle.certs.specs.declared.evidence.Share.{Share}
use Rattle.certs.specs.declared.solving.Site.{Site}
use Rattle.certs.specs.declared.solving.Stop.{Stop}
use Rattle.certs.specs.declared.solving.Stop.TheVariants.{Wide, Pivots as Spent, Nodes, Large, Memory}
use Rattle.certs.specs.declared.solving.Verdict.{Verdict}
use Rattle.certs.specs.declared.solving.Verdict.TheVariants.{Feasible as AtPoint, Infeasible as Refuted}
use Rattle.certs.specs.Bound.{IsBoundDual, without_marks}
use Rattle.certs.specs.Combination.{IsThere}
use Rattle.certs.specs.Sites.{Budgets}
use Rattle.certs.specs.Tales.{OracleState}
use Rattle.certs.specs.Violation.{IsLeastDual}
use Rattle.unbounded.specs.declared.diagnosing.Diagnosis.{Diagnosis}
use Rattle.unbounded.specs.declared.diagnosing.Diagnosis.TheVariants.{Infeasible as NoPoint, Unbounded as AlongRay, Bounded as ByDual}
use Rattle.unbounded.specs.Diagnosed.{AsksOnce, IsDiagnosis, IsImproveSite, IsOwnStop, PassesOn}
use Rattle.report_text.specs.declared.report.Answer.{Answer}
use Rattle.report_printer.specs.Printing.{IsKnownSource}
use Rattle.branch_oracle.specs.Value.{BranchValue}
use Rattle.presolve_oracle.specs.Value.{PresolveValue}
use Rattle.quick_answers.specs.Best.{IsBestOf}
use Rattle.analysis.specs.Answers.{IsPossibleSite, IsRefutedBy, IsRunStop, IsToldStop, fresh_oracle, oracle_state}
use Rattle.analysis.specs.Objectives.{IsFoundBy, IsTold}
use Rattle.analysis.specs.Right.{IsPrintedSite, IsWhole}
use Rattle.analysis.proofs.Asked.{QuickAnswers, proof_fits, proof_ordered, stop_reference}
use Rattle.analysis.proofs.Found.{part_possible}
use Rattle.analysis.proofs.Refuting.{known_source}
use Rattle.analysis.proofs.Stopping.{IsRunOf, answered_runs, none_part, run_answer, whole_printed}

-- ---- the sources of a dual
plain_part : (model : Program) → IsPart (without_marks (active_members model)) (active_members model)
plain_part model = All-filter (λ m. not (is_mark m)) (Contains (active_members model)) (active_members model) (All-contains_itself (active_members model))

pub dual_sources : (model : Program) (shares : List Share) (b : ℚ) → IsBoundDual model (without_marks (active_members model)) shares b → All (λ s. IsKnownSource model s.source) shares
dual_sources model shares b h =
    let part = without_marks (active_members model) in
    All-weaker (IsThere model part []) (λ s. IsKnownSource model s.source)
    (λ s t. known_source model part (part_possible model part (plain_part model)) [] s.source (All-nil (λ (c : Branch). c.column < length model.columns)) t.from t.number)
    shares h.there

pub least_sources : (model : Program) (shares : List Share) (t : ℚ) → IsLeastDual model (active_members model) [] shares t → All (λ s. IsKnownSource model s.source) shares
least_sources model shares t h =
    let part = active_members model in
    All-weaker (IsThere model part []) (λ s. IsKnownSource model s.source)
    (λ s k. known_source model part (part_possible model part (All-contains_itself part)) [] s.source (All-nil (λ (c : Branch). c.column < length model.columns)) k.from k.number)
    shares h.there

-- ---- the stops
module _ (model : Program) (budgets : Budgets) where
  abbrev set : List Member
  set = active_members model

  -- the site of the improve run
  improve_run_site : (site : Site) → IsImproveSite model set site → IsPossibleSite site → IsPrintedSite model site
  improve_run_site site h possible = whole_printed model site h.set_of h.set_is possible h.enforced_of (none_part site h.none_enforced) h.path_is

  -- its own stop
  own_told : (stop : Stop) (answer : Answer) → IsOwnStop model set budgets.pivots stop → IsToldStop model stop answer → IsTold model budgets answer
  own_told (Wide site k o) answer h told = subst (IsTold model budgets) (sym told.0) (inr (record { site = site; is = refl; printed = improve_run_site site h.0 told.1; so = h }))
  own_told (Spent site) answer h told = subst (IsTold model budgets) (sym told.0) (inr (record { site = site; is = refl; printed = improve_run_site site h.0 told.1; so = h }))
  own_told (Nodes site) answer h told = absurd h
  own_told (Large size) answer h told = absurd h
  own_told Memory answer h told = absurd told

  -- a stop of a run or a tree of the program
  pub found_runs : (stop : Stop) → IsFoundBy model budgets (Err stop) → IsRunStop model stop
  found_runs stop (inl asked) = answered_runs model budgets set stop asked
  found_runs (Wide site k o) (inr h) = h.0.set_of
  found_runs (Spent site) (inr h) = h.0.set_of
  found_runs Memory (inr h) = tt
  found_runs stop (inr h) = absurd h

  pub stop_told : (stop : Stop) {E : Type 0} (result : Result Answer E) → IsFoundBy model budgets (Err stop) → IfOk result (IsToldStop model stop) → IfOk result (IsTold model budgets)
  stop_told stop (Err e) h told = tt
  stop_told stop (Ok answer) (inr own) told = own_told stop answer own told
  stop_told stop {E = E} (Ok answer) (inl asked) told =
      let run : IsRunOf (IsWhole model) model budgets stop = record { asked = set; answered = asked; part = All-contains_itself set; test = refl } in
      let right = run_answer (IsWhole model) model budgets stop {E = E} (Ok answer) run told in
      subst (IsTold model budgets) (sym right.is) (inl right.so)

  -- ---- the proof
  pub refuted_told : (proof : Proof) (answer : Answer) → IsRefutedBy model proof answer → IsTold model budgets answer
  refuted_told proof answer h = subst (IsTold model budgets) (sym h.1.0) h.1.1

  -- ---- what is found
  -- where there is no point, the proof is the oracle's
  passed_proof : (answer : Result Verdict Stop) (proof : Proof) → QuickAnswers model budgets set answer → PassesOn set answer (Ok (NoPoint proof)) → QuickAnswers model budgets set (Ok (Refuted proof))
  passed_proof (Err stop) proof h passed = absurd (let impossible : ⊥ = cc in impossible)
  passed_proof (Ok (AtPoint p)) proof h passed = absurd passed
  passed_proof (Ok (Refuted other)) proof h passed = (let same : other ≡ proof = cc in subst (λ (q : Proof). QuickAnswers model budgets set (Ok (Refuted q))) same h)

  asked_proof : (old new : OracleState) (proof : Proof) → AsksOnce (QuickAnswers model budgets set) old new set (Ok (NoPoint proof)) → QuickAnswers model budgets set (Ok (Refuted proof))
  asked_proof old new proof (inl h) = absurd (let impossible : ⊥ = (let e = h.1 in cc) in impossible)
  asked_proof old new proof (inr h) = passed_proof h.answer proof h.answered h.passed

  pub found_by : (old new : OracleState) (found : Result Diagnosis Stop) → IfOk found (IsDiagnosis model set) → IfErr found (λ stop. QuickAnswers model budgets set (Err stop) ⊎ IsOwnStop model set budgets.pivots stop)
      → AsksOnce (QuickAnswers model budgets set) old new set found → IsFoundBy model budgets found
  found_by old new (Ok (AlongRay p ray)) is stop asked = is
  found_by old new (Ok (ByDual p v dual)) is stop asked = is
  found_by old new (Ok (NoPoint proof)) is stop asked =
      let answered = asked_proof old new proof asked in
      (is, (proof_ordered model budgets set proof answered, proof_fits model budgets set proof answered))
  found_by old new (Err s) is (inl h) asked = inl (stop_reference model budgets set s (inr h))
  found_by old new (Err s) is (inr h) asked = inr h

  -- and so it is by the oracle that was asked nothing yet
  pub found_at : (inner : BranchValue PresolveValue) (old new : OracleState) (found : Result Diagnosis Stop) → inner ≡ fresh_oracle model budgets → IfOk found (IsDiagnosis model set)
      → IfErr found (λ stop. QuickAnswers (oracle_state inner).model (oracle_state inner).budgets set (Err stop) ⊎ IsOwnStop model set budgets.pivots stop)
      → AsksOnce (QuickAnswers (oracle_state inner).model (oracle_state inner).budgets set) old new set found → IsFoundBy model budgets found
  found_at inner old new found fresh is stop asked =
      found_by old new found is
      (subst (λ (o : BranchValue PresolveValue). IfErr found (λ stop. QuickAnswers (oracle_state o).model (oracle_state o).budgets set (Err stop) ⊎ IsOwnStop model set budgets.pivots stop)) fresh stop)
      (subst (λ (o : BranchValue PresolveValue). AsksOnce (QuickAnswers (oracle_state o).model (oracle_state o).budgets set) old new set found) fresh asked)

  -- what quick runs show
  pub best_found : (found : Diagnosis) → IsBestOf model set found → IsFoundBy model budgets (Ok found)
  best_found (AlongRay p ray) is = is
  best_found (ByDual p v dual) is = is
  best_found (NoPoint proof) is = absurd is

-- ---- the size
pub kept_few : {A : Type 0} (p : A → Bool) (xs : List A) → length (filter p xs) ≤ length xs
kept_few p xs =
    let both = length-filter_both p (λ x. not (p x)) (λ x. refl) xs in
    omega (arith, both)

-- the rows with an active side are some of all
pub few_rows : (model : Program) (members : List Member) → length (rows_in model members) ≤ length model.rows
few_rows model members =
    let kept = kept_few (has_row members) (numbers_from 0 (length model.rows)) in
    let all = length_numbers 0 (length model.rows) in
    omega (arith, kept, all)
