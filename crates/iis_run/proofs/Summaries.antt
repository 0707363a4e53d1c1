-- What is written of a production plan, and what its status tells.
use Rattle.std.proofs.Common.{◌≡◌, ◌≢◌, ◌≤◌, ◌⊎◌, refl, sym, subst, ◌∙◌, ℕ, List, Option, arith, inl, inr}
use Rattle.std.proofs.lemmas.Bool.{cases_lt}
use Rattle.iis_edge.specs.Causes.{Rose}
use Rattle.lp_model.specs.Satisfaction.{values_at}
use Rattle.report_text.specs.declared.report.ToldStop.{ToldStop}
use Rattle.report_text.specs.declared.report.ToldStop.TheVariants.{Large}
use Rattle.report_text.specs.declared.report.Core.{Core}
use Rattle.report_text.specs.declared.report.Answer.{Answer}
use Rattle.report_text.specs.declared.report.Answer.TheVariants.{Feasible, Irreducible, Stopped}
use Rattle.model_maker.specs.PlanProgram.{plan_program}
use Rattle.model_maker.specs.Refutation.{CannotBeMet}
use Rattle.analysis.specs.Objectives.{most_entries, system_size}
use Rattle.analysis.specs.Right.{IsCoreFound, first_settings}
use Rattle.analysis.specs.Puts.{PutWhole, PutFailed}
use Rattle.iis_run.specs.Plans.{told_text, told_status, IsPlanAnswer, IsPlanFound, IsSummarised, IsPlanStopped, IsPlanTold, IsMade}
use Rattle.iis_run.specs.Steps.{IsTold}

-- no point is right, since the plan cannot be met, and no other answer is
pub found : (n : ℕ) → CannotBeMet (plan_program n) → (answer : Answer) → IsPlanAnswer n answer → IsPlanFound n answer
found n none answer right = elim (cases_lt most_entries (system_size (plan_program n) 0)) [
  | inl l ↦ record { right = right; is = inr (Large (system_size (plan_program n) 0), right.0 l) }
  | inr l ↦ by answer right (right.1 l)
]
  where
    by : (answer : Answer) → IsPlanAnswer n answer → IsCoreFound (plan_program n) first_settings.budgets answer → IsPlanFound n answer
    by (Feasible point) right h = absurd (none.values (values_at point.values) h.satisfies)
    by (Irreducible core) right h = record { right = right; is = inl (core, refl) }
    by (Stopped stop) right h = record { right = right; is = inr (stop, refl) }
    by answer right h = absurd h

module _ {K : Type 0} (faults : K → ℕ) (taken : K → Option (List ℕ)) (old new : K) (n : ℕ) where
  -- ---- the put of what is to be written
  pub told_whole : (text : List ℕ) (status : ℕ) → IsTold n text status → PutWhole faults taken old new text → IsMade faults taken old new n status
  told_whole text status told put = by told.answer told.found (subst (PutWhole faults taken old new) told.text_is put) (told.status_is)
    where
      by : (answer : Answer) → IsPlanFound n answer → PutWhole faults taken old new (told_text n answer) → status ≡ told_status answer → IsMade faults taken old new n status
      by (Irreducible core) found put same = inr (inl (same, record { core = core; right = found.right; put = put }))
      by (Stopped stop) found put same = inr (inr (inl (same, record { stop = stop; right = found.right; put = put })))
      by answer found put same = absurd (neither found.is)
        where
          neither : ((core : Core) × (answer ≡ Irreducible core)) ⊎ ((stop : ToldStop) × (answer ≡ Stopped stop)) → ⊥
          neither (inl set) = let same = set.1 in cc
          neither (inr stop) = let same = stop.1 in cc

  pub told_cut : (text : List ℕ) (status : ℕ) → IsTold n text status → PutFailed faults taken old new text → IsMade faults taken old new n 4
  told_cut text status told put = inl (refl, record { answer = told.answer; found = told.found; put = subst (PutFailed faults taken old new) told.text_is put })

  -- ---- by status
  pub no_made : (status k : ℕ) → k ≢ 0 → k ≢ 1 → k ≢ 4 → k ≢ 7 → status ≡ k → IsMade faults taken old new n status → ⊥
  no_made status k zero one four seven h (inl cut) = four (sym h ∙ cut.0)
  no_made status k zero one four seven h (inr (inl summarised)) = zero (sym h ∙ summarised.0)
  no_made status k zero one four seven h (inr (inr (inl stopped))) = one (sym h ∙ stopped.0)
  no_made status k zero one four seven h (inr (inr (inr want))) = seven (sym h ∙ want.0)

  pub made_summarised : (status : ℕ) → status ≡ 0 → IsMade faults taken old new n status → IsSummarised faults taken old new n
  made_summarised status h (inl cut) = let e : status ≡ 4 = cut.0 in absurd (omega arith)
  made_summarised status h (inr (inl summarised)) = summarised.1
  made_summarised status h (inr (inr (inl stopped))) = let e : status ≡ 1 = stopped.0 in absurd (omega arith)
  made_summarised status h (inr (inr (inr want))) = let e : status ≡ 7 = want.0 in absurd (omega arith)

  pub made_stopped : (status : ℕ) → status ≡ 1 → IsMade faults taken old new n status → IsPlanStopped faults taken old new n
  made_stopped status h (inl cut) = let e : status ≡ 4 = cut.0 in absurd (omega arith)
  made_stopped status h (inr (inl summarised)) = let e : status ≡ 0 = summarised.0 in absurd (omega arith)
  made_stopped status h (inr (inr (inl stopped))) = stopped.1
  made_stopped status h (inr (inr (inr want))) = let e : status ≡ 7 = want.0 in absurd (omega arith)

  pub made_cut : (status : ℕ) → status ≡ 4 → IsMade faults taken old new n status → Rose (faults old) (faults new)
  made_cut status h (inl cut) = cut.1.put.rose
  made_cut status h (inr (inl summarised)) = let e : status ≡ 0 = summarised.0 in absurd (omega arith)
  made_cut status h (inr (inr (inl stopped))) = let e : status ≡ 1 = stopped.0 in absurd (omega arith)
  made_cut status h (inr (inr (inr want))) = let e : status ≡ 7 = want.0 in absurd (omega arith)

  pub made_within : (status : ℕ) → IsMade faults taken old new n status → status ≤ 8
  made_within status (inl cut) = let e : status ≡ 4 = cut.0 in omega arith
  made_within status (inr (inl summarised)) = let e : status ≡ 0 = summarised.0 in omega arith
  made_within status (inr (inr (inl stopped))) = let e : status ≡ 1 = stopped.0 in omega arith
  made_within status (inr (inr (inr want))) = let e : status ≡ 7 = want.0 in omega arith

  -- where no put failed
  pub made_told : (status : ℕ) → ¬ (Rose (faults old) (faults new)) → IsMade faults taken old new n status → IsPlanTold faults taken old new n status
  made_told status calm (inl cut) = absurd (calm cut.1.put.rose)
  made_told status calm (inr told) = told

  -- no count falls
  pub made_kept : (status : ℕ) → IsMade faults taken old new n status → faults old ≤ faults new
  made_kept status (inl cut) = cut.1.put.kept
  made_kept status (inr (inl summarised)) = let e = summarised.1.put.quiet in omega arith
  made_kept status (inr (inr (inl stopped))) = let e = stopped.1.put.quiet in omega arith
  made_kept status (inr (inr (inr want))) = let e = want.1.quiet in omega arith
