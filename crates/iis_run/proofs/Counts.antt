-- No count of faults falls.
use Rattle.std.proofs.Common.{◌≡◌, ◌≤◌, refl, ◌∙◌, ℕ, List, ◌++◌, Option, ◌⊎◌, arith, inl, inr}
use Rattle.iis_run.specs.declared.endings.Ending.{Ending}
use Rattle.iis_run.specs.declared.endings.Ending.TheVariants.{Usage, ReadFault, TooLong, Memory, ModelRefused, BadReport, CutReport, BadScript, Checked}
use Rattle.lp_model.specs.Program.{Program}
use Rattle.report_text.specs.declared.report.Command.{Command}
use Rattle.analysis.specs.Written.{IsAnalysis, IsWhole, IsCut, IsWant, head_text, entries_text}
use Rattle.analysis.specs.Puts.{PutWhole, PutsNothing}
use Rattle.iis_run.specs.declared.plans.Plan.{Plan}
use Rattle.iis_run.specs.declared.plans.Plan.TheVariants.{Say, Answer, Make}
use Rattle.iis_run.specs.Said.{IsSaid, EndsInWant, Ends, status_of, status_after_fault}
use Rattle.iis_run.specs.Steps.{Follows, IsQuietEnd, IsQuietPlan}
use Rattle.iis_edge.specs.Causes.{KeepsCounts}
use Rattle.iis_run.proofs.Summaries.{made_kept}

stays : (a b : ℕ) → b ≡ a → a ≤ b
stays a b e = omega arith

-- one after the other
pub after : (a b c : ℕ) → a ≤ b → b ≤ c → a ≤ c
after a b c h k = omega arith

module _ {K : Type 0} (faults : K → ℕ) (taken : K → Option (List ℕ)) (old new : K) where
  said_kept : (ending : Ending) (status : ℕ) → IsSaid faults taken old new ending status → faults old ≤ faults new
  said_kept ending status (inl whole) = stays (faults old) (faults new) whole.1.quiet
  said_kept ending status (inr failed) = failed.1.kept

  want_kept : (status : ℕ) → EndsInWant faults taken old new status → faults old ≤ faults new
  want_kept status want = stays (faults old) (faults new) want.1.quiet

  put_kept : (ending : Ending) (status : ℕ) → Ends faults taken old new ending status → faults old ≤ faults new
  put_kept Usage status h = said_kept Usage status h
  put_kept (ReadFault which) status h = said_kept (ReadFault which) status h
  put_kept (TooLong which) status h = said_kept (TooLong which) status h
  put_kept Memory status h = want_kept status h
  put_kept (ModelRefused stop) status (inl said) = said_kept (ModelRefused stop) status said
  put_kept (ModelRefused stop) status (inr want) = want_kept status want
  put_kept CutReport status h = said_kept CutReport status h
  put_kept (BadReport n) status (inl said) = said_kept (BadReport n) status said
  put_kept (BadReport n) status (inr want) = want_kept status want
  put_kept (Checked outcome) status (inl said) = said_kept (Checked outcome) status said
  put_kept (Checked outcome) status (inr want) = want_kept status want
  put_kept (BadScript n) status (inl said) = said_kept (BadScript n) status said
  put_kept (BadScript n) status (inr want) = want_kept status want

  answers_kept : (program : Program) (commands : List Command) (status : ℕ) → IsAnalysis faults taken old new program commands status → faults old ≤ faults new
  answers_kept program commands status a = by a.written
    where
      of_want : PutWhole faults taken old new (head_text program ++ entries_text program a.entries) ⊎ PutsNothing faults taken old new → faults old ≤ faults new
      of_want (inl put) = stays (faults old) (faults new) put.quiet
      of_want (inr nothing) = stays (faults old) (faults new) nothing.quiet

      by : IsWhole faults taken old new program commands a.entries status ⊎ (IsCut faults taken old new program commands a.entries status ⊎ IsWant faults taken old new program a.entries status) → faults old ≤ faults new
      by (inl whole) = stays (faults old) (faults new) whole.put.quiet
      by (inr (inl cut)) = cut.put.kept
      by (inr (inr want)) = of_want want.put

  pub plan_kept : (plan : Plan) (status : ℕ) → Follows faults taken old new plan status → faults old ≤ faults new
  plan_kept (Say ending) status h = put_kept ending status h
  plan_kept (Answer program commands) status h = answers_kept program commands status h
  plan_kept (Make n) status h = made_kept faults taken old new n status h

  -- ---- the shelf's counts
  module _ (before now : List ℕ → ℕ) where
    -- no count has changed, or the status tells why
    abbrev Quiet : ℕ → Type 0
    Quiet status = (status ≡ 3) ⊎ ((status ≡ 7) ⊎ KeepsCounts before now)

    said_status : (ending : Ending) (status : ℕ) → status_of ending ≡ 3 → status_after_fault ending ≡ 3 → IsSaid faults taken old new ending status → Quiet status
    said_status ending status e f (inl whole) = inl (whole.0 ∙ e)
    said_status ending status e f (inr failed) = inl (failed.0 ∙ f)

    end_quiet : (ending : Ending) (status : ℕ) → Ends faults taken old new ending status → IsQuietEnd before now ending → Quiet status
    end_quiet (ReadFault which) status h k = said_status (ReadFault which) status refl refl h
    end_quiet (TooLong which) status h k = said_status (TooLong which) status refl refl h
    end_quiet Memory status h k = inr (inl h.0)
    end_quiet _ status h k = inr (inr k)

    pub plan_quiet : (plan : Plan) (status : ℕ) → Follows faults taken old new plan status → IsQuietPlan before now plan → Quiet status
    plan_quiet (Say ending) status h k = end_quiet ending status h k
    plan_quiet (Answer program commands) status h k = inr (inr k)
    plan_quiet (Make n) status h k = inr (inr k)

-- counts that stay twice
both_kept : (before mid now : List ℕ → ℕ) → KeepsCounts before mid → KeepsCounts mid now → KeepsCounts before now
both_kept before mid now h k = λ name. k name ∙ h name

-- an ending after a fetch that kept them
pub quiet_end : (before now : List ℕ → ℕ) (ending : Ending) → KeepsCounts before now → IsQuietEnd before now ending
quiet_end before now (ReadFault which) h = tt
quiet_end before now (TooLong which) h = tt
quiet_end before now Memory h = tt
quiet_end before now _ h = h

quiet_later : (before mid now : List ℕ → ℕ) (ending : Ending) → KeepsCounts before mid → IsQuietEnd mid now ending → IsQuietEnd before now ending
quiet_later before mid now (ReadFault which) h k = tt
quiet_later before mid now (TooLong which) h k = tt
quiet_later before mid now Memory h k = tt
quiet_later before mid now Usage h k = both_kept before mid now h k
quiet_later before mid now (ModelRefused stop) h k = both_kept before mid now h k
quiet_later before mid now (BadReport n) h k = both_kept before mid now h k
quiet_later before mid now CutReport h k = both_kept before mid now h k
quiet_later before mid now (BadScript n) h k = both_kept before mid now h k
quiet_later before mid now (Checked outcome) h k = both_kept before mid now h k

pub plan_later : (before mid now : List ℕ → ℕ) (plan : Plan) → KeepsCounts before mid → IsQuietPlan mid now plan → IsQuietPlan before now plan
plan_later before mid now (Say ending) h k = quiet_later before mid now ending h k
plan_later before mid now (Answer program commands) h k = both_kept before mid now h k
plan_later before mid now (Make n) h k = both_kept before mid now h k
