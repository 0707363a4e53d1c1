-- What the steps of a run come to together.
use Rattle.std.proofs.Common.{◌≡◌, ◌<◌, ◌⊎◌, inl, inr, refl, sym, subst, ℕ, ◌==◌, Bool, true, false, cond, List, Option, Some, None, arith}
use Rattle.analysis.specs.Puts.{PutWhole, PutFailed}
use Rattle.iis_run.specs.Said.{Puts, Ends}
use Rattle.iis_run.specs.Words.{Request}
use Rattle.iis_run.specs.declared.endings.Ending.{Ending}
use Rattle.iisan_page.specs.Paged.{PageValue, IsPaged, IsRefusedBy, PutsPageOf, PutsNoPage, usage_line}
use Rattle.iisan_page.proofs.Statuses.{refused_above}

small : (b : Bool) → 1 < cond b 0 1 → ⊥
small true h = omega arith
small false h = omega arith

module _ {K : Type 0} (file : List ℕ → Option (List ℕ)) (before now : List ℕ → ℕ) (faults : K → ℕ) (taken : K → Option (List ℕ)) (old new : K) where
  -- under status 0 or 1 the page was put, and under any other it was not
  pub record Ended (request : Option Request) (status : ℕ) : Type 0 where
    pub paged : (status ≡ 0) ⊎ (status ≡ 1) → PutsPageOf file faults taken old new request status
    pub unpaged : 1 < status → PutsNoPage file before now faults taken old new request status

  above : (status : ℕ) → 1 < status → (status ≡ 0) ⊎ (status ≡ 1) → ⊥
  above status h (inl zero) = omega arith
  above status h (inr one) = omega arith

  -- the words name no two files
  pub usage_ended : (request : Option Request) → request ≡ None → Puts faults taken old new usage_line → Ended request 2
  usage_ended request none puts =
      subst (λ (r : Option Request). Ended r 2) (sym none) (record { paged = λ h. absurd (above 2 (omega arith) h); unpaged = λ h. (refl, puts) })

  module _ (model report : List ℕ) (request : Option Request) (asked : request ≡ Some (Request.Verify model report)) (status : ℕ) where
    -- a page was put, or its put failed
    pub page_ended : (page : PageValue) → IsPaged file model report page
        → ((status ≡ cond (page.unsettled == 0) 0 1) × PutWhole faults taken old new page.text) ⊎ ((status ≡ 4) × PutFailed faults taken old new page.text) → Ended request status
    page_ended page is puts = subst (λ (r : Option Request). Ended r status) (sym asked) (by puts)
      where
        by : ((status ≡ cond (page.unsettled == 0) 0 1) × PutWhole faults taken old new page.text) ⊎ ((status ≡ 4) × PutFailed faults taken old new page.text) → Ended (Some (Request.Verify model report)) status
        by (inl whole) = record {
          paged = λ h. record { page = page; is_page = is; same = whole.0; put = whole.1 };
          unpaged = λ h. absurd (small (page.unsettled == 0) (subst (λ (n : ℕ). 1 < n) whole.0 h));
        }
        by (inr failed) = record {
          paged = λ h. let four = failed.0 in absurd (above status (omega arith) h);
          unpaged = λ h. inl (failed.0, record { page = page; is_page = is; failed = failed.1 });
        }

    -- the report was not accepted
    pub refusal_ended : (ending : Ending) → IsRefusedBy file before now model report ending → Ends faults taken old new ending status → Ended request status
    refusal_ended ending refused said =
        subst (λ (r : Option Request). Ended r status) (sym asked)
        (record {
          paged = λ h. absurd (above status (refused_above faults taken old new status ending refused.unaccepted said) h);
          unpaged = λ h. inr (record { ending = ending; refused = refused; said = said });
        })
