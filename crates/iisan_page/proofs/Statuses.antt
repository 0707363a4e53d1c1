-- The status of an ending in which a report is not accepted.
use Rattle.std.proofs.Common.{◌<◌, sym, subst, ℕ, List, Option, inl, inr, arith}
use Rattle.cert_check.specs.declared.outcome.Outcome.TheVariants.{Accepted, Rejected, Wide, Memory as Want}
use Rattle.iis_run.specs.Said.{IsSaid, EndsInWant, Ends, status_of, status_after_fault}
use Rattle.iis_run.specs.declared.endings.Ending.{Ending}
use Rattle.iis_run.specs.declared.endings.Ending.TheVariants.{Usage, ReadFault, TooLong, Memory, ModelRefused, BadReport, CutReport, BadScript, Checked}
use Rattle.iisan_page.specs.Paged.{IsUnaccepted}

module _ {K : Type 0} (faults : K → ℕ) (taken : K → Option (List ℕ)) (old new : K) (status : ℕ) where
  said_above : (e : Ending) → 1 < status_of e → 1 < status_after_fault e → IsSaid faults taken old new e status → 1 < status
  said_above e h k (inl whole) = subst (λ (n : ℕ). 1 < n) (sym whole.0) h
  said_above e h k (inr failed) = subst (λ (n : ℕ). 1 < n) (sym failed.0) k

  want_above : EndsInWant faults taken old new status → 1 < status
  want_above want = let seven = want.0 in omega arith

  -- it is not 0 or 1
  pub refused_above : (e : Ending) → IsUnaccepted e → Ends faults taken old new e status → 1 < status
  refused_above Usage u h = said_above Usage (omega arith) (omega arith) h
  refused_above (ReadFault which) u h = said_above (ReadFault which) (omega arith) (omega arith) h
  refused_above (TooLong which) u h = said_above (TooLong which) (omega arith) (omega arith) h
  refused_above Memory u h = want_above h
  refused_above (ModelRefused stop) u (inl said) = said_above (ModelRefused stop) (omega arith) (omega arith) said
  refused_above (ModelRefused stop) u (inr want) = want_above want
  refused_above (BadReport n) u (inl said) = said_above (BadReport n) (omega arith) (omega arith) said
  refused_above (BadReport n) u (inr want) = want_above want
  refused_above CutReport u h = said_above CutReport (omega arith) (omega arith) h
  refused_above (BadScript n) u (inl said) = said_above (BadScript n) (omega arith) (omega arith) said
  refused_above (BadScript n) u (inr want) = want_above want
  refused_above (Checked (Accepted settled unsettled)) u h = absurd u
  refused_above (Checked (Rejected n)) u (inl said) = said_above (Checked (Rejected n)) (omega arith) (omega arith) said
  refused_above (Checked (Rejected n)) u (inr want) = want_above want
  refused_above (Checked (Wide n w)) u (inl said) = said_above (Checked (Wide n w)) (omega arith) (omega arith) said
  refused_above (Checked (Wide n w)) u (inr want) = want_above want
  refused_above (Checked Want) u (inl said) = said_above (Checked Want) (omega arith) (omega arith) said
  refused_above (Checked Want) u (inr want) = want_above want
