-- What each status tells of a run.
use Rattle.std.proofs.Common.{◌≡◌, ◌≢◌, ◌≤◌, refl, sym, ap, ◌∙◌, subst, ℕ, ◌==◌, Bool, true, false, cond, List, length, Option, Some, None, arith, inl, inr}
use Rattle.std.specs.Prelude.{◌⊎◌, ◌↔◌, IfSome}
use Rattle.std.specs.List.{list_any}
use Rattle.iis_edge.specs.Causes.{Rose, KeepsCounts}
use Rattle.iis_run.specs.Words.{Request}
use Rattle.std.proofs.lemmas.Bool.{eqb-true}
use Rattle.frac128.specs.declared.Wide.{Wide as Operation}
use Rattle.cert_check.specs.declared.outcome.Outcome.{Outcome}
use Rattle.cert_check.specs.declared.outcome.Outcome.TheVariants.{Accepted, Rejected, Wide, Memory as Want}
use Rattle.lp_model.specs.Program.{Program}
use Rattle.text_fields.specs.declared.faults.ReadStop.{ReadStop}
use Rattle.model_files.specs.Formats.{Declares}
use Rattle.report_text.specs.declared.report.Entry.{Entry}
use Rattle.report_text.specs.declared.report.Report.{Report as Entries}
use Rattle.report_reader.specs.Reading.{Reads}
use Rattle.report_text.specs.Form.{IsReportFor}
use Rattle.cert_check.specs.Trials.{trials, outcome_of, IsAccepted as IsPassed}
use Rattle.cert_check.specs.Truth.{AcceptedLaw}
use Rattle.iis_run.specs.Again.{AcceptedAgainLaw, IsAcceptedOrWide}
use Rattle.model_files.proofs.Meaning.{meaning}
use Rattle.iis_run.specs.declared.endings.Which.{Which}
use Rattle.iis_run.specs.declared.endings.Which.TheVariants.{Model, Report, Script}
use Rattle.iis_run.specs.declared.endings.Ending.{Ending}
use Rattle.iis_run.specs.declared.endings.Ending.TheVariants.{Usage, ReadFault, TooLong, Memory, ModelRefused, BadReport, CutReport, BadScript, Checked}
use Rattle.report_text.specs.declared.report.Command.{Command}
use Rattle.analysis.specs.Puts.{PutWhole}
use Rattle.analysis.specs.NamesAreWords.{HasWords}
use Rattle.analysis.specs.Written.{IsAnalysis, IsWhole, IsCut, IsWant, is_unmet, report_of, whole_text}
use Rattle.iis_run.specs.Causes.{IsModelOf, AreReported, CallsFor, IsDecided, IsTrueReport}
use Rattle.iis_run.specs.Limits.{limit_of}
use Rattle.iis_run.specs.Scripts.{IsCommands, CallsForScript}
use Rattle.iis_run.specs.Said.{IsSaid, EndsInWant, Ends, line_of, status_of, status_after_fault}
use Rattle.iis_run.specs.Run.{name_of, HasFailed, IsTooLong, AreTold, Calls, AskedFor, IsAskedSession, IsCaused, IsEnded, IsAnalysed, IsMaking, IsRun, HasFetchStop, IsModelRefused, IsTextRefused, IsAnswered, IsDone, IsAccepted, IsUnsettled, IsRefuted, IsBorneOut, IsWrittenReport, IsReadBack, IsCalm, IsToldAs, IsToldSession, Settles}
use Rattle.iis_run.specs.declared.plans.Plan.{Plan}
use Rattle.iis_run.specs.declared.plans.Plan.TheVariants.{Say, Answer, Make}
use Rattle.iis_run.specs.Plans.{IsPlanTold}
use Rattle.iis_run.specs.Steps.{IsPlanned, IsReady, Follows}
use Rattle.iis_run.proofs.Summaries.{no_made, made_summarised, made_stopped, made_cut, made_within, made_told}
use Rattle.iis_run.proofs.Unambiguous.{one_ending, none_called, none_called_as_told, one_session, the_report}

-- ---- the ending by its status
-- an accepted report has status 0 or 1
zero_or_one : (b : Bool) (n : ℕ) → n ≢ 0 → n ≢ 1 → cond b 0 1 ≡ n → ⊥
zero_or_one true n zero one h = zero (sym h)
zero_or_one false n zero one h = one (sym h)

usage_only : (e : Ending) → status_of e ≡ 2 → e ≡ Usage
usage_only Usage h = refl
usage_only (Checked (Accepted settled unsettled)) h = absurd (zero_or_one (unsettled == 0) 2 (λ k. omega arith) (λ k. omega arith) h)
usage_only _ h = absurd (omega arith)

model_refused_only : (e : Ending) → status_of e ≡ 5 → (stop : ReadStop) × (e ≡ ModelRefused stop)
model_refused_only (ModelRefused stop) h = (stop, refl)
model_refused_only (Checked (Accepted settled unsettled)) h = absurd (zero_or_one (unsettled == 0) 5 (λ k. omega arith) (λ k. omega arith) h)
model_refused_only _ h = absurd (omega arith)

text_refused_only : (e : Ending) → status_of e ≡ 6 → (e ≡ CutReport) ⊎ (((n : ℕ) × (e ≡ BadReport n)) ⊎ ((n : ℕ) × (e ≡ BadScript n)))
text_refused_only CutReport h = inl refl
text_refused_only (BadReport n) h = inr (inl (n, refl))
text_refused_only (BadScript n) h = inr (inr (n, refl))
text_refused_only (Checked (Accepted settled unsettled)) h = absurd (zero_or_one (unsettled == 0) 6 (λ k. omega arith) (λ k. omega arith) h)
text_refused_only _ h = absurd (omega arith)

-- some entries are unsettled
unsettled_only : (e : Ending) → status_of e ≡ 1 → (settled : ℕ) × ((unsettled : ℕ) × ((unsettled ≢ 0) × (e ≡ Checked (Accepted settled unsettled))))
unsettled_only (Checked (Accepted settled unsettled)) h = (settled, (unsettled, (λ none. some none, refl)))
  where
    some : unsettled ≡ 0 → ⊥
    some none = let at : status_of (Checked (Accepted settled 0)) ≡ 1 = subst (λ (u : ℕ). status_of (Checked (Accepted settled u)) ≡ 1) none h in omega arith
unsettled_only _ h = absurd (omega arith)

accepted_only : (e : Ending) → status_of e ≡ 0 → (settled : ℕ) × (e ≡ Checked (Accepted settled 0))
accepted_only (Checked (Accepted settled unsettled)) h = (settled, ap (λ u. Checked (Accepted settled u)) (none (unsettled == 0) refl 0 refl h))
  where
    none : (b : Bool) → (unsettled == 0) ≡ b → (n : ℕ) → n ≡ 0 → cond b 0 1 ≡ n → unsettled ≡ 0
    none true e n z k = eqb-true unsettled 0 e
    none false e n z k = absurd (omega arith)
accepted_only _ h = absurd (omega arith)

-- a line that fails, or on which an operation is too wide
refuted_only : (e : Ending) → status_of e ≡ 8 → (n : ℕ) × ((o : Outcome) × (((o ≡ Rejected n) ⊎ ((w : Operation) × (o ≡ Wide n w))) × (e ≡ Checked o)))
refuted_only (Checked (Rejected n)) h = (n, (Rejected n, (inl refl, refl)))
refuted_only (Checked (Wide n w)) h = (n, (Wide n w, (inr (w, refl), refl)))
refuted_only (Checked (Accepted settled unsettled)) h = absurd (zero_or_one (unsettled == 0) 8 (λ k. omega arith) (λ k. omega arith) h)
refuted_only _ h = absurd (omega arith)

-- a fetch that stops
stopped_only : (e : Ending) → status_of e ≡ 3 → (which : Which) × ((e ≡ ReadFault which) ⊎ (e ≡ TooLong which))
stopped_only (ReadFault which) h = (which, inl refl)
stopped_only (TooLong which) h = (which, inr refl)
stopped_only (Checked (Accepted settled unsettled)) h = absurd (zero_or_one (unsettled == 0) 3 (λ k. omega arith) (λ k. omega arith) h)
stopped_only _ h = absurd (omega arith)

-- the greatest status, and one that is no ending's own
status_bounds : (e : Ending) → (status_of e ≤ 8) × (status_of e ≢ 4)
status_bounds (Checked (Accepted settled unsettled)) = (small (unsettled == 0), λ h. zero_or_one (unsettled == 0) 4 (λ k. omega arith) (λ k. omega arith) h)
  where
    small : (b : Bool) → cond b 0 1 ≤ 8
    small true = omega arith
    small false = omega arith
status_bounds Usage = (omega arith, λ h. omega arith)
status_bounds (ReadFault which) = (omega arith, λ h. omega arith)
status_bounds (TooLong which) = (omega arith, λ h. omega arith)
status_bounds Memory = (omega arith, λ h. omega arith)
status_bounds (ModelRefused stop) = (omega arith, λ h. omega arith)
status_bounds (BadReport n) = (omega arith, λ h. omega arith)
status_bounds (BadScript n) = (omega arith, λ h. omega arith)
status_bounds CutReport = (omega arith, λ h. omega arith)
status_bounds (Checked (Rejected n)) = (omega arith, λ h. omega arith)
status_bounds (Checked (Wide n w)) = (omega arith, λ h. omega arith)
status_bounds (Checked Want) = (omega arith, λ h. omega arith)

-- ---- what is written
-- the status is that of the ending; or 4, after a fault; or 7
abbrev Status : {K : Type 0} → (K → ℕ) → K → K → Ending → ℕ → Type 0
Status faults old new e status = (status ≡ status_of e) ⊎ (((status ≡ 4) × Rose (faults old) (faults new)) ⊎ (status ≡ 7))

said_status : {K : Type 0} (faults : K → ℕ) (taken : K → Option (List ℕ)) (old new : K) (e : Ending) (status : ℕ) → (status_after_fault e ≡ status_of e) ⊎ (status_after_fault e ≡ 4) → IsSaid faults taken old new e status → Status faults old new e status
said_status faults taken old new e status after (inl whole) = inl whole.0
said_status faults taken old new e status (inl same) (inr failed) = inl (failed.0 ∙ same)
said_status faults taken old new e status (inr four) (inr failed) = inr (inl (failed.0 ∙ four, failed.1.rose))

after_fault : (e : Ending) → (status_after_fault e ≡ status_of e) ⊎ (status_after_fault e ≡ 4)
after_fault Usage = inl refl
after_fault (ReadFault which) = inl refl
after_fault (TooLong which) = inl refl
after_fault Memory = inl refl
after_fault (ModelRefused stop) = inl refl
after_fault (BadReport n) = inl refl
after_fault (BadScript n) = inl refl
after_fault CutReport = inl refl
after_fault (Checked (Rejected n)) = inl refl
after_fault (Checked (Wide n w)) = inl refl
after_fault (Checked Want) = inl refl
after_fault (Checked (Accepted settled unsettled)) = inr refl

-- an ending is said, or there is want of memory
said_or_want : {K : Type 0} (faults : K → ℕ) (taken : K → Option (List ℕ)) (old new : K) (e : Ending) (status : ℕ) → Ends faults taken old new e status → IsSaid faults taken old new e status ⊎ EndsInWant faults taken old new status
said_or_want faults taken old new Usage status h = inl h
said_or_want faults taken old new (ReadFault which) status h = inl h
said_or_want faults taken old new (TooLong which) status h = inl h
said_or_want faults taken old new Memory status h = inr h
said_or_want faults taken old new (ModelRefused stop) status h = h
said_or_want faults taken old new (BadReport n) status h = h
said_or_want faults taken old new (BadScript n) status h = h
said_or_want faults taken old new CutReport status h = inl h
said_or_want faults taken old new (Checked outcome) status h = h

status_from : {K : Type 0} (faults : K → ℕ) (taken : K → Option (List ℕ)) (old new : K) (e : Ending) (status : ℕ) → Ends faults taken old new e status → Status faults old new e status
status_from faults taken old new e status h = by (said_or_want faults taken old new e status h)
  where
    by : IsSaid faults taken old new e status ⊎ EndsInWant faults taken old new status → Status faults old new e status
    by (inl said) = said_status faults taken old new e status (after_fault e) said
    by (inr want) = inr (inr want.0)

-- a status that is neither 4 nor 7 is that of the ending
own_status : {K : Type 0} (faults : K → ℕ) (old new : K) (e : Ending) (status n : ℕ) → n ≢ 4 → n ≢ 7 → status ≡ n → Status faults old new e status → status_of e ≡ n
own_status faults old new e status n four seven h (inl same) = sym same ∙ h
own_status faults old new e status n four seven h (inr (inl fault)) = absurd (four (sym h ∙ fault.0))
own_status faults old new e status n four seven h (inr (inr want)) = absurd (seven (sym h ∙ want))

-- ---- the clauses
-- the cause, where the words are none of the forms
caused_without : (file : List ℕ → Option (List ℕ)) (before now : List ℕ → ℕ) (request : Option Request) (e : Ending) → e ≡ Usage → IsCaused file before now request e → request ≡ None
caused_without file before now None e same cause = refl
caused_without file before now (Some q) e same cause = absurd (subst (IsCaused file before now (Some q)) same cause)

-- the told files call for an ending that is neither of these
asked : (file : List ℕ → Option (List ℕ)) (before now : List ℕ → ℕ) (request : Option Request) (e f : Ending) → e ≡ f → ((q : Request) → IsCaused file before now (Some q) f → Calls file q f) → f ≢ Usage → IsCaused file before now request e → AskedFor file request f
asked file before now None e f same calls other cause = absurd (other (sym same ∙ cause))
asked file before now (Some q) e f same calls other cause = calls q (subst (IsCaused file before now (Some q)) same cause)

-- what is too long is asked for
too_long : (file : List ℕ → Option (List ℕ)) (q : Request) (which : Which) → Calls file q (TooLong which) → IsTooLong file which (name_of q which)
too_long file (Request.Verify model report) Model h = h
too_long file (Request.Verify model report) Report h = h.1
too_long file (Request.Verify model report) Script h = absurd h
too_long file (Request.Analyse model script) Model h = h
too_long file (Request.Analyse model script) Report h = absurd h
too_long file (Request.Analyse model script) Script h = h.1
too_long file (Request.Make n) which h = absurd h

fetch_stopped : (file : List ℕ → Option (List ℕ)) (before now : List ℕ → ℕ) (request : Option Request) (e : Ending) (which : Which) → (e ≡ ReadFault which) ⊎ (e ≡ TooLong which) → IsCaused file before now request e → HasFetchStop file before now request
fetch_stopped file before now None e which (inl same) cause = let wrong : ReadFault which ≡ Usage = sym same ∙ cause in absurd (cc)
fetch_stopped file before now None e which (inr same) cause = let wrong : TooLong which ≡ Usage = sym same ∙ cause in absurd (cc)
fetch_stopped file before now (Some q) e Model (inl same) cause = (Model, inl (subst (IsCaused file before now (Some q)) same cause))
fetch_stopped file before now (Some q) e Report (inl same) cause = let h = subst (IsCaused file before now (Some q)) same cause in (Report, inl h.0)
fetch_stopped file before now (Some q) e Script (inl same) cause = let h = subst (IsCaused file before now (Some q)) same cause in (Script, inl h.0)
fetch_stopped file before now (Some q) e which (inr same) cause = (which, inr (too_long file q which (subst (IsCaused file before now (Some q)) same cause)))

-- words that are none of the forms
no_request : (file : List ℕ → Option (List ℕ)) (before now : List ℕ → ℕ) (request : Option Request) (e : Ending) → request ≡ None → IsCaused file before now request e → e ≡ Usage
no_request file before now None e none cause = cause
no_request file before now (Some q) e none cause = absurd (cc)

usage_status : {K : Type 0} (faults : K → ℕ) (taken : K → Option (List ℕ)) (old new : K) (status : ℕ) → IsSaid faults taken old new Usage status → status ≡ 2
usage_status faults taken old new status (inl whole) = whole.0
usage_status faults taken old new status (inr failed) = failed.0

-- where no put failed
calm_written : {K : Type 0} (faults : K → ℕ) (taken : K → Option (List ℕ)) (old new : K) (e : Ending) (status : ℕ) → ¬ (Rose (faults old) (faults new)) → IsSaid faults taken old new e status ⊎ EndsInWant faults taken old new status
    → ((status ≡ status_of e) × PutWhole faults taken old new (line_of e)) ⊎ EndsInWant faults taken old new status
calm_written faults taken old new e status calm (inl (inl whole)) = inl whole
calm_written faults taken old new e status calm (inl (inr failed)) = absurd (calm failed.1.rose)
calm_written faults taken old new e status calm (inr want) = inr want

-- the files of a request call for one ending
one_call : (file : List ℕ → Option (List ℕ)) (q : Request) (e f : Ending) → AreTold file q f → Calls file q f → Calls file q e → e ≡ f
one_call file (Request.Verify model report) e f told calls cause = sym (one_ending.checked model (file model) (file report) f e told calls cause)
one_call file (Request.Analyse model script) e f told calls cause = sym (one_ending.analysed model (file model) (file script) f e told calls cause)
one_call file (Request.Make n) e f told calls cause = absurd calls

-- where no fetch failed, an ending comes for want of memory, or told files call for it
called_or_memory : (file : List ℕ → Option (List ℕ)) (before now : List ℕ → ℕ) (q : Request) (e : Ending) → ((which : Which) → ¬ (HasFailed before now q which)) → IsCaused file before now (Some q) e → (e ≡ Memory) ⊎ Calls file q e
called_or_memory file before now q Usage calm cause = absurd cause
called_or_memory file before now q Memory calm cause = inl refl
called_or_memory file before now q (ReadFault Model) calm cause = absurd (calm Model cause)
called_or_memory file before now q (ReadFault Report) calm cause = absurd (calm Report cause.0)
called_or_memory file before now q (ReadFault Script) calm cause = absurd (calm Script cause.0)
called_or_memory file before now q (TooLong which) calm cause = inr cause
called_or_memory file before now q (ModelRefused stop) calm cause = inr cause.0
called_or_memory file before now q (BadReport n) calm cause = inr cause
called_or_memory file before now q CutReport calm cause = inr cause
called_or_memory file before now q (BadScript n) calm cause = inr cause
called_or_memory file before now q (Checked v) calm cause = inr cause

-- ---- sessions
-- files of an analysis call for no ending
session_uncalled : (file : List ℕ → Option (List ℕ)) (q : Request) (p : Program) (commands : List Command) (e : Ending) → IsAskedSession file (Some q) p commands → AreTold file q e → Calls file q e → ⊥
session_uncalled file (Request.Analyse model script) p commands e session told calls = none_called_as_told model (file model) (file script) p commands e session.declares session.says told calls
session_uncalled file _ p commands e session told calls = absurd session

told_uncalled : (file : List ℕ → Option (List ℕ)) (q : Request) (p : Program) (commands : List Command) (e : Ending) → IsToldSession file q p commands → Calls file q e → ⊥
told_uncalled file (Request.Analyse model script) p commands e session calls = by (file model) (file script) session calls
  where
    by : (m s : Option (List ℕ)) → IsToldAs (λ b. IsModelOf model b p) m × IsToldAs (λ b. IsCommands b commands) s → CallsForScript model m s e → ⊥
    by (Some m) (Some s) told c = none_called model m s p commands e told.0 told.1 c
    by (Some m) None told c = absurd told.1
    by None s told c = absurd told.0
told_uncalled file _ p commands e session calls = absurd session

told_same : (file : List ℕ → Option (List ℕ)) (q : Request) (p r : Program) (a b : List Command) → IsAskedSession file (Some q) p a → IsToldSession file q r b → (p ≡ r) × (a ≡ b)
told_same file (Request.Analyse model script) p r a b session told = by (file model) (file script) session.declares session.says told
  where
    by : (m s : Option (List ℕ)) → IfSome m (λ x. IsModelOf model x p) → IfSome s (λ x. IsCommands x a) → IsToldAs (λ x. IsModelOf model x r) m × IsToldAs (λ x. IsCommands x b) s → (p ≡ r) × (a ≡ b)
    by (Some m) (Some s) declares says t = one_session model m s p r a b declares t.0 says t.1
    by (Some m) None declares says t = absurd t.1
    by None s declares says t = absurd t.0
told_same file _ p r a b session told = absurd session

-- ---- answers
module _ {K : Type 0} (faults : K → ℕ) (taken : K → Option (List ℕ)) (old new : K) where
  -- all commands are answered; or a put failed; or there is want of memory
  abbrev AnswerStatus : Program → List Command → ℕ → Type 0
  AnswerStatus p commands status = ((stopped : Bool) × ((status ≡ cond stopped 1 0) × IsAnswered faults taken old new p commands stopped)) ⊎ (((status ≡ 4) × Rose (faults old) (faults new)) ⊎ (status ≡ 7))

  answer_status : (p : Program) (commands : List Command) (status : ℕ) → HasWords p → IsAnalysis faults taken old new p commands status → AnswerStatus p commands status
  answer_status p commands status words a = by a.written
    where
      by : IsWhole faults taken old new p commands a.entries status ⊎ (IsCut faults taken old new p commands a.entries status ⊎ IsWant faults taken old new p a.entries status) → AnswerStatus p commands status
      by (inl whole) = inl (list_any (λ e. is_unmet e.answer) a.entries, (whole.status_is, record { entries = a.entries; right = a.right; form = a.form words; all = whole.all; stops = refl; put = whole.put }))
      by (inr (inl cut)) = inr (inl (cut.status_is, cut.put.rose))
      by (inr (inr want)) = inr (inr want.status_is)

  -- the statuses of an analysis
  no_other : (p : Program) (commands : List Command) (status n : ℕ) → n ≢ 0 → n ≢ 1 → n ≢ 4 → n ≢ 7 → status ≡ n → AnswerStatus p commands status → ⊥
  no_other p commands status n zero one four seven h (inl (true, answered)) = one (sym h ∙ answered.0)
  no_other p commands status n zero one four seven h (inl (false, answered)) = zero (sym h ∙ answered.0)
  no_other p commands status n zero one four seven h (inr (inl fault)) = four (sym h ∙ fault.0)
  no_other p commands status n zero one four seven h (inr (inr want)) = seven (sym h ∙ want)

  -- with status 0 no answer is a stop, and with status 1 some answer is
  by_status : (p : Program) (commands : List Command) (status : ℕ) (stopped : Bool) → status ≡ cond stopped 1 0 → AnswerStatus p commands status → IsAnswered faults taken old new p commands stopped
  by_status p commands status true h (inl (true, answered)) = answered.1
  by_status p commands status false h (inl (false, answered)) = answered.1
  by_status p commands status true h (inl (false, answered)) = let e : status ≡ 0 = answered.0 in let f : status ≡ 1 = h in absurd (omega arith)
  by_status p commands status false h (inl (true, answered)) = let e : status ≡ 1 = answered.0 in let f : status ≡ 0 = h in absurd (omega arith)
  by_status p commands status true h (inr (inl fault)) = let e = fault.0 in let f : status ≡ 1 = h in absurd (omega arith)
  by_status p commands status false h (inr (inl fault)) = let e = fault.0 in let f : status ≡ 0 = h in absurd (omega arith)
  by_status p commands status true h (inr (inr want)) = let f : status ≡ 1 = h in absurd (omega arith)
  by_status p commands status false h (inr (inr want)) = let f : status ≡ 0 = h in absurd (omega arith)

  within_eight : (p : Program) (commands : List Command) (status : ℕ) → AnswerStatus p commands status → status ≤ 8
  within_eight p commands status (inl (true, answered)) = let e : status ≡ 1 = answered.0 in omega arith
  within_eight p commands status (inl (false, answered)) = let e : status ≡ 0 = answered.0 in omega arith
  within_eight p commands status (inr (inl fault)) = let e = fault.0 in omega arith
  within_eight p commands status (inr (inr want)) = omega arith

module _ {S K : Type 0} (file : S → List ℕ → Option (List ℕ)) (fetch_faults : S → List ℕ → ℕ) (put_faults : K → ℕ) (taken : K → Option (List ℕ)) (shelf_old shelf_new : S) (out_old out_new : K) where
  abbrev Ended : Option Request → ℕ → Type 0
  Ended request status = IsEnded file fetch_faults put_faults taken shelf_old shelf_new out_old out_new request status

  abbrev Analysed : Option Request → ℕ → Type 0
  Analysed request status = IsAnalysed (file shelf_old) put_faults taken out_old out_new request status

  abbrev Making : Option Request → ℕ → Type 0
  Making request status = IsMaking put_faults taken out_old out_new request status

  abbrev Run : Option Request → ℕ → Type 0
  Run request status = IsRun file fetch_faults put_faults taken shelf_old shelf_new out_old out_new request status

  its : (request : Option Request) (status : ℕ) → (run : Ended request status) → Status put_faults out_old out_new run.ending status
  its request status run = status_from put_faults taken out_old out_new run.ending status run.written

  -- the ending, where the status is neither 4 nor 7
  its_own : (request : Option Request) (status n : ℕ) → (run : Ended request status) → n ≢ 4 → n ≢ 7 → status ≡ n → status_of run.ending ≡ n
  its_own request status n run four seven h = own_status put_faults out_old out_new run.ending status n four seven h (its request status run)

  its_answers : (request : Option Request) (status : ℕ) → (run : Analysed request status) → AnswerStatus put_faults taken out_old out_new run.program run.commands status
  its_answers request status run = answer_status put_faults taken out_old out_new run.program run.commands status run.words run.written

  -- a status that no analysis has
  unanswered : (request : Option Request) (status n : ℕ) → Analysed request status → n ≢ 0 → n ≢ 1 → n ≢ 4 → n ≢ 7 → status ≡ n → ⊥
  unanswered request status n run zero one four seven h = no_other put_faults taken out_old out_new run.program run.commands status n zero one four seven h (its_answers request status run)

  -- a status that no production plan has
  unmade : (request : Option Request) (status n : ℕ) → Making request status → n ≢ 0 → n ≢ 1 → n ≢ 4 → n ≢ 7 → status ≡ n → ⊥
  unmade request status n run zero one four seven h = no_made put_faults taken out_old out_new run.periods status n zero one four seven h run.written

  -- what holds of the request for a production plan holds of a request that asks for one
  asked_plan : (P : Option Request → Type 0) (request : Option Request) (status : ℕ) → (run : Making request status) → P (Some (Request.Make run.periods)) → P request
  asked_plan P request status run h = subst P (sym run.asked) h

  -- an analysis is asked for by words
  some_words : (request : Option Request) (status : ℕ) → Analysed request status → request ≡ None → ⊥
  some_words request status run none = subst (λ (r : Option Request). IsAskedSession (file shelf_old) r run.program run.commands) none run.asked

  pub usage_clause : (request : Option Request) (status : ℕ) → Run request status → (status ≡ 2) ↔ (request ≡ None)
  usage_clause request status (inl run) = (
    λ h. caused_without (file shelf_old) (fetch_faults shelf_old) (fetch_faults shelf_new) request run.ending (usage_only run.ending (its_own request status 2 run (λ e. omega arith) (λ e. omega arith) h)) run.cause,
    λ none. usage_status put_faults taken out_old out_new status
        (subst (λ (e : Ending). Ends put_faults taken out_old out_new e status) (no_request (file shelf_old) (fetch_faults shelf_old) (fetch_faults shelf_new) request run.ending none run.cause) run.written),
  )
  usage_clause request status (inr (inl run)) = (
    λ h. absurd (unanswered request status 2 run (λ e. omega arith) (λ e. omega arith) (λ e. omega arith) (λ e. omega arith) h),
    λ none. absurd (some_words request status run none),
  )
  usage_clause request status (inr (inr run)) = (
    λ h. absurd (unmade request status 2 run (λ e. omega arith) (λ e. omega arith) (λ e. omega arith) (λ e. omega arith) h),
    λ none. let asked = run.asked in absurd (cc),
  )

  pub fetch_stop_clause : (request : Option Request) (status : ℕ) → Run request status → status ≡ 3 → HasFetchStop (file shelf_old) (fetch_faults shelf_old) (fetch_faults shelf_new) request
  fetch_stop_clause request status (inl run) h =
      let s = stopped_only run.ending (its_own request status 3 run (λ e. omega arith) (λ e. omega arith) h) in
      fetch_stopped (file shelf_old) (fetch_faults shelf_old) (fetch_faults shelf_new) request run.ending s.0 s.1 run.cause
  fetch_stop_clause request status (inr (inl run)) h = absurd (unanswered request status 3 run (λ e. omega arith) (λ e. omega arith) (λ e. omega arith) (λ e. omega arith) h)
  fetch_stop_clause request status (inr (inr run)) h = absurd (unmade request status 3 run (λ e. omega arith) (λ e. omega arith) (λ e. omega arith) (λ e. omega arith) h)

  pub write_fault_clause : (request : Option Request) (status : ℕ) → Run request status → status ≡ 4 → Rose (put_faults out_old) (put_faults out_new)
  write_fault_clause request status (inl run) h = by (its request status run)
    where
      by : Status put_faults out_old out_new run.ending status → Rose (put_faults out_old) (put_faults out_new)
      by (inl same) = absurd ((status_bounds run.ending).1 (sym same ∙ h))
      by (inr (inl fault)) = fault.1
      by (inr (inr want)) = absurd (omega arith)
  write_fault_clause request status (inr (inr run)) h = made_cut put_faults taken out_old out_new run.periods status h run.written
  write_fault_clause request status (inr (inl run)) h = by (its_answers request status run)
    where
      by : AnswerStatus put_faults taken out_old out_new run.program run.commands status → Rose (put_faults out_old) (put_faults out_new)
      by (inl (true, answered)) = let e : status ≡ 1 = answered.0 in absurd (omega arith)
      by (inl (false, answered)) = let e : status ≡ 0 = answered.0 in absurd (omega arith)
      by (inr (inl fault)) = fault.1
      by (inr (inr want)) = absurd (omega arith)

  -- a status that told files call for
  called : (request : Option Request) (status : ℕ) (f : Ending) → (run : Ended request status) → run.ending ≡ f → ((q : Request) → IsCaused (file shelf_old) (fetch_faults shelf_old) (fetch_faults shelf_new) (Some q) f → Calls (file shelf_old) q f) → f ≢ Usage → AskedFor (file shelf_old) request f
  called request status f run same calls other = asked (file shelf_old) (fetch_faults shelf_old) (fetch_faults shelf_new) request run.ending f same calls other run.cause

  pub model_clause : (request : Option Request) (status : ℕ) → Run request status → status ≡ 5 → IsModelRefused (file shelf_old) request
  model_clause request status (inl run) h =
      let r = model_refused_only run.ending (its_own request status 5 run (λ e. omega arith) (λ e. omega arith) h) in
      (r.0, called request status (ModelRefused r.0) run r.1 (λ q c. c.0) (λ e. absurd (cc)))
  model_clause request status (inr (inl run)) h = absurd (unanswered request status 5 run (λ e. omega arith) (λ e. omega arith) (λ e. omega arith) (λ e. omega arith) h)
  model_clause request status (inr (inr run)) h = absurd (unmade request status 5 run (λ e. omega arith) (λ e. omega arith) (λ e. omega arith) (λ e. omega arith) h)

  alone : (request : Option Request) (stop : ReadStop) → IsCaused (file shelf_old) (fetch_faults shelf_old) (fetch_faults shelf_new) request (ModelRefused stop) → KeepsCounts (fetch_faults shelf_old) (fetch_faults shelf_new)
  alone None stop cause = absurd (cc)
  alone (Some q) stop cause = cause.1

  pub alone_clause : (request : Option Request) (status : ℕ) → Run request status → status ≡ 5 → KeepsCounts (fetch_faults shelf_old) (fetch_faults shelf_new)
  alone_clause request status (inl run) h =
      let r = model_refused_only run.ending (its_own request status 5 run (λ e. omega arith) (λ e. omega arith) h) in
      alone request r.0 (subst (IsCaused (file shelf_old) (fetch_faults shelf_old) (fetch_faults shelf_new) request) r.1 run.cause)
  alone_clause request status (inr (inl run)) h = absurd (unanswered request status 5 run (λ e. omega arith) (λ e. omega arith) (λ e. omega arith) (λ e. omega arith) h)
  alone_clause request status (inr (inr run)) h = absurd (unmade request status 5 run (λ e. omega arith) (λ e. omega arith) (λ e. omega arith) (λ e. omega arith) h)

  pub text_clause : (request : Option Request) (status : ℕ) → Run request status → status ≡ 6 → IsTextRefused (file shelf_old) request
  text_clause request status (inl run) h = by (text_refused_only run.ending (its_own request status 6 run (λ e. omega arith) (λ e. omega arith) h))
    where
      by : (run.ending ≡ CutReport) ⊎ (((n : ℕ) × (run.ending ≡ BadReport n)) ⊎ ((n : ℕ) × (run.ending ≡ BadScript n))) → IsTextRefused (file shelf_old) request
      by (inl cut) = record { ending = CutReport; refused = inl refl; asked = called request status CutReport run cut (λ q c. c) (λ e. absurd (cc)) }
      by (inr (inl (n, bad))) = record { ending = BadReport n; refused = inr (inl (n, refl)); asked = called request status (BadReport n) run bad (λ q c. c) (λ e. absurd (cc)) }
      by (inr (inr (n, bad))) = record { ending = BadScript n; refused = inr (inr (n, refl)); asked = called request status (BadScript n) run bad (λ q c. c) (λ e. absurd (cc)) }
  text_clause request status (inr (inl run)) h = absurd (unanswered request status 6 run (λ e. omega arith) (λ e. omega arith) (λ e. omega arith) (λ e. omega arith) h)
  text_clause request status (inr (inr run)) h = absurd (unmade request status 6 run (λ e. omega arith) (λ e. omega arith) (λ e. omega arith) (λ e. omega arith) h)

  pub refuted_clause : (request : Option Request) (status : ℕ) → Run request status → status ≡ 8 → IsRefuted (file shelf_old) request
  refuted_clause request status (inl run) h =
      let r = refuted_only run.ending (its_own request status 8 run (λ e. omega arith) (λ e. omega arith) h) in
      record { line = r.0; outcome = r.1.0; refused = r.1.1.0; asked = called request status (Checked r.1.0) run r.1.1.1 (λ q c. c) (λ e. absurd (cc)) }
  refuted_clause request status (inr (inl run)) h = absurd (unanswered request status 8 run (λ e. omega arith) (λ e. omega arith) (λ e. omega arith) (λ e. omega arith) h)
  refuted_clause request status (inr (inr run)) h = absurd (unmade request status 8 run (λ e. omega arith) (λ e. omega arith) (λ e. omega arith) (λ e. omega arith) h)

  -- all commands are answered
  done : (request : Option Request) (status : ℕ) (stopped : Bool) (P : Option Request → Type 0) → (run : Analysed request status) → status ≡ cond stopped 1 0
      → ((model script : List ℕ) → IsDone (file shelf_old) put_faults taken out_old out_new model script stopped → P (Some (Request.Analyse model script))) → P request
  done request status stopped P run h make = by request run.asked
    where
      answered : IsAnswered put_faults taken out_old out_new run.program run.commands stopped
      answered = by_status put_faults taken out_old out_new run.program run.commands status stopped h (its_answers request status run)

      by : (r : Option Request) → IsAskedSession (file shelf_old) r run.program run.commands → P r
      by (Some (Request.Analyse model script)) session = make model script (record { program = run.program; commands = run.commands; session = session; answered = answered })
      by _ session = absurd session

  -- the check of a report accepts it
  accepts : (request : Option Request) (status : ℕ) → (run : Ended request status) → status ≡ 0 → (settled : ℕ) × AskedFor (file shelf_old) request (Checked (Accepted settled 0))
  accepts request status run h =
      let a = accepted_only run.ending (its_own request status 0 run (λ e. omega arith) (λ e. omega arith) h) in
      (a.0, called request status (Checked (Accepted a.0 0)) run a.1 (λ q c. c) (λ e. absurd (cc)))

  leaves : (request : Option Request) (status : ℕ) → (run : Ended request status) → status ≡ 1 → (settled : ℕ) × ((unsettled : ℕ) × ((unsettled ≢ 0) × AskedFor (file shelf_old) request (Checked (Accepted settled unsettled))))
  leaves request status run h =
      let a = unsettled_only run.ending (its_own request status 1 run (λ e. omega arith) (λ e. omega arith) h) in
      (a.0, (a.1.0, (a.1.1.0, called request status (Checked (Accepted a.0 a.1.0)) run a.1.1.1 (λ q c. c) (λ e. absurd (cc)))))

  pub accepted_clause : (request : Option Request) (status : ℕ) → Run request status → status ≡ 0 → IsAccepted (file shelf_old) put_faults taken out_old out_new request
  accepted_clause request status (inl run) h = by request (accepts request status run h)
    where
      by : (r : Option Request) → (settled : ℕ) × AskedFor (file shelf_old) r (Checked (Accepted settled 0)) → IsAccepted (file shelf_old) put_faults taken out_old out_new r
      by None a = absurd a.1
      by (Some (Request.Verify model report)) a = a
      by (Some (Request.Analyse model script)) a = absurd a.1
      by (Some (Request.Make n)) a = absurd a.1
  accepted_clause request status (inr (inl run)) h = done request status false (IsAccepted (file shelf_old) put_faults taken out_old out_new) run h (λ model script d. d)
  accepted_clause request status (inr (inr run)) h =
      asked_plan (IsAccepted (file shelf_old) put_faults taken out_old out_new) request status run (made_summarised put_faults taken out_old out_new run.periods status h run.written)

  pub unsettled_clause : (request : Option Request) (status : ℕ) → Run request status → status ≡ 1 → IsUnsettled (file shelf_old) put_faults taken out_old out_new request
  unsettled_clause request status (inl run) h = by request (leaves request status run h)
    where
      by : (r : Option Request) → (settled : ℕ) × ((unsettled : ℕ) × ((unsettled ≢ 0) × AskedFor (file shelf_old) r (Checked (Accepted settled unsettled)))) → IsUnsettled (file shelf_old) put_faults taken out_old out_new r
      by None a = absurd a.1.1.1
      by (Some (Request.Verify model report)) a = a
      by (Some (Request.Analyse model script)) a = absurd a.1.1.1
      by (Some (Request.Make n)) a = absurd a.1.1.1
  unsettled_clause request status (inr (inl run)) h = done request status true (IsUnsettled (file shelf_old) put_faults taken out_old out_new) run h (λ model script d. d)
  unsettled_clause request status (inr (inr run)) h =
      asked_plan (IsUnsettled (file shelf_old) put_faults taken out_old out_new) request status run (made_stopped put_faults taken out_old out_new run.periods status h run.written)

  -- what a check accepts is so
  is_true : AcceptedLaw → (bytes name : List ℕ) (program : Program) (report : Entries) → Declares name bytes program → IsReportFor program report → IsPassed (outcome_of report.entries (trials program report)) → IsTrueReport program report
  is_true law bytes name program report declares form passed =
      let both = law program report (meaning.well_formed name bytes program declares) form passed in
      record { notes = both.0; entries = both.1 }

  -- what an accepted report says is so
  accepted_so : AcceptedLaw → (request : Option Request) (settled unsettled : ℕ) → AskedFor (file shelf_old) request (Checked (Accepted settled unsettled)) → IsBorneOut (file shelf_old) request
  accepted_so law request settled unsettled h = by request h
    where
      so : (name : List ℕ) (m r : Option (List ℕ)) → AreReported name m r (Checked (Accepted settled unsettled)) → IfSome m (λ mb. IfSome r (λ rb. (program : Program) (report : Entries) → Declares name mb program → Reads program rb report → IsTrueReport program report))
      so name None r a = tt
      so name (Some mb) None a = tt
      so name (Some mb) (Some rb) a = λ program report declares reads.
          let at = a.1 in
          let same = the_report name mb rb at.program program at.comes.1.report report at.declares declares at.comes.1.reads reads in
          subst (λ (x : Entries). IsTrueReport program x) same.1 (subst (λ (p : Program). IsTrueReport p at.comes.1.report) same.0 (is_true law mb name at.program at.comes.1.report at.declares at.comes.1.reads.form (subst IsPassed at.comes.1.found tt)))

      by : (r : Option Request) → AskedFor (file shelf_old) r (Checked (Accepted settled unsettled)) → IsBorneOut (file shelf_old) r
      by (Some (Request.Verify model report)) a = so model (file shelf_old model) (file shelf_old report) a.1
      by _ a = absurd a

  pub borne_out_clause : AcceptedLaw → (request : Option Request) (status : ℕ) → Run request status → (status ≡ 0) ⊎ (status ≡ 1) → IsBorneOut (file shelf_old) request
  borne_out_clause law request status (inl run) (inl h) = let a = accepts request status run h in accepted_so law request a.0 0 a.1
  borne_out_clause law request status (inl run) (inr h) = let a = leaves request status run h in accepted_so law request a.0 a.1.0 a.1.1.1
  borne_out_clause law request status (inr (inl run)) (inl h) = done request status false (IsBorneOut (file shelf_old)) run h (λ model script d. tt)
  borne_out_clause law request status (inr (inl run)) (inr h) = done request status true (IsBorneOut (file shelf_old)) run h (λ model script d. tt)
  borne_out_clause law request status (inr (inr run)) h = asked_plan (IsBorneOut (file shelf_old)) request status run tt

  -- what an analysis writes whole is read
  -- the check of right answers is no rejection
  decided : (entries : List Entry) (outcome : Outcome) → IsAcceptedOrWide entries outcome → IsDecided outcome
  decided entries (Accepted settled unsettled) h = tt
  decided entries (Wide n o) h = tt
  decided entries _ h = absurd h

  done_read : AcceptedAgainLaw → (model script : List ℕ) (stopped : Bool) → IsDone (file shelf_old) put_faults taken out_old out_new model script stopped → IsReadBack (file shelf_old) taken out_old out_new (Some (Request.Analyse model script))
  done_read law model script stopped d = by (file shelf_old model) d.session.declares
    where
      report : Entries
      report = report_of d.program d.answered.entries

      text : List ℕ
      text = whole_text d.program d.answered.entries

      outcome : Outcome
      outcome = outcome_of report.entries (trials d.program report)

      again : IsAcceptedOrWide report.entries outcome
      again = law d.program d.commands d.answered.entries d.answered.right

      reads : Reads d.program text report
      reads = record { form = d.answered.form; text = refl }

      calls : (b : List ℕ) → IsModelOf model b d.program → length text ≤ limit_of Report → CallsFor model (Some b) (Some text) (Checked outcome)
      calls b h short =
          let sure : IsDecided outcome = decided report.entries outcome again in
          (sure, (record { short = h.short; program = d.program; declares = h.declares }, record { short = short; program = d.program; declares = h.declares; comes = (sure, record { report = report; reads = reads; found = refl }) }))

      read : (b : List ℕ) → IsModelOf model b d.program → IsWrittenReport taken out_old out_new model b d.program
      read b h = record { text = text; written = d.answered.put.bytes; report = report; reads = reads; outcome = outcome; again = again; calls = calls b h }

      by : (m : Option (List ℕ)) → IfSome m (λ b. IsModelOf model b d.program) → IfSome m (λ b. (program : Program) → Declares model b program → IsWrittenReport taken out_old out_new model b program)
      by None h = tt
      by (Some b) h = λ program declares. subst (IsWrittenReport taken out_old out_new model b) (meaning.one model b d.program program h.declares declares) (read b h)

  unread : (request : Option Request) (e : Ending) → ((model script : List ℕ) → Calls (file shelf_old) (Request.Analyse model script) e → ⊥) → AskedFor (file shelf_old) request e → IsReadBack (file shelf_old) taken out_old out_new request
  unread None e none asked = asked
  unread (Some (Request.Verify model report)) e none asked = tt
  unread (Some (Request.Make n)) e none asked = tt
  unread (Some (Request.Analyse model script)) e none asked = absurd (none model script asked)

  pub read_back_clause : AcceptedAgainLaw → (request : Option Request) (status : ℕ) → Run request status → (status ≡ 0) ⊎ (status ≡ 1) → IsReadBack (file shelf_old) taken out_old out_new request
  read_back_clause law request status (inl run) (inl h) = let a = accepts request status run h in unread request (Checked (Accepted a.0 0)) (λ model script c. c) a.1
  read_back_clause law request status (inl run) (inr h) = let a = leaves request status run h in unread request (Checked (Accepted a.0 a.1.0)) (λ model script c. c) a.1.1.1
  read_back_clause law request status (inr (inl run)) (inl h) = done request status false (IsReadBack (file shelf_old) taken out_old out_new) run h (λ model script d. done_read law model script false d)
  read_back_clause law request status (inr (inl run)) (inr h) = done request status true (IsReadBack (file shelf_old) taken out_old out_new) run h (λ model script d. done_read law model script true d)
  read_back_clause law request status (inr (inr run)) h = asked_plan (IsReadBack (file shelf_old) taken out_old out_new) request status run tt

  pub bounds_clause : (request : Option Request) (status : ℕ) → Run request status → status ≤ 8
  bounds_clause request status (inl run) = by (its request status run)
    where
      by : Status put_faults out_old out_new run.ending status → status ≤ 8
      by (inl same) = rw same (status_bounds run.ending).0
      by (inr (inl fault)) = let h = fault.0 in omega arith
      by (inr (inr want)) = omega arith
  bounds_clause request status (inr (inr run)) = made_within put_faults taken out_old out_new run.periods status run.written
  bounds_clause request status (inr (inl run)) = within_eight put_faults taken out_old out_new run.program run.commands status (its_answers request status run)

  -- a production plan asks for no file
  plan_of : (q : Request) (status : ℕ) → (run : Making (Some q) status) → q ≡ Request.Make run.periods
  plan_of q status run = let asked = run.asked in cc

  uncalled : (q : Request) (status : ℕ) → Making (Some q) status → (e : Ending) → Calls (file shelf_old) q e → ⊥
  uncalled q status run e calls = subst (λ (r : Request). Calls (file shelf_old) r e) (plan_of q status run) calls

  -- what told files call for is done, or there is want of memory
  ends : (q : Request) (status : ℕ) (run : Run (Some q) status) (f : Ending) → IsCalm fetch_faults put_faults shelf_old shelf_new out_old out_new q → AreTold (file shelf_old) q f → Calls (file shelf_old) q f
      → ((status ≡ status_of f) × PutWhole put_faults taken out_old out_new (line_of f)) ⊎ EndsInWant put_faults taken out_old out_new status
  ends q status (inl run) f calm told calls = by (called_or_memory (file shelf_old) (fetch_faults shelf_old) (fetch_faults shelf_new) q run.ending calm.fetches run.cause)
    where
      by : (run.ending ≡ Memory) ⊎ Calls (file shelf_old) q run.ending → ((status ≡ status_of f) × PutWhole put_faults taken out_old out_new (line_of f)) ⊎ EndsInWant put_faults taken out_old out_new status
      by (inl memory) = inr (subst (λ (e : Ending). Ends put_faults taken out_old out_new e status) memory run.written)
      by (inr cause) =
          let same = one_call (file shelf_old) q run.ending f told calls cause in
          calm_written put_faults taken out_old out_new f status calm.puts
          (said_or_want put_faults taken out_old out_new f status (subst (λ (e : Ending). Ends put_faults taken out_old out_new e status) same run.written))
  ends q status (inr (inr run)) f calm told calls = absurd (uncalled q status run f calls)
  ends q status (inr (inl run)) f calm told calls = absurd (session_uncalled (file shelf_old) q run.program run.commands f run.asked told calls)

  -- the commands of told files are answered, or there is want of memory
  answers : (q : Request) (status : ℕ) (run : Run (Some q) status) (p : Program) (commands : List Command) → IsCalm fetch_faults put_faults shelf_old shelf_new out_old out_new q → IsToldSession (file shelf_old) q p commands
      → ((stopped : Bool) × ((status ≡ cond stopped 1 0) × IsAnswered put_faults taken out_old out_new p commands stopped)) ⊎ (status ≡ 7)
  answers q status (inl run) p commands calm told = by (called_or_memory (file shelf_old) (fetch_faults shelf_old) (fetch_faults shelf_new) q run.ending calm.fetches run.cause)
    where
      of_want : EndsInWant put_faults taken out_old out_new status → status ≡ 7
      of_want want = want.0

      by : (run.ending ≡ Memory) ⊎ Calls (file shelf_old) q run.ending → ((stopped : Bool) × ((status ≡ cond stopped 1 0) × IsAnswered put_faults taken out_old out_new p commands stopped)) ⊎ (status ≡ 7)
      by (inl memory) = inr (of_want (subst (λ (e : Ending). Ends put_faults taken out_old out_new e status) memory run.written))
      by (inr cause) = absurd (told_uncalled (file shelf_old) q p commands run.ending told cause)
  answers q status (inr (inr run)) p commands calm told = absurd (subst (λ (r : Request). IsToldSession (file shelf_old) r p commands) (plan_of q status run) told)
  answers q status (inr (inl run)) p commands calm told = by (answer_status put_faults taken out_old out_new p commands status (subst HasWords same.0 run.words) its_own_answers)
    where
      same : (run.program ≡ p) × (run.commands ≡ commands)
      same = told_same (file shelf_old) q run.program p run.commands commands run.asked told

      its_own_answers : IsAnalysis put_faults taken out_old out_new p commands status
      its_own_answers =
          subst (λ (c : List Command). IsAnalysis put_faults taken out_old out_new p c status) same.1
          (subst (λ (r : Program). IsAnalysis put_faults taken out_old out_new r run.commands status) same.0 run.written)

      by : AnswerStatus put_faults taken out_old out_new p commands status → ((stopped : Bool) × ((status ≡ cond stopped 1 0) × IsAnswered put_faults taken out_old out_new p commands stopped)) ⊎ (status ≡ 7)
      by (inl answered) = inl answered
      by (inr (inl fault)) = absurd (calm.puts fault.1)
      by (inr (inr want)) = inr want

  -- a production plan is summarised, or what stops it is written, or there is want of memory
  makes : (q : Request) (status : ℕ) (run : Run (Some q) status) (n : ℕ) → IsCalm fetch_faults put_faults shelf_old shelf_new out_old out_new q → q ≡ Request.Make n → IsPlanTold put_faults taken out_old out_new n status
  makes q status (inl run) n calm same = by (called_or_memory (file shelf_old) (fetch_faults shelf_old) (fetch_faults shelf_new) q run.ending calm.fetches run.cause)
    where
      by : (run.ending ≡ Memory) ⊎ Calls (file shelf_old) q run.ending → IsPlanTold put_faults taken out_old out_new n status
      by (inl memory) = inr (inr (subst (λ (e : Ending). Ends put_faults taken out_old out_new e status) memory run.written))
      by (inr calls) = absurd (subst (λ (r : Request). Calls (file shelf_old) r run.ending) same calls)
  makes q status (inr (inl run)) n calm same = absurd (subst (λ (r : Request). IsAskedSession (file shelf_old) (Some r) run.program run.commands) same run.asked)
  makes q status (inr (inr run)) n calm same =
      let periods : run.periods ≡ n = let asked = run.asked in cc in
      subst (λ (k : ℕ). IsPlanTold put_faults taken out_old out_new k status) periods (made_told put_faults taken out_old out_new run.periods status calm.puts run.written)

  pub settles_clause : (request : Option Request) (status : ℕ) → Run request status → Settles file fetch_faults put_faults taken shelf_old shelf_new out_old out_new request status
  settles_clause None status run = tt
  settles_clause (Some q) status run = record { ends = λ f. ends q status run f; answers = λ p commands. answers q status run p commands; makes = λ n. makes q status run n }

  -- what follows a plan is a run
  pub planned_run : (request : Option Request) (status : ℕ) (plan : Plan) → IsReady plan → IsPlanned (file shelf_old) (fetch_faults shelf_old) (fetch_faults shelf_new) request plan → Follows put_faults taken out_old out_new plan status → Run request status
  planned_run request status (Say ending) ready cause written = inl (record { ending = ending; cause = cause; written = written })
  planned_run request status (Answer program commands) ready session written = inr (inl (record { program = program; commands = commands; asked = session; words = ready.0; written = written }))
  planned_run request status (Make n) ready asked written = inr (inr (record { periods = n; asked = asked; written = written }))
