-- What fetched bytes call for.
use Rattle.std.proofs.Common.{◌≡◌, ◌≤◌, sym, subst, ℕ, List, [], ◌∷◌, length, Option, Some, None, IfSome, ◌⊎◌, inl, inr, arith}
use Rattle.certs.specs.declared.evidence.Checked.{Checked as Found}
use Rattle.certs.specs.declared.evidence.Checked.TheVariants.{Yes, No, Wide as TooWide}
use Rattle.report_text.specs.declared.report.Report.{Report as Entries}
use Rattle.report_reader.specs.declared.reader.ReportStop.{ReportStop}
use Rattle.report_reader.specs.declared.reader.ReportStop.TheVariants.{BadLine, Truncated, Memory as NoMemory}
use Rattle.report_reader.specs.Reading.{Reads, IsReportStop}
use Rattle.cert_check.specs.declared.outcome.Outcome.{Outcome}
use Rattle.cert_check.specs.declared.outcome.Outcome.TheVariants.{Accepted, Rejected, Wide, Memory as Want}
use Rattle.cert_check.specs.Trials.{Trial, trials, outcome_of, unless_failed}
use Rattle.lp_model.specs.Program.{Program}
use Rattle.text_fields.specs.declared.faults.ReadFault.{ReadFault as ModelFault}
use Rattle.text_fields.specs.declared.faults.ReadFault.TheVariants.{Stop, Memory as NoModelMemory}
use Rattle.model_files.specs.Formats.{Declares, IsRefusal}
use Rattle.iis_run.specs.Words.{Request}
use Rattle.iis_run.specs.declared.endings.Which.{Which}
use Rattle.iis_run.specs.declared.endings.Which.TheVariants.{Model, Report, Script}
use Rattle.iis_run.specs.declared.endings.Ending.{Ending}
use Rattle.iis_run.specs.declared.endings.Ending.TheVariants.{Usage, ReadFault, TooLong, Memory, ModelRefused, BadReport, CutReport, BadScript, Checked}
use Rattle.iis_run.specs.Limits.{limit_of}
use Rattle.text_fields.specs.Lines.{lines_of}
use Rattle.report_text.specs.declared.report.Command.{Command}
use Rattle.report_text.specs.declared.report.Entry.{Entry}
use Rattle.iis_session.specs.declared.scripts.ScriptStop.{ScriptStop}
use Rattle.iis_session.specs.declared.scripts.ScriptStop.TheVariants.{BadLine as BadCommand, Memory as NoScriptMemory}
use Rattle.iis_session.specs.Scripts.{commands_of, first_bad, IsScriptStop}
use Rattle.iis_edge.specs.Causes.{Rose}
use Rattle.iis_run.specs.declared.words.Verb.{Verb}
use Rattle.iis_run.specs.declared.words.Verb.TheVariants.{Verify, Analyse}
use Rattle.iis_run.specs.declared.plans.Plan.{Plan}
use Rattle.iis_run.specs.declared.plans.Plan.TheVariants.{Say, Answer, Make}
use Rattle.iis_run.specs.Asked.{request_for}
use Rattle.iis_run.specs.Fetches.{IsFetchStop}
use Rattle.iis_run.specs.Causes.{IsModel, IsNoModel, IsModelOf, AreReported, IsReportEnding, IsDecided, IsChecked, ComesTo, checked_ending, refused_ending}
use Rattle.iis_run.specs.Scripts.{IsCommands, IsBadScript, script_ending}
use Rattle.iis_run.specs.Run.{IsCaused}
use Rattle.iis_run.specs.Steps.{IsModelStop, IsQuietEnd, model_ending, IsReportOf, IsCheckEnd, IsScriptEnd, IsSecondPlan, IsPlanned}

-- these bytes were fetched of a file, where it is told
abbrev pub IsFetched : Option (List ℕ) → List ℕ → Which → Type 0
IsFetched file bytes which = IfSome file (λ b. (bytes ≡ b) × (length b ≤ limit_of which))

-- what holds of fetched bytes holds of the file
fetched : (file : Option (List ℕ)) (bytes : List ℕ) (which : Which) (P : List ℕ → Type 0) → IsFetched file bytes which → (length bytes ≤ limit_of which → P bytes) → IfSome file P
fetched None bytes which P is h = tt
fetched (Some b) bytes which P is h = subst P is.0 (h (subst (λ (bs : List ℕ). length bs ≤ limit_of which) (sym is.0) is.1))

-- ---- the model
-- bytes that were refused
pub model_refused : (name : List ℕ) (file : Option (List ℕ)) (before now : ℕ) (bytes : List ℕ) (fault : ModelFault) → IsFetched file bytes Model → IsRefusal name bytes fault → IsModelStop name file before now (model_ending fault)
model_refused name file before now bytes (Stop stop) is h = fetched file bytes Model (λ (b : List ℕ). IsNoModel name b stop) is (λ short. record { short = short; fault = h })
model_refused name file before now bytes NoModelMemory is h = tt

-- bytes that declare a program
pub model_read : (name : List ℕ) (file : Option (List ℕ)) (bytes : List ℕ) (p : Program) → IsFetched file bytes Model → Declares name bytes p → IfSome file (λ b. IsModelOf name b p)
model_read name file bytes p is h = fetched file bytes Model (λ (b : List ℕ). IsModelOf name b p) is (λ short. record { short = short; declares = h })

-- the model was not fetched
pub model_stopped : (name : List ℕ) (file : Option (List ℕ)) (before now : ℕ) (e : Ending) → IsFetchStop file before now Model e → IsModelStop name file before now e
model_stopped name file before now (ReadFault Model) h = h.1
model_stopped name file before now (ReadFault Report) h = let wrong = h.0 in absurd (cc)
model_stopped name file before now (ReadFault Script) h = let wrong = h.0 in absurd (cc)
model_stopped name file before now (TooLong Model) h = h.1
model_stopped name file before now (TooLong Report) h = let wrong = h.0 in absurd (cc)
model_stopped name file before now (TooLong Script) h = let wrong = h.0 in absurd (cc)
model_stopped name file before now Memory h = tt
model_stopped name file before now _ h = absurd h

-- ---- the report
-- the report was not fetched
pub report_stopped : (p : Program) (file : Option (List ℕ)) (before now : ℕ) (e : Ending) → IsFetchStop file before now Report e → IsCheckEnd p file before now e
report_stopped p file before now (ReadFault Report) h = h.1
report_stopped p file before now (ReadFault Model) h = let wrong = h.0 in absurd (cc)
report_stopped p file before now (ReadFault Script) h = let wrong = h.0 in absurd (cc)
report_stopped p file before now (TooLong Report) h = h.1
report_stopped p file before now (TooLong Model) h = let wrong = h.0 in absurd (cc)
report_stopped p file before now (TooLong Script) h = let wrong = h.0 in absurd (cc)
report_stopped p file before now Memory h = tt
report_stopped p file before now _ h = absurd h

-- the report came to an ending
report_of : (p : Program) (file : Option (List ℕ)) (bytes : List ℕ) (e : Ending) → IsFetched file bytes Report → IsReportEnding p bytes e → IfSome file (λ r. IsReportOf p r e)
report_of p file bytes e is h = fetched file bytes Report (λ (r : List ℕ). IsReportOf p r e) is (λ short. record { short = short; comes = h })

pub report_ended : (p : Program) (file : Option (List ℕ)) (before now : ℕ) (bytes : List ℕ) (e : Ending) → IsFetched file bytes Report → ComesTo p bytes e → IsCheckEnd p file before now e
report_ended p file before now bytes (BadReport n) is h = report_of p file bytes (BadReport n) is h
report_ended p file before now bytes CutReport is h = report_of p file bytes CutReport is h
report_ended p file before now bytes (Checked v) is h = (h.0, report_of p file bytes (Checked v) is h)
report_ended p file before now bytes Memory is h = tt
report_ended p file before now bytes _ is h = absurd h

-- ---- the script
-- the script was not fetched
pub script_stopped : (file : Option (List ℕ)) (before now : ℕ) (e : Ending) → IsFetchStop file before now Script e → IsScriptEnd file before now e
script_stopped file before now (ReadFault Script) h = h.1
script_stopped file before now (ReadFault Model) h = let wrong = h.0 in absurd (cc)
script_stopped file before now (ReadFault Report) h = let wrong = h.0 in absurd (cc)
script_stopped file before now (TooLong Script) h = h.1
script_stopped file before now (TooLong Model) h = let wrong = h.0 in absurd (cc)
script_stopped file before now (TooLong Report) h = let wrong = h.0 in absurd (cc)
script_stopped file before now Memory h = tt
script_stopped file before now _ h = absurd h

-- the script is commands
pub script_read : (file : Option (List ℕ)) (bytes : List ℕ) (commands : List Command) → IsFetched file bytes Script → commands ≡ commands_of (lines_of bytes) → first_bad (lines_of bytes) ≡ None → IfSome file (λ s. IsCommands s commands)
script_read file bytes commands is said right = fetched file bytes Script (λ (s : List ℕ). IsCommands s commands) is (λ short. record { short = short; right = right; said = said })

-- the script was not read
pub script_unread : (file : Option (List ℕ)) (before now : ℕ) (bytes : List ℕ) (stop : ScriptStop) → IsFetched file bytes Script → IsScriptStop bytes stop → IsScriptEnd file before now (script_ending stop)
script_unread file before now bytes (BadCommand n) is h = fetched file bytes Script (λ (s : List ℕ). IsBadScript s n) is (λ short. record { short = short; bad = h })
script_unread file before now bytes NoScriptMemory is h = tt

-- ---- causes
-- a count that has risen since a later time has risen
rose_since : (before mid now : ℕ) → before ≤ mid → Rose mid now → Rose before now
rose_since before mid now h rose = omega arith

is_model : (name : List ℕ) (file : Option (List ℕ)) (p : Program) → IfSome file (λ b. IsModelOf name b p) → IfSome file (IsModel name)
is_model name None p h = tt
is_model name (Some b) p h = record { short = h.short; program = p; declares = h.declares }

-- both files are told to come to an ending, where they are told
reported : (name : List ℕ) (model report : Option (List ℕ)) (p : Program) (e : Ending) → IfSome model (λ b. IsModelOf name b p) → IfSome report (λ r. IsReportOf p r e) → AreReported name model report e
reported name None report p e m r = (tt, tt)
reported name (Some b) None p e m r = (is_model name (Some b) p m, tt)
reported name (Some b) (Some c) p e m r = (is_model name (Some b) p m, record { short = r.short; program = p; declares = m.declares; comes = r.comes })

module _ (file : List ℕ → Option (List ℕ)) (before mid now : List ℕ → ℕ) (model second : List ℕ) (p : Program) where
  check_caused : (e : Ending) → IfSome (file model) (λ b. IsModelOf model b p) → before second ≤ mid second → IsCheckEnd p (file second) (mid second) (now second) e → IsCaused file before now (Some (Request.Verify model second)) e
  check_caused (ReadFault Report) m later h = (rose_since _ _ _ later h, is_model model (file model) p m)
  check_caused (TooLong Report) m later h = (is_model model (file model) p m, h)
  check_caused Memory m later h = tt
  check_caused (BadReport n) m later h = reported model (file model) (file second) p (BadReport n) m h
  check_caused CutReport m later h = reported model (file model) (file second) p CutReport m h
  check_caused (Checked v) m later h = (h.0, reported model (file model) (file second) p (Checked v) m h.1)
  check_caused _ m later h = absurd h

  script_caused : (e : Ending) → IfSome (file model) (λ b. IsModelOf model b p) → before second ≤ mid second → IsScriptEnd (file second) (mid second) (now second) e → IsCaused file before now (Some (Request.Analyse model second)) e
  script_caused (ReadFault Script) m later h = (rose_since _ _ _ later h, is_model model (file model) p m)
  script_caused (TooLong Script) m later h = (is_model model (file model) p m, h)
  script_caused Memory m later h = tt
  script_caused (BadScript n) m later h = (is_model model (file model) p m, h)
  script_caused _ m later h = absurd h

  -- what the second file comes to has its cause
  pub second_planned : (verb : Verb) (plan : Plan) → IfSome (file model) (λ b. IsModelOf model b p) → before second ≤ mid second → IsSecondPlan verb p (file second) (mid second) (now second) plan → IsPlanned file before now (Some (request_for verb model second)) plan
  second_planned Verify (Say e) m later h = check_caused e m later h
  second_planned Verify (Answer q commands) m later h = absurd h
  second_planned Analyse (Say e) m later h = script_caused e m later h
  second_planned Verify (Make n) m later h = absurd h
  second_planned Analyse (Make n) m later h = absurd h
  second_planned Analyse (Answer q commands) m later h = record { declares = subst (λ (r : Program). IfSome (file model) (λ b. IsModelOf model b r)) (sym h.0) m; says = h.1 }

-- there is no model
pub model_planned : (file : List ℕ → Option (List ℕ)) (before now : List ℕ → ℕ) (verb : Verb) (model second : List ℕ) (e : Ending) → IsModelStop model (file model) (before model) (now model) e → IsQuietEnd before now e → IsCaused file before now (Some (request_for verb model second)) e
model_planned file before now Verify model second e h k = by e h k
  where
    by : (f : Ending) → IsModelStop model (file model) (before model) (now model) f → IsQuietEnd before now f → IsCaused file before now (Some (Request.Verify model second)) f
    by (ReadFault Model) g k = g
    by (TooLong Model) g k = g
    by (ModelRefused stop) g k = (g, k)
    by Memory g k = tt
    by _ g k = absurd g
model_planned file before now Analyse model second e h k = by e h k
  where
    by : (f : Ending) → IsModelStop model (file model) (before model) (now model) f → IsQuietEnd before now f → IsCaused file before now (Some (Request.Analyse model second)) f
    by (ReadFault Model) g k = g
    by (TooLong Model) g k = g
    by (ModelRefused stop) g k = (g, k)
    by Memory g k = tt
    by _ g k = absurd g

-- ---- what a report comes to
-- a report that was not read
pub stop_comes : (p : Program) (bytes : List ℕ) (stop : ReportStop) → IsReportStop p bytes stop → ComesTo p bytes (refused_ending stop)
stop_comes p bytes (BadLine n) h = h
stop_comes p bytes Truncated h = h
stop_comes p bytes NoMemory h = tt

-- an outcome of the trials is no want of memory
decided : (entries : List Entry) (list : List Trial) → IsDecided (outcome_of entries list)
decided entries [] = tt
decided entries (t ∷ list) = by t.found (decided entries list)
  where
    by : (found : Found) → IsDecided (outcome_of entries list) → IsDecided (unless_failed t.line found (outcome_of entries list))
    by Yes rest = rest
    by No rest = tt
    by (TooWide o) rest = tt

-- a report that was checked
pub check_comes : (p : Program) (bytes : List ℕ) (report : Entries) (o : Outcome) → Reads p bytes report → (o ≡ Want) ⊎ (o ≡ outcome_of report.entries (trials p report))
    → ComesTo p bytes (checked_ending o)
check_comes p bytes report o reads (inl want) = subst (λ (x : Outcome). ComesTo p bytes (checked_ending x)) (sym want) tt
check_comes p bytes report o reads (inr same) = by o (subst IsDecided (sym same) (decided report.entries (trials p report))) (record { report = report; reads = reads; found = same })
  where
    by : (x : Outcome) → IsDecided x → IsChecked p bytes x → ComesTo p bytes (checked_ending x)
    by (Accepted settled unsettled) d h = (d, h)
    by (Rejected n) d h = (d, h)
    by (Wide n w) d h = (d, h)
    by Want d h = absurd d
