-- The endings of a run, with their causes and what is written.
use Rattle.std.specs.Prelude.{◌≡◌, ◌≢◌, ◌<◌, ◌≤◌, ◌⊎◌, ⊤, ℕ, Bool, true, false, cond, List, ◌++◌, length, Option, Some, None, option_map, IfSome}
use Rattle.std.specs.List.{list_any}
use Rattle.frac128.specs.declared.Wide.{Wide as Operation}
use Rattle.lp_model.specs.Program.{Program}
use Rattle.text_fields.specs.declared.faults.ReadStop.{ReadStop}
use Rattle.model_files.specs.Formats.{Declares}
use Rattle.report_text.specs.declared.report.Command.{Command}
use Rattle.report_text.specs.declared.report.Entry.{Entry}
use Rattle.report_text.specs.declared.report.Report.{Report as Entries}
use Rattle.report_reader.specs.Reading.{Reads}
use Rattle.report_text.specs.Form.{IsReportFor}
use Rattle.cert_check.specs.declared.outcome.Outcome.{Outcome}
use Rattle.cert_check.specs.declared.outcome.Outcome.TheVariants.{Accepted, Rejected, Wide}
use Rattle.iis_run.specs.Again.{IsAcceptedOrWide}
use Rattle.iis_edge.specs.Causes.{Rose, KeepsCounts}
use Rattle.analysis.specs.Puts.{PutWhole}
use Rattle.analysis.specs.NamesAreWords.{HasWords}
use Rattle.analysis.specs.Right.{AreRight}
use Rattle.analysis.specs.Written.{IsAnalysis, is_unmet, report_of, whole_text}
use Rattle.iis_run.specs.Words.{Request}
use Rattle.iis_run.specs.Limits.{limit_of}
use Rattle.iis_run.specs.Causes.{IsModel, IsModelOf, IsTrueReport, CallsFor, IsToldFor}
use Rattle.iis_run.specs.Scripts.{IsCommands, CallsForScript}
use Rattle.iis_run.specs.Said.{line_of, status_of, EndsInWant, Ends}
use Rattle.iis_run.specs.Plans.{IsSummarised, IsPlanStopped, IsPlanTold, IsMade}
use Rattle.iis_run.specs.declared.endings.Which.{Which}
use Rattle.iis_run.specs.declared.endings.Which.TheVariants.{Model, Report, Script}
use Rattle.iis_run.specs.declared.endings.Ending.{Ending}
use Rattle.iis_run.specs.declared.endings.Ending.TheVariants.{Usage, ReadFault, Memory, ModelRefused, BadReport, CutReport, BadScript, Checked}

-- ---- files
-- the word that names a file, where the request asks for it; a production plan asks for none
abbrev pub name_of : Request → Which → Option (List ℕ)
name_of (Request.Verify model report) Model = Some model
name_of (Request.Verify model report) Report = Some report
name_of (Request.Verify model report) Script = None
name_of (Request.Analyse model script) Model = Some model
name_of (Request.Analyse model script) Report = None
name_of (Request.Analyse model script) Script = Some script
name_of (Request.Make n) which = None

-- the count of faults of a name has risen, where there is a name
abbrev pub HasRisen : (List ℕ → ℕ) → (List ℕ → ℕ) → Option (List ℕ) → Type 0
HasRisen before now None = ⊥
HasRisen before now (Some name) = Rose (before name) (now name)

-- the request asks for the file, and the count of faults of its own name has risen
abbrev pub HasFailed : (List ℕ → ℕ) → (List ℕ → ℕ) → Request → Which → Type 0
HasFailed before now request which = HasRisen before now (name_of request which)

-- a file of this name is too long, where there is a name and the file is told
abbrev pub IsTooLong : (List ℕ → Option (List ℕ)) → Which → Option (List ℕ) → Type 0
IsTooLong file which None = ⊥
IsTooLong file which (Some name) = IfSome (file name) (λ b. limit_of which < length b)

-- the first name of a request is that of a model, where the file is told
abbrev pub HasModel : (List ℕ → Option (List ℕ)) → Request → Type 0
HasModel file (Request.Verify model report) = IfSome (file model) (IsModel model)
HasModel file (Request.Analyse model script) = IfSome (file model) (IsModel model)
HasModel file (Request.Make n) = ⊥

-- ---- what files call for
-- the files that the ending speaks of are told
abbrev pub AreTold : (List ℕ → Option (List ℕ)) → Request → Ending → Type 0
AreTold file (Request.Verify model report) ending = IsToldFor (file model) (file report) ending
AreTold file (Request.Analyse model script) ending = IsToldFor (file model) (file script) ending
AreTold file (Request.Make n) ending = ⊤

-- the files of a request, as far as they are told, call for the ending
abbrev pub Calls : (List ℕ → Option (List ℕ)) → Request → Ending → Type 0
Calls file (Request.Verify model report) ending = CallsFor model (file model) (file report) ending
Calls file (Request.Analyse model script) ending = CallsForScript model (file model) (file script) ending
Calls file (Request.Make n) ending = ⊥

-- the same, where the words are one of the forms
abbrev pub AskedFor : (List ℕ → Option (List ℕ)) → Option Request → Ending → Type 0
AskedFor file None ending = ⊥
AskedFor file (Some request) ending = Calls file request ending

-- the model and the script, as far as they are told, are this program and these commands
pub record IsSession (file : List ℕ → Option (List ℕ)) (model script : List ℕ) (program : Program) (commands : List Command) : Type 0 where
  pub declares : IfSome (file model) (λ m. IsModelOf model m program)
  pub says : IfSome (file script) (λ s. IsCommands s commands)

-- an analysis is asked for, of this program by these commands
abbrev pub IsAskedSession : (List ℕ → Option (List ℕ)) → Option Request → Program → List Command → Type 0
IsAskedSession file None program commands = ⊥
IsAskedSession file (Some (Request.Verify model report)) program commands = ⊥
IsAskedSession file (Some (Request.Analyse model script)) program commands = IsSession file model script program commands
IsAskedSession file (Some (Request.Make n)) program commands = ⊥

-- ---- the whole run
-- the ending has its cause in this run (a refused model also leaves all counts, since nothing is fetched after it), where `file` tells the files, and `before` and `now` are the counts of faults
abbrev pub IsCaused : (List ℕ → Option (List ℕ)) → (List ℕ → ℕ) → (List ℕ → ℕ) → Option Request → Ending → Type 0
IsCaused file before now None ending = ending ≡ Usage
IsCaused file before now (Some request) Usage = ⊥
IsCaused file before now (Some request) Memory = ⊤
IsCaused file before now (Some request) (ReadFault Model) = HasFailed before now request Model
IsCaused file before now (Some request) (ReadFault Report) = HasFailed before now request Report × HasModel file request
IsCaused file before now (Some request) (ReadFault Script) = HasFailed before now request Script × HasModel file request
IsCaused file before now (Some request) (ModelRefused stop) = Calls file request (ModelRefused stop) × KeepsCounts before now
IsCaused file before now (Some request) ending = Calls file request ending

-- an ending with its cause, what it writes and its status
pub record IsEnded {S K : Type 0} (file : S → List ℕ → Option (List ℕ)) (fetch_faults : S → List ℕ → ℕ) (put_faults : K → ℕ) (taken : K → Option (List ℕ)) (shelf_old shelf_new : S) (out_old out_new : K) (request : Option Request) (status : ℕ) : Type 0 where
  pub ending : Ending
  pub cause : IsCaused (file shelf_old) (fetch_faults shelf_old) (fetch_faults shelf_new) request ending
  pub written : Ends put_faults taken out_old out_new ending status

-- an analysis of the program by the commands that the files are; the names of the program are words
pub record IsAnalysed {K : Type 0} (file : List ℕ → Option (List ℕ)) (put_faults : K → ℕ) (taken : K → Option (List ℕ)) (out_old out_new : K) (request : Option Request) (status : ℕ) : Type 0 where
  pub program : Program
  pub commands : List Command
  pub asked : IsAskedSession file request program commands
  pub words : HasWords program
  pub written : IsAnalysis put_faults taken out_old out_new program commands status

-- a production plan is asked for, and what is written of it is
pub record IsMaking {K : Type 0} (put_faults : K → ℕ) (taken : K → Option (List ℕ)) (out_old out_new : K) (request : Option Request) (status : ℕ) : Type 0 where
  pub periods : ℕ
  pub asked : request ≡ Some (Request.Make periods)
  pub written : IsMade put_faults taken out_old out_new periods status

-- an ending is said, the commands are answered, or a production plan is summarised
abbrev pub IsRun : {S K : Type 0} → (S → List ℕ → Option (List ℕ)) → (S → List ℕ → ℕ) → (K → ℕ) → (K → Option (List ℕ)) → S → S → K → K → Option Request → ℕ → Type 0
IsRun file fetch_faults put_faults taken shelf_old shelf_new out_old out_new request status =
    IsEnded file fetch_faults put_faults taken shelf_old shelf_new out_old out_new request status
    ⊎ (IsAnalysed (file shelf_old) put_faults taken out_old out_new request status ⊎ IsMaking put_faults taken out_old out_new request status)

-- ---- what a status tells
-- a fetch of one of the asked files failed in this run, or the file is too long where it is told
abbrev pub HasFetchStop : (List ℕ → Option (List ℕ)) → (List ℕ → ℕ) → (List ℕ → ℕ) → Option Request → Type 0
HasFetchStop file before now None = ⊥
HasFetchStop file before now (Some request) = (which : Which) × (HasFailed before now request which ⊎ IsTooLong file which (name_of request which))

-- the told model calls for its refusal, with its first fault
abbrev pub IsModelRefused : (List ℕ → Option (List ℕ)) → Option Request → Type 0
IsModelRefused file request = (stop : ReadStop) × AskedFor file request (ModelRefused stop)

-- the told files call for a refusal of the report, or of the script
pub record IsTextRefused (file : List ℕ → Option (List ℕ)) (request : Option Request) : Type 0 where
  pub ending : Ending
  pub refused : (ending ≡ CutReport) ⊎ (((n : ℕ) × (ending ≡ BadReport n)) ⊎ ((n : ℕ) × (ending ≡ BadScript n)))
  pub asked : AskedFor file request ending

-- All commands are answered rightly, by a report that stands in the grammar, and the whole text is written; some answer is a stop, a refusal or `not linear`, or none is.
pub record IsAnswered {K : Type 0} (put_faults : K → ℕ) (taken : K → Option (List ℕ)) (out_old out_new : K) (program : Program) (commands : List Command) (stopped : Bool) : Type 0 where
  pub entries : List Entry
  pub right : AreRight program commands entries
  pub form : IsReportFor program (report_of program entries)
  pub all : length entries ≡ length commands
  pub stops : list_any (λ e. is_unmet e.answer) entries ≡ stopped
  pub put : PutWhole put_faults taken out_old out_new (whole_text program entries)

-- the same of the program and the commands that the files are
pub record IsDone {K : Type 0} (file : List ℕ → Option (List ℕ)) (put_faults : K → ℕ) (taken : K → Option (List ℕ)) (out_old out_new : K) (model script : List ℕ) (stopped : Bool) : Type 0 where
  pub program : Program
  pub commands : List Command
  pub session : IsSession file model script program commands
  pub answered : IsAnswered put_faults taken out_old out_new program commands stopped

-- Under `verify` the check of told files accepts all the entries of the report, each of them settled. Under `analyse` all commands are answered, and no answer is a stop, a refusal or `not linear`. Under `make` the summary of the production plan is written.
abbrev pub IsAccepted : {K : Type 0} → (List ℕ → Option (List ℕ)) → (K → ℕ) → (K → Option (List ℕ)) → K → K → Option Request → Type 0
IsAccepted file put_faults taken out_old out_new None = ⊥
IsAccepted file put_faults taken out_old out_new (Some (Request.Verify model report)) = (settled : ℕ) × CallsFor model (file model) (file report) (Checked (Accepted settled 0))
IsAccepted file put_faults taken out_old out_new (Some (Request.Analyse model script)) = IsDone file put_faults taken out_old out_new model script false
IsAccepted file put_faults taken out_old out_new (Some (Request.Make n)) = IsSummarised put_faults taken out_old out_new n

-- Under `verify` the check of told files accepts the report, of which some entries are unsettled. Under `analyse` all commands are answered, and some answer is a stop, a refusal or `not linear`. Under `make` the lines of the stop are written.
abbrev pub IsUnsettled : {K : Type 0} → (List ℕ → Option (List ℕ)) → (K → ℕ) → (K → Option (List ℕ)) → K → K → Option Request → Type 0
IsUnsettled file put_faults taken out_old out_new None = ⊥
IsUnsettled file put_faults taken out_old out_new (Some (Request.Verify model report)) =
    (settled : ℕ) × ((unsettled : ℕ) × ((unsettled ≢ 0) × CallsFor model (file model) (file report) (Checked (Accepted settled unsettled))))
IsUnsettled file put_faults taken out_old out_new (Some (Request.Analyse model script)) = IsDone file put_faults taken out_old out_new model script true
IsUnsettled file put_faults taken out_old out_new (Some (Request.Make n)) = IsPlanStopped put_faults taken out_old out_new n

-- what the told report says of the told model is true: its notes, and what each entry claims
abbrev pub IsBorneOut : (List ℕ → Option (List ℕ)) → Option Request → Type 0
IsBorneOut file None = ⊥
IsBorneOut file (Some (Request.Verify model report)) =
    IfSome (file model) (λ m. IfSome (file report) (λ r.
    (program : Program) (entries : Entries) → Declares model m program → Reads program r entries → IsTrueReport program entries))
IsBorneOut file (Some (Request.Analyse model script)) = ⊤
IsBorneOut file (Some (Request.Make n)) = ⊤

-- What was written, where it is told, is read as a report on the program. As a report on the model of this name and these bytes it calls, within the limit of reports, for an ending of its check: all its entries are accepted, as many of them settled as are no stops, or an operation is too wide.
pub record IsWrittenReport {K : Type 0} (taken : K → Option (List ℕ)) (out_old out_new : K) (name model : List ℕ) (program : Program) : Type 0 where
  pub text : List ℕ
  pub written : taken out_new ≡ option_map (λ b. b ++ text) (taken out_old)
  pub report : Entries
  pub reads : Reads program text report
  pub outcome : Outcome
  pub again : IsAcceptedOrWide report.entries outcome
  pub calls : length text ≤ limit_of Report → CallsFor name (Some model) (Some text) (Checked outcome)

-- under `analyse` so it is, for the program that the told model declares
abbrev pub IsReadBack : {K : Type 0} → (List ℕ → Option (List ℕ)) → (K → Option (List ℕ)) → K → K → Option Request → Type 0
IsReadBack file taken out_old out_new None = ⊥
IsReadBack file taken out_old out_new (Some (Request.Verify model report)) = ⊤
IsReadBack file taken out_old out_new (Some (Request.Make n)) = ⊤
IsReadBack file taken out_old out_new (Some (Request.Analyse model script)) = IfSome (file model) (λ m. (program : Program) → Declares model m program → IsWrittenReport taken out_old out_new model m program)

-- the check of told files came out as a refusal, on a line of the report
pub record IsRefuted (file : List ℕ → Option (List ℕ)) (request : Option Request) : Type 0 where
  pub line : ℕ
  pub outcome : Outcome
  pub refused : (outcome ≡ Rejected line) ⊎ ((w : Operation) × (outcome ≡ Wide line w))
  pub asked : AskedFor file request (Checked outcome)

-- ---- where nothing fails
-- no fetch of the asked files and no put failed in this run
pub record IsCalm {S K : Type 0} (fetch_faults : S → List ℕ → ℕ) (put_faults : K → ℕ) (shelf_old shelf_new : S) (out_old out_new : K) (request : Request) : Type 0 where
  pub fetches : (which : Which) → ¬ (HasFailed (fetch_faults shelf_old) (fetch_faults shelf_new) request which)
  pub puts : ¬ (Rose (put_faults out_old) (put_faults out_new))

-- a file is told, and so
abbrev pub IsToldAs : {A : Type 0} → (A → Type 0) → Option A → Type 0
IsToldAs P None = ⊥
IsToldAs P (Some a) = P a

-- an analysis is asked for, and both files are told: they are this program and these commands
abbrev pub IsToldSession : (List ℕ → Option (List ℕ)) → Request → Program → List Command → Type 0
IsToldSession file (Request.Verify model report) program commands = ⊥
IsToldSession file (Request.Make n) program commands = ⊥
IsToldSession file (Request.Analyse model script) program commands = IsToldAs (λ m. IsModelOf model m program) (file model) × IsToldAs (λ s. IsCommands s commands) (file script)

-- Where nothing fails and the told files call for an ending, its line is written and its status given, or there is want of memory.
-- Where nothing fails and they are a model and a script that reads, all commands are answered, with status 0 or 1; or there is want of memory, with status 7.
-- Where nothing fails and a production plan is asked for, its summary is written, with status 0, or the lines of a stop, with status 1; or there is want of memory.
pub record SettlesFor {S K : Type 0} (file : S → List ℕ → Option (List ℕ)) (fetch_faults : S → List ℕ → ℕ) (put_faults : K → ℕ) (taken : K → Option (List ℕ)) (shelf_old shelf_new : S) (out_old out_new : K) (request : Request) (status : ℕ) : Type 0 where
  pub ends : (ending : Ending) → IsCalm fetch_faults put_faults shelf_old shelf_new out_old out_new request
      → AreTold (file shelf_old) request ending
      → Calls (file shelf_old) request ending
      → ((status ≡ status_of ending) × PutWhole put_faults taken out_old out_new (line_of ending)) ⊎ EndsInWant put_faults taken out_old out_new status
  pub answers : (program : Program) (commands : List Command) → IsCalm fetch_faults put_faults shelf_old shelf_new out_old out_new request
      → IsToldSession (file shelf_old) request program commands
      → ((stopped : Bool) × ((status ≡ cond stopped 1 0) × IsAnswered put_faults taken out_old out_new program commands stopped)) ⊎ (status ≡ 7)
  pub makes : (n : ℕ) → IsCalm fetch_faults put_faults shelf_old shelf_new out_old out_new request
      → request ≡ Request.Make n → IsPlanTold put_faults taken out_old out_new n status

-- where the words are one of the forms
abbrev pub Settles : {S K : Type 0} → (S → List ℕ → Option (List ℕ)) → (S → List ℕ → ℕ) → (K → ℕ) → (K → Option (List ℕ)) → S → S → K → K → Option Request → ℕ → Type 0
Settles file fetch_faults put_faults taken shelf_old shelf_new out_old out_new None status = ⊤
Settles file fetch_faults put_faults taken shelf_old shelf_new out_old out_new (Some request) status = SettlesFor file fetch_faults put_faults taken shelf_old shelf_new out_old out_new request status
