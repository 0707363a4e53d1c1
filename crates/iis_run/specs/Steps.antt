-- What the steps of a run come to.
use Rattle.std.specs.Prelude.{◌≡◌, ◌<◌, ◌≤◌, ⊤, ℕ, List, length, Option, Some, IfSome, All}
use Rattle.iis_edge.specs.Causes.{Rose, KeepsCounts}
use Rattle.lp_model.specs.Program.{Program}
use Rattle.model_maker.specs.PlanText.{IsPlanSize}
use Rattle.report_text.specs.declared.report.Answer.{Answer}
use Rattle.report_text.specs.Form.{IsCommand}
use Rattle.analysis.specs.NamesAreWords.{HasWords}
use Rattle.analysis.specs.Written.{IsAnalysis}
use Rattle.text_fields.specs.declared.faults.ReadFault.{ReadFault as ModelFault}
use Rattle.text_fields.specs.declared.faults.ReadFault.TheVariants.{Stop, Memory as NoMemory}
use Rattle.iis_run.specs.Words.{Request}
use Rattle.iis_run.specs.Limits.{limit_of}
use Rattle.iis_run.specs.Causes.{IsNoModel, IsDecided, IsReportEnding}
use Rattle.iis_run.specs.Scripts.{IsCommands, IsBadScript}
use Rattle.iis_run.specs.Said.{Ends}
use Rattle.iis_run.specs.Plans.{told_text, told_status, IsPlanFound, IsMade}
use Rattle.iis_run.specs.Run.{IsCaused, IsAskedSession}
use Rattle.iis_run.specs.declared.endings.Which.TheVariants.{Model, Report, Script}
use Rattle.iis_run.specs.declared.endings.Ending.{Ending}
use Rattle.iis_run.specs.declared.endings.Ending.TheVariants.{ReadFault, TooLong, Memory, ModelRefused, BadReport, CutReport, BadScript, Checked}
use Rattle.iis_run.specs.declared.words.Verb.{Verb}
use Rattle.iis_run.specs.declared.words.Verb.TheVariants.{Verify, Analyse}
use Rattle.iis_run.specs.declared.plans.Plan.{Plan}
use Rattle.iis_run.specs.declared.plans.Plan.TheVariants.{Say, Answer as Answers, Make}

-- why there is no model: the count of faults of its name has risen; or the file calls for it, where it is told; or there is want of memory
abbrev pub IsModelStop : List ℕ → Option (List ℕ) → ℕ → ℕ → Ending → Type 0
IsModelStop name file before now (ReadFault Model) = Rose before now
IsModelStop name file before now (TooLong Model) = IfSome file (λ m. limit_of Model < length m)
IsModelStop name file before now (ModelRefused stop) = IfSome file (λ m. IsNoModel name m stop)
IsModelStop name file before now Memory = ⊤
IsModelStop name file before now _ = ⊥

-- where no fetch stopped and memory was there, no count of faults has changed
abbrev pub IsQuietEnd : (List ℕ → ℕ) → (List ℕ → ℕ) → Ending → Type 0
IsQuietEnd before now (ReadFault which) = ⊤
IsQuietEnd before now (TooLong which) = ⊤
IsQuietEnd before now Memory = ⊤
IsQuietEnd before now _ = KeepsCounts before now

-- within the limit, and they come to this ending for the program
pub record IsReportOf (program : Program) (bytes : List ℕ) (ending : Ending) : Type 0 where
  pub short : length bytes ≤ limit_of Report
  pub comes : IsReportEnding program bytes ending

-- what a report comes to for a program
abbrev pub IsCheckEnd : Program → Option (List ℕ) → ℕ → ℕ → Ending → Type 0
IsCheckEnd program file before now (ReadFault Report) = Rose before now
IsCheckEnd program file before now (TooLong Report) = IfSome file (λ r. limit_of Report < length r)
IsCheckEnd program file before now Memory = ⊤
IsCheckEnd program file before now (BadReport n) = IfSome file (λ r. IsReportOf program r (BadReport n))
IsCheckEnd program file before now CutReport = IfSome file (λ r. IsReportOf program r CutReport)
IsCheckEnd program file before now (Checked outcome) = IsDecided outcome × IfSome file (λ r. IsReportOf program r (Checked outcome))
IsCheckEnd program file before now _ = ⊥

-- why there is no script
abbrev pub IsScriptEnd : Option (List ℕ) → ℕ → ℕ → Ending → Type 0
IsScriptEnd file before now (ReadFault Script) = Rose before now
IsScriptEnd file before now (TooLong Script) = IfSome file (λ s. limit_of Script < length s)
IsScriptEnd file before now Memory = ⊤
IsScriptEnd file before now (BadScript n) = IfSome file (λ s. IsBadScript s n)
IsScriptEnd file before now _ = ⊥

-- what a script comes to for a program that was read
abbrev pub IsScriptPlan : Program → Option (List ℕ) → ℕ → ℕ → Plan → Type 0
IsScriptPlan program file before now (Say ending) = IsScriptEnd file before now ending
IsScriptPlan program file before now (Answers p commands) = (p ≡ program) × IfSome file (λ s. IsCommands s commands)
IsScriptPlan program file before now (Make n) = ⊥

-- what a report comes to: an ending
abbrev pub IsReportPlan : Program → Option (List ℕ) → ℕ → ℕ → Plan → Type 0
IsReportPlan program file before now (Say ending) = IsCheckEnd program file before now ending
IsReportPlan program file before now (Answers p commands) = ⊥
IsReportPlan program file before now (Make n) = ⊥

-- what the second file comes to, by the verb
abbrev pub IsSecondPlan : Verb → Program → Option (List ℕ) → ℕ → ℕ → Plan → Type 0
IsSecondPlan Verify program file before now plan = IsReportPlan program file before now plan
IsSecondPlan Analyse program file before now plan = IsScriptPlan program file before now plan

-- a plan has its cause: the ending that is to be said, the program and the commands that the files are, or the production plan that is asked for
abbrev pub IsPlanned : (List ℕ → Option (List ℕ)) → (List ℕ → ℕ) → (List ℕ → ℕ) → Option Request → Plan → Type 0
IsPlanned file before now request (Say ending) = IsCaused file before now request ending
IsPlanned file before now request (Answers program commands) = IsAskedSession file request program commands
IsPlanned file before now request (Make n) = request ≡ Some (Request.Make n)

-- the same of a plan
abbrev pub IsQuietPlan : (List ℕ → ℕ) → (List ℕ → ℕ) → Plan → Type 0
IsQuietPlan before now (Say ending) = IsQuietEnd before now ending
IsQuietPlan before now (Answers program commands) = KeepsCounts before now
IsQuietPlan before now (Make n) = KeepsCounts before now

-- what is to be answered can be, and printed: the names are words, and a script may have each command; and a production plan may have so many periods
abbrev pub IsReady : Plan → Type 0
IsReady (Say ending) = ⊤
IsReady (Answers program commands) = HasWords program × All IsCommand commands
IsReady (Make n) = IsPlanSize n

-- what a plan writes, and its status
abbrev pub Follows : {K : Type 0} → (K → ℕ) → (K → Option (List ℕ)) → K → K → Plan → ℕ → Type 0
Follows faults taken old new (Say ending) status = Ends faults taken old new ending status
Follows faults taken old new (Answers program commands) status = IsAnalysis faults taken old new program commands status
Follows faults taken old new (Make n) status = IsMade faults taken old new n status

-- what is to be written of a production plan, and the status that it gives
pub record IsTold (n : ℕ) (text : List ℕ) (status : ℕ) : Type 0 where
  pub answer : Answer
  pub found : IsPlanFound n answer
  pub text_is : text ≡ told_text n answer
  pub status_is : status ≡ told_status answer

-- a model that was not read
abbrev pub model_ending : ModelFault → Ending
model_ending (Stop stop) = ModelRefused stop
model_ending NoMemory = Memory
