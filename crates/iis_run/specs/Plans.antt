-- What is written of a production plan: its size, and how many members of it contradict one another.
use Rattle.std.specs.Prelude.{◌≡◌, ◌⊎◌, ℕ, ◌++◌, List, [], ◌∷◌, length, codes, decimal, Option}
use Rattle.report_text.specs.declared.report.Core.{Core}
use Rattle.report_text.specs.declared.report.Command.TheVariants.{Iis}
use Rattle.report_text.specs.declared.report.Method.TheVariants.{Sensitivity}
use Rattle.report_text.specs.declared.report.Answer.{Answer}
use Rattle.report_text.specs.declared.report.Answer.TheVariants.{Irreducible, Stopped}
use Rattle.report_text.specs.Grammar.{answer_phrases, phrases_text, text_of}
use Rattle.report_text.specs.declared.report.ToldStop.{ToldStop}
use Rattle.analysis.specs.Puts.{PutWhole, PutFailed}
use Rattle.analysis.specs.Right.{Right, first_settings}
use Rattle.model_maker.specs.PlanProgram.{plan_program}
use Rattle.iis_run.specs.Said.{EndsInWant}

-- ---- the text
-- a word and a number
abbrev pub count_line : List ℕ → ℕ → List ℕ
count_line word n = word ++ 32 ∷ decimal n

-- the periods, the rows and the columns of the plan, and the members of an irreducible set of it
abbrev pub summary_text : ℕ → Core → List ℕ
summary_text n core =
    text_of (count_line (codes "plan") n ∷ count_line (codes "rows") (length (plan_program n).rows)
    ∷ count_line (codes "columns") (length (plan_program n).columns) ∷ count_line (codes "members") (length core.members.members) ∷ [])

-- the lines of an answer about the plan, as a report has them behind the command
abbrev pub answer_text : ℕ → Answer → List ℕ
answer_text n answer = phrases_text (plan_program n) (answer_phrases (plan_program n) answer)

-- the summary of an irreducible set, and the lines of any other answer
abbrev pub told_text : ℕ → Answer → List ℕ
told_text n (Irreducible core) = summary_text n core
told_text n answer = answer_text n answer

-- 1 after a stop, and 0 after any other
abbrev pub told_status : Answer → ℕ
told_status (Stopped stop) = 1
told_status answer = 0

-- ---- what is right
-- right to the sensitivity filter of the plan, under the settings at first
abbrev pub IsPlanAnswer : ℕ → Answer → Type 0
IsPlanAnswer n answer = Right (plan_program n) first_settings (Iis Sensitivity) answer

-- an irreducible set is right, and its summary is written
pub record IsSummarised {K : Type 0} (put_faults : K → ℕ) (taken : K → Option (List ℕ)) (out_old out_new : K) (n : ℕ) : Type 0 where
  pub core : Core
  pub right : IsPlanAnswer n (Irreducible core)
  pub put : PutWhole put_faults taken out_old out_new (summary_text n core)

-- a stop is right, and its lines are written
pub record IsPlanStopped {K : Type 0} (put_faults : K → ℕ) (taken : K → Option (List ℕ)) (out_old out_new : K) (n : ℕ) : Type 0 where
  pub stop : ToldStop
  pub right : IsPlanAnswer n (Stopped stop)
  pub put : PutWhole put_faults taken out_old out_new (answer_text n (Stopped stop))

-- what is right is an irreducible set or a stop
pub record IsPlanFound (n : ℕ) (answer : Answer) : Type 0 where
  pub right : IsPlanAnswer n answer
  pub is : ((core : Core) × (answer ≡ Irreducible core)) ⊎ ((stop : ToldStop) × (answer ≡ Stopped stop))

-- such an answer is found, and a front of what is to be written of it is
pub record IsPlanCut {K : Type 0} (put_faults : K → ℕ) (taken : K → Option (List ℕ)) (out_old out_new : K) (n : ℕ) : Type 0 where
  pub answer : Answer
  pub found : IsPlanFound n answer
  pub put : PutFailed put_faults taken out_old out_new (told_text n answer)

-- ---- by status
-- 0 with a summary, 1 with the lines of a stop, or 7 for want of memory with nothing
abbrev pub IsPlanTold : {K : Type 0} → (K → ℕ) → (K → Option (List ℕ)) → K → K → ℕ → ℕ → Type 0
IsPlanTold put_faults taken out_old out_new n status =
    ((status ≡ 0) × IsSummarised put_faults taken out_old out_new n)
    ⊎ (((status ≡ 1) × IsPlanStopped put_faults taken out_old out_new n) ⊎ EndsInWant put_faults taken out_old out_new status)

-- or 4 where the put failed
abbrev pub IsMade : {K : Type 0} → (K → ℕ) → (K → Option (List ℕ)) → K → K → ℕ → ℕ → Type 0
IsMade put_faults taken out_old out_new n status =
    ((status ≡ 4) × IsPlanCut put_faults taken out_old out_new n) ⊎ IsPlanTold put_faults taken out_old out_new n status
