-- What is told of the objective over the active members.
use Rattle.std.specs.Prelude.{◌≡◌, ◌⊎◌, ℕ, ◌+◌, ◌*◌, ◌<◌, ◌≤◌, length, All, Option, Some, None, Result, Ok, Err}
use Rattle.lp_model.specs.Program.{Program}
use Rattle.lp_model.specs.Members.{active_members}
use Rattle.certs.specs.declared.solving.Stop.{Stop}
use Rattle.certs.specs.Answers.{IsAnsweredStop}
use Rattle.certs.specs.Order.{AreLeavesInOrder}
use Rattle.certs.specs.Plain.{rows_in}
use Rattle.certs.specs.Proof.{IsFittingNode, IsProof}
use Rattle.certs.specs.Sites.{Budgets}
use Rattle.presolve_laws.specs.Answers.{IsPresolvedReference}
use Rattle.unbounded.specs.declared.diagnosing.Diagnosis.{Diagnosis}
use Rattle.unbounded.specs.Diagnosed.{IsUnboundedBy, IsBoundedBy, IsOwnStop}
use Rattle.report_text.specs.declared.report.ToldStop.{ToldStop}
use Rattle.report_text.specs.declared.report.ToldStop.TheVariants.{Large}
use Rattle.report_text.specs.declared.report.Answer.{Answer}
use Rattle.report_text.specs.declared.report.Answer.TheVariants.{Infeasible, Unbounded, Bounded, Stopped}
use Rattle.analysis.specs.declared.sizing.TheConstants.{MOST_ENTRIES}
use Rattle.analysis.specs.Stops.{IsAtRun, IsRefutation, IsRightStop, IsWhole}

-- ---- the size
-- how many entries the dictionary of the active members' plain system has, with so many rows more: a row for each row with an active side
abbrev pub system_size : Program → ℕ → ℕ
system_size model more = (length (rows_in model (active_members model)) + more) * length model.columns

-- the most that a dictionary may have
abbrev pub most_entries : ℕ
most_entries = MOST_ENTRIES

-- the size, just where it passes the most; and else what is told
abbrev pub IsSized : ℕ → (Answer → Type 0) → Answer → Type 0
IsSized size IsTold answer = (most_entries < size → answer ≡ Stopped (Large size)) × (size ≤ most_entries → IsTold answer)

-- such an answer, where the size alone decides; and else the size does not pass the most
abbrev pub IsSizedFirst : ℕ → Option Answer → Type 0
IsSizedFirst size (Some answer) = IsSized size (λ a. ⊥) answer
IsSizedFirst size None = size ≤ most_entries

-- ---- answers
-- the improve run of the active members stops so within the pivots
abbrev pub IsImproveStop : Program → Budgets → ToldStop → Type 0
IsImproveStop model budgets stop = IsAtRun model (λ site s. IsOwnStop model (active_members model) budgets.pivots s) stop

-- A point of the active members, with a ray along which the objective runs away, or with a bound on it; a proof that there is no point; or a stop of the settle run or the tree of the active members, or of their improve run.
abbrev pub IsTold : Program → Budgets → Answer → Type 0
IsTold model budgets (Unbounded point ray) = IsUnboundedBy model (active_members model) point ray
IsTold model budgets (Bounded b) = IsBoundedBy model (active_members model) b.point b.objective b.dual
IsTold model budgets (Infeasible printed proof) = IsRefutation model printed proof
IsTold model budgets (Stopped stop) = IsRightStop (IsWhole model) model budgets stop ⊎ IsImproveStop model budgets stop
IsTold model budgets _ = ⊥

-- What is right to `unbounded`: the size with a row for the objective, just where it passes the most; and else what is told.
abbrev pub IsDiagnosed : Program → Budgets → Answer → Type 0
IsDiagnosed model budgets answer = IsSized (system_size model 1) (IsTold model budgets) answer

-- ---- what a diagnosis gives
-- What holds of the active members; a proof with its shares in order and numbers that fit; or a stop of the reference for the active members, or of the improve run.
abbrev pub IsFoundBy : Program → Budgets → Result Diagnosis Stop → Type 0
IsFoundBy model budgets (Ok (Diagnosis.Unbounded p ray)) = IsUnboundedBy model (active_members model) p ray
IsFoundBy model budgets (Ok (Diagnosis.Bounded p v dual)) = IsBoundedBy model (active_members model) p v dual
IsFoundBy model budgets (Ok (Diagnosis.Infeasible proof)) = IsProof model (active_members model) proof.nodes × (AreLeavesInOrder proof.nodes × All IsFittingNode proof.nodes)
IsFoundBy model budgets (Err stop) = IsAnsweredStop (IsPresolvedReference model budgets) (active_members model) stop ⊎ IsOwnStop model (active_members model) budgets.pivots stop
