-- The settings in code, the oracle that makes runs and trees, and answers from what filters and oracles tell.
use Rattle.std.specs.Prelude.{◌≡◌, ◌⊎◌, ⊤, List, [], ◌∷◌, ◌++◌, ℕ, Option, None, Some, filter, Result, Ok, Err}
use Rattle.lp_model.specs.declared.members.Member.{Member}
use Rattle.lp_model.specs.Program.{Program}
use Rattle.lp_model.specs.Members.{has, IsInOrder}
use Rattle.lp_model.specs.MemberSets.{SetValue, possible_in}
use Rattle.rational.specs.Rational.{ℚ}
use Rattle.certs.specs.declared.evidence.Point.{Point}
use Rattle.certs.specs.declared.evidence.Proof.{Proof}
use Rattle.certs.specs.declared.solving.Irreducible.{Irreducible}
use Rattle.certs.specs.declared.solving.Irreducible.TheVariants.{Set, Feasible as AtPoint}
use Rattle.certs.specs.declared.solving.Site.{Site}
use Rattle.certs.specs.declared.solving.Stop.{Stop}
use Rattle.certs.specs.declared.solving.Stop.TheVariants.{Wide, Pivots as Spent, Nodes, Large, Memory}
use Rattle.certs.specs.Checks.{IsSetOf}
use Rattle.certs.specs.Sites.{Budgets}
use Rattle.certs.specs.Tales.{no_tale, OracleState}
use Rattle.presolve_laws.specs.Answers.{IsPresolvedReference}
use Rattle.presolve_oracle.specs.Value.{PresolveValue, fresh_value, presolve_state}
use Rattle.branch_oracle.specs.Value.{BranchValue, state_with as with_trees}
use Rattle.report_text.specs.declared.report.ToldStop.{ToldStop}
use Rattle.report_text.specs.declared.report.Answer.{Answer}
use Rattle.report_text.specs.declared.report.Answer.TheVariants.{Feasible, Infeasible, Irreducible as Isolated, Stopped}
use Rattle.analysis.specs.declared.answering.Budgets.{Budgets as Code}
use Rattle.analysis.specs.declared.answering.Settings.{Settings as SettingsOfCode}
use Rattle.report_text.specs.History.{HistoryValue}
use Rattle.report_text.specs.declared.report.Command.{Command}
use Rattle.report_text.specs.Session.{session_at}
use Rattle.report_text.specs.Told.{told_site}
use Rattle.analysis.specs.Right.{IsRefutation, IsRightStop, IsStoppedBy, IsWithoutOne, RightAfter, Settings, settings_in_force}

-- as contracts have them
abbrev pub budgets_of : Code → Budgets
budgets_of b = record { pivots = b.pivots; nodes = b.nodes }

abbrev pub settings_of : SettingsOfCode → Settings
settings_of s = record { budgets = budgets_of s.budgets }

-- an oracle that presolves, and makes the runs and trees of a program within the budgets, and was asked nothing yet
abbrev pub fresh_oracle : Program → Budgets → BranchValue PresolveValue
fresh_oracle model budgets = record { inner = fresh_value model budgets.pivots; nodes = budgets.nodes; taken = 0; tale = no_tale }

-- what callers see of such an oracle
abbrev pub oracle_state : BranchValue PresolveValue → OracleState
oracle_state oracle = with_trees (presolve_state oracle.inner) oracle.nodes oracle.tale

-- a command is answered right, and done to the session's program where it edits it
pub record IsNext (old new : HistoryValue) (settings : Settings) (command : Command) (answer : Answer) : Type 0 where
  pub goes_on : (first : Program) (before : List Command) → old ≡ session_at first before → new ≡ session_at first (before ++ command ∷ [])
  pub right : (first : Program) (before : List Command) → old ≡ session_at first before → settings ≡ settings_in_force before → RightAfter first before command answer

-- the answer has the proof, with the members that it uses
abbrev pub IsRefutedBy : Program → Proof → Answer → Type 0
IsRefutedBy model proof answer = (printed : SetValue) × ((answer ≡ Infeasible printed proof) × IsRefutation model printed proof)

-- what a filter gives, with the rounds before it, as an answer
abbrev pub answer_of : Option ℕ → Irreducible → Answer
answer_of rounds (Set members witnesses proof) = Isolated (record { members = members; witnesses = witnesses.items; proof = proof; rounds = rounds; price = None })
answer_of rounds (AtPoint point) = Feasible point

-- members with their witnesses, a proof, and a total with its price
abbrev pub weighed_answer : SetValue → List Point → Proof → ℚ × Point → Answer
weighed_answer members witnesses proof priced = Isolated (record { members = members; witnesses = witnesses; proof = proof; rounds = None; price = Some priced })

-- a stop that a run or a tree of the program may have: there is no size
abbrev pub IsRunStop : Program → Stop → Type 0
IsRunStop model (Wide site k o) = IsSetOf model site.set
IsRunStop model (Spent site) = IsSetOf model site.set
IsRunStop model (Nodes site) = IsSetOf model site.set
IsRunStop model (Large size) = ⊥
IsRunStop model Memory = ⊤

-- the members of the site's set are possible ones
abbrev pub IsPossibleSite : Site → Type 0
IsPossibleSite site = site.set.members ≡ filter (has site.set.members) (possible_in site.set)

-- the oracle makes the runs and trees of the program within the budgets, whatever it was asked before
pub record IsOracleOf (program : Program) (allowed : Budgets) (oracle : BranchValue PresolveValue) : Type 0 where
  pub model : (oracle_state oracle).model ≡ program
  pub budgets : (oracle_state oracle).budgets ≡ allowed

-- want of memory; or the stop of the reference for the set without one of its members
abbrev pub IsWitnessStop : Program → Budgets → List Member → Stop → Type 0
IsWitnessStop model budgets set stop = (stop ≡ Memory) ⊎ ((asked : List Member) × (IsWithoutOne set asked × IsPresolvedReference model budgets asked (Err stop)))

-- the answer tells just that stop, at such a site
abbrev pub IsToldStop : Program → Stop → Answer → Type 0
IsToldStop model (Wide site k o) answer = (answer ≡ Stopped (ToldStop.Wide (told_site model site) k o)) × IsPossibleSite site
IsToldStop model (Spent site) answer = (answer ≡ Stopped (ToldStop.Pivots (told_site model site))) × IsPossibleSite site
IsToldStop model (Nodes site) answer = (answer ≡ Stopped (ToldStop.Nodes (told_site model site))) × IsPossibleSite site
IsToldStop model (Large size) answer = ⊥
IsToldStop model Memory answer = ⊥

-- the members of a set that a filter gives stand in order
abbrev pub IsFoundInOrder : Irreducible → Type 0
IsFoundInOrder (Set members witnesses proof) = IsInOrder members.members
IsFoundInOrder (AtPoint point) = ⊤

-- the answer is what a filter gives, with its members in order
abbrev pub IsAnswerOf : Program → Option ℕ → Result Irreducible Stop → Answer → Type 0
IsAnswerOf model rounds (Ok found) answer = (answer ≡ answer_of rounds found) × IsFoundInOrder found
IsAnswerOf model rounds (Err stop) answer = IsToldStop model stop answer

-- the answer is a stop of a set that passes the test
abbrev pub IsStopAnswer : (List Member → Type 0) → Program → Budgets → Answer → Type 0
IsStopAnswer IsTest model budgets answer = IsStoppedBy (IsRightStop IsTest model budgets) answer
