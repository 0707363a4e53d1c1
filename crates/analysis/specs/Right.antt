-- What it is for an answer to be right: of the program, within the budgets in force, to its command.
use Rattle.std.specs.Prelude.{◌≡◌, ◌≢◌, ◌⊎◌, ℕ, suc, ◌*◌, ◌≤◌, true, List, [], ◌∷◌, ◌++◌, length, fold, Option, Some, None, IfSome, All}
use Rattle.lp_model.specs.Program.{Program, IsWellFormed}
use Rattle.lp_model.specs.declared.members.Member.{Member}
use Rattle.lp_model.specs.Members.{active_members, IsInOrder}
use Rattle.rational.specs.Rational.{ℚ}
use Rattle.lp_model.specs.MemberSets.{SetValue}
use Rattle.lp_model.specs.Satisfaction.{IsPart, IsIrreducible, IsUnsatisfiable}
use Rattle.certs.specs.declared.evidence.Combo.{Combo}
use Rattle.certs.specs.declared.evidence.Node.TheVariants.{Leaf}
use Rattle.certs.specs.declared.evidence.Point.{Point}
use Rattle.certs.specs.declared.evidence.Proof.{Proof}
use Rattle.certs.specs.Answers.{IsCoreBy}
use Rattle.certs.specs.Checks.{IsSetOf}
use Rattle.certs.specs.Order.{AreLeavesInOrder}
use Rattle.certs.specs.Tales.{IsPointOf, IsStretchStop}
use Rattle.certs.specs.Filter.{Enforces, Late, Early, IsLateTest, IsEarlyTest, Rounds}
use Rattle.certs.specs.declared.solving.Stop.{Stop}
use Rattle.certs.specs.Proof.{IsProof, IsFittingNode}
use Rattle.certs.specs.Sites.{Budgets}
use Rattle.certs.specs.System.{VariableShare}
use Rattle.certs.specs.Trees.{TreeEnd, HasTree, IsTree, has_mark}
use Rattle.filter_steps.specs.Isolated.{AreWitnesses}
use Rattle.presolve_laws.specs.Answers.{IsLeafOf, IsPresolvedReference, set_system}
use Rattle.presolve_laws.specs.Eased.{DecidesBy}
use Rattle.branch_proof.specs.Boxes.{Box, IsBoxOf, volume}
use Rattle.report_text.specs.declared.report.Method.{Method}
use Rattle.report_text.specs.declared.report.Method.TheVariants.{Deletion, Additive, Sensitivity, Elastic, Alternative}
use Rattle.report_text.specs.declared.report.Core.{Core}
use Rattle.report_text.specs.declared.report.Command.{Command}
use Rattle.report_text.specs.declared.report.Command.TheVariants.{Check, Iis, Unbounded, Relax, Reduce, Pivots, Nodes as MostNodes}
use Rattle.report_text.specs.declared.report.ToldSite.{ToldSite}
use Rattle.report_text.specs.declared.report.ToldStop.{ToldStop}
use Rattle.report_text.specs.declared.report.ToldStop.TheVariants.{Nodes}
use Rattle.report_text.specs.declared.report.Answer.{Answer}
use Rattle.report_text.specs.declared.report.Answer.TheVariants.{Feasible, Infeasible, Irreducible, Reduced, Done, Stopped}
use Rattle.report_text.specs.declared.report.Entry.{Entry}
use Rattle.report_text.specs.Turns.{after, answer_after, entry_commands, AllEntries}
use Rattle.report_printer.specs.Numbers.{HasNumbersWithin}
use Rattle.analysis.specs.Reduced.{IsReducedTo}
use Rattle.analysis.specs.Least.{IsRelaxation}
use Rattle.analysis.specs.Linear.{IsLinearly, alternative_size, elastic_size}
use Rattle.alt_polyhedron.specs.Pricing.{IsCheapestSet, IsPricingStop}
use Rattle.analysis.specs.Objectives.{IsDiagnosed, IsSized, system_size}
pub use Rattle.analysis.specs.Stops.{IsAtRun, IsPrintedSite, IsRefutation, IsRunAt, IsSettleStop, IsSiteOf, IsRightStop, IsStoppedBy, IsWhole}

-- ---- answers
-- where some active member is a mark, the tree of the active members ends so
abbrev pub TreeFinds : Program → Budgets → Point → Type 0
TreeFinds model budgets point = has_mark (active_members model) ≡ true → HasTree model (active_members model) budgets.pivots budgets.nodes (TreeEnd.Found point.values)

-- and its nodes are those of the proof
abbrev pub TreeCloses : Program → Budgets → Proof → Type 0
TreeCloses model budgets proof = has_mark (active_members model) ≡ true → IsTree model (active_members model) budgets.pivots budgets.nodes proof.nodes TreeEnd.Closed

-- What is right to `check` of a dictionary that is not too large. Where some active member is a mark, the answer is that of the tree, so that a stop comes just where the tree stops.
abbrev pub IsSolved : Program → Budgets → Answer → Type 0
IsSolved model budgets (Feasible point) = IsPointOf model (active_members model) point × TreeFinds model budgets point
IsSolved model budgets (Infeasible printed proof) = IsRefutation model printed proof × TreeCloses model budgets proof
IsSolved model budgets (Stopped stop) = IsRightStop (IsWhole model) model budgets stop
IsSolved model budgets _ = ⊥

-- What is right to `check`: the size, just where it passes the most; and else what is solved.
abbrev pub IsChecked : Program → Budgets → Answer → Type 0
IsChecked model budgets answer = IsSized (system_size model 0) (IsSolved model budgets) answer

-- Where the active columns with marks stand in a box, what is right to `check` is no stop for want of nodes with twice its points to take.
abbrev pub BoxLaw : Type 0
BoxLaw = (model : Program) (budgets : Budgets) (answer : Answer) (box : Box) → IsWellFormed model → IsChecked model budgets answer → IsBoxOf model (active_members model) box
    → 2 * volume model (active_members model) box ≤ budgets.nodes → (site : ToldSite) → answer ≢ Stopped (Nodes site)

-- ---- irreducible sets
-- Active members in order that are irreducible: the proof is one of them, with the shares of each leaf in order and numbers of splits that fit, and for each of them its own witness satisfies all the others. A price that is told has a value for each column.
pub record IsRightCore (model : Program) (core : Core) : Type 0 where
  pub of_model : IsSetOf model core.members
  pub active : IsPart core.members.members (active_members model)
  pub in_order : IsInOrder core.members.members
  pub proves : IsProof model core.members.members core.proof.nodes
  pub ordered : AreLeavesInOrder core.proof.nodes
  pub fits : All IsFittingNode core.proof.nodes
  pub witnesses : AreWitnesses model core.members.members core.witnesses
  pub irreducible : IsIrreducible model core.members.members
  pub price : IfSome core.price (λ p. length p.1.values ≡ length model.columns)

-- what is right to a search that leaves such members, and asks for such sets
abbrev pub IsIsolated : (Core → Type 0) → (List Member → Type 0) → Program → Budgets → Answer → Type 0
IsIsolated IsKept IsTest model budgets (Feasible point) = IsPointOf model (active_members model) point
IsIsolated IsKept IsTest model budgets (Irreducible core) = IsRightCore model core × IsKept core
IsIsolated IsKept IsTest model budgets (Stopped stop) = IsRightStop IsTest model budgets stop
IsIsolated IsKept IsTest model budgets _ = ⊥

-- such members, and neither rounds nor a price
abbrev pub IsBare : (List Member → Type 0) → Core → Type 0
IsBare IsKept core = (core.rounds ≡ None) × ((core.price ≡ None) × IsKept core.members.members)

-- The core of the active members within the budgets: those that their proof uses, which comes back from the reduction of their plain system where that is eased, and else is by its own run; or is by their tree where some of them is a mark.
abbrev pub IsCore : Program → Budgets → List Member → Type 0
IsCore model budgets core = IsCoreBy (IsPresolvedReference model budgets) (active_members model) core

-- what a late filter leaves of the core
abbrev pub IsLateOfCore : Program → Budgets → List Member → Type 0
IsLateOfCore model budgets kept = (core : List Member) × (IsCore model budgets core × Late model core kept)

-- all active members, or a set that a late filter of the core may ask for
abbrev pub IsCoreTest : Program → Budgets → List Member → Type 0
IsCoreTest model budgets set = IsWhole model set ⊎ ((core : List Member) × (IsCore model budgets core × IsLateTest model core set))

-- The members are what a late filter leaves of the last set of a chain of so many enforced ones, and no unsatisfiable part of the active members has fewer members than there were rounds before the last.
pub record IsLateOfRounds (model : Program) (core : Core) : Type 0 where
  pub count : ℕ
  pub told : core.rounds ≡ Some count
  pub price : core.price ≡ None
  pub enforced : List Member
  pub rounds : Rounds model (active_members model) count enforced
  pub late : Late model enforced core.members.members
  pub few : (part : List Member) → IsPart part (active_members model) → IsUnsatisfiable model part → count ≤ suc (length part)

-- a set that a late filter of the last enforced set may ask for
abbrev pub IsRoundsTest : Program → List Member → Type 0
IsRoundsTest model set = (count : ℕ) × ((enforced : List Member) × (Rounds model (active_members model) count enforced × IsLateTest model enforced set))

-- the elastic system of the active members with an enforced part that a chain reaches is stopped so
abbrev pub IsChainStop : Program → Budgets → Stop → Type 0
IsChainStop model budgets stop = (count : ℕ) × ((enforced : List Member) × (Enforces model (active_members model) count enforced × IsStretchStop model budgets (active_members model) enforced stop))

-- and its site can be told
abbrev pub IsRoundStop : Program → Budgets → ToldStop → Type 0
IsRoundStop model budgets stop = IsAtRun model (λ site s. IsChainStop model budgets s) stop

-- what is right to a search that leaves such members, or a stop of a round before it
abbrev pub IsEnforcedTold : Program → Budgets → Answer → Type 0
IsEnforcedTold model budgets answer = IsIsolated (IsLateOfRounds model) (IsRoundsTest model) model budgets answer ⊎ IsStoppedBy (IsRoundStop model budgets) answer

-- The members are the support of a cheapest weighting of the active members, of which the proof is the one leaf; its cost is the total that is told with a price for it.
pub record IsCheapestCore (model : Program) (core : Core) : Type 0 where
  pub combo : Combo
  pub total : ℚ
  pub price : Point
  pub rounds : core.rounds ≡ None
  pub leaf : core.proof.nodes ≡ Leaf combo ∷ []
  pub told : core.price ≡ Some (total, price)
  pub cheapest : IsCheapestSet model (active_members model) core.members combo total price

-- the members of the set but one
pub record IsWithoutOne (set others : List Member) : Type 0 where
  pub front : List Member
  pub member : Member
  pub back : List Member
  pub set_is : set ≡ front ++ member ∷ back
  pub others_are : others ≡ front ++ back

-- all active members, or such members without one of them
abbrev pub IsSupportTest : Program → List Member → Type 0
IsSupportTest model set = IsWhole model set ⊎ ((core : Core) × (IsCheapestCore model core × IsWithoutOne core.members.members set))

-- the run of the active members' system of the alternative stops so within the pivots
abbrev pub IsWeighingStop : Program → Budgets → ToldStop → Type 0
IsWeighingStop model budgets stop = IsAtRun model (λ site s. IsPricingStop model (active_members model) budgets.pivots s) stop

-- what is right to a search for a cheapest weighting, or a stop of its run before it
abbrev pub IsWeighedTold : Program → Budgets → Answer → Type 0
IsWeighedTold model budgets answer = IsIsolated (IsCheapestCore model) (IsSupportTest model) model budgets answer ⊎ IsStoppedBy (IsWeighingStop model budgets) answer

-- what is right to a search by each of the three filters
abbrev pub IsLateFound : Program → Budgets → Answer → Type 0
IsLateFound model budgets answer = IsIsolated (IsBare (Late model (active_members model))) (IsLateTest model (active_members model)) model budgets answer

abbrev pub IsEarlyFound : Program → Budgets → Answer → Type 0
IsEarlyFound model budgets answer = IsIsolated (IsBare (Early model (active_members model))) (IsEarlyTest model (active_members model)) model budgets answer

abbrev pub IsCoreFound : Program → Budgets → Answer → Type 0
IsCoreFound model budgets answer = IsIsolated (IsBare (IsLateOfCore model budgets)) (IsCoreTest model budgets) model budgets answer

-- what is right to a search by each method: the size, just where it passes the most; and else what is found
abbrev pub IsFound : Method → Program → Budgets → Answer → Type 0
IsFound Deletion model budgets answer = IsSized (system_size model 0) (IsLateFound model budgets) answer
IsFound Additive model budgets answer = IsSized (system_size model 0) (IsEarlyFound model budgets) answer
IsFound Elastic model budgets answer = IsLinearly model (elastic_size model (active_members model) []) (IsEnforcedTold model budgets) answer
IsFound Alternative model budgets answer = IsLinearly model (alternative_size model (active_members model)) (IsWeighedTold model budgets) answer
IsFound Sensitivity model budgets answer = IsSized (system_size model 0) (IsCoreFound model budgets) answer

-- ---- reductions
-- The printed members are those that a leaf uses whose shares come back from what decides the reduction of the active members' plain system.
abbrev pub IsDecided : Program → SetValue → Proof → Type 0
IsDecided model printed proof = IsRefutation model printed proof × ((of : List VariableShare) × (DecidesBy (set_system model (active_members model)) of × IsLeafOf model (active_members model) proof of))

-- what is right to `reduce`
abbrev pub IsReduction : Program → Answer → Type 0
IsReduction model (Reduced r) = IsReducedTo model r.steps r.rows r.columns
IsReduction model (Infeasible printed proof) = IsDecided model printed proof
IsReduction model _ = ⊥

-- ---- settings
-- what is in force: what each solve may spend
pub record Settings : Type 0 where
  pub budgets : Budgets

-- at first
abbrev pub first_settings : Settings
first_settings = record { budgets = record { pivots = 100000; nodes = 10000 } }

-- and after a command
abbrev pub settings_after : Settings → Command → Settings
settings_after settings (Pivots n) = record { budgets = record settings.budgets { pivots = n } }
settings_after settings (MostNodes n) = record { budgets = record settings.budgets { nodes = n } }
settings_after settings _ = settings

-- behind commands
abbrev pub settings_in_force : List Command → Settings
settings_in_force before = fold settings_after first_settings before

-- ---- commands
-- An answer is right only to a command that may have it; a budget is always done, and no edit is asked here.
abbrev pub Right : Program → Settings → Command → Answer → Type 0
Right model settings Check answer = IsChecked model settings.budgets answer
Right model settings (Iis method) answer = IsFound method model settings.budgets answer
Right model settings Unbounded answer = IsDiagnosed model settings.budgets answer
Right model settings Relax answer = IsRelaxation model settings.budgets answer
Right model settings Reduce answer = IsReduction model answer
Right model settings (Pivots n) answer = answer ≡ Done
Right model settings (MostNodes n) answer = answer ≡ Done
Right model settings _ answer = ⊥

-- ---- entries
-- the answer that comes by replay, where one does; and else what is right of the program under the settings
abbrev pub RightBy : Option Answer → Program → Settings → Command → Answer → Type 0
RightBy (Some right) model settings command answer = answer ≡ right
RightBy None model settings command answer = Right model settings command answer

-- What is right to a command after others: to an edit or an undo the answer that it has then, and to another one what is right of the program as then edited, under the settings then in force.
abbrev pub RightAfter : Program → List Command → Command → Answer → Type 0
RightAfter first before command answer = RightBy (answer_after first before command) (after first before) (settings_in_force before) command answer

-- an answer is right, and its numbers are fractions within the limit and counts of 64 bits
pub record IsGiven (first : Program) (before : List Command) (command : Command) (answer : Answer) : Type 0 where
  pub right : RightAfter first before command answer
  pub numbers : HasNumbersWithin answer

-- such is the entry's answer after the commands before it
abbrev pub IsRightAfter : Program → List Command → Entry → Type 0
IsRightAfter first before e = IsGiven first before e.command e.answer

-- The entries answer the first commands, and each of them is right; the rest of the commands may be without answers.
pub record AreRight (model : Program) (commands : List Command) (entries : List Entry) : Type 0 where
  pub rest : List Command
  pub first : commands ≡ entry_commands entries ++ rest
  pub each : AllEntries (IsRightAfter model) [] entries
