-- Which reports stand in the grammar: what is asked of their names, numbers and order.
use Rattle.std.specs.Prelude.{◌≡◌, ◌≢◌, ℕ, ◌+◌, ◌^◌, ◌<◌, ◌≤◌, nat_lt, Bool, true, false, ◌&&◌, ◌||◌, List, [], ◌∷◌, ◌++◌, length, Option, None, Some, All, IsTrue}
use Rattle.std.specs.List.{list_all}
use Rattle.report_text.specs.Names.{is_shown}
use Rattle.rational.specs.Rational.{ℚ, zero_ℚ, ◌<ℚ◌}
use Rattle.frac128.specs.Limit.{limit}
use Rattle.frac128.specs.Width.{is_too_wide}
use Rattle.lp_model.specs.declared.parts.Weight.{Weight}
use Rattle.lp_model.specs.declared.parts.Weight.TheVariants.{Soft, Rigid}
use Rattle.lp_model.specs.Program.{Program, row_at, noted_column}
use Rattle.text_fields.specs.Numbers.{is_far}
use Rattle.lp_model.specs.declared.members.Member.{Member}
use Rattle.lp_model.specs.Members.{exists, is_active, IsInOrder}
use Rattle.lp_model.specs.MemberSets.{SetValue, IsMemberFor}
use Rattle.lp_model.specs.Satisfaction.{values_at}
use Rattle.certs.specs.declared.evidence.Branch.{Branch}
use Rattle.certs.specs.declared.evidence.Source.{Source}
use Rattle.certs.specs.declared.evidence.Source.TheVariants.{Member as Of, Below, Above}
use Rattle.certs.specs.declared.evidence.Share.{Share}
use Rattle.certs.specs.declared.evidence.Point.{Point}
use Rattle.certs.specs.declared.evidence.Node.{Node}
use Rattle.certs.specs.declared.evidence.Node.TheVariants.{Split, Leaf}
use Rattle.certs.specs.declared.evidence.Proof.{Proof}
use Rattle.certs.specs.declared.evidence.Ray.{Ray}
use Rattle.certs.specs.declared.evidence.Dual.{Dual}
use Rattle.certs.specs.Checks.{IsSetOf}
use Rattle.certs.specs.Combination.{IsFitting}
use Rattle.certs.specs.Proof.{Tree, preorder, IsFittingNode}
use Rattle.certs.specs.Order.{AreSharesInOrder}
use Rattle.frac128.specs.declared.Wide.{Wide as Operation}
use Rattle.reductions.specs.declared.steps.ReduceStep.{ReduceStep}
use Rattle.reductions.specs.declared.steps.ReduceStep.TheVariants.{Empty, Singleton, Fixed, Redundant, Forcing, Doubleton}
use Rattle.report_text.specs.declared.report.Command.{Command}
use Rattle.report_text.specs.declared.report.Command.TheVariants.{Check, Iis, Unbounded, Relax as RelaxIt, Reduce, Edit, Undo, Pivots, Nodes}
use Rattle.report_text.specs.declared.report.Asks.{Asks}
use Rattle.report_text.specs.declared.report.Method.{Method}
use Rattle.report_text.specs.declared.report.Method.TheVariants.{Elastic, Alternative}
use Rattle.report_text.specs.declared.report.TargetKind.{TargetKind}
use Rattle.report_text.specs.declared.report.EditKind.{EditKind}
use Rattle.report_text.specs.declared.report.NamedEdit.{NamedEdit}
use Rattle.report_text.specs.declared.report.Refusal.{Refusal}
use Rattle.report_text.specs.declared.report.Core.{Core}
use Rattle.report_text.specs.declared.report.Bounded.{Bounded}
use Rattle.report_text.specs.declared.report.Reduced.{Reduced}
use Rattle.report_text.specs.declared.report.ToldSite.{ToldSite}
use Rattle.report_text.specs.declared.report.ToldStop.{ToldStop}
use Rattle.report_text.specs.declared.report.ToldStop.TheVariants.{Wide as TooWide, Pivots as Spent, Nodes as NodesSpent, Large}
use Rattle.report_text.specs.declared.report.Answer.{Answer}
use Rattle.report_text.specs.declared.report.Answer.TheVariants.{Feasible, Infeasible, Irreducible, Unbounded as RunsAway, Bounded as BoundedBy, Least as LeastBy, RigidInfeasible as RigidRefuted, Reduced as ReducedTo, Done, Refused, NotLinear, Stopped}
use Rattle.report_text.specs.declared.report.Entry.{Entry}
use Rattle.report_text.specs.declared.report.Report.{Report}
use Rattle.report_text.specs.Turns.{after, AllEntries}
use Rattle.report_text.specs.Grammar.{column_name, name_of, entry_phrases}

-- ---- names
-- a word: at least one byte, and each one that may stand in a name
abbrev pub is_word : List ℕ → Bool
is_word name = nat_lt 0 (length name) && list_all is_shown name

-- a column that there is, whose name is a word
pub record IsNamedColumn (model : Program) (j : ℕ) : Type 0 where
  pub known : j < length model.columns
  pub word : is_word (column_name model j) ≡ true

-- a row that there is, whose name is a word
pub record IsNamedRow (model : Program) (i : ℕ) : Type 0 where
  pub known : i < length model.rows
  pub word : is_word (row_at model i).name ≡ true

-- a row or column that there is, whose name is a word; the member itself need not exist
pub record IsNamedMember (model : Program) (m : Member) : Type 0 where
  pub known : IsMemberFor (length model.rows) (length model.columns) m
  pub word : is_word (name_of model m) ≡ true

-- a set of such members, in member order, none twice
pub record IsListed (model : Program) (set : SetValue) : Type 0 where
  pub of_model : IsSetOf model set
  pub named : All (IsNamedMember model) set.members
  pub in_order : IsInOrder set.members

-- ---- points
-- a number whose parts are within the limit
abbrev pub IsWithinLimit : ℚ → Type 0
IsWithinLimit q = is_too_wide limit q ≡ false

-- a value for each column, and a word for the name of each whose value is printed
pub record IsPointFor (model : Program) (p : Point) : Type 0 where
  pub len : length p.values ≡ length model.columns
  pub fits : All IsWithinLimit p.values
  pub named : (j : ℕ) → values_at p.values j ≢ zero_ℚ → is_word (column_name model j) ≡ true

-- a change for each column, and a word for the name of each that is printed
pub record IsRayFor (model : Program) (ray : Ray) : Type 0 where
  pub len : length ray.values ≡ length model.columns
  pub fits : All IsWithinLimit ray.values
  pub named : (j : ℕ) → values_at ray.values j ≢ zero_ℚ → is_word (column_name model j) ≡ true

-- ---- proofs
-- where a share comes from
abbrev pub IsNamedSource : Program → Source → Type 0
IsNamedSource model (Of m) = IsNamedMember model m
IsNamedSource model (Below j) = IsNamedColumn model j
IsNamedSource model (Above j) = IsNamedColumn model j

-- a share with a weight above 0
pub record IsUse (model : Program) (s : Share) : Type 0 where
  pub named : IsNamedSource model s.source
  pub positive : zero_ℚ <ℚ s.weight
  pub fits : IsWithinLimit s.weight

-- shares in their order, none twice
pub record AreUses (model : Program) (shares : List Share) : Type 0 where
  pub each : All (IsUse model) shares
  pub in_order : AreSharesInOrder shares

-- a split of a named column, at a number that fits; or the shares of a leaf
abbrev pub IsNodeFor : Program → Node → Type 0
IsNodeFor model (Split j k) = IsNamedColumn model j × IsFittingNode (Split j k)
IsNodeFor model (Leaf combo) = AreUses model combo.shares

-- the nodes are those of one tree
pub record IsOneTree (nodes : List Node) : Type 0 where
  pub tree : Tree
  pub listed : preorder tree ≡ nodes

-- a proof of one tree
pub record IsProofFor (model : Program) (proof : Proof) : Type 0 where
  pub one : IsOneTree proof.nodes
  pub each : All (IsNodeFor model) proof.nodes

-- ---- stops
-- members in order, with words for names
pub record AreMembers (model : Program) (members : List Member) : Type 0 where
  pub named : All (IsNamedMember model) members
  pub in_order : IsInOrder members

-- active members in order, with words for names
pub record AreLeftOut (model : Program) (left : List Member) : Type 0 where
  pub members : AreMembers model left
  pub active : All (λ m. IsTrue (is_active model m)) left

-- members that there are in order, with words for names
pub record AreEnforced (model : Program) (enforced : List Member) : Type 0 where
  pub members : AreMembers model enforced
  pub there : All (λ m. IsTrue (exists model m)) enforced

-- a branch on a column whose name is a word, at a number that fits
pub record IsNamedBranch (model : Program) (b : Branch) : Type 0 where
  pub named : IsNamedColumn model b.column
  pub fits : IsFitting b

-- such members that are left out and that are enforced, and such branches
pub record IsSiteFor (model : Program) (site : ToldSite) : Type 0 where
  pub left : AreLeftOut model site.left
  pub enforced : AreEnforced model site.enforced
  pub path : All (IsNamedBranch model) site.path

-- an operation on numbers within the limit
pub record IsOperation (o : Operation) : Type 0 where
  pub left : IsWithinLimit o.left
  pub right : IsWithinLimit o.right

-- a count of 64 bits
abbrev pub IsCount : ℕ → Type 0
IsCount n = n < 2 ^ 64

-- an operation too wide, no pivot left, no node left, or a size of 64 bits
abbrev pub IsStopFor : Program → ToldStop → Type 0
IsStopFor model (TooWide site k o) = IsSiteFor model site × (IsCount k × IsOperation o)
IsStopFor model (Spent site) = IsSiteFor model site
IsStopFor model (NodesSpent site) = IsSiteFor model site
IsStopFor model (Large size) = IsCount size

-- ---- answers
-- a count of 64 bits, where there is one
abbrev pub IsCountWithin : Option ℕ → Type 0
IsCountWithin None = Unit {0}
IsCountWithin (Some n) = IsCount n

-- a total that fits and a price, a number for each column, where they are told
abbrev pub IsPricedFor : Program → Option (ℚ × Point) → Type 0
IsPricedFor model None = Unit {0}
IsPricedFor model (Some p) = IsWithinLimit p.0 × IsPointFor model p.1

-- an irreducible set: a witness for each member, a proof, and a count of rounds, or a total with its price, where it is told
pub record IsCoreFor (model : Program) (core : Core) : Type 0 where
  pub members : IsListed model core.members
  pub each : length core.witnesses ≡ length core.members.members
  pub points : All (IsPointFor model) core.witnesses
  pub proof : IsProofFor model core.proof
  pub rounds : IsCountWithin core.rounds
  pub price : IsPricedFor model core.price

-- a value, where there is one, whose parts are within the limit
abbrev pub IsValueWithin : Option ℚ → Type 0
IsValueWithin None = Unit {0}
IsValueWithin (Some v) = IsWithinLimit v

-- a point, a value that fits, and a dual whose bound fits
pub record IsBoundedFor (model : Program) (b : Bounded) : Type 0 where
  pub point : IsPointFor model b.point
  pub objective : IsValueWithin b.objective
  pub bound : IsWithinLimit b.dual.bound
  pub uses : AreUses model b.dual.combo.shares

-- a point, a total that fits, and uses
pub record IsLeastFor (model : Program) (p : Point) (dual : Dual) : Type 0 where
  pub point : IsPointFor model p
  pub total : IsWithinLimit dual.bound
  pub uses : AreUses model dual.combo.shares

-- the rows and columns of a step are there, their names are words, and the value of a fixed column fits
abbrev pub IsStepFor : Program → ReduceStep → Type 0
IsStepFor model (Empty i) = IsNamedRow model i
IsStepFor model (Singleton i) = IsNamedRow model i
IsStepFor model (Fixed j v) = IsNamedColumn model j × IsWithinLimit v
IsStepFor model (Redundant i) = IsNamedRow model i
IsStepFor model (Forcing i side) = IsNamedRow model i
IsStepFor model (Doubleton i j) = IsNamedRow model i × IsNamedColumn model j

-- such steps, and counts of 64 bits
pub record IsReducedFor (model : Program) (r : Reduced) : Type 0 where
  pub steps : All (IsStepFor model) r.steps
  pub rows : IsCount r.rows
  pub columns : IsCount r.columns

-- what is asked of each answer
abbrev pub IsAnswerFor : Program → Answer → Type 0
IsAnswerFor model (Feasible p) = IsPointFor model p
IsAnswerFor model (Infeasible set proof) = IsListed model set × IsProofFor model proof
IsAnswerFor model (Irreducible core) = IsCoreFor model core
IsAnswerFor model (RunsAway p ray) = IsPointFor model p × IsRayFor model ray
IsAnswerFor model (BoundedBy b) = IsBoundedFor model b
IsAnswerFor model (LeastBy p dual) = IsLeastFor model p dual
IsAnswerFor model (RigidRefuted set proof) = IsListed model set × IsProofFor model proof
IsAnswerFor model (ReducedTo r) = IsReducedFor model r
IsAnswerFor model Done = Unit {0}
IsAnswerFor model (Refused r) = Unit {0}
IsAnswerFor model (NotLinear j) = IsNamedColumn model j
IsAnswerFor model (Stopped stop) = IsStopFor model stop

-- the most that a budget may be
abbrev pub most_budget : ℕ
most_budget = 1000000

-- A number that a side or a bound may be set to: it fits, and is no whole number of 10^20 or more, which says that there is to be none.
abbrev pub IsLimit : Option ℚ → Type 0
IsLimit None = Unit {0}
IsLimit (Some v) = IsWithinLimit v × (v.den ≡ 1 → is_far v ≡ false)

-- a weight that may be given: rigid, or a number above 0 that fits
abbrev pub IsWeight : Weight → Type 0
IsWeight (Soft v) = IsWithinLimit v × (zero_ℚ <ℚ v)
IsWeight Rigid = Unit {0}

-- its numbers may be given; a mark has no weight
abbrev pub IsEditKind : EditKind → Type 0
IsEditKind (EditKind.Drop t) = Unit {0}
IsEditKind (EditKind.Keep t) = Unit {0}
IsEditKind (EditKind.Weigh t w) = (t ≢ TargetKind.Whole) × IsWeight w
IsEditKind (EditKind.SetSide side v) = IsLimit v
IsEditKind (EditKind.SetBound side v) = IsLimit v
IsEditKind (EditKind.SetMark whole) = Unit {0}

-- and its name is a word; the program need not have it
pub record IsNamedEdit (e : NamedEdit) : Type 0 where
  pub word : is_word e.name ≡ true
  pub kind : IsEditKind e.kind

-- an edit is one that may be asked for, and a budget is within its bound
abbrev pub IsCommand : Command → Type 0
IsCommand Check = Unit {0}
IsCommand (Iis method) = Unit {0}
IsCommand Unbounded = Unit {0}
IsCommand RelaxIt = Unit {0}
IsCommand Reduce = Unit {0}
IsCommand (Edit e) = IsNamedEdit e
IsCommand Undo = Unit {0}
IsCommand (Pivots n) = n ≤ most_budget
IsCommand (Nodes n) = n ≤ most_budget

-- whether nodes are one leaf: a proof without splits, as it is of a reduction
abbrev pub is_one_leaf : List Node → Bool
is_one_leaf (Leaf combo ∷ []) = true
is_one_leaf _ = false

-- whether rounds are told just where the method has them
abbrev pub has_rounds : Method → Option ℕ → Bool
has_rounds Elastic (Some n) = true
has_rounds Elastic None = false
has_rounds _ (Some n) = false
has_rounds _ None = true

-- whether a price is told just where the method has one
abbrev pub has_price : Method → Option (ℚ × Point) → Bool
has_price Alternative (Some p) = true
has_price Alternative None = false
has_price _ (Some p) = false
has_price _ None = true

-- whether a method is for linear constraints alone
abbrev pub is_linear : Method → Bool
is_linear Elastic = true
is_linear Alternative = true
is_linear _ = false

-- a command with no answer
abbrev pub no_asks : Asks
no_asks = record { point = false; infeasible = false; splits = false; search = None; objective = false; least = false; reduced = false; linear = false; stops = false; done = false; edits = false; undoes = false }

-- of which kinds the answers to a command may be: a point; members that no point satisfies, by a proof with splits; an irreducible set by a method; and so on
abbrev pub asks_of : Command → Asks
asks_of Check = record no_asks { point = true; infeasible = true; splits = true; stops = true }
asks_of (Iis method) = record no_asks { point = true; search = Some method; linear = is_linear method; stops = true }
asks_of Unbounded = record no_asks { infeasible = true; splits = true; objective = true; stops = true }
asks_of RelaxIt = record no_asks { least = true; linear = true; stops = true }
asks_of Reduce = record no_asks { infeasible = true; reduced = true }
asks_of (Edit e) = record no_asks { done = true; edits = true }
asks_of Undo = record no_asks { done = true; undoes = true }
asks_of (Pivots n) = record no_asks { done = true }
asks_of (Nodes n) = record no_asks { done = true }

-- whether rounds and a price are told just where the method has them; without a method there is no such set
abbrev pub is_kept : Option Method → Core → Bool
is_kept None core = false
is_kept (Some method) core = has_rounds method core.rounds && has_price method core.price

-- whether an edit or an undo may be refused so
abbrev pub refuses : Asks → Refusal → Bool
refuses k Refusal.UnknownName = k.edits
refuses k Refusal.NoChange = k.edits
refuses k Refusal.NothingToUndo = k.undoes

-- whether the answer is of these kinds
abbrev pub answers : Asks → Answer → Bool
answers k (Feasible p) = k.point
answers k (Infeasible set proof) = k.infeasible && (k.splits || is_one_leaf proof.nodes)
answers k (Irreducible core) = is_kept k.search core
answers k (RunsAway p ray) = k.objective
answers k (BoundedBy b) = k.objective
answers k (LeastBy p dual) = k.least
answers k (RigidRefuted set proof) = k.least && (k.splits || is_one_leaf proof.nodes)
answers k (ReducedTo r) = k.reduced
answers k Done = k.done
answers k (Refused r) = refuses k r
answers k (NotLinear j) = k.linear
answers k (Stopped stop) = k.stops

-- whether it is of a kind that the command may have
abbrev pub can_answer : Command → Answer → Bool
can_answer command answer = answers (asks_of command) answer

-- ---- reports
-- an entry whose answer is one to its command
pub record IsEntryFor (model : Program) (e : Entry) : Type 0 where
  pub command : IsCommand e.command
  pub kind : can_answer e.command e.answer ≡ true
  pub answer : IsAnswerFor model e.answer

-- such entries, each for the program after the commands before it
abbrev pub AreEntriesFor : Program → List Command → List Entry → Type 0
AreEntriesFor model before entries = AllEntries (λ front e. IsEntryFor (after model front) e) before entries

-- each entry has the number of its first line, where line number n is that of the first entry
abbrev pub AreNumbered : Program → List Command → ℕ → List Entry → Type 0
AreNumbered model before n [] = Unit {0}
AreNumbered model before n (e ∷ entries) = (e.line ≡ n) × AreNumbered model (before ++ e.command ∷ []) (n + length (entry_phrases (after model before) e)) entries

-- a report in the grammar: before the first entry stand the head and the notes
pub record IsReportFor (model : Program) (report : Report) : Type 0 where
  pub notes : All (λ note. IsNamedColumn model (noted_column note)) report.notes
  pub entries : AreEntriesFor model [] report.entries
  pub numbered : AreNumbered model [] (2 + length report.notes) report.entries
