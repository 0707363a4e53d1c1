-- What a report says, phrase by phrase. A phrase is one line, which stands here without the byte 10 that ends it.
use Rattle.std.specs.Prelude.{ℕ, suc, ◌++◌, Bool, true, false, cond, List, [], ◌∷◌, map, flat_map, zip, codes, decimal, Option, Some, None, pos}
use Rattle.std.specs.Fmt.{signed_decimal}
use Rattle.frac128.specs.declared.Op.{Op}
use Rattle.frac128.specs.declared.Op.TheVariants.{Plus, Minus, Times, Over}
use Rattle.certs.specs.declared.solving.SiteKind.{SiteKind}
use Rattle.certs.specs.declared.solving.SiteKind.TheVariants.{Settle, Improve, Stretch, Relax, Alternative}
use Rattle.rational.specs.Rational.{ℚ, zero_ℚ, eq_ℚ}
use Rattle.frac128.specs.Printed.{printed}
use Rattle.lp_model.specs.declared.parts.Note.{Note}
use Rattle.lp_model.specs.declared.parts.Note.TheVariants.{LowerRemoved, LowerKept}
use Rattle.lp_model.specs.declared.parts.Weight.{Weight}
use Rattle.lp_model.specs.declared.parts.Weight.TheVariants.{Soft, Rigid}
use Rattle.lp_model.specs.Program.{Program, row_at, column_at}
use Rattle.lp_model.specs.declared.members.Member.{Member}
use Rattle.lp_model.specs.declared.members.Member.TheVariants.{RowLo, RowUp, Lower, Upper, Whole}
use Rattle.lp_model.specs.declared.members.Side.{Side}
use Rattle.lp_model.specs.declared.members.Side.TheVariants.{Lo, Up}
use Rattle.lp_model.specs.MemberSets.{SetValue}
use Rattle.certs.specs.declared.evidence.Branch.{Branch}
use Rattle.certs.specs.declared.evidence.Source.{Source}
use Rattle.certs.specs.declared.evidence.Source.TheVariants.{Member as Of, Below, Above}
use Rattle.certs.specs.declared.evidence.Point.{Point}
use Rattle.certs.specs.declared.evidence.Node.{Node}
use Rattle.certs.specs.declared.evidence.Node.TheVariants.{Split, Leaf}
use Rattle.certs.specs.declared.evidence.Proof.{Proof}
use Rattle.certs.specs.declared.evidence.Ray.{Ray}
use Rattle.certs.specs.declared.evidence.Dual.{Dual}
use Rattle.reductions.specs.declared.steps.ReduceStep.{ReduceStep}
use Rattle.reductions.specs.declared.steps.ReduceStep.TheVariants.{Empty, Singleton, Fixed, Redundant, Forcing, Doubleton}
use Rattle.report_text.specs.declared.report.Method.{Method}
use Rattle.report_text.specs.declared.report.Method.TheVariants.{Deletion, Additive, Sensitivity, Elastic, Alternative as ByAlternative}
use Rattle.report_text.specs.declared.report.Command.{Command}
use Rattle.report_text.specs.declared.report.Command.TheVariants.{Check, Iis, Unbounded, Relax as RelaxIt, Reduce, Edit, Undo, Pivots, Nodes}
use Rattle.report_text.specs.declared.report.TargetKind.{TargetKind}
use Rattle.report_text.specs.declared.report.EditKind.{EditKind}
use Rattle.report_text.specs.declared.report.Refusal.{Refusal}
use Rattle.report_text.specs.declared.report.Core.{Core}
use Rattle.report_text.specs.declared.report.Bounded.{Bounded}
use Rattle.report_text.specs.declared.report.Reduced.{Reduced}
use Rattle.report_text.specs.declared.report.ToldSite.{ToldSite}
use Rattle.report_text.specs.declared.report.ToldStop.{ToldStop}
use Rattle.report_text.specs.declared.report.ToldStop.TheVariants.{Wide as TooWide, Pivots as Spent, Nodes as NodesSpent, Large}
use Rattle.report_text.specs.declared.report.Answer.{Answer}
use Rattle.report_text.specs.declared.report.Answer.TheVariants.{Feasible, Infeasible, Irreducible, Unbounded as RunsAway, Bounded as BoundedBy, Least as LeastBy, RigidInfeasible as RigidRefuted, Reduced as ReducedTo, Done, Refused, NotLinear, Stopped}
use Rattle.report_text.specs.declared.report.Entry.{Entry}
use Rattle.report_text.specs.declared.report.Report.{Report}
use Rattle.report_text.specs.Turns.{after, gathered}
use Rattle.report_text.specs.declared.phrases.Keyword.{Keyword}
use Rattle.report_text.specs.declared.phrases.Phrase.{Phrase}
use Rattle.report_text.specs.declared.phrases.StopPhrase.{StopPhrase}
use Rattle.report_text.specs.declared.table.Word.{Word}
use Rattle.report_text.specs.declared.table.Kind.{Kind}
use Rattle.report_text.specs.declared.table.Given.{Given}

-- a line, as its bytes
abbrev pub Line : Type 0
Line = List ℕ

-- two texts with a blank between them
infixr 5 ◌then◌
abbrev pub ◌then◌ : List ℕ → List ℕ → List ℕ
a then b = a ++ (32 ∷ b)

-- ---- names
-- the name of a column
abbrev pub column_name : Program → ℕ → List ℕ
column_name model j = (column_at model j).name

-- the name that a member goes by: its row's, or its column's
abbrev pub name_of : Program → Member → List ℕ
name_of model (RowLo i) = (row_at model i).name
name_of model (RowUp i) = (row_at model i).name
name_of model (Lower j) = column_name model j
name_of model (Upper j) = column_name model j
name_of model (Whole j) = column_name model j

-- the word for a kind of member
abbrev pub kind_word : Member → List ℕ
kind_word (RowLo i) = codes "rowlo"
kind_word (RowUp i) = codes "rowup"
kind_word (Lower j) = codes "lower"
kind_word (Upper j) = codes "upper"
kind_word (Whole j) = codes "whole"

-- ---- words
-- the word for where a share comes from: the kind of a member, or the branches below or above
abbrev pub source_word : Source → List ℕ
source_word (Of m) = kind_word m
source_word (Below j) = codes "below"
source_word (Above j) = codes "above"

-- the name that it goes by: its member's, or its column's
abbrev pub source_name : Program → Source → List ℕ
source_name model (Of m) = name_of model m
source_name model (Below j) = column_name model j
source_name model (Above j) = column_name model j

-- the word for a kind of operation
abbrev pub op_word : Op → List ℕ
op_word Plus = codes "plus"
op_word Minus = codes "minus"
op_word Times = codes "times"
op_word Over = codes "over"

-- the word for the kind of a site
abbrev pub site_word : SiteKind → List ℕ
site_word Settle = codes "settle"
site_word Improve = codes "improve"
site_word Stretch = codes "stretch"
site_word Relax = codes "relax"
site_word Alternative = codes "alternative"

-- the word for a method
abbrev pub method_word : Method → List ℕ
method_word Deletion = codes "deletion"
method_word Additive = codes "additive"
method_word Sensitivity = codes "sensitivity"
method_word Elastic = codes "elastic"
method_word ByAlternative = codes "alternative"

-- the word for what an edit is of
abbrev pub target_word : TargetKind → List ℕ
target_word TargetKind.Row = codes "row"
target_word TargetKind.RowLo = codes "rowlo"
target_word TargetKind.RowUp = codes "rowup"
target_word TargetKind.Lower = codes "lower"
target_word TargetKind.Upper = codes "upper"
target_word TargetKind.Whole = codes "whole"

-- the word for a side or a bound
abbrev pub side_word : Side → List ℕ
side_word Lo = codes "lower"
side_word Up = codes "upper"

-- the word for the side of a row that is met
abbrev pub met_word : Side → List ℕ
met_word Lo = codes "lo"
met_word Up = codes "up"

-- the number of a side or a bound that is set, or that there is to be none
abbrev pub limit_word : Option ℚ → List ℕ
limit_word None = codes "none"
limit_word (Some v) = printed v

-- a weight
abbrev pub weight_word : Weight → List ℕ
weight_word (Soft v) = printed v
weight_word Rigid = codes "rigid"

-- what became of a bound that a note is on
abbrev pub noted_word : Bool → List ℕ
noted_word true = codes "kept"
noted_word false = codes "removed"

-- whether a column is to be whole
abbrev pub mark_word : Bool → List ℕ
mark_word true = codes "whole"
mark_word false = codes "plain"

-- the words of an edit of what has a name
abbrev pub edit_words : List ℕ → EditKind → List (List ℕ)
edit_words name (EditKind.Drop t) = codes "drop" ∷ target_word t ∷ name ∷ []
edit_words name (EditKind.Keep t) = codes "keep" ∷ target_word t ∷ name ∷ []
edit_words name (EditKind.Weigh t w) = codes "weight" ∷ target_word t ∷ name ∷ weight_word w ∷ []
edit_words name (EditKind.SetSide side v) = codes "set" ∷ codes "row" ∷ name ∷ side_word side ∷ limit_word v ∷ []
edit_words name (EditKind.SetBound side v) = codes "set" ∷ codes "column" ∷ name ∷ side_word side ∷ limit_word v ∷ []
edit_words name (EditKind.SetMark whole) = codes "mark" ∷ name ∷ mark_word whole ∷ []

-- the words of a command
abbrev pub command_words : Command → List (List ℕ)
command_words Check = codes "check" ∷ []
command_words (Iis method) = codes "iis" ∷ method_word method ∷ []
command_words Unbounded = codes "unbounded" ∷ []
command_words RelaxIt = codes "relax" ∷ []
command_words Reduce = codes "reduce" ∷ []
command_words (Edit e) = edit_words e.name e.kind
command_words Undo = codes "undo" ∷ []
command_words (Pivots n) = codes "budget" ∷ codes "pivots" ∷ decimal n ∷ []
command_words (Nodes n) = codes "budget" ∷ codes "nodes" ∷ decimal n ∷ []

-- how a keyword is spelled
abbrev pub keyword_text : Keyword → List ℕ
keyword_text Keyword.Iisan = codes "iisan"
keyword_text Keyword.Note = codes "note"
keyword_text Keyword.Command = codes "command"
keyword_text Keyword.Feasible = codes "feasible"
keyword_text Keyword.Infeasible = codes "infeasible"
keyword_text Keyword.Irreducible = codes "irreducible"
keyword_text Keyword.Unbounded = codes "unbounded"
keyword_text Keyword.Bounded = codes "bounded"
keyword_text Keyword.Least = codes "least"
keyword_text Keyword.Rigid = codes "rigid"
keyword_text Keyword.Reduced = codes "reduced"
keyword_text Keyword.Done = codes "done"
keyword_text Keyword.Unknown = codes "unknown"
keyword_text Keyword.No = codes "no"
keyword_text Keyword.Nothing = codes "nothing"
keyword_text Keyword.Not = codes "not"
keyword_text Keyword.Point = codes "point"
keyword_text Keyword.Value = codes "value"
keyword_text Keyword.Ray = codes "ray"
keyword_text Keyword.Objective = codes "objective"
keyword_text Keyword.Bound = codes "bound"
keyword_text Keyword.Dual = codes "dual"
keyword_text Keyword.Total = codes "total"
keyword_text Keyword.Rounds = codes "rounds"
keyword_text Keyword.Price = codes "price"
keyword_text Keyword.Member = codes "member"
keyword_text Keyword.Proof = codes "proof"
keyword_text Keyword.Split = codes "split"
keyword_text Keyword.Leaf = codes "leaf"
keyword_text Keyword.Use = codes "use"
keyword_text Keyword.Empty = codes "empty"
keyword_text Keyword.Singleton = codes "singleton"
keyword_text Keyword.Fixed = codes "fixed"
keyword_text Keyword.Redundant = codes "redundant"
keyword_text Keyword.Forcing = codes "forcing"
keyword_text Keyword.Doubleton = codes "doubleton"
keyword_text Keyword.Left = codes "left"
keyword_text Keyword.Wide = codes "too"
keyword_text Keyword.Large = codes "too"
keyword_text Keyword.Pivots = codes "pivots"
keyword_text Keyword.Nodes = codes "nodes"
keyword_text Keyword.Site = codes "site"
keyword_text Keyword.Without = codes "without"
keyword_text Keyword.Enforced = codes "enforced"
keyword_text Keyword.BranchBelow = codes "below"
keyword_text Keyword.BranchAbove = codes "above"
keyword_text Keyword.Step = codes "step"
keyword_text Keyword.Operation = codes "operation"
keyword_text Keyword.End = codes "end"
keyword_text Keyword.Report = codes "report"

-- a word that stands in lines as it is
abbrev pub word_text : Word → List ℕ
word_text Word.Report = codes "report"
word_text Word.Two = codes "2"
word_text Word.Lower = codes "lower"
word_text Word.Infeasible = codes "infeasible"
word_text Word.Name = codes "name"
word_text Word.Change = codes "change"
word_text Word.To = codes "to"
word_text Word.Undo = codes "undo"
word_text Word.Linear = codes "linear"
word_text Word.Wide = codes "wide"
word_text Word.Large = codes "large"
word_text Word.Spent = codes "spent"
word_text Word.Rows = codes "rows"
word_text Word.Columns = codes "columns"
word_text Word.End = codes "end"

-- what stands behind a keyword; behind that of a command its words do
abbrev pub kinds_of : Keyword → List Kind
kinds_of Keyword.Iisan = Kind.Word Word.Report ∷ Kind.Word Word.Two ∷ []
kinds_of Keyword.Note = Kind.Column ∷ Kind.Word Word.Lower ∷ Kind.Noted ∷ []
kinds_of Keyword.Rigid = Kind.Word Word.Infeasible ∷ []
kinds_of Keyword.Unknown = Kind.Word Word.Name ∷ []
kinds_of Keyword.No = Kind.Word Word.Change ∷ []
kinds_of Keyword.Nothing = Kind.Word Word.To ∷ Kind.Word Word.Undo ∷ []
kinds_of Keyword.Not = Kind.Word Word.Linear ∷ Kind.Column ∷ []
kinds_of Keyword.Value = Kind.Column ∷ Kind.Nonzero ∷ []
kinds_of Keyword.Objective = Kind.Fraction ∷ []
kinds_of Keyword.Bound = Kind.Fraction ∷ []
kinds_of Keyword.Total = Kind.Fraction ∷ []
kinds_of Keyword.Rounds = Kind.Count ∷ []
kinds_of Keyword.Member = Kind.Member ∷ []
kinds_of Keyword.Split = Kind.Column ∷ Kind.Split ∷ []
kinds_of Keyword.Use = Kind.Source ∷ Kind.Positive ∷ []
kinds_of Keyword.Empty = Kind.Row ∷ []
kinds_of Keyword.Singleton = Kind.Row ∷ []
kinds_of Keyword.Fixed = Kind.Column ∷ Kind.Fraction ∷ []
kinds_of Keyword.Redundant = Kind.Row ∷ []
kinds_of Keyword.Forcing = Kind.Row ∷ Kind.Side ∷ []
kinds_of Keyword.Doubleton = Kind.Row ∷ Kind.Column ∷ []
kinds_of Keyword.Left = Kind.Word Word.Rows ∷ Kind.Count ∷ Kind.Word Word.Columns ∷ Kind.Second ∷ []
kinds_of Keyword.Wide = Kind.Word Word.Wide ∷ []
kinds_of Keyword.Large = Kind.Word Word.Large ∷ Kind.Count ∷ []
kinds_of Keyword.Pivots = Kind.Word Word.Spent ∷ []
kinds_of Keyword.Nodes = Kind.Word Word.Spent ∷ []
kinds_of Keyword.Site = Kind.Site ∷ []
kinds_of Keyword.Without = Kind.Member ∷ []
kinds_of Keyword.Enforced = Kind.Member ∷ []
kinds_of Keyword.BranchBelow = Kind.Column ∷ Kind.Whole ∷ []
kinds_of Keyword.BranchAbove = Kind.Column ∷ Kind.Whole ∷ []
kinds_of Keyword.Step = Kind.Count ∷ []
kinds_of Keyword.Operation = Kind.Op ∷ Kind.Fraction ∷ Kind.Right ∷ []
kinds_of Keyword.Report = Kind.Word Word.End ∷ []
kinds_of k = []

-- the words for what is given, by its kind
abbrev pub words_at : Program → Given → Kind → List (List ℕ)
words_at model g (Kind.Word w) = word_text w ∷ []
words_at model g Kind.Row = (row_at model g.row).name ∷ []
words_at model g Kind.Column = column_name model g.column ∷ []
words_at model g Kind.Member = kind_word g.member ∷ name_of model g.member ∷ []
words_at model g Kind.Source = source_word g.source ∷ source_name model g.source ∷ []
words_at model g Kind.Side = met_word g.side ∷ []
words_at model g Kind.Site = site_word g.site ∷ []
words_at model g Kind.Op = op_word g.op ∷ []
words_at model g Kind.Noted = noted_word g.kept ∷ []
words_at model g Kind.Fraction = printed g.value ∷ []
words_at model g Kind.Nonzero = printed g.value ∷ []
words_at model g Kind.Positive = printed g.value ∷ []
words_at model g Kind.Right = printed g.right ∷ []
words_at model g Kind.Whole = signed_decimal g.at ∷ []
words_at model g Kind.Split = signed_decimal g.at ∷ []
words_at model g Kind.Count = decimal g.count ∷ []
words_at model g Kind.Second = decimal g.second ∷ []

-- what stands for a part that a line does not give
abbrev pub no_given : Given
no_given = record { row = 0; column = 0; member = RowLo 0; source = Below 0; side = Lo; site = Settle; op = Plus; kept = false; value = zero_ℚ; right = zero_ℚ; at = pos 0; count = 0; second = 0 }

-- the keyword of a refusal
abbrev pub refusal_keyword : Refusal → Keyword
refusal_keyword Refusal.UnknownName = Keyword.Unknown
refusal_keyword Refusal.NoChange = Keyword.No
refusal_keyword Refusal.NothingToUndo = Keyword.Nothing

-- the keyword of a branch, by whether it says at most
abbrev pub branch_keyword : Bool → Keyword
branch_keyword true = Keyword.BranchBelow
branch_keyword false = Keyword.BranchAbove

-- the keyword of what is said of a stop
abbrev pub stop_keyword : StopPhrase → Keyword
stop_keyword StopPhrase.Wide = Keyword.Wide
stop_keyword StopPhrase.Spent = Keyword.Pivots
stop_keyword StopPhrase.Nodes = Keyword.Nodes
stop_keyword (StopPhrase.Large size) = Keyword.Large
stop_keyword (StopPhrase.Site kind) = Keyword.Site
stop_keyword (StopPhrase.Without m) = Keyword.Without
stop_keyword (StopPhrase.Enforced m) = Keyword.Enforced
stop_keyword (StopPhrase.Branch b) = branch_keyword b.upper
stop_keyword (StopPhrase.Step k) = Keyword.Step
stop_keyword (StopPhrase.Operation o) = Keyword.Operation

-- the keyword of a step of a reduction
abbrev pub step_keyword : ReduceStep → Keyword
step_keyword (Empty i) = Keyword.Empty
step_keyword (Singleton i) = Keyword.Singleton
step_keyword (Fixed j v) = Keyword.Fixed
step_keyword (Redundant i) = Keyword.Redundant
step_keyword (Forcing i side) = Keyword.Forcing
step_keyword (Doubleton i j) = Keyword.Doubleton

-- the keyword of what is said
abbrev pub keyword_of : Phrase → Keyword
keyword_of Phrase.Head = Keyword.Iisan
keyword_of (Phrase.Note note) = Keyword.Note
keyword_of (Phrase.Command command) = Keyword.Command
keyword_of Phrase.Feasible = Keyword.Feasible
keyword_of Phrase.Infeasible = Keyword.Infeasible
keyword_of Phrase.Irreducible = Keyword.Irreducible
keyword_of Phrase.Unbounded = Keyword.Unbounded
keyword_of Phrase.Bounded = Keyword.Bounded
keyword_of Phrase.Least = Keyword.Least
keyword_of Phrase.RigidInfeasible = Keyword.Rigid
keyword_of Phrase.Reduced = Keyword.Reduced
keyword_of Phrase.Done = Keyword.Done
keyword_of (Phrase.Refused r) = refusal_keyword r
keyword_of (Phrase.NotLinear j) = Keyword.Not
keyword_of (Phrase.Stop s) = stop_keyword s
keyword_of Phrase.Point = Keyword.Point
keyword_of (Phrase.Value j v) = Keyword.Value
keyword_of Phrase.Ray = Keyword.Ray
keyword_of (Phrase.Objective v) = Keyword.Objective
keyword_of (Phrase.Bound v) = Keyword.Bound
keyword_of Phrase.Dual = Keyword.Dual
keyword_of (Phrase.Total v) = Keyword.Total
keyword_of (Phrase.Rounds n) = Keyword.Rounds
keyword_of Phrase.Price = Keyword.Price
keyword_of (Phrase.Member m) = Keyword.Member
keyword_of Phrase.Proof = Keyword.Proof
keyword_of (Phrase.Split j k) = Keyword.Split
keyword_of Phrase.Leaf = Keyword.Leaf
keyword_of (Phrase.Use s) = Keyword.Use
keyword_of (Phrase.Reduction s) = step_keyword s
keyword_of (Phrase.Left rows columns) = Keyword.Left
keyword_of Phrase.End = Keyword.End
keyword_of Phrase.Foot = Keyword.Report

-- what is given of what is said
abbrev pub stop_given : StopPhrase → Given
stop_given (StopPhrase.Large size) = record no_given { count = size }
stop_given (StopPhrase.Site kind) = record no_given { site = kind }
stop_given (StopPhrase.Without m) = record no_given { member = m }
stop_given (StopPhrase.Enforced m) = record no_given { member = m }
stop_given (StopPhrase.Branch b) = record no_given { column = b.column; at = b.at }
stop_given (StopPhrase.Step k) = record no_given { count = k }
stop_given (StopPhrase.Operation o) = record no_given { op = o.op; value = o.left; right = o.right }
stop_given s = no_given

abbrev pub step_given : ReduceStep → Given
step_given (Empty i) = record no_given { row = i }
step_given (Singleton i) = record no_given { row = i }
step_given (Fixed j v) = record no_given { column = j; value = v }
step_given (Redundant i) = record no_given { row = i }
step_given (Forcing i side) = record no_given { row = i; side = side }
step_given (Doubleton i j) = record no_given { row = i; column = j }

abbrev pub note_given : Note → Given
note_given (LowerRemoved j) = record no_given { column = j }
note_given (LowerKept j) = record no_given { column = j; kept = true }

abbrev pub given_of : Phrase → Given
given_of (Phrase.Note note) = note_given note
given_of (Phrase.NotLinear j) = record no_given { column = j }
given_of (Phrase.Stop s) = stop_given s
given_of (Phrase.Value j v) = record no_given { column = j; value = v }
given_of (Phrase.Objective v) = record no_given { value = v }
given_of (Phrase.Bound v) = record no_given { value = v }
given_of (Phrase.Total v) = record no_given { value = v }
given_of (Phrase.Rounds n) = record no_given { count = n }
given_of (Phrase.Member m) = record no_given { member = m }
given_of (Phrase.Split j k) = record no_given { column = j; at = k }
given_of (Phrase.Use s) = record no_given { source = s.source; value = s.weight }
given_of (Phrase.Reduction s) = step_given s
given_of (Phrase.Left rows columns) = record no_given { count = rows; second = columns }
given_of p = no_given

-- a note on a column
abbrev pub note_by : Bool → ℕ → Note
note_by true j = LowerKept j
note_by false j = LowerRemoved j

-- the phrase of a keyword and what is given; a command is none
abbrev pub phrase_by : Keyword → Given → Option Phrase
phrase_by Keyword.Iisan g = Some Phrase.Head
phrase_by Keyword.Note g = Some (Phrase.Note (note_by g.kept g.column))
phrase_by Keyword.Command g = None
phrase_by Keyword.Feasible g = Some Phrase.Feasible
phrase_by Keyword.Infeasible g = Some Phrase.Infeasible
phrase_by Keyword.Irreducible g = Some Phrase.Irreducible
phrase_by Keyword.Unbounded g = Some Phrase.Unbounded
phrase_by Keyword.Bounded g = Some Phrase.Bounded
phrase_by Keyword.Least g = Some Phrase.Least
phrase_by Keyword.Rigid g = Some Phrase.RigidInfeasible
phrase_by Keyword.Reduced g = Some Phrase.Reduced
phrase_by Keyword.Done g = Some Phrase.Done
phrase_by Keyword.Unknown g = Some (Phrase.Refused Refusal.UnknownName)
phrase_by Keyword.No g = Some (Phrase.Refused Refusal.NoChange)
phrase_by Keyword.Nothing g = Some (Phrase.Refused Refusal.NothingToUndo)
phrase_by Keyword.Not g = Some (Phrase.NotLinear g.column)
phrase_by Keyword.Point g = Some Phrase.Point
phrase_by Keyword.Value g = Some (Phrase.Value g.column g.value)
phrase_by Keyword.Ray g = Some Phrase.Ray
phrase_by Keyword.Objective g = Some (Phrase.Objective g.value)
phrase_by Keyword.Bound g = Some (Phrase.Bound g.value)
phrase_by Keyword.Dual g = Some Phrase.Dual
phrase_by Keyword.Total g = Some (Phrase.Total g.value)
phrase_by Keyword.Rounds g = Some (Phrase.Rounds g.count)
phrase_by Keyword.Price g = Some Phrase.Price
phrase_by Keyword.Member g = Some (Phrase.Member g.member)
phrase_by Keyword.Proof g = Some Phrase.Proof
phrase_by Keyword.Split g = Some (Phrase.Split g.column g.at)
phrase_by Keyword.Leaf g = Some Phrase.Leaf
phrase_by Keyword.Use g = Some (Phrase.Use (record { source = g.source; weight = g.value }))
phrase_by Keyword.Empty g = Some (Phrase.Reduction (Empty g.row))
phrase_by Keyword.Singleton g = Some (Phrase.Reduction (Singleton g.row))
phrase_by Keyword.Fixed g = Some (Phrase.Reduction (Fixed g.column g.value))
phrase_by Keyword.Redundant g = Some (Phrase.Reduction (Redundant g.row))
phrase_by Keyword.Forcing g = Some (Phrase.Reduction (Forcing g.row g.side))
phrase_by Keyword.Doubleton g = Some (Phrase.Reduction (Doubleton g.row g.column))
phrase_by Keyword.Left g = Some (Phrase.Left g.count g.second)
phrase_by Keyword.Wide g = Some (Phrase.Stop StopPhrase.Wide)
phrase_by Keyword.Large g = Some (Phrase.Stop (StopPhrase.Large g.count))
phrase_by Keyword.Pivots g = Some (Phrase.Stop StopPhrase.Spent)
phrase_by Keyword.Nodes g = Some (Phrase.Stop StopPhrase.Nodes)
phrase_by Keyword.Site g = Some (Phrase.Stop (StopPhrase.Site g.site))
phrase_by Keyword.Without g = Some (Phrase.Stop (StopPhrase.Without g.member))
phrase_by Keyword.Enforced g = Some (Phrase.Stop (StopPhrase.Enforced g.member))
phrase_by Keyword.BranchBelow g = Some (Phrase.Stop (StopPhrase.Branch (record { column = g.column; upper = true; at = g.at })))
phrase_by Keyword.BranchAbove g = Some (Phrase.Stop (StopPhrase.Branch (record { column = g.column; upper = false; at = g.at })))
phrase_by Keyword.Step g = Some (Phrase.Stop (StopPhrase.Step g.count))
phrase_by Keyword.Operation g = Some (Phrase.Stop (StopPhrase.Operation (record { op = g.op; left = g.value; right = g.right })))
phrase_by Keyword.End g = Some Phrase.End
phrase_by Keyword.Report g = Some Phrase.Foot

-- the words after the keyword; those of a branch do not go by its side
abbrev pub details : Program → Phrase → List (List ℕ)
details model (Phrase.Command command) = command_words command
details model (Phrase.Stop (StopPhrase.Branch b)) = flat_map (words_at model (stop_given (StopPhrase.Branch b))) (kinds_of Keyword.BranchBelow)
details model p = flat_map (words_at model (given_of p)) (kinds_of (keyword_of p))

-- those of what is said of a stop
abbrev pub stop_details : Program → StopPhrase → List (List ℕ)
stop_details model s = details model (Phrase.Stop s)

-- a word, and words after it, with one blank before each of these
abbrev pub spelled : List ℕ → List (List ℕ) → Line
spelled word [] = word
spelled word (next ∷ rest) = word then spelled next rest

-- the line that says it
abbrev pub phrase_line : Program → Phrase → Line
phrase_line model p = spelled (keyword_text (keyword_of p)) (details model p)

-- words with a blank between two of them
abbrev pub joined : List (List ℕ) → Line
joined [] = []
joined (word ∷ words) = spelled word words

-- the text of a command
abbrev pub command_text : Command → List ℕ
command_text c = joined (command_words c)

-- the commands of one word
abbrev pub lone_commands : List Command
lone_commands = Check ∷ Unbounded ∷ RelaxIt ∷ Reduce ∷ Undo ∷ []

-- ---- the phrases of a report
-- those of values, of which the first is that of column j: one for each that is not 0
abbrev pub value_phrases : ℕ → List ℚ → List Phrase
value_phrases j [] = []
value_phrases j (v ∷ vs) = cond (eq_ℚ v zero_ℚ) (value_phrases (suc j) vs) (Phrase.Value j v ∷ value_phrases (suc j) vs)

-- of a point
abbrev pub point_phrases : Point → List Phrase
point_phrases p = Phrase.Point ∷ value_phrases 0 p.values

-- of a node: a column and where it is split, or the shares of a leaf
abbrev pub node_phrases : Node → List Phrase
node_phrases (Split j k) = Phrase.Split j k ∷ []
node_phrases (Leaf combo) = Phrase.Leaf ∷ map Phrase.Use combo.shares

-- of a proof
abbrev pub proof_phrases : Proof → List Phrase
proof_phrases proof = Phrase.Proof ∷ flat_map node_phrases proof.nodes

-- of a member of an irreducible set, and its witness
abbrev pub witness_phrases : Member × Point → List Phrase
witness_phrases w = Phrase.Member w.0 ∷ point_phrases w.1

-- of a point and a ray from it: the changes stand as values do
abbrev pub unbounded_phrases : Point → Ray → List Phrase
unbounded_phrases p ray = Phrase.Unbounded ∷ (point_phrases p ++ Phrase.Ray ∷ value_phrases 0 ray.values)

-- of the objective's value, where it is told
abbrev pub objective_phrases : Option ℚ → List Phrase
objective_phrases None = []
objective_phrases (Some v) = Phrase.Objective v ∷ []

-- of a dual: its bound, and its shares
abbrev pub dual_phrases : Dual → List Phrase
dual_phrases dual = Phrase.Bound dual.bound ∷ Phrase.Dual ∷ map Phrase.Use dual.combo.shares

-- of how far the objective can go
abbrev pub bounded_phrases : Bounded → List Phrase
bounded_phrases b = Phrase.Bounded ∷ (point_phrases b.point ++ (objective_phrases b.objective ++ dual_phrases b.dual))

-- of a least weighted violation: the total, a point, and the shares of the dual
abbrev pub least_phrases : Point → Dual → List Phrase
least_phrases p dual = Phrase.Least ∷ Phrase.Total dual.bound ∷ (point_phrases p ++ Phrase.Dual ∷ map Phrase.Use dual.combo.shares)

-- of rigid members that no point satisfies
abbrev pub rigid_phrases : SetValue → Proof → List Phrase
rigid_phrases set proof = Phrase.RigidInfeasible ∷ (map Phrase.Member set.members ++ proof_phrases proof)

-- of how many rounds were made, where it is told
abbrev pub rounds_phrases : Option ℕ → List Phrase
rounds_phrases None = []
rounds_phrases (Some n) = Phrase.Rounds n ∷ []

-- of a total and its price, where they are told: the values stand as those of a point do
abbrev pub price_phrases : Option (ℚ × Point) → List Phrase
price_phrases None = []
price_phrases (Some p) = Phrase.Total p.0 ∷ Phrase.Price ∷ value_phrases 0 p.1.values

-- of an irreducible set: each member with its witness, the proof, and then the rounds, or the total and its price
abbrev pub irreducible_phrases : Core → List Phrase
irreducible_phrases core = Phrase.Irreducible ∷ (flat_map witness_phrases (zip core.members.members core.witnesses) ++ (proof_phrases core.proof ++ (rounds_phrases core.rounds ++ price_phrases core.price)))

-- of how far a program is reduced: the steps, and what is left
abbrev pub reduced_phrases : Reduced → List Phrase
reduced_phrases r = Phrase.Reduced ∷ (map Phrase.Reduction r.steps ++ Phrase.Left r.rows r.columns ∷ [])

-- an active member that is left out at a site
abbrev pub without_phrase : Member → Phrase
without_phrase m = Phrase.Stop (StopPhrase.Without m)

-- a member that is enforced at a site
abbrev pub enforced_phrase : Member → Phrase
enforced_phrase m = Phrase.Stop (StopPhrase.Enforced m)

-- a branch of the path of a site
abbrev pub branch_phrase : Branch → Phrase
branch_phrase b = Phrase.Stop (StopPhrase.Branch b)

-- a site: its kind, the active members that are left out, those that are enforced, and the branches on the way to its node
abbrev pub site_phrases : ToldSite → List Phrase
site_phrases site = Phrase.Stop (StopPhrase.Site site.kind) ∷ (map without_phrase site.left ++ (map enforced_phrase site.enforced ++ map branch_phrase site.path))

-- a stop without its end
abbrev pub stop_phrases : ToldStop → List Phrase
stop_phrases (TooWide site k o) = Phrase.Stop StopPhrase.Wide ∷ (site_phrases site ++ Phrase.Stop (StopPhrase.Step k) ∷ Phrase.Stop (StopPhrase.Operation o) ∷ [])
stop_phrases (Spent site) = Phrase.Stop StopPhrase.Spent ∷ site_phrases site
stop_phrases (NodesSpent site) = Phrase.Stop StopPhrase.Nodes ∷ site_phrases site
stop_phrases (Large size) = Phrase.Stop (StopPhrase.Large size) ∷ []

-- an answer without its last line: what it is, and what belongs to it
abbrev pub answer_front : Program → Answer → List Phrase
answer_front model (Feasible p) = Phrase.Feasible ∷ point_phrases p
answer_front model (Infeasible set proof) = Phrase.Infeasible ∷ (map Phrase.Member set.members ++ proof_phrases proof)
answer_front model (Irreducible core) = irreducible_phrases core
answer_front model (RunsAway p ray) = unbounded_phrases p ray
answer_front model (BoundedBy b) = bounded_phrases b
answer_front model (LeastBy p dual) = least_phrases p dual
answer_front model (RigidRefuted set proof) = rigid_phrases set proof
answer_front model (ReducedTo r) = reduced_phrases r
answer_front model Done = []
answer_front model (Refused r) = []
answer_front model (NotLinear j) = []
answer_front model (Stopped stop) = stop_phrases stop

-- the last line of an answer
abbrev pub answer_end : Answer → Phrase
answer_end Done = Phrase.Done
answer_end (Refused r) = Phrase.Refused r
answer_end (NotLinear j) = Phrase.NotLinear j
answer_end _ = Phrase.End

-- an answer
abbrev pub answer_phrases : Program → Answer → List Phrase
answer_phrases model a = answer_front model a ++ answer_end a ∷ []

-- an entry: the command, and its answer
abbrev pub entry_phrases : Program → Entry → List Phrase
entry_phrases model e = Phrase.Command e.command ∷ answer_phrases model e.answer

-- entries, each by the program after the commands before it
abbrev pub entries_phrases : Program → List Command → List Entry → List Phrase
entries_phrases model before entries = gathered (λ front e. entry_phrases (after model front) e) before entries

-- all that stands before the foot: the head, the notes, the entries
abbrev pub body_phrases : Program → List Note → List Entry → List Phrase
body_phrases model notes entries = Phrase.Head ∷ (map Phrase.Note notes ++ entries_phrases model [] entries)

-- a report
abbrev pub report_phrases : Program → Report → List Phrase
report_phrases model report = body_phrases model report.notes report.entries ++ Phrase.Foot ∷ []

-- ---- its text
-- the lines of phrases; an edit changes no name, so those of the program at first serve for all
abbrev pub lines_of : Program → List Phrase → List Line
lines_of model phrases = map (phrase_line model) phrases

-- the lines of a report
abbrev pub report_lines : Program → Report → List Line
report_lines model report = lines_of model (report_phrases model report)

-- the text of lines: byte 10 ends each
abbrev pub text_of : List Line → List ℕ
text_of lines = flat_map (λ line. line ++ 10 ∷ []) lines

-- the text of phrases
abbrev pub phrases_text : Program → List Phrase → List ℕ
phrases_text model phrases = text_of (lines_of model phrases)
