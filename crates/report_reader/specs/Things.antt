-- The things of a report that are read, and how one is found in what a line says.
use Rattle.std.specs.Prelude.{◌≡◌, ℕ, suc, ◌+◌, ◌-◌, nat_lt, nat_le, Bool, true, false, ◌&&◌, ◌||◌, List, [], ◌∷◌, ◌++◌, map, flat_map, cond, Option, Some, None, is_some, unwrap_or, All, Result, Ok, Err}
use Rattle.std.specs.List.{list_all}
use Rattle.rational.specs.Rational.{ℚ, zero_ℚ, eq_ℚ}
use Rattle.lp_model.specs.Program.{Program, noted_column}
use Rattle.lp_model.specs.declared.parts.Note.{Note}
use Rattle.lp_model.specs.declared.members.Member.{Member}
use Rattle.lp_model.specs.Members.{comes_before, exists, is_active}
use Rattle.certs.specs.declared.evidence.Branch.{Branch}
use Rattle.certs.specs.declared.evidence.Share.{Share}
use Rattle.certs.specs.declared.evidence.Point.{Point}
use Rattle.certs.specs.declared.evidence.Node.{Node}
use Rattle.certs.specs.declared.evidence.Node.TheVariants.{Split, Leaf}
use Rattle.certs.specs.declared.evidence.Proof.{Proof}
use Rattle.certs.specs.declared.solving.SiteKind.{SiteKind}
use Rattle.certs.specs.Order.{source_before}
use Rattle.frac128.specs.declared.Wide.{Wide as Operation}
use Rattle.reductions.specs.declared.steps.ReduceStep.{ReduceStep}
use Rattle.report_text.specs.declared.report.Asks.{Asks}
use Rattle.report_text.specs.declared.report.Command.{Command}
use Rattle.report_text.specs.declared.report.Method.{Method}
use Rattle.report_text.specs.declared.report.Answer.{Answer}
use Rattle.report_text.specs.declared.report.ToldSite.{ToldSite}
use Rattle.report_text.specs.declared.phrases.Phrase.{Phrase}
use Rattle.report_text.specs.declared.phrases.StopPhrase.{StopPhrase}
use Rattle.report_text.specs.Grammar.{value_phrases, node_phrases, witness_phrases, objective_phrases, rounds_phrases, price_phrases, branch_phrase, answer_phrases}
use Rattle.report_text.specs.Form.{IsPointFor, IsNodeFor, AreUses, AreMembers, AreLeftOut, AreEnforced, IsNamedBranch, IsNamedColumn, IsStepFor, IsProofFor, IsWithinLimit, IsValueWithin, IsCount, IsCountWithin, IsPricedFor, IsOperation, IsAnswerFor, is_one_leaf, has_rounds, has_price, refuses, asks_of, can_answer}
use Rattle.report_reader.specs.declared.reader.ReportStop.{ReportStop}
use Rattle.report_reader.specs.declared.answers.Opening.{Opening}
use Rattle.report_reader.specs.declared.cursor.Word.{Word}
use Rattle.report_reader.specs.declared.lists.Listing.{Listing}
use Rattle.report_reader.specs.declared.numbers.Number.{Number}
use Rattle.report_reader.specs.Kinds.{Kind, word, one, both, list, next_in, is_there}

-- ---- what a line says
-- what is found in what the next line says
abbrev pub found : {X : Type 0} → (Phrase → Option X) → Result Phrase ReportStop → Option X
found find (Ok q) = find q
found find (Err stop) = None

-- a phrase without numbers and names
abbrev pub phrase_of : Word → Phrase
phrase_of Word.Head = Phrase.Head
phrase_of Word.Feasible = Phrase.Feasible
phrase_of Word.Infeasible = Phrase.Infeasible
phrase_of Word.Irreducible = Phrase.Irreducible
phrase_of Word.Unbounded = Phrase.Unbounded
phrase_of Word.Bounded = Phrase.Bounded
phrase_of Word.Least = Phrase.Least
phrase_of Word.RigidInfeasible = Phrase.RigidInfeasible
phrase_of Word.Reduced = Phrase.Reduced
phrase_of Word.Wide = Phrase.Stop StopPhrase.Wide
phrase_of Word.Spent = Phrase.Stop StopPhrase.Spent
phrase_of Word.Nodes = Phrase.Stop StopPhrase.Nodes
phrase_of Word.Point = Phrase.Point
phrase_of Word.Ray = Phrase.Ray
phrase_of Word.Dual = Phrase.Dual
phrase_of Word.Price = Phrase.Price
phrase_of Word.Proof = Phrase.Proof
phrase_of Word.End = Phrase.End

-- whether a phrase is this one
abbrev pub is_word : Word → Phrase → Bool
is_word Word.Head Phrase.Head = true
is_word Word.Feasible Phrase.Feasible = true
is_word Word.Infeasible Phrase.Infeasible = true
is_word Word.Irreducible Phrase.Irreducible = true
is_word Word.Unbounded Phrase.Unbounded = true
is_word Word.Bounded Phrase.Bounded = true
is_word Word.Least Phrase.Least = true
is_word Word.RigidInfeasible Phrase.RigidInfeasible = true
is_word Word.Reduced Phrase.Reduced = true
is_word Word.Wide (Phrase.Stop StopPhrase.Wide) = true
is_word Word.Spent (Phrase.Stop StopPhrase.Spent) = true
is_word Word.Nodes (Phrase.Stop StopPhrase.Nodes) = true
is_word Word.Point Phrase.Point = true
is_word Word.Ray Phrase.Ray = true
is_word Word.Dual Phrase.Dual = true
is_word Word.Price Phrase.Price = true
is_word Word.Proof Phrase.Proof = true
is_word Word.End Phrase.End = true
is_word word q = false

-- whether the next line says it
abbrev pub says_word : Word → Result Phrase ReportStop → Bool
says_word word (Ok q) = is_word word q
says_word word (Err stop) = false

-- a fraction alone
abbrev pub number_phrase : Number → ℚ → Phrase
number_phrase Number.Objective v = Phrase.Objective v
number_phrase Number.Bound v = Phrase.Bound v
number_phrase Number.Total v = Phrase.Total v

abbrev pub number_of : Number → Phrase → Option ℚ
number_of Number.Objective (Phrase.Objective v) = Some v
number_of Number.Bound (Phrase.Bound v) = Some v
number_of Number.Total (Phrase.Total v) = Some v
number_of number q = None

abbrev pub rounds_of : Phrase → Option ℕ
rounds_of (Phrase.Rounds n) = Some n
rounds_of q = None

abbrev pub turn_of : Phrase → Option ℕ
turn_of (Phrase.Stop (StopPhrase.Step k)) = Some k
turn_of q = None

abbrev pub left_of : Phrase → Option (ℕ × ℕ)
left_of (Phrase.Left rows columns) = Some (rows, columns)
left_of q = None

abbrev pub site_of : Phrase → Option SiteKind
site_of (Phrase.Stop (StopPhrase.Site kind)) = Some kind
site_of q = None

abbrev pub operation_of : Phrase → Option Operation
operation_of (Phrase.Stop (StopPhrase.Operation o)) = Some o
operation_of q = None

abbrev pub value_of : Phrase → Option (ℕ × ℚ)
value_of (Phrase.Value j v) = Some (j, v)
value_of q = None

abbrev pub share_of : Phrase → Option Share
share_of (Phrase.Use s) = Some s
share_of q = None

abbrev pub branch_of : Phrase → Option Branch
branch_of (Phrase.Stop (StopPhrase.Branch b)) = Some b
branch_of q = None

abbrev pub step_of : Phrase → Option ReduceStep
step_of (Phrase.Reduction s) = Some s
step_of q = None

abbrev pub command_of : Phrase → Option Command
command_of (Phrase.Command c) = Some c
command_of q = None

abbrev pub note_of : Phrase → Option Note
note_of (Phrase.Note note) = Some note
note_of q = None

-- a member of a list of this kind
abbrev pub member_phrase : Listing → Member → Phrase
member_phrase Listing.Listed m = Phrase.Member m
member_phrase Listing.LeftOut m = Phrase.Stop (StopPhrase.Without m)
member_phrase Listing.Enforced m = Phrase.Stop (StopPhrase.Enforced m)

abbrev pub member_of : Listing → Phrase → Option Member
member_of Listing.Listed (Phrase.Member m) = Some m
member_of Listing.LeftOut (Phrase.Stop (StopPhrase.Without m)) = Some m
member_of Listing.Enforced (Phrase.Stop (StopPhrase.Enforced m)) = Some m
member_of listing q = None

-- ---- numbers alone
abbrev pub number : Number → Kind
number n = one ℚ (number_phrase n) IsWithinLimit

abbrev pub rounds : Kind
rounds = one ℕ Phrase.Rounds IsCount

abbrev pub turn : Kind
turn = one ℕ (λ k. Phrase.Stop (StopPhrase.Step k)) IsCount

abbrev pub left : Kind
left = one (ℕ × ℕ) (λ n. Phrase.Left n.0 n.1) (λ n. IsCount n.0 × IsCount n.1)

abbrev pub operation : Kind
operation = one Operation (λ o. Phrase.Stop (StopPhrase.Operation o)) IsOperation

abbrev pub site_kind : Kind
site_kind = one SiteKind (λ kind. Phrase.Stop (StopPhrase.Site kind)) (λ kind. Unit {0})

-- ---- lists
-- each list has an order: an element comes after all before it
abbrev pub may_use : List Share → Share → Bool
may_use shares s = list_all (λ t. source_before t.source s.source) shares

-- a member of a site is active, or is there
abbrev pub may_stand : Program → Listing → Member → Bool
may_stand model Listing.Listed m = true
may_stand model Listing.LeftOut m = is_active model m
may_stand model Listing.Enforced m = exists model m

abbrev pub may_list : Program → Listing → List Member → Member → Bool
may_list model listing members m = may_stand model listing m && list_all (λ n. comes_before n m) members

-- but branches, steps and notes stand in any order
abbrev pub may_any : {X : Type 0} → List X → X → Bool
may_any xs x = true

abbrev pub uses : Program → Kind
uses model = list Share Phrase.Use share_of may_use (AreUses model)

abbrev pub AreListed : Program → Listing → List Member → Type 0
AreListed model Listing.Listed members = AreMembers model members
AreListed model Listing.LeftOut members = AreLeftOut model members
AreListed model Listing.Enforced members = AreEnforced model members

abbrev pub members : Program → Listing → Kind
members model listing = list Member (member_phrase listing) (member_of listing) (may_list model listing) (AreListed model listing)

abbrev pub branches : Program → Kind
branches model = list Branch branch_phrase branch_of may_any (All (IsNamedBranch model))

abbrev pub steps : Program → Kind
steps model = list ReduceStep Phrase.Reduction step_of may_any (All (IsStepFor model))

abbrev pub notes : Program → Kind
notes model = list Note Phrase.Note note_of may_any (All (λ note. IsNamedColumn model (noted_column note)))

-- ---- points
-- the values that are not 0, each with its column; the first value is that of column j
abbrev pub nonzeros : ℕ → List ℚ → List (ℕ × ℚ)
nonzeros j [] = []
nonzeros j (v ∷ vs) = cond (eq_ℚ v zero_ℚ) (nonzeros (suc j) vs) ((j, v) ∷ nonzeros (suc j) vs)

abbrev pub may_value : List (ℕ × ℚ) → ℕ × ℚ → Bool
may_value values e = list_all (λ f. nat_lt f.0 e.0) values

-- the value that comes next behind so many
abbrev pub next_value : ℕ → Option (ℕ × ℚ) → Option (ℕ × ℚ)
next_value n None = None
next_value n (Some e) = cond (nat_le n e.0) (Some e) None

-- whether a value behind these goes on with them
abbrev pub more_values : List ℚ → Phrase → Bool
more_values values q = is_there (next_in may_value (nonzeros 0 values) (value_of q))

-- the values of a point, without the line before them
abbrev pub values : Program → Kind
values model = record { Value = Point; IsFor = IsPointFor model; said = λ p. value_phrases 0 p.values; goes_on = λ p q. more_values p.values q }

-- the point of values
abbrev pub point_at : List ℚ → Point
point_at vs = record { values = vs }

abbrev pub point : Program → Kind
point model = both (word Phrase.Point) (values model)

-- ---- proofs
-- whether a phrase goes on with nodes: a use, with the leaf that is the last of them
abbrev pub nodes_on : List Node → Phrase → Bool
nodes_on [] q = false
nodes_on (Split j k ∷ []) q = false
nodes_on (Leaf combo ∷ []) q = is_there (next_in may_use combo.shares (share_of q))
nodes_on (n ∷ o ∷ ns) q = nodes_on (o ∷ ns) q

-- the nodes of a proof, which is one leaf where there may be no split
abbrev pub tree : Program → Bool → Kind
tree model splits = record {
  Value = List Node;
  IsFor = λ ns. IsProofFor model (record { nodes = ns }) × (splits ≡ false → is_one_leaf ns ≡ true);
  said = flat_map node_phrases;
  goes_on = nodes_on;
}

abbrev pub proof : Program → Bool → Kind
proof model splits = both (word Phrase.Proof) (tree model splits)

-- the node that a phrase begins, without shares, where it may stand
abbrev pub node_of : Bool → Phrase → Option Node
node_of true (Phrase.Split j k) = Some (Split j k)
node_of splits Phrase.Leaf = Some (Leaf (record { shares = [] }))
node_of splits q = None

-- whether a node is a leaf
abbrev pub is_leaf : Node → Bool
is_leaf (Split j k) = false
is_leaf (Leaf combo) = true

-- the next line begins one
abbrev pub IsBegun : Bool → Result Phrase ReportStop → Type 0
IsBegun splits ahead = (n : Node) × (found (node_of splits) ahead ≡ Some n)

-- how many subtrees are due behind a node that takes the place of one
abbrev pub due_after : ℕ → Node → ℕ
due_after due (Split j k) = due + 1
due_after due (Leaf combo) = due - 1

-- one node
abbrev pub node : Program → Bool → Kind
node model splits = record {
  Value = Node;
  IsFor = λ n. IsNodeFor model n × (splits ≡ false → is_one_leaf (n ∷ []) ≡ true);
  said = node_phrases;
  goes_on = λ n q. nodes_on (n ∷ []) q;
}

-- ---- sets with witnesses
-- whether a value goes on with the last witness
abbrev pub last_on : List (Member × Point) → Phrase → Bool
last_on [] q = false
last_on (w ∷ []) q = more_values w.1.values q
last_on (w ∷ v ∷ ws) q = last_on (v ∷ ws) q

-- members in order, each with a point
pub record AreWitnessed (model : Program) (pairs : List (Member × Point)) : Type 0 where
  pub members : AreMembers model (map (λ w. w.0) pairs)
  pub points : All (IsPointFor model) (map (λ w. w.1) pairs)

abbrev pub witnessed : Program → Kind
witnessed model = record {
  Value = List (Member × Point);
  IsFor = AreWitnessed model;
  said = flat_map witness_phrases;
  goes_on = λ ws q. is_there (next_in (may_list model Listing.Listed) (map (λ w. w.0) ws) (member_of Listing.Listed q)) || last_on ws q;
}

-- how many rounds were made, or a total and its price, by the method
abbrev pub tail : Program → Method → Kind
tail model method = record {
  Value = Option ℕ × Option (ℚ × Point);
  IsFor = λ t. ((has_rounds method t.0 && has_price method t.1) ≡ true) × (IsCountWithin t.0 × IsPricedFor model t.1);
  said = λ t. rounds_phrases t.0 ++ price_phrases t.1;
  goes_on = λ t q. goes_on t.1 q;
}
  where
    goes_on : Option (ℚ × Point) → Phrase → Bool
    goes_on None q = false
    goes_on (Some p) q = more_values p.1.values q

-- ---- bounds
-- the objective's value, where it is told
abbrev pub objective : Kind
objective = record { Value = Option ℚ; IsFor = IsValueWithin; said = objective_phrases; goes_on = goes_on }
  where
    goes_on : Option ℚ → Phrase → Bool
    goes_on None q = is_there (number_of Number.Objective q)
    goes_on (Some v) q = false

-- the shares of a dual, and the end of its answer
abbrev pub dual : Program → Kind
dual model = both (word Phrase.Dual) (both (uses model) (word Phrase.End))

abbrev pub price : Program → Kind
price model = both (number Number.Total) (both (word Phrase.Price) (values model))

abbrev pub site : Program → Kind
site model = both site_kind (both (members model Listing.LeftOut) (both (members model Listing.Enforced) (branches model)))

-- what is read of a site
abbrev pub site_read : ToldSite → SiteKind × (List Member × (List Member × List Branch))
site_read s = (s.kind, (s.left, (s.enforced, s.path)))

-- ---- answers, each behind its word
abbrev pub feasible : Program → Kind
feasible model = both (word Phrase.Feasible) (both (point model) (word Phrase.End))

abbrev pub refuted : Program → Word → Bool → Kind
refuted model w splits = both (word (phrase_of w)) (both (members model Listing.Listed) (both (proof model splits) (word Phrase.End)))

abbrev pub irreducible : Program → Method → Kind
irreducible model method = both (word Phrase.Irreducible) (both (witnessed model) (both (proof model true) (both (tail model method) (word Phrase.End))))

abbrev pub unbounded : Program → Kind
unbounded model = both (word Phrase.Unbounded) (both (point model) (both (word Phrase.Ray) (both (values model) (word Phrase.End))))

abbrev pub bounded : Program → Kind
bounded model = both (word Phrase.Bounded) (both (point model) (both objective (both (number Number.Bound) (dual model))))

abbrev pub least : Program → Kind
least model = both (word Phrase.Least) (both (number Number.Total) (both (point model) (dual model)))

abbrev pub reduced : Program → Kind
reduced model = both (word Phrase.Reduced) (both (steps model) (both left (word Phrase.End)))

abbrev pub too_wide : Program → Kind
too_wide model = both (word (Phrase.Stop StopPhrase.Wide)) (both (site model) (both turn (both operation (word Phrase.End))))

abbrev pub spent : Program → Word → Kind
spent model w = both (word (phrase_of w)) (both (site model) (word Phrase.End))

-- an answer that the command may have
abbrev pub answer : Program → Command → Kind
answer model command = record {
  Value = Answer;
  IsFor = λ a. IsAnswerFor model a × (can_answer command a ≡ true);
  said = answer_phrases model;
  goes_on = λ a q. false;
}

-- a phrase, and the end
abbrev pub ended : Phrase → Kind
ended p = both (word p) (word Phrase.End)

-- ---- what an answer may begin with
abbrev pub stop_opening : StopPhrase → Option Opening
stop_opening StopPhrase.Wide = Some Opening.Wide
stop_opening StopPhrase.Spent = Some Opening.Spent
stop_opening StopPhrase.Nodes = Some Opening.Nodes
stop_opening (StopPhrase.Large size) = Some (Opening.Large size)
stop_opening p = None

abbrev pub opening : Phrase → Option Opening
opening Phrase.Feasible = Some Opening.Feasible
opening Phrase.Infeasible = Some Opening.Infeasible
opening Phrase.Irreducible = Some Opening.Irreducible
opening Phrase.Unbounded = Some Opening.Unbounded
opening Phrase.Bounded = Some Opening.Bounded
opening Phrase.Least = Some Opening.Least
opening Phrase.RigidInfeasible = Some Opening.RigidInfeasible
opening Phrase.Reduced = Some Opening.Reduced
opening Phrase.Done = Some Opening.Done
opening (Phrase.Refused r) = Some (Opening.Refused r)
opening (Phrase.NotLinear j) = Some (Opening.NotLinear j)
opening (Phrase.Stop s) = stop_opening s
opening q = None

-- the phrase that it is
abbrev pub opening_phrase : Opening → Phrase
opening_phrase Opening.Feasible = Phrase.Feasible
opening_phrase Opening.Infeasible = Phrase.Infeasible
opening_phrase Opening.Irreducible = Phrase.Irreducible
opening_phrase Opening.Unbounded = Phrase.Unbounded
opening_phrase Opening.Bounded = Phrase.Bounded
opening_phrase Opening.Least = Phrase.Least
opening_phrase Opening.RigidInfeasible = Phrase.RigidInfeasible
opening_phrase Opening.Reduced = Phrase.Reduced
opening_phrase Opening.Wide = Phrase.Stop StopPhrase.Wide
opening_phrase Opening.Spent = Phrase.Stop StopPhrase.Spent
opening_phrase Opening.Nodes = Phrase.Stop StopPhrase.Nodes
opening_phrase (Opening.Large size) = Phrase.Stop (StopPhrase.Large size)
opening_phrase Opening.Done = Phrase.Done
opening_phrase (Opening.Refused r) = Phrase.Refused r
opening_phrase (Opening.NotLinear j) = Phrase.NotLinear j

-- a proof in which nothing is used
abbrev pub no_leaf : Proof
no_leaf = record { nodes = Leaf (record { shares = [] }) ∷ [] }

-- whether an answer of these kinds may begin so
abbrev pub begins_by : Asks → Opening → Bool
begins_by k Opening.Feasible = k.point
begins_by k Opening.Infeasible = k.infeasible
begins_by k Opening.Irreducible = is_some k.search
begins_by k Opening.Unbounded = k.objective
begins_by k Opening.Bounded = k.objective
begins_by k Opening.Least = k.least
begins_by k Opening.RigidInfeasible = k.least
begins_by k Opening.Reduced = k.reduced
begins_by k Opening.Wide = k.stops
begins_by k Opening.Spent = k.stops
begins_by k Opening.Nodes = k.stops
begins_by k (Opening.Large size) = k.stops
begins_by k Opening.Done = k.done
begins_by k (Opening.Refused r) = refuses k r
begins_by k (Opening.NotLinear j) = k.linear

-- whether an answer to the command may
abbrev pub may_begin : Command → Opening → Bool
may_begin command o = begins_by (asks_of command) o

-- whether a proof in an answer to it may have a split
abbrev pub may_split : Command → Bool
may_split command = (asks_of command).splits

-- how an irreducible set is looked for
abbrev pub method_of : Command → Method
method_of command = unwrap_or (asks_of command).search Method.Deletion
