-- The active members that a proof uses, and what it names.
use Rattle.std.proofs.Common.{◌≡◌, ◌<◌, ℕ, refl, sym, ◌∙◌, ap, subst, Bool, true, false, true≢false, cond, not, ◌&&◌, ◌==◌, List, [], ◌∷◌, ◌++◌, length, option_map, Some, Result, Ok, Err}
use Rattle.std.specs.List.{list_any}
use Rattle.std.specs.Prelude.{All, Contains, IfOk, IsSome}
use Rattle.std.proofs.lemmas.Bool.{and_parts, eqb-true}
use Rattle.std.proofs.lemmas.List.Elements.{All-weaker, All-contains, All-contains_itself, All-filter, All-nil, All-cons, All-head, All-tail, All-append}
use lib.IntN.{pos, ◌+ℤ◌}
use Rattle.rational.specs.Rational.{whole, zero_ℚ, ◌<ℚ◌}
use Rattle.lp_model.specs.declared.members.Member.{Member}
use Rattle.lp_model.specs.Program.{Program}
use Rattle.lp_model.specs.Members.{active_members}
use Rattle.lp_model.specs.MemberSets.{SetValue, IsPossibleIn, active_set}
use Rattle.lp_model.specs.Satisfaction.{IsPart}
use Rattle.certs.specs.declared.evidence.Branch.{Branch}
use Rattle.certs.specs.declared.evidence.Source.{Source}
use Rattle.certs.specs.declared.evidence.Source.TheVariants.{Member as Of, Below, Above}
use Rattle.certs.specs.declared.evidence.Node.{Node}
use Rattle.certs.specs.declared.evidence.Node.TheVariants.{Split, Leaf}
use Rattle.certs.specs.declared.evidence.Proof.{Proof}
use Rattle.certs.specs.Checks.{IsSetOf}
use Rattle.certs.specs.Combination.{IsFrom, IsThere, source_number, least_upper, greatest_lower, lesser, greater}
use Rattle.certs.specs.Proof.{IsProof, IsFittingNode, IsTreeProof, Tree, at_least, at_most, preorder}
use Rattle.certs.specs.Proof.Tree.{Tip, Fork}
use Rattle.certs.specs.Named.{node_uses, used_set}
use Rattle.certs.specs.Order.{AreLeavesInOrder}
use Rattle.certs.specs.Sites.{Budgets}
use Rattle.certs.specs.System.{VariableShare}
use Rattle.branch_proof.proofs.Nodes.{mark_known}
use Rattle.filter_steps.proofs.Proofs.{proof_of_used}
use Rattle.report_printer.specs.Printing.{IsKnownSource, IsKnownNode}
use Rattle.presolve_laws.specs.Answers.{IsLeafOf, set_system}
use Rattle.presolve_laws.specs.Eased.{DecidesBy}
use Rattle.report_text.specs.declared.report.Answer.{Answer}
use Rattle.analysis.specs.Answers.{IsRefutedBy}
use Rattle.analysis.specs.Right.{IsSolved, IsReduction, IsRefutation, TreeCloses}

-- a proof of the active members refutes those that it uses
pub refutes : (model : Program) (proof : Proof) (printed : SetValue) → IsProof model (active_members model) proof.nodes → AreLeavesInOrder proof.nodes → All IsFittingNode proof.nodes → printed ≡ used_set (active_set model) proof.nodes → IsRefutation model printed proof
refutes model proof printed p ordered fits same = record {
  proves = subst (λ (set : SetValue). IsProof model set.members proof.nodes) (sym same) (proof_of_used model (active_set model) proof.nodes p);
  ordered = ordered;
  fits = fits;
  used = same;
}

-- as an answer it is right to a check
pub solved_refuted : (model : Program) (budgets : Budgets) (proof : Proof) {E : Type 0} (result : Result Answer E) → IfOk result (IsRefutedBy model proof) → TreeCloses model budgets proof → IfOk result (IsSolved model budgets)
solved_refuted model budgets proof (Ok answer) (printed, (e, h)) closes = subst (IsSolved model budgets) (sym e) (h, closes)
solved_refuted model budgets proof (Err error) h closes = tt

-- and to a reduction that decides
pub decided_refuted : (model : Program) (proof : Proof) (of : List VariableShare) → DecidesBy (set_system model (active_members model)) of → IsLeafOf model (active_members model) proof of
    → {E : Type 0} (result : Result Answer E) → IfOk result (IsRefutedBy model proof) → IfOk result (IsReduction model)
decided_refuted model proof of decides leaf (Ok answer) (printed, (e, h)) = subst (IsReduction model) (sym e) (h, (of, (decides, leaf)))
decided_refuted model proof of decides leaf (Err error) h = tt

-- ---- branches
-- a path with an upper branch on a column knows the column
upper_known : (n j : ℕ) (path : List Branch) → All (λ b. b.column < n) path → IsSome (option_map whole (least_upper path j)) → j < n
upper_known n j [] h s = absurd (true≢false (sym s))
upper_known n j (b ∷ path) h s = by (λ z. upper_known n j path (All-tail (λ (c : Branch). c.column < n) b path h) z) ((b.column == j) && b.upper) refl s
  where
    by : (IsSome (option_map whole (least_upper path j)) → j < n) → (t : Bool) → ((b.column == j) && b.upper) ≡ t → IsSome (option_map whole (cond t (Some (lesser b.at (least_upper path j))) (least_upper path j))) → j < n
    by rest true e s = subst (λ k. k < n) (eqb-true b.column j (and_parts (b.column == j) b.upper e).0) (All-head (λ (c : Branch). c.column < n) b path h)
    by rest false e s = rest s

-- and so does one with a lower branch
lower_known : (n j : ℕ) (path : List Branch) → All (λ b. b.column < n) path → IsSome (option_map whole (greatest_lower path j)) → j < n
lower_known n j [] h s = absurd (true≢false (sym s))
lower_known n j (b ∷ path) h s = by (λ z. lower_known n j path (All-tail (λ (c : Branch). c.column < n) b path h) z) ((b.column == j) && not b.upper) refl s
  where
    by : (IsSome (option_map whole (greatest_lower path j)) → j < n) → (t : Bool) → ((b.column == j) && not b.upper) ≡ t → IsSome (option_map whole (cond t (Some (greater b.at (greatest_lower path j))) (greatest_lower path j))) → j < n
    by rest true e s = subst (λ k. k < n) (eqb-true b.column j (and_parts (b.column == j) (not b.upper) e).0) (All-head (λ (c : Branch). c.column < n) b path h)
    by rest false e s = rest s

-- ---- what a proof of some members of the program names
module _ (model : Program) (part : List Member) (possible : All (IsPossibleIn (active_set model)) part) where
  pub known_source : (path : List Branch) (source : Source) → All (λ b. b.column < length model.columns) path → IsFrom part source → IsSome (source_number model path source) → IsKnownSource model source
  known_source path (Of m) known from number = All-contains (IsPossibleIn (active_set model)) part m possible from
  known_source path (Below j) known from number = upper_known (length model.columns) j path known number
  known_source path (Above j) known from number = lower_known (length model.columns) j path known number

  -- a node names columns and members of the program, and its weights are above 0
  abbrev pub IsSoundNode : Node → Type 0
  IsSoundNode (Split j k) = j < length model.columns
  IsSoundNode (Leaf combo) = All (λ s. IsKnownSource model s.source) combo.shares × All (λ s. zero_ℚ <ℚ s.weight) combo.shares

  pushed : (path : List Branch) (b : Branch) → b.column < length model.columns → All (λ c. c.column < length model.columns) path → All (λ c. c.column < length model.columns) (path ++ b ∷ [])
  pushed path b l h = All-append (λ (c : Branch). c.column < length model.columns) path (b ∷ []) h (All-cons (λ (c : Branch). c.column < length model.columns) b [] l (All-nil (λ (c : Branch). c.column < length model.columns)))

  sound_tree : (path : List Branch) (tree : Tree) → All (λ b. b.column < length model.columns) path → IsTreeProof model part path tree → All IsSoundNode (preorder tree)
  sound_tree path (Tip shares) known h =
      All-cons IsSoundNode (Leaf (record { shares = shares })) []
      (All-weaker (IsThere model part path) (λ s. IsKnownSource model s.source) (λ s t. known_source path s.source known t.from t.number) shares h.there, h.positive)
      (All-nil IsSoundNode)
  sound_tree path (Fork j k lower upper) known h =
      let on : j < length model.columns = mark_known model part j h.0 in
      All-cons IsSoundNode (Split j k) (preorder lower ++ preorder upper) on
      (All-append IsSoundNode (preorder lower) (preorder upper)
      (sound_tree (path ++ at_most j k ∷ []) lower (pushed path (at_most j k) on known) h.1)
      (sound_tree (path ++ at_least j (k +ℤ pos 1) ∷ []) upper (pushed path (at_least j (k +ℤ pos 1)) on known) h.2))

  pub sound_nodes : (nodes : List Node) → IsProof model part nodes → All IsSoundNode nodes
  sound_nodes nodes p = subst (All IsSoundNode) p.listed (sound_tree [] p.tree (All-nil (λ (b : Branch). b.column < length model.columns)) p.proves)

  sound_known : (node : Node) → IsSoundNode node → IsKnownNode model node
  sound_known (Split j k) h = h
  sound_known (Leaf combo) h = h.0

  pub known_nodes : (nodes : List Node) → IsProof model part nodes → All (IsKnownNode model) nodes
  known_nodes nodes p = All-weaker IsSoundNode (IsKnownNode model) sound_known nodes (sound_nodes nodes p)

-- the members used are ones of the program
pub used_of_model : (model : Program) (set : SetValue) (nodes : List Node) (used : SetValue) → set ≡ active_set model → used ≡ used_set set nodes → IsSetOf model used
used_of_model model set nodes used whole same = record {
  rows = ap (λ (l : SetValue). l.rows) same ∙ ap (λ (l : SetValue). l.rows) whole;
  columns = ap (λ (l : SetValue). l.columns) same ∙ ap (λ (l : SetValue). l.columns) whole;
}

-- and of the active ones
pub used_part : (model : Program) (nodes : List Node) → IsPart (used_set (active_set model) nodes).members (active_members model)
used_part model nodes = All-filter (λ (m : Member). list_any (node_uses m) nodes) (Contains (active_members model)) (active_members model) (All-contains_itself (active_members model))

pub used_within : (model : Program) (printed : SetValue) (nodes : List Node) → printed ≡ used_set (active_set model) nodes → IsPart printed.members (active_members model)
used_within model printed nodes same = subst (λ (set : SetValue). IsPart set.members (active_members model)) (sym same) (used_part model nodes)
