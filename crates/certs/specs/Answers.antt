-- What an oracle's answer is an answer of, and what that is for an oracle that makes runs of plain systems, and trees of them.
use Rattle.std.specs.Prelude.{◌≡◌, ◌⊎◌, ⊤, ℕ, ◌<◌, Bool, true, false, not, List, [], ◌∷◌, length, Result, Ok, Err, All}
use Rattle.lp_model.specs.declared.members.Member.{Member}
use Rattle.lp_model.specs.Program.{Program, IsWellFormed}
use Rattle.lp_model.specs.MemberSets.{IsMemberFor}
use Rattle.certs.specs.declared.evidence.Combo.{Combo}
use Rattle.certs.specs.declared.evidence.Node.{Node}
use Rattle.certs.specs.declared.evidence.Node.TheVariants.{Leaf}
use Rattle.certs.specs.declared.evidence.Proof.{Proof}
use Rattle.certs.specs.declared.solving.Site.{Site}
use Rattle.certs.specs.declared.solving.Stop.{Stop}
use Rattle.certs.specs.declared.solving.Stop.TheVariants.{Wide, Pivots, Nodes, Large, Memory}
use Rattle.certs.specs.declared.solving.Verdict.{Verdict}
use Rattle.certs.specs.declared.solving.Verdict.TheVariants.{Feasible, Infeasible}
use Rattle.certs.specs.Combination.{IsFitting}
use Rattle.certs.specs.Named.{used_members}
use Rattle.certs.specs.Plain.{plain_system}
use Rattle.certs.specs.Proof.{IsFittingNode}
use Rattle.certs.specs.Solves.{SettlesAt, IsPlainCut}
use Rattle.certs.specs.Sites.{Budgets}
use Rattle.certs.specs.Trees.{TreeEnd, HasTree, IsTree, has_mark}
use Rattle.certs.specs.Tales.{IsNodeEnd, IsNodeSite, OracleState}

-- ---- by what is answered to which set
-- what is answered by an oracle that is so seen
abbrev pub AnswersAt : (Program → Budgets → List Member → Result Verdict Stop → Type 0) → OracleState → List Member → Result Verdict Stop → Type 0
AnswersAt answers state = answers state.model state.budgets

-- the nodes are those of a proof that was answered to an ask
pub record IsAnsweredProof (Answers : List Member → Result Verdict Stop → Type 0) (nodes : List Node) : Type 0 where
  pub asked : List Member
  pub proof : Proof
  pub answered : Answers asked (Ok (Infeasible proof))
  pub nodes_are : nodes ≡ proof.nodes

-- the stop was answered to an ask for the set; want of memory may come at any time
abbrev pub IsAnsweredStop : (List Member → Result Verdict Stop → Type 0) → List Member → Stop → Type 0
IsAnsweredStop Answers asked stop = (stop ≡ Memory) ⊎ Answers asked (Err stop)

-- these are the members that a proof uses which was answered to an ask for the set
pub record IsCoreBy (Answers : List Member → Result Verdict Stop → Type 0) (set core : List Member) : Type 0 where
  pub proof : Proof
  pub answered : Answers set (Ok (Infeasible proof))
  pub core_is : core ≡ used_members set proof.nodes

-- ---- by runs of plain systems
-- no member of the set is a mark
abbrev pub is_linear : List Member → Bool
is_linear set = not (has_mark set)

-- members of a well-formed program, and none is a mark
pub record IsPlainSet (model : Program) (set : List Member) : Type 0 where
  pub formed : IsWellFormed model
  pub known : All (IsMemberFor (length model.rows) (length model.columns)) set
  pub linear : is_linear set ≡ true

-- the proof is one leaf, the plain cut of the set
pub record IsPlainProof (model : Program) (set : List Member) (pivots : ℕ) (proof : Proof) : Type 0 where
  pub combo : Combo
  pub leaf : proof.nodes ≡ Leaf combo ∷ []
  pub cut : IsPlainCut model set [] pivots combo.shares

-- The run of the set's plain system settles at the point, or gives the one leaf of the proof, or stops so.
abbrev pub IsPlainVerdict : Program → List Member → ℕ → Result Verdict Stop → Type 0
IsPlainVerdict model set pivots (Ok (Feasible point)) = SettlesAt (plain_system model set [] false) pivots point.values
IsPlainVerdict model set pivots (Ok (Infeasible proof)) = IsPlainProof model set pivots proof
IsPlainVerdict model set pivots (Err stop) = IsNodeEnd model set [] pivots (Err stop)

-- that of such a set
pub record IsPlainAnswer (model : Program) (pivots : ℕ) (set : List Member) (result : Result Verdict Stop) : Type 0 where
  pub asked : IsPlainSet model set
  pub ends : IsPlainVerdict model set pivots result

-- ---- by trees
-- members of a well-formed program, and one is a mark
pub record IsMarkedSet (model : Program) (set : List Member) : Type 0 where
  pub formed : IsWellFormed model
  pub known : All (IsMemberFor (length model.rows) (length model.columns)) set
  pub marked : has_mark set ≡ true

-- The site is the node's on its path; the branches are on columns of the program, and their numbers fit.
pub record IsTreeSite (model : Program) (set : List Member) (site : Site) : Type 0 where
  pub node : IsNodeSite model set site.path site
  pub known : All (λ b. b.column < length model.columns) site.path
  pub fits : All IsFitting site.path

-- The tree of the set finds the point, or is closed with the nodes of the proof, whose numbers fit, or stops so. Want of memory may come at any time.
abbrev pub IsTreeVerdict : Program → Budgets → List Member → Result Verdict Stop → Type 0
IsTreeVerdict model budgets set (Ok (Feasible point)) = HasTree model set budgets.pivots budgets.nodes (TreeEnd.Found point.values)
IsTreeVerdict model budgets set (Ok (Infeasible proof)) = IsTree model set budgets.pivots budgets.nodes proof.nodes TreeEnd.Closed × All IsFittingNode proof.nodes
IsTreeVerdict model budgets set (Err (Wide site step operation)) = IsTreeSite model set site × HasTree model set budgets.pivots budgets.nodes (TreeEnd.TooWide site.path step operation)
IsTreeVerdict model budgets set (Err (Pivots site)) = IsTreeSite model set site × HasTree model set budgets.pivots budgets.nodes (TreeEnd.OutOfPivots site.path)
IsTreeVerdict model budgets set (Err (Nodes site)) = IsNodeSite model set [] site × HasTree model set budgets.pivots budgets.nodes TreeEnd.OutOfNodes
IsTreeVerdict model budgets set (Err (Large size)) = ⊥
IsTreeVerdict model budgets set (Err Memory) = ⊤

-- that of such a set
pub record IsTreeAnswer (model : Program) (budgets : Budgets) (set : List Member) (result : Result Verdict Stop) : Type 0 where
  pub asked : IsMarkedSet model set
  pub ends : IsTreeVerdict model budgets set result

-- a set without marks is answered by its run, and one with a mark by its tree
abbrev pub IsReferenceAnswer : Program → Budgets → List Member → Result Verdict Stop → Type 0
IsReferenceAnswer model budgets set result = IsPlainAnswer model budgets.pivots set result ⊎ IsTreeAnswer model budgets set result
