-- Laws of the ends of trees.
use Rattle.std.specs.Prelude.{◌≡◌, ℕ, Bool, true, false, List, Ok, Err}
use Rattle.lp_model.specs.declared.members.Member.{Member}
use Rattle.lp_model.specs.Program.{Program}
use Rattle.certs.specs.declared.evidence.Node.{Node}
use Rattle.certs.specs.declared.solving.Stop.{Stop}
use Rattle.certs.specs.declared.solving.Stop.TheVariants.{Memory}
use Rattle.certs.specs.declared.solving.Verdict.{Verdict}
use Rattle.certs.specs.Answers.{IsReferenceAnswer, IsTreeAnswer}
use Rattle.certs.specs.Sites.{Budgets, IsStopped}
use Rattle.certs.specs.Trees.{TreeEnd, HasTree, IsTree}

-- Two trees of one set, with the same pivots and the same nodes to take, take the same nodes and end alike.
abbrev pub OneTreeEndLaw : Type 0
OneTreeEndLaw = (model : Program) (set : List Member) (pivots most : ℕ) (nodes other : List Node) (end other_end : TreeEnd) → IsTree model set pivots most nodes end → IsTree model set pivots most other other_end
    → (nodes ≡ other) × (end ≡ other_end)

-- whether a tree ends with neither a point nor a proof
abbrev pub is_stopped : TreeEnd → Bool
is_stopped (TreeEnd.Found values) = false
is_stopped TreeEnd.Closed = false
is_stopped (TreeEnd.TooWide on step operation) = true
is_stopped (TreeEnd.OutOfPivots on) = true
is_stopped TreeEnd.OutOfNodes = true

-- where the tree of a set answers with a verdict, no tree of it stops
abbrev pub VerdictLaw : Type 0
VerdictLaw = (model : Program) (budgets : Budgets) (set : List Member) (verdict : Verdict) → IsTreeAnswer model budgets set (Ok verdict)
    → (end : TreeEnd) → HasTree model set budgets.pivots budgets.nodes end → is_stopped end ≡ false

-- and where it answers with a stop, and not for want of memory, each does
abbrev pub StopLaw : Type 0
StopLaw = (model : Program) (budgets : Budgets) (set : List Member) (stop : Stop) → (stop ≡ Memory → ⊥) → IsTreeAnswer model budgets set (Err stop)
    → (end : TreeEnd) → HasTree model set budgets.pivots budgets.nodes end → is_stopped end ≡ true

-- a stop that the reference answers is that of its run, or of its tree
abbrev pub AnsweredStopLaw : Type 0
AnsweredStopLaw = (model : Program) (budgets : Budgets) (set : List Member) (stop : Stop) → (stop ≡ Memory → ⊥) → IsReferenceAnswer model budgets set (Err stop) → IsStopped model budgets stop
