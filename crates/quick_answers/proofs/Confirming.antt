-- What a check that says yes confirms.
use Rattle.std.proofs.Common.{◌≡◌, ◌+◌, ◌<◌, ℕ, ap, sym, ◌∙◌, subst, true, List, [], ◌∷◌, ◌++◌, length, get_or, take}
use Rattle.std.specs.Prelude.{All}
use Rattle.std.proofs.lemmas.List.{take_more}
use Rattle.std.proofs.lemmas.List.Elements.{All-append, All-cons, All-nil}
use Rattle.frac128.specs.Limit.{limit}
use Rattle.lp_model.specs.declared.members.Member.{Member}
use Rattle.lp_model.specs.Program.{Program, IsWellFormed}
use Rattle.lp_model.specs.Satisfaction.{values_at}
use Rattle.certs.specs.declared.evidence.Branch.{Branch}
use Rattle.certs.specs.declared.evidence.Checked.TheVariants.{Yes}
use Rattle.certs.specs.declared.evidence.Combo.{Combo}
use Rattle.certs.specs.declared.evidence.Node.TheVariants.{Leaf}
use Rattle.certs.specs.declared.evidence.Point.{Point}
use Rattle.certs.specs.declared.evidence.Proof.{Proof}
use Rattle.certs.specs.declared.evidence.Share.{Share}
use Rattle.certs.specs.declared.solving.Verdict.TheVariants.{Infeasible}
use Rattle.certs.specs.Checks.{outcome, point_steps, combination_steps}
use Rattle.certs.specs.Combination.{IsCombination}
use Rattle.certs.specs.declared.evidence.Node.{Node}
use Rattle.certs.proofs.PlainOrder.{in_order_by_test}
use Rattle.certs.specs.Order.{are_in_order, AreLeavesInOrder, AreSharesInOrder, IsNodeInOrder}
use Rattle.certs.specs.Proof.{Tip, IsFittingNode}
use Rattle.certs.specs.Tales.{IsPointOf}
use Rattle.certs.proofs.Passed.{point_check_law, combination_check_law}
use Rattle.quick_answers.specs.Answers.{IsConfirmed}

-- a point
pub point_confirmed : (model : Program) (set : List Member) (point : Point) → length point.values ≡ length model.columns → Yes ≡ outcome (point_steps model set (values_at point.values)) → IsPointOf model set point
point_confirmed model set point each said = record { each_column = each; satisfies = point_check_law limit model set (values_at point.values) (sym said) }

-- a combination
pub combo_confirmed : (model : Program) (set : List Member) (path : List Branch) (shares : List Share) → IsWellFormed model → All (λ b. b.column < length model.columns) path → Yes ≡ outcome (combination_steps model set path shares)
    → IsCombination model set path shares
combo_confirmed model set path shares formed known said = combination_check_law limit model set path shares formed known (sym said)

-- and the proof of one leaf that it is
pub leaf_confirmed : (model : Program) (set : List Member) (combo : Combo) (proof : Proof) → IsCombination model set [] combo.shares → AreSharesInOrder combo.shares → proof.nodes ≡ Leaf combo ∷ [] → IsConfirmed model set (Infeasible proof)
leaf_confirmed model set combo proof combination ordered is = (
  record { tree = Tip combo.shares; listed = sym is; proves = combination },
  (
    subst AreLeavesInOrder (sym is) (All-cons IsNodeInOrder (Leaf combo) [] ordered (All-nil IsNodeInOrder)),
    subst (All IsFittingNode) (sym is) (All-cons IsFittingNode (Leaf combo) [] tt (All-nil IsFittingNode)),
  ),
)

-- a node whose shares pass the test of their order
pub node_ordered : (shares : List Share) (node : Node) (combo : Combo) → node ≡ Leaf combo → shares ≡ combo.shares → are_in_order shares ≡ true → IsNodeInOrder node
node_ordered shares node combo is same e = subst IsNodeInOrder (sym is) (in_order_by_test combo.shares (subst (λ (l : List Share). are_in_order l ≡ true) same e))

-- one node more of which the shares stand in order
pub leaves_more : (nodes : List Node) (i : ℕ) (node : Node) → i < length nodes → node ≡ get_or nodes i node → IsNodeInOrder node → AreLeavesInOrder (take i nodes) → AreLeavesInOrder (take (i + 1) nodes)
leaves_more nodes i node within is ordered before =
    subst AreLeavesInOrder (sym (take_more nodes i node within ∙ ap (λ (n : Node). take i nodes ++ n ∷ []) (sym is)))
    (All-append IsNodeInOrder (take i nodes) (node ∷ []) before (All-cons IsNodeInOrder node [] ordered (All-nil IsNodeInOrder)))
