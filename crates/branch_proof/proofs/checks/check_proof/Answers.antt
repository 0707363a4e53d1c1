use Rattle.std.proofs.Common.{◌≡◌, refl, ◌<◌, ◌≤◌, ◌+◌, ap, sym, ◌∙◌, subst, Bool, List, [], ◌∷◌, ◌++◌, if◌then◌else◌, drop, length, get_or, arith}
use Rattle.certs.specs.declared.evidence.Branch.{Branch}
use Rattle.certs.specs.declared.evidence.Checked.{Checked}
use Rattle.certs.specs.declared.evidence.Checked.TheVariants.{Yes as Passes, No as Fails, Wide as TooWide}
use Rattle.certs.specs.declared.evidence.Node.{Node}
use Rattle.branch_proof.specs.declared.checks.Judged.TheVariants.{Yes, No, Wide}
use Rattle.certs.specs.Trees.{child_paths}
use Rattle.branch_proof.specs.Walk.{judgement, node_check, unless_failed, walk}
use Rattle.branch_proof.specs.Pending.{pending}
use Rattle.branch_proof.proofs.Nodes.{passes_known}
use Rattle.branch_proof.proofs.Judgements.{at_node, told, ends_whole, ends_early, ends_open}
use Rattle.branch_proof.proofs.checks.check_proof.Goals as goal
use Rattle.branch_proof.proofs.checks.check_proof.Goals.{After-check_node}

-- what the check of a node says leads to the judgement of all
here : (c : After-check_node) (k : Checked) → k ≡ node_check c.args.model.now c.args.set.now.members c.loop-n.path c.index-nodes-n.result
    → unless_failed c.loop-n.n k
    (walk c.args.model.now c.args.set.now.members (c.loop-n.n + 1) (child_paths c.loop-n.path c.index-nodes-n.result ++ pending c.loop-n.path) (drop (c.loop-n.n + 1) c.args.proof.now.nodes))
    ≡ judgement c.args.model.now c.args.set.now.members c.args.proof.now.nodes
here c k found =
    let nodes = c.args.proof.now.nodes in
    let n = c.loop-n.n in
    let path = c.loop-n.path in
    let node = c.index-nodes-n.result in
    at_node c.args.model.now c.args.set.now.members nodes n path (pending path) node k (subst (λ (l : List Node). n < length l) c.as_slice-nodes.ensures c.loop-n-test.true)
    (c.index-nodes-n.is ∙ ap (λ (l : List Node). get_or l n node) c.as_slice-nodes.ensures) c.loop-n.invariant.left found

pub returns-in-No : goal.returns-in-No
returns-in-No c =
    told c.args.model.now c.args.set.now.members c.args.proof.now.nodes (No c.loop-n.n) c.row_count-rows.ensures.well_formed (here (goal.at.returns-in-No c).After-check_node Fails c.in-No.ensures.said)

pub returns-in-Wide : goal.returns-in-Wide
returns-in-Wide c =
    let w = c.in-Wide.wide in
    told c.args.model.now c.args.set.now.members c.args.proof.now.nodes (Wide c.loop-n.n w) c.row_count-rows.ensures.well_formed (here (goal.at.returns-in-Wide c).After-check_node (TooWide w) c.in-Wide.ensures.said)

pub returns-then-n-nodes : goal.returns-then-n-nodes
returns-then-n-nodes c =
    let model = c.args.model.now in
    let set = c.args.set.now.members in
    let nodes = c.args.proof.now.nodes in
    let n = c.loop-n.n in
    let none = c.in_ok-go_on.ensures.next ∙ ap (λ (b : Bool). if b then c.go_on.new.path ∷ pending c.go_on.new.path else []) c.if-not-branch.true in
    let left = sym (ap (λ (l : List (List Branch)). walk model set (n + 1) l (drop (n + 1) nodes)) none) ∙ here (goal.at.returns-then-n-nodes c).After-check_node Passes c.in-Yes.ensures.said in
    let last : length nodes ≤ n + 1 = subst (λ (l : List Node). length l ≤ n + 1) c.as_slice-nodes.ensures (omega arith) in
    told model set nodes Yes c.row_count-rows.ensures.well_formed (ends_whole model set nodes (n + 1) last left)

pub returns-then-not-branch : goal.returns-then-not-branch
returns-then-not-branch c =
    let model = c.args.model.now in
    let set = c.args.set.now.members in
    let nodes = c.args.proof.now.nodes in
    let n = c.loop-n.n in
    let none = c.in_ok-go_on.ensures.next ∙ ap (λ (b : Bool). if b then c.go_on.new.path ∷ pending c.go_on.new.path else []) c.if-not-branch.true in
    let left = sym (ap (λ (l : List (List Branch)). walk model set (n + 1) l (drop (n + 1) nodes)) none) ∙ here (goal.at.returns-then-not-branch c).After-check_node Passes c.in-Yes.ensures.said in
    let more : n + 1 < length nodes = subst (λ (l : List Node). n + 1 < length l) c.as_slice-nodes.ensures (omega arith) in
    let count = ap (λ (l : List Node). No (length l)) c.as_slice-nodes.ensures in
    told model set nodes (No (length c.as_slice-nodes.result.now)) c.row_count-rows.ensures.well_formed (count ∙ ends_early model set nodes (n + 1) more left)

pub loop-n-preserved : goal.loop-n-preserved
loop-n-preserved c =
    let model = c.args.model.now in
    let set = c.args.set.now.members in
    let n = c.loop-n.n in
    let path = c.loop-n.path in
    let node = c.index-nodes-n.result in
    let next = c.go_on.new.path in
    let some = c.in_ok-go_on.ensures.next ∙ ap (λ (b : Bool). if b then next ∷ pending next else []) c.if-not-branch.false in
    record {
      zeros = c.in-Yes.ensures.zeros refl;
      turnable = c.in_ok-go_on.ensures.turnable;
      known = c.in_ok-go_on.ensures.known (length model.columns) (passes_known model set path node c.in-Yes.ensures.said) c.loop-n.invariant.known;
      left =
          sym (ap (λ (l : List (List Branch)). walk model set (n + 1) l (drop (n + 1) c.args.proof.now.nodes)) some)
          ∙ here (goal.at.loop-n-preserved c).After-check_node Passes c.in-Yes.ensures.said;
    }

pub returns : goal.returns
returns c =
    let model = c.args.model.now in
    let set = c.args.set.now.members in
    let nodes = c.args.proof.now.nodes in
    let path = c.loop-n.path in
    let all : c.loop-n.n ≡ length nodes = subst (λ (l : List Node). c.loop-n.n ≡ length l) c.as_slice-nodes.ensures (omega arith) in
    let count = ap (λ (l : List Node). No (length l)) c.as_slice-nodes.ensures in
    told model set nodes (No (length c.as_slice-nodes.result.now)) c.row_count-rows.ensures.well_formed (count ∙ ends_open model set nodes c.loop-n.n path (pending path) all c.loop-n.invariant.left)
