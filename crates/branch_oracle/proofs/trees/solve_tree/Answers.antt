use Rattle.std.proofs.Common.{◌≡◌, ◌<◌, ◌+◌, ◌-◌, ℕ, refl, sym, ◌∙◌, subst, ap, Bool, List, [], ◌∷◌, ◌++◌, if◌then◌else◌, length, arith, Ok, Err}
use Rattle.std.specs.Prelude.{All}
use Rattle.std.proofs.lemmas.List.Elements.{All-append, All-cons, All-nil, All-weaker}
use Rattle.std.proofs.lemmas.Result.{err_from_is_err_and}
use Rattle.certs.specs.declared.evidence.Branch.{Branch}
use Rattle.certs.specs.declared.evidence.Node.{Node}
use Rattle.certs.specs.Combination.{IsFitting}
use Rattle.certs.specs.Proof.{IsFittingNode}
use Rattle.certs.specs.Sites.{Budgets}
use Rattle.certs.specs.Tales.{OracleState}
use Rattle.certs.specs.Trees.{IsTree, TreeEnd, child_paths}
use Rattle.branch_proof.specs.Pending.{AreKnown, IsTurnable, pending}
use Rattle.branch_oracle.specs.declared.nodes.Step.{Step}
use Rattle.branch_oracle.specs.Steps.{IsFurtherNode, IsStep}
use Rattle.branch_oracle.proofs.TakenNodes.{AreTaken, closed_then, ends_then, moved_step, one_left, one_taken, out_then, start_taken, stops_then}
use Rattle.branch_oracle.proofs.trees.solve_tree.Goals as goal

pub loop-node-init : goal.loop-node-init
loop-node-init g c =
    let budgets : Budgets = record { pivots = (g.B.Oracle.state c.args.inner.now).budgets.pivots; nodes = c.args.nodes } in
    record {
      untold = refl;
      turnable = subst (λ (l : List Branch). All IsTurnable l) (sym c.new-path.ensures) (All-nil IsTurnable);
      known = subst (λ (l : List Branch). AreKnown (length c.args.model.now.columns) l) (sym c.new-path.ensures) (All-nil (λ (b : Branch). b.column < length c.args.model.now.columns));
      counted = omega arith;
      fits = subst (All IsFittingNode) (sym c.new-list.ensures.items) (All-nil IsFittingNode);
      left =
          subst (λ (l : List Branch). AreTaken c.args.model.now c.args.set.now.members budgets c.new-list.result.items (c.args.nodes - 0) (l ∷ pending l)) (sym c.new-path.ensures)
          (subst (λ (l : List Node). AreTaken c.args.model.now c.args.set.now.members budgets l (c.args.nodes - 0) ([] ∷ [])) (sym c.new-list.ensures.items)
          (start_taken c.args.model.now c.args.set.now.members budgets (c.args.nodes - 0) (omega arith)));
    }

pub take_node-requires-clause-program : goal.take_node-requires-clause-program
take_node-requires-clause-program g c = ap (λ (s : OracleState). s.model) c.loop-node.invariant.untold ∙ c.requires.program

pub take_node-requires-clause-known : goal.take_node-requires-clause-known
take_node-requires-clause-known g c = c.loop-node.invariant.known

pub returns-in_err-point-clause-ends : goal.returns-in_err-point-clause-ends
returns-in_err-point-clause-ends g c =
    let model = c.args.model.now in
    let set = c.args.set.now.members in
    let budgets : Budgets = record { pivots = (g.B.Oracle.state c.args.inner.now).budgets.pivots; nodes = c.args.nodes } in
    let path = c.loop-node.path in
    let done = c.loop-node.list.items in
    let most : ℕ = c.args.nodes - (c.loop-node._node + 1) in
    let stop = c.in_err-point.field-0.0 in
    let taken = subst (λ (n : ℕ). AreTaken model set budgets done n (path ∷ pending path)) (one_left c.args.nodes c.loop-node._node c.loop-node-test.true) c.loop-node.invariant.left in
    let pivots_are = ap (λ (s : OracleState). s.budgets.pivots) c.loop-node.invariant.untold in
    let step = moved_step model set _ _ _ (Err stop) pivots_are c.in_err-point.ensures.step in
    let p = err_from_is_err_and c.from_residual.result c.from_residual.ensures.1 in
    let fits = All-weaker IsTurnable IsFitting (λ b t. t.fitting) path c.loop-node.invariant.turnable in
    rw (p.1, p.2) (stops_then model set budgets done most path (pending path) stop c.loop-node.invariant.known fits taken step)

pub returns-in_err-point-clause-untold : goal.returns-in_err-point-clause-untold
returns-in_err-point-clause-untold g c = c.in_err-point.ensures.untold ∙ c.loop-node.invariant.untold

pub returns-in_err-point-clause-taken : goal.returns-in_err-point-clause-taken
returns-in_err-point-clause-taken g c = let before = c.loop-node.invariant.counted in let more = c.with_one_more.ensures in omega (arith, before, more)

pub returns-in-Found-clause-ends : goal.returns-in-Found-clause-ends
returns-in-Found-clause-ends g c =
    let model = c.args.model.now in
    let set = c.args.set.now.members in
    let budgets : Budgets = record { pivots = (g.B.Oracle.state c.args.inner.now).budgets.pivots; nodes = c.args.nodes } in
    let path = c.loop-node.path in
    let done = c.loop-node.list.items in
    let most : ℕ = c.args.nodes - (c.loop-node._node + 1) in
    let taken = subst (λ (n : ℕ). AreTaken model set budgets done n (path ∷ pending path)) (one_left c.args.nodes c.loop-node._node c.loop-node-test.true) c.loop-node.invariant.left in
    let pivots_are = ap (λ (s : OracleState). s.budgets.pivots) c.loop-node.invariant.untold in
    let step = moved_step model set _ _ _ (Ok c.in_ok-point.field-0) pivots_are c.in_ok-point.ensures.step in
    let found = subst (λ (s : Step). IsStep model set budgets.pivots path (Ok s)) c.in-Found.is step in
    ends_then model set budgets done most path (pending path) (TreeEnd.Found c.in-Found.point.values) taken found

pub returns-in-Found-clause-untold : goal.returns-in-Found-clause-untold
returns-in-Found-clause-untold g c = c.in_ok-point.ensures.untold ∙ c.loop-node.invariant.untold

pub returns-in-Found-clause-taken : goal.returns-in-Found-clause-taken
returns-in-Found-clause-taken g c = let before = c.loop-node.invariant.counted in let more = c.with_one_more.ensures in omega (arith, before, more)

pub go_further-requires-clause-turnable : goal.go_further-requires-clause-turnable
go_further-requires-clause-turnable g c = c.loop-node.invariant.turnable

pub returns-in_default-clause-untold : goal.returns-in_default-clause-untold
returns-in_default-clause-untold g c = c.in_ok-point.ensures.untold ∙ c.loop-node.invariant.untold

pub returns-in_default-clause-taken : goal.returns-in_default-clause-taken
returns-in_default-clause-taken g c = let before = c.loop-node.invariant.counted in let more = c.with_one_more.ensures in omega (arith, before, more)

pub returns-then-not-is_more-clause-ends : goal.returns-then-not-is_more-clause-ends
returns-then-not-is_more-clause-ends g c =
    let model = c.args.model.now in
    let set = c.args.set.now.members in
    let budgets : Budgets = record { pivots = (g.B.Oracle.state c.args.inner.now).budgets.pivots; nodes = c.args.nodes } in
    let path = c.loop-node.path in
    let done = c.loop-node.list.items in
    let node = c.in-Further.node in
    let next = c.go_further.new.path in
    let most : ℕ = c.args.nodes - (c.loop-node._node + 1) in
    let taken = subst (λ (n : ℕ). AreTaken model set budgets done n (path ∷ pending path)) (one_left c.args.nodes c.loop-node._node c.loop-node-test.true) c.loop-node.invariant.left in
    let pivots_are = ap (λ (s : OracleState). s.budgets.pivots) c.loop-node.invariant.untold in
    let step = moved_step model set _ _ _ (Ok c.in_ok-point.field-0) pivots_are c.in_ok-point.ensures.step in
    let further : IsFurtherNode model set budgets.pivots path node = subst (λ (s : Step). IsStep model set budgets.pivots path (Ok s)) c.in-Further.is step in
    let none : child_paths path node ++ pending path ≡ [] = c.in-Ok.ensures.next ∙ ap (λ (b : Bool). if b then next ∷ pending next else []) c.if-not-is_more.true in
    let fits = All-append IsFittingNode done (node ∷ []) c.loop-node.invariant.fits (All-cons IsFittingNode node [] further.fitting (All-nil IsFittingNode)) in
    subst (λ (l : List Node). IsTree model set budgets.pivots budgets.nodes l TreeEnd.Closed × All IsFittingNode l) (sym (c.new.ensures ∙ c.in-Ok.ensures.listed))
    (closed_then model set budgets (done ++ node ∷ []) most (one_taken model set budgets done most path (pending path) [] node further.is none taken), fits)

pub returns-then-not-is_more-clause-untold : goal.returns-then-not-is_more-clause-untold
returns-then-not-is_more-clause-untold g c = c.in_ok-point.ensures.untold ∙ c.loop-node.invariant.untold

pub returns-then-not-is_more-clause-taken : goal.returns-then-not-is_more-clause-taken
returns-then-not-is_more-clause-taken g c = let before = c.loop-node.invariant.counted in let more = c.with_one_more.ensures in omega (arith, before, more)

pub loop-node-preserved : goal.loop-node-preserved
loop-node-preserved g c =
    let model = c.args.model.now in
    let set = c.args.set.now.members in
    let budgets : Budgets = record { pivots = (g.B.Oracle.state c.args.inner.now).budgets.pivots; nodes = c.args.nodes } in
    let path = c.loop-node.path in
    let done = c.loop-node.list.items in
    let node = c.in-Further.node in
    let next = c.go_further.new.path in
    let most : ℕ = c.args.nodes - (c.loop-node._node + 1) in
    let taken = subst (λ (n : ℕ). AreTaken model set budgets done n (path ∷ pending path)) (one_left c.args.nodes c.loop-node._node c.loop-node-test.true) c.loop-node.invariant.left in
    let pivots_are = ap (λ (s : OracleState). s.budgets.pivots) c.loop-node.invariant.untold in
    let step = moved_step model set _ _ _ (Ok c.in_ok-point.field-0) pivots_are c.in_ok-point.ensures.step in
    let further : IsFurtherNode model set budgets.pivots path node = subst (λ (s : Step). IsStep model set budgets.pivots path (Ok s)) c.in-Further.is step in
    let some : child_paths path node ++ pending path ≡ next ∷ pending next = c.in-Ok.ensures.next ∙ ap (λ (b : Bool). if b then next ∷ pending next else []) c.if-not-is_more.false in
    record {
      untold = c.in_ok-point.ensures.untold ∙ c.loop-node.invariant.untold;
      turnable = c.in-Ok.ensures.turnable;
      known = c.in-Ok.ensures.known (length model.columns) further.known c.loop-node.invariant.known;
      counted = (let before = c.loop-node.invariant.counted in let more = c.with_one_more.ensures in omega (arith, before, more));
      fits =
          subst (All IsFittingNode) (sym c.in-Ok.ensures.listed)
          (All-append IsFittingNode done (node ∷ []) c.loop-node.invariant.fits (All-cons IsFittingNode node [] further.fitting (All-nil IsFittingNode)));
      left =
          subst (λ (l : List Node). AreTaken model set budgets l most (next ∷ pending next)) (sym c.in-Ok.ensures.listed)
          (one_taken model set budgets done most path (pending path) (next ∷ pending next) node further.is some taken);
    }

pub returns-clause-ends : goal.returns-clause-ends
returns-clause-ends g c =
    let model = c.args.model.now in
    let set = c.args.set.now.members in
    let budgets : Budgets = record { pivots = (g.B.Oracle.state c.args.inner.now).budgets.pivots; nodes = c.args.nodes } in
    let path = c.loop-node.path in
    let done = c.loop-node.list.items in
    let past = c.loop-node-test.false in
    let none : c.args.nodes - c.loop-node._node ≡ 0 = omega (arith, past) in
    let taken = subst (λ (n : ℕ). AreTaken model set budgets done n (path ∷ pending path)) none c.loop-node.invariant.left in
    c.out_of_nodes.ensures model budgets c.requires.same (out_then model set budgets done path (pending path) taken)

pub returns-clause-untold : goal.returns-clause-untold
returns-clause-untold g c = c.loop-node.invariant.untold

pub returns-clause-taken : goal.returns-clause-taken
returns-clause-taken g c = c.loop-node.invariant.counted
