use Rattle.std.proofs.Common.{◌≡◌, ◌<◌, ◌∙◌, false, ℕ, ◌-◌, suc, arith, sym, ap, subst}
use Rattle.report_reader.specs.declared.cursor.Cursor.{Cursor}
use Rattle.report_reader.specs.Kinds.{IsRead, Passes}
use Rattle.report_reader.specs.Things.{tree, due_after}
use Rattle.report_reader.proofs.Proofs.{ReadsNodes, nodes_start, nodes_more, nodes_smaller, nodes_wrong, nodes_end, node_some}
use Rattle.report_reader.proofs.evidence.read_tree.Goals as goal

pub loop-due-init : goal.loop-due-init
loop-due-init c = subst (λ l. ReadsNodes c.args.model.now c.args.splits c.args.cursor.now c.args.cursor.now l 1) (sym c.new-nodes.ensures.items) (nodes_start c.args.model.now c.requires.names c.args.splits c.args.cursor.now c.requires)

pub read_node-requires : goal.read_node-requires
read_node-requires c = c.loop-due.invariant.stands

pub pass-requires : goal.pass-requires
pass-requires c = c.read_node.ensures.stands

-- some subtree is due
one_due : (due : ℕ) → 0 < due → suc (due - 1) ≡ due
one_due due h = omega arith

pub due_behind-due-requires-clause-few : goal.due_behind-due-requires-clause-few
due_behind-due-requires-clause-few c =
    let begun = c.in-Some.ensures.read.0 in
    let next = node_some c.args.model.now c.requires.names c.args.splits c.loop-due.cursor.ahead begun.0 begun.1 in
    let few = (c.loop-due.invariant.grown next.0 next.1).1.0 in
    let small = c.loop-due.nodes.small in
    omega arith

pub loop-due-smaller : goal.loop-due-smaller
loop-due-smaller c =
    let begun = c.in-Some.ensures.read.0 in
    let next = node_some c.args.model.now c.requires.names c.args.splits c.loop-due.cursor.ahead begun.0 begun.1 in
    nodes_smaller c.args.model.now c.requires.names c.args.splits c.loop-due.cursor c.read_node.new.cursor c.push.new.self _ _ c.in-Some.node next.0 next.1 c.loop-due.invariant.stands c.in-Some.ensures.read.1 c.read_node.ensures.stands c.push.ensures

pub loop-due-preserved : goal.loop-due-preserved
loop-due-preserved c =
    let m = c.args.model.now in
    let s = c.args.splits in
    let begun = c.in-Some.ensures.read.0 in
    let next = node_some m c.requires.names s c.loop-due.cursor.ahead begun.0 begun.1 in
    let e = one_due c.loop-due.due c.loop-due-test.true in
    subst (λ (d : ℕ). ReadsNodes m s c.args.cursor.now c.push.new.self c.push.new.items.items d) (ap (λ d. due_after d c.in-Some.node) e ∙ sym c.due_behind-due.ensures)
    (nodes_more m c.requires.names s c.args.cursor.now c.loop-due.cursor c.read_node.new.cursor c.push.new.self _ _ (c.loop-due.due - 1) c.in-Some.node next.0 next.1
    (subst (λ (d : ℕ). ReadsNodes m s c.args.cursor.now c.loop-due.cursor c.loop-due.nodes.items d) (sym e) c.loop-due.invariant) c.in-Some.ensures.read.1 c.read_node.ensures.stands c.push.ensures)

pub returns-in_default-clause-read : goal.returns-in_default-clause-read
returns-in_default-clause-read c =
    let m = c.args.model.now in
    let s = c.args.splits in
    let none = c.in_default.ensures.read in
    let e = one_due c.loop-due.due c.loop-due-test.true in
    subst (IsRead m (tree m s) c.args.cursor.now c.pass.new.self) (sym c.new.ensures)
    (nodes_wrong m c.requires.names s c.args.cursor.now c.loop-due.cursor c.pass.new.self c.loop-due.nodes.items (c.loop-due.due - 1)
    (subst (λ (d : ℕ). ReadsNodes m s c.args.cursor.now c.loop-due.cursor c.loop-due.nodes.items d) (sym e) c.loop-due.invariant) none.0
    (subst (λ (z : Cursor). Passes m false z c.pass.new.self) none.1 c.pass.ensures.passes))

pub returns-clause-read : goal.returns-clause-read
returns-clause-read c =
    let m = c.args.model.now in
    let s = c.args.splits in
    let e : c.loop-due.due ≡ 0 = (let t = c.loop-due-test.false in omega arith) in
    subst (IsRead m (tree m s) c.args.cursor.now c.loop-due.cursor) (sym c.new-2.ensures)
    (nodes_end m c.requires.names s c.args.cursor.now c.loop-due.cursor c.loop-due.nodes.items (subst (λ (d : ℕ). ReadsNodes m s c.args.cursor.now c.loop-due.cursor c.loop-due.nodes.items d) e c.loop-due.invariant))

pub returns-clause-stands : goal.returns-clause-stands
returns-clause-stands c = c.loop-due.invariant.stands
