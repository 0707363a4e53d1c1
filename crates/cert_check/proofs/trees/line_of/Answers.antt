use Rattle.std.proofs.Common.{◌≡◌, ◌+◌, List, take, drop, length, flat_map, arith}
use Rattle.std.proofs.lemmas.List.{at_drop_all}
use Rattle.certs.specs.declared.evidence.Node.{Node}
use Rattle.report_text.specs.Grammar.{node_phrases}
use Rattle.cert_check.proofs.Numbers.{front_lines, next_lines}
use Rattle.cert_check.proofs.trees.line_of.Goals as goal

pub node_length-line-requires : goal.node_length-line-requires
node_length-line-requires c =
    let front = take c.args.n c.args.nodes.now in
    let i = c.loop-node.node-index in
    let more = next_lines node_phrases front i c.node-item.result c.loop-node-test.true c.node-item.is in
    let few = front_lines node_phrases c.args.n c.args.nodes.now in
    let kept : c.loop-node.line + length (flat_map node_phrases (drop i front)) ≡ c.args.first + length (flat_map node_phrases front) = c.loop-node.invariant in
    omega (arith, more, few, kept, c.requires.short)

pub overflow_add-line : goal.overflow_add-line
overflow_add-line c =
    let front = take c.args.n c.args.nodes.now in
    let i = c.loop-node.node-index in
    let more = next_lines node_phrases front i c.node-item.result c.loop-node-test.true c.node-item.is in
    let few = front_lines node_phrases c.args.n c.args.nodes.now in
    let kept : c.loop-node.line + length (flat_map node_phrases (drop i front)) ≡ c.args.first + length (flat_map node_phrases front) = c.loop-node.invariant in
    omega (arith, more, few, kept, c.requires.short, c.node_length-line.ensures)

pub loop-node-preserved : goal.loop-node-preserved
loop-node-preserved c =
    let front = take c.args.n c.args.nodes.now in
    let i = c.loop-node.node-index in
    let more = next_lines node_phrases front i c.node-item.result c.loop-node-test.true c.node-item.is in
    let kept : c.loop-node.line + length (flat_map node_phrases (drop i front)) ≡ c.args.first + length (flat_map node_phrases front) = c.loop-node.invariant in
    omega (arith, more, kept, c.node_length-line.ensures)

pub returns : goal.returns
returns c =
    let front = take c.args.n c.args.nodes.now in
    let i = c.loop-node.node-index in
    let none : length (flat_map node_phrases (drop i front)) ≡ 0 = at_drop_all (λ (z : List Node). length (flat_map node_phrases z)) front i c.loop-node-test.false in
    let kept : c.loop-node.line + length (flat_map node_phrases (drop i front)) ≡ c.args.first + length (flat_map node_phrases front) = c.loop-node.invariant in
    omega (arith, none, kept)
