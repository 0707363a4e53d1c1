use Rattle.std.proofs.Common.{◌≡◌, ◌<◌, ◌≤◌, ◌+◌, sym, ◌∙◌, ap, subst, Bool, List, drop, get_or, length}
use Rattle.std.specs.List.{list_any}
use Rattle.lp_model.specs.declared.members.Member.{Member}
use Rattle.lp_model.specs.MemberSets.{SetValue, empty_set}
use Rattle.certs.specs.declared.evidence.Node.{Node}
use Rattle.certs.specs.Named.{IsKnownNode, node_uses}
use Rattle.cert_check.specs.Uses.{with_tested}
use Rattle.cert_check.proofs.Named.{node_known, put_all, put_next, tested_over}
use Rattle.cert_check.proofs.members.used_members.Goals as goal

pub loop-node-init : goal.loop-node-init
loop-node-init c =
    let start = c.in_ok-used.ensures in
    let model = c.args.model.now in
    record {
      rows = ap (λ (s : SetValue). s.rows) start;
      columns = ap (λ (s : SetValue). s.columns) start;
      left = ap (λ (s : SetValue). with_tested s (λ m. list_any (node_uses m) c.args.proof.now.nodes)) start;
    }

pub insert_node-requires : goal.insert_node-requires
insert_node-requires c =
    let i = c.loop-node.invariant in
    let n = c.loop-node.node-index in
    let node = c.node-item.result in
    let nodes = c.args.proof.now.nodes in
    let within : n < length nodes = subst (λ (l : List Node). n < length l) c.as_slice-node-items.ensures c.loop-node-test.true in
    let is : node ≡ get_or nodes n node = c.node-item.is ∙ ap (λ (l : List Node). get_or l n node) c.as_slice-node-items.ensures in
    node_known (empty_set c.args.model.now) c.loop-node.used node i.rows i.columns
    (subst (IsKnownNode (empty_set c.args.model.now)) (sym is) (c.requires n node within))

pub loop-node-preserved : goal.loop-node-preserved
loop-node-preserved c =
    let i = c.loop-node.invariant in
    let set = c.loop-node.used in
    let n = c.loop-node.node-index in
    let node = c.node-item.result in
    let nodes = c.args.proof.now.nodes in
    let next = c.insert_node.new.set in
    let rest : Member → Bool = λ m. list_any (node_uses m) (drop (n + 1) nodes) in
    let within : n < length nodes = subst (λ (l : List Node). n < length l) c.as_slice-node-items.ensures c.loop-node-test.true in
    let is : node ≡ get_or nodes n node = c.node-item.is ∙ ap (λ (l : List Node). get_or l n node) c.as_slice-node-items.ensures in
    record {
      rows = ap (λ (s : SetValue). s.rows) c.insert_node.ensures ∙ i.rows;
      columns = ap (λ (s : SetValue). s.columns) c.insert_node.ensures ∙ i.columns;
      left = put_next set node_uses nodes n node next within is (tested_over set (λ m. node_uses m node) rest next c.insert_node.ensures) ∙ i.left;
    }

pub returns-clause-used : goal.returns-clause-used
returns-clause-used c =
    let nodes = c.args.proof.now.nodes in
    let n = c.loop-node.node-index in
    let all : length nodes ≤ n = subst (λ (l : List Node). length l ≤ n) c.as_slice-node-items.ensures c.loop-node-test.false in
    ap (λ (s : SetValue). s.members) (sym (put_all c.loop-node.used node_uses nodes n all c.stands_in_order.ensures.possible) ∙ c.loop-node.invariant.left)
