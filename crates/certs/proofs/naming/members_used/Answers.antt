use Rattle.std.proofs.Common.{◌≡◌, ◌<◌, ◌≤◌, refl, sym, subst, false, List, [], take, length, get_or}
use Rattle.std.specs.List.{list_any}
use Rattle.std.proofs.lemmas.List.{take_all}
use Rattle.certs.specs.declared.evidence.Node.{Node}
use Rattle.certs.specs.Named.{IsPartBy, IsOfSize, node_uses}
use Rattle.certs.proofs.Parted.{part_none, part_more, part_all}
use Rattle.certs.proofs.naming.members_used.Goals as goal

pub loop-node-init : goal.loop-node-init
loop-node-init c =
    let set = c.args.set.now in
    let start : c.in_ok-used.used ≡ record set { members = [] } = c.in_ok-used.ensures in
    record {
      sized = subst (IsOfSize set) (sym start) (record { rows = refl; columns = refl });
      part = subst (IsPartBy set (λ m. false)) (sym start) (part_none set);
    }

pub loop-node-preserved : goal.loop-node-preserved
loop-node-preserved c =
    let set = c.args.set.now in
    let nodes = c.args.proof.now.nodes in
    let i = c.loop-node.node-index in
    let node = c.node-item.result in
    let same : c.as_slice-node-items.result.now ≡ nodes = c.as_slice-node-items.ensures in
    record {
      sized = c.insert_used.ensures.sized;
      part = part_more node_uses nodes i node set c.insert_used.new.used (λ m. false) (subst (λ (l : List Node). i < length l) same c.loop-node-test.true) (subst (λ (l : List Node). node ≡ get_or l i node) same c.node-item.is)
          (c.insert_used.ensures.part (λ m. list_any (node_uses m) (take i nodes)) c.loop-node.invariant.part);
    }

pub returns : goal.returns
returns c =
    let set = c.args.set.now in
    let nodes = c.args.proof.now.nodes in
    let all : length nodes ≤ c.loop-node.node-index = subst (λ (l : List Node). length l ≤ c.loop-node.node-index) c.as_slice-node-items.ensures c.loop-node-test.false in
    part_all set c.loop-node.used nodes c.stands_in_order.ensures.possible (subst (λ (l : List Node). IsPartBy set (λ m. list_any (node_uses m) l) c.loop-node.used) (take_all c.loop-node.node-index nodes all) c.loop-node.invariant.part)
