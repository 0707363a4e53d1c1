use Rattle.std.proofs.Common.{◌∙◌, ap}
use Rattle.certs.specs.Alternative.{members_of}
use Rattle.certs.proofs.Possible.{known_nodes}
use Rattle.quick_answers.proofs.Weighings.{leaf_listed}
use Rattle.quick_answers.proofs.cheapest.members_of_leaf.Goals as goal

pub members_used-requires : goal.members_used-requires
members_used-requires c = known_nodes c.args.model.now c.args.set.now c.args.proof.now.nodes c.stands_in_order.ensures.possible c.requires.refutes

pub returns : goal.returns
returns c =
    let combo = c.in_ok-combo.combo.now in
    leaf_listed c.args.model.now c.args.set.now combo c.args.proof.now c.in-Ok.members c.in_ok-combo.ensures c.requires.same c.requires.refutes c.in-Ok.ensures
    (c.are_listed.ensures c.if-not-are_listed.false ∙ ap members_of c.as_slice.ensures)
