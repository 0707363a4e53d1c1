use Rattle.quick_answers.proofs.Weighings.{cheapest_shown, leaf_proves}
use Rattle.quick_answers.proofs.cheapest.core.Goals as goal

pub members_of_leaf-requires-clause-refutes : goal.members_of_leaf-requires-clause-refutes
members_of_leaf-requires-clause-refutes g c =
    leaf_proves c.args.model.now c.args.set.now.members c.args.found.combo c.in-Ok.proof (c.is_priced.ensures.combination c.if-not-is_priced.false) c.in-Ok.ensures

pub returns-clause-found : goal.returns-clause-found
returns-clause-found g c =
    let yes = c.if-not-is_priced.false in
    let priced = c.is_priced.ensures in
    let model = c.args.model.now in
    let set = c.args.set.now.members in
    let combo = c.args.found.combo in
    let proof = c.in-Ok.proof in
    let members = c.in_ok-members.members in
    let witnesses = c.in_ok-witnesses.ensures.found in
    record {
      combo = combo;
      leaf = c.in-Ok.ensures;
      cheapest = cheapest_shown model set combo proof members c.args.found.total c.args.found.price c.in_ok-witnesses.witnesses.items c.combination_refutes.ensures c.price_shows_cheapest.ensures c.in-Ok.ensures c.in_ok-members.ensures
          (priced.combination yes) (priced.ordered yes) (priced.cost yes) (priced.each yes) (priced.price yes) witnesses;
      witnesses = witnesses;
    }
