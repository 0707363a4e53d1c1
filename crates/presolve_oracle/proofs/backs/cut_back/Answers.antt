use Rattle.std.proofs.Common.{length}
use Rattle.presolve_laws.specs.Answers.{set_system}
use Rattle.presolve_oracle.proofs.Returning.{back_of_system, given_back, given_shares, leaf_back}
use Rattle.presolve_oracle.proofs.backs.cut_back.Goals as goal

pub named_combo-requires-clause-of_system : goal.named_combo-requires-clause-of_system
named_combo-requires-clause-of_system c =
    let model = c.args.model.now in
    let set = c.args.set.now.members in
    let trace = c.args.trace.now in
    let n = length (set_system model set).columns in
    let m = length (set_system model set).rows in
    let of = c.requires.shares.0 in
    back_of_system model set trace.steps of c.in-Ok.back.shares
    (given_back trace n m of c.in-Ok.back.shares c.requires.trace (c.in-Ok.ensures of (given_shares trace n m of c.args.combo.now.shares c.requires.trace c.requires.shares.1)))

pub returns : goal.returns
returns c = λ of h.
    (let model = c.args.model.now in
    let set = c.args.set.now.members in
    let trace = c.args.trace.now in
    let n = length (set_system model set).columns in
    let m = length (set_system model set).rows in
    leaf_back model set trace.steps of c.in-Ok.back.shares c.in_ok-named.named c.in_ok-proof.proof
    (given_back trace n m of c.in-Ok.back.shares c.requires.trace (c.in-Ok.ensures of (given_shares trace n m of c.args.combo.now.shares c.requires.trace h)))
    c.in_ok-named.ensures.shares c.in_ok-proof.ensures)
