use Rattle.std.proofs.Common.{subst}
use Rattle.presolve_oracle.specs.Easing.{IsCutBack}
use Rattle.analysis.proofs.Leaving.{decided_ends, decided_fits, decided_leaf, decided_ordered, decided_proves, limits_given}
use Rattle.analysis.proofs.Refuting.{decided_refuted}
use Rattle.analysis.proofs.reducing.decided.Goals as goal

pub cut_back-requires-clause-shares : goal.cut_back-requires-clause-shares
cut_back-requires-clause-shares c = limits_given c.args.model.now c.args.set.now c.args.combo.now c.args.trace.now c.requires.formed c.requires.whole c.requires.decided

pub refuted-requires-clause-proof : goal.refuted-requires-clause-proof
refuted-requires-clause-proof c =
    let model = c.args.model.now in
    let set = c.args.set.now in
    let trace = c.args.trace.now in
    let leaf = decided_leaf model set c.args.combo.now trace c.requires.formed c.requires.whole c.requires.decided c.in-Some.proof (λ of h. subst (IsCutBack model set.members trace.steps of) c.in-Some.is (c.in_ok-proof.ensures of h)) in
    decided_proves model c.in-Some.proof c.requires.formed leaf

pub refuted-requires-clause-ordered : goal.refuted-requires-clause-ordered
refuted-requires-clause-ordered c =
    let model = c.args.model.now in
    let set = c.args.set.now in
    let trace = c.args.trace.now in
    let leaf = decided_leaf model set c.args.combo.now trace c.requires.formed c.requires.whole c.requires.decided c.in-Some.proof (λ of h. subst (IsCutBack model set.members trace.steps of) c.in-Some.is (c.in_ok-proof.ensures of h)) in
    decided_ordered model c.in-Some.proof c.requires.formed leaf

pub refuted-requires-clause-fits : goal.refuted-requires-clause-fits
refuted-requires-clause-fits c =
    let model = c.args.model.now in
    let set = c.args.set.now in
    let trace = c.args.trace.now in
    let leaf = decided_leaf model set c.args.combo.now trace c.requires.formed c.requires.whole c.requires.decided c.in-Some.proof (λ of h. subst (IsCutBack model set.members trace.steps of) c.in-Some.is (c.in_ok-proof.ensures of h)) in
    decided_fits model c.in-Some.proof c.requires.formed leaf

pub left_by-requires-clause-ends : goal.left_by-requires-clause-ends
left_by-requires-clause-ends c =
    let model = c.args.model.now in
    let set = c.args.set.now in
    let trace = c.args.trace.now in
    decided_ends model set c.args.combo.now trace c.requires.formed c.requires.whole c.requires.decided (λ of h. subst (IsCutBack model set.members trace.steps of) c.in-None.is (c.in_ok-proof.ensures of h))

pub returns-in-Some : goal.returns-in-Some
returns-in-Some c =
    let model = c.args.model.now in
    let set = c.args.set.now in
    let trace = c.args.trace.now in
    let leaf = decided_leaf model set c.args.combo.now trace c.requires.formed c.requires.whole c.requires.decided c.in-Some.proof (λ of h. subst (IsCutBack model set.members trace.steps of) c.in-Some.is (c.in_ok-proof.ensures of h)) in
    decided_refuted model c.in-Some.proof leaf.of leaf.decides leaf.leaf c.refuted.result c.refuted.ensures
