use Rattle.std.proofs.Common.{refl, true, false, FitsSigned, ap, ◌∙◌, Some, rules}
use Rattle.std.proofs.lemmas.Int.{to_z-of_z}
use Rattle.std.specs.Int.{w128}
use lib.IntN.{ℤ}
use Rattle.certs.proofs.Tightest.{tightest_more}
use Rattle.certs.proofs.paths.with_branch.Goals as goal

pub returns-then-branch : goal.returns-then-branch
returns-then-branch c = λ path is.
    let f : FitsSigned w128 c.args.branch.at = search rules in
    let g : FitsSigned w128 c.lesser.result = search rules in
    let e = to_z-of_z w128 _ g ∙ (rw (to_z-of_z w128 _ f) at c.lesser.ensures) in
    tightest_more path c.args.branch true c.if-branch.true c.args.tightest _ is (ap (λ (n : ℤ). Some n) e) refl

pub returns-else-branch : goal.returns-else-branch
returns-else-branch c = λ path is.
    let f : FitsSigned w128 c.args.branch.at = search rules in
    let g : FitsSigned w128 c.greater.result = search rules in
    let e = to_z-of_z w128 _ g ∙ (rw (to_z-of_z w128 _ f) at c.greater.ensures) in
    tightest_more path c.args.branch false c.if-branch.false c.args.tightest _ is refl (ap (λ (n : ℤ). Some n) e)
