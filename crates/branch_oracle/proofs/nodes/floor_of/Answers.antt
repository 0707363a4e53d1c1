use Rattle.std.proofs.Common.{◌≡◌, false, sym, subst, ap, ◌∙◌, FitsSigned, rules}
use Rattle.std.proofs.lemmas.Int.{to_z-of_z}
use lib.IntN.{ℤ, pos, neg_ℤ}
use lib.Signed.{◌<ℤ◌, ◌≤ℤ◌}
use mir.Syntax.{w128}
use Rattle.rational.specs.Rational.{floor}
use Rattle.frac128.specs.Limit.{limit}
use Rattle.frac128.specs.Width.{is_too_wide}
use Rattle.branch_oracle.proofs.Floors.{floor_above, floor_below}
use Rattle.branch_oracle.proofs.nodes.floor_of.Goals as goal

pub returns-clause-fitting : goal.returns-clause-fitting
returns-clause-fitting c = λ column.
    let z : ℤ = c.floor.result in
    let fits : FitsSigned w128 z = search rules in
    let is = to_z-of_z w128 z fits ∙ c.floor.ensures ∙ ap floor c.widen.ensures.value in
    let narrow : is_too_wide limit c.args.value ≡ false = c.widen.ensures.fits in (
      subst (λ (k : ℤ). neg_ℤ (pos limit) ≤ℤ k) (sym is) (floor_above limit c.args.value narrow),
      subst (λ (k : ℤ). k <ℤ pos limit) (sym is) (floor_below limit c.args.value narrow c.requires),
    )
