use Rattle.std.proofs.Common.{◌≡◌}
use Rattle.frac128.specs.Limit.{limit}
use Rattle.lp_model.specs.Satisfaction.{values_at}
use Rattle.certs.specs.Checks.{outcome, point_steps}
use Rattle.certs.specs.declared.evidence.Checked.TheVariants.{Yes}
use Rattle.certs.proofs.Sound.{satisfiable_law}
use Rattle.certs.proofs.points.check_point.Goals as goal

-- src/points.rt:17:1
pub returns-clause-sound : goal.returns-clause-sound
returns-clause-sound c = λ yes.
    let model = c.args.model.now in
    let taken : outcome (point_steps model c.args.set.now.members (values_at c.args.point.now.values)) ≡ Yes = cc in
    satisfiable_law limit model c.args.set.now.members c.args.point.now.values taken
