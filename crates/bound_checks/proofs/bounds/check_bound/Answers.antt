use Rattle.std.proofs.Common.{◌≡◌}
use Rattle.frac128.specs.Limit.{limit}
use Rattle.certs.specs.Checks.{outcome, bound_steps}
use Rattle.certs.specs.declared.evidence.Checked.TheVariants.{Yes}
use Rattle.bound_checks.proofs.bounds.check_bound.Goals as goal

pub returns-clause-valid : goal.returns-clause-valid
returns-clause-valid c = λ yes.
    let model = c.args.model.now in
    let taken : outcome (bound_steps model c.args.set.now.members c.args.dual.now.combo.shares c.args.dual.now.bound) ≡ Yes = cc in
    c.bound_is_valid.ensures model c.args.set.now.members c.args.dual.now.combo.shares c.args.dual.now.bound
    (c.checked_bound.ensures limit model c.args.set.now.members c.args.dual.now.combo.shares c.args.dual.now.bound c.row_count-rows.ensures.well_formed taken)
