use Rattle.std.proofs.Common.{subst, ◌≡◌}
use Rattle.frac128.specs.Limit.{limit}
use Rattle.certs.specs.Checks.{outcome, combination_steps}
use Rattle.certs.specs.declared.evidence.Branch.{Branch}
use Rattle.certs.specs.declared.evidence.Checked.TheVariants.{Yes}
use Rattle.certs.proofs.Sound.{refuted_law, unsatisfiable_law}
use Rattle.certs.proofs.combinations.check_leaf.Goals as goal
use Rattle.std.specs.Prelude.{List}

pub returns-clause-sound : goal.returns-clause-sound
returns-clause-sound c = λ yes.
    let model = c.args.model.now in
    let taken : outcome (combination_steps model c.args.set.now.members c.args.path.now c.args.combo.now.shares) ≡ Yes = cc in
    refuted_law limit model c.args.set.now.members c.args.path.now c.args.combo.now.shares c.row_count-rows.ensures.well_formed c.requires.known taken

pub returns-clause-unsatisfiable : goal.returns-clause-unsatisfiable
returns-clause-unsatisfiable c = λ yes. λ empty.
    let model = c.args.model.now in
    let taken : outcome (combination_steps model c.args.set.now.members c.args.path.now c.args.combo.now.shares) ≡ Yes = cc in
    unsatisfiable_law limit model c.args.set.now.members c.args.combo.now.shares c.row_count-rows.ensures.well_formed
    (subst (λ (path : List Branch). outcome (combination_steps model c.args.set.now.members path c.args.combo.now.shares) ≡ Yes) empty taken)
