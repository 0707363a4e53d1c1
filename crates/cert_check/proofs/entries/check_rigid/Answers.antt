use Rattle.std.proofs.Common.{◌∙◌, ap}
use Rattle.lp_model.specs.MemberSets.{SetValue}
use Rattle.certs.specs.Violation.{rigid_members}
use Rattle.cert_check.specs.Trials.{refuted_trials}
use Rattle.cert_check.specs.Stops.{first_stop}
use Rattle.cert_check.proofs.Firsts.{says_of}
use Rattle.cert_check.proofs.entries.check_rigid.Goals as goal

pub returns-clause-says : goal.returns-clause-says
returns-clause-says c =
    let model = c.args.model.now in
    let rigid = c.in-Ok-rigid_set.ensures.members ∙ ap (λ (s : SetValue). rigid_members model s.members) c.in-Ok.ensures.set in
    says_of _ _ c.check_refuted.result (ap (λ among. first_stop (refuted_trials model among c.args.line c.args.members.now c.args.proof.now)) rigid) c.check_refuted.ensures.says
