use Rattle.std.proofs.Common.{◌≡◌, map, subst}
use Rattle.lp_model.specs.MemberSets.{SetValue}
use Rattle.trace_back.specs.Listed.{told}
use Rattle.analysis.specs.Reduced.{in_program}
use Rattle.analysis.proofs.Leaving.{reduced_to}
use Rattle.analysis.proofs.reducing.left_by.Goals as goal

pub returns : goal.returns
returns c =
    let model = c.args.model.now in
    let trace = c.args.trace.now in
    let (last, (leads, ends)) = c.requires.ends in
    reduced_to model trace last c.in_ok-steps.steps c.rows_left.result c.columns_left.result leads ends
    (subst (λ (s : SetValue). c.in_ok-steps.steps ≡ map (λ x. in_program model s.members (told x)) trace.steps) c.requires.whole c.in_ok-steps.ensures) c.rows_left.ensures c.columns_left.ensures
