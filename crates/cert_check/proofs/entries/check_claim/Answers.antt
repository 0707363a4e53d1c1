use Rattle.std.proofs.lemmas.Result.{err_from_is_err_and}
use Rattle.cert_check.specs.Trials.{answer_trials, linear_trials}
use Rattle.cert_check.proofs.Firsts.{stop_first, says_second}
use Rattle.cert_check.proofs.entries.check_claim.Goals as goal

pub returns-in_err-check_linear-clause-says : goal.returns-in_err-check_linear-clause-says
returns-in_err-check_linear-clause-says c =
    let model = c.args.model.now in
    let e = c.args.entry.now in
    let p = err_from_is_err_and c.from_residual.result c.from_residual.ensures.1 in
    rw (p.1, p.2)
    (stop_first (linear_trials model e) (answer_trials model e.line e.answer) c.in_err-check_linear.field-0.0 c.in_err-check_linear.ensures.says)

pub returns-clause-says : goal.returns-clause-says
returns-clause-says c =
    let model = c.args.model.now in
    let e = c.args.entry.now in
    says_second (linear_trials model e) (answer_trials model e.line e.answer) c.check_answer.result c.in_ok-check_linear.ensures.says c.check_answer.ensures.says
