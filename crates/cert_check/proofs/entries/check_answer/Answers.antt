use Rattle.std.proofs.Common.{◌<◌, ◌+◌, sym, subst, length, arith}
use Rattle.report_text.specs.declared.report.Answer.{Answer}
use Rattle.report_text.specs.Grammar.{answer_phrases}
use Rattle.cert_check.specs.Trials.{answer_trials}
use Rattle.cert_check.specs.Stops.{first_stop, Says}
use Rattle.cert_check.proofs.Numbers.{members_fit, rigid_fit, witnesses_fit}
use Rattle.cert_check.proofs.entries.check_answer.Goals as goal

pub check_infeasible-requires-clause-short : goal.check_infeasible-requires-clause-short
check_infeasible-requires-clause-short c =
    let short = subst (λ (a : Answer). c.args.line + length (answer_phrases c.args.model.now a) < 4294967280) c.in-Infeasible.is c.requires.short in
    let fit = members_fit c.args.model.now c.in-Infeasible.members c.in-Infeasible.proof in
    omega (arith, short, fit)

pub check_rigid-requires-clause-short : goal.check_rigid-requires-clause-short
check_rigid-requires-clause-short c =
    let short = subst (λ (a : Answer). c.args.line + length (answer_phrases c.args.model.now a) < 4294967280) c.in-RigidInfeasible.is c.requires.short in
    let fit = rigid_fit c.args.model.now c.in-RigidInfeasible.members c.in-RigidInfeasible.proof in
    omega (arith, short, fit)

pub check_core-requires-clause-short : goal.check_core-requires-clause-short
check_core-requires-clause-short c =
    let short = subst (λ (a : Answer). c.args.line + length (answer_phrases c.args.model.now a) < 4294967280) c.in-Irreducible.is c.requires.short in
    let fit = witnesses_fit c.args.model.now c.in-Irreducible.core in
    omega (arith, short, fit)

pub returns-in-Infeasible-clause-says : goal.returns-in-Infeasible-clause-says
returns-in-Infeasible-clause-says c =
    subst (λ (a : Answer). Says (first_stop (answer_trials c.args.model.now c.args.line a)) c.check_infeasible.result) (sym c.in-Infeasible.is) c.check_infeasible.ensures.says

pub returns-in-RigidInfeasible-clause-says : goal.returns-in-RigidInfeasible-clause-says
returns-in-RigidInfeasible-clause-says c =
    subst (λ (a : Answer). Says (first_stop (answer_trials c.args.model.now c.args.line a)) c.check_rigid.result) (sym c.in-RigidInfeasible.is) c.check_rigid.ensures.says

pub returns-in-Least-clause-says : goal.returns-in-Least-clause-says
returns-in-Least-clause-says c =
    subst (λ (a : Answer). Says (first_stop (answer_trials c.args.model.now c.args.line a)) c.check_least.result) (sym c.in-Least.is) c.check_least.ensures.says

pub returns-in-Unbounded-clause-says : goal.returns-in-Unbounded-clause-says
returns-in-Unbounded-clause-says c =
    subst (λ (a : Answer). Says (first_stop (answer_trials c.args.model.now c.args.line a)) c.check_unbounded.result) (sym c.in-Unbounded.is) c.check_unbounded.ensures.says
