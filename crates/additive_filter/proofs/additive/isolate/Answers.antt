use Rattle.std.proofs.lemmas.Result.{err_from_is_err_and}
use Rattle.certs.specs.Filter.{Early, IsEarlyTest}
use Rattle.filter_steps.proofs.Answering.{found_after_ask, stopped_by_ask, which_is_point, which_is_set}
use Rattle.additive_filter.proofs.EarlyStates.{whole_is_test}
use Rattle.additive_filter.proofs.additive.isolate.Goals as goal

pub returns-in_err-verdict-clause-stop : goal.returns-in_err-verdict-clause-stop
returns-in_err-verdict-clause-stop g c =
    let before = g.O.Oracle.state c.args.oracle.now in
    let set = c.args.set.now.members in
    let stop = c.in_err-verdict.field-0.0 in
    let p = err_from_is_err_and c.from_residual.result c.from_residual.ensures.1 in
    rw (p.1, p.2)
    (stopped_by_ask g.O.Oracle.answers IsEarlyTest set set before (g.O.Oracle.state c.ask.new.self) stop (whole_is_test before.model set) c.in_err-verdict.ensures.answered
    (g.met.O.Oracle.within before.model before.budgets set stop c.in_err-verdict.ensures.answered) c.in_err-verdict.ensures.told)

pub returns-in-Feasible-clause-which : goal.returns-in-Feasible-clause-which
returns-in-Feasible-clause-which g c =
    let before = g.O.Oracle.state c.args.oracle.now in
    let set = c.args.set.now.members in
    which_is_point before.model set c.in_ok-verdict.verdict c.in-Feasible.point c.in-Feasible.is (g.met.O.Oracle.holds before.model before.budgets set c.in_ok-verdict.verdict c.in_ok-verdict.ensures.answered)

pub returns-in-Infeasible-clause-found : goal.returns-in-Infeasible-clause-found
returns-in-Infeasible-clause-found g c =
    found_after_ask g.O.Oracle.answers Early c.args.set.now.members (g.O.Oracle.state c.args.oracle.now) (g.O.Oracle.state c.ask.new.self) c.in_ok-verdict.verdict c.in-Infeasible.proof c.in-Infeasible.is
    c.in_ok-verdict.ensures.answered c.in_ok-verdict.ensures.told c.isolate_refuted.result c.isolate_refuted.ensures.found

pub returns-in-Infeasible-clause-which : goal.returns-in-Infeasible-clause-which
returns-in-Infeasible-clause-which g c =
    let before = g.O.Oracle.state c.args.oracle.now in
    let set = c.args.set.now.members in
    which_is_set g.O.Oracle.answers Early before.model set c.in_ok-verdict.verdict c.in-Infeasible.proof c.in-Infeasible.is
    (g.met.O.Oracle.holds before.model before.budgets set c.in_ok-verdict.verdict c.in_ok-verdict.ensures.answered)
    (g.O.Oracle.state c.ask.new.self) c.in-Infeasible.proof.nodes c.isolate_refuted.result c.isolate_refuted.ensures.found
