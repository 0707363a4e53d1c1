use Rattle.std.proofs.lemmas.Result.{err_from_is_err_and}
use Rattle.certs.specs.Answers.{AnswersAt}
use Rattle.certs.specs.Filter.{Late}
use Rattle.certs.specs.Named.{used_members}
use Rattle.filter_steps.proofs.Answering.{found_after_ask, stopped_by_ask, which_is_point, which_is_set}
use Rattle.sensitivity_filter.specs.Cores.{IsCoreTest, IsLateOfCore, whole}
use Rattle.sensitivity_filter.proofs.FirstCores.{core_of, core_told, found_in_core, stopped_in_core, told_core}
use Rattle.sensitivity_filter.proofs.sensitivity.isolate.Goals as goal

pub returns-in_err-verdict-clause-stop : goal.returns-in_err-verdict-clause-stop
returns-in_err-verdict-clause-stop g c =
    let oracle = g.O.Oracle in
    let before = oracle.state c.args.oracle.now in
    let after = oracle.state c.ask.new.self in
    let set = c.args.set.now.members in
    let stop = c.in_err-verdict.field-0.0 in
    let p = err_from_is_err_and c.from_residual.result c.from_residual.ensures.1 in
    rw (p.1, p.2)
    (stopped_by_ask oracle.answers (IsCoreTest (AnswersAt oracle.answers before) after.tale.first_core) set set before after stop whole c.in_err-verdict.ensures.answered
    (g.met.O.Oracle.within before.model before.budgets set stop c.in_err-verdict.ensures.answered) c.in_err-verdict.ensures.told)

pub returns-in-Feasible-clause-which : goal.returns-in-Feasible-clause-which
returns-in-Feasible-clause-which g c =
    let before = g.O.Oracle.state c.args.oracle.now in
    let set = c.args.set.now.members in
    which_is_point before.model set c.in_ok-verdict.verdict c.in-Feasible.point c.in-Feasible.is (g.met.O.Oracle.holds before.model before.budgets set c.in_ok-verdict.verdict c.in_ok-verdict.ensures.answered)

pub returns-in-Infeasible-clause-found : goal.returns-in-Infeasible-clause-found
returns-in-Infeasible-clause-found g c =
    let oracle = g.O.Oracle in
    let before = oracle.state c.args.oracle.now in
    let now = oracle.state c.ask.new.self in
    let first = (oracle.state c.isolate_core.new.oracle).tale.first_core in
    let set = c.args.set.now.members in
    let verdict = c.in_ok-verdict.verdict in
    let proof = c.in-Infeasible.proof in
    let asked = c.in_ok-verdict.ensures.told in
    let answered = c.in_ok-verdict.ensures.answered in
    let told = c.isolate_core.ensures.left.first_core (core_of set proof.nodes) (core_told oracle.answers before now set verdict proof asked c.in-Infeasible.is c.requires.fresh) in
    let core = told_core oracle.answers before now set verdict proof asked c.in-Infeasible.is first answered told in
    found_after_ask oracle.answers (IsLateOfCore (AnswersAt oracle.answers before) first) set before now verdict proof c.in-Infeasible.is answered asked c.isolate_core.result
    (found_in_core oracle.answers (AnswersAt oracle.answers before) now first set (used_members set proof.nodes) proof.nodes core c.isolate_core.result c.isolate_core.ensures.found)

pub returns-in-Infeasible-clause-which : goal.returns-in-Infeasible-clause-which
returns-in-Infeasible-clause-which g c =
    let oracle = g.O.Oracle in
    let before = oracle.state c.args.oracle.now in
    let set = c.args.set.now.members in
    let proof = c.in-Infeasible.proof in
    which_is_set oracle.answers (λ model s. Late model (used_members set proof.nodes)) before.model set c.in_ok-verdict.verdict proof c.in-Infeasible.is
    (g.met.O.Oracle.holds before.model before.budgets set c.in_ok-verdict.verdict c.in_ok-verdict.ensures.answered) (oracle.state c.ask.new.self) proof.nodes c.isolate_core.result c.isolate_core.ensures.found

pub returns-in-Infeasible-clause-stop : goal.returns-in-Infeasible-clause-stop
returns-in-Infeasible-clause-stop g c =
    let oracle = g.O.Oracle in
    let before = oracle.state c.args.oracle.now in
    let now = oracle.state c.ask.new.self in
    let after = oracle.state c.isolate_core.new.oracle in
    let first = after.tale.first_core in
    let set = c.args.set.now.members in
    let verdict = c.in_ok-verdict.verdict in
    let proof = c.in-Infeasible.proof in
    let asked = c.in_ok-verdict.ensures.told in
    let told = c.isolate_core.ensures.left.first_core (core_of set proof.nodes) (core_told oracle.answers before now set verdict proof asked c.in-Infeasible.is c.requires.fresh) in
    let core = told_core oracle.answers before now set verdict proof asked c.in-Infeasible.is first c.in_ok-verdict.ensures.answered told in
    stopped_in_core oracle.answers before now after first set (used_members set proof.nodes) verdict asked core c.isolate_core.result c.isolate_core.ensures.stop
