use Rattle.certs.specs.Filter.{Late}
use Rattle.certs.specs.Named.{used_members}
use Rattle.filter_steps.proofs.Answering.{which_is_point, which_is_set}
use Rattle.sensitivity_filter.proofs.FirstCores.{core_told, told_core}
use Rattle.sensitivity_filter.proofs.Pairs.{found_by_either, stopped_by_later}
use Rattle.sensitivity_filter.proofs.sensitivity.isolate_with.Goals as goal

pub returns-in-Feasible-clause-which : goal.returns-in-Feasible-clause-which
returns-in-Feasible-clause-which g c =
    let before = g.O.Oracle.state c.args.first.now in
    let set = c.args.set.now.members in
    which_is_point before.model set c.in_ok-verdict.verdict c.in-Feasible.point c.in-Feasible.is (g.met.O.Oracle.holds before.model before.budgets set c.in_ok-verdict.verdict c.in_ok-verdict.ensures.answered)

pub returns-in-Infeasible-clause-found : goal.returns-in-Infeasible-clause-found
returns-in-Infeasible-clause-found g c =
    let oracle = g.O.Oracle in
    let before = oracle.state c.args.first.now in
    let now = oracle.state c.ask.new.self in
    let later = g.P.Oracle.state c.args.later.now in
    let set = c.args.set.now.members in
    let verdict = c.in_ok-verdict.verdict in
    let proof = c.in-Infeasible.proof in
    let asked = c.in_ok-verdict.ensures.told in
    let answered = c.in_ok-verdict.ensures.answered in
    let told = core_told oracle.answers before now set verdict proof asked c.in-Infeasible.is c.requires.fresh in
    let core = told_core oracle.answers before now set verdict proof asked c.in-Infeasible.is now.tale.first_core answered told in
    found_by_either oracle.answers g.P.Oracle.answers before later set (used_members set proof.nodes) verdict proof c.in-Infeasible.is answered now.tale.first_core c.requires.program core c.isolate_core.result c.isolate_core.ensures.found

pub returns-in-Infeasible-clause-which : goal.returns-in-Infeasible-clause-which
returns-in-Infeasible-clause-which g c =
    let oracle = g.O.Oracle in
    let before = oracle.state c.args.first.now in
    let set = c.args.set.now.members in
    let proof = c.in-Infeasible.proof in
    which_is_set g.P.Oracle.answers (λ model s. Late model (used_members set proof.nodes)) before.model set c.in_ok-verdict.verdict proof c.in-Infeasible.is
    (g.met.O.Oracle.holds before.model before.budgets set c.in_ok-verdict.verdict c.in_ok-verdict.ensures.answered) (g.P.Oracle.state c.args.later.now) proof.nodes c.isolate_core.result c.isolate_core.ensures.found

pub returns-in-Infeasible-clause-stop : goal.returns-in-Infeasible-clause-stop
returns-in-Infeasible-clause-stop g c =
    let oracle = g.O.Oracle in
    let before = oracle.state c.args.first.now in
    let now = oracle.state c.ask.new.self in
    let set = c.args.set.now.members in
    let verdict = c.in_ok-verdict.verdict in
    let proof = c.in-Infeasible.proof in
    let asked = c.in_ok-verdict.ensures.told in
    let told = core_told oracle.answers before now set verdict proof asked c.in-Infeasible.is c.requires.fresh in
    let core = told_core oracle.answers before now set verdict proof asked c.in-Infeasible.is now.tale.first_core c.in_ok-verdict.ensures.answered told in
    stopped_by_later oracle.answers g.P.Oracle.answers set (used_members set proof.nodes) before now (g.P.Oracle.state c.args.later.now) (g.P.Oracle.state c.isolate_core.new.oracle) verdict asked core c.isolate_core.result c.isolate_core.ensures.stop
