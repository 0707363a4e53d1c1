use Rattle.lp_model.specs.Members.{active_members}
use Rattle.certs.specs.Filter.{IsLateTest, Late}
use Rattle.quick_answers.specs.Value.{state_with}
use Rattle.analysis.specs.Answers.{budgets_of, oracle_state}
use Rattle.analysis.proofs.Found.{late_is_part, late_test_is_part}
use Rattle.analysis.proofs.Asked.{all_served}
use Rattle.analysis.proofs.Searched.{filter_runs, search_answer}
use Rattle.analysis.proofs.searching.late_search.Goals as goal

pub isolate-given-requires-clause-served : goal.isolate-given-requires-clause-served
isolate-given-requires-clause-served c = all_served c.args.set.now.members

pub concluded-requires : goal.concluded-requires
concluded-requires c =
    let old = c.quick_oracle-oracle.result in
    let new = c.isolate-given.new.oracle in
    filter_runs IsLateTest c.args.model.now c.args.set.now.members (budgets_of c.args.budgets) old.inner old.tale (state_with (oracle_state new.inner) new.tale) c.isolate-given.result c.quick_oracle-oracle.ensures.inner c.isolate-given.ensures.stop

pub returns : goal.returns
returns c =
    let model = c.args.model.now in
    let active = active_members model in
    let budgets = budgets_of c.args.budgets in
    let old = c.quick_oracle-oracle.result in
    let call = c.isolate-given in
    let new = call.new.oracle in
    (search_answer Late IsLateTest (Late model active) (IsLateTest model active) model c.args.set.now budgets old.inner old.tale (state_with (oracle_state new.inner) new.tale) call.result c.concluded.result c.quick_oracle-oracle.ensures.inner c.requires.whole
    (λ k l. l) (late_is_part model active) (λ t l. l) (late_test_is_part model active) call.ensures.found call.ensures.stop c.concluded.ensures)
