use Rattle.quick_answers.specs.Value.{state_with}
use Rattle.analysis.specs.Answers.{budgets_of, oracle_state}
use Rattle.analysis.proofs.Asked.{all_served}
use Rattle.analysis.proofs.Searched.{core_answer, core_runs}
use Rattle.analysis.proofs.searching.core_search_by_run.Goals as goal

pub isolate_with-given-requires-clause-served : goal.isolate_with-given-requires-clause-served
isolate_with-given-requires-clause-served c = all_served c.args.set.now.members

pub isolate_with-given-requires-clause-served_later : goal.isolate_with-given-requires-clause-served_later
isolate_with-given-requires-clause-served_later c = all_served c.args.set.now.members

pub concluded-requires : goal.concluded-requires
concluded-requires c =
    let old = c.quick_oracle-oracle.result in
    let call = c.isolate_with-given in
    let new = call.new.later in
    (core_runs c.args.model.now c.args.set.now.members (budgets_of c.args.budgets) c.reference_oracle-first.result old.inner old.tale (oracle_state call.new.first) (state_with (oracle_state new.inner) new.tale) call.result c.reference_oracle-first.ensures c.quick_oracle-oracle.ensures.inner
    call.ensures.stop)

pub returns : goal.returns
returns c =
    let model = c.args.model.now in
    let budgets = budgets_of c.args.budgets in
    let old = c.quick_oracle-oracle.result in
    let call = c.isolate_with-given in
    let new = call.new.later in
    (core_answer model c.args.set.now budgets c.reference_oracle-first.result old.inner old.tale (oracle_state call.new.first) (state_with (oracle_state new.inner) new.tale) call.result c.concluded.result c.reference_oracle-first.ensures c.quick_oracle-oracle.ensures.inner c.requires.whole
    call.ensures.found call.ensures.stop c.concluded.ensures)
