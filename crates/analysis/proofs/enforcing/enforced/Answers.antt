use Rattle.std.proofs.Common.{◌≡◌, false, sym, subst}
use Rattle.std.specs.Prelude.{All}
use Rattle.lp_model.specs.Members.{active_members, is_mark}
use Rattle.lp_model.specs.MemberSets.{SetValue}
use Rattle.certs.specs.Filter.{IsLateTest}
use Rattle.elastic_filter.specs.declared.enforcing.Enforced.{Enforced}
use Rattle.elastic_filter.specs.Enforced.{IsEnforced, IsRoundStop}
use Rattle.relaxation.specs.Stretching.{IsRound}
use Rattle.quick_answers.specs.Stretching.{QuickStretcherValue}
use Rattle.quick_answers.specs.Value.{state_with}
use Rattle.analysis.specs.Answers.{budgets_of, oracle_state}
use Rattle.analysis.proofs.Asked.{all_served}
use Rattle.analysis.proofs.Chained.{enforced_answer, rounds_told}
use Rattle.analysis.proofs.Marks.{no_mark}
use Rattle.analysis.proofs.Searched.{filter_runs}
use Rattle.analysis.proofs.enforcing.enforced.Goals as goal

pub enforce-ended-requires-clause-linear : goal.enforce-ended-requires-clause-linear
enforce-ended-requires-clause-linear c = subst (λ (s : SetValue). All (λ m. is_mark m ≡ false) s.members) (sym c.requires.whole) (no_mark (active_members c.args.model.now) c.requires.linear)

pub isolate-given-requires-clause-served : goal.isolate-given-requires-clause-served
isolate-given-requires-clause-served c = all_served c.in-Ok-Set.members.members

pub concluded-requires : goal.concluded-requires
concluded-requires c =
    let old = c.quick_oracle-oracle.result in
    let new = c.isolate-given.new.oracle in
    filter_runs IsLateTest c.args.model.now c.in-Ok-Set.members.members (budgets_of c.args.budgets) old.inner old.tale (state_with (oracle_state new.inner) new.tale) c.isolate-given.result c.quick_oracle-oracle.ensures.inner c.isolate-given.ensures.stop

pub returns-in-Ok-Set : goal.returns-in-Ok-Set
returns-in-Ok-Set c =
    let model = c.args.model.now in
    let budgets = budgets_of c.args.budgets in
    let old = c.quick_oracle-oracle.result in
    let call = c.isolate-given in
    let new = call.new.oracle in
    let members = c.in-Ok-Set.members in
    let found =
    subst (λ (s : SetValue). IsEnforced model s.members (Enforced.Set members c.in-Ok-Set.field-0-1 c.in-Ok-Set.rounds)) c.requires.whole
    (subst (λ (v : QuickStretcherValue). IsEnforced v.inner.model c.args.set.now.members (Enforced.Set members c.in-Ok-Set.field-0-1 c.in-Ok-Set.rounds)) c.new-stretcher.ensures
    (subst (λ (e : Enforced). IsEnforced c.new-stretcher.result.inner.model c.args.set.now.members e) c.in-Ok-Set.field-0-is c.in-Ok-Set.ensures.found)) in
    (enforced_answer model budgets old.inner old.tale members c.in-Ok-Set.field-0-1 c.in-Ok-Set.rounds (state_with (oracle_state new.inner) new.tale) call.result c.concluded.result c.quick_oracle-oracle.ensures.inner found call.ensures.found call.ensures.stop c.concluded.ensures)

pub returns : goal.returns
returns c =
    let model = c.args.model.now in
    let budgets = budgets_of c.args.budgets in
    let stop = c.in-Err.stop in
    rounds_told model budgets stop c.stopped.result
    (subst (λ (s : SetValue). IsRoundStop IsRound model (record { pivots = budgets.pivots; nodes = 0 }) s.members stop) c.requires.whole
    (subst (λ (v : QuickStretcherValue). IsRoundStop IsRound v.inner.model (record { pivots = v.inner.pivots; nodes = 0 }) c.args.set.now.members stop) c.new-stretcher.ensures c.in-Err.ensures.stop))
    c.stopped.ensures
