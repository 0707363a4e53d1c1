use Rattle.std.proofs.Common.{refl, sym, ◌∙◌, ap, subst, List, length, inl}
use Rattle.std.proofs.lemmas.Result.{err_from_is_err_and}
use Rattle.lp_model.specs.declared.members.Member.{Member}
use Rattle.lp_model.specs.MemberSets.{SetValue, set_without}
use Rattle.lp_model.specs.Program.{Program}
use Rattle.certs.specs.declared.evidence.Proof.{Proof}
use Rattle.certs.specs.Filter.{IsLateTest}
use Rattle.certs.specs.Named.{used_set}
use Rattle.certs.proofs.Possible.{known_nodes}
use Rattle.filter_steps.specs.Isolated.{IsJust}
use Rattle.filter_steps.specs.Reductions.{IsReduction, Tried}
use Rattle.filter_steps.proofs.Answering.{left_as_it_was, left_so_far, no_memory, proof_told, so_far_at_first, so_far_one_more, stopped_later}
use Rattle.filter_steps.proofs.Reducing.{reduction_starts, same_reduction}
use Rattle.deletion_filter.proofs.LateStates.{IsLateState, asked_is_part, asked_is_test, irreducible_in_the_end, late_in_the_end, next_is_left, state_starts, state_tried, whole_is_test, witnesses_in_the_end}
use Rattle.deletion_filter.proofs.deletion.isolate_refuted.Goals as goal

pub new-requires : goal.new-requires
new-requires g c = known_nodes (g.O.Oracle.state c.args.oracle.now).model c.args.set.now c.args.proof.nodes c.stands_in_order.ensures.possible c.requires.proof

pub returns-in_default-clause-stop : goal.returns-in_default-clause-stop
returns-in_default-clause-stop g c =
    let state = g.O.Oracle.state c.args.oracle.now in
    no_memory g.O.Oracle.answers IsLateTest c.args.set.now.members c.args.set.now.members state (whole_is_test state.model c.args.set.now.members)

pub returns-in_default-clause-left : goal.returns-in_default-clause-left
returns-in_default-clause-left g c = left_as_it_was (length c.args.set.now.members) (g.O.Oracle.state c.args.oracle.now)

pub loop-member-init : goal.loop-member-init
loop-member-init g c =
    let state = g.O.Oracle.state c.args.oracle.now in
    let model = state.model in
    let set = c.args.set.now in
    let r = c.in-Ok.reduction in
    let all = c.into_iter-member-iterator.ensures.into_iter_gives ∙ c.iter-member-items.ensures in
    record {
      state = subst (λ (l : List Member). IsLateState model set.members l r.left.members r.witnesses.items) (sym all)
          (state_starts model set.members r.left.members r.witnesses.items (ap (λ (s : SetValue). s.members) c.in-Ok.ensures.left) c.in-Ok.ensures.witnesses);
      reduced = same_reduction model set r.left (used_set set c.args.proof.nodes) r.used c.args.proof.nodes r.proof.nodes c.in-Ok.ensures.left c.in-Ok.ensures.used (ap (λ (p : Proof). p.nodes) c.in-Ok.ensures.proof)
          (reduction_starts model set c.args.proof.nodes c.requires.same c.stands_in_order.ensures.possible c.stands_in_order.ensures.in_order c.requires.proof);
      told = inl (ap (λ (p : Proof). p.nodes) c.in-Ok.ensures.proof);
      quiet = refl;
      left = so_far_at_first (length set.members) (length c.into_iter-member-iterator.result) state (ap length all);
    }

pub try_without-requires-clause-reduced : goal.try_without-requires-clause-reduced
try_without-requires-clause-reduced g c =
    let r = c.loop-member.reduction in
    subst (λ (m : Program). IsReduction m r.left r.used r.proof.nodes) (sym c.loop-member.invariant.left.left.model) c.loop-member.invariant.reduced

pub try_without-requires-clause-there : goal.try_without-requires-clause-there
try_without-requires-clause-there g c =
    let model = (g.O.Oracle.state c.args.oracle.now).model in
    let set = c.args.set.now.members in
    let r = c.loop-member.reduction in
    let step = c.in-Some.ensures.steps in
    next_is_left model set c.in-Some.member c.next.new.self r.left.members r.witnesses.items
    (subst (λ (l : List Member). IsLateState model set l r.left.members r.witnesses.items) step c.loop-member.invariant.state)

pub try_without-requires-clause-served : goal.try_without-requires-clause-served
try_without-requires-clause-served g c =
    let model = (g.O.Oracle.state c.args.oracle.now).model in
    let set = c.args.set.now.members in
    let r = c.loop-member.reduction in
    let asked = (set_without r.left c.in-Some.member).members in
    let step = c.in-Some.ensures.steps in
    let part = asked_is_part model set c.in-Some.member c.next.new.self r.left r.witnesses.items
    (subst (λ (l : List Member). IsLateState model set l r.left.members r.witnesses.items) step c.loop-member.invariant.state) c.loop-member.invariant.reduced.in_order in
    ap (λ f. f asked) c.loop-member.invariant.left.left.serves ∙ g.met.O.Oracle.parts c.args.oracle.now set asked part c.requires.served

pub returns-in_err-try_without-clause-stop : goal.returns-in_err-try_without-clause-stop
returns-in_err-try_without-clause-stop g c =
    let first = g.O.Oracle.state c.args.oracle.now in
    let now = g.O.Oracle.state c.loop-member.oracle in
    let after = g.O.Oracle.state c.try_without.new.oracle in
    let set = c.args.set.now.members in
    let r = c.loop-member.reduction in
    let asked = (set_without r.left c.in-Some.member).members in
    let step = c.in-Some.ensures.steps in
    let test = asked_is_test first.model set c.in-Some.member c.next.new.self r.left r.witnesses.items
    (subst (λ (l : List Member). IsLateState first.model set l r.left.members r.witnesses.items) step c.loop-member.invariant.state) c.loop-member.invariant.reduced.in_order in
    let p = err_from_is_err_and c.from_residual.result c.from_residual.ensures.1 in
    let left = c.loop-member.invariant.left.left in
    rw (p.1, p.2)
    (stopped_later g.O.Oracle.answers IsLateTest IsJust set asked first now after c.in_err-try_without.field-0.0 left.model left.budgets c.loop-member.invariant.quiet
    (λ s e. subst (IsLateTest first.model set) (sym e) test) c.in_err-try_without.ensures.stop)

pub returns-in_err-try_without-clause-left : goal.returns-in_err-try_without-clause-left
returns-in_err-try_without-clause-left g c =
    let set = c.args.set.now.members in
    let step = c.in-Some.ensures.steps in
    let rest = c.next.new.self in
    let state = g.O.Oracle.state in
    left_so_far (length set) (length rest) (state c.args.oracle.now) (state c.try_without.new.oracle)
    (so_far_one_more (length set) (length c.loop-member.member-iterator) (length rest) (state c.args.oracle.now) (state c.loop-member.oracle) (state c.try_without.new.oracle) (ap length step)
    c.loop-member.invariant.left c.try_without.ensures.left)

pub loop-member-preserved : goal.loop-member-preserved
loop-member-preserved g c =
    let state = g.O.Oracle.state in
    let model = (state c.args.oracle.now).model in
    let set = c.args.set.now.members in
    let r = c.loop-member.reduction in
    let now = c.try_without.new.reduction in
    let rest = c.next.new.self in
    let step = c.in-Some.ensures.steps in
    let left = c.loop-member.invariant.left.left in
    let reduced = subst (λ (m : Program). IsReduction m now.left now.used now.proof.nodes) left.model c.in_ok-try_without.ensures.reduced in
    let tried = subst (λ (m : Program). Tried m r.left r.witnesses.items c.in-Some.member now.left now.witnesses.items) left.model c.in_ok-try_without.ensures.tried in
    record {
      state = state_tried model set c.in-Some.member rest r.left now.left r.witnesses.items now.witnesses.items now.proof.nodes
          (subst (λ (l : List Member). IsLateState model set l r.left.members r.witnesses.items) step c.loop-member.invariant.state) c.loop-member.invariant.reduced.in_order tried reduced.proof;
      reduced = reduced;
      told = proof_told g.O.Oracle.answers (state c.args.oracle.now) (state c.loop-member.oracle) c.args.proof.nodes r.proof now.proof left.model left.budgets c.loop-member.invariant.told c.in_ok-try_without.ensures.proof;
      quiet = c.in_ok-try_without.ensures.quiet ∙ c.loop-member.invariant.quiet;
      left = so_far_one_more (length set) (length c.loop-member.member-iterator) (length rest) (state c.args.oracle.now) (state c.loop-member.oracle) (state c.try_without.new.oracle) (ap length step)
          c.loop-member.invariant.left c.in_ok-try_without.ensures.left;
    }

pub returns-clause-found : goal.returns-clause-found
returns-clause-found g c =
    let model = (g.O.Oracle.state c.args.oracle.now).model in
    let set = c.args.set.now.members in
    let r = c.loop-member.reduction in
    let none = c.in-None.ensures.steps.0 in
    let state = subst (λ (l : List Member). IsLateState model set l r.left.members r.witnesses.items) none c.loop-member.invariant.state in
    let late = late_in_the_end model set r.left.members r.witnesses.items state in
    let reduced = c.loop-member.invariant.reduced in
    rw c.into_answer.ensures
    (record {
      same = reduced.left_sized;
      kept = late;
      proof = reduced.proof;
      told = c.loop-member.invariant.told;
      witnesses = witnesses_in_the_end model set r.left.members r.witnesses.items state;
      irreducible = irreducible_in_the_end model set r.left.members r.proof.nodes late reduced.proof;
    })

pub returns-clause-left : goal.returns-clause-left
returns-clause-left g c =
    left_so_far (length c.args.set.now.members) (length c.loop-member.member-iterator) (g.O.Oracle.state c.args.oracle.now) (g.O.Oracle.state c.loop-member.oracle) c.loop-member.invariant.left
