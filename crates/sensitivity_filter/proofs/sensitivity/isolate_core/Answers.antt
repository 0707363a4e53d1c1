use Rattle.std.proofs.Common.{sym, subst}
use Rattle.lp_model.specs.MemberSets.{SetValue}
use Rattle.lp_model.specs.Satisfaction.{IsPart}
use Rattle.certs.specs.Filter.{IsLateTest}
use Rattle.certs.specs.Named.{used_members}
use Rattle.certs.specs.Proof.{IsProof}
use Rattle.certs.proofs.Possible.{known_nodes}
use Rattle.deletion_filter.proofs.LateStates.{whole_is_test}
use Rattle.filter_steps.proofs.Answering.{no_memory}
use Rattle.filter_steps.proofs.Proofs.{proof_of_used}
use Rattle.sensitivity_filter.proofs.FirstCores.{used_is_part}
use Rattle.sensitivity_filter.proofs.sensitivity.isolate_core.Goals as goal

pub members_used-requires : goal.members_used-requires
members_used-requires g c = known_nodes (g.O.Oracle.state c.args.oracle.now).model c.args.set.now c.args.proof.nodes c.stands_in_order.ensures.possible c.requires.proof

pub returns-in_default-clause-stop : goal.returns-in_default-clause-stop
returns-in_default-clause-stop g c =
    let state = g.O.Oracle.state c.args.oracle.now in
    let core = used_members c.args.set.now.members c.args.proof.nodes in
    no_memory g.O.Oracle.answers IsLateTest core core state (whole_is_test state.model core)

pub isolate_refuted-requires-clause-served : goal.isolate_refuted-requires-clause-served
isolate_refuted-requires-clause-served g c =
    let set = c.args.set.now.members in
    let part = subst (λ (s : SetValue). IsPart s.members set) (sym c.in-Ok.ensures) (used_is_part set c.args.proof.nodes) in
    g.met.O.Oracle.parts c.args.oracle.now set c.in-Ok.core.members part c.requires.served

pub isolate_refuted-requires-clause-proof : goal.isolate_refuted-requires-clause-proof
isolate_refuted-requires-clause-proof g c =
    let state = g.O.Oracle.state c.args.oracle.now in
    subst (λ (s : SetValue). IsProof state.model s.members c.args.proof.nodes) (sym c.in-Ok.ensures) (proof_of_used state.model c.args.set.now c.args.proof.nodes c.requires.proof)
