use Rattle.std.proofs.Common.{◌≡◌, sym, subst}
use Rattle.lp_model.specs.MemberSets.{SetValue}
use Rattle.certs.specs.Named.{used_set}
use Rattle.certs.specs.Proof.{IsProof}
use Rattle.certs.proofs.Possible.{known_nodes}
use Rattle.report_text.specs.declared.report.Answer.TheVariants.{RigidInfeasible}
use Rattle.analysis.specs.Least.{IsLeastTold}
use Rattle.analysis.proofs.Easing.{rigid_proves, rigid_told}
use Rattle.analysis.proofs.relaxing.rigid_refuted.Goals as goal

pub members_used-requires : goal.members_used-requires
members_used-requires c =
    let model = c.args.model.now in
    let proof = c.in_ok-proof.proof in
    known_nodes model c.args.set.now proof.nodes c.stands_in_order.ensures.possible
    (subst (λ (s : SetValue). IsProof model s.members proof.nodes) (sym c.requires.whole) (rigid_proves model c.args.combo c.requires.refutes proof c.in_ok-proof.ensures))

pub returns : goal.returns
returns c budgets =
    let used = c.in_ok-used.used in
    let proof = c.in_ok-proof.proof in
    subst (λ (s : SetValue). IsLeastTold c.args.model.now budgets (RigidInfeasible s proof)) (sym c.in_ok-of.ensures)
    (rigid_told c.args.model.now c.args.combo c.requires.refutes proof c.in_ok-proof.ensures used (subst (λ (s : SetValue). used ≡ used_set s proof.nodes) c.requires.whole c.in_ok-used.ensures) budgets)
