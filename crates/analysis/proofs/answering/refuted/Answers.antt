use Rattle.std.proofs.Common.{◌≡◌, sym, ap, subst}
use Rattle.lp_model.specs.MemberSets.{SetValue}
use Rattle.certs.specs.Named.{used_set}
use Rattle.certs.specs.Proof.{IsProof}
use Rattle.certs.proofs.Possible.{known_nodes}
use Rattle.report_text.specs.declared.report.Answer.TheVariants.{Infeasible}
use Rattle.analysis.proofs.Refuting.{refutes}
use Rattle.analysis.proofs.answering.refuted.Goals as goal

pub members_used-requires : goal.members_used-requires
members_used-requires c =
    known_nodes c.args.model.now c.args.set.now c.args.proof.nodes c.stands_in_order.ensures.possible
    (subst (λ (s : SetValue). IsProof c.args.model.now s.members c.args.proof.nodes) (sym c.requires.whole) c.requires.proof)

pub returns : goal.returns
returns c = (
  c.in_ok-used.used,
  (ap (λ (s : SetValue). Infeasible s c.args.proof) c.in_ok-of.ensures, refutes c.args.model.now c.args.proof c.in_ok-used.used c.requires.proof c.requires.ordered c.requires.fits (subst (λ s. c.in_ok-used.used ≡ used_set s c.args.proof.nodes) c.requires.whole c.in_ok-used.ensures)),
)
