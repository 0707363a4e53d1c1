use Rattle.std.proofs.Common.{◌≡◌, refl, sym, ◌∙◌, ap, subst, filter}
use Rattle.lp_model.specs.Members.{has}
use Rattle.lp_model.specs.MemberSets.{SetValue, IsPossibleIn, possible_in, set_with}
use Rattle.certs.specs.declared.evidence.Proof.{Proof}
use Rattle.certs.specs.Tales.{IsPointOf}
use Rattle.filter_steps.specs.Reductions.{IsReduction}
use Rattle.lp_model.proofs.Sets.{has_of_contains}
use Rattle.certs.proofs.HasLists.{put_back}
use Rattle.filter_steps.proofs.Sets.{is_possible, rest_is_possible}
use Rattle.certs.proofs.Possible.{known_nodes}
use Rattle.filter_steps.proofs.Reducing.{unused_goes, refuted, point_of_verdict, proof_of_verdict, on_ok, on_ok_both, on_ok_then, tried_stays, tried_goes, same_reduction, possible_in_used}
use Rattle.filter_steps.proofs.reduction.try_without.Goals as goal

pub contains-is_used-requires : goal.contains-is_used-requires
contains-is_used-requires g c =
    possible_in_used (g.O.Oracle.state c.args.oracle.now).model c.args.reduction.now.left c.args.reduction.now.used c.args.reduction.now.proof.nodes c.args.member c.requires.reduced
    (is_possible c.args.reduction.now.left c.args.member c.requires.reduced.possible c.requires.there)

pub remove-requires : goal.remove-requires
remove-requires g c = is_possible c.args.reduction.now.left c.args.member c.requires.reduced.possible c.requires.there

pub returns-then-not-is_used-clause-reduced : goal.returns-then-not-is_used-clause-reduced
returns-then-not-is_used-clause-reduced g c =
    let r = c.args.reduction.now in
    subst (λ (s : SetValue). IsReduction (g.O.Oracle.state c.args.oracle.now).model s r.used r.proof.nodes) (sym c.remove.ensures)
    (unused_goes (g.O.Oracle.state c.args.oracle.now).model r.left r.used r.proof.nodes c.args.member c.requires.reduced c.requires.there (sym c.contains-is_used.ensures ∙ c.if-not-is_used.true))

pub returns-then-not-is_used-clause-tried : goal.returns-then-not-is_used-clause-tried
returns-then-not-is_used-clause-tried g c =
    tried_goes (g.O.Oracle.state c.args.oracle.now).model c.args.reduction.now.left c.remove.new.self c.args.reduction.now.witnesses.items c.args.reduction.now.witnesses.items c.args.member c.remove.ensures refl

pub keep-requires : goal.keep-requires
keep-requires g c =
    subst (λ (s : SetValue). IsPossibleIn s c.args.member) (sym c.remove.ensures) (is_possible c.args.reduction.now.left c.args.member c.requires.reduced.possible c.requires.there)

pub refute-requires : goal.refute-requires
refute-requires g c =
    known_nodes (g.O.Oracle.state c.args.oracle.now).model c.remove.new.self c.in-Infeasible.proof.nodes
    (subst (λ (s : SetValue). s.members ≡ filter (has s.members) (possible_in s)) (sym c.remove.ensures) (rest_is_possible c.args.reduction.now.left c.args.member c.requires.reduced.possible))
    (proof_of_verdict (g.O.Oracle.state c.args.oracle.now).model c.remove.new.self.members c.in_ok-verdict.verdict c.in-Infeasible.proof c.in-Infeasible.is (g.met.O.Oracle.holds (g.O.Oracle.state c.args.oracle.now).model (g.O.Oracle.state c.args.oracle.now).budgets c.remove.new.self.members c.in_ok-verdict.verdict c.in_ok-verdict.ensures.answered))

pub returns-in-Feasible-clause-reduced : goal.returns-in-Feasible-clause-reduced
returns-in-Feasible-clause-reduced g c =
    let r = c.args.reduction.now in
    let model = (g.O.Oracle.state c.args.oracle.now).model in
    let whole = c.keep.ensures.left ∙ (ap (λ (s : SetValue). set_with s c.args.member) c.remove.ensures ∙ put_back r.left c.args.member c.requires.reduced.possible (has_of_contains r.left.members c.args.member c.requires.there)) in
    on_ok c.keep.result (IsReduction model c.keep.new.self.left c.keep.new.self.used c.keep.new.self.proof.nodes)
    (same_reduction model r.left c.keep.new.self.left r.used c.keep.new.self.used r.proof.nodes c.keep.new.self.proof.nodes whole c.keep.ensures.used (ap (λ (p : Proof). p.nodes) c.keep.ensures.proof) c.requires.reduced)

pub returns-in-Feasible-clause-tried : goal.returns-in-Feasible-clause-tried
returns-in-Feasible-clause-tried g c =
    let r = c.args.reduction.now in
    let model = (g.O.Oracle.state c.args.oracle.now).model in
    let whole = c.keep.ensures.left ∙ (ap (λ (s : SetValue). set_with s c.args.member) c.remove.ensures ∙ put_back r.left c.args.member c.requires.reduced.possible (has_of_contains r.left.members c.args.member c.requires.there)) in
    let point = subst (λ (s : SetValue). IsPointOf model s.members c.in-Feasible.point) c.remove.ensures (point_of_verdict model c.remove.new.self.members c.in_ok-verdict.verdict c.in-Feasible.point c.in-Feasible.is (g.met.O.Oracle.holds (g.O.Oracle.state c.args.oracle.now).model (g.O.Oracle.state c.args.oracle.now).budgets c.remove.new.self.members c.in_ok-verdict.verdict c.in_ok-verdict.ensures.answered)) in
    on_ok_then c.keep.result _ _ (λ w. tried_stays model r.left c.keep.new.self.left r.witnesses.items c.keep.new.self.witnesses.items c.args.member c.in-Feasible.point point whole w) c.keep.ensures.witnesses

pub returns-in-Infeasible-clause-reduced : goal.returns-in-Infeasible-clause-reduced
returns-in-Infeasible-clause-reduced g c =
    let r = c.args.reduction.now in
    let model = (g.O.Oracle.state c.args.oracle.now).model in
    let now = c.refute.new.self in
    let proof = proof_of_verdict model c.remove.new.self.members c.in_ok-verdict.verdict c.in-Infeasible.proof c.in-Infeasible.is (g.met.O.Oracle.holds (g.O.Oracle.state c.args.oracle.now).model (g.O.Oracle.state c.args.oracle.now).budgets c.remove.new.self.members c.in_ok-verdict.verdict c.in_ok-verdict.ensures.answered) in
    on_ok_both c.refute.result _ _ _
    (λ e u. refuted model r.left r.used r.proof.nodes c.args.member c.remove.new.self now.left now.used c.in-Infeasible.proof now.proof c.requires.reduced c.remove.ensures proof c.refute.ensures.left u e)
    c.refute.ensures.proof c.refute.ensures.used

pub returns-in-Infeasible-clause-tried : goal.returns-in-Infeasible-clause-tried
returns-in-Infeasible-clause-tried g c =
    let r = c.args.reduction.now in
    on_ok c.refute.result _
    (tried_goes (g.O.Oracle.state c.args.oracle.now).model r.left c.refute.new.self.left r.witnesses.items c.refute.new.self.witnesses.items c.args.member (c.refute.ensures.left ∙ c.remove.ensures) c.refute.ensures.witnesses)
