use Rattle.std.proofs.Common.{◌≡◌, ◌∙◌, ap, subst, true}
use Rattle.std.specs.Prelude.{Ok, unwrap_or, zip}
use Rattle.report_text.specs.declared.report.Method.{Method}
use Rattle.report_reader.specs.Kinds.{IsRead}
use Rattle.report_reader.specs.declared.answers.Opening.{Opening}
use Rattle.report_reader.specs.Things.{irreducible, opening_phrase, may_begin}
use Rattle.report_reader.proofs.Choices as choice
use Rattle.report_reader.proofs.answers.read_begun.Goals as goal

pub returns-in-Feasible-clause-read : goal.returns-in-Feasible-clause-read
returns-in-Feasible-clause-read c =
    choice.feasible_read c.args.model.now c.requires.stands.names c.args.command.now c.args.cursor.now c.read_feasible.new.cursor c.requires.stands c.read_feasible.result (subst (λ (o : Opening). may_begin c.args.command.now o ≡ true) c.in-Feasible.is c.requires.begins)
    (c.requires.said ∙ ap (λ o. Ok (opening_phrase o)) c.in-Feasible.is) c.read_feasible.ensures.read

pub returns-in-Infeasible-clause-read : goal.returns-in-Infeasible-clause-read
returns-in-Infeasible-clause-read c =
    choice.infeasible_read c.args.model.now c.requires.stands.names c.args.command.now c.args.cursor.now c.read_refuted-set.new.cursor c.requires.stands c.read_refuted-set.result.0 c.read_refuted-set.result.1 c.asks-asks.result.splits (ap (λ k. k.splits) c.asks-asks.ensures) c.read_refuted-set.ensures.set (subst (λ (o : Opening). may_begin c.args.command.now o ≡ true) c.in-Infeasible.is c.requires.begins)
    (c.requires.said ∙ ap (λ o. Ok (opening_phrase o)) c.in-Infeasible.is) c.read_refuted-set.ensures.read

pub returns-in-Irreducible-clause-read : goal.returns-in-Irreducible-clause-read
returns-in-Irreducible-clause-read c =
    choice.irreducible_read c.args.model.now c.requires.stands.names c.args.command.now c.args.cursor.now c.read_irreducible.new.cursor c.requires.stands c.read_irreducible.result c.read_irreducible.ensures.set c.read_irreducible.ensures.each
    (subst (λ (o : Opening). may_begin c.args.command.now o ≡ true) c.in-Irreducible.is c.requires.begins) (c.requires.said ∙ ap (λ o. Ok (opening_phrase o)) c.in-Irreducible.is)
    (subst (λ (m : Method). IsRead c.args.model.now (irreducible c.args.model.now m) c.args.cursor.now c.read_irreducible.new.cursor (tt, (zip c.read_irreducible.result.members.members c.read_irreducible.result.witnesses, ((tt, c.read_irreducible.result.proof.nodes), ((c.read_irreducible.result.rounds, c.read_irreducible.result.price), tt))))) (c.unwrap_or-method.ensures ∙ ap (λ k. unwrap_or k.search Method.Deletion) c.asks-asks.ensures) c.read_irreducible.ensures.read)

pub returns-in-Unbounded-clause-read : goal.returns-in-Unbounded-clause-read
returns-in-Unbounded-clause-read c =
    choice.unbounded_read c.args.model.now c.requires.stands.names c.args.command.now c.args.cursor.now c.read_unbounded-point.new.cursor c.requires.stands c.read_unbounded-point.result.0 c.read_unbounded-point.result.1 (subst (λ (o : Opening). may_begin c.args.command.now o ≡ true) c.in-Unbounded.is c.requires.begins)
    (c.requires.said ∙ ap (λ o. Ok (opening_phrase o)) c.in-Unbounded.is) c.read_unbounded-point.ensures.read

pub returns-in-Bounded-clause-read : goal.returns-in-Bounded-clause-read
returns-in-Bounded-clause-read c =
    choice.bounded_read c.args.model.now c.requires.stands.names c.args.command.now c.args.cursor.now c.read_bounded.new.cursor c.requires.stands c.read_bounded.result (subst (λ (o : Opening). may_begin c.args.command.now o ≡ true) c.in-Bounded.is c.requires.begins)
    (c.requires.said ∙ ap (λ o. Ok (opening_phrase o)) c.in-Bounded.is) c.read_bounded.ensures.read

pub returns-in-Least-clause-read : goal.returns-in-Least-clause-read
returns-in-Least-clause-read c =
    choice.least_read c.args.model.now c.requires.stands.names c.args.command.now c.args.cursor.now c.read_least-point.new.cursor c.requires.stands c.read_least-point.result.0 c.read_least-point.result.1 (subst (λ (o : Opening). may_begin c.args.command.now o ≡ true) c.in-Least.is c.requires.begins)
    (c.requires.said ∙ ap (λ o. Ok (opening_phrase o)) c.in-Least.is) c.read_least-point.ensures.read

pub returns-in-RigidInfeasible-clause-read : goal.returns-in-RigidInfeasible-clause-read
returns-in-RigidInfeasible-clause-read c =
    choice.rigid_read c.args.model.now c.requires.stands.names c.args.command.now c.args.cursor.now c.read_refuted-set-in-RigidInfeasible.new.cursor c.requires.stands c.read_refuted-set-in-RigidInfeasible.result.0 c.read_refuted-set-in-RigidInfeasible.result.1 c.asks-asks.result.splits (ap (λ k. k.splits) c.asks-asks.ensures) c.read_refuted-set-in-RigidInfeasible.ensures.set (subst (λ (o : Opening). may_begin c.args.command.now o ≡ true) c.in-RigidInfeasible.is c.requires.begins)
    (c.requires.said ∙ ap (λ o. Ok (opening_phrase o)) c.in-RigidInfeasible.is) c.read_refuted-set-in-RigidInfeasible.ensures.read

pub returns-in-Reduced-clause-read : goal.returns-in-Reduced-clause-read
returns-in-Reduced-clause-read c =
    choice.reduced_read c.args.model.now c.requires.stands.names c.args.command.now c.args.cursor.now c.read_reduced.new.cursor c.requires.stands c.read_reduced.result (subst (λ (o : Opening). may_begin c.args.command.now o ≡ true) c.in-Reduced.is c.requires.begins)
    (c.requires.said ∙ ap (λ o. Ok (opening_phrase o)) c.in-Reduced.is) c.read_reduced.ensures.read

pub returns-in-Wide-clause-read : goal.returns-in-Wide-clause-read
returns-in-Wide-clause-read c =
    choice.wide_read c.args.model.now c.requires.stands.names c.args.command.now c.args.cursor.now c.read_wide-site.new.cursor c.requires.stands c.read_wide-site.result.0 c.read_wide-site.result.1 c.read_wide-site.result.2 (subst (λ (o : Opening). may_begin c.args.command.now o ≡ true) c.in-Wide.is c.requires.begins)
    (c.requires.said ∙ ap (λ o. Ok (opening_phrase o)) c.in-Wide.is) c.read_wide-site.ensures.read

pub returns-in-Spent-clause-read : goal.returns-in-Spent-clause-read
returns-in-Spent-clause-read c =
    choice.spent_read c.args.model.now c.requires.stands.names c.args.command.now c.args.cursor.now c.read_spent-site.new.cursor c.requires.stands c.read_spent-site.result (subst (λ (o : Opening). may_begin c.args.command.now o ≡ true) c.in-Spent.is c.requires.begins)
    (c.requires.said ∙ ap (λ o. Ok (opening_phrase o)) c.in-Spent.is) c.read_spent-site.ensures.read

pub returns-in-Nodes-clause-read : goal.returns-in-Nodes-clause-read
returns-in-Nodes-clause-read c =
    choice.nodes_read c.args.model.now c.requires.stands.names c.args.command.now c.args.cursor.now c.read_spent-site-in-Nodes.new.cursor c.requires.stands c.read_spent-site-in-Nodes.result (subst (λ (o : Opening). may_begin c.args.command.now o ≡ true) c.in-Nodes.is c.requires.begins)
    (c.requires.said ∙ ap (λ o. Ok (opening_phrase o)) c.in-Nodes.is) c.read_spent-site-in-Nodes.ensures.read

pub returns-in-Large-clause-read : goal.returns-in-Large-clause-read
returns-in-Large-clause-read c =
    choice.large_read c.args.model.now c.requires.stands.names c.args.command.now c.args.cursor.now c.read_large.new.cursor c.requires.stands c.in-Large.size (subst (λ (o : Opening). may_begin c.args.command.now o ≡ true) c.in-Large.is c.requires.begins)
    (c.requires.said ∙ ap (λ o. Ok (opening_phrase o)) c.in-Large.is) (c.read_large.ensures.read _ (c.requires.said ∙ ap (λ o. Ok (opening_phrase o)) c.in-Large.is))

pub returns-in-Done-clause-read : goal.returns-in-Done-clause-read
returns-in-Done-clause-read c =
    choice.done_read c.args.model.now c.requires.stands.names c.args.command.now c.args.cursor.now c.pass.new.self c.requires.stands (subst (λ (o : Opening). may_begin c.args.command.now o ≡ true) c.in-Done.is c.requires.begins)
    (c.requires.said ∙ ap (λ o. Ok (opening_phrase o)) c.in-Done.is) c.pass.ensures.passes

pub returns-in-Refused-clause-read : goal.returns-in-Refused-clause-read
returns-in-Refused-clause-read c =
    choice.refused_read c.args.model.now c.requires.stands.names c.args.command.now c.args.cursor.now c.pass-in-Refused.new.self c.requires.stands c.in-Refused.refusal (subst (λ (o : Opening). may_begin c.args.command.now o ≡ true) c.in-Refused.is c.requires.begins)
    (c.requires.said ∙ ap (λ o. Ok (opening_phrase o)) c.in-Refused.is) c.pass-in-Refused.ensures.passes

pub returns-in-NotLinear-clause-read : goal.returns-in-NotLinear-clause-read
returns-in-NotLinear-clause-read c =
    choice.not_linear_read c.args.model.now c.requires.stands.names c.args.command.now c.args.cursor.now c.pass-in-NotLinear.new.self c.requires.stands c.in-NotLinear.column (subst (λ (o : Opening). may_begin c.args.command.now o ≡ true) c.in-NotLinear.is c.requires.begins)
    (c.requires.said ∙ ap (λ o. Ok (opening_phrase o)) c.in-NotLinear.is) c.pass-in-NotLinear.ensures.passes
