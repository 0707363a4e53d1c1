use Rattle.std.proofs.Common.{◌++◌, ◌∷◌, sym, ◌∙◌, ap, [], None, Some}
use Rattle.std.proofs.lemmas.List.{map_more}
use Rattle.rational.specs.Rational.{ℚ}
use Rattle.lp_model.specs.declared.members.Member.{Member}
use Rattle.lp_model.specs.declared.members.Member.TheVariants.{RowLo}
use Rattle.relaxation.specs.Origins.{from_zero}
use Rattle.alt_polyhedron.proofs.systems.member_columns.Goals as goal

pub loop-member-preserved : goal.loop-member-preserved
loop-member-preserved c =
    let columns = c.loop-member.columns.items in
    c.in_ok-push.ensures.items
    ∙ ap (λ (q : ℚ). columns ++ record { lower = Some q; upper = None } ∷ []) c.whole.ensures
    ∙ ap (λ z. z ++ from_zero ∷ []) c.loop-member.invariant
    ∙ sym (map_more (λ (m : Member). from_zero) c.args.members.now c.loop-member._member-index (RowLo 0) c.loop-member-test.true)
