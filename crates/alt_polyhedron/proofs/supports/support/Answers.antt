use Rattle.std.proofs.Common.{◌≡◌, ◌++◌, ◌<◌, sym, ◌∙◌, ap, subst, get_or, length}
use Rattle.std.proofs.lemmas.List.{get_or_read}
use Rattle.rational.specs.Rational.{zero_ℚ}
use Rattle.lp_model.specs.declared.members.Member.TheVariants.{RowLo}
use Rattle.lp_model.specs.Satisfaction.{values_at}
use Rattle.alt_polyhedron.specs.Reading.{share_of}
use Rattle.alt_polyhedron.proofs.Shares.{support_more}
use Rattle.alt_polyhedron.proofs.supports.support.Goals as goal

pub loop-index-preserved : goal.loop-index-preserved
loop-index-preserved c =
    let members = c.args.members.now in
    let values = c.args.values.now in
    let i = c.loop-index.index in
    let v = c.index-values-index.result in
    let below : i < length members = c.loop-index-test.true in
    let at : v ≡ values_at values i = get_or_read values i v (subst (λ n. i < n) (sym c.requires) below) c.index-values-index.is zero_ℚ in
    c.in_ok-push_share.ensures
    ∙ ap (λ q. c.loop-index.shares.items ++ share_of (get_or members i (RowLo 0)) q) at
    ∙ ap (λ z. z ++ share_of (get_or members i (RowLo 0)) (values_at values i)) c.loop-index.invariant
    ∙ sym (support_more members (values_at values) i (RowLo 0) below)
