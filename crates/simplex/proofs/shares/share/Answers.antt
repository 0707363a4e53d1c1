use Rattle.std.proofs.Common.{sym, ◌∙◌, ap, ◌∷◌, [], map}
use Rattle.rational.specs.Rational.{ℚ, eq_ℚ, lt_q}
use Rattle.lp_model.specs.declared.members.Side.TheVariants.{Lo}
use Rattle.certs.specs.declared.evidence.Share.{Share}
use Rattle.certs.specs.Named.{named}
use Rattle.simplex.proofs.Combining.{share_above, share_below}
use Rattle.simplex.proofs.shares.share.Goals as goal

pub returns-then-is_less : goal.returns-then-is_less
returns-then-is_less c =
    ap (λ (s : Share). s ∷ []) c.limit_share.ensures
    ∙ ap (map (named c.args.columns)) (sym (share_above c.args.variable c.args.count (ap (λ q. eq_ℚ c.args.count q) (sym c.whole-zero.ensures) ∙ sym c.eq.ensures ∙ c.if-eq.false) (ap (λ q. lt_q q c.args.count) (sym c.whole-zero.ensures) ∙ sym c.is_less.ensures ∙ c.if-is_less.true)))

pub returns : goal.returns
returns c =
    ap (λ (s : Share). s ∷ []) (c.limit_share-2.ensures ∙ ap (λ (q : ℚ). named c.args.columns (record { variable = c.args.variable; side = Lo; weight = q })) c.negate.ensures)
    ∙ ap (map (named c.args.columns)) (sym (share_below c.args.variable c.args.count (ap (λ q. eq_ℚ c.args.count q) (sym c.whole-zero.ensures) ∙ sym c.eq.ensures ∙ c.if-eq.false) (ap (λ q. lt_q q c.args.count) (sym c.whole-zero.ensures) ∙ sym c.is_less.ensures ∙ c.if-is_less.false)))
