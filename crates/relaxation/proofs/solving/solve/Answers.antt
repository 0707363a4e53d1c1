use Rattle.std.proofs.Common.{◌≡◌, sym, ◌∙◌, ap, subst, map, length}
use Rattle.frac128.specs.Limit.{limit}
use Rattle.certs.specs.Ended.{blocked_shares}
use Rattle.certs.specs.Named.{named}
use Rattle.certs.specs.Order.{AreSharesInOrder}
use Rattle.dictionary.specs.Value.{tableau_of}
use Rattle.relaxation.specs.Runs.{IsReached, StandsBest, StandsBlocked}
use Rattle.unbounded.proofs.Settled.{narrow_values, settled}
use Rattle.relaxation.proofs.Shares.{blocked_in_order}
use Rattle.relaxation.proofs.BestEnds.{best}
use Rattle.relaxation.proofs.solving.solve.Goals as goal

pub returns-in-Some-clause-failure : goal.returns-in-Some-clause-failure
returns-in-Some-clause-failure c = c.crossing.ensures.failure c.args.pivots

pub returns-in-Blocked-clause-solved : goal.returns-in-Blocked-clause-solved
returns-in-Blocked-clause-solved c =
    let system = c.args.system.now in
    let now = c.in-Ok.ran.dictionary in
    let v = c.in-Blocked.variable in
    let stands : StandsBlocked system now v = subst (IsReached system now) c.in-Blocked.is c.in-Ok.ensures.reached in
    let formed = c.requires.formed (sym c.first_crossing.ensures ∙ c.in_default.is) in
    let count : length system.columns ≡ now.columns = sym (c.in-Ok.ensures.columns) in
    let shares = c.in-Ok-combo_of.ensures.shares system count stands.is_of stands.blocked.0 stands.blocked.1 in (
      c.in-Ok-combo_of.ensures.combination system formed count stands.is_of,
      subst AreSharesInOrder (sym (shares ∙ ap (λ n. map (named n) (blocked_shares system (tableau_of now) v stands.blocked.0)) (sym count))) (blocked_in_order system (tableau_of now) v stands.blocked.0),
    )

pub point_of-requires-clause-settled : goal.point_of-requires-clause-settled
point_of-requires-clause-settled c =
    let system = c.args.system.now in
    let now = c.in-Ok.ran.dictionary in
    let stands : StandsBest system now = subst (IsReached system now) c.in-Best.is c.in-Ok.ensures.reached in
    settled system (tableau_of now) stands.is_of stands.within

pub point_of-requires-clause-narrow : goal.point_of-requires-clause-narrow
point_of-requires-clause-narrow c =
    let system = c.args.system.now in
    let now = c.in-Ok.ran.dictionary in
    let stands : StandsBest system now = subst (IsReached system now) c.in-Best.is c.in-Ok.ensures.reached in
    narrow_values system (tableau_of now) stands.is_of stands.within limit stands.ended.1.1

pub returns-clause-solved : goal.returns-clause-solved
returns-clause-solved c =
    let system = c.args.system.now in
    let now = c.in-Ok.ran.dictionary in
    let dual = c.in-Ok-dual_of.dual in
    let stands : StandsBest system now = subst (IsReached system now) c.in-Best.is c.in-Ok.ensures.reached in
    let formed = c.requires.formed (sym c.first_crossing.ensures ∙ c.in_default.is) in
    let count : length system.columns ≡ now.columns = sym (c.in-Ok.ensures.columns) in
    best system now formed count stands c.in-Ok-point_of.values.values dual c.in-Ok-point_of.ensures.values (c.in-Ok-dual_of.ensures.shares system count stands.is_of) c.in-Ok-dual_of.ensures.bound
    (λ terms e. c.in-Ok-dual_of.ensures.dual system terms formed e count stands.is_of)
