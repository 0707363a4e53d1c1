use Rattle.std.proofs.Common.{sym, ◌∙◌, ap, subst, List, []}
use Rattle.std.specs.Prelude.{All}
use Rattle.std.specs.List.{list_all}
use Rattle.lp_model.specs.MemberSets.{SetValue}
use Rattle.certs.specs.declared.evidence.Share.{Share}
use Rattle.certs.specs.Combination.{right_side}
use Rattle.rational.specs.Rational.{neg_ℚ}
use Rattle.certs.specs.Named.{IsKnownSource}
use Rattle.quick_answers.specs.Stretching.{is_share_within}
use Rattle.quick_answers.proofs.Further.{all_known, all_within, round_shown, same_by, some_there}
use Rattle.quick_answers.proofs.rounds.confirmed_least.Goals as goal

pub are_within-requires : goal.are_within-requires
are_within-requires c =
    let set = c.args.set.now in
    let enforced = c.args.enforced.now in
    let combination = c.is_combo.ensures c.if-not-is_combo.false in
    subst (λ (l : List Share). All (λ s. IsKnownSource enforced s.source) l) (sym c.as_slice.ensures)
    (all_known c.args.model.now set enforced c.args.found.combo.shares
    (record { rows = c.requires.enforced.rows ∙ sym c.requires.same.rows; columns = c.requires.enforced.columns ∙ sym c.requires.same.columns })
    c.stands_in_order.ensures.possible combination.0.there)

pub returns : goal.returns
returns c =
    let model = c.args.model.now in
    let set = c.args.set.now.members in
    let enforced = c.args.enforced.now.members in
    let shares = c.args.found.combo.shares in
    let missed = c.in_ok-missed.missed in
    let here = c.is_point.ensures c.if-not-is_point.false in
    let combination = c.is_combo.ensures c.if-not-is_combo.false in
    let within = all_within enforced set shares combination.1 (ap (λ (l : List Share). list_all (is_share_within enforced) l) (sym c.as_slice.ensures) ∙ sym c.are_within.ensures ∙ c.if-not-are_within.false) in
    let right = c.in-Ok.ensures.0 ∙ ap (λ (l : List Share). right_side model [] l) c.as_slice-2.ensures in
    let total = same_by missed.total c.negate.result c.ne.result c.ne.ensures c.if-ne.false in
    round_shown model set enforced shares c.total_is_bounded.ensures combination.0 within
    c.args.found.point.values here.satisfies (sym c.in_ok-missed.ensures.total ∙ total ∙ c.negate.ensures ∙ ap neg_ℚ right)
    missed.further.members (ap (λ (s : SetValue). s.members) c.in_ok-missed.ensures.further) (some_there missed.further.members c.count.result c.count.ensures c.if-count-eq0.false)
