use Rattle.std.proofs.Common.{◌≡◌, ◌<◌, ◌≤◌, ◌∙◌, ap, subst, List, take, length, filter}
use Rattle.lp_model.specs.declared.members.Member.{Member}
use Rattle.lp_model.specs.MemberSets.{SetValue}
use Rattle.lp_model.specs.Satisfaction.{coordinate, values_at}
use Rattle.certs.specs.Elastic.{soft_members}
use Rattle.certs.specs.Violation.{is_violated}
use Rattle.relaxation.proofs.Reaching.{common, common_same, further, met, none_found, same_values_at, tests_at}
use Rattle.relaxation.proofs.rounds.met_or_further.Goals as goal

pub returns-then-count-gt0-clause-answered : goal.returns-then-count-gt0-clause-answered
returns-then-count-gt0-clause-answered c = λ dual best.
    (let model = c.args.model.now in
    let set = c.args.set.now.members in
    let enforced = c.args.enforced.now.members in
    let values = c.args.values.now.values in
    let formed = c.row_count-rows.ensures.well_formed in
    let same = common_same model set enforced values dual formed c.requires.elastic best in
    let y = coordinate (common model set enforced values dual formed c.requires.elastic best) in
    let found = c.in-Ok.ensures (is_violated model y) (tests_at model set enforced values dual formed c.requires.elastic best y same c.column_count-columns.result c.column_count-columns.ensures.count c.as_slice.result.now c.as_slice.ensures) in
    further model set enforced values dual formed c.requires.elastic best c.in-Ok.further.members (ap (λ (s : SetValue). s.members) found) (subst (λ n. 0 < n) c.count.ensures c.if-count-gt0.true))

pub returns-clause-answered : goal.returns-clause-answered
returns-clause-answered c = λ dual best.
    (let model = c.args.model.now in
    let set = c.args.set.now.members in
    let enforced = c.args.enforced.now.members in
    let values = c.args.values.now.values in
    let formed = c.row_count-rows.ensures.well_formed in
    let point = c.in-Ok-first_values.point in
    let first : point.values ≡ take (length model.columns) values = c.in-Ok-first_values.ensures ∙ ap (λ n. take n values) c.column_count-columns.ensures.count in
    let same = same_values_at model set enforced values dual formed c.requires.elastic best point.values first in
    let found = c.in-Ok.ensures (is_violated model (values_at point.values)) (tests_at model set enforced values dual formed c.requires.elastic best (values_at point.values) same c.column_count-columns.result c.column_count-columns.ensures.count c.as_slice.result.now c.as_slice.ensures) in
    let gone : length c.in-Ok.further.members ≤ 0 = subst (λ n. n ≤ 0) c.count.ensures c.if-count-gt0.false in
    met model set enforced values dual formed c.requires.elastic best point first (none_found (filter (is_violated model (values_at point.values)) (soft_members set enforced)) (subst (λ (l : List Member). length l ≤ 0) (ap (λ (s : SetValue). s.members) found) gone)))
