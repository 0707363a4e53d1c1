use Rattle.std.proofs.Common.{◌≡◌, ◌+◌, ◌<◌, ◌≤◌, refl, sym, ◌∙◌, ap, subst, true, false, filter, take, length}
use Rattle.std.specs.Prelude.{All}
use Rattle.std.proofs.lemmas.List.{take_all}
use Rattle.std.proofs.lemmas.List.Elements.{All-get_or}
use Rattle.rational.specs.Rational.{lt_q, zero_ℚ}
use Rattle.lp_model.specs.Members.{has}
use Rattle.lp_model.specs.MemberSets.{IsPossibleIn}
use Rattle.certs.specs.Elastic.{soft_members}
use Rattle.certs.specs.Named.{IsOfSize, IsPartBy}
use Rattle.certs.proofs.Parted.{part_none}
use Rattle.relaxation.specs.Stretching.{IsTestOf}
use Rattle.relaxation.proofs.Found.{above, found_all, not_above, soft_possible, soft_there}
use Rattle.relaxation.proofs.rounds.missed_members.Goals.{then-is_less, else-is_less}
use Rattle.relaxation.proofs.rounds.missed_members.Goals as goal

pub loop-index-init : goal.loop-index-init
loop-index-init c =
    let set = c.args.set.now in
    record {
      sized = subst (IsOfSize set) (sym c.in_ok-found.ensures) (record { rows = refl; columns = refl });
      part = λ test t. subst (IsPartBy set (λ m. false)) (sym c.in_ok-found.ensures) (part_none set);
    }

pub insert-requires : goal.insert-requires
insert-requires c =
    let set = c.args.set.now in
    let found = c.loop-index.found in
    let soft = c.in_ok-soft.soft.items in
    let same : soft ≡ soft_members set.members c.args.enforced.now.members = c.in_ok-soft.ensures in
    let count : c.len-index-end.result ≡ length soft = c.len-index-end.ensures ∙ c.in_ok-soft.soft.ok.0 in
    let possible : All (IsPossibleIn found) soft = subst (All (IsPossibleIn found)) (sym same) (soft_possible set found c.args.enforced.now.members c.loop-index.invariant.sized c.stands_in_order.ensures.possible) in
    subst (IsPossibleIn found) (sym c.index.ensures) (All-get_or (IsPossibleIn found) soft c.loop-index.index c.index.result.now (subst (λ n. c.loop-index.index < n) count c.loop-index-test.true) possible)

pub loop-index-preserved : goal.loop-index-preserved
loop-index-preserved c =
    let set = c.args.set.now in
    let enforced = c.args.enforced.now.members in
    let found = c.loop-index.found in
    let i = c.loop-index.index in
    let soft = c.in_ok-soft.soft.items in
    let v = c.index-values-index.result in
    let same : soft ≡ soft_members set.members enforced = c.in_ok-soft.ensures in
    let count : c.len-index-end.result ≡ length soft = c.len-index-end.ensures ∙ c.in_ok-soft.soft.ok.0 in
    let below : i < length soft = subst (λ n. i < n) count c.loop-index-test.true in
    let each : length c.args.values.now ≡ length soft = c.requires.each ∙ ap length (sym same) in
    let test_is : c.is_less.result ≡ lt_q zero_ℚ v = c.is_less.ensures ∙ ap (λ z. lt_q z v) c.whole.ensures in
    elim c.if-is_less.branch [
      | then-is_less w ↦ record {
        sized = subst (IsOfSize set) (sym (w.found-is ∙ w.insert.ensures)) (record { rows = c.loop-index.invariant.sized.rows; columns = c.loop-index.invariant.sized.columns });
        part = λ test t.
            subst (IsPartBy set (has (filter test (take (i + 1) soft)))) (sym (w.found-is ∙ w.insert.ensures))
            (above set found soft c.args.values.now i v each below c.index-values-index.is test t (c.loop-index.invariant.part test t) w.index.result.now w.index.ensures
            (subst (All (λ m. has set.members m ≡ true)) (sym same) (soft_there set enforced)) (sym test_is ∙ w.if-is_less.true));
      }
      | else-is_less w ↦ record {
        sized = subst (IsOfSize set) (sym w.found-is) c.loop-index.invariant.sized;
        part = λ test t.
            subst (IsPartBy set (has (filter test (take (i + 1) soft)))) (sym w.found-is)
            (not_above set found soft c.args.values.now i v each below c.index-values-index.is test t (c.loop-index.invariant.part test t) (sym test_is ∙ w.if-is_less.false));
      }
    ]

pub returns : goal.returns
returns c = λ test t.
    (let set = c.args.set.now in
    let soft = c.in_ok-soft.soft.items in
    let same : soft ≡ soft_members set.members c.args.enforced.now.members = c.in_ok-soft.ensures in
    let count : c.len-index-end.result ≡ length soft = c.len-index-end.ensures ∙ c.in_ok-soft.soft.ok.0 in
    let all = take_all c.loop-index.index soft (subst (λ n. n ≤ c.loop-index.index) count c.loop-index-test.false) in
    found_all set c.loop-index.found c.args.enforced.now.members test c.stands_in_order.ensures.possible
    (subst (λ l. IsPartBy set (has (filter test l)) c.loop-index.found) (all ∙ same) (c.loop-index.invariant.part test (subst (λ l. IsTestOf l c.args.values.now test) (sym same) t))))
