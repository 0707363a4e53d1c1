use Rattle.std.proofs.Common.{◌≡◌, ◌<◌, ◌+◌, sym, ◌∙◌, ap, ℕ, List, [], ◌∷◌, drop, get_or, length}
use Rattle.std.proofs.lemmas.List.{at_drop_more, drop_all}
use Rattle.std.proofs.lemmas.Result.{err_from_is_err_and}
use Rattle.rational.specs.Rational.{ℚ, ◌+ℚ◌, zero_ℚ}
use Rattle.rational.proofs.Sums.{nothing_first}
use Rattle.algebra.proofs.Ring.{x0, ◌:+◌, zero_of}
use Rattle.rational.proofs.Field.{add-assoc_ℚ, ring_ℚ}
use Rattle.certs.specs.declared.evidence.Share.{Share}
use Rattle.certs.specs.Violation.{weight_on}
use Rattle.least_checks.proofs.Given.{left_operations, own_wide, own_fits, other_same, own_given, other_given, nothing_left}
use Rattle.least_checks.proofs.weights.weight_on.Goals.{then-is_of_member+in_ok-sum, else-is_of_member}
use Rattle.least_checks.proofs.weights.weight_on.Goals as goal

add-zero : (a : ℚ) → a +ℚ zero_ℚ ≡ a
add-zero a = ring_ℚ (a ∷ []) (x0 :+ zero_of) x0 tt

-- the shares from place i on are the one there and those after it
at_place : {A : Type 0} (F : List Share → A) (shares : List Share) (i : ℕ) (s : Share) → i < length shares → s ≡ get_or shares i s → F (drop i shares) ≡ F (s ∷ drop (i + 1) shares)
at_place F shares i s l is = at_drop_more F shares i s l ∙ ap (λ (z : Share). F (z ∷ drop (i + 1) shares)) (sym is)

pub loop-share-init : goal.loop-share-init
loop-share-init c = record {
  width = ap (λ (z : ℚ). left_operations c.args.member z c.args.shares.now) c.whole-sum.ensures;
  sum = ap (λ (z : ℚ). z +ℚ weight_on c.args.shares.now c.args.member) c.whole-sum.ensures ∙ nothing_first _;
}

pub returns-in_err-sum : goal.returns-in_err-sum
returns-in_err-sum c =
    let m = c.args.member in
    let shares = c.args.shares.now in
    let i = c.loop-share.share-index in
    let s = c.share-item.result in
    let p = err_from_is_err_and c.from_residual.result c.from_residual.ensures.1 in
    let e = c.in_err-sum.ensures in
    rw (p.1, p.2)
    (sym c.loop-share.invariant.width
    ∙ at_place (left_operations m c.loop-share.sum) shares i s c.loop-share-test.true c.share-item.is
    ∙ own_wide m c.loop-share.sum s (drop (i + 1) shares) _ (sym c.is_of_member.ensures ∙ c.if-is_of_member.true) e.0 e.1)

pub loop-share-preserved : goal.loop-share-preserved
loop-share-preserved c =
    let m = c.args.member in
    let shares = c.args.shares.now in
    let i = c.loop-share.share-index in
    let s = c.share-item.result in
    let rest = drop (i + 1) shares in
    let v = c.loop-share.invariant in
    let width = at_place (left_operations m c.loop-share.sum) shares i s c.loop-share-test.true c.share-item.is in
    let given = at_place (λ l. weight_on l m) shares i s c.loop-share-test.true c.share-item.is in
    elim c.if-is_of_member.branch [
      | then-is_of_member+in_ok-sum w ↦ (
          let own = sym c.is_of_member.ensures ∙ w.if-is_of_member.true in
          let e = w.in_ok-sum.ensures in
          let next = w.sum-is ∙ e.0 in
          record {
            width = sym (own_fits m c.loop-share.sum s rest c.if-is_of_member.sum own next e.1) ∙ sym width ∙ v.width;
            sum = ap (λ z. z +ℚ weight_on rest m) next ∙ add-assoc_ℚ c.loop-share.sum s.weight (weight_on rest m) ∙ ap (λ z. c.loop-share.sum +ℚ z) (sym (own_given m c.loop-share.sum s rest own) ∙ sym given) ∙ v.sum;
          })
      | else-is_of_member w ↦ (
          let other = sym c.is_of_member.ensures ∙ w.if-is_of_member.false in
          record {
            width = ap (λ z. left_operations m z rest) w.sum-is ∙ sym (other_same m c.loop-share.sum s rest other) ∙ sym width ∙ v.width;
            sum = ap (λ z. z +ℚ weight_on rest m) w.sum-is ∙ ap (λ z. c.loop-share.sum +ℚ z) (sym (nothing_first (weight_on rest m)) ∙ sym (other_given m c.loop-share.sum s rest other) ∙ sym given) ∙ v.sum;
          })
    ]

pub returns : goal.returns
returns c =
    let m = c.args.member in
    let none = drop_all c.loop-share.share-index c.args.shares.now c.loop-share-test.false in
    let v = c.loop-share.invariant in (
      sym (add-zero c.loop-share.sum) ∙ ap (λ l. c.loop-share.sum +ℚ weight_on l m) (sym none) ∙ v.sum,
      sym v.width ∙ ap (left_operations m c.loop-share.sum) none ∙ nothing_left m c.loop-share.sum,
    )
