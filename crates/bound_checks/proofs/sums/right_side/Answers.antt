use Rattle.std.proofs.Common.{◌≡◌, [], ap, sym, ◌∙◌, None, List}
use Rattle.std.proofs.lemmas.Result.{err_from_is_err_and}
use Rattle.rational.specs.Rational.{ℚ, ◌+ℚ◌, ◌*ℚ◌}
use Rattle.rational.proofs.Sums.{nothing_first}
use Rattle.frac128.specs.Limit.{limit}
use Rattle.frac128.specs.Calculation.{first_wide}
use Rattle.certs.specs.declared.evidence.Branch.{Branch}
use Rattle.certs.specs.Combination.{right_side, signed, source_side}
use Rattle.certs.specs.Checks.{right_operations, share_operations}
use Rattle.certs.proofs.ColumnSums.{right_wide, right_next, right_sum, right_end, right_done}
use Rattle.certs.proofs.PathNumbers.{number_read}
use Rattle.bound_checks.proofs.sums.right_side.Goals as goal

pub loop-share-init : goal.loop-share-init
loop-share-init c =
    let model = c.args.model.now in
    let path : List Branch = [] in
    let shares = c.args.shares.now in
    record {
      width = ap (λ (z : ℚ). first_wide limit (right_operations model path z shares)) c.whole-zero.ensures;
      sum = ap (λ (z : ℚ). z +ℚ right_side model path shares) c.whole-zero.ensures ∙ nothing_first _;
    }

pub returns-in_err-sum : goal.returns-in_err-sum
returns-in_err-sum c =
    let s = c.share-item.result in
    let p = err_from_is_err_and c.from_residual.result c.from_residual.ensures.1 in
    let n = number_read c.args.model.now [] s c.source_number.result c.whole-zero.result c.unwrap_or-number.result c.source_number.ensures c.whole-zero.ensures c.unwrap_or-number.ensures in
    rw (p.1, p.2)
    (sym c.loop-share.invariant.width
    ∙ right_wide c.args.model.now c.args.shares.now c.loop-share.share-index s c.loop-share-test.true c.share-item.is [] c.loop-share.sum c.unwrap_or-number.result n _
    (ap (λ z. first_wide limit (share_operations c.loop-share.sum z c.unwrap_or-number.result s.weight)) (sym c.side.ensures) ∙ c.in_err-sum.ensures))

pub loop-share-preserved : goal.loop-share-preserved
loop-share-preserved c =
    let s = c.share-item.result in
    let i = c.loop-share.invariant in
    let e = c.in_ok-sum.ensures in
    let value : c.in_ok-sum.sum ≡ c.loop-share.sum +ℚ signed (source_side s.source) (c.unwrap_or-number.result *ℚ s.weight) =
    e.0 ∙ ap (λ z. c.loop-share.sum +ℚ signed z (c.unwrap_or-number.result *ℚ s.weight)) c.side.ensures in
    let width : first_wide limit (share_operations c.loop-share.sum (source_side s.source) c.unwrap_or-number.result s.weight) ≡ None =
    ap (λ z. first_wide limit (share_operations c.loop-share.sum z c.unwrap_or-number.result s.weight)) (sym c.side.ensures) ∙ e.1 in
    let n = number_read c.args.model.now [] s c.source_number.result c.whole-zero.result c.unwrap_or-number.result c.source_number.ensures c.whole-zero.ensures c.unwrap_or-number.ensures in
    record {
      width = right_next c.args.model.now c.args.shares.now c.loop-share.share-index s c.loop-share-test.true c.share-item.is [] c.loop-share.sum c.unwrap_or-number.result n c.in_ok-sum.sum value width ∙ i.width;
      sum = right_sum c.args.model.now c.args.shares.now c.loop-share.share-index s c.loop-share-test.true c.share-item.is [] c.loop-share.sum c.unwrap_or-number.result n c.in_ok-sum.sum value ∙ i.sum;
    }

pub returns : goal.returns
returns c =
    let i = c.loop-share.invariant in (
      right_done c.args.model.now c.args.shares.now c.loop-share.share-index c.loop-share-test.false [] c.loop-share.sum ∙ i.sum,
      sym i.width ∙ right_end c.args.model.now c.args.shares.now c.loop-share.share-index c.loop-share-test.false [] c.loop-share.sum,
    )
