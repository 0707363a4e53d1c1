use Rattle.std.proofs.Common.{sym}
use Rattle.text_fields.proofs.LookFaults.{look-long, look-foreign, look-end, look-comment}
use Rattle.text_fields.proofs.tokens.fault_from.Goals.{else-stop-end-via-then-stop-end+else-bytes-stop-ne92, else-stop-end-via-else-stop-end}
use Rattle.text_fields.proofs.tokens.fault_from.Goals as goal

pub returns-then-end-at-gt-MOST_BYTES : goal.returns-then-end-at-gt-MOST_BYTES
returns-then-end-at-gt-MOST_BYTES c =
    sym (look-long c.args.bytes.now c.args.at c.first_of-stop.result c.first_of-end.result c.requires c.first_of-stop.ensures.first c.first_of-end.ensures.first c.if-end-at-gt-MOST_BYTES.true)

pub returns-then-bytes-stop-ne92 : goal.returns-then-bytes-stop-ne92
returns-then-bytes-stop-ne92 c =
    sym (look-foreign c.args.bytes.now c.args.at c.first_of-stop.result c.first_of-end.result c.requires c.first_of-stop.ensures.first c.first_of-end.ensures.first
    c.if-end-at-gt-MOST_BYTES.false c.if-stop-end.true c.if-bytes-stop-ne92.true)

pub returns : goal.returns
returns c =
    let bytes = c.args.bytes.now in
    let stop = c.first_of-stop.result in
    let end = c.first_of-end.result in
    let look = c.first_of-stop.ensures.first in
    let last = c.first_of-end.ensures.first in
    let short = c.if-end-at-gt-MOST_BYTES.false in
    elim c.else-stop-end.branch [
      | else-stop-end-via-then-stop-end+else-bytes-stop-ne92 w ↦ sym (look-comment bytes c.args.at stop end c.requires look last short w.if-bytes-stop-ne92.false)
      | else-stop-end-via-else-stop-end w ↦ sym (look-end bytes c.args.at stop end c.requires look last short w.if-stop-end.false)
    ]
