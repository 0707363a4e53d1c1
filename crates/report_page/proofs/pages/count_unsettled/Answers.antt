use Rattle.std.proofs.Common.{arith}
use Rattle.cert_check.proofs.Counted.{all_counted}
use Rattle.report_page.proofs.pages.count_unsettled.Goals as goal

pub overflow_sub-result : goal.overflow_sub-result
overflow_sub-result c =
    let all = all_counted c.args.entries.now in
    let settled = c.count_settled.ensures in
    omega (arith, all, settled)

pub returns : goal.returns
returns c =
    let all = all_counted c.args.entries.now in
    let settled = c.count_settled.ensures in
    omega (arith, all, settled)
