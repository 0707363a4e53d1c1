use Rattle.std.proofs.Common.{◌≤◌}
use Rattle.report_page.proofs.points.count_shown.Given as goal

abbrev pub invariant-loop-number : goal.invariant-loop-number
invariant-loop-number l = l.count ≤ l.number-index
