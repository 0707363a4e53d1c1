use Rattle.std.proofs.Common.{◌+◌, ap, ◌∙◌}
use Rattle.lane_scan.specs.Bytes.{is_end}
use Rattle.lane_scan.proofs.Firsts.{first-rest}
use Rattle.lane_scan.proofs.scans.next_end.Goals as goal

pub returns-clause-place : goal.returns-clause-place
returns-clause-place c = c.first_of.ensures.place ∙ ap (λ n. c.args.from + n) (first-rest is_end c.args.bytes.now c.args.from)
