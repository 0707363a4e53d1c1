use Rattle.lane_scan.proofs.Loads.{first-place}
use Rattle.lane_scan.proofs.lanes.first_of.Goals as goal

pub returns-clause-place : goal.returns-clause-place
returns-clause-place g c = first-place c.requires.in_order c.requires.within c.first_by_lanes.ensures
