use Rattle.std.proofs.Common.{◌∙◌, ap}
use Rattle.rational.proofs.Values.{frac-is, same_from, self}
use Rattle.frac128.specs.Value.{value_of}
use Rattle.frac128.proofs.Machine.{z_read}
use Rattle.frac128.proofs.Sums.{lowest_value_by}
use Rattle.frac128.proofs.common.CommonSum.value.Goals as goal

pub returns : goal.returns
returns c =
    let n = c.self.inside.num in
    let read = z_read n c.self.invariant.num_fits in
    let e = c.in-Some.ensures in
    let t = c.unsigned_abs.ensures.value in
    let d = c.from.ensures in
    let h = lowest_value_by n c.in-Some.parts.num c.in-Some.parts.den c.unsigned_abs.result c.from.result (rw read at t) (rw read at e.1) e.2 in
    c.of.ensures ∙ same_from (self (value_of c.in-Some.parts)) (frac-is n c.self.inside.den c.self.invariant.positive) (rw d at h) ∙ c.self.view_is
