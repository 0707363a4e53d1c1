use Rattle.std.proofs.Common.{eqb}
use Rattle.std.proofs.lemmas.Simd.{zip2_splat, length-chunk}
use lib.Lanes.{chunk}
use Rattle.lane_scan.proofs.Loads.{few_lanes, first_in_load, equal_is}
use Rattle.lane_scan.proofs.kinds.ByteKind.count_before.Goals as goal

pub returns : goal.returns
returns g c =
    let v = chunk c.args.at 16 c.args.bytes.now in
    let long = length-chunk c.args.at 16 c.args.bytes.now c.requires in
    first_in_load (λ x. eqb x g.row.BYTE) c.args.bytes.now c.args.at 16 _ _ c.requires few_lanes c.type_inv.bytes c.lowest_bit.ensures _
    (zip2_splat _ v 16 g.row.BYTE long) (λ x l. equal_is g.row.BYTE x)
