use Rattle.std.proofs.Common.{refl}
use Rattle.std.proofs.lemmas.Simd.{zip2_splat, length-chunk}
use lib.Lanes.{chunk}
use Rattle.lane_scan.specs.Bytes.{is_nonblank}
use Rattle.lane_scan.proofs.Loads.{few_lanes, joined, first_by_table}
use Rattle.lane_scan.proofs.kinds.NonblankKind.count_before.Goals as goal

pub returns : goal.returns
returns c =
    let v = chunk c.args.at 16 c.args.bytes.now in
    let long = length-chunk c.args.at 16 c.args.bytes.now c.requires in
    first_by_table is_nonblank c.args.bytes.now c.args.at 16 _ _ c.requires few_lanes c.type_inv.bytes c.lowest_bit.ensures _
    (joined _ _ _ v (joined _ _ _ v (zip2_splat _ v 16 32 long) (zip2_splat _ v 16 9 long)) (zip2_splat _ v 16 13 long)) refl
