use Rattle.std.proofs.Common.{ℕ, ltb, cond, refl}
use Rattle.std.proofs.lemmas.Simd.{zip2_splat, length-chunk}
use lib.Lanes.{chunk}
use Rattle.lane_scan.proofs.Loads.{few_lanes, joined, splat_is, first_by_table}
use Rattle.text_fields.specs.Tokens.{stops_look}
use Rattle.text_fields.proofs.tokens.StopKind.count_before.Goals as goal

pub returns : goal.returns
returns c =
    let v = chunk c.args.at 16 c.args.bytes.now in
    let long = length-chunk c.args.at 16 c.args.bytes.now c.requires in
    let hidden = joined (λ a b. cond (ltb a b) 255 0) _ _ v (splat_is v 16 94 long) (zip2_splat {Y = ℕ} _ v 16 32 long) in
    let inside = joined _ _ _ v (zip2_splat _ v 16 9 long) (zip2_splat _ v 16 13 long) in
    first_by_table stops_look c.args.bytes.now c.args.at 16 _ _ c.requires few_lanes c.type_inv.bytes c.lowest_bit.ensures _
    (joined _ _ _ v (joined _ _ _ v hidden inside) (zip2_splat _ v 16 92 long)) refl
