use Rattle.std.proofs.Common.{ℕ, not, eqb, ltb, cond, refl}
use Rattle.std.proofs.lemmas.Simd.{zip2_splat, length-chunk}
use lib.Lanes.{chunk}
use Rattle.lane_scan.proofs.Loads.{few_lanes, joined, splat_is, first_by_table}
use Rattle.text_fields.specs.Pieces.{is_word_start, is_word_byte}
use Rattle.text_fields.proofs.pieces.WordEndKind.count_before.Goals as goal

pub returns : goal.returns
unfolding is_word_byte is_word_start
returns c =
    let v = chunk c.args.at 16 c.args.bytes.now in
    let long = length-chunk c.args.at 16 c.args.bytes.now c.requires in
    let hidden = joined (λ a b. cond (ltb a b) 255 0) _ _ v (splat_is v 16 93 long) (zip2_splat {Y = ℕ} _ v 16 33 long) in
    let pair = joined (λ a b. cond (eqb a b) 255 0) _ _ v (zip2_splat {Y = ℕ} _ v 16 1 long) (splat_is v 16 43 long) in
    let compared = joined (λ a b. cond (ltb a b) 255 0) _ _ v (zip2_splat {Y = ℕ} _ v 16 60 long) (splat_is v 16 3 long) in
    let brackets = joined (λ a b. cond (ltb a b) 255 0) _ _ v (zip2_splat {Y = ℕ} _ v 16 91 long) (splat_is v 16 4 long) in
    first_by_table (λ b. not (is_word_byte b)) c.args.bytes.now c.args.at 16 _ _ c.requires few_lanes c.type_inv.bytes c.lowest_bit.ensures _
    (joined _ _ _ v
    (joined _ _ _ v
    (joined _ _ _ v hidden (joined _ _ _ v pair (zip2_splat _ v 16 45 long)))
    (joined _ _ _ v compared (zip2_splat _ v 16 58 long)))
    brackets)
    refl
