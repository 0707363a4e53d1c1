use Rattle.std.proofs.Common.{◌/◌, ◌%◌, ◌<◌, ℕ, eqb, get_or, w64, ap, sym, ◌∙◌, arith}
use Rattle.std.proofs.lemmas.Nat.Bits.{bit_at_set_same, bit_at_set_other, bit_at_clear_same, bit_at_clear_other}
use Rattle.lane_scan.proofs.Words.{bit_put}
use Rattle.lane_scan.proofs.bits.put_bit.Goals as goal

pub returns-then-bit-clause-bits : goal.returns-then-bit-clause-bits
returns-then-bit-clause-bits c =
    let w = get_or c.args.words.now (c.args.place / 64) 0 in
    let s = c.args.place % 64 in
    let small : s < 64 = omega arith in
    bit_put c.args.words.now c.args.place _ c.args.bit c.requires (ap (λ (n : ℕ). eqb n 1) (bit_at_set_same w64 w s small) ∙ sym c.if-bit.true)
    (λ j _ other. bit_at_set_other w64 w s small j other)

pub returns-else-bit-clause-bits : goal.returns-else-bit-clause-bits
returns-else-bit-clause-bits c =
    let w = get_or c.args.words.now (c.args.place / 64) 0 in
    let s = c.args.place % 64 in
    let small : s < 64 = omega arith in
    bit_put c.args.words.now c.args.place _ c.args.bit c.requires (ap (λ (n : ℕ). eqb n 1) (bit_at_clear_same w64 w s small) ∙ sym c.if-bit.false)
    (λ j few other. bit_at_clear_other w64 w s small j few other)
