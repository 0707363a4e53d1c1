use Rattle.std.proofs.Common.{length, get_or, inl, inr, sym, ◌∙◌, arith}
use Rattle.std.proofs.lemmas.Bool.{cases_lt, cases_Bool, false≢true}
use Rattle.lane_scan.proofs.Words.{both_bits, no_both, no_bit_past}
use Rattle.lane_scan.proofs.bits.meets.Goals as goal

pub returns : goal.returns
returns c =
    let a = c.args.a.now in
    let b = c.args.b.now in
    elim (cases_Bool c.is_shared.result) [
      | inl some ↦
          let m = c.is_shared.ensures.some some in
          let bit = both_bits (get_or a m.0 0) (get_or b m.0 0) (omega (arith, c.type_inv.a m.0)) m.2 in
          (λ _. (m.0, bit.0, bit.1, bit.2), λ _. some)
      | inr none ↦ (
        λ e. absurd (false≢true (sym none ∙ e)),
        λ (i, j, s, t). elim (cases_lt i (length a)) [
          | inl l ↦ absurd (no_both (get_or a i 0) (get_or b i 0) j (c.is_shared.ensures.none none i (omega arith) l) s t)
          | inr l ↦ absurd (no_bit_past a i j l s)
        ],
      )
    ]
