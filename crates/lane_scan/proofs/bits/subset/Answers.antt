use Rattle.std.proofs.Common.{length, get_or, inl, inr, not, sym, ap, ◌∙◌, arith}
use Rattle.std.proofs.lemmas.Bool.{cases_lt, cases_Bool, false≢true}
use Rattle.lane_scan.proofs.Words.{each_bit, lacking_bit, no_bit_past}
use Rattle.lane_scan.proofs.bits.subset.Goals as goal

pub returns : goal.returns
returns c =
    let a = c.args.a.now in
    let b = c.args.b.now in
    elim (cases_Bool c.is_shared.result) [
      | inl some ↦
          let m = c.is_shared.ensures.some some in
          let bit = lacking_bit (get_or a m.0 0) (get_or b m.0 0) (omega (arith, c.type_inv.a m.0)) m.2 in
          (λ e. absurd (false≢true (sym (ap not some) ∙ e)), λ sub. absurd (bit.2 (sub m.0 bit.0 bit.1)))
      | inr none ↦ (
        λ _ i j s. elim (cases_lt i (length a)) [
          | inl l ↦ each_bit (get_or a i 0) (get_or b i 0) j (omega (arith, c.type_inv.a i)) (c.is_shared.ensures.none none i (omega arith) l) s
          | inr l ↦ absurd (no_bit_past a i j l s)
        ],
        λ _. ap not none,
      )
    ]
