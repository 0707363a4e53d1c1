use Rattle.std.proofs.Common.{◌≡◌, ◌+◌, ◌-◌, ◌<◌, ℕ, false, not, eqb, length, get_or, map, replicate, w64, sym, ap, ap₂, ◌∙◌, arith, inl, inr, bit_and, bit_xor}
use Rattle.std.proofs.lemmas.Bool.{cases_eq, ne_eqb, false≢true}
use Rattle.std.proofs.lemmas.List.{take_all, get_or-replicate}
use Rattle.std.proofs.lemmas.Simd.{bitmask_splat, none_from_empty_mask, length-chunk, get_or-chunk, get_or-zip2, length-zip2}
use lib.Lanes.{chunk, zip2, mask_l}
use Rattle.lane_scan.proofs.bits.is_shared_in_four.Goals as goal

zero_of : (m : ℕ) → not (eqb m 0) ≡ false → m ≡ 0
zero_of m e = elim (cases_eq m 0) [
  | inl none ↦ none
  | inr some ↦ absurd (false≢true (sym e ∙ ap not (ne_eqb m 0 some)))
]

pub returns : goal.returns
returns c e k low high =
    let a = c.args.a.now in
    let b = c.args.b.now in
    let at = c.args.at in
    let turn = c.args.turn in
    let x = chunk at 4 a in
    let z = chunk at 4 b in
    let y = zip2 bit_xor z (replicate 4 turn) in
    let v = zip2 bit_and x y in
    let lx : length x ≡ 4 = length-chunk at 4 a c.requires.a in
    let lz : length z ≡ 4 = length-chunk at 4 b c.requires.b in
    let ly : length y ≡ 4 = length-zip2 bit_xor z (replicate 4 turn) lz ∙ lz in
    let lv : length v ≡ 4 = length-zip2 bit_and x y (lx ∙ sym ly) ∙ lx in
    let mask = bitmask_splat w64 (λ p q. not (eqb p q)) v 4 0 lv (omega arith) in
    let none : mask_l (map (λ p. not (eqb p 0)) v) ≡ 0 = sym mask ∙ zero_of _ e in
    let j = k - at in
    let jl : j < 4 = omega arith in
    let fails : not (eqb (get_or v j 0) 0) ≡ false = none_from_empty_mask (λ p. not (eqb p 0)) v 0 4 0 (omega arith) (ap (λ l. mask_l (map (λ p. not (eqb p 0)) l)) (take_all 4 v (omega arith)) ∙ none) j (omega arith) (omega arith) in
    let back : at + j ≡ k = omega arith in
    let at_j : get_or v j 0 ≡ bit_and (get_or x j 0) (get_or y j 0) = get_or-zip2 bit_and x y j 0 0 0 (omega arith) (omega arith) in
    let xk : get_or x j 0 ≡ get_or a k 0 = get_or-chunk at 4 a j 0 jl ∙ ap (λ n. get_or a n 0) back in
    let zk : get_or z j 0 ≡ get_or b k 0 = get_or-chunk at 4 b j 0 jl ∙ ap (λ n. get_or b n 0) back in
    let yk : get_or y j 0 ≡ bit_xor (get_or b k 0) turn = get_or-zip2 bit_xor z (replicate 4 turn) j 0 0 0 (omega arith) jl ∙ ap₂ bit_xor zk (get_or-replicate 4 j turn 0 jl) in
    sym (at_j ∙ ap₂ bit_and xk yk) ∙ zero_of _ fails
