use Rattle.std.proofs.Common.{◌≡◌, ◌<◌, ◌≤◌, ◌+◌, ◌∙◌, Bool, true, false, not, cond, refl, sym, ap, subst, List, length, get_or, set, replicate, arith, inl, inr}
use mir.Val.{bool_byte}
use Rattle.std.proofs.lemmas.Bool.{cases_lt, cases_eq}
use Rattle.std.proofs.lemmas.List.{ext_get_or, get_or-set_same, get_or-set_other, get_or-replicate, length-set, length-replicate, get_or_default}
use Rattle.rational.specs.Rational.{ℚ, zero_ℚ, eq_ℚ}
use Rattle.cert_check.specs.Sparse.{nonzero_count}
use Rattle.cert_check.proofs.Reached.{zero_or_not, zeros_count, cleared_count}
use Rattle.cert_check.proofs.room.clear.Goals as goal

byte_is : (b : Bool) → bool_byte b ≡ cond b 1 0
byte_is true = refl
byte_is false = refl

byte_few : (b : Bool) → bool_byte b ≤ 1
byte_few true = omega arith
byte_few false = omega arith

pub loop-column-preserved : goal.loop-column-preserved
loop-column-preserved c =
    let values : List ℚ = c.loop-column.values in
    let columns = c.args.columns.now in
    let index = c.loop-column.column-index in
    let i = c.loop-column.invariant in
    let v = c.whole-zero.result in
    let here = get_or columns index 0 in
    let within : here < length values = subst (λ n. here < n) (sym i.sized) (c.requires.within index 0 c.loop-column-test.true) in
    let cleared : get_or (set values here v) here zero_ℚ ≡ zero_ℚ = get_or-set_same values here v zero_ℚ within ∙ c.whole-zero.ensures in
    let byte = c.from-count.ensures ∙ byte_is c.ne.result ∙ ap (λ b. cond b 1 0) (c.ne.ensures ∙ (λ k. not (eq_ℚ (get_or_default values here c.index-values-at.result zero_ℚ within k) (c.whole-zero.ensures k)))) in
    let less = ap (λ z. cond (not (eq_ℚ (get_or values here zero_ℚ) zero_ℚ)) 1 0 + nonzero_count (set values here z)) c.whole-zero.ensures ∙ cleared_count values here within in
    record {
      sized = length-set values here v ∙ i.sized;
      few = (let one = byte_few c.ne.result in omega (arith, one, i.few, c.from-count.ensures));
      counted = omega (arith, byte, less, i.counted);
      cleared = λ k d l. elim (cases_eq (get_or columns k d) here) [
        | inl e ↦ ap (λ n. get_or (set values here v) n zero_ℚ) e ∙ cleared
        | inr other ↦ get_or-set_other values here (get_or columns k d) v zero_ℚ other ∙ elim (cases_lt k index) [
          | inl before ↦ i.cleared k d before
          | inr last ↦
              let same : k ≡ index = omega arith in
              absurd (other (ap (λ n. get_or columns n d) same ∙ get_or_default columns index d 0 c.loop-column-test.true))
        ]
      ];
      nonzeros = λ j ne. i.nonzeros j (λ z. ne (elim (cases_eq j here) [
        | inl e ↦ ap (λ n. get_or (set values here v) n zero_ℚ) e ∙ cleared
        | inr other ↦ get_or-set_other values here j v zero_ℚ other ∙ z
      ]));
    }

-- nothing is left but zeros
zeros : (c : goal.After-loop-column) → c.loop-column.values ≡ replicate (length c.args.values.now) zero_ℚ
zeros c =
    let values : List ℚ = c.loop-column.values in
    let n = length c.args.values.now in
    let i = c.loop-column.invariant in
    ext_get_or zero_ℚ values (replicate n zero_ℚ) (i.sized ∙ sym (length-replicate n zero_ℚ)) (λ j l. elim (zero_or_not (get_or values j zero_ℚ)) [
      | inl e ↦ e ∙ sym (get_or-replicate n j zero_ℚ zero_ℚ (subst (λ m. j < m) i.sized l))
      | inr ne ↦
          let at = i.nonzeros j ne in
          absurd (ne (sym (ap (λ k. get_or values k zero_ℚ) at.2) ∙ i.cleared at.0 j (omega (arith, at.1, c.loop-column-test.false))))
    ])

pub returns-clause-zeros : goal.returns-clause-zeros
returns-clause-zeros c = zeros c

pub returns-clause-count : goal.returns-clause-count
returns-clause-count c =
    let none = ap nonzero_count (zeros c) ∙ zeros_count (length c.args.values.now) in
    omega (arith, none, c.loop-column.invariant.counted)
