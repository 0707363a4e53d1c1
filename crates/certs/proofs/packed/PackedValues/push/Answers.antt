use Rattle.std.proofs.Common.{◌∙◌, sym, ap, [], ◌∷◌, length, arith}
use Rattle.std.proofs.lemmas.List.{length-append}
use Rattle.rational.specs.Rational.{zero_ℚ, eq_ℚ}
use Rattle.rational.proofs.Compare.{eq-Decides}
use Rattle.certs.specs.Packed.{unpacked}
use Rattle.certs.proofs.Unpacked.{zero_more, value_more}
use Rattle.certs.proofs.packed.PackedValues.push.Goals as goal
use Rattle.certs.proofs.packed.PackedValues.push.Goals.{then-eq, else-eq+in_ok-push}

pub invariant_of-self-2 : goal.invariant_of-self-2
invariant_of-self-2 c =
    let i = c.self.inside in
    let v = c.args.value in
    let now = c.args.self.now in
    let was = c.self.invariant.0 ∙ ap length c.self.view_is in
    let one = length-append now (v ∷ []) in
    elim c.if-eq.branch [
      | then-eq w ↦
          let grown = ap length ((λ j. unpacked (w.self-inside-is j).entries.items (w.self-inside-is j).rest) ∙ zero_more i.entries.items i.rest now v c.self.view_is ((eq-Decides v zero_ℚ).0 (sym (c.eq.ensures ∙ ap (eq_ℚ v) c.whole.ensures) ∙ w.if-eq.true))) in
          let rest = ap (λ s. s.rest) w.self-inside-is in
          let count = ap (λ s. s.count) w.self-inside-is in
          (omega arith, omega (arith, c.self.invariant.1))
      | else-eq+in_ok-push w ↦
          let grown = ap length ((λ j. unpacked (w.self-inside-is j).entries.items (w.self-inside-is j).rest) ∙ ap (λ l. unpacked l 0) w.in_ok-push.ensures.items ∙ value_more i.entries.items i.rest now v c.self.view_is) in
          let rest = ap (λ s. s.rest) w.self-inside-is in
          let count = ap (λ s. s.count) w.self-inside-is in
          (omega arith, omega arith)
    ]

pub returns : goal.returns
returns c =
    let i = c.self.inside in
    let v = c.args.value in
    let now = c.args.self.now in
    elim c.if-eq.branch [
      | then-eq w ↦ (λ j. unpacked (w.self-inside-is j).entries.items (w.self-inside-is j).rest) ∙ zero_more i.entries.items i.rest now v c.self.view_is ((eq-Decides v zero_ℚ).0 (sym (c.eq.ensures ∙ ap (eq_ℚ v) c.whole.ensures) ∙ w.if-eq.true))
      | else-eq+in_ok-push w ↦ (λ j. unpacked (w.self-inside-is j).entries.items (w.self-inside-is j).rest) ∙ ap (λ l. unpacked l 0) w.in_ok-push.ensures.items ∙ value_more i.entries.items i.rest now v c.self.view_is
    ]
