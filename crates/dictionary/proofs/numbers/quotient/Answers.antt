use Rattle.std.proofs.Common.{◌≡◌, sym, ◌∙◌, false, inl, inr}
use Rattle.std.proofs.lemmas.Result.{MatchResult-weaker}
use Rattle.std.proofs.lemmas.Bool.{cases_Bool}
use Rattle.rational.specs.Rational.{eq_ℚ, zero_ℚ, inv_ℚ}
use Rattle.frac128.specs.declared.Op.TheVariants.{Over}
use Rattle.dictionary.proofs.Counts.{is_zero, counted-left, counted-narrow, counted-wide, zero_times}
use Rattle.rational.proofs.Compare.{eq-Decides}
use Rattle.dictionary.proofs.numbers.quotient.Goals as goal

pub returns-then-is_zero : goal.returns-then-is_zero
returns-then-is_zero g c =
    let v = g.N.Exact.value in
    let a = v c.args.a in
    let b = v c.args.b in (
      c.zero.ensures ∙ zero_times a (inv_ℚ b) (is_zero _ _ c.is_zero.ensures c.if-is_zero.true),
      counted-left g.N.Exact.most Over a b (sym c.is_zero.ensures ∙ c.if-is_zero.true),
    )

pub returns : goal.returns
returns g c =
    let v = g.N.Exact.value in
    let a = v c.args.a in
    let b = v c.args.b in
    let e = (sym c.is_zero.ensures ∙ c.if-is_zero.false) in
    let f : eq_ℚ b zero_ℚ ≡ false = elim (cases_Bool (eq_ℚ b zero_ℚ)) [ inl t ↦ absurd (c.requires ((eq-Decides b zero_ℚ).0 t)) | inr t ↦ t ] in
    MatchResult-weaker c.over.result c.over.ensures (λ r p. (p.0, counted-narrow g.N.Exact.most Over a b e f p.1)) (λ w p. counted-wide g.N.Exact.most Over a b e f w p.0 p.1)
