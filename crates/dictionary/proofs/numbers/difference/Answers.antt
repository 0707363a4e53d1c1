use Rattle.std.proofs.Common.{sym, ◌∙◌}
use Rattle.std.proofs.lemmas.Result.{MatchResult-weaker}
use Rattle.frac128.specs.declared.Op.TheVariants.{Minus}
use Rattle.dictionary.proofs.Counts.{is_zero, counted-left, counted-right, counted-narrow, counted-wide, zero_minus, minus_zero}
use Rattle.dictionary.proofs.numbers.difference.Goals as goal

pub returns-then-is_zero : goal.returns-then-is_zero
returns-then-is_zero g c =
    let v = g.N.Exact.value in
    let a = v c.args.a in
    let b = v c.args.b in (
      c.negate.ensures ∙ zero_minus a b (is_zero _ _ c.is_zero.ensures c.if-is_zero.true),
      counted-left g.N.Exact.most Minus a b (sym c.is_zero.ensures ∙ c.if-is_zero.true),
    )

pub returns-then-is_zero-2 : goal.returns-then-is_zero-2
returns-then-is_zero-2 g c =
    let v = g.N.Exact.value in
    let a = v c.args.a in
    let b = v c.args.b in (
      minus_zero a b (is_zero _ _ c.is_zero-2.ensures c.if-is_zero-2.true),
      counted-right g.N.Exact.most Minus a b ((sym c.is_zero.ensures ∙ c.if-is_zero.false)) (sym c.is_zero-2.ensures ∙ c.if-is_zero-2.true),
    )

pub returns : goal.returns
returns g c =
    let v = g.N.Exact.value in
    let a = v c.args.a in
    let b = v c.args.b in
    let e = (sym c.is_zero.ensures ∙ c.if-is_zero.false) in
    let f = (sym c.is_zero-2.ensures ∙ c.if-is_zero-2.false) in
    MatchResult-weaker c.minus.result c.minus.ensures (λ r p. (p.0, counted-narrow g.N.Exact.most Minus a b e f p.1)) (λ w p. counted-wide g.N.Exact.most Minus a b e f w p.0 p.1)
