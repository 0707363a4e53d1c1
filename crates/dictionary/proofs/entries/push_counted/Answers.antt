use Rattle.std.proofs.Common.{◌≡◌, sym, ◌∙◌, ap, cond, [], ◌∷◌, ◌++◌, true, false}
use Rattle.std.proofs.lemmas.List.{append-nil}
use Rattle.rational.specs.Rational.{eq_ℚ, zero_ℚ}
use Rattle.dictionary.specs.Rows.{terms_of}
use Rattle.dictionary.proofs.Terms.{terms-append, succeeded}
use Rattle.dictionary.proofs.entries.push_counted.Goals as goal

pub returns-then-is_zero-clause-items : goal.returns-then-is_zero-clause-items
returns-then-is_zero-clause-items g c =
    let v = g.N.Exact.value in
    let out = terms_of v c.args.out.now.items in
    let e : eq_ℚ (v c.args.factor) zero_ℚ ≡ true = sym c.is_zero.ensures ∙ c.if-is_zero.true in
    sym (append-nil out) ∙ ap (λ b. out ++ cond b [] (record { column = c.args.variable; factor = v c.args.factor } ∷ [])) (sym e)

pub returns-clause-items : goal.returns-clause-items
returns-clause-items g c =
    let v = g.N.Exact.value in
    let out = c.args.out.now.items in
    let e : eq_ℚ (v c.args.factor) zero_ℚ ≡ false = sym c.is_zero.ensures ∙ c.if-is_zero.false in
    ap (terms_of v) (succeeded c.push.result c.unwrap.result (out ++ record { variable = c.args.variable; factor = c.args.factor } ∷ []) out c.push.new.self.items c.unwrap.ensures c.push.ensures.items)
    ∙ terms-append v out (record { variable = c.args.variable; factor = c.args.factor } ∷ [])
    ∙ ap (λ b. terms_of v out ++ cond b [] (record { column = c.args.variable; factor = v c.args.factor } ∷ [])) (sym e)
