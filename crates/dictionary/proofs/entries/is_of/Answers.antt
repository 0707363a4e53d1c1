use Rattle.std.proofs.Common.{sym, ◌∙◌, ap, true≢false, arith}
use Rattle.std.proofs.lemmas.Bool.{eqb-true, eqb-false}
use Rattle.rational.specs.Linear.{Term}
use Rattle.dictionary.proofs.Terms.{terms_get}
use Rattle.dictionary.proofs.entries.is_of.Goals as goal

pub returns-then-place-row-clause-there : goal.returns-then-place-row-clause-there
returns-then-place-row-clause-there g c = λ e. (c.if-place-row.true, λ d. ap (λ (t : Term). t.column) (terms_get g.N.Exact.value c.args.row.now c.args.place c.index-row-place.result d c.if-place-row.true) ∙ eqb-true _ _ e)

pub returns-then-place-row-clause-none : goal.returns-then-place-row-clause-none
returns-then-place-row-clause-none g c = λ e d l h. eqb-false _ _ e (sym (ap (λ (t : Term). t.column) (terms_get g.N.Exact.value c.args.row.now c.args.place c.index-row-place.result d l)) ∙ h)

pub returns-clause-there : goal.returns-clause-there
returns-clause-there g c = λ e. absurd (true≢false (sym e))

pub returns-clause-none : goal.returns-clause-none
returns-clause-none g c = λ e d l h. (let m = c.if-place-row.false in omega (arith, l, m))
