use Rattle.std.proofs.Common.{◌∙◌, sym, ap}
use Rattle.rational.specs.Linear.{Term}
use Rattle.alt_polyhedron.proofs.Factors.{search_ended, search_found, search_passed}
use Rattle.alt_polyhedron.proofs.counting.term_factor.Goals as goal

pub returns-then-term-column : goal.returns-then-term-column
returns-then-term-column c =
    ap (λ (t : Term). t.factor) c.term.view_is
    ∙ sym (search_found c.args.column c.args.terms.now c.loop-term.term-index c.term-item.result c.requires c.loop-term-test.true c.term-item.is
    (sym (ap (λ (t : Term). t.column) c.term.view_is) ∙ c.if-term-column.true))
    ∙ c.loop-term.invariant

pub loop-term-preserved : goal.loop-term-preserved
loop-term-preserved c =
    sym (search_passed c.args.column c.args.terms.now c.loop-term.term-index c.term-item.result c.loop-term-test.true c.term-item.is
    (λ e. c.if-term-column.false (ap (λ (t : Term). t.column) c.term.view_is ∙ e)))
    ∙ c.loop-term.invariant

pub returns : goal.returns
returns c = c.whole.ensures ∙ sym (search_ended c.args.column c.args.terms.now c.loop-term.term-index c.loop-term-test.false) ∙ c.loop-term.invariant
