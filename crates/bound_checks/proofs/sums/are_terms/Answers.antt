use Rattle.std.proofs.Common.{◌≡◌, ◌<◌, ◌+◌, ℕ, List, length, drop, set, get_or, sym, ap, subst, refl, ◌∙◌}
use Rattle.std.proofs.lemmas.List.{get_or_read_under}
use Rattle.rational.specs.Rational.{ℚ, zero_ℚ}
use Rattle.rational.specs.Linear.{Term}
use Rattle.lp_model.specs.Satisfaction.{values_at}
use Rattle.certs.specs.Bound.{directed}
use Rattle.certs.specs.Checks.{every_below}
use Rattle.bound_checks.proofs.Factors.{matches, term_known, factor_missed, factor_met, factors_end, differ, agree}
use Rattle.bound_checks.proofs.sums.are_terms.Goals as goal

-- what the index reads
read : (xs : List ℚ) (j k n : ℕ) (y : ℚ) → y ≡ get_or xs j y → j ≡ k → k < n → length xs ≡ n → y ≡ values_at xs k
read xs j k n y e f l r = get_or_read_under xs k (length xs) y zero_ℚ (subst (λ (i : ℕ). y ≡ get_or xs i y) f e) (subst (λ (m : ℕ). k < m) (sym r) l) refl

pub returns-then-ne : goal.returns-then-ne
returns-then-ne c =
    let model = c.args.model.now in
    let terms = c.args.terms.now in
    let n = length c.args.sums.now in
    let i = c.loop-term.term-index in
    let xs = c.loop-term.sums in
    let t : Term = c.term-item.result in
    let known = term_known model n terms i t c.requires c.loop-term-test.true c.term-item.is in
    let y = read xs c.term.inside.column t.column n c.index-sums-term.result c.index-sums-term.is (ap (λ (s : Term). s.column) c.term.view_is) known c.loop-term.auto.sums in
    let d = c.directed.ensures ∙ ap (λ (s : Term). directed model s.factor) c.term.view_is in
    sym (factor_missed model n terms i t c.requires c.loop-term-test.true c.term-item.is xs (differ model xs t (get_or xs c.term.inside.column c.index-sums-term.result) c.directed.result c.ne.result (sym c.index-sums-term.is ∙ y) d c.ne.ensures c.if-ne.true))
    ∙ c.loop-term.invariant

pub loop-term-preserved : goal.loop-term-preserved
loop-term-preserved c =
    let model = c.args.model.now in
    let terms = c.args.terms.now in
    let n = length c.args.sums.now in
    let i = c.loop-term.term-index in
    let xs = c.loop-term.sums in
    let t : Term = c.term-item.result in
    let known = term_known model n terms i t c.requires c.loop-term-test.true c.term-item.is in
    let y = read xs c.term.inside.column t.column n c.index-sums-term.result c.index-sums-term.is (ap (λ (s : Term). s.column) c.term.view_is) known c.loop-term.auto.sums in
    let d = c.directed.ensures ∙ ap (λ (s : Term). directed model s.factor) c.term.view_is in
    ap (λ (s : Term). every_below (matches model (drop (i + 1) terms) (set xs s.column c.whole.result)) n) c.term.view_is
    ∙ factor_met model n terms i t c.requires c.loop-term-test.true c.term-item.is xs c.whole.result c.whole.ensures (subst (λ (m : ℕ). t.column < m) (sym c.loop-term.auto.sums) known)
    (agree model xs t (get_or xs c.term.inside.column c.index-sums-term.result) c.directed.result c.ne.result (sym c.index-sums-term.is ∙ y) d c.ne.ensures c.if-ne.false)
    ∙ c.loop-term.invariant

pub returns : goal.returns
returns c =
    c.are_zero.ensures
    ∙ factors_end c.args.model.now (length c.args.sums.now) c.args.terms.now c.loop-term.term-index c.loop-term.sums c.loop-term-test.false c.loop-term.auto.sums
    ∙ c.loop-term.invariant
