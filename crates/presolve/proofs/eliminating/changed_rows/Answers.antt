use Rattle.std.proofs.Common.{◌≡◌, true, false, sym, ◌∙◌, ap}
use Rattle.rational.specs.Rational.{zero_ℚ, eq_ℚ}
use Rattle.rational.specs.Linear.{factor_of}
use Rattle.presolve.specs.Eliminated.{gone_column, is_equation}
use Rattle.presolve.proofs.Passed.{factor_counts, row_passed, row_wide, row_changed, rows_end}
use Rattle.presolve.proofs.eliminating.changed_rows.Goals as goal

pub loop-place-preserved-then-eq : goal.loop-place-preserved-then-eq
loop-place-preserved-then-eq c =
    let f = c.factor_left-factor.result in
    let z : c.whole-zero.result ≡ zero_ℚ = c.whole-zero.ensures in
    let h : eq_ℚ f zero_ℚ ≡ true = ap (eq_ℚ f) (sym z) ∙ sym c.eq.ensures ∙ c.if-eq.true in
    row_passed c.args.elimination.now c.args.rows.now c.loop-place.place c.index-rows-place.result f c.loop-place.changes.items c.loop-place.changed.items
    c.loop-place-test.true c.index-rows-place.is c.factor_left-factor.ensures c.loop-place.invariant h

pub row_with-requires-clause-factor : goal.row_with-requires-clause-factor
row_with-requires-clause-factor c =
    let f = c.factor_left-factor.result in
    let z : c.whole-zero.result ≡ zero_ℚ = c.whole-zero.ensures in
    let h : eq_ℚ f zero_ℚ ≡ false = ap (eq_ℚ f) (sym z) ∙ sym c.eq.ensures ∙ c.if-eq.false in
    (factor_counts (is_equation c.args.elimination.now c.loop-place.place) f (factor_of c.index-rows-place.result.terms (gone_column c.args.elimination.now)) c.factor_left-factor.ensures h).1

pub returns-in_default : goal.returns-in_default
returns-in_default c =
    let f = c.factor_left-factor.result in
    let z : c.whole-zero.result ≡ zero_ℚ = c.whole-zero.ensures in
    let h : eq_ℚ f zero_ℚ ≡ false = ap (eq_ℚ f) (sym z) ∙ sym c.eq.ensures ∙ c.if-eq.false in
    let wide = rw c.in_default.is at c.in_ok-made.ensures in
    row_wide c.args.elimination.now c.args.rows.now c.loop-place.place c.index-rows-place.result f c.loop-place.changes.items c.loop-place.changed.items
    c.loop-place-test.true c.index-rows-place.is c.factor_left-factor.ensures c.loop-place.invariant h wide

pub loop-place-preserved : goal.loop-place-preserved
loop-place-preserved c =
    let f = c.factor_left-factor.result in
    let z : c.whole-zero.result ≡ zero_ℚ = c.whole-zero.ensures in
    let h : eq_ℚ f zero_ℚ ≡ false = ap (eq_ℚ f) (sym z) ∙ sym c.eq.ensures ∙ c.if-eq.false in
    let made = rw c.in-Some.is at c.in_ok-made.ensures in
    rw (c.in_ok-push.ensures.items, c.in_ok-push-2.ensures.items)
    (row_changed c.args.elimination.now c.args.rows.now c.loop-place.place c.index-rows-place.result f c.loop-place.changes.items c.loop-place.changed.items
    c.loop-place-test.true c.index-rows-place.is c.factor_left-factor.ensures c.loop-place.invariant h _ _ made.0.0 made.0.1 made.1)

pub returns : goal.returns
returns c = rows_end c.args.elimination.now c.args.rows.now c.loop-place.place c.loop-place.changes.items c.loop-place.changed.items c.loop-place-test.false c.loop-place.invariant
