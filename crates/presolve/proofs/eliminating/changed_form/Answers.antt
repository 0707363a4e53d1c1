use Rattle.std.proofs.Common.{◌≡◌, true, false, sym, ◌∙◌, ap}
use Rattle.rational.specs.Rational.{zero_ℚ, eq_ℚ}
use Rattle.rational.specs.Linear.{factor_of}
use Rattle.rational.proofs.Compare.{eq-Decides}
use Rattle.presolve.specs.Eliminated.{gone_column}
use Rattle.presolve.proofs.Rows.{form_lacks, form_times_wide, form_terms_wide, form_made}
use Rattle.presolve.proofs.eliminating.changed_form.Goals as goal

pub returns-then-eq : goal.returns-then-eq
returns-then-eq c =
    let e = c.args.elimination.now in
    let g = c.factor_of-factor.result in
    let is : g ≡ factor_of c.args.terms.now (gone_column e) = c.factor_of-factor.ensures ∙ ap (factor_of c.args.terms.now) c.column.ensures in
    let z : c.whole-zero.result ≡ zero_ℚ = c.whole-zero.ensures in
    let h : eq_ℚ g zero_ℚ ≡ true = ap (eq_ℚ g) (sym z) ∙ sym c.eq.ensures ∙ c.if-eq.true in
    form_lacks e c.args.terms.now g is c.whole-zero.result z ((eq-Decides g zero_ℚ).0 h) h

pub returns-in_default : goal.returns-in_default
returns-in_default c =
    let e = c.args.elimination.now in
    let g = c.factor_of-factor.result in
    let is : g ≡ factor_of c.args.terms.now (gone_column e) = c.factor_of-factor.ensures ∙ ap (factor_of c.args.terms.now) c.column.ensures in
    let z : c.whole-zero.result ≡ zero_ℚ = c.whole-zero.ensures in
    let h : eq_ℚ g zero_ℚ ≡ false = ap (eq_ℚ g) (sym z) ∙ sym c.eq.ensures ∙ c.if-eq.false in
    form_times_wide e c.args.terms.now g is h c.in_default.ensures

pub returns-in_default-made : goal.returns-in_default-made
returns-in_default-made c =
    let e = c.args.elimination.now in
    let g = c.factor_of-factor.result in
    let is : g ≡ factor_of c.args.terms.now (gone_column e) = c.factor_of-factor.ensures ∙ ap (factor_of c.args.terms.now) c.column.ensures in
    let z : c.whole-zero.result ≡ zero_ℚ = c.whole-zero.ensures in
    let h : eq_ℚ g zero_ℚ ≡ false = ap (eq_ℚ g) (sym z) ∙ sym c.eq.ensures ∙ c.if-eq.false in
    let wide = rw c.in_default-made.is at c.in_ok-made.ensures in
    form_terms_wide e c.args.terms.now g is h c.in-Some.times c.in-Some.ensures.0 c.in-Some.ensures.1 wide

pub returns : goal.returns
returns c =
    let e = c.args.elimination.now in
    let g = c.factor_of-factor.result in
    let is : g ≡ factor_of c.args.terms.now (gone_column e) = c.factor_of-factor.ensures ∙ ap (factor_of c.args.terms.now) c.column.ensures in
    let z : c.whole-zero.result ≡ zero_ℚ = c.whole-zero.ensures in
    let h : eq_ℚ g zero_ℚ ≡ false = ap (eq_ℚ g) (sym z) ∙ sym c.eq.ensures ∙ c.if-eq.false in
    let made = rw c.in-Some-made.is at c.in_ok-made.ensures in
    form_made e c.args.terms.now g is h c.in-Some.times c.in-Some.ensures.0 c.in-Some.ensures.1 c.in-Some-made.changed made.0 made.1
