use Rattle.std.proofs.Common.{◌≡◌, ◌<◌, sym, ◌∙◌, ap, subst, true, false, cond, None, [], length}
use Rattle.std.proofs.lemmas.Bool.{cond-false}
use Rattle.std.proofs.lemmas.List.{get_or_read}
use Rattle.frac128.specs.Calculation.{first_wide}
use Rattle.frac128.proofs.Calculations.{first_wide-nil}
use Rattle.certs.specs.System.{is_basic}
use Rattle.certs.specs.Turns.{value_operations}
use Rattle.dictionary.specs.Sound.{IsValue}
use Rattle.dictionary.specs.Value.{tableau_of}
use Rattle.dictionary.proofs.Kept.{value_read}
use Rattle.dictionary.proofs.dictionaries.Dictionary.value.Goals as goal

pub returns-then-not-is_basic : goal.returns-then-not-is_basic
returns-then-not-is_basic g c =
    let e : is_basic c.args.self.now.basis c.args.variable ≡ false = sym c.is_basic.ensures ∙ c.if-not-is_basic.true in (
      c.place.ensures ∙ sym (cond-false (is_basic c.args.self.now.basis c.args.variable) _ _ e),
      ap (λ b. first_wide g.N.Exact.most (cond b (value_operations (tableau_of c.args.self.now) c.args.variable) [])) e ∙ first_wide-nil g.N.Exact.most,
    )

pub returns-in-Some : goal.returns-in-Some
returns-in-Some g c =
    let m = g.N.Exact.most in
    let d = c.self.inside in
    let i = c.args.variable in
    let q = g.N.Exact.value c.in-Some.value in
    let are = c.self.invariant.1 (subst (λ d. d.usable ≡ true) (sym c.self.view_is) c.requires.usable) in
    let l : i < length d.values.items = subst (λ n. i < n) (sym are.long) (subst (λ d. i < length d.basis) (sym c.self.view_is) c.requires.known) in
    let is = are.kept i c.in-Some.value (sym (get_or_read d.values.items i c.index.result.now l c.index.ensures None) ∙ c.in-Some.is) in
    value_read m (tableau_of c.args.self.now) i q (subst (λ d. IsValue m (tableau_of d) i q) c.self.view_is is)
