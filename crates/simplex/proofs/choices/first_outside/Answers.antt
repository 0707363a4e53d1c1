use Rattle.std.proofs.Common.{◌≡◌, ◌<◌, ℕ, Bool, true, false, cond, [], Option, refl, sym, ◌∙◌, ap, subst, arith}
use Rattle.std.specs.Prelude.{All}
use Rattle.std.proofs.lemmas.Bool.{cond-true, cond-false, or_left, or_right, or_from}
use Rattle.std.proofs.lemmas.Result.{err_from_is_err_and}
use Rattle.std.proofs.lemmas.List.Elements.{All-nil}
use Rattle.rational.specs.Rational.{ℚ}
use Rattle.frac128.specs.Calculation.{first_wide}
use Rattle.frac128.specs.declared.Wide.{Wide as Operation}
use Rattle.frac128.proofs.Calculations.{first_wide-nil}
use Rattle.certs.specs.System.{is_basic}
use Rattle.certs.specs.Tableau.{Tableau, below, basic_value, limits_at, value_of}
use Rattle.certs.specs.Turns.{is_outside, is_over, is_under, limited, operations_of, operations_to_outside, value_operations}
use Rattle.dictionary.specs.Value.{tableau_of}
use Rattle.simplex.proofs.Firsts.{limited_same, find-at, find-none, none-more, none-same, values-more, values-found, values-wide, below-no}
use Rattle.simplex.proofs.choices.first_outside.Goals as goal

-- what is said of the value of a basic variable
module _ (t : Tableau) (v : ℕ) (b : is_basic t.basis v ≡ true) where
  value_is : (q : ℚ) → q ≡ value_of t v → q ≡ basic_value t v
  value_is q e = e ∙ cond-true (is_basic t.basis v) _ _ b

  work_is : (m : ℕ) (o : Option Operation) → first_wide m (operations_of t v) ≡ o → first_wide m (value_operations t v) ≡ o
  work_is m o e = ap (λ z. first_wide m (cond z (value_operations t v) [])) (sym b) ∙ e

  under : (q : ℚ) (l : Option ℚ) (r s : Bool) → q ≡ value_of t v → l ≡ (limits_at t v).lower → r ≡ is_under l q → r ≡ s → is_under (limits_at t v).lower (basic_value t v) ≡ s
  under q l r s e f h k = sym (ap (λ z. is_under z q) f ∙ ap (is_under (limits_at t v).lower) (value_is q e)) ∙ sym h ∙ k

  over : (q : ℚ) (l : Option ℚ) (r s : Bool) → q ≡ value_of t v → l ≡ (limits_at t v).upper → r ≡ is_over l q → r ≡ s → is_over (limits_at t v).upper (basic_value t v) ≡ s
  over q l r s e f h k = sym (ap (λ z. is_over z q) f ∙ ap (is_over (limits_at t v).upper) (value_is q e)) ∙ sym h ∙ k

pub loop-variable-init : goal.loop-variable-init
loop-variable-init g c = record { same = refl; inside = All-nil (λ k. is_outside (tableau_of c.args.dictionary.now) k ≡ false); narrow = first_wide-nil g.N.Exact.most }

pub loop-variable-preserved-then-not-is_basic : goal.loop-variable-preserved-then-not-is_basic
loop-variable-preserved-then-not-is_basic g c =
    let t = tableau_of c.loop-variable.dictionary in
    let v = c.loop-variable.variable in
    let n : is_basic t.basis v ≡ false = sym c.is_basic.ensures ∙ c.if-not-is_basic.true in
    record {
      same = c.loop-variable.invariant.same;
      inside = none-same (is_basic t.basis) (is_outside t) v n c.loop-variable.invariant.inside;
      narrow = ap (λ l. first_wide g.N.Exact.most (operations_to_outside t l)) (below-no (is_basic t.basis) v n) ∙ c.loop-variable.invariant.narrow;
    }

pub returns-in_err-value-clause-found : goal.returns-in_err-value-clause-found
returns-in_err-value-clause-found g c =
    let m = g.N.Exact.most in
    let t = tableau_of c.loop-variable.dictionary in
    let v = c.loop-variable.variable in
    let b : is_basic t.basis v ≡ true = sym c.is_basic.ensures ∙ c.if-not-is_basic.false in
    let l : v < limited t = subst (λ n. v < n) (limited_same _ c.loop-variable.invariant.same c.limited_variables-variable-end.ensures) c.loop-variable-test.true in
    let p = err_from_is_err_and c.from_residual.result c.from_residual.ensures.1 in
    rw (p.1, p.2, c.valued.ensures.same) (values-wide m t (is_basic t.basis) (limited t) v l b _ (work_is t v b m _ c.in_err-value.ensures.value) c.loop-variable.invariant.inside c.loop-variable.invariant.narrow)

pub returns-then-falls_short-clause-found : goal.returns-then-falls_short-clause-found
returns-then-falls_short-clause-found g c =
    let m = g.N.Exact.most in
    let t = tableau_of c.loop-variable.dictionary in
    let v = c.loop-variable.variable in
    let b : is_basic t.basis v ≡ true = sym c.is_basic.ensures ∙ c.if-not-is_basic.false in
    let l : v < limited t = subst (λ n. v < n) (limited_same _ c.loop-variable.invariant.same c.limited_variables-variable-end.ensures) c.loop-variable-test.true in
    let u = under t v b _ _ _ true c.in_ok-value.ensures.value.0 (c.lower.ensures ∙ ap (λ d. (limits_at (tableau_of d) v).lower) c.valued.ensures.same) c.falls_short.ensures c.if-falls_short.true in
    let out : is_outside t v ≡ true = or_left (is_under (limits_at t v).lower (basic_value t v)) (is_over (limits_at t v).upper (basic_value t v)) u in
    rw c.valued.ensures.same (
      values-found m t (is_basic t.basis) (limited t) v l b out (work_is t v b m _ c.in_ok-value.ensures.value.1) c.loop-variable.invariant.inside c.loop-variable.invariant.narrow,
      (find-at (is_basic t.basis) (is_outside t) (limited t) v l b c.loop-variable.invariant.inside out, (cond-true (is_under (limits_at t v).lower (basic_value t v)) _ _ u, b)),
    )

pub returns-then-passes-clause-found : goal.returns-then-passes-clause-found
returns-then-passes-clause-found g c =
    let m = g.N.Exact.most in
    let t = tableau_of c.loop-variable.dictionary in
    let v = c.loop-variable.variable in
    let b : is_basic t.basis v ≡ true = sym c.is_basic.ensures ∙ c.if-not-is_basic.false in
    let l : v < limited t = subst (λ n. v < n) (limited_same _ c.loop-variable.invariant.same c.limited_variables-variable-end.ensures) c.loop-variable-test.true in
    let u = under t v b _ _ _ false c.in_ok-value.ensures.value.0 (c.lower.ensures ∙ ap (λ d. (limits_at (tableau_of d) v).lower) c.valued.ensures.same) c.falls_short.ensures c.if-falls_short.false in
    let w = over t v b _ _ _ true c.in_ok-value.ensures.value.0 (c.upper.ensures ∙ ap (λ d. (limits_at (tableau_of d) v).upper) c.valued.ensures.same) c.passes.ensures c.if-passes.true in
    let out : is_outside t v ≡ true = or_right (is_under (limits_at t v).lower (basic_value t v)) (is_over (limits_at t v).upper (basic_value t v)) w in
    rw c.valued.ensures.same (
      values-found m t (is_basic t.basis) (limited t) v l b out (work_is t v b m _ c.in_ok-value.ensures.value.1) c.loop-variable.invariant.inside c.loop-variable.invariant.narrow,
      (
        find-at (is_basic t.basis) (is_outside t) (limited t) v l b c.loop-variable.invariant.inside out,
        (cond-false (is_under (limits_at t v).lower (basic_value t v)) _ _ u ∙ cond-true (is_over (limits_at t v).upper (basic_value t v)) _ _ w, b),
      ),
    )

pub loop-variable-preserved : goal.loop-variable-preserved
loop-variable-preserved g c =
    let m = g.N.Exact.most in
    let t = tableau_of c.loop-variable.dictionary in
    let v = c.loop-variable.variable in
    let b : is_basic t.basis v ≡ true = sym c.is_basic.ensures ∙ c.if-not-is_basic.false in
    let u = under t v b _ _ _ false c.in_ok-value.ensures.value.0 (c.lower.ensures ∙ ap (λ d. (limits_at (tableau_of d) v).lower) c.valued.ensures.same) c.falls_short.ensures c.if-falls_short.false in
    let w = over t v b _ _ _ false c.in_ok-value.ensures.value.0 (c.upper.ensures ∙ ap (λ d. (limits_at (tableau_of d) v).upper) c.valued.ensures.same) c.passes.ensures c.if-passes.false in
    let out : is_outside t v ≡ false = or_from (is_under (limits_at t v).lower (basic_value t v)) (is_over (limits_at t v).upper (basic_value t v)) u w in
    rw c.valued.ensures.same (record {
      same = c.loop-variable.invariant.same;
      inside = none-more (is_basic t.basis) (is_outside t) v b out c.loop-variable.invariant.inside;
      narrow = values-more m t (is_basic t.basis) v b out (work_is t v b m _ c.in_ok-value.ensures.value.1) c.loop-variable.invariant.inside c.loop-variable.invariant.narrow;
    })

pub returns-clause-found : goal.returns-clause-found
returns-clause-found g c =
    let m = g.N.Exact.most in
    let t = tableau_of c.loop-variable.dictionary in
    let e : c.loop-variable.variable ≡ limited t = (let a = c.loop-variable-test.false in let b = c.loop-variable.auto in omega arith) ∙ limited_same _ c.loop-variable.invariant.same c.limited_variables-variable-end.ensures in (
      ap (λ n. first_wide m (operations_to_outside t (below n (is_basic t.basis)))) (sym e) ∙ c.loop-variable.invariant.narrow,
      find-none (is_outside t) (below (limited t) (is_basic t.basis)) (subst (λ n. All (λ k. is_outside t k ≡ false) (below n (is_basic t.basis))) e c.loop-variable.invariant.inside),
    )
