use Rattle.std.proofs.Common.{◌≡◌, ◌<◌, refl, sym, ◌∙◌, subst, true, false}
use Rattle.std.proofs.lemmas.Result.{err_from_is_err_and}
use Rattle.frac128.proofs.Calculations.{first_wide-nil}
use Rattle.certs.specs.System.{is_basic}
use Rattle.certs.specs.Turns.{limited, value_operations}
use Rattle.dictionary.specs.Value.{tableau_of}
use Rattle.simplex.proofs.Firsts.{limited_same}
use Rattle.simplex.proofs.Steps.{value_work}
use Rattle.simplex.proofs.Walks.{narrow_more, narrow_same, wide_here}
use Rattle.simplex.proofs.improve_choices.look_at_values.Goals as goal

pub loop-variable-init : goal.loop-variable-init
loop-variable-init g c = record { same = refl; narrow = first_wide-nil g.N.Exact.most }

pub loop-variable-preserved-then-not-is_basic : goal.loop-variable-preserved-then-not-is_basic
loop-variable-preserved-then-not-is_basic g c =
    let t = tableau_of c.loop-variable.dictionary in
    let v = c.loop-variable.variable in
    let n : is_basic t.basis v ≡ false = sym c.is_basic.ensures ∙ c.if-not-is_basic.true in
    record { same = c.loop-variable.invariant.same; narrow = narrow_same g.N.Exact.most (value_operations t) (is_basic t.basis) v n c.loop-variable.invariant.narrow }

pub returns-in_err-valued-clause-narrow : goal.returns-in_err-valued-clause-narrow
returns-in_err-valued-clause-narrow g c =
    let m = g.N.Exact.most in
    let t = tableau_of c.loop-variable.dictionary in
    let v = c.loop-variable.variable in
    let b : is_basic t.basis v ≡ true = sym c.is_basic.ensures ∙ c.if-not-is_basic.false in
    let l : v < limited t = subst (λ n. v < n) (limited_same _ c.loop-variable.invariant.same c.limited_variables-variable-end.ensures) c.loop-variable-test.true in
    let p = err_from_is_err_and c.from_residual.result c.from_residual.ensures.1 in
    rw (p.1, p.2, c.valued.ensures.same) (wide_here m (value_operations t) (is_basic t.basis) (limited t) v _ l b c.loop-variable.invariant.narrow (value_work m t v b _ c.in_err-valued.ensures.value))

pub loop-variable-preserved : goal.loop-variable-preserved
loop-variable-preserved g c =
    let m = g.N.Exact.most in
    let t = tableau_of c.loop-variable.dictionary in
    let v = c.loop-variable.variable in
    let b : is_basic t.basis v ≡ true = sym c.is_basic.ensures ∙ c.if-not-is_basic.false in
    rw c.valued.ensures.same (record { same = c.loop-variable.invariant.same; narrow = narrow_more m (value_operations t) (is_basic t.basis) v b c.loop-variable.invariant.narrow (value_work m t v b _ c.in_ok-valued.ensures.value.1) })
