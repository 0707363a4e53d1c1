use Rattle.std.proofs.Common.{◌≡◌, ◌≤◌, ◌<◌, ℕ, sym, ◌∙◌, ap, subst, arith, cond, [], inl, inr}
use Rattle.std.proofs.lemmas.Bool.{cases_Bool}
use Rattle.frac128.specs.Limit.{limit}
use Rattle.frac128.specs.Calculation.{first_wide}
use Rattle.frac128.proofs.Calculations.{first_wide-nil}
use Rattle.lp_model.specs.Satisfaction.{values_at}
use Rattle.certs.specs.System.{is_basic}
use Rattle.certs.specs.Tableau.{value_of}
use Rattle.certs.specs.Turns.{limited, value_operations}
use Rattle.certs.proofs.Feasible.{solution_of, inside_of}
use Rattle.dictionary.specs.Value.{tableau_of}
use Rattle.simplex.proofs.Narrow.{narrow_of}
use Rattle.simplex.proofs.points.point_of.Goals as goal

pub column_value-value-requires-clause-narrow : goal.column_value-value-requires-clause-narrow
column_value-value-requires-clause-narrow c =
    let t = tableau_of c.args.dictionary.now in
    let v = c.loop-column.column in
    let l : v < limited t = lt_le _ _ _ (subst (λ n. v < n) c.columns-column-end.ensures c.loop-column-test.true) c.requires.columns in
    elim (cases_Bool (is_basic t.basis v)) [
      | inl b ↦ (ap (λ z. first_wide limit (cond z (value_operations t v) [])) b ∙ narrow_of limit t v l b (inside_of t c.requires.settled) c.requires.narrow)
      | inr b ↦ (ap (λ z. first_wide limit (cond z (value_operations t v) [])) b ∙ first_wide-nil limit)
    ]
  where
    lt_le : (a b d : ℕ) → a < b → b ≤ d → a < d
    lt_le a b d h k = omega arith

pub returns-clause-feasible : goal.returns-clause-feasible
returns-clause-feasible c = λ system formed n of.
    (let t = tableau_of c.args.dictionary.now in
    let e : c.loop-column.column ≡ c.args.dictionary.now.columns = (let a = c.loop-column-test.false in let b = c.loop-column.auto in omega arith) ∙ c.columns-column-end.ensures in
    record {
      solution = value_of t;
      solves = solution_of system t formed of c.requires.settled;
      same = λ v l. ap (λ z. values_at z v) c.new.ensures ∙ c.loop-column.invariant.values v (subst (λ z. v < z) (n ∙ sym e) l);
    })
