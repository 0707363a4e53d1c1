use Rattle.std.proofs.Common.{◌≡◌, ◌+◌, ◌<◌, ℕ, sym, ◌∙◌, ap, subst, List, map}
use Rattle.std.specs.Prelude.{All}
use Rattle.std.proofs.lemmas.Result.{err_from_is_err_and}
use Rattle.frac128.specs.Limit.{limit}
use Rattle.frac128.specs.Calculation.{first_wide}
use Rattle.certs.specs.declared.evidence.Share.{Share}
use Rattle.certs.specs.Named.{named}
use Rattle.reductions.specs.declared.steps.Step.{Step}
use Rattle.reductions.specs.Back.{Weights, shares_of as listed_of, weights_of}
use Rattle.trace_back.specs.Held.{source_variable, weights_in, written}
use Rattle.trace_back.proofs.Fills.{filled, known_limits}
use Rattle.trace_back.proofs.Works.{stop_as}
use Rattle.trace_back.specs.Back.{bound_back, duals_back, duals_work}
use Rattle.trace_back.proofs.duals.dual_back.Goals as goal

-- the shares are of variables of a system of so many columns and rows
abbrev AreKnown : ℕ → ℕ → List Share → Type 0
AreKnown columns rows shares = All (λ s. source_variable columns s.source < columns + rows) shares

pub fill-requires-clause-known : goal.fill-requires-clause-known
fill-requires-clause-known c =
    let trace = c.args.trace.now in
    let weights = c.in_ok-weights.weights in
    let shares = c.as_slice.result.now in
    subst (λ (k : ℕ). AreKnown k weights.rows shares) (sym c.in_ok-weights.ensures.0)
    (subst (λ (k : ℕ). AreKnown trace.columns k shares) (sym c.in_ok-weights.ensures.1.0)
    (subst (AreKnown trace.columns trace.rows) (sym c.as_slice.ensures) (known_limits trace.columns trace.rows c.requires.shares.0 c.args.dual.now.combo.shares c.requires.shares.1)))

pub returns-in_err-bound : goal.returns-in_err-bound
returns-in_err-bound c = λ of h.
    (let n = c.args.trace.now.columns in
    let steps = c.args.trace.now.steps in
    let shares = c.args.dual.now.combo.shares in
    let b = c.args.dual.now.bound in
    let zeros = c.in_ok-weights.weights in
    let full = c.fill.new.weights in
    let some = c.as_slice-2.result.now in
    let start : weights_in full ≡ weights_of of =
    c.fill.ensures.weights_are
    ∙ ap (λ (k : ℕ). written k c.as_slice.result.now (weights_in zeros)) c.in_ok-weights.ensures.0
    ∙ ap (λ (l : List Share). written n l (weights_in zeros)) c.as_slice.ensures
    ∙ ap (λ (z : Weights). written n shares z) c.in_ok-weights.ensures.1.1.1
    ∙ filled n c.args.trace.now.rows of shares h in
    let columns = c.fill.ensures.columns ∙ c.in_ok-weights.ensures.0 in
    let p = err_from_is_err_and c.from_residual-in_err-bound.result c.from_residual-in_err-bound.ensures.1 in
    rw (p.1, p.2)
    (stop_as (duals_work full.columns some (weights_in full) b) (duals_work n steps (weights_of of) b) c.in_err-bound.field-0.0
    (ap (λ (k : ℕ). first_wide limit (duals_work k some (weights_in full) b)) columns
    ∙ ap (λ (l : List Step). first_wide limit (duals_work n l (weights_in full) b)) c.as_slice-2.ensures
    ∙ ap (λ (z : Weights). first_wide limit (duals_work n steps z b)) start)
    c.in_err-bound.ensures))

pub returns : goal.returns
returns c = λ of h.
    (let n = c.args.trace.now.columns in
    let m = c.args.trace.now.rows in
    let steps = c.args.trace.now.steps in
    let shares = c.args.dual.now.combo.shares in
    let b = c.args.dual.now.bound in
    let zeros = c.in_ok-weights.weights in
    let full = c.fill.new.weights in
    let last = c.all_back.new.weights in
    let some = c.as_slice-2.result.now in
    let start : weights_in full ≡ weights_of of =
    c.fill.ensures.weights_are
    ∙ ap (λ (k : ℕ). written k c.as_slice.result.now (weights_in zeros)) c.in_ok-weights.ensures.0
    ∙ ap (λ (l : List Share). written n l (weights_in zeros)) c.as_slice.ensures
    ∙ ap (λ (z : Weights). written n shares z) c.in_ok-weights.ensures.1.1.1
    ∙ filled n m of shares h in
    let columns = c.fill.ensures.columns ∙ c.in_ok-weights.ensures.0 in
    let rows = c.fill.ensures.rows ∙ c.in_ok-weights.ensures.1.0 in
    let done = c.in_ok-bound.ensures in
    let end : weights_in last ≡ duals_back n steps (weights_of of) =
    done.1.0.weights_are
    ∙ ap (λ (k : ℕ). duals_back k some (weights_in full)) columns
    ∙ ap (λ (l : List Step). duals_back n l (weights_in full)) c.as_slice-2.ensures
    ∙ ap (λ (z : Weights). duals_back n steps z) start in
    record {
      shares_are =
          c.new.ensures
          ∙ c.in_ok-shares.ensures
          ∙ ap (λ (k : ℕ). map (named k) (listed_of k last.rows (weights_in last))) (done.1.0.columns ∙ columns)
          ∙ ap (λ (k : ℕ). map (named n) (listed_of n k (weights_in last))) (done.1.0.rows ∙ rows)
          ∙ ap (λ (z : Weights). map (named n) (listed_of n m z)) end;
      bound_is = done.0 ∙ ap (λ (l : List Step). bound_back l b) c.as_slice-2.ensures;
      narrow =
          sym
          (ap (λ (k : ℕ). first_wide limit (duals_work k some (weights_in full) b)) columns
          ∙ ap (λ (l : List Step). first_wide limit (duals_work n l (weights_in full) b)) c.as_slice-2.ensures
          ∙ ap (λ (z : Weights). first_wide limit (duals_work n steps z b)) start)
          ∙ done.1.1;
    })
