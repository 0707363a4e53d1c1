-- Combinations come back over all steps of a reduction.
use Rattle.std.proofs.Common.{◌≡◌, ◌<◌, refl, sym, ◌∙◌, subst, List, [], ◌∷◌, length}
use Rattle.rational.specs.Rational.{zero_ℚ, ◌<ℚ◌}
use Rattle.certs.specs.System.{LinearSystem, VariableShare, IsVariableCombination}
use Rattle.reductions.specs.declared.steps.Step.{Step}
use Rattle.reductions.specs.Stage.{Stage}
use Rattle.reductions.specs.Reduction.{reduced_by, after_step, Reduces}
use Rattle.reductions.specs.Back.{Weights, weights_before, weights_back, weights_of, shares_of}
use Rattle.reductions.specs.Laws.{IsFormed, IsAsLarge, IsFound, NextLaw}
use Rattle.reductions.proofs.WeightSystems.{WeightLaws}
use Rattle.reductions.proofs.WeightShares.{weights_are, balance_of_shares, right_of_shares, combination_from}
use Rattle.reductions.proofs.WeightFound.{weight_laws}

-- what is known of the system after a step besides its weights
pub record StaysFormed (stage : Stage) (step : Step) : Type 0 where
  pub formed : IsFormed (reduced_by step stage.system)
  pub large : IsAsLarge stage.system (reduced_by step stage.system)
  pub lives : length (after_step step stage).live ≡ length stage.live

abbrev pub StaysFormedLaw : Type 0
StaysFormedLaw = (stage : Stage) (step : Step) → IsFormed stage.system → length stage.live ≡ length stage.system.rows → IsFound stage step → StaysFormed stage step

unchanged : (system : LinearSystem) → WeightLaws system system (λ w. w)
unchanged system = record { weights = λ w h. h; balance_is = λ w h k. refl; right_is = λ w h. refl }

one_after_other : (system middle last : LinearSystem) (before back : Weights → Weights) → WeightLaws system middle before → WeightLaws middle last back → WeightLaws system last (λ w. before (back w))
one_after_other system middle last before back own rest = record {
  weights = λ w h. own.weights (back w) (rest.weights w h);
  balance_is = λ w h k. own.balance_is (back w) (rest.weights w h) k ∙ rest.balance_is w h k;
  right_is = λ w h. own.right_is (back w) (rest.weights w h) ∙ rest.right_is w h;
}

pub record TraceWeights (system last : LinearSystem) (steps : List Step) : Type 0 where
  pub large : IsAsLarge system last
  pub laws : WeightLaws system last (weights_back (length system.columns) steps)

pub trace_weights : NextLaw → StaysFormedLaw → (stage last : Stage) (steps : List Step) → IsFormed stage.system → length stage.live ≡ length stage.system.rows → Reduces stage steps last
    → TraceWeights stage.system last.system steps
trace_weights next stays stage last [] formed lives e =
    subst (λ s. TraceWeights stage.system s.system []) e (record { large = record { columns = refl; rows = refl }; laws = unchanged stage.system })
trace_weights next stays stage last (step ∷ steps) formed lives e =
    let found : IsFound stage step = next stage step e.0 in
    let kept : StaysFormed stage step = stays stage step formed lives found in
    let other : LinearSystem = reduced_by step stage.system in
    let rest : TraceWeights other last.system steps = trace_weights next stays (after_step step stage) last steps kept.formed (kept.lives ∙ lives ∙ sym kept.large.rows) e.1 in
    record {
      large = record { columns = rest.large.columns ∙ kept.large.columns; rows = rest.large.rows ∙ kept.large.rows };
      laws = one_after_other stage.system other last.system (weights_before (length stage.system.columns) step) (weights_back (length stage.system.columns) steps)
          (weight_laws stage step formed lives found kept.large)
          (subst (λ n. WeightLaws other last.system (weights_back n steps)) kept.large.columns rest.laws);
    }

-- a combination of the last system comes back as one of the first
pub trace_combination : NextLaw → StaysFormedLaw → (stage last : Stage) (steps : List Step) → IsFormed stage.system → length stage.live ≡ length stage.system.rows → Reduces stage steps last
    → (shares : List VariableShare) → IsVariableCombination last.system shares
    → IsVariableCombination stage.system (shares_of (length stage.system.columns) (length stage.system.rows) (weights_back (length stage.system.columns) steps (weights_of shares)))
trace_combination next stays stage last steps formed lives reduces shares shown =
    let trace : TraceWeights stage.system last.system steps = trace_weights next stays stage last steps formed lives reduces in
    let w : Weights = weights_of shares in
    let are = weights_are last.system shares shown in
    combination_from stage.system (weights_back (length stage.system.columns) steps w) (trace.laws.weights w are)
    (λ k l. trace.laws.balance_is w are k ∙ balance_of_shares last.system shares shown k (subst (λ n. k < n) (sym trace.large.columns) l))
    (subst (λ z. z <ℚ zero_ℚ) (sym (trace.laws.right_is w are)) (right_of_shares last.system shares shown))
