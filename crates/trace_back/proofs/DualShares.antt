-- Duals as weights, and the duals that weights are.
use Rattle.std.proofs.Common.{◌≡◌, ◌≢◌, ◌<◌, refl, sym, ◌∙◌, ap, subst, ℕ, Bool, true, false, cond, ◌&&◌, ◌==◌, List, [], ◌∷◌, length, IsSome}
use Rattle.std.specs.Prelude.{All}
use Rattle.std.proofs.lemmas.Bool.{and_parts, eqb-true}
use Rattle.std.proofs.lemmas.List.Elements.{All-head, All-tail}
use Rattle.rational.specs.Rational.{ℚ, ◌+ℚ◌, zero_ℚ, ◌≤ℚ◌, ◌<ℚ◌}
use Rattle.rational.specs.Linear.{Term}
use Rattle.rational.proofs.Field.{ring_ℚ, ◌:+◌, zero_of}
use Rattle.rational.proofs.Order.{le_of_lt_ℚ, le_refl_ℚ, lt_of_le-ne_ℚ}
use Rattle.lp_model.specs.declared.members.Side.{Side}
use Rattle.certs.specs.System.{LinearSystem, VariableShare, variable_limits, limit_on}
use Rattle.reductions.specs.Limited.{is_side}
use Rattle.reductions.specs.Back.{Weights, weights_of, shares_of}
use Rattle.reductions.specs.Laws.{AreWeightsOf}
use Rattle.reductions.proofs.WeightShares.{weights_sum, shares_sum, shares_all}
use Rattle.reductions.proofs.WeightSides.{side_same}
use Rattle.reductions.proofs.WeightSums.{part_le}
use Rattle.reductions.proofs.WeightSystems.{variables, factor_at, limit_at, balance_as, right_as}
use Rattle.simplex.specs.Duals.{IsVariableDual}
use Rattle.trace_back.proofs.DualSteps.{AreDualWeights}

-- what is taken is taken by a share
taken_share : (Q : Side → ℕ → Type 0) (shares : List VariableShare) → All (λ s. Q s.side s.variable) shares → (side : Side) (v : ℕ) → weights_of shares side v ≢ zero_ℚ → Q side v
taken_share Q [] h side v some = absurd (some refl)
taken_share Q (s ∷ shares) h side v some = by (taken_share Q shares (All-tail (λ s. Q s.side s.variable) s shares h) side v) (is_side s.side side && (s.variable == v)) refl some
  where
    by : (weights_of shares side v ≢ zero_ℚ → Q side v) → (b : Bool) → (is_side s.side side && (s.variable == v)) ≡ b → cond b s.weight zero_ℚ +ℚ weights_of shares side v ≢ zero_ℚ → Q side v
    by rest true e k =
        let both = and_parts (is_side s.side side) (s.variable == v) e in
        subst (λ z. Q z v) (side_same s.side side both.0) (subst (λ z. Q s.side z) (eqb-true s.variable v both.1) (All-head (λ s. Q s.side s.variable) s shares h))
    by rest false e k = rest (λ z. k (ap (λ q. zero_ℚ +ℚ q) z ∙ ring_ℚ [] (zero_of :+ zero_of) zero_of tt))

module _ (system : LinearSystem) (terms : List Term) (b : ℚ) where
  -- a dual, as weights
  pub dual_weights : (shares : List VariableShare) → IsVariableDual system shares terms b → AreDualWeights system terms (weights_of shares) b
  dual_weights shares d = record {
    are = record {
      nonnegative = λ side v. (part_le (λ (s : VariableShare). zero_ℚ <ℚ s.weight) (λ s. cond (is_side s.side side && (s.variable == v)) s.weight zero_ℚ) (λ s p. own (is_side s.side side && (s.variable == v)) s.weight p) shares d.positive).0;
      known = λ side v some. taken_share (λ side v. v < variables system) shares d.known side v some;
      there = λ side v some. taken_share (λ side v. IsSome (limit_on (variable_limits system v) side)) shares d.there side v some;
    };
    matches = λ k l. balance_as system (weights_of shares) k (variables system) refl ∙ weights_sum (variables system) (factor_at system k) shares d.known ∙ d.matches k l;
    bound = right_as system (weights_of shares) (variables system) refl ∙ weights_sum (variables system) (limit_at system) shares d.known ∙ d.bound;
  }
    where
      own : (z : Bool) (q : ℚ) → zero_ℚ <ℚ q → zero_ℚ ≤ℚ cond z q zero_ℚ
      own true q p = le_of_lt_ℚ p
      own false q p = le_refl_ℚ zero_ℚ

  -- and such weights are one
  pub dual_from : (w : Weights) → AreDualWeights system terms w b → IsVariableDual system (shares_of (length system.columns) (length system.rows) w) terms b
  dual_from w d =
      let n : ℕ = length system.columns in
      let m : ℕ = length system.rows in
      let h : AreWeightsOf system w = d.are in
      record {
        positive = shares_all n m w (λ s. zero_ℚ <ℚ s.weight) (λ side v s p. subst (λ z. zero_ℚ <ℚ z) (sym p.weight) (lt_of_le-ne_ℚ (h.nonnegative side v) (λ z. p.some (sym z))));
        known = shares_all n m w (λ s. s.variable < variables system) (λ side v s p. subst (λ z. z < variables system) (sym p.variable) (h.known side v p.some));
        there = shares_all n m w (λ s. IsSome (limit_on (variable_limits system s.variable) s.side))
            (λ side v s p. subst (λ z. IsSome (limit_on (variable_limits system z) s.side)) (sym p.variable) (subst (λ z. IsSome (limit_on (variable_limits system v) z)) (sym p.side_is) (h.there side v p.some)));
        matches = λ k l. shares_sum n m w (factor_at system k) ∙ sym (balance_as system w k (variables system) refl) ∙ d.matches k l;
        bound = shares_sum n m w (limit_at system) ∙ sym (right_as system w (variables system) refl) ∙ d.bound;
      }
