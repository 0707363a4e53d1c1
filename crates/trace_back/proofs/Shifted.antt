-- Weights that differ at one variable, both limits of which are at one number.
use Rattle.std.proofs.Common.{◌≡◌, ◌≢◌, ◌<◌, refl, sym, ◌∙◌, ap, subst, ℕ, [], ◌∷◌, IsSome, inl, inr}
use Rattle.std.proofs.lemmas.Bool.{cases_eq}
use Rattle.rational.specs.Rational.{ℚ, ◌+ℚ◌, ◌-ℚ◌, ◌*ℚ◌, zero_ℚ, ◌≤ℚ◌}
use Rattle.rational.specs.Sum.{sum_below}
use Rattle.rational.proofs.Field.{ring_ℚ, x0, x1, x2, x3, ◌:+◌, ◌:-◌, ◌:*◌}
use Rattle.lp_model.specs.declared.members.Side.{Side}
use Rattle.lp_model.specs.declared.members.Side.TheVariants.{Lo, Up}
use Rattle.certs.specs.System.{LinearSystem, variable_limits, limit_on}
use Rattle.reductions.specs.Back.{Weights, part_on}
use Rattle.reductions.specs.Laws.{AreWeightsOf, balance, right}
use Rattle.reductions.proofs.WeightSides.{part_nonnegative, parts_make}
use Rattle.reductions.proofs.WeightSums.{sum_below-place}
use Rattle.reductions.proofs.WeightMoves.{taken_at, taken_same}
use Rattle.reductions.proofs.WeightSystems.{factor_at, limit_at, variables, balance_as, right_as}

-- what is taken of a variable that counts q times
taken_there : (w : Weights) (g : Side → ℕ → ℚ) (p : ℕ) (q e : ℚ) → ((side : Side) → w side p ≡ part_on side q) → ((side : Side) → g side p ≡ e) → taken_at w g p ≡ q *ℚ e
taken_there w g p q e h k =
    taken_same w (λ side v. part_on side q) g (λ side v. e) p h k
    ∙ ring_ℚ (part_on Up q ∷ part_on Lo q ∷ e ∷ []) (x0 :* x2 :- x1 :* x2) ((x0 :- x1) :* x2) tt
    ∙ ap (λ z. z *ℚ e) (parts_make q)

module _ (system : LinearSystem) (p : ℕ) (before after : Weights) (q z : ℚ) (known : p < variables system) (others : (side : Side) (v : ℕ) → v ≢ p → after side v ≡ before side v)
    (was : (side : Side) → before side p ≡ part_on side q) (is : (side : Side) → after side p ≡ part_on side (q +ℚ z)) where
  shifted_sum : (g : Side → ℕ → ℚ) (e : ℚ) → ((side : Side) → g side p ≡ e) → sum_below (variables system) (taken_at after g) ≡ sum_below (variables system) (taken_at before g) +ℚ z *ℚ e
  shifted_sum g e at =
      let sum = sum_below (variables system) (taken_at before g) in
      sum_below-place (variables system) p (taken_at after g) (taken_at before g) known (λ v l o. taken_same after before g g v (λ side. others side v o) (λ side. refl))
      ∙ ap (λ y. sum +ℚ (y -ℚ taken_at before g p)) (taken_there after g p (q +ℚ z) e is at)
      ∙ ap (λ y. sum +ℚ ((q +ℚ z) *ℚ e -ℚ y)) (taken_there before g p q e was at)
      ∙ ring_ℚ (sum ∷ q ∷ z ∷ e ∷ []) (x0 :+ ((x1 :+ x2) :* x3 :- x1 :* x3)) (x0 :+ x2 :* x3) tt

  pub shifted_balance : (k : ℕ) (e : ℚ) → ((side : Side) → factor_at system k side p ≡ e) → balance system after k ≡ balance system before k +ℚ z *ℚ e
  shifted_balance k e at =
      balance_as system after k (variables system) refl ∙ shifted_sum (factor_at system k) e at
      ∙ ap (λ y. y +ℚ z *ℚ e) (sym (balance_as system before k (variables system) refl))

  pub shifted_right : (e : ℚ) → ((side : Side) → limit_at system side p ≡ e) → right system after ≡ right system before +ℚ z *ℚ e
  shifted_right e at =
      right_as system after (variables system) refl ∙ shifted_sum (limit_at system) e at
      ∙ ap (λ y. y +ℚ z *ℚ e) (sym (right_as system before (variables system) refl))

  pub shifted_weights : ((side : Side) → IsSome (limit_on (variable_limits system p) side)) → AreWeightsOf system before → AreWeightsOf system after
  shifted_weights there h = record {
    nonnegative = λ side. places (λ v y. zero_ℚ ≤ℚ y) side (part_nonnegative side (q +ℚ z)) (λ v. h.nonnegative side v);
    known = λ side. places (λ v y. y ≢ zero_ℚ → v < variables system) side (λ some. known) (λ v. h.known side v);
    there = λ side. places (λ v y. y ≢ zero_ℚ → IsSome (limit_on (variable_limits system v) side)) side (λ some. there side) (λ v. h.there side v);
  }
    where
      places : (P : ℕ → ℚ → Type 0) (side : Side) → P p (part_on side (q +ℚ z)) → ((v : ℕ) → P v (before side v)) → (v : ℕ) → P v (after side v)
      places P side own rest v =
          elim (cases_eq v p) [
            | inl e ↦ subst (λ y. P y (after side y)) (sym e) (subst (λ y. P p y) (sym (is side)) own)
            | inr e ↦ subst (λ y. P v y) (sym (others side v e)) (rest v)
          ]
