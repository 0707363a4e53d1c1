-- The weights that a forcing row gives back, as what is written.
use Rattle.std.proofs.Common.{◌≡◌, ◌+◌, ◌==◌, refl, sym, ◌∙◌, ap, ℕ, Bool, true, false, true≢false, cond, List, [], ◌∷◌, ◌++◌, map, eqb-true, eq-eqb, Some}
use Rattle.std.specs.Prelude.{find}
use Rattle.rational.specs.Rational.{ℚ, ◌+ℚ◌, ◌-ℚ◌, ◌*ℚ◌, zero_ℚ}
use Rattle.rational.specs.Linear.{Term}
use Rattle.lp_model.specs.declared.members.Side.{Side}
use Rattle.lp_model.specs.declared.members.Side.TheVariants.{Lo, Up}
use Rattle.certs.specs.Improves.{magnitude}
use Rattle.certs.specs.System.{VariableShare}
use Rattle.reductions.specs.declared.steps.Forcing.{Forcing as Forced}
use Rattle.reductions.specs.Limited.{is_side}
use Rattle.reductions.specs.Back.{Weights, forced_side, forced_weight, forcing_times, forced_part, forced_or, forcing_before}
use Rattle.trace_back.specs.Held.{on_side, with_sides, shares_written}
use Rattle.trace_back.specs.Taking.{forced_share}

-- the last share is written first
pub written-last : (front : List VariableShare) (s : VariableShare) (w : Weights) → shares_written (front ++ s ∷ []) w ≡ shares_written front (with_sides s.variable (on_side s.side s.weight) w)
written-last [] s w = refl
written-last (t ∷ front) s w = ap (λ x. with_sides t.variable (on_side t.side t.weight) x) (written-last front s w)

-- on the one side a number that speaks of it is that of the side itself
own_side : (side one : Side) (g : Side → ℚ) → cond (is_side side one) (g one) zero_ℚ ≡ cond (is_side side one) (g side) zero_ℚ
own_side Lo Lo g = refl
own_side Lo Up g = refl
own_side Up Lo g = refl
own_side Up Up g = refl

module _ (f : Forced) (w : Weights) (times : ℚ) (is : times ≡ forcing_times f w) where
  one_part : (side : Side) (t : Term) → on_side (forced_side f t) (w (forced_side f t) t.column +ℚ (magnitude t.factor *ℚ times -ℚ forced_weight f w t)) side ≡ forced_part f w side t
  one_part side t =
      ap (λ z. on_side (forced_side f t) (w (forced_side f t) t.column +ℚ (magnitude t.factor *ℚ z -ℚ forced_weight f w t)) side) is
      ∙ own_side side (forced_side f t) (λ s. w s t.column +ℚ (magnitude t.factor *ℚ forcing_times f w -ℚ forced_weight f w t))

  limit_at : (terms : List Term) (side : Side) (v : ℕ) → shares_written (map (forced_share f w times) terms) w side v ≡ forced_or f w side v (find (λ t. t.column == v) terms)
  limit_at [] side v = refl
  limit_at (t ∷ terms) side v = by (limit_at terms side v) (v == t.column) (t.column == v) refl refl
    where
      by : shares_written (map (forced_share f w times) terms) w side v ≡ forced_or f w side v (find (λ t. t.column == v) terms)
          → (a b : Bool) → (v == t.column) ≡ a → (t.column == v) ≡ b
          → cond a (on_side (forced_side f t) (w (forced_side f t) t.column +ℚ (magnitude t.factor *ℚ times -ℚ forced_weight f w t)) side) (shares_written (map (forced_share f w times) terms) w side v)
          ≡ forced_or f w side v (cond b (Some t) (find (λ t. t.column == v) terms))
      by rest true true d e = one_part side t
      by rest false false d e = rest
      by rest true false d e = absurd (true≢false (sym (eq-eqb t.column v (sym (eqb-true v t.column d))) ∙ e))
      by rest false true d e = absurd (true≢false (sym (eq-eqb v t.column (sym (eqb-true t.column v e))) ∙ d))

  pub forced_is : (columns : ℕ) → with_sides (columns + f.row) (on_side f.side times) (shares_written (map (forced_share f w times) f.terms) w) ≡ forcing_before columns f w
  forced_is columns = λ i. λ side v. cond (v == columns + f.row) (on_side f.side (is i) side) (limit_at f.terms side v i)
