-- Steps taken back from the last one: the rest of the steps goes back from what the last one leaves.
use Rattle.std.proofs.Common.{◌≡◌, refl, sym, ◌∙◌, ap, ℕ, List, [], ◌∷◌, ◌++◌, append_assoc}
use Rattle.std.proofs.lemmas.List.{append-nil}
use Rattle.rational.specs.Rational.{ℚ}
use Rattle.rational.specs.Linear.{Assignment}
use Rattle.frac128.specs.Calculation.{Calculation}
use Rattle.reductions.specs.declared.steps.Step.{Step}
use Rattle.reductions.specs.Back.{Weights}
use Rattle.trace_back.specs.Back.{ray_before, ray_step_work, ray_back, ray_work, dual_before, dual_step_work, duals_back, bound_before, bound_step_work, bound_back, duals_work}

pub ray_back-last : (front : List Step) (step : Step) (x : Assignment) → ray_back (front ++ step ∷ []) x ≡ ray_back front (ray_before step x)
ray_back-last [] step x = refl
ray_back-last (s ∷ front) step x = ap (λ y. ray_before s y) (ray_back-last front step x)

pub ray_work-last : (front : List Step) (step : Step) (x : Assignment) → ray_work (front ++ step ∷ []) x ≡ ray_step_work step x ++ ray_work front (ray_before step x)
ray_work-last [] step x = sym (append-nil (ray_step_work step x))
ray_work-last (s ∷ front) step x =
    ap (λ l. l ++ ray_step_work s (ray_back (front ++ step ∷ []) x)) (ray_work-last front step x)
    ∙ ap (λ y. (ray_step_work step x ++ ray_work front (ray_before step x)) ++ ray_step_work s y) (ray_back-last front step x)
    ∙ append_assoc (ray_step_work step x) (ray_work front (ray_before step x)) (ray_step_work s (ray_back front (ray_before step x)))

pub bound_back-last : (front : List Step) (step : Step) (b : ℚ) → bound_back (front ++ step ∷ []) b ≡ bound_back front (bound_before step b)
bound_back-last [] step b = refl
bound_back-last (s ∷ front) step b = ap (bound_before s) (bound_back-last front step b)

module _ (columns : ℕ) where
  pub duals_back-last : (front : List Step) (step : Step) (w : Weights) → duals_back columns (front ++ step ∷ []) w ≡ duals_back columns front (dual_before columns step w)
  duals_back-last [] step w = refl
  duals_back-last (s ∷ front) step w = ap (λ y. dual_before columns s y) (duals_back-last front step w)

  -- the operations of a step
  abbrev own_work : Step → Weights → ℚ → Calculation
  own_work step w b = dual_step_work columns step w ++ bound_step_work step b

  pub duals_work-last : (front : List Step) (step : Step) (w : Weights) (b : ℚ)
      → duals_work columns (front ++ step ∷ []) w b ≡ (dual_step_work columns step w ++ bound_step_work step b) ++ duals_work columns front (dual_before columns step w) (bound_before step b)
  duals_work-last [] step w b = sym (append-nil (own_work step w b))
  duals_work-last (s ∷ front) step w b =
      let rest = duals_work columns front (dual_before columns step w) (bound_before step b) in
      ap (λ l. l ++ own_work s (duals_back columns (front ++ step ∷ []) w) (bound_back (front ++ step ∷ []) b)) (duals_work-last front step w b)
      ∙ ap (λ y. (own_work step w b ++ rest) ++ own_work s y (bound_back (front ++ step ∷ []) b)) (duals_back-last front step w)
      ∙ ap (λ q. (own_work step w b ++ rest) ++ own_work s (duals_back columns front (dual_before columns step w)) q) (bound_back-last front step b)
      ∙ append_assoc (own_work step w b) rest (own_work s (duals_back columns front (dual_before columns step w)) (bound_back front (bound_before step b)))
