-- Steps taken back from the last one: the rest of the steps goes back from what the last one leaves.
use Rattle.std.proofs.Common.{◌≡◌, refl, sym, ◌∙◌, ap, ℕ, List, [], ◌∷◌, ◌++◌, append_assoc}
use Rattle.std.proofs.lemmas.List.{append-nil}
use Rattle.rational.specs.Linear.{Assignment}
use Rattle.reductions.specs.declared.steps.Step.{Step}
use Rattle.reductions.specs.Back.{Weights, point_before, point_step_work, point_back, point_work, weights_before, weights_step_work, weights_back, weights_work}

pub point_back-last : (front : List Step) (step : Step) (x : Assignment) → point_back (front ++ step ∷ []) x ≡ point_back front (point_before step x)
point_back-last [] step x = refl
point_back-last (s ∷ front) step x = ap (λ y. point_before s y) (point_back-last front step x)

pub point_work-last : (front : List Step) (step : Step) (x : Assignment) → point_work (front ++ step ∷ []) x ≡ point_step_work step x ++ point_work front (point_before step x)
point_work-last [] step x = sym (append-nil (point_step_work step x))
point_work-last (s ∷ front) step x =
    ap (λ l. l ++ point_step_work s (point_back (front ++ step ∷ []) x)) (point_work-last front step x)
    ∙ ap (λ y. (point_step_work step x ++ point_work front (point_before step x)) ++ point_step_work s y) (point_back-last front step x)
    ∙ append_assoc (point_step_work step x) (point_work front (point_before step x)) (point_step_work s (point_back front (point_before step x)))

module _ (columns : ℕ) where
  pub weights_back-last : (front : List Step) (step : Step) (w : Weights) → weights_back columns (front ++ step ∷ []) w ≡ weights_back columns front (weights_before columns step w)
  weights_back-last [] step w = refl
  weights_back-last (s ∷ front) step w = ap (λ y. weights_before columns s y) (weights_back-last front step w)

  pub weights_work-last : (front : List Step) (step : Step) (w : Weights)
      → weights_work columns (front ++ step ∷ []) w ≡ weights_step_work columns step w ++ weights_work columns front (weights_before columns step w)
  weights_work-last [] step w = sym (append-nil (weights_step_work columns step w))
  weights_work-last (s ∷ front) step w =
      ap (λ l. l ++ weights_step_work columns s (weights_back columns (front ++ step ∷ []) w)) (weights_work-last front step w)
      ∙ ap (λ y. (weights_step_work columns step w ++ weights_work columns front (weights_before columns step w)) ++ weights_step_work columns s y) (weights_back-last front step w)
      ∙ append_assoc (weights_step_work columns step w) (weights_work columns front (weights_before columns step w)) (weights_step_work columns s (weights_back columns front (weights_before columns step w)))
