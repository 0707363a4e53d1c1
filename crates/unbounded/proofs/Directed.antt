-- The objective as one that is to be made greatest.
use Rattle.std.proofs.Common.{◌≡◌, refl, ◌∙◌, ap, ℕ, Bool, true, false, cond, ◌==◌, List, [], ◌∷◌}
use Rattle.algebra.proofs.Ring.{x0, x1, x2, ◌:+◌, ◌:*◌, minus, zero_of}
use Rattle.rational.specs.Rational.{ℚ, ◌+ℚ◌, ◌*ℚ◌, neg_ℚ, zero_ℚ}
use Rattle.rational.specs.Linear.{Term, Assignment, form_value, factor_of}
use Rattle.rational.proofs.Field.{ring_ℚ}
use Rattle.lp_model.specs.Program.{Program}
use Rattle.certs.specs.Bound.{directed, objective_value}
use Rattle.certs.specs.Plain.{greatest_objective, negated}

-- ---- terms with the other sign
cond_negated : (b : Bool) (q : ℚ) → cond b (neg_ℚ q) zero_ℚ ≡ neg_ℚ (cond b q zero_ℚ)
cond_negated true q = refl
cond_negated false q = ring_ℚ [] zero_of (minus zero_of) tt

factor_negated : (terms : List Term) (j : ℕ) → factor_of (negated terms) j ≡ neg_ℚ (factor_of terms j)
factor_negated [] j = ring_ℚ [] zero_of (minus zero_of) tt
factor_negated (t ∷ terms) j =
    let a : ℚ = cond (t.column == j) t.factor zero_ℚ in
    ap (λ z. z +ℚ factor_of (negated terms) j) (cond_negated (t.column == j) t.factor)
    ∙ ap (λ z. neg_ℚ a +ℚ z) (factor_negated terms j)
    ∙ ring_ℚ (a ∷ factor_of terms j ∷ []) ((minus x0) :+ (minus x1)) (minus (x0 :+ x1)) tt

value_negated : (terms : List Term) (x : Assignment) → form_value (negated terms) x ≡ neg_ℚ (form_value terms x)
value_negated [] x = ring_ℚ [] zero_of (minus zero_of) tt
value_negated (t ∷ terms) x =
    ap (λ z. neg_ℚ t.factor *ℚ x t.column +ℚ z) (value_negated terms x)
    ∙ ring_ℚ (t.factor ∷ x t.column ∷ form_value terms x ∷ []) (((minus x0) :* x1) :+ (minus x2)) (minus ((x0 :* x1) :+ x2)) tt

-- ---- the direction
twice : (b : Bool) (q : ℚ) → cond b (cond b q (neg_ℚ q)) (neg_ℚ (cond b q (neg_ℚ q))) ≡ q
twice true q = refl
twice false q = ring_ℚ (q ∷ []) (minus (minus x0)) x0 tt

pub directed_twice : (model : Program) (q : ℚ) → directed model (directed model q) ≡ q
directed_twice model q = twice model.maximise q

nothing : (b : Bool) → cond b zero_ℚ (neg_ℚ zero_ℚ) ≡ zero_ℚ
nothing true = refl
nothing false = ring_ℚ [] (minus zero_of) zero_of tt

pub directed_nothing : (model : Program) → directed model zero_ℚ ≡ zero_ℚ
directed_nothing model = nothing model.maximise

factor_by : (b : Bool) (terms : List Term) (j : ℕ) → factor_of (cond b terms (negated terms)) j ≡ cond b (factor_of terms j) (neg_ℚ (factor_of terms j))
factor_by true terms j = refl
factor_by false terms j = factor_negated terms j

pub greatest_factor : (model : Program) (j : ℕ) → factor_of (greatest_objective model) j ≡ directed model (factor_of model.objective j)
greatest_factor model j = factor_by model.maximise model.objective j

value_by : (b : Bool) (terms : List Term) (x : Assignment) → form_value (cond b terms (negated terms)) x ≡ cond b (form_value terms x) (neg_ℚ (form_value terms x))
value_by true terms x = refl
value_by false terms x = value_negated terms x

pub greatest_value : (model : Program) (x : Assignment) → form_value (greatest_objective model) x ≡ directed model (objective_value model x)
greatest_value model x = value_by model.maximise model.objective x
