-- Sums of products, place by place, and those of forms, negated on `lo`.
use Rattle.std.proofs.Common.{◌≡◌, ◌<◌, ◌+◌, refl, sym, ◌∙◌, ap, ℕ, List, [], ◌∷◌, map, length, drop, get_or, Option, None, Some, Result, Ok, Err}
use Rattle.std.specs.Prelude.{MatchResult}
use Rattle.std.proofs.lemmas.List.{at_drop_more}
use Rattle.algebra.proofs.Ring.{x0, x1, ◌:+◌, ◌:*◌, minus, zero_of, unit_of}
use Rattle.rational.specs.Rational.{ℚ, ◌+ℚ◌, ◌*ℚ◌, neg_ℚ, zero_ℚ, one_ℚ}
use Rattle.rational.specs.Sum.{sum_over}
use Rattle.rational.specs.Linear.{Term, Assignment, form_value}
use Rattle.rational.proofs.Field.{ring_ℚ}
use Rattle.rational.proofs.Sums.{sum_over-ext, sum_over-scale}
use Rattle.lp_model.specs.declared.members.Side.{Side}
use Rattle.lp_model.specs.declared.members.Side.TheVariants.{Lo, Up}
use Rattle.lp_model.specs.Members.{column_form}
use Rattle.lp_model.specs.Evaluation.{value_operations}
use Rattle.frac128.specs.declared.Op.TheVariants.{Plus, Times}
use Rattle.frac128.specs.declared.Wide.{Wide as Operation}
use Rattle.frac128.specs.Width.{operation}
use Rattle.frac128.specs.Limit.{limit}
use Rattle.frac128.specs.Calculation.{Calculation, first_wide, or_else, product_steps}
use Rattle.frac128.proofs.Calculations.{first_wide-append}
use Rattle.certs.specs.Combination.{signed}
use Rattle.certs.specs.Checks.{share_operations, signed_terms}

-- ---- x is the element at place i
module _ {A : Type 0} (f g : A → ℚ) (sum : ℚ) (xs : List A) (i : ℕ) (x : A) (l : i < length xs) (is : x ≡ get_or xs i x) where
  later : Option Operation
  later = first_wide limit (product_steps f g (sum +ℚ f x *ℚ g x) (drop (i + 1) xs))

  one_and_later : first_wide limit (product_steps f g sum (drop i xs)) ≡ or_else (first_wide limit (share_operations sum Up (f x) (g x))) later
  unfolding product_steps later
  one_and_later =
      at_drop_more (λ (r : List A). first_wide limit (product_steps f g sum r)) xs i x l
      ∙ ap (λ (y : A). first_wide limit (product_steps f g sum (y ∷ drop (i + 1) xs))) (sym is)
      ∙ first_wide-append limit (share_operations sum Up (f x) (g x)) (product_steps f g (sum +ℚ f x *ℚ g x) (drop (i + 1) xs))

  -- a and b are what is multiplied
  module _ (a b : ℚ) (ea : a ≡ f x) (eb : b ≡ g x) where
    its_own : first_wide limit (share_operations sum Up (f x) (g x)) ≡ first_wide limit (share_operations sum Up a b)
    its_own = sym (ap (λ (q : ℚ). first_wide limit (share_operations sum Up q b)) ea ∙ ap (λ (w : ℚ). first_wide limit (share_operations sum Up (f x) w)) eb)

    pub next_wide : (o : Operation) → first_wide limit (share_operations sum Up a b) ≡ Some o → first_wide limit (product_steps f g sum (drop i xs)) ≡ Some o
    next_wide o e = one_and_later ∙ ap (λ p. or_else p later) (its_own ∙ e)

    pub next_value : (next : ℚ) → next ≡ sum +ℚ a *ℚ b → next ≡ sum +ℚ f x *ℚ g x
    next_value next e = e ∙ ap (λ (q : ℚ). sum +ℚ q *ℚ b) ea ∙ ap (λ (w : ℚ). sum +ℚ f x *ℚ w) eb

    pub next_fits : (next : ℚ) → next ≡ sum +ℚ a *ℚ b → first_wide limit (share_operations sum Up a b) ≡ None
        → first_wide limit (product_steps f g next (drop (i + 1) xs)) ≡ first_wide limit (product_steps f g sum (drop i xs))
    unfolding later
    next_fits next e h =
        ap (λ (q : ℚ). first_wide limit (product_steps f g q (drop (i + 1) xs))) (next_value next e) ∙ sym (one_and_later ∙ ap (λ p. or_else p later) (its_own ∙ h))

-- ---- forms, negated on `lo`
mapped : {A B : Type 0} (h : B → A) (f g : A → ℚ) (sum : ℚ) (xs : List B) → product_steps f g sum (map h xs) ≡ product_steps (λ b. f (h b)) (λ b. g (h b)) sum xs
unfolding product_steps
mapped h f g sum [] = refl
mapped h f g sum (x ∷ xs) =
    ap (λ (rest : Calculation). operation Times (f (h x)) (g (h x)) ∷ operation Plus sum (f (h x) *ℚ g (h x)) ∷ rest) (mapped h f g (sum +ℚ f (h x) *ℚ g (h x)) xs)

-- the operations of its value, by the terms as they stand
pub signed_steps : (side : Side) (terms : List Term) (x : Assignment) → value_operations (signed_terms side terms) x ≡ product_steps (λ t. signed side t.factor) (λ t. x t.column) zero_ℚ terms
signed_steps side terms x = mapped (λ (t : Term). record { column = t.column; factor = signed side t.factor }) (λ (t : Term). t.factor) (λ (t : Term). x t.column) zero_ℚ terms

-- and the value
pub signed_sum : (side : Side) (terms : List Term) (x : Assignment) → sum_over (λ t. signed side t.factor *ℚ x t.column) terms ≡ signed side (form_value terms x)
signed_sum Up terms x = refl
signed_sum Lo terms x =
    sum_over-ext (λ (t : Term). neg_ℚ t.factor *ℚ x t.column) (λ (t : Term). neg_ℚ one_ℚ *ℚ (t.factor *ℚ x t.column)) terms (λ t. ring_ℚ (t.factor ∷ x t.column ∷ []) (minus x0 :* x1) (minus unit_of :* (x0 :* x1)) tt)
    ∙ sum_over-scale (neg_ℚ one_ℚ) (λ (t : Term). t.factor *ℚ x t.column) terms
    ∙ ring_ℚ (form_value terms x ∷ []) (minus unit_of :* x0) (minus x0) tt

-- ---- a column, as a form with the factor 1
column_steps : (side : Side) (j : ℕ) (x : Assignment) → value_operations (signed_terms side (column_form j)) x ≡ share_operations zero_ℚ Up (signed side one_ℚ) (x j)
unfolding product_steps
column_steps side j x = refl

once : (side : Side) (q : ℚ) → zero_ℚ +ℚ signed side one_ℚ *ℚ q ≡ signed side q
once Lo q = ring_ℚ (q ∷ []) (zero_of :+ minus unit_of :* x0) (minus x0) tt
once Up q = ring_ℚ (q ∷ []) (zero_of :+ unit_of :* x0) x0 tt

-- s, a and b are what is added and multiplied, and r what comes of it
module _ (side : Side) (j : ℕ) (x : Assignment) (s a b : ℚ) (es : s ≡ zero_ℚ) (ea : a ≡ signed side one_ℚ) (eb : b ≡ x j) where
  column_work : first_wide limit (value_operations (signed_terms side (column_form j)) x) ≡ first_wide limit (share_operations s Up a b)
  column_work =
      ap (first_wide limit) (column_steps side j x)
      ∙ sym (ap (λ (q : ℚ). first_wide limit (share_operations q Up a b)) es ∙ ap (λ (q : ℚ). first_wide limit (share_operations zero_ℚ Up q b)) ea ∙ ap (λ (q : ℚ). first_wide limit (share_operations zero_ℚ Up (signed side one_ℚ) q)) eb)

  column_sum : s +ℚ a *ℚ b ≡ signed side (x j)
  column_sum = ap (λ (q : ℚ). q +ℚ a *ℚ b) es ∙ ap (λ (q : ℚ). zero_ℚ +ℚ q *ℚ b) ea ∙ ap (λ (q : ℚ). zero_ℚ +ℚ signed side one_ℚ *ℚ q) eb ∙ once side (x j)

  pub column_told : (r : Result ℚ Operation)
      → MatchResult r (λ v. (v ≡ s +ℚ a *ℚ b) × (first_wide limit (share_operations s Up a b) ≡ None)) (λ w. first_wide limit (share_operations s Up a b) ≡ Some w)
      → MatchResult r (λ v. (v ≡ signed side (x j)) × (first_wide limit (value_operations (signed_terms side (column_form j)) x) ≡ None)) (λ w. first_wide limit (value_operations (signed_terms side (column_form j)) x) ≡ Some w)
  column_told (Ok v) h = (h.0 ∙ column_sum, column_work ∙ h.1)
  column_told (Err w) h = column_work ∙ h
