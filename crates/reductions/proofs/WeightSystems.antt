-- What stands at the variables of a system, and of one as large.
use Rattle.std.proofs.Common.{◌≡◌, ◌≢◌, ◌+◌, ◌-◌, ◌<◌, refl, sym, ◌∙◌, ap, subst, ℕ, Bool, true, false, true≢false, cond, ◌==◌, ltb, List, [], ◌∷◌, length, None, is_some, arith, inl, inr, lt-ltb}
use Rattle.std.specs.Prelude.{◌⊎◌}
use Rattle.std.proofs.lemmas.Bool.{cases_lt, cases_Bool, cond-true, cond-false, le-ltb}
use Rattle.rational.specs.Rational.{ℚ, ◌+ℚ◌, ◌-ℚ◌, ◌*ℚ◌, zero_ℚ, one_ℚ, eq_ℚ}
use Rattle.rational.specs.Sum.{sum_over, sum_below}
use Rattle.rational.specs.Linear.{Term, factor_of}
use Rattle.rational.proofs.Field.{ring_ℚ, x0, x1, x2, ◌:+◌, ◌:-◌, ◌:*◌, zero_of, unit_of}
use Rattle.rational.proofs.Sums.{sum_over-ext, sum_below-ext}
use Rattle.rational.proofs.Compare.{eq-Decides}
use Rattle.lp_model.specs.Members.{column_form}
use Rattle.lp_model.specs.declared.members.Side.{Side}
use Rattle.lp_model.specs.declared.members.Side.TheVariants.{Lo, Up}
use Rattle.certs.specs.Combination.{number_or_zero}
use Rattle.certs.specs.System.{LinearSystem, variable_form, variable_limits, limit_on}
use Rattle.reductions.specs.Stage.{row_in, limits_in}
use Rattle.reductions.specs.Back.{Weights}
use Rattle.reductions.specs.Laws.{IsAsLarge, AreWeightsOf, balance, right}
use Rattle.reductions.proofs.WeightMoves.{taken_at}

-- ---- what stands at a variable
-- its factor of a column
abbrev pub factor_at : LinearSystem → ℕ → Side → ℕ → ℚ
factor_at system k side v = factor_of (variable_form system v) k

-- its limit
abbrev pub limit_at : LinearSystem → Side → ℕ → ℚ
limit_at system side v = number_or_zero (limit_on (variable_limits system v) side)

-- a form is the sum of its factors times columns
pub form_by_columns : (terms : List Term) (k : ℕ) → sum_over (λ t. t.factor *ℚ factor_of (column_form t.column) k) terms ≡ factor_of terms k
form_by_columns terms k = sum_over-ext (λ t. t.factor *ℚ factor_of (column_form t.column) k) (λ t. cond (t.column == k) t.factor zero_ℚ) terms (λ t. by t.factor (t.column == k))
  where
    by : (q : ℚ) (b : Bool) → q *ℚ (cond b one_ℚ zero_ℚ +ℚ zero_ℚ) ≡ cond b q zero_ℚ
    by q true = ring_ℚ (q ∷ []) (x0 :* (unit_of :+ zero_of)) x0 tt
    by q false = ring_ℚ (q ∷ []) (x0 :* (zero_of :+ zero_of)) zero_of tt

-- the number of all variables
abbrev pub variables : LinearSystem → ℕ
variables system = length system.columns + length system.rows

module _ (system : LinearSystem) (n : ℕ) (e : length system.columns ≡ n) where
  in_columns : (v : ℕ) → v < n → ltb v (length system.columns) ≡ true
  in_columns v l = lt-ltb v (length system.columns) (omega arith)

  in_rows : (r : ℕ) → ltb (n + r) (length system.columns) ≡ false
  in_rows r = le-ltb (n + r) (length system.columns) (omega arith)

  place : (r : ℕ) → (n + r) - length system.columns ≡ r
  place r = omega arith

  pub column_form_at : (v : ℕ) → v < n → variable_form system v ≡ column_form v
  column_form_at v l = cond-true (ltb v (length system.columns)) (column_form v) _ (in_columns v l)

  pub column_limits_at : (v : ℕ) → v < n → variable_limits system v ≡ limits_in system v
  column_limits_at v l = cond-true (ltb v (length system.columns)) (limits_in system v) _ (in_columns v l)

  pub row_form_at : (r : ℕ) → variable_form system (n + r) ≡ (row_in system r).terms
  row_form_at r = cond-false (ltb (n + r) (length system.columns)) (column_form (n + r)) _ (in_rows r) ∙ ap (λ i. (row_in system i).terms) (place r)

  pub row_limits_at : (r : ℕ) → variable_limits system (n + r) ≡ (row_in system r).limits
  row_limits_at r = cond-false (ltb (n + r) (length system.columns)) (limits_in system (n + r)) _ (in_rows r) ∙ ap (λ i. (row_in system i).limits) (place r)

-- a variable is a column or a row
pub variable_cases : (n m : ℕ) (P : ℕ → Type 0) → ((j : ℕ) → j < n → P j) → ((r : ℕ) → r < m → P (n + r)) → (v : ℕ) → v < n + m → P v
variable_cases n m P columns rows v l =
    elim (cases_lt v n) [
      | inl h ↦ columns v h
      | inr h ↦ (let at : n + (v - n) ≡ v = omega arith in subst P at (rows (v - n) (omega arith)))
    ]

-- ---- weights of a system
-- where a limit is not there nothing is taken of it
pub nothing_there : (system : LinearSystem) (w : Weights) → AreWeightsOf system w → (side : Side) (v : ℕ) → limit_on (variable_limits system v) side ≡ None → w side v ≡ zero_ℚ
nothing_there system w h side v e = by (cases_Bool (eq_ℚ (w side v) zero_ℚ))
  where
    by : (eq_ℚ (w side v) zero_ℚ ≡ true) ⊎ (eq_ℚ (w side v) zero_ℚ ≡ false) → w side v ≡ zero_ℚ
    by (inl t) = (eq-Decides (w side v) zero_ℚ).0 t
    by (inr t) = absurd (true≢false (sym (h.there side v (λ z. true≢false (sym ((eq-Decides (w side v) zero_ℚ).1 z) ∙ t))) ∙ ap is_some e))

-- what is proved of each step
pub record WeightLaws (system other : LinearSystem) (before : Weights → Weights) : Type 0 where
  pub weights : (w : Weights) → AreWeightsOf other w → AreWeightsOf system (before w)
  pub balance_is : (w : Weights) → AreWeightsOf other w → (k : ℕ) → balance system (before w) k ≡ balance other w k
  pub right_is : (w : Weights) → AreWeightsOf other w → right system (before w) ≡ right other w

pub balance_as : (system : LinearSystem) (w : Weights) (k total : ℕ) → variables system ≡ total → balance system w k ≡ sum_below total (taken_at w (factor_at system k))
balance_as system w k total e =
    ap (λ t. sum_below t (λ v. (w Up v -ℚ w Lo v) *ℚ factor_of (variable_form system v) k)) e
    ∙ sum_below-ext total (λ v. (w Up v -ℚ w Lo v) *ℚ factor_of (variable_form system v) k) (taken_at w (factor_at system k))
    (λ v l. ring_ℚ (w Up v ∷ w Lo v ∷ factor_of (variable_form system v) k ∷ []) ((x0 :- x1) :* x2) (x0 :* x2 :- x1 :* x2) tt)

pub right_as : (system : LinearSystem) (w : Weights) (total : ℕ) → variables system ≡ total → right system w ≡ sum_below total (taken_at w (limit_at system))
right_as system w total e = ap (λ t. sum_below t (taken_at w (limit_at system))) e

module _ (system other : LinearSystem) (large : IsAsLarge system other) where
  pub same_number : variables other ≡ variables system
  same_number = ap (λ z. z + length other.rows) large.columns ∙ ap (λ z. length system.columns + z) large.rows

  pub known_before : (w : Weights) → AreWeightsOf other w → (side : Side) (v : ℕ) → w side v ≢ zero_ℚ → v < variables system
  known_before w h side v some = subst (λ t. v < t) same_number (h.known side v some)

  pub balance_from : (b w : Weights) (k : ℕ) → sum_below (variables system) (taken_at b (factor_at system k)) ≡ sum_below (variables system) (taken_at w (factor_at other k)) → balance system b k ≡ balance other w k
  balance_from b w k e = balance_as system b k (variables system) refl ∙ e ∙ sym (balance_as other w k (variables system) same_number)

  pub right_from : (b w : Weights) → sum_below (variables system) (taken_at b (limit_at system)) ≡ sum_below (variables system) (taken_at w (limit_at other)) → right system b ≡ right other w
  right_from b w e = right_as system b (variables system) refl ∙ e ∙ sym (right_as other w (variables system) same_number)
