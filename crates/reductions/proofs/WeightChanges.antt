-- Rows from which a form and its number are taken, each so often as makes a column vanish.
use Rattle.std.proofs.Common.{◌≡◌, ◌≢◌, ◌+◌, ◌-◌, ◌<◌, refl, sym, ◌∙◌, ap, subst, ℕ, Bool, true, false, cond, not, ◌==◌, ltb, List, [], ◌∷◌, length, get_or, Option, Some, None, IsSome, arith, inl, inr, eq-eqb, ne_eqb, lt-ltb}
use Rattle.std.specs.Prelude.{◌⊎◌}
use Rattle.std.specs.Option.{option_map}
use Rattle.std.proofs.lemmas.Bool.{cases_eq, cond-true, cond-false, le-ltb}
use Rattle.rational.specs.Rational.{ℚ, ◌+ℚ◌, ◌-ℚ◌, ◌*ℚ◌, zero_ℚ, one_ℚ, eq_ℚ}
use Rattle.rational.specs.Sum.{sum_below}
use Rattle.rational.specs.Linear.{Term, factor_of}
use Rattle.rational.proofs.Field.{ring_ℚ, x0, x1, x2, x3, ◌:+◌, ◌:-◌, ◌:*◌, zero_of, unit_of}
use Rattle.rational.proofs.Sums.{sum_below-ext}
use Rattle.rational.proofs.Compare.{eq-Decides}
use Rattle.lp_model.specs.declared.members.Side.{Side}
use Rattle.lp_model.specs.declared.members.Side.TheVariants.{Lo, Up}
use Rattle.certs.specs.Combination.{number_or_zero}
use Rattle.certs.specs.System.{Limits, SystemRow, empty_system_row, limit_on}
use Rattle.reductions.specs.Limited.{map_limits}
use Rattle.reductions.specs.Rules.{changes_from}
use Rattle.reductions.specs.Reduction.{without_column}
use Rattle.reductions.specs.Back.{Weights, taken_of}
use Rattle.reductions.proofs.WeightRows.{mapped_there}
use Rattle.reductions.proofs.WeightSums.{changes-sum, sum_below-rows}

-- ---- how often something is taken from each variable: f of the row's factor of a column, and nothing from a column
abbrev pub times_of : ℕ → List SystemRow → ℕ → (ℚ → ℚ) → ℕ → ℚ
times_of n rows j f v = cond (ltb v n) zero_ℚ (f (factor_of (get_or rows (v - n) empty_system_row).terms j))

pub times_column : (n : ℕ) (rows : List SystemRow) (j : ℕ) (f : ℚ → ℚ) (v : ℕ) → v < n → times_of n rows j f v ≡ zero_ℚ
times_column n rows j f v l = cond-true (ltb v n) zero_ℚ _ (lt-ltb v n l)

pub times_row : (n : ℕ) (rows : List SystemRow) (j : ℕ) (f : ℚ → ℚ) (r : ℕ) → times_of n rows j f (n + r) ≡ f (factor_of (get_or rows r empty_system_row).terms j)
times_row n rows j f r =
    cond-false (ltb (n + r) n) zero_ℚ _ (le-ltb (n + r) n (omega arith)) ∙ ap (λ i. f (factor_of (get_or rows i empty_system_row).terms j)) (let e : (n + r) - n ≡ r = omega arith in e)

-- the list of the changed rows says how often in all
pub taken-sum : (n : ℕ) (rows : List SystemRow) (j : ℕ) (f : ℚ → ℚ) (w : Weights) → f zero_ℚ ≡ zero_ℚ
    → taken_of n (changes_from j f 0 rows) w ≡ sum_below (n + length rows) (λ v. times_of n rows j f v *ℚ (w Up v -ℚ w Lo v))
taken-sum n rows j f w z =
    let net : ℕ → ℚ = λ v. w Up v -ℚ w Lo v in
    let q : ℕ → ℚ = λ r. f (factor_of (get_or rows r empty_system_row).terms j) in
    changes-sum j f (λ r. net (n + r)) z 0 rows
    ∙ sum_below-ext (length rows) (λ r. q r *ℚ net (n + (0 + r))) (λ r. q ((n + r) - n) *ℚ net (n + r))
    (λ r l. ap (λ i. q r *ℚ net (n + i)) (let e : 0 + r ≡ r = omega arith in e) ∙ ap (λ i. q i *ℚ net (n + r)) (let e : r ≡ (n + r) - n = omega arith in e))
    ∙ sym (sum_below-rows n (length rows) (λ v. q (v - n) *ℚ net v))
    ∙ sum_below-ext (n + length rows) (λ v. cond (ltb v n) zero_ℚ (q (v - n) *ℚ net v)) (λ v. cond (ltb v n) zero_ℚ (q (v - n)) *ℚ net v) (λ v l. inside (ltb v n) (q (v - n)) (net v))
  where
    inside : (b : Bool) (a c : ℚ) → cond b zero_ℚ (a *ℚ c) ≡ cond b zero_ℚ a *ℚ c
    inside true a c = ring_ℚ (c ∷ []) zero_of (zero_of :* x0) tt
    inside false a c = refl

-- ---- limits that are changed alike
pub mapped_on : (f : ℚ → ℚ) (limits : Limits) (side : Side) → limit_on (map_limits f limits) side ≡ option_map f (limit_on limits side)
mapped_on f limits Lo = refl
mapped_on f limits Up = refl

shifted : (o : Option ℚ) (q e wt : ℚ) → (option_map (λ s. s -ℚ q *ℚ e) o ≡ None → wt ≡ zero_ℚ)
    → wt *ℚ number_or_zero o ≡ wt *ℚ (number_or_zero (option_map (λ s. s -ℚ q *ℚ e) o) +ℚ q *ℚ e)
shifted None q e wt h =
    ap (λ z. z *ℚ zero_ℚ) (h refl) ∙ ring_ℚ (q ∷ e ∷ []) (zero_of :* zero_of) (zero_of :* (zero_of :+ x0 :* x1)) tt ∙ ap (λ z. z *ℚ (zero_ℚ +ℚ q *ℚ e)) (sym (h refl))
shifted (Some s) q e wt h = ring_ℚ (s ∷ q ∷ e ∷ wt ∷ []) (x3 :* x0) (x3 :* ((x0 :- x1 :* x2) :+ x1 :* x2)) tt

-- ---- a row that is changed where its factor p is not 0: q times e is taken from each side
module _ (row row' : SystemRow) (terms : List Term) (p q e : ℚ) (none : p ≡ zero_ℚ → q ≡ zero_ℚ)
    (is : row' ≡ cond (eq_ℚ p zero_ℚ) row (record { terms = terms; limits = map_limits (λ s. s -ℚ q *ℚ e) row.limits })) where
  pub changed_limit : (side : Side) (wt : ℚ) → (limit_on row'.limits side ≡ None → wt ≡ zero_ℚ)
      → wt *ℚ number_or_zero (limit_on row.limits side) ≡ wt *ℚ (number_or_zero (limit_on row'.limits side) +ℚ q *ℚ e)
  changed_limit side wt h = by (eq_ℚ p zero_ℚ) refl is
    where
      by : (b : Bool) → eq_ℚ p zero_ℚ ≡ b → row' ≡ cond b row (record { terms = terms; limits = map_limits (λ s. s -ℚ q *ℚ e) row.limits })
          → wt *ℚ number_or_zero (limit_on row.limits side) ≡ wt *ℚ (number_or_zero (limit_on row'.limits side) +ℚ q *ℚ e)
      by true t same =
          ring_ℚ (wt ∷ number_or_zero (limit_on row.limits side) ∷ e ∷ []) (x0 :* x1) (x0 :* (x1 :+ zero_of :* x2)) tt
          ∙ ap (λ z. wt *ℚ (number_or_zero (limit_on row.limits side) +ℚ z *ℚ e)) (sym (none ((eq-Decides p zero_ℚ).0 t)))
          ∙ ap (λ z. wt *ℚ (number_or_zero (limit_on z.limits side) +ℚ q *ℚ e)) (sym same)
      by false t same =
          let at : limit_on row'.limits side ≡ option_map (λ s. s -ℚ q *ℚ e) (limit_on row.limits side) = ap (λ z. limit_on z.limits side) same ∙ mapped_on (λ s. s -ℚ q *ℚ e) row.limits side in
          shifted (limit_on row.limits side) q e wt (λ m. h (at ∙ m)) ∙ ap (λ z. wt *ℚ (number_or_zero z +ℚ q *ℚ e)) (sym at)

  pub changed_there : (side : Side) → IsSome (limit_on row'.limits side) → IsSome (limit_on row.limits side)
  changed_there side h = by (eq_ℚ p zero_ℚ) is
    where
      by : (b : Bool) → row' ≡ cond b row (record { terms = terms; limits = map_limits (λ s. s -ℚ q *ℚ e) row.limits }) → IsSome (limit_on row.limits side)
      by true same = subst (λ z. IsSome (limit_on z.limits side)) same h
      by false same = mapped_there (λ s. s -ℚ q *ℚ e) (limit_on row.limits side) (subst IsSome (ap (λ z. limit_on z.limits side) same ∙ mapped_on (λ s. s -ℚ q *ℚ e) row.limits side) h)

  -- and q times a form's factor g from the factor of column k
  pub changed_factor : (k : ℕ) (g : ℚ) → factor_of row.terms k ≡ factor_of terms k +ℚ q *ℚ g → factor_of row.terms k ≡ factor_of row'.terms k +ℚ q *ℚ g
  changed_factor k g h = by (eq_ℚ p zero_ℚ) refl is
    where
      by : (b : Bool) → eq_ℚ p zero_ℚ ≡ b → row' ≡ cond b row (record { terms = terms; limits = map_limits (λ s. s -ℚ q *ℚ e) row.limits }) → factor_of row.terms k ≡ factor_of row'.terms k +ℚ q *ℚ g
      by true t same =
          ring_ℚ (factor_of row.terms k ∷ g ∷ []) x0 (x0 :+ zero_of :* x1) tt ∙ ap (λ z. factor_of row.terms k +ℚ z *ℚ g) (sym (none ((eq-Decides p zero_ℚ).0 t)))
          ∙ ap (λ z. factor_of z.terms k +ℚ q *ℚ g) (sym same)
      by false t same = h ∙ ap (λ z. factor_of z.terms k +ℚ q *ℚ g) (sym same)

-- ---- terms without a column
pub without-factor : (j : ℕ) (terms : List Term) (k : ℕ) → factor_of (without_column j terms) k ≡ cond (j == k) zero_ℚ (factor_of terms k)
without-factor j [] k = by (j == k)
  where
    by : (b : Bool) → zero_ℚ ≡ cond b zero_ℚ zero_ℚ
    by true = refl
    by false = refl
without-factor j (t ∷ terms) k = by (cases_eq t.column j) (cases_eq j k) (without-factor j terms k)
  where
    by : (t.column ≡ j) ⊎ (t.column ≢ j) → (j ≡ k) ⊎ (j ≢ k) → factor_of (without_column j terms) k ≡ cond (j == k) zero_ℚ (factor_of terms k)
        → factor_of (cond (not (t.column == j)) (t ∷ without_column j terms) (without_column j terms)) k ≡ cond (j == k) zero_ℚ (cond (t.column == k) t.factor zero_ℚ +ℚ factor_of terms k)
    by (inl e) (inl f) h =
        ap (λ b. factor_of (cond (not b) (t ∷ without_column j terms) (without_column j terms)) k) (eq-eqb t.column j e)
        ∙ h ∙ cond-true (j == k) zero_ℚ _ (eq-eqb j k f) ∙ sym (cond-true (j == k) zero_ℚ _ (eq-eqb j k f))
    by (inl e) (inr f) h =
        ap (λ b. factor_of (cond (not b) (t ∷ without_column j terms) (without_column j terms)) k) (eq-eqb t.column j e)
        ∙ h ∙ cond-false (j == k) zero_ℚ _ (ne_eqb j k f)
        ∙ ring_ℚ (factor_of terms k ∷ []) x0 (zero_of :+ x0) tt
        ∙ ap (λ z. z +ℚ factor_of terms k) (sym (cond-false (t.column == k) t.factor zero_ℚ (ne_eqb t.column k (λ q. f (sym e ∙ q)))))
        ∙ sym (cond-false (j == k) zero_ℚ _ (ne_eqb j k f))
    by (inr e) (inl f) h =
        ap (λ b. factor_of (cond (not b) (t ∷ without_column j terms) (without_column j terms)) k) (ne_eqb t.column j e)
        ∙ ap (λ z. z +ℚ factor_of (without_column j terms) k) (cond-false (t.column == k) t.factor zero_ℚ (ne_eqb t.column k (λ q. e (q ∙ sym f))))
        ∙ ap (λ z. zero_ℚ +ℚ z) (h ∙ cond-true (j == k) zero_ℚ _ (eq-eqb j k f))
        ∙ ring_ℚ [] (zero_of :+ zero_of) zero_of tt
        ∙ sym (cond-true (j == k) zero_ℚ _ (eq-eqb j k f))
    by (inr e) (inr f) h =
        ap (λ b. factor_of (cond (not b) (t ∷ without_column j terms) (without_column j terms)) k) (ne_eqb t.column j e)
        ∙ ap (λ z. cond (t.column == k) t.factor zero_ℚ +ℚ z) (h ∙ cond-false (j == k) zero_ℚ _ (ne_eqb j k f))
        ∙ sym (cond-false (j == k) zero_ℚ _ (ne_eqb j k f))

-- what is left of a form when a column is put in
pub column_left : (j : ℕ) (terms : List Term) (k : ℕ) → factor_of terms k ≡ factor_of (without_column j terms) k +ℚ factor_of terms j *ℚ (cond (j == k) one_ℚ zero_ℚ +ℚ zero_ℚ)
column_left j terms k = by (cases_eq j k)
  where
    by : (j ≡ k) ⊎ (j ≢ k) → factor_of terms k ≡ factor_of (without_column j terms) k +ℚ factor_of terms j *ℚ (cond (j == k) one_ℚ zero_ℚ +ℚ zero_ℚ)
    by (inl e) =
        ap (factor_of terms) (sym e)
        ∙ ring_ℚ (factor_of terms j ∷ []) x0 (zero_of :+ x0 :* (unit_of :+ zero_of)) tt
        ∙ ap (λ z. z +ℚ factor_of terms j *ℚ (one_ℚ +ℚ zero_ℚ)) (sym (without-factor j terms k ∙ cond-true (j == k) zero_ℚ _ (eq-eqb j k e)))
        ∙ ap (λ z. factor_of (without_column j terms) k +ℚ factor_of terms j *ℚ (z +ℚ zero_ℚ)) (sym (cond-true (j == k) one_ℚ zero_ℚ (eq-eqb j k e)))
    by (inr e) =
        ring_ℚ (factor_of terms k ∷ factor_of terms j ∷ []) x0 (x0 :+ x1 :* (zero_of :+ zero_of)) tt
        ∙ ap (λ z. z +ℚ factor_of terms j *ℚ (zero_ℚ +ℚ zero_ℚ)) (sym (without-factor j terms k ∙ cond-false (j == k) zero_ℚ _ (ne_eqb j k e)))
        ∙ ap (λ z. factor_of (without_column j terms) k +ℚ factor_of terms j *ℚ (z +ℚ zero_ℚ)) (sym (cond-false (j == k) one_ℚ zero_ℚ (ne_eqb j k e)))
