-- What the ways back leave of sums over all variables, for any numbers that stand at the variables' sides before and after a step.
use Rattle.std.proofs.Common.{◌≡◌, ◌≢◌, ◌+◌, ◌<◌, refl, sym, ◌∙◌, ap, ℕ, cond, ◌==◌, [], ◌∷◌, Option, Some, None, eq-eqb, ne_eqb}
use Rattle.std.proofs.lemmas.Bool.{cond-true, cond-false}
use Rattle.rational.specs.Rational.{ℚ, ◌+ℚ◌, ◌-ℚ◌, ◌*ℚ◌, ◌/ℚ◌, neg_ℚ, zero_ℚ}
use Rattle.rational.specs.Sum.{sum_below}
use Rattle.rational.proofs.Field.{ring_ℚ, ring_by2_ℚ, x0, x1, x2, x3, x4, x5, ◌:+◌, ◌:-◌, ◌:*◌, minus, zero_of, unit_of}
use Rattle.rational.proofs.Sums.{sum_below-ext, sum_below-add, sum_below-scale}
use Rattle.lp_model.specs.declared.members.Side.{Side}
use Rattle.lp_model.specs.declared.members.Side.TheVariants.{Lo, Up}
use Rattle.certs.specs.Combination.{signed}
use Rattle.certs.specs.Improves.{magnitude}
use Rattle.reductions.specs.declared.steps.Singleton.{Singleton as Single}
use Rattle.reductions.specs.Limited.{turned}
use Rattle.reductions.specs.Back.{Weights, part_on, by_maker, unless_made, maker, single_before}
use Rattle.reductions.proofs.WeightSums.{sum_below-places}
use Rattle.reductions.proofs.WeightSides.{turned_back, turned_apart, signed_zero, magnitude_some, parts_make, on_made, by_maker_sum, quotient_times}

-- what stands at a variable: its weights times the numbers at its sides
abbrev pub taken_at : Weights → (Side → ℕ → ℚ) → ℕ → ℚ
taken_at w g v = w Up v *ℚ g Up v -ℚ w Lo v *ℚ g Lo v

-- the same weights and numbers
pub taken_same : (w b : Weights) (g h : Side → ℕ → ℚ) (v : ℕ) → ((side : Side) → w side v ≡ b side v) → ((side : Side) → g side v ≡ h side v) → taken_at w g v ≡ taken_at b h v
taken_same w b g h v e f =
    ap (λ z. z *ℚ g Up v -ℚ w Lo v *ℚ g Lo v) (e Up) ∙ ap (λ z. b Up v *ℚ z -ℚ w Lo v *ℚ g Lo v) (f Up)
    ∙ ap (λ z. b Up v *ℚ h Up v -ℚ z *ℚ g Lo v) (e Lo) ∙ ap (λ z. b Up v *ℚ h Up v -ℚ b Lo v *ℚ z) (f Lo)

pub no_numbers : (w : Weights) (g : Side → ℕ → ℚ) (v : ℕ) → ((side : Side) → g side v ≡ zero_ℚ) → taken_at w g v ≡ zero_ℚ
no_numbers w g v e =
    ap (λ z. w Up v *ℚ z -ℚ w Lo v *ℚ g Lo v) (e Up) ∙ ap (λ z. w Up v *ℚ zero_ℚ -ℚ w Lo v *ℚ z) (e Lo) ∙ ring_ℚ (w Up v ∷ w Lo v ∷ []) (x0 :* zero_of :- x1 :* zero_of) zero_of tt

pub no_weights : (w : Weights) (g : Side → ℕ → ℚ) (v : ℕ) → ((side : Side) → w side v ≡ zero_ℚ) → taken_at w g v ≡ zero_ℚ
no_weights w g v e =
    ap (λ z. z *ℚ g Up v -ℚ w Lo v *ℚ g Lo v) (e Up) ∙ ap (λ z. zero_ℚ *ℚ g Up v -ℚ z *ℚ g Lo v) (e Lo) ∙ ring_ℚ (g Up v ∷ g Lo v ∷ []) (zero_of :* x0 :- zero_of :* x1) zero_of tt

-- ---- nothing changes but numbers of which nothing is taken
pub same_sum : (total : ℕ) (w : Weights) (gb ga : Side → ℕ → ℚ) → ((v : ℕ) → v < total → (side : Side) → w side v *ℚ gb side v ≡ w side v *ℚ ga side v) → sum_below total (taken_at w gb) ≡ sum_below total (taken_at w ga)
same_sum total w gb ga h = sum_below-ext total (taken_at w gb) (taken_at w ga) (λ v l. ap (λ z. z -ℚ w Lo v *ℚ gb Lo v) (h v l Up) ∙ ap (λ z. w Up v *ℚ ga Up v -ℚ z) (h v l Lo))

-- ---- a row of one column
module _ (n total : ℕ) (s : Single) (w : Weights) (gb ga : Side → ℕ → ℚ) where
  -- where a side of the row made a limit its number is the factor times the limit's; where none did the limit is the same
  abbrev pub IsSingleMade : Option Side → Side → Type 0
  IsSingleMade None side = gb side s.column ≡ ga side s.column
  IsSingleMade (Some r) side = (r ≡ turned s.factor side) × (gb r (n + s.row) ≡ s.factor *ℚ ga side s.column)

  abbrev b : Weights
  b = single_before n s w

  abbrev r : ℕ
  r = n + s.row

  abbrev c : ℕ
  c = s.column

  abbrev l : ℚ
  l = w Lo s.column /ℚ magnitude s.factor

  abbrev u : ℚ
  u = w Up s.column /ℚ magnitude s.factor

  made_apart : (lower upper : Option Side) → IsSingleMade lower Lo → IsSingleMade upper Up → (side : Side) → lower ≡ Some side → upper ≡ Some side → ⊥
  made_apart None upper p q side e f = cc
  made_apart (Some l) None p q side e f = cc
  made_apart (Some l) (Some u) p q side e f =
      let k : l ≡ side = cc in
      let j : u ≡ side = cc in
      turned_apart s.factor side (sym p.0 ∙ k) (sym q.0 ∙ j)

  single_side : (o : Option Side) (side : Side) → s.factor ≢ zero_ℚ → IsSingleMade o side
      → on_made o (λ r. gb r (n + s.row)) (w side s.column /ℚ magnitude s.factor) +ℚ signed side (unless_made o (w side s.column) *ℚ gb side s.column) ≡ signed side (w side s.column *ℚ ga side s.column)
  single_side None side some e =
      ap (λ z. zero_ℚ +ℚ signed side (w side s.column *ℚ z)) e ∙ ring_ℚ (signed side (w side s.column *ℚ ga side s.column) ∷ []) (zero_of :+ x0) x0 tt
  single_side (Some r) side some e =
      let q : ℚ = w side s.column /ℚ magnitude s.factor in
      ap (λ z. signed r (q *ℚ z) +ℚ signed side (zero_ℚ *ℚ gb side s.column)) e.1
      ∙ ap (λ z. signed r (q *ℚ (s.factor *ℚ ga side s.column)) +ℚ signed side z) (ring_ℚ (gb side s.column ∷ []) (zero_of :* x0) zero_of tt)
      ∙ ap (λ z. signed r (q *ℚ (s.factor *ℚ ga side s.column)) +ℚ z) (signed_zero side)
      ∙ ring_ℚ (signed r (q *ℚ (s.factor *ℚ ga side s.column)) ∷ []) (x0 :+ zero_of) x0 tt
      ∙ ap (λ k. signed k (q *ℚ (s.factor *ℚ ga side s.column))) e.0
      ∙ ap (λ z. signed (turned s.factor side) z) (ring_ℚ (q ∷ s.factor ∷ ga side s.column ∷ []) (x0 :* (x1 :* x2)) (x1 :* (x0 :* x2)) tt)
      ∙ turned_back s.factor side (q *ℚ ga side s.column) some
      ∙ ap (λ z. signed side z)
      (ring_ℚ (magnitude s.factor ∷ q ∷ ga side s.column ∷ []) (x0 :* (x1 :* x2)) ((x0 :* x1) :* x2) tt
      ∙ ap (λ z. z *ℚ ga side s.column) (quotient_times (w side s.column) (magnitude s.factor) (magnitude_some s.factor some)))

  pub single_sum : n + s.row < total → s.column < total → n + s.row ≢ s.column → s.factor ≢ zero_ℚ
      → ((v : ℕ) → v < total → v ≢ n + s.row → v ≢ s.column → (side : Side) → gb side v ≡ ga side v)
      → ((side : Side) → ga side (n + s.row) ≡ zero_ℚ) → IsSingleMade s.lower Lo → IsSingleMade s.upper Up
      → sum_below total (taken_at (single_before n s w) gb) ≡ sum_below total (taken_at w ga)
  single_sum lr lc apart some others gone lower upper =
      sum_below-places (λ (v : ℕ). v) total ((n + s.row) ∷ s.column ∷ []) (lr, ((apart, tt), (lc, (tt, tt)))) (taken_at b gb) (taken_at w ga)
      (λ v l o. taken_same b w gb ga v (λ side. kept v o.0 o.1.0 side) (others v l o.0 o.1.0))
      ∙ ap (λ z. sum_below total (taken_at w ga) +ℚ z)
      (ap (λ z. (z -ℚ taken_at w ga r) +ℚ ((taken_at b gb c -ℚ taken_at w ga c) +ℚ zero_ℚ)) row_is
      ∙ ap (λ z. ((on_made s.lower (λ k. gb k r) l +ℚ on_made s.upper (λ k. gb k r) u) -ℚ z) +ℚ ((taken_at b gb c -ℚ taken_at w ga c) +ℚ zero_ℚ)) (no_numbers w ga r gone)
      ∙ ap (λ z. ((on_made s.lower (λ k. gb k r) l +ℚ on_made s.upper (λ k. gb k r) u) -ℚ zero_ℚ) +ℚ ((z -ℚ taken_at w ga c) +ℚ zero_ℚ)) column_is
      ∙ ring_by2_ℚ (on_made s.lower (λ k. gb k r) l ∷ on_made s.upper (λ k. gb k r) u ∷ (unless_made s.lower (w Lo c) *ℚ gb Lo c) ∷ (unless_made s.upper (w Up c) *ℚ gb Up c) ∷ (w Lo c *ℚ ga Lo c) ∷ (w Up c *ℚ ga Up c) ∷ [])
      (((x0 :+ x1) :- zero_of) :+ (((x3 :- x2) :- (x5 :- x4)) :+ zero_of)) zero_of
      unit_of (x0 :+ minus x2) (minus x4) unit_of (x1 :+ x3) x5
      (single_side s.lower Lo some lower) (single_side s.upper Up some upper) tt)
      ∙ ring_ℚ (sum_below total (taken_at w ga) ∷ []) (x0 :+ zero_of) x0 tt
    where
      kept : (v : ℕ) → v ≢ n + s.row → v ≢ s.column → (side : Side) → single_before n s w side v ≡ w side v
      kept v e f side = cond-false (v == n + s.row) _ _ (ne_eqb v (n + s.row) e) ∙ cond-false (v == s.column) _ _ (ne_eqb v s.column f)

      at_row : (side : Side) → single_before n s w side (n + s.row) ≡ by_maker s.lower s.upper side (w Lo s.column /ℚ magnitude s.factor) (w Up s.column /ℚ magnitude s.factor)
      at_row side = cond-true (n + s.row == n + s.row) _ _ (eq-eqb (n + s.row) (n + s.row) refl)

      at_column : (side : Side) → single_before n s w side s.column ≡ unless_made (maker s.lower s.upper side) (w side s.column)
      at_column side = cond-false (s.column == n + s.row) _ _ (ne_eqb s.column (n + s.row) (λ q. apart (sym q))) ∙ cond-true (s.column == s.column) _ _ (eq-eqb s.column s.column refl)

      row_is : taken_at b gb r ≡ on_made s.lower (λ k. gb k r) l +ℚ on_made s.upper (λ k. gb k r) u
      row_is =
          ap (λ z. z *ℚ gb Up r -ℚ b Lo r *ℚ gb Lo r) (at_row Up) ∙ ap (λ z. by_maker s.lower s.upper Up l u *ℚ gb Up r -ℚ z *ℚ gb Lo r) (at_row Lo)
          ∙ by_maker_sum s.lower s.upper l u (λ k. gb k r) (made_apart s.lower s.upper lower upper)

      column_is : taken_at b gb c ≡ unless_made s.upper (w Up c) *ℚ gb Up c -ℚ unless_made s.lower (w Lo c) *ℚ gb Lo c
      column_is = ap (λ z. z *ℚ gb Up c -ℚ b Lo c *ℚ gb Lo c) (at_column Up) ∙ ap (λ z. unless_made s.upper (w Up c) *ℚ gb Up c -ℚ z *ℚ gb Lo c) (at_column Lo)

-- ---- rows from which the same number is taken, each so often
module _ (total : ℕ) (w : Weights) (gb ga : Side → ℕ → ℚ) (times : ℕ → ℚ) (e : ℚ) where
  -- what is taken of it at a variable
  abbrev pub net_times : ℕ → ℚ
  net_times v = times v *ℚ (w Up v -ℚ w Lo v)

  abbrev pub with_taken : ℕ → ℚ
  with_taken v = taken_at w ga v +ℚ e *ℚ net_times v

  pub taken_row : (v : ℕ) → ((side : Side) → w side v *ℚ gb side v ≡ w side v *ℚ (ga side v +ℚ times v *ℚ e)) → taken_at w gb v ≡ with_taken v
  taken_row v h =
      ap (λ z. z -ℚ w Lo v *ℚ gb Lo v) (h Up) ∙ ap (λ z. w Up v *ℚ (ga Up v +ℚ times v *ℚ e) -ℚ z) (h Lo)
      ∙ ring_ℚ (w Up v ∷ w Lo v ∷ ga Up v ∷ ga Lo v ∷ times v ∷ e ∷ []) (x0 :* (x2 :+ x4 :* x5) :- x1 :* (x3 :+ x4 :* x5)) ((x0 :* x2 :- x1 :* x3) :+ x5 :* (x4 :* (x0 :- x1))) tt

  pub with_taken_sum : sum_below total with_taken ≡ sum_below total (taken_at w ga) +ℚ e *ℚ sum_below total net_times
  with_taken_sum = sum_below-add total (taken_at w ga) (λ v. e *ℚ net_times v) ∙ ap (λ z. sum_below total (taken_at w ga) +ℚ z) (sum_below-scale total e net_times)

  pub untaken : (v : ℕ) → times v ≡ zero_ℚ → with_taken v ≡ taken_at w ga v
  untaken v h = ap (λ z. taken_at w ga v +ℚ e *ℚ (z *ℚ (w Up v -ℚ w Lo v))) h ∙ ring_ℚ (taken_at w ga v ∷ e ∷ (w Up v -ℚ w Lo v) ∷ []) (x0 :+ x1 :* (zero_of :* x2)) x0 tt

  -- ---- a column with a value
  abbrev fixed_weights : ℕ → ℚ → Weights
  fixed_weights j taken side v = cond (v == j) (part_on side (neg_ℚ taken)) (w side v)

  pub fixed_sum : (j : ℕ) (taken : ℚ) → j < total → taken ≡ sum_below total net_times
      → ((v : ℕ) → v < total → v ≢ j → (side : Side) → w side v *ℚ gb side v ≡ w side v *ℚ (ga side v +ℚ times v *ℚ e))
      → times j ≡ zero_ℚ → ((side : Side) → gb side j ≡ e) → ((side : Side) → w side j ≡ zero_ℚ)
      → sum_below total (taken_at (λ side v. cond (v == j) (part_on side (neg_ℚ taken)) (w side v)) gb) ≡ sum_below total (taken_at w ga)
  fixed_sum j taken lj is others untimed at_j gone =
      sum_below-places (λ (v : ℕ). v) total (j ∷ []) (lj, (tt, tt)) (taken_at (fixed_weights j taken) gb) with_taken
      (λ v l o. taken_same (fixed_weights j taken) w gb gb v (λ side. cond-false (v == j) _ _ (ne_eqb v j o.0)) (λ side. refl) ∙ taken_row v (others v l o.0))
      ∙ ap (λ z. sum_below total with_taken +ℚ ((taken_at (fixed_weights j taken) gb j -ℚ z) +ℚ zero_ℚ)) (untaken j untimed ∙ no_weights w ga j gone)
      ∙ ap (λ z. sum_below total with_taken +ℚ ((z -ℚ zero_ℚ) +ℚ zero_ℚ)) place_is
      ∙ ap (λ z. z +ℚ ((neg_ℚ taken *ℚ e -ℚ zero_ℚ) +ℚ zero_ℚ)) (with_taken_sum ∙ ap (λ z. sum_below total (taken_at w ga) +ℚ e *ℚ z) (sym is))
      ∙ ring_ℚ (sum_below total (taken_at w ga) ∷ e ∷ taken ∷ []) ((x0 :+ x1 :* x2) :+ ((minus x2 :* x1 :- zero_of) :+ zero_of)) x0 tt
    where
      at : (side : Side) → fixed_weights j taken side j ≡ part_on side (neg_ℚ taken)
      at side = cond-true (j == j) _ _ (eq-eqb j j refl)

      place_is : taken_at (fixed_weights j taken) gb j ≡ neg_ℚ taken *ℚ e
      place_is =
          taken_same (fixed_weights j taken) (λ side v. part_on side (neg_ℚ taken)) gb (λ side v. e) j at at_j
          ∙ ring_ℚ (part_on Up (neg_ℚ taken) ∷ part_on Lo (neg_ℚ taken) ∷ e ∷ []) (x0 :* x2 :- x1 :* x2) ((x0 :- x1) :* x2) tt
          ∙ ap (λ z. z *ℚ e) (parts_make (neg_ℚ taken))
