-- What the way back from an equation of two columns leaves of sums over all variables.
use Rattle.std.proofs.Common.{◌≡◌, ◌≢◌, ◌+◌, ◌<◌, refl, sym, ◌∙◌, ap, ℕ, ◌==◌, [], ◌∷◌, Option, Some, None, eq-eqb, ne_eqb}
use Rattle.std.proofs.lemmas.Bool.{cond-true, cond-false}
use Rattle.rational.specs.Rational.{ℚ, ◌+ℚ◌, ◌-ℚ◌, ◌*ℚ◌, ◌/ℚ◌, neg_ℚ, zero_ℚ, one_ℚ, ◌≤ℚ◌}
use Rattle.rational.specs.Sum.{sum_below}
use Rattle.rational.proofs.Field.{ring_ℚ, ring_by2_ℚ, x0, x1, x2, x3, x4, x5, x6, x7, x8, ◌:+◌, ◌:-◌, ◌:*◌, minus, zero_of, unit_of}
use Rattle.lp_model.specs.declared.members.Side.{Side}
use Rattle.lp_model.specs.declared.members.Side.TheVariants.{Lo, Up}
use Rattle.certs.specs.Combination.{signed}
use Rattle.certs.specs.Improves.{magnitude}
use Rattle.certs.proofs.Signs.{signed_as}
use Rattle.reductions.specs.declared.steps.Doubleton.{Doubleton as Pair}
use Rattle.reductions.specs.Limited.{turned}
use Rattle.reductions.specs.Rules.{pair_side}
use Rattle.reductions.specs.Back.{Weights, part_on, by_maker, unless_made, maker, made_quotient, taken_of, lower_quotient, upper_quotient, equation_times, pair_before}
use Rattle.reductions.proofs.WeightSums.{sum_below-places}
use Rattle.reductions.proofs.WeightSides.{turned_apart, opposite_apart, signed_zero, parts_make, on_made, by_maker_sum, quotient_times, pair_signed}
use Rattle.reductions.proofs.WeightMoves.{taken_at, taken_same, no_weights, net_times, with_taken, taken_row, with_taken_sum, untaken}

-- two limits of the one are made by two of the other
pub pair_apart : (a b : ℚ) (side : Side) → pair_side a b Lo ≡ side → pair_side a b Up ≡ side → ⊥
pair_apart a b side e f = by (turned a Lo) (turned a Up) refl refl (opposite_apart (turned b (turned a Lo)) (turned b (turned a Up)) side e f)
  where
    by : (l u : Side) → turned a Lo ≡ l → turned a Up ≡ u → turned b l ≡ turned b u → ⊥
    by Lo Lo p q h = turned_apart a Lo p q
    by Up Up p q h = turned_apart a Up p q
    by Lo Up p q h = turned_apart b (turned b Lo) refl (sym h)
    by Up Lo p q h = turned_apart b (turned b Lo) refl h

module _ (n total : ℕ) (d : Pair) (w : Weights) (gb ga : Side → ℕ → ℚ) (times : ℕ → ℚ) (e : ℚ) where
  -- where a limit of y made one of x the two make the equation's number; where none did the limit is the same
  abbrev pub IsPairMade : Option Side → Side → Type 0
  IsPairMade None side = gb side d.x ≡ ga side d.x
  IsPairMade (Some r) side = (r ≡ pair_side d.a d.b side) × (e ≡ d.a *ℚ ga side d.x +ℚ d.b *ℚ gb r d.y)

  made_apart : (lower upper : Option Side) → IsPairMade lower Lo → IsPairMade upper Up → (side : Side) → lower ≡ Some side → upper ≡ Some side → ⊥
  made_apart None upper p q side h k = cc
  made_apart (Some l) None p q side h k = cc
  made_apart (Some l) (Some u) p q side h k =
      let i : l ≡ side = cc in
      let j : u ≡ side = cc in
      pair_apart d.a d.b side (sym p.0 ∙ i) (sym q.0 ∙ j)

  abbrev b : Weights
  b = pair_before n d w

  abbrev r : ℕ
  r = n + d.row

  abbrev lq : ℚ
  lq = lower_quotient d w

  abbrev uq : ℚ
  uq = upper_quotient d w

  abbrev on_y : Option Side → ℚ → ℚ
  on_y o q = on_made o (λ k. gb k d.y) (magnitude (d.b *ℚ q))

  pair_part : (o : Option Side) (side : Side) → d.a ≢ zero_ℚ → d.b ≢ zero_ℚ → zero_ℚ ≤ℚ w side d.x → IsPairMade o side
      → (signed side (made_quotient d.a o (w side d.x) *ℚ e) +ℚ on_y o (made_quotient d.a o (w side d.x))) +ℚ signed side (unless_made o (w side d.x) *ℚ gb side d.x)
      ≡ signed side (w side d.x *ℚ ga side d.x)
  pair_part None side sa sb h is =
      ap (λ z. (signed side z +ℚ zero_ℚ) +ℚ signed side (w side d.x *ℚ gb side d.x)) (ring_ℚ (e ∷ []) (zero_of :* x0) zero_of tt)
      ∙ ap (λ z. (z +ℚ zero_ℚ) +ℚ signed side (w side d.x *ℚ gb side d.x)) (signed_zero side)
      ∙ ap (λ z. (zero_ℚ +ℚ zero_ℚ) +ℚ signed side (w side d.x *ℚ z)) is
      ∙ ring_ℚ (signed side (w side d.x *ℚ ga side d.x) ∷ []) ((zero_of :+ zero_of) :+ x0) x0 tt
  pair_part (Some k) side sa sb h is =
      let q : ℚ = w side d.x /ℚ d.a in
      let s : ℚ = signed side one_ℚ in
      let g : ℚ = ga side d.x in
      ap (λ z. (signed side (q *ℚ e) +ℚ signed k (magnitude (d.b *ℚ q) *ℚ gb k d.y)) +ℚ signed side z) (ring_ℚ (gb side d.x ∷ []) (zero_of :* x0) zero_of tt)
      ∙ ap (λ z. (signed side (q *ℚ e) +ℚ signed k (magnitude (d.b *ℚ q) *ℚ gb k d.y)) +ℚ z) (signed_zero side)
      ∙ ap (λ z. (signed side (q *ℚ e) +ℚ signed z (magnitude (d.b *ℚ q) *ℚ gb k d.y)) +ℚ zero_ℚ) is.0
      ∙ ap (λ z. (signed side (q *ℚ e) +ℚ z) +ℚ zero_ℚ) (pair_signed d.a d.b (w side d.x) (gb k d.y) side sa sb h)
      ∙ ap (λ z. (z +ℚ neg_ℚ (signed side ((d.b *ℚ q) *ℚ gb k d.y))) +ℚ zero_ℚ) (signed_as side (q *ℚ e))
      ∙ ap (λ z. (s *ℚ (q *ℚ e) +ℚ neg_ℚ z) +ℚ zero_ℚ) (signed_as side ((d.b *ℚ q) *ℚ gb k d.y))
      ∙ ring_by2_ℚ (s ∷ q ∷ e ∷ d.b ∷ gb k d.y ∷ d.a ∷ g ∷ w side d.x ∷ []) ((x0 :* (x1 :* x2) :+ minus (x0 :* ((x3 :* x1) :* x4))) :+ zero_of) (x0 :* (x7 :* x6))
      (x0 :* x1) x2 (x5 :* x6 :+ x3 :* x4) (x0 :* x6) (x5 :* x1) x7 is.1 (quotient_times (w side d.x) d.a sa) tt
      ∙ sym (signed_as side (w side d.x *ℚ g))

  pub pair_sum : n + d.row < total → d.y < total → d.x < total → n + d.row ≢ d.y → n + d.row ≢ d.x → d.y ≢ d.x → d.a ≢ zero_ℚ → d.b ≢ zero_ℚ
      → ((side : Side) → zero_ℚ ≤ℚ w side d.x)
      → taken_of n d.changes w ≡ sum_below total (net_times total w gb ga times e)
      → ((v : ℕ) → v < total → v ≢ n + d.row → v ≢ d.y → v ≢ d.x → (side : Side) → w side v *ℚ gb side v ≡ w side v *ℚ (ga side v +ℚ times v *ℚ e))
      → times (n + d.row) ≡ zero_ℚ → times d.y ≡ zero_ℚ → times d.x ≡ zero_ℚ
      → ((side : Side) → gb side (n + d.row) ≡ e) → ((side : Side) → w side (n + d.row) ≡ zero_ℚ) → ((side : Side) → w side d.y ≡ zero_ℚ)
      → IsPairMade d.lower Lo → IsPairMade d.upper Up
      → sum_below total (taken_at (pair_before n d w) gb) ≡ sum_below total (taken_at w ga)
  pair_sum lr ly lx ry rx yx sa sb h is others tr ty tx at_r gone_r gone_y lower upper =
      let sum : ℚ = sum_below total (with_taken total w gb ga times e) in
      let t : ℚ = taken_of n d.changes w in
      let before : ℚ = sum_below total (taken_at w ga) in
      sum_below-places (λ (v : ℕ). v) total (r ∷ d.y ∷ d.x ∷ []) (lr, ((ry, (rx, tt)), (ly, ((yx, tt), (lx, (tt, tt)))))) (taken_at b gb) (with_taken total w gb ga times e)
      (λ v l o. taken_same b w gb gb v (λ side. kept v o.0 o.1.0 o.1.1.0 side) (λ side. refl) ∙ taken_row total w gb ga times e v (others v l o.0 o.1.0 o.1.1.0))
      ∙ ap (λ z. sum +ℚ ((taken_at b gb r -ℚ z) +ℚ ((taken_at b gb d.y -ℚ with_taken total w gb ga times e d.y) +ℚ ((taken_at b gb d.x -ℚ with_taken total w gb ga times e d.x) +ℚ zero_ℚ)))) (untaken total w gb ga times e r tr ∙ no_weights w ga r gone_r)
      ∙ ap (λ z. sum +ℚ ((taken_at b gb r -ℚ zero_ℚ) +ℚ ((taken_at b gb d.y -ℚ z) +ℚ ((taken_at b gb d.x -ℚ with_taken total w gb ga times e d.x) +ℚ zero_ℚ)))) (untaken total w gb ga times e d.y ty ∙ no_weights w ga d.y gone_y)
      ∙ ap (λ z. sum +ℚ ((taken_at b gb r -ℚ zero_ℚ) +ℚ ((taken_at b gb d.y -ℚ zero_ℚ) +ℚ ((taken_at b gb d.x -ℚ z) +ℚ zero_ℚ)))) (untaken total w gb ga times e d.x tx)
      ∙ ap (λ z. sum +ℚ ((z -ℚ zero_ℚ) +ℚ ((taken_at b gb d.y -ℚ zero_ℚ) +ℚ ((taken_at b gb d.x -ℚ taken_at w ga d.x) +ℚ zero_ℚ)))) row_is
      ∙ ap (λ z. sum +ℚ (((neg_ℚ (t *ℚ e) +ℚ (neg_ℚ (lq *ℚ e) +ℚ uq *ℚ e)) -ℚ zero_ℚ) +ℚ ((z -ℚ zero_ℚ) +ℚ ((taken_at b gb d.x -ℚ taken_at w ga d.x) +ℚ zero_ℚ)))) y_is
      ∙ ap (λ z. sum +ℚ (((neg_ℚ (t *ℚ e) +ℚ (neg_ℚ (lq *ℚ e) +ℚ uq *ℚ e)) -ℚ zero_ℚ) +ℚ (((on_y d.lower lq +ℚ on_y d.upper uq) -ℚ zero_ℚ) +ℚ ((z -ℚ taken_at w ga d.x) +ℚ zero_ℚ)))) x_is
      ∙ ap (λ z. sum +ℚ z)
      (ring_by2_ℚ ((t *ℚ e) ∷ (lq *ℚ e) ∷ (uq *ℚ e) ∷ on_y d.lower lq ∷ on_y d.upper uq ∷ (unless_made d.lower (w Lo d.x) *ℚ gb Lo d.x) ∷ (unless_made d.upper (w Up d.x) *ℚ gb Up d.x) ∷ (w Lo d.x *ℚ ga Lo d.x) ∷ (w Up d.x *ℚ ga Up d.x) ∷ [])
      (((minus x0 :+ (minus x1 :+ x2)) :- zero_of) :+ (((x3 :+ x4) :- zero_of) :+ (((x6 :- x5) :- (x8 :- x7)) :+ zero_of))) (minus x0)
      unit_of ((minus x1 :+ x3) :+ minus x5) (minus x7) unit_of ((x2 :+ x4) :+ x6) x8
      (pair_part d.lower Lo sa sb (h Lo) lower) (pair_part d.upper Up sa sb (h Up) upper) tt)
      ∙ ap (λ z. z +ℚ neg_ℚ (t *ℚ e)) (with_taken_sum total w gb ga times e ∙ ap (λ z. before +ℚ e *ℚ z) (sym is))
      ∙ ring_ℚ (before ∷ e ∷ t ∷ []) ((x0 :+ x1 :* x2) :+ minus (x2 :* x1)) x0 tt
    where
      kept : (v : ℕ) → v ≢ n + d.row → v ≢ d.y → v ≢ d.x → (side : Side) → pair_before n d w side v ≡ w side v
      kept v p q o side = cond-false (v == n + d.row) _ _ (ne_eqb v (n + d.row) p) ∙ cond-false (v == d.y) _ _ (ne_eqb v d.y q) ∙ cond-false (v == d.x) _ _ (ne_eqb v d.x o)

      row_at : (side : Side) → pair_before n d w side (n + d.row) ≡ part_on side (equation_times n d w)
      row_at side = cond-true (n + d.row == n + d.row) _ _ (eq-eqb (n + d.row) (n + d.row) refl)

      y_at : (side : Side) → pair_before n d w side d.y ≡ by_maker d.lower d.upper side (magnitude (d.b *ℚ lower_quotient d w)) (magnitude (d.b *ℚ upper_quotient d w))
      y_at side = cond-false (d.y == n + d.row) _ _ (ne_eqb d.y (n + d.row) (λ q. ry (sym q))) ∙ cond-true (d.y == d.y) _ _ (eq-eqb d.y d.y refl)

      x_at : (side : Side) → pair_before n d w side d.x ≡ unless_made (maker d.lower d.upper side) (w side d.x)
      x_at side =
          cond-false (d.x == n + d.row) _ _ (ne_eqb d.x (n + d.row) (λ q. rx (sym q))) ∙ cond-false (d.x == d.y) _ _ (ne_eqb d.x d.y (λ q. yx (sym q)))
          ∙ cond-true (d.x == d.x) _ _ (eq-eqb d.x d.x refl)

      row_is : taken_at b gb r ≡ neg_ℚ (taken_of n d.changes w *ℚ e) +ℚ (neg_ℚ (lq *ℚ e) +ℚ uq *ℚ e)
      row_is =
          let q : ℚ = equation_times n d w in
          taken_same b (λ side v. part_on side (equation_times n d w)) gb (λ side v. e) r row_at at_r
          ∙ ring_ℚ (part_on Up q ∷ part_on Lo q ∷ e ∷ []) (x0 :* x2 :- x1 :* x2) ((x0 :- x1) :* x2) tt
          ∙ ap (λ z. z *ℚ e) (parts_make q)
          ∙ ring_ℚ (taken_of n d.changes w ∷ lq ∷ uq ∷ e ∷ []) (((minus x0 :- x1) :+ x2) :* x3) (minus (x0 :* x3) :+ (minus (x1 :* x3) :+ x2 :* x3)) tt

      y_is : taken_at b gb d.y ≡ on_y d.lower lq +ℚ on_y d.upper uq
      y_is =
          taken_same b (λ side v. by_maker d.lower d.upper side (magnitude (d.b *ℚ lower_quotient d w)) (magnitude (d.b *ℚ upper_quotient d w))) gb gb d.y y_at (λ side. refl)
          ∙ by_maker_sum d.lower d.upper (magnitude (d.b *ℚ lq)) (magnitude (d.b *ℚ uq)) (λ k. gb k d.y) (made_apart d.lower d.upper lower upper)

      x_is : taken_at b gb d.x ≡ unless_made d.upper (w Up d.x) *ℚ gb Up d.x -ℚ unless_made d.lower (w Lo d.x) *ℚ gb Lo d.x
      x_is = taken_same b (λ side v. unless_made (maker d.lower d.upper side) (w side v)) gb gb d.x x_at (λ side. refl)
