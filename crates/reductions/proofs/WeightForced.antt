-- What the way back from a forcing row leaves of sums over all variables.
use Rattle.std.proofs.Common.{◌≡◌, ◌≢◌, ◌+◌, ◌<◌, refl, sym, ◌∙◌, ap, ℕ, cond, ◌==◌, List, [], ◌∷◌, Some, None, eq-eqb, ne_eqb}
use Rattle.std.specs.Prelude.{find, All}
use Rattle.std.proofs.lemmas.Bool.{cond-true, cond-false}
use Rattle.std.proofs.lemmas.List.Elements.{All-nil, All-cons, All-weaker}
use Rattle.rational.specs.Rational.{ℚ, ◌+ℚ◌, ◌-ℚ◌, ◌*ℚ◌, neg_ℚ, zero_ℚ, one_ℚ}
use Rattle.rational.specs.Sum.{sum_over, sum_below}
use Rattle.rational.specs.Linear.{Term}
use Rattle.rational.proofs.Field.{ring_ℚ, x0, x1, x2, x3, x4, x5, ◌:+◌, ◌:-◌, ◌:*◌, minus, zero_of}
use Rattle.rational.proofs.Sums.{sum_over-ext_on, sum_over-scale}
use Rattle.lp_model.specs.declared.members.Side.{Side}
use Rattle.lp_model.specs.declared.members.Side.TheVariants.{Lo, Up}
use Rattle.certs.specs.Combination.{signed}
use Rattle.certs.specs.Improves.{magnitude}
use Rattle.certs.proofs.Signs.{signed_as}
use Rattle.certs.proofs.Sides.{all_both}
use Rattle.reductions.specs.declared.steps.Forcing.{Forcing as Forced}
use Rattle.reductions.specs.Limited.{opposite, is_side}
use Rattle.reductions.specs.Back.{Weights, forced_side, forcing_times, forced_part, forced_or, forcing_before}
use Rattle.reductions.proofs.WeightSums.{IsOutside, AreApart, sum_below-places}
use Rattle.reductions.proofs.WeightSides.{turned_signed, opposite_signed}
use Rattle.reductions.proofs.WeightMoves.{taken_at, taken_same, no_weights}

abbrev pub column_of : Term → ℕ
column_of t = t.column

-- ---- terms by their columns
pub outside_all : (v : ℕ) (terms : List Term) → IsOutside column_of v terms → All (λ t. v ≢ t.column) terms
outside_all v [] o = All-nil (λ (t : Term). v ≢ t.column)
outside_all v (t ∷ terms) o = All-cons (λ t. v ≢ t.column) t terms o.0 (outside_all v terms o.1)

pub found_none : (v : ℕ) (terms : List Term) → IsOutside column_of v terms → find (λ t. t.column == v) terms ≡ None
found_none v [] o = refl
found_none v (t ∷ terms) o = cond-false (t.column == v) (Some t) (find (λ t. t.column == v) terms) (ne_eqb t.column v (λ q. o.0 (sym q))) ∙ found_none v terms o.1

pub found_each : (n : ℕ) (terms : List Term) → AreApart column_of n terms → All (λ t. find (λ s. s.column == t.column) terms ≡ Some t) terms
found_each n [] apart = All-nil (λ (t : Term). find (λ s. s.column == t.column) [] ≡ Some t)
found_each n (t ∷ terms) apart =
    All-cons (λ u. find (λ s. s.column == u.column) (t ∷ terms) ≡ Some u) t terms
    (cond-true (t.column == t.column) (Some t) _ (eq-eqb t.column t.column refl))
    (All-weaker (λ u. (t.column ≢ u.column) × (find (λ s. s.column == u.column) terms ≡ Some u)) (λ u. find (λ s. s.column == u.column) (t ∷ terms) ≡ Some u)
    (λ u h. cond-false (t.column == u.column) (Some t) _ (ne_eqb t.column u.column h.0) ∙ h.1) terms
    (all_both (λ u. t.column ≢ u.column) (λ u. find (λ s. s.column == u.column) terms ≡ Some u) terms (outside_all t.column terms apart.1.0) (found_each n terms apart.1.1)))

module _ (n total : ℕ) (f : Forced) (w : Weights) (gb ga : Side → ℕ → ℚ) (value : Term → ℚ) (number : ℚ) where
  -- both limits of a term's column became the value, which the side that the sum takes had before
  pub record IsForcedTerm (t : Term) : Type 0 where
    pub some : t.factor ≢ zero_ℚ
    pub after : (side : Side) → ga side t.column ≡ value t
    pub before : gb (forced_side f t) t.column ≡ value t

  abbrev u : ℚ
  u = forcing_times f w

  abbrev s : ℚ
  s = signed f.side one_ℚ

  abbrev b : Weights
  b = forcing_before n f w

  abbrev r : ℕ
  r = n + f.row

  abbrev before : ℚ
  before = sum_below total (taken_at w ga)

  abbrev moves : ℚ
  moves = sum_over (λ t. taken_at b gb t.column -ℚ taken_at w ga t.column) f.terms

  -- what a term's column changes by
  both_sides : (side : Side) (t : Term) → gb side t.column ≡ value t → ((side : Side) → ga side t.column ≡ value t)
      → (cond (is_side Up side) (w Up t.column +ℚ (magnitude t.factor *ℚ u -ℚ w (opposite side) t.column)) zero_ℚ *ℚ gb Up t.column
      -ℚ cond (is_side Lo side) (w Lo t.column +ℚ (magnitude t.factor *ℚ u -ℚ w (opposite side) t.column)) zero_ℚ *ℚ gb Lo t.column)
      -ℚ taken_at w ga t.column
      ≡ signed side (magnitude t.factor *ℚ (u *ℚ value t))
  both_sides Up t e h =
      ap (λ z. ((w Up t.column +ℚ (magnitude t.factor *ℚ u -ℚ w Lo t.column)) *ℚ z -ℚ zero_ℚ *ℚ gb Lo t.column) -ℚ taken_at w ga t.column) e
      ∙ ap (λ z. ((w Up t.column +ℚ (magnitude t.factor *ℚ u -ℚ w Lo t.column)) *ℚ value t -ℚ zero_ℚ *ℚ gb Lo t.column) -ℚ z) (taken_same w w ga (λ side v. value t) t.column (λ side. refl) h)
      ∙ ring_ℚ (w Up t.column ∷ w Lo t.column ∷ magnitude t.factor ∷ u ∷ value t ∷ gb Lo t.column ∷ [])
      (((x0 :+ (x2 :* x3 :- x1)) :* x4 :- zero_of :* x5) :- (x0 :* x4 :- x1 :* x4)) (x2 :* (x3 :* x4)) tt
  both_sides Lo t e h =
      ap (λ z. (zero_ℚ *ℚ gb Up t.column -ℚ (w Lo t.column +ℚ (magnitude t.factor *ℚ u -ℚ w Up t.column)) *ℚ z) -ℚ taken_at w ga t.column) e
      ∙ ap (λ z. (zero_ℚ *ℚ gb Up t.column -ℚ (w Lo t.column +ℚ (magnitude t.factor *ℚ u -ℚ w Up t.column)) *ℚ value t) -ℚ z) (taken_same w w ga (λ side v. value t) t.column (λ side. refl) h)
      ∙ ring_ℚ (w Up t.column ∷ w Lo t.column ∷ magnitude t.factor ∷ u ∷ value t ∷ gb Up t.column ∷ [])
      ((zero_of :* x5 :- (x1 :+ (x2 :* x3 :- x0)) :* x4) :- (x0 :* x4 :- x1 :* x4)) (minus (x2 :* (x3 :* x4))) tt

  row_sum : (side : Side) → gb side r ≡ number → cond (is_side Up side) u zero_ℚ *ℚ gb Up r -ℚ cond (is_side Lo side) u zero_ℚ *ℚ gb Lo r ≡ signed side (u *ℚ number)
  row_sum Up e = ap (λ z. u *ℚ z -ℚ zero_ℚ *ℚ gb Lo r) e ∙ ring_ℚ (u ∷ number ∷ gb Lo r ∷ []) (x0 :* x1 :- zero_of :* x2) (x0 :* x1) tt
  row_sum Lo e = ap (λ z. zero_ℚ *ℚ gb Up r -ℚ u *ℚ z) e ∙ ring_ℚ (u ∷ number ∷ gb Up r ∷ []) (zero_of :* x2 :- x0 :* x1) (minus (x0 :* x1)) tt

  -- what is known of each term
  record IsFoundTerm (t : Term) : Type 0 where
    forced : IsForcedTerm t
    found : find (λ k. k.column == t.column) f.terms ≡ Some t
    apart : r ≢ t.column

  term_moves : (t : Term) → IsFoundTerm t → taken_at b gb t.column -ℚ taken_at w ga t.column ≡ neg_ℚ (s *ℚ u) *ℚ (t.factor *ℚ value t)
  term_moves t h =
      ap (λ z. z -ℚ taken_at w ga t.column) (taken_same b (λ side v. forced_part f w side t) gb gb t.column part (λ side. refl))
      ∙ both_sides (forced_side f t) t h.forced.before h.forced.after
      ∙ turned_signed t.factor (opposite f.side) (u *ℚ value t) h.forced.some
      ∙ opposite_signed f.side (t.factor *ℚ (u *ℚ value t))
      ∙ ap neg_ℚ (signed_as f.side (t.factor *ℚ (u *ℚ value t)))
      ∙ ring_ℚ (s ∷ u ∷ t.factor ∷ value t ∷ []) (minus (x0 :* (x2 :* (x1 :* x3)))) (minus (x0 :* x1) :* (x2 :* x3)) tt
    where
      part : (side : Side) → forcing_before n f w side t.column ≡ forced_part f w side t
      part side = cond-false (t.column == n + f.row) _ _ (ne_eqb t.column (n + f.row) (λ q. h.apart (sym q))) ∙ ap (forced_or f w side t.column) h.found

  pub forcing_sum : n + f.row < total → AreApart column_of total f.terms → IsOutside column_of (n + f.row) f.terms → All IsForcedTerm f.terms
      → ((v : ℕ) → v < total → v ≢ n + f.row → IsOutside column_of v f.terms → (side : Side) → gb side v ≡ ga side v)
      → gb f.side (n + f.row) ≡ number → ((side : Side) → w side (n + f.row) ≡ zero_ℚ)
      → sum_over (λ t. t.factor *ℚ value t) f.terms ≡ number
      → sum_below total (taken_at (forcing_before n f w) gb) ≡ sum_below total (taken_at w ga)
  forcing_sum lr apart outside each others at_r gone total_is =
      sum_below-places column_of total (record { column = r; factor = zero_ℚ } ∷ f.terms) (lr, (outside, apart)) (taken_at b gb) (taken_at w ga)
      (λ v l o. taken_same b w gb ga v (λ side. kept v o.0 o.1 side) (others v l o.0 o.1))
      ∙ ap (λ z. before +ℚ ((taken_at b gb r -ℚ z) +ℚ moves)) (no_weights w ga r gone)
      ∙ ap (λ z. before +ℚ ((z -ℚ zero_ℚ) +ℚ moves))
      (taken_same b (λ side v. cond (is_side side f.side) u zero_ℚ) gb gb r row_at (λ side. refl) ∙ row_sum f.side at_r ∙ signed_as f.side (u *ℚ number))
      ∙ ap (λ z. before +ℚ ((s *ℚ (u *ℚ number) -ℚ zero_ℚ) +ℚ z))
      (sum_over-ext_on IsFoundTerm (λ t. taken_at b gb t.column -ℚ taken_at w ga t.column) (λ t. neg_ℚ (s *ℚ u) *ℚ (t.factor *ℚ value t)) term_moves f.terms known
      ∙ sum_over-scale (neg_ℚ (s *ℚ u)) (λ t. t.factor *ℚ value t) f.terms
      ∙ ap (λ z. neg_ℚ (s *ℚ u) *ℚ z) total_is)
      ∙ ring_ℚ (before ∷ s ∷ u ∷ number ∷ []) (x0 :+ ((x1 :* (x2 :* x3) :- zero_of) :+ minus (x1 :* x2) :* x3)) x0 tt
    where
      kept : (v : ℕ) → v ≢ n + f.row → IsOutside column_of v f.terms → (side : Side) → forcing_before n f w side v ≡ w side v
      kept v p o side = cond-false (v == n + f.row) _ _ (ne_eqb v (n + f.row) p) ∙ ap (forced_or f w side v) (found_none v f.terms o)

      row_at : (side : Side) → forcing_before n f w side (n + f.row) ≡ cond (is_side side f.side) (forcing_times f w) zero_ℚ
      row_at side = cond-true (n + f.row == n + f.row) _ _ (eq-eqb (n + f.row) (n + f.row) refl)

      known : All IsFoundTerm f.terms
      known =
          All-weaker (λ t. IsForcedTerm t × ((find (λ k. k.column == t.column) f.terms ≡ Some t) × (r ≢ t.column))) IsFoundTerm (λ t h. record { forced = h.0; found = h.1.0; apart = h.1.1 }) f.terms
          (all_both IsForcedTerm (λ t. (find (λ k. k.column == t.column) f.terms ≡ Some t) × (r ≢ t.column)) f.terms each
          (all_both (λ t. find (λ k. k.column == t.column) f.terms ≡ Some t) (λ t. r ≢ t.column) f.terms (found_each total f.terms apart) (outside_all r f.terms outside)))
