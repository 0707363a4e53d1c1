-- The weights that rows of one column and equations of two give back, as what is written.
use Rattle.std.proofs.Common.{◌≡◌, ◌+◌, refl, ◌∙◌, ap, subst, ℕ, [], ◌∷◌, Option, Some, None}
use Rattle.rational.specs.Rational.{ℚ, ◌+ℚ◌, ◌-ℚ◌, ◌*ℚ◌, ◌/ℚ◌, neg_ℚ, zero_ℚ}
use Rattle.rational.proofs.Field.{ring_ℚ, x0, ◌:+◌, ◌:-◌, ◌:*◌, zero_of}
use Rattle.frac128.specs.declared.Op.{Op}
use Rattle.frac128.specs.declared.Op.TheVariants.{Plus, Minus}
use Rattle.frac128.specs.declared.Wide.{Wide as Operation}
use Rattle.frac128.specs.Limit.{limit}
use Rattle.frac128.specs.Calculation.{Calculation, first_wide}
use Rattle.frac128.proofs.Calculations.{first_wide-nil}
use Rattle.lp_model.specs.declared.members.Side.{Side}
use Rattle.lp_model.specs.declared.members.Side.TheVariants.{Lo, Up}
use Rattle.certs.specs.Improves.{magnitude}
use Rattle.reductions.specs.declared.steps.Singleton.{Singleton as Single}
use Rattle.reductions.specs.declared.steps.Doubleton.{Doubleton as Pair}
use Rattle.reductions.specs.Back.{Weights, part_on, by_maker, made_quotient, made_work, single_side_work, single_work_back, taken_of, equation_work, pair_work_back, single_before, lower_quotient, upper_quotient, equation_times, pair_before}
use Rattle.trace_back.specs.Held.{with_sides, unmade}
use Rattle.trace_back.proofs.Works.{IsFirst, AreNarrow, first_here, first_past, narrow_both, quotient_work}
use Rattle.trace_back.proofs.Writes.{same_sides}

-- of a limit that was not made the quotient does not matter
by_made : (lower upper : Option Side) (side : Side) (a p q : ℚ) → by_maker lower upper side (made_quotient a lower p) (made_quotient a upper q) ≡ by_maker lower upper side (p /ℚ a) (q /ℚ a)
by_made None None side a p q = refl
by_made None (Some u) side a p q = refl
by_made (Some l) None side a p q = refl
by_made (Some l) (Some u) side a p q = refl

pub single_is : (columns : ℕ) (s : Single) (w : Weights) (l u : ℚ) → l ≡ made_quotient (magnitude s.factor) s.lower (w Lo s.column) → u ≡ made_quotient (magnitude s.factor) s.upper (w Up s.column)
    → with_sides (columns + s.row) (λ side. by_maker s.lower s.upper side l u) (unmade s.column s.lower s.upper w) ≡ single_before columns s w
single_is columns s w l u e f =
    let a = magnitude s.factor in
    same_sides (columns + s.row) (λ side. by_maker s.lower s.upper side l u) (λ side. by_maker s.lower s.upper side (w Lo s.column /ℚ a) (w Up s.column /ℚ a)) (unmade s.column s.lower s.upper w)
    (λ side.
    ap (λ z. by_maker s.lower s.upper side z u) e
    ∙ ap (λ z. by_maker s.lower s.upper side (made_quotient a s.lower (w Lo s.column)) z) f
    ∙ by_made s.lower s.upper side a (w Lo s.column) (w Up s.column))

pub pair_is : (columns : ℕ) (d : Pair) (w : Weights) (t p q : ℚ) → t ≡ equation_times columns d w → p ≡ d.b *ℚ lower_quotient d w → q ≡ d.b *ℚ upper_quotient d w
    → with_sides (columns + d.row) (λ side. part_on side t) (with_sides d.y (λ side. by_maker d.lower d.upper side (magnitude p) (magnitude q)) (unmade d.x d.lower d.upper w)) ≡ pair_before columns d w
pair_is columns d w t p q e f g =
    ap (λ z. with_sides (columns + d.row) (λ side. part_on side z) (with_sides d.y (λ side. by_maker d.lower d.upper side (magnitude p) (magnitude q)) (unmade d.x d.lower d.upper w))) e
    ∙ ap (λ z. with_sides (columns + d.row) (λ side. part_on side (equation_times columns d w)) (with_sides d.y (λ side. by_maker d.lower d.upper side (magnitude z) (magnitude q)) (unmade d.x d.lower d.upper w))) f
    ∙ ap (λ z. with_sides (columns + d.row) (λ side. part_on side (equation_times columns d w)) (with_sides d.y (λ side. by_maker d.lower d.upper side (magnitude (d.b *ℚ lower_quotient d w)) (magnitude z)) (unmade d.x d.lower d.upper w))) g

-- ---- a limit that was not made is worth 0
pub less_zero : (q : ℚ) → q ≡ q -ℚ zero_ℚ
less_zero q = ring_ℚ (q ∷ []) x0 (x0 :- zero_of) tt

pub plus_zero : (q : ℚ) → q ≡ q +ℚ zero_ℚ
plus_zero q = ring_ℚ (q ∷ []) x0 (x0 :+ zero_of) tt

pub zero_product : (b : ℚ) → zero_ℚ ≡ b *ℚ zero_ℚ
zero_product b = ring_ℚ (b ∷ []) zero_of (x0 :* zero_of) tt

pub not_made : (made : Option Side) → ((side : Side) → made ≡ Some side → ⊥) → made ≡ None
not_made None h = refl
not_made (Some side) h = absurd (h side refl)

-- ---- of a limit that was made, or was not
module _ (made : Option Side) where
  pub quotient_some : (side : Side) → made ≡ Some side → (a w : ℚ) → made_quotient a made w ≡ w /ℚ a
  quotient_some side e a w = ap (λ o. made_quotient a o w) e

  pub quotient_none : made ≡ None → (a w : ℚ) → made_quotient a made w ≡ zero_ℚ
  quotient_none e a w = ap (λ o. made_quotient a o w) e

  pub work_some : (side : Side) → made ≡ Some side → (kind : Op) (d : Pair) (sum w : ℚ) → made_work kind d sum made w ≡ quotient_work kind sum w d.a d.b
  work_some side e kind d sum w = ap (λ o. made_work kind d sum o w) e

  pub work_none : made ≡ None → (kind : Op) (d : Pair) (sum w : ℚ) → AreNarrow (made_work kind d sum made w)
  work_none e kind d sum w = ap (λ o. first_wide limit (made_work kind d sum o w)) e ∙ first_wide-nil limit

  pub single_none : made ≡ None → (a w : ℚ) → AreNarrow (single_side_work a made w)
  single_none e a w = ap (λ o. first_wide limit (single_side_work a o w)) e ∙ first_wide-nil limit

-- ---- the operations of a row of one column; x and y are the weights as read
module _ (s : Single) (w : Weights) (x y : ℚ) (ex : x ≡ w Lo s.column) where
  pub single_first : (o : Operation) → IsFirst (single_side_work s.factor s.lower x) o → IsFirst (single_work_back s w) o
  single_first o e = first_here (single_side_work s.factor s.lower (w Lo s.column)) _ o (subst (λ z. IsFirst (single_side_work s.factor s.lower z) o) ex e)

  module _ (ey : y ≡ w Up s.column) (n : AreNarrow (single_side_work s.factor s.lower x)) where
    narrow_first : AreNarrow (single_side_work s.factor s.lower (w Lo s.column))
    narrow_first = subst (λ z. AreNarrow (single_side_work s.factor s.lower z)) ex n

    pub single_second : (o : Operation) → IsFirst (single_side_work s.factor s.upper y) o → IsFirst (single_work_back s w) o
    single_second o e = first_past (single_side_work s.factor s.lower (w Lo s.column)) _ o narrow_first (subst (λ z. IsFirst (single_side_work s.factor s.upper z) o) ey e)

    pub single_all : AreNarrow (single_side_work s.factor s.upper y) → AreNarrow (single_work_back s w)
    single_all e = narrow_both (single_side_work s.factor s.lower (w Lo s.column)) _ narrow_first (subst (λ z. AreNarrow (single_side_work s.factor s.upper z)) ey e)

-- ---- the operations of an equation; g is the sum of the changed rows, x and y are the weights as read
module _ (columns : ℕ) (d : Pair) (w : Weights) where
  abbrev changes_work : Calculation
  changes_work = equation_work columns w zero_ℚ d.changes

  abbrev given : ℚ
  given = neg_ℚ (taken_of columns d.changes w)

  pub pair_first : (o : Operation) → IsFirst (equation_work columns w zero_ℚ d.changes) o → IsFirst (pair_work_back columns d w) o
  pair_first o e = first_here changes_work _ o e

  module _ (n : AreNarrow (equation_work columns w zero_ℚ d.changes)) (g : ℚ) (eg : g ≡ neg_ℚ (taken_of columns d.changes w)) (x : ℚ) (ex : x ≡ w Lo d.x) where
    pub pair_second : (o : Operation) → IsFirst (made_work Minus d g d.lower x) o → IsFirst (pair_work_back columns d w) o
    pair_second o e =
        first_past changes_work _ o n
        (first_here (made_work Minus d given d.lower (w Lo d.x)) _ o
        (subst (λ z. IsFirst (made_work Minus d z d.lower (w Lo d.x)) o) eg (subst (λ z. IsFirst (made_work Minus d g d.lower z) o) ex e)))

    module _ (m : AreNarrow (made_work Minus d g d.lower x)) (t : ℚ) (et : t ≡ g -ℚ made_quotient d.a d.lower x) (y : ℚ) (ey : y ≡ w Up d.x) where
      narrow_lower : AreNarrow (made_work Minus d given d.lower (w Lo d.x))
      narrow_lower = subst (λ z. AreNarrow (made_work Minus d z d.lower (w Lo d.x))) eg (subst (λ z. AreNarrow (made_work Minus d g d.lower z)) ex m)

      same_times : t ≡ given -ℚ lower_quotient d w
      same_times = et ∙ ap (λ z. z -ℚ made_quotient d.a d.lower x) eg ∙ ap (λ z. given -ℚ made_quotient d.a d.lower z) ex

      pub pair_third : (o : Operation) → IsFirst (made_work Plus d t d.upper y) o → IsFirst (pair_work_back columns d w) o
      pair_third o e =
          first_past changes_work _ o n
          (first_past (made_work Minus d given d.lower (w Lo d.x)) _ o narrow_lower
          (subst (λ z. IsFirst (made_work Plus d z d.upper (w Up d.x)) o) same_times (subst (λ z. IsFirst (made_work Plus d t d.upper z) o) ey e)))

      pub pair_all : AreNarrow (made_work Plus d t d.upper y) → AreNarrow (pair_work_back columns d w)
      pair_all e =
          narrow_both changes_work _ n
          (narrow_both (made_work Minus d given d.lower (w Lo d.x)) _ narrow_lower
          (subst (λ z. AreNarrow (made_work Plus d z d.upper (w Up d.x))) same_times (subst (λ z. AreNarrow (made_work Plus d t d.upper z)) ey e)))

      pub pair_times : (u : ℚ) → u ≡ t +ℚ made_quotient d.a d.upper y → u ≡ equation_times columns d w
      pair_times u e = e ∙ ap (λ z. z +ℚ made_quotient d.a d.upper y) same_times ∙ ap (λ z. (given -ℚ lower_quotient d w) +ℚ made_quotient d.a d.upper z) ey
