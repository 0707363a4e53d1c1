-- Sides and their signs: what a side is turned to, and which side made a limit.
use Rattle.std.proofs.Common.{◌≡◌, ◌≢◌, refl, sym, ◌∙◌, ap, subst, Bool, true, false, true≢false, cond, [], ◌∷◌, Option, Some, None, inl, inr}
use Rattle.std.specs.Prelude.{◌⊎◌}
use Rattle.std.proofs.lemmas.Bool.{cases_Bool, cond-true, cond-false}
use Rattle.rational.specs.Rational.{ℚ, ◌+ℚ◌, ◌-ℚ◌, ◌*ℚ◌, ◌/ℚ◌, neg_ℚ, inv_ℚ, zero_ℚ, ◌≤ℚ◌, ◌<ℚ◌, lt_q}
use Rattle.rational.proofs.Field.{ring_ℚ, ring_by_ℚ, ring_by2_ℚ, mul-inv_ℚ, x0, x1, x2, x3, x4, ◌:+◌, ◌:-◌, ◌:*◌, minus, zero_of, unit_of}
use Rattle.rational.proofs.Order.{lt_q-true, lt_q-false, le_antisymm_ℚ, le_of_lt_ℚ, lt-le_clash_ℚ, lt_irrefl_ℚ, le_by, lt_by, le_refl_ℚ, nonneg_of_le, nonneg_is, nonneg-mul, positive_of_lt, inv-pos_ℚ, lt_of_le-ne_ℚ}
use Rattle.lp_model.specs.declared.members.Side.{Side}
use Rattle.lp_model.specs.declared.members.Side.TheVariants.{Lo, Up}
use Rattle.certs.specs.Combination.{signed}
use Rattle.certs.specs.Improves.{magnitude}
use Rattle.reductions.specs.Limited.{opposite, is_side, turned}
use Rattle.reductions.specs.Rules.{pair_side}
use Rattle.reductions.specs.Back.{part_on, is_made, by_maker, unless_made}

-- ---- signs of numbers
-- a number that is not 0 is above 0 and its own magnitude, or below 0 and the magnitude is its opposite
pub data SignOf (a : ℚ) : Type 0 where
  Above : zero_ℚ <ℚ a → lt_q zero_ℚ a ≡ true → magnitude a ≡ a → SignOf a
  Beneath : a <ℚ zero_ℚ → lt_q zero_ℚ a ≡ false → magnitude a ≡ neg_ℚ a → SignOf a

pub sign_of : (a : ℚ) → a ≢ zero_ℚ → SignOf a
sign_of a some =
    elim (cases_Bool (lt_q zero_ℚ a)) [
      | inl e ↦ Above (lt_q-true zero_ℚ a e) e (above (lt_q-true zero_ℚ a e) (cases_Bool (lt_q a zero_ℚ)))
      | inr e ↦ Beneath (under e) e (beneath (under e) (cases_Bool (lt_q a zero_ℚ)))
    ]
  where
    under : lt_q zero_ℚ a ≡ false → a <ℚ zero_ℚ
    under e = lt_of_le-ne_ℚ (lt_q-false zero_ℚ a e) some

    above : zero_ℚ <ℚ a → (lt_q a zero_ℚ ≡ true) ⊎ (lt_q a zero_ℚ ≡ false) → magnitude a ≡ a
    above h (inl e) = lt-le_clash_ℚ h (le_of_lt_ℚ (lt_q-true a zero_ℚ e))
    above h (inr e) = cond-false (lt_q a zero_ℚ) (neg_ℚ a) a e

    beneath : a <ℚ zero_ℚ → (lt_q a zero_ℚ ≡ true) ⊎ (lt_q a zero_ℚ ≡ false) → magnitude a ≡ neg_ℚ a
    beneath h (inl e) = cond-true (lt_q a zero_ℚ) (neg_ℚ a) a e
    beneath h (inr e) = lt-le_clash_ℚ h (lt_q-false a zero_ℚ e)

pub magnitude_positive : (a : ℚ) → a ≢ zero_ℚ → zero_ℚ <ℚ magnitude a
magnitude_positive a some = by (sign_of a some)
  where
    by : SignOf a → zero_ℚ <ℚ magnitude a
    by (Above p t e) = subst (λ z. zero_ℚ <ℚ z) (sym e) p
    by (Beneath p t e) = subst (λ z. zero_ℚ <ℚ z) (sym e) (lt_by (a ∷ []) zero_of (minus x0) (zero_of :- x0) (positive_of_lt p) tt)

pub magnitude_some : (a : ℚ) → a ≢ zero_ℚ → magnitude a ≢ zero_ℚ
magnitude_some a some e = lt_irrefl_ℚ {a = zero_ℚ} (subst (λ z. zero_ℚ <ℚ z) e (magnitude_positive a some))

pub magnitude_nonnegative : (a : ℚ) → zero_ℚ ≤ℚ magnitude a
magnitude_nonnegative a = by (cases_Bool (lt_q a zero_ℚ))
  where
    by : (lt_q a zero_ℚ ≡ true) ⊎ (lt_q a zero_ℚ ≡ false) → zero_ℚ ≤ℚ magnitude a
    by (inl e) = subst (λ z. zero_ℚ ≤ℚ z) (sym (cond-true (lt_q a zero_ℚ) (neg_ℚ a) a e)) (le_by (a ∷ []) zero_of (minus x0) (zero_of :- x0) (nonneg_of_le (le_of_lt_ℚ (lt_q-true a zero_ℚ e))) tt)
    by (inr e) = subst (λ z. zero_ℚ ≤ℚ z) (sym (cond-false (lt_q a zero_ℚ) (neg_ℚ a) a e)) (lt_q-false a zero_ℚ e)

pub part_nonnegative : (side : Side) (q : ℚ) → zero_ℚ ≤ℚ part_on side q
part_nonnegative Up q = by (cases_Bool (lt_q zero_ℚ q))
  where
    by : (lt_q zero_ℚ q ≡ true) ⊎ (lt_q zero_ℚ q ≡ false) → zero_ℚ ≤ℚ cond (lt_q zero_ℚ q) q zero_ℚ
    by (inl e) = subst (λ z. zero_ℚ ≤ℚ z) (sym (cond-true (lt_q zero_ℚ q) q zero_ℚ e)) (le_of_lt_ℚ (lt_q-true zero_ℚ q e))
    by (inr e) = subst (λ z. zero_ℚ ≤ℚ z) (sym (cond-false (lt_q zero_ℚ q) q zero_ℚ e)) (le_refl_ℚ zero_ℚ)
part_nonnegative Lo q = by (cases_Bool (lt_q q zero_ℚ))
  where
    by : (lt_q q zero_ℚ ≡ true) ⊎ (lt_q q zero_ℚ ≡ false) → zero_ℚ ≤ℚ cond (lt_q q zero_ℚ) (neg_ℚ q) zero_ℚ
    by (inl e) = subst (λ z. zero_ℚ ≤ℚ z) (sym (cond-true (lt_q q zero_ℚ) (neg_ℚ q) zero_ℚ e)) (le_by (q ∷ []) zero_of (minus x0) (zero_of :- x0) (nonneg_of_le (le_of_lt_ℚ (lt_q-true q zero_ℚ e))) tt)
    by (inr e) = subst (λ z. zero_ℚ ≤ℚ z) (sym (cond-false (lt_q q zero_ℚ) (neg_ℚ q) zero_ℚ e)) (le_refl_ℚ zero_ℚ)

-- the parts of a number make it
pub parts_make : (q : ℚ) → part_on Up q -ℚ part_on Lo q ≡ q
parts_make q = by (cases_Bool (lt_q zero_ℚ q)) (cases_Bool (lt_q q zero_ℚ))
  where
    by : (lt_q zero_ℚ q ≡ true) ⊎ (lt_q zero_ℚ q ≡ false) → (lt_q q zero_ℚ ≡ true) ⊎ (lt_q q zero_ℚ ≡ false) → cond (lt_q zero_ℚ q) q zero_ℚ -ℚ cond (lt_q q zero_ℚ) (neg_ℚ q) zero_ℚ ≡ q
    by (inl e) (inl f) = lt-le_clash_ℚ (lt_q-true zero_ℚ q e) (le_of_lt_ℚ (lt_q-true q zero_ℚ f))
    by (inl e) (inr f) = ap (λ z. cond z q zero_ℚ -ℚ cond (lt_q q zero_ℚ) (neg_ℚ q) zero_ℚ) e ∙ ap (λ z. q -ℚ cond z (neg_ℚ q) zero_ℚ) f ∙ ring_ℚ (q ∷ []) (x0 :- zero_of) x0 tt
    by (inr e) (inl f) = ap (λ z. cond z q zero_ℚ -ℚ cond (lt_q q zero_ℚ) (neg_ℚ q) zero_ℚ) e ∙ ap (λ z. zero_ℚ -ℚ cond z (neg_ℚ q) zero_ℚ) f ∙ ring_ℚ (q ∷ []) (zero_of :- minus x0) x0 tt
    by (inr e) (inr f) = ap (λ z. cond z q zero_ℚ -ℚ cond (lt_q q zero_ℚ) (neg_ℚ q) zero_ℚ) e ∙ ap (λ z. zero_ℚ -ℚ cond z (neg_ℚ q) zero_ℚ) f ∙ ring_ℚ [] (zero_of :- zero_of) zero_of tt ∙ le_antisymm_ℚ (lt_q-false q zero_ℚ f) (lt_q-false zero_ℚ q e)

-- ---- turned sides
-- the magnitude on the turned side is the number on the side
pub turned_signed : (a : ℚ) (side : Side) (q : ℚ) → a ≢ zero_ℚ → signed (turned a side) (magnitude a *ℚ q) ≡ signed side (a *ℚ q)
turned_signed a side q some = by side (sign_of a some)
  where
    by : (side : Side) → SignOf a → signed (turned a side) (magnitude a *ℚ q) ≡ signed side (a *ℚ q)
    by side (Above p t e) = ap (λ b. signed (cond b side (opposite side)) (magnitude a *ℚ q)) t ∙ ap (λ z. signed side (z *ℚ q)) e
    by Lo (Beneath p t e) = ap (λ b. signed (cond b Lo Up) (magnitude a *ℚ q)) t ∙ ap (λ z. z *ℚ q) e ∙ ring_ℚ (a ∷ q ∷ []) (minus x0 :* x1) (minus (x0 :* x1)) tt
    by Up (Beneath p t e) = ap (λ b. signed (cond b Up Lo) (magnitude a *ℚ q)) t ∙ ap (λ z. neg_ℚ (z *ℚ q)) e ∙ ring_ℚ (a ∷ q ∷ []) (minus (minus x0 :* x1)) (x0 :* x1) tt

-- and the number on the turned side is the magnitude on the side
pub turned_back : (a : ℚ) (side : Side) (q : ℚ) → a ≢ zero_ℚ → signed (turned a side) (a *ℚ q) ≡ signed side (magnitude a *ℚ q)
turned_back a side q some = by side (sign_of a some)
  where
    by : (side : Side) → SignOf a → signed (turned a side) (a *ℚ q) ≡ signed side (magnitude a *ℚ q)
    by side (Above p t e) = ap (λ b. signed (cond b side (opposite side)) (a *ℚ q)) t ∙ ap (λ z. signed side (z *ℚ q)) (sym e)
    by Lo (Beneath p t e) = ap (λ b. signed (cond b Lo Up) (a *ℚ q)) t ∙ ring_ℚ (a ∷ q ∷ []) (x0 :* x1) (minus (minus x0 :* x1)) tt ∙ ap (λ z. neg_ℚ (z *ℚ q)) (sym e)
    by Up (Beneath p t e) = ap (λ b. signed (cond b Up Lo) (a *ℚ q)) t ∙ ring_ℚ (a ∷ q ∷ []) (minus (x0 :* x1)) (minus x0 :* x1) tt ∙ ap (λ z. z *ℚ q) (sym e)

pub opposite_signed : (side : Side) (q : ℚ) → signed (opposite side) q ≡ neg_ℚ (signed side q)
opposite_signed Lo q = ring_ℚ (q ∷ []) x0 (minus (minus x0)) tt
opposite_signed Up q = refl

pub signed_add : (side : Side) (p q : ℚ) → signed side (p +ℚ q) ≡ signed side p +ℚ signed side q
signed_add Lo p q = ring_ℚ (p ∷ q ∷ []) (minus (x0 :+ x1)) (minus x0 :+ minus x1) tt
signed_add Up p q = refl

pub signed_neg : (side : Side) (p : ℚ) → signed side (neg_ℚ p) ≡ neg_ℚ (signed side p)
signed_neg Lo p = refl
signed_neg Up p = refl

pub signed_zero : (side : Side) → signed side zero_ℚ ≡ zero_ℚ
signed_zero Lo = ring_ℚ [] (minus zero_of) zero_of tt
signed_zero Up = refl

-- two sides are turned to two
pub turned_apart : (a : ℚ) (side : Side) → turned a Lo ≡ side → turned a Up ≡ side → ⊥
turned_apart a side e f = by (lt_q zero_ℚ a) side e f
  where
    by : (b : Bool) (side : Side) → cond b Lo Up ≡ side → cond b Up Lo ≡ side → ⊥
    by true side e f = (let g : Lo ≡ Up = e ∙ sym f in cc)
    by false side e f = (let g : Up ≡ Lo = e ∙ sym f in cc)

pub opposite_apart : (p q side : Side) → opposite p ≡ side → opposite q ≡ side → p ≡ q
opposite_apart Lo Lo side e f = refl
opposite_apart Up Up side e f = refl
opposite_apart Lo Up side e f = absurd (let g : Up ≡ Lo = e ∙ sym f in cc)
opposite_apart Up Lo side e f = absurd (let g : Lo ≡ Up = e ∙ sym f in cc)

pub side_same : (a b : Side) → is_side a b ≡ true → a ≡ b
side_same Lo Lo e = refl
side_same Up Up e = refl
side_same Lo Up e = absurd (true≢false (sym e))
side_same Up Lo e = absurd (true≢false (sym e))

-- ---- which side made a limit
-- a number, on the side that is there
abbrev pub on_made : Option Side → (Side → ℚ) → ℚ → ℚ
on_made None g q = zero_ℚ
on_made (Some side) g q = signed side (q *ℚ g side)

-- where no side made both limits the two make the sum
pub by_maker_sum : (lower upper : Option Side) (l u : ℚ) (g : Side → ℚ) → ((side : Side) → lower ≡ Some side → upper ≡ Some side → ⊥)
    → by_maker lower upper Up l u *ℚ g Up -ℚ by_maker lower upper Lo l u *ℚ g Lo ≡ on_made lower g l +ℚ on_made upper g u
by_maker_sum None None l u g h = ring_ℚ (g Up ∷ g Lo ∷ []) (zero_of :* x0 :- zero_of :* x1) (zero_of :+ zero_of) tt
by_maker_sum None (Some Lo) l u g h = ring_ℚ (g Up ∷ g Lo ∷ u ∷ []) (zero_of :* x0 :- x2 :* x1) (zero_of :+ minus (x2 :* x1)) tt
by_maker_sum None (Some Up) l u g h = ring_ℚ (g Up ∷ g Lo ∷ u ∷ []) (x2 :* x0 :- zero_of :* x1) (zero_of :+ x2 :* x0) tt
by_maker_sum (Some Lo) None l u g h = ring_ℚ (g Up ∷ g Lo ∷ l ∷ []) (zero_of :* x0 :- x2 :* x1) (minus (x2 :* x1) :+ zero_of) tt
by_maker_sum (Some Up) None l u g h = ring_ℚ (g Up ∷ g Lo ∷ l ∷ []) (x2 :* x0 :- zero_of :* x1) (x2 :* x0 :+ zero_of) tt
by_maker_sum (Some Lo) (Some Lo) l u g h = absurd (h Lo refl refl)
by_maker_sum (Some Lo) (Some Up) l u g h = ring_ℚ (g Up ∷ g Lo ∷ l ∷ u ∷ []) (x3 :* x0 :- x2 :* x1) (minus (x2 :* x1) :+ x3 :* x0) tt
by_maker_sum (Some Up) (Some Lo) l u g h = ring_ℚ (g Up ∷ g Lo ∷ l ∷ u ∷ []) (x2 :* x0 :- x3 :* x1) (x2 :* x0 :+ minus (x3 :* x1)) tt
by_maker_sum (Some Up) (Some Up) l u g h = absurd (h Up refl refl)

pub by_maker_nonnegative : (lower upper : Option Side) (side : Side) (l u : ℚ) → zero_ℚ ≤ℚ l → zero_ℚ ≤ℚ u → zero_ℚ ≤ℚ by_maker lower upper side l u
by_maker_nonnegative lower upper side l u p q = by (is_made lower side) (is_made upper side)
  where
    by : (a b : Bool) → zero_ℚ ≤ℚ cond a l (cond b u zero_ℚ)
    by true b = p
    by false true = q
    by false false = le_refl_ℚ zero_ℚ

pub unless_nonnegative : (o : Option Side) (q : ℚ) → zero_ℚ ≤ℚ q → zero_ℚ ≤ℚ unless_made o q
unless_nonnegative None q h = h
unless_nonnegative (Some side) q h = le_refl_ℚ zero_ℚ

-- a number that is not negative over a magnitude
pub over_nonnegative : (q a : ℚ) → a ≢ zero_ℚ → zero_ℚ ≤ℚ q → zero_ℚ ≤ℚ q /ℚ magnitude a
over_nonnegative q a some h = nonneg_is.1 (nonneg-mul (nonneg_is.0 h) (nonneg_is.0 (le_of_lt_ℚ (inv-pos_ℚ (magnitude_positive a some)))))

-- a part over a divisor, taken back
pub quotient_times : (q a : ℚ) → a ≢ zero_ℚ → a *ℚ (q /ℚ a) ≡ q
quotient_times q a some = ring_by_ℚ (q ∷ a ∷ inv_ℚ a ∷ []) (x1 :* (x0 :* x2)) x0 x0 (x1 :* x2) unit_of (mul-inv_ℚ a some) tt

-- ---- products and quotients of magnitudes
pub magnitude_is : (x y : ℚ) → zero_ℚ ≤ℚ y → (x ≡ y) ⊎ (x ≡ neg_ℚ y) → magnitude x ≡ y
magnitude_is x y h (inl e) = ap magnitude e ∙ own (cases_Bool (lt_q y zero_ℚ))
  where
    own : (lt_q y zero_ℚ ≡ true) ⊎ (lt_q y zero_ℚ ≡ false) → magnitude y ≡ y
    own (inl t) = lt-le_clash_ℚ (lt_q-true y zero_ℚ t) h
    own (inr t) = cond-false (lt_q y zero_ℚ) (neg_ℚ y) y t
magnitude_is x y h (inr e) = ap magnitude e ∙ own (cases_Bool (lt_q (neg_ℚ y) zero_ℚ))
  where
    own : (lt_q (neg_ℚ y) zero_ℚ ≡ true) ⊎ (lt_q (neg_ℚ y) zero_ℚ ≡ false) → magnitude (neg_ℚ y) ≡ y
    own (inl t) = cond-true (lt_q (neg_ℚ y) zero_ℚ) (neg_ℚ (neg_ℚ y)) (neg_ℚ y) t ∙ ring_ℚ (y ∷ []) (minus (minus x0)) x0 tt
    own (inr t) =
        cond-false (lt_q (neg_ℚ y) zero_ℚ) (neg_ℚ (neg_ℚ y)) (neg_ℚ y) t
        ∙ (let z : y ≡ zero_ℚ = le_antisymm_ℚ (le_by (y ∷ []) x0 zero_of (minus x0 :- zero_of) (nonneg_of_le (lt_q-false (neg_ℚ y) zero_ℚ t)) tt) h in
        ap neg_ℚ z ∙ ring_ℚ [] (minus zero_of) zero_of tt ∙ sym z)

-- a quotient is one by the magnitude, or its opposite
over_sign : (q a : ℚ) → a ≢ zero_ℚ → (q /ℚ a ≡ q /ℚ magnitude a) ⊎ (q /ℚ a ≡ neg_ℚ (q /ℚ magnitude a))
over_sign q a some = by (sign_of a some)
  where
    by : SignOf a → (q /ℚ a ≡ q /ℚ magnitude a) ⊎ (q /ℚ a ≡ neg_ℚ (q /ℚ magnitude a))
    by (Above p t e) = inl (ap (λ z. q /ℚ z) (sym e))
    by (Beneath p t e) =
        inr (ring_by2_ℚ (q ∷ a ∷ inv_ℚ a ∷ inv_ℚ (magnitude a) ∷ []) (x0 :* x2) (minus (x0 :* x3)) (minus (x0 :* x2)) (minus x1 :* x3) unit_of (minus (x0 :* x3)) (x1 :* x2) unit_of
        (ap (λ z. z *ℚ inv_ℚ (magnitude a)) (sym e) ∙ mul-inv_ℚ (magnitude a) (magnitude_some a some)) (mul-inv_ℚ a some) tt)

factor_sign : (b : ℚ) → b ≢ zero_ℚ → (b ≡ magnitude b) ⊎ (b ≡ neg_ℚ (magnitude b))
factor_sign b some = by (sign_of b some)
  where
    by : SignOf b → (b ≡ magnitude b) ⊎ (b ≡ neg_ℚ (magnitude b))
    by (Above p t e) = inl (sym e)
    by (Beneath p t e) = inr (ring_ℚ (b ∷ []) x0 (minus (minus x0)) tt ∙ ap neg_ℚ (sym e))

-- the magnitude of a product with a quotient of what is not negative
pub magnitude_product : (b q a : ℚ) → b ≢ zero_ℚ → a ≢ zero_ℚ → zero_ℚ ≤ℚ q → magnitude (b *ℚ (q /ℚ a)) ≡ magnitude b *ℚ (q /ℚ magnitude a)
magnitude_product b q a sb sa h =
    magnitude_is (b *ℚ (q /ℚ a)) (magnitude b *ℚ (q /ℚ magnitude a)) (nonneg_is.1 (nonneg-mul (nonneg_is.0 (magnitude_nonnegative b)) (nonneg_is.0 (over_nonnegative q a sa h))))
    (by (factor_sign b sb) (over_sign q a sa))
  where
    by : (b ≡ magnitude b) ⊎ (b ≡ neg_ℚ (magnitude b)) → (q /ℚ a ≡ q /ℚ magnitude a) ⊎ (q /ℚ a ≡ neg_ℚ (q /ℚ magnitude a))
        → (b *ℚ (q /ℚ a) ≡ magnitude b *ℚ (q /ℚ magnitude a)) ⊎ (b *ℚ (q /ℚ a) ≡ neg_ℚ (magnitude b *ℚ (q /ℚ magnitude a)))
    by (inl e) (inl f) = inl (ap (λ z. z *ℚ (q /ℚ a)) e ∙ ap (λ z. magnitude b *ℚ z) f)
    by (inl e) (inr f) = inr (ap (λ z. z *ℚ (q /ℚ a)) e ∙ ap (λ z. magnitude b *ℚ z) f ∙ ring_ℚ (magnitude b ∷ (q /ℚ magnitude a) ∷ []) (x0 :* minus x1) (minus (x0 :* x1)) tt)
    by (inr e) (inl f) = inr (ap (λ z. z *ℚ (q /ℚ a)) e ∙ ap (λ z. neg_ℚ (magnitude b) *ℚ z) f ∙ ring_ℚ (magnitude b ∷ (q /ℚ magnitude a) ∷ []) (minus x0 :* x1) (minus (x0 :* x1)) tt)
    by (inr e) (inr f) = inl (ap (λ z. z *ℚ (q /ℚ a)) e ∙ ap (λ z. neg_ℚ (magnitude b) *ℚ z) f ∙ ring_ℚ (magnitude b ∷ (q /ℚ magnitude a) ∷ []) (minus x0 :* minus x1) (x0 :* x1) tt)

-- ---- an equation of two columns
-- where the limit of one makes that of the other, its weight with its sign is the opposite of the factor times the quotient
pub pair_signed : (a b q g : ℚ) (side : Side) → a ≢ zero_ℚ → b ≢ zero_ℚ → zero_ℚ ≤ℚ q
    → signed (pair_side a b side) (magnitude (b *ℚ (q /ℚ a)) *ℚ g) ≡ neg_ℚ (signed side ((b *ℚ (q /ℚ a)) *ℚ g))
pair_signed a b q g side sa sb h =
    let m : ℚ = q /ℚ magnitude a in
    ap (λ z. signed (pair_side a b side) (z *ℚ g)) (magnitude_product b q a sb sa h)
    ∙ opposite_signed (turned b (turned a side)) ((magnitude b *ℚ m) *ℚ g)
    ∙ ap neg_ℚ
    (ap (λ z. signed (turned b (turned a side)) z) (ring_ℚ (magnitude b ∷ m ∷ g ∷ []) ((x0 :* x1) :* x2) (x0 :* (x1 :* x2)) tt)
    ∙ turned_signed b (turned a side) (m *ℚ g) sb
    ∙ ap (λ z. signed (turned a side) z)
    (ring_by_ℚ (b ∷ m ∷ g ∷ a ∷ inv_ℚ a ∷ []) (x0 :* (x1 :* x2)) (x3 :* (x1 :* (x4 :* (x0 :* x2)))) (minus (x0 :* (x1 :* x2))) (x3 :* x4) unit_of (mul-inv_ℚ a sa) tt)
    ∙ turned_back a side (m *ℚ (inv_ℚ a *ℚ (b *ℚ g))) sa
    ∙ ap (λ z. signed side z)
    (ring_ℚ (magnitude a ∷ m ∷ inv_ℚ a ∷ b ∷ g ∷ []) (x0 :* (x1 :* (x2 :* (x3 :* x4)))) ((x0 :* x1) :* (x2 :* (x3 :* x4))) tt
    ∙ ap (λ z. z *ℚ (inv_ℚ a *ℚ (b *ℚ g))) (quotient_times q (magnitude a) (magnitude_some a sa))
    ∙ ring_ℚ (q ∷ inv_ℚ a ∷ b ∷ g ∷ []) (x0 :* (x1 :* (x2 :* x3))) ((x2 :* (x0 :* x1)) :* x3) tt))
