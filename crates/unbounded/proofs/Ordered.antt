-- The shares of the dual at the end of a run stand in order: they are those of weights.
use Rattle.std.proofs.Common.{◌≡◌, ◌≢◌, refl, sym, ◌∙◌, ap, subst, ℕ, Bool, true, false, cond, not, List, [], ◌∷◌, ◌++◌, filter, map, length}
use Rattle.std.specs.Prelude.{flat_map}
use Rattle.std.proofs.lemmas.List.Elements.{filter-append}
use Rattle.rational.specs.Rational.{ℚ, zero_ℚ, neg_ℚ, ◌≤ℚ◌, lt_q, eq_ℚ}
use Rattle.rational.proofs.Compare.{apart_from_test, eq-Decides}
use Rattle.rational.proofs.Field.{ring_ℚ, x0, minus, zero_of}
use Rattle.rational.proofs.Order.{lt_q-true, lt_q-false, lt-le_clash_ℚ, le_antisymm_ℚ, le_of_lt_ℚ, le_refl_ℚ}
use Rattle.lp_model.specs.declared.members.Side.{Side}
use Rattle.lp_model.specs.declared.members.Side.TheVariants.{Lo, Up}
use Rattle.certs.specs.Ended.{is_upper, numbers_from, share_for, shares_for}
use Rattle.certs.specs.Named.{named}
use Rattle.certs.specs.Order.{AreSharesInOrder}
use Rattle.certs.specs.System.{LinearSystem, VariableShare}
use Rattle.certs.specs.Tableau.{Tableau}
use Rattle.reductions.specs.Back.{part_on, share_of, shares_of}
use Rattle.reductions.specs.Rules.{share_on}
use Rattle.reductions.proofs.WeightOrder.{shares_in_order}
use Rattle.simplex.specs.Duals.{objective_multiple, optimal_shares}

-- ---- of one variable
-- the share on a side of a number
abbrev on_side : Side → ℕ → ℚ → List VariableShare
on_side side v q = cond (eq_ℚ (part_on side q) zero_ℚ) [] (share_on side v (part_on side q) ∷ [])

not_zero : (q : ℚ) → (q ≡ zero_ℚ → ⊥) → eq_ℚ q zero_ℚ ≡ false
not_zero q h = by (eq_ℚ q zero_ℚ) refl
  where
    by : (b : Bool) → eq_ℚ q zero_ℚ ≡ b → b ≡ false
    by true e = absurd (h ((eq-Decides q zero_ℚ).0 e))
    by false e = refl

module _ (v : ℕ) (q : ℚ) where
  high_there : lt_q zero_ℚ q ≡ true → eq_ℚ q zero_ℚ ≡ false → on_side Up v q ≡ share_on Up v q ∷ []
  high_there e f =
      ap (λ b. cond (eq_ℚ (cond b q zero_ℚ) zero_ℚ) [] (share_on Up v (cond b q zero_ℚ) ∷ [])) e
      ∙ ap (λ z. cond z [] (share_on Up v q ∷ [])) f

  high_gone : lt_q zero_ℚ q ≡ false → on_side Up v q ≡ []
  high_gone e =
      ap (λ b. cond (eq_ℚ (cond b q zero_ℚ) zero_ℚ) [] (share_on Up v (cond b q zero_ℚ) ∷ [])) e
      ∙ ap (λ z. cond z [] (share_on Up v zero_ℚ ∷ [])) ((eq-Decides zero_ℚ zero_ℚ).1 refl)

  low_there : lt_q q zero_ℚ ≡ true → eq_ℚ (neg_ℚ q) zero_ℚ ≡ false → on_side Lo v q ≡ share_on Lo v (neg_ℚ q) ∷ []
  low_there e f =
      ap (λ b. cond (eq_ℚ (cond b (neg_ℚ q) zero_ℚ) zero_ℚ) [] (share_on Lo v (cond b (neg_ℚ q) zero_ℚ) ∷ [])) e
      ∙ ap (λ z. cond z [] (share_on Lo v (neg_ℚ q) ∷ [])) f

  low_gone : lt_q q zero_ℚ ≡ false → on_side Lo v q ≡ []
  low_gone e =
      ap (λ b. cond (eq_ℚ (cond b (neg_ℚ q) zero_ℚ) zero_ℚ) [] (share_on Lo v (cond b (neg_ℚ q) zero_ℚ) ∷ [])) e
      ∙ ap (λ z. cond z [] (share_on Lo v zero_ℚ ∷ [])) ((eq-Decides zero_ℚ zero_ℚ).1 refl)

  -- the share of a number is that on its sides, of which one is empty
  record IsOnSides : Type 0 where
    both : share_for v q ≡ on_side Lo v q ++ on_side Up v q
    low : filter (λ s. not (is_upper s)) (share_for v q) ≡ on_side Lo v q
    high : filter is_upper (share_for v q) ≡ on_side Up v q

  from_parts : (one : List VariableShare) → share_for v q ≡ one → one ≡ on_side Lo v q ++ on_side Up v q
      → filter (λ s. not (is_upper s)) one ≡ on_side Lo v q → filter is_upper one ≡ on_side Up v q → IsOnSides
  from_parts one e both low high = record {
    both = e ∙ both;
    low = ap (filter (λ s. not (is_upper s))) e ∙ low;
    high = ap (filter is_upper) e ∙ high;
  }

  not_below : zero_ℚ ≤ℚ q → lt_q q zero_ℚ ≡ false
  not_below h = by (lt_q q zero_ℚ) refl
    where
      by : (b : Bool) → lt_q q zero_ℚ ≡ b → b ≡ false
      by true e = lt-le_clash_ℚ (lt_q-true q zero_ℚ e) h
      by false e = refl

  not_above : q ≤ℚ zero_ℚ → lt_q zero_ℚ q ≡ false
  not_above h = by (lt_q zero_ℚ q) refl
    where
      by : (b : Bool) → lt_q zero_ℚ q ≡ b → b ≡ false
      by true e = lt-le_clash_ℚ (lt_q-true zero_ℚ q e) h
      by false e = refl

  on_sides : IsOnSides
  on_sides = by (eq_ℚ q zero_ℚ) (lt_q zero_ℚ q) refl refl
    where
      by : (a b : Bool) → eq_ℚ q zero_ℚ ≡ a → lt_q zero_ℚ q ≡ b → IsOnSides
      by true b e f =
          let zero : q ≡ zero_ℚ = (eq-Decides q zero_ℚ).0 e in
          let low = low_gone (not_below (subst (λ z. zero_ℚ ≤ℚ z) (sym zero) (le_refl_ℚ zero_ℚ))) in
          let high = high_gone (not_above (subst (λ z. z ≤ℚ zero_ℚ) (sym zero) (le_refl_ℚ zero_ℚ))) in
          from_parts []
          (ap (λ z. cond z [] (cond (lt_q zero_ℚ q) (share_on Up v q ∷ []) (share_on Lo v (neg_ℚ q) ∷ []))) e)
          (sym (ap (λ l. l ++ on_side Up v q) low ∙ high)) (sym low) (sym high)
      by false true e f =
          let low = low_gone (not_below (le_of_lt_ℚ (lt_q-true zero_ℚ q f))) in
          let high = high_there f e in
          from_parts (share_on Up v q ∷ [])
          (ap (λ z. cond z [] (cond (lt_q zero_ℚ q) (share_on Up v q ∷ []) (share_on Lo v (neg_ℚ q) ∷ []))) e
          ∙ ap (λ z. cond z (share_on Up v q ∷ []) (share_on Lo v (neg_ℚ q) ∷ [])) f)
          (sym (ap (λ l. l ++ on_side Up v q) low ∙ high)) (sym low) (sym high)
      by false false e f =
          let below : q ≤ℚ zero_ℚ = lt_q-false zero_ℚ q f in
          let apart : q ≢ zero_ℚ = apart_from_test q zero_ℚ zero_ℚ refl e in
          let negative : lt_q q zero_ℚ ≡ true = by_order (lt_q q zero_ℚ) refl below apart in
          let some : eq_ℚ (neg_ℚ q) zero_ℚ ≡ false = not_zero (neg_ℚ q) (λ z. apart (ring_ℚ (q ∷ []) x0 (minus (minus x0)) tt ∙ ap neg_ℚ z ∙ ring_ℚ [] (minus zero_of) zero_of tt)) in
          let low = low_there negative some in
          let high = high_gone f in
          from_parts (share_on Lo v (neg_ℚ q) ∷ [])
          (ap (λ z. cond z [] (cond (lt_q zero_ℚ q) (share_on Up v q ∷ []) (share_on Lo v (neg_ℚ q) ∷ []))) e
          ∙ ap (λ z. cond z (share_on Up v q ∷ []) (share_on Lo v (neg_ℚ q) ∷ [])) f)
          (sym (ap (λ l. on_side Lo v q ++ l) high ∙ ap (λ l. l ++ []) low)) (sym low) (sym high)
        where
          by_order : (b : Bool) → lt_q q zero_ℚ ≡ b → q ≤ℚ zero_ℚ → q ≢ zero_ℚ → lt_q q zero_ℚ ≡ true
          by_order true g h k = g
          by_order false g h k = absurd (k (le_antisymm_ℚ h (lt_q-false q zero_ℚ g)))

-- ---- of all
module _ (c : ℕ → ℚ) where
  abbrev weights : Side → ℕ → ℚ
  weights side v = part_on side (c v)

  rows_are : (xs : List ℕ) → shares_for c xs ≡ flat_map (λ v. share_of weights Lo v ++ share_of weights Up v) xs
  rows_are [] = refl
  rows_are (v ∷ xs) = ap (λ l. l ++ shares_for c xs) (on_sides v (c v)).both ∙ ap (λ l. (share_of weights Lo v ++ share_of weights Up v) ++ l) (rows_are xs)

  lows_are : (xs : List ℕ) → filter (λ s. not (is_upper s)) (shares_for c xs) ≡ flat_map (share_of weights Lo) xs
  lows_are [] = refl
  lows_are (v ∷ xs) =
      filter-append (λ s. not (is_upper s)) (share_for v (c v)) (shares_for c xs)
      ∙ ap (λ l. l ++ filter (λ s. not (is_upper s)) (shares_for c xs)) (on_sides v (c v)).low
      ∙ ap (λ l. share_of weights Lo v ++ l) (lows_are xs)

  highs_are : (xs : List ℕ) → filter is_upper (shares_for c xs) ≡ flat_map (share_of weights Up) xs
  highs_are [] = refl
  highs_are (v ∷ xs) =
      filter-append is_upper (share_for v (c v)) (shares_for c xs)
      ∙ ap (λ l. l ++ filter is_upper (shares_for c xs)) (on_sides v (c v)).high
      ∙ ap (λ l. share_of weights Up v ++ l) (highs_are xs)

-- those of a last table are shares of weights, and stand in order
pub optimal_in_order : (system : LinearSystem) (t : Tableau) → AreSharesInOrder (map (named (length system.columns)) (optimal_shares system t))
optimal_in_order system t =
    let c = objective_multiple t in
    let n = length system.columns in
    let m = length system.rows in
    let same : optimal_shares system t ≡ shares_of n m (weights c) =
    ap (λ l. l ++ (filter (λ s. not (is_upper s)) (shares_for c (numbers_from 0 n)) ++ filter is_upper (shares_for c (numbers_from 0 n)))) (rows_are c (numbers_from n m))
    ∙ ap (λ l. flat_map (λ v. share_of (weights c) Lo v ++ share_of (weights c) Up v) (numbers_from n m) ++ (l ++ filter is_upper (shares_for c (numbers_from 0 n)))) (lows_are c (numbers_from 0 n))
    ∙ ap (λ l. flat_map (λ v. share_of (weights c) Lo v ++ share_of (weights c) Up v) (numbers_from n m) ++ (flat_map (share_of (weights c) Lo) (numbers_from 0 n) ++ l)) (highs_are c (numbers_from 0 n)) in
    subst (λ l. AreSharesInOrder (map (named n) l)) (sym same) (shares_in_order n m (weights c))
