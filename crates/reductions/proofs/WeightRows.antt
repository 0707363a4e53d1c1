-- The ways back of weights over a row that is removed without further change, and over one of one column.
use Rattle.std.proofs.Common.{◌≡◌, ◌≢◌, ◌+◌, ◌<◌, refl, sym, ◌∙◌, ap, subst, ℕ, Bool, true, false, true≢false, cond, ◌==◌, [], ◌∷◌, length, Option, Some, None, IsSome, arith, inl, inr, eq-eqb, ne_eqb}
use Rattle.std.specs.Prelude.{◌⊎◌}
use Rattle.std.specs.Option.{option_map}
use Rattle.std.proofs.lemmas.Bool.{cases_eq, cond-true, cond-false}
use Rattle.std.proofs.lemmas.List.{get_or-set_same, get_or-set_other}
use Rattle.rational.specs.Rational.{ℚ, ◌+ℚ◌, ◌*ℚ◌, ◌/ℚ◌, zero_ℚ, one_ℚ, ◌≤ℚ◌}
use Rattle.rational.specs.Linear.{Term, factor_of}
use Rattle.rational.proofs.Field.{ring_ℚ, x0, ◌:+◌, ◌:*◌, zero_of, unit_of}
use Rattle.rational.proofs.Sums.{times_nothing}
use Rattle.lp_model.specs.declared.members.Side.{Side}
use Rattle.lp_model.specs.declared.members.Side.TheVariants.{Lo, Up}
use Rattle.certs.specs.Combination.{number_or_zero}
use Rattle.certs.specs.Improves.{magnitude}
use Rattle.certs.specs.System.{Limits, LinearSystem, no_limits, empty_system_row, variable_form, variable_limits, limit_on}
use Rattle.reductions.specs.declared.steps.Singleton.{Singleton as Single}
use Rattle.reductions.specs.declared.steps.Step.TheVariants.{Singleton}
use Rattle.reductions.specs.Limited.{turned, is_tighter, tightened, tightened_by}
use Rattle.reductions.specs.Stage.{row_in, limits_in, without_row}
use Rattle.reductions.specs.Rules.{single_limit, single_maker}
use Rattle.reductions.specs.Reduction.{reduced_by}
use Rattle.reductions.specs.Back.{Weights, is_made, by_maker, unless_made, maker, single_before}
use Rattle.reductions.specs.Laws.{IsAsLarge, AreWeightsOf}
use Rattle.reductions.proofs.WeightSides.{by_maker_nonnegative, unless_nonnegative, over_nonnegative, quotient_times, side_same}
use Rattle.reductions.proofs.WeightMoves.{same_sum, single_sum, IsSingleMade}
use Rattle.reductions.proofs.WeightSystems.{factor_at, limit_at, variables, column_form_at, column_limits_at, row_form_at, row_limits_at, variable_cases, nothing_there, WeightLaws, known_before, balance_from, right_from}

-- ---- a row that is removed
module _ (system : LinearSystem) (i : ℕ) (here : i < length system.rows) where
  pub gone_row : row_in (without_row i system) i ≡ empty_system_row
  gone_row = get_or-set_same system.rows i empty_system_row empty_system_row here

  pub other_row : (r : ℕ) → r ≢ i → row_in (without_row i system) r ≡ row_in system r
  other_row r h = get_or-set_other system.rows i r empty_system_row empty_system_row h

  -- at any other variable the same form and limits
  form_same : (v : ℕ) → v < variables system → v ≢ length system.columns + i → variable_form (without_row i system) v ≡ variable_form system v
  form_same =
      variable_cases (length system.columns) (length system.rows) (λ v. v ≢ length system.columns + i → variable_form (without_row i system) v ≡ variable_form system v)
      (λ j l h. column_form_at (without_row i system) (length system.columns) refl j l ∙ sym (column_form_at system (length system.columns) refl j l))
      (λ r l h. row_form_at (without_row i system) (length system.columns) refl r ∙ ap (λ z. z.terms) (other_row r (λ e. h (ap (λ z. length system.columns + z) e))) ∙ sym (row_form_at system (length system.columns) refl r))

  limits_same : (v : ℕ) → v < variables system → v ≢ length system.columns + i → variable_limits (without_row i system) v ≡ variable_limits system v
  limits_same =
      variable_cases (length system.columns) (length system.rows) (λ v. v ≢ length system.columns + i → variable_limits (without_row i system) v ≡ variable_limits system v)
      (λ j l h. column_limits_at (without_row i system) (length system.columns) refl j l ∙ sym (column_limits_at system (length system.columns) refl j l))
      (λ r l h. row_limits_at (without_row i system) (length system.columns) refl r ∙ ap (λ z. z.limits) (other_row r (λ e. h (ap (λ z. length system.columns + z) e))) ∙ sym (row_limits_at system (length system.columns) refl r))

  row_unlimited : (side : Side) → limit_on (variable_limits (without_row i system) (length system.columns + i)) side ≡ None
  row_unlimited Lo = ap (λ z. z.lower) (row_limits_at (without_row i system) (length system.columns) refl i) ∙ ap (λ z. z.limits.lower) gone_row
  row_unlimited Up = ap (λ z. z.upper) (row_limits_at (without_row i system) (length system.columns) refl i) ∙ ap (λ z. z.limits.upper) gone_row

  -- nothing else changes
  pub removed_laws : IsAsLarge system (without_row i system) → WeightLaws system (without_row i system) (λ w. w)
  removed_laws large = record {
    weights = λ w h. record {
      nonnegative = h.nonnegative;
      known = λ side v some. known_before system (without_row i system) large w h side v some;
      there = λ side v some. by w h side v some (cases_eq v (length system.columns + i));
    };
    balance_is = λ w h k. balance_from system (without_row i system) large w w k
        (same_sum (variables system) w (factor_at system k) (factor_at (without_row i system) k) (λ v l side. same w h (factor_at system k) (factor_at (without_row i system) k) side v (λ n. ap (λ f. factor_of f k) (sym (form_same v l n))) (cases_eq v (length system.columns + i))));
    right_is = λ w h. right_from system (without_row i system) large w w
        (same_sum (variables system) w (limit_at system) (limit_at (without_row i system)) (λ v l side. same w h (limit_at system) (limit_at (without_row i system)) side v (λ n. ap (λ z. number_or_zero (limit_on z side)) (sym (limits_same v l n))) (cases_eq v (length system.columns + i))));
  }
    where
      none : (w : Weights) → AreWeightsOf (without_row i system) w → (side : Side) (v : ℕ) → v ≡ length system.columns + i → w side v ≡ zero_ℚ
      none w h side v e = ap (w side) e ∙ nothing_there (without_row i system) w h side (length system.columns + i) (row_unlimited side)

      by : (w : Weights) → AreWeightsOf (without_row i system) w → (side : Side) (v : ℕ) → w side v ≢ zero_ℚ → (v ≡ length system.columns + i) ⊎ (v ≢ length system.columns + i) → IsSome (limit_on (variable_limits system v) side)
      by w h side v some (inl e) = absurd (some (none w h side v e))
      by w h side v some (inr n) = subst (λ z. IsSome (limit_on z side)) (limits_same v (known_before system (without_row i system) large w h side v some) n) (h.there side v some)

      same : (w : Weights) → AreWeightsOf (without_row i system) w → (gb ga : Side → ℕ → ℚ) (side : Side) (v : ℕ) → (v ≢ length system.columns + i → gb side v ≡ ga side v)
          → (v ≡ length system.columns + i) ⊎ (v ≢ length system.columns + i) → w side v *ℚ gb side v ≡ w side v *ℚ ga side v
      same w h gb ga side v k (inl e) =
          ap (λ z. z *ℚ gb side v) (none w h side v e) ∙ ring_ℚ (gb side v ∷ []) (zero_of :* x0) zero_of tt ∙ ring_ℚ (ga side v ∷ []) zero_of (zero_of :* x0) tt ∙ ap (λ z. z *ℚ ga side v) (sym (none w h side v e))
      same w h gb ga side v k (inr n) = ap (λ z. w side v *ℚ z) (k n)

-- ---- limits that are made
pub made_side : (lower upper : Option Side) (side : Side) (l u : ℚ) → by_maker lower upper side l u ≢ zero_ℚ → (lower ≡ Some side) ⊎ (upper ≡ Some side)
made_side lower upper side l u some = by (is_made lower side) (is_made upper side) refl refl some
  where
    is : (o : Option Side) (side : Side) → is_made o side ≡ true → o ≡ Some side
    is None side e = absurd (true≢false (sym e))
    is (Some made) side e = ap (λ z. Some z) (side_same made side e)

    by : (a b : Bool) → is_made lower side ≡ a → is_made upper side ≡ b → cond a l (cond b u zero_ℚ) ≢ zero_ℚ → (lower ≡ Some side) ⊎ (upper ≡ Some side)
    by true b e f h = inl (is lower side e)
    by false true e f h = inr (is upper side f)
    by false false e f h = absurd (h refl)

pub unmade : (o : Option Side) (q : ℚ) → unless_made o q ≢ zero_ℚ → (o ≡ None) × (q ≢ zero_ℚ)
unmade None q h = (refl, h)
unmade (Some side) q h = absurd (h refl)

-- a number that limits more is there
pub tighter_there : (side : Side) (old new : Option ℚ) → is_tighter side old new ≡ true → IsSome new
tighter_there Lo old None e = absurd (true≢false (sym e))
tighter_there Up old None e = absurd (true≢false (sym e))
tighter_there Lo old (Some q) e = refl
tighter_there Up old (Some q) e = refl

pub tightened_on : (new : Side → Option ℚ) (limits : Limits) (side : Side) → limit_on (tightened_by new limits) side ≡ tightened side (limit_on limits side) (new side)
tightened_on new limits Lo = refl
tightened_on new limits Up = refl

pub mapped_there : (f : ℚ → ℚ) (o : Option ℚ) → IsSome (option_map f o) → IsSome o
mapped_there f None e = e
mapped_there f (Some q) e = refl

same_side : (a b : Side) → ◌≡◌ {A = Option Side} (Some a) (Some b) → a ≡ b
same_side a b e = cc

-- ---- a row of one column
module _ (system : LinearSystem) (i : ℕ) (t : Term) (here : i < length system.rows) (terms_are : (row_in system i).terms ≡ t ∷ []) (known : t.column < length system.columns) (some : t.factor ≢ zero_ℚ) where
  abbrev n : ℕ
  n = length system.columns

  abbrev c : ℕ
  c = t.column

  abbrev sides : Limits
  sides = (row_in system i).limits

  abbrev old : Limits
  old = limits_in system t.column

  abbrev new : Side → Option ℚ
  new = single_limit sides t.factor

  abbrev s : Single
  s = record { row = i; column = t.column; factor = t.factor; lower = single_maker old sides t.factor Lo; upper = single_maker old sides t.factor Up }

  abbrev other : LinearSystem
  other = reduced_by (Singleton s) system

  columns_same : length other.columns ≡ n → (j : ℕ) → j < n → j ≢ c → variable_limits other j ≡ variable_limits system j
  columns_same e j l h = column_limits_at other n e j l ∙ get_or-set_other system.columns c j _ no_limits h ∙ sym (column_limits_at system n refl j l)

  column_is : length other.columns ≡ n → variable_limits other c ≡ tightened_by new old
  column_is e = column_limits_at other n e c known ∙ get_or-set_same system.columns c _ no_limits known

  limits_kept : length other.columns ≡ n → (v : ℕ) → v < variables system → v ≢ n + i → v ≢ c → variable_limits system v ≡ variable_limits other v
  limits_kept e =
      variable_cases n (length system.rows) (λ v. v ≢ n + i → v ≢ c → variable_limits system v ≡ variable_limits other v)
      (λ j l h k. sym (columns_same e j l k))
      (λ r l h k. row_limits_at system n refl r ∙ ap (λ z. z.limits) (sym (other_row system i here r (λ q. h (ap (λ z. n + z) q)))) ∙ sym (row_limits_at other n e r))

  form_kept : length other.columns ≡ n → (v : ℕ) → v < variables system → v ≢ n + i → variable_form system v ≡ variable_form other v
  form_kept e =
      variable_cases n (length system.rows) (λ v. v ≢ n + i → variable_form system v ≡ variable_form other v)
      (λ j l h. column_form_at system n refl j l ∙ sym (column_form_at other n e j l))
      (λ r l h. row_form_at system n refl r ∙ ap (λ z. z.terms) (sym (other_row system i here r (λ q. h (ap (λ z. n + z) q)))) ∙ sym (row_form_at other n e r))

  apart : n + i ≢ c
  apart e = let l : c < n = known in omega arith

  row_below : n + i < variables system
  row_below = let l : i < length system.rows = here in omega arith

  column_below : c < variables system
  column_below = let l : c < n = known in omega arith

  unit_times : (b : Bool) → cond b t.factor zero_ℚ +ℚ zero_ℚ ≡ t.factor *ℚ (cond b one_ℚ zero_ℚ +ℚ zero_ℚ)
  unit_times true = ring_ℚ (t.factor ∷ []) (x0 :+ zero_of) (x0 :* (unit_of :+ zero_of)) tt
  unit_times false = ring_ℚ (t.factor ∷ []) (zero_of :+ zero_of) (x0 :* (zero_of :+ zero_of)) tt

  module _ (large : IsAsLarge system other) (w : Weights) where
    factor_made : (k : ℕ) (side : Side) → IsSingleMade n (variables system) s w (factor_at system k) (factor_at other k) (single_maker old sides t.factor side) side
    factor_made k side = by (is_tighter side (limit_on old side) (new side))
      where
        by : (b : Bool) → IsSingleMade n (variables system) s w (factor_at system k) (factor_at other k) (cond b (Some (turned t.factor side)) None) side
        by true = (
          refl,
          ap (λ f. factor_of f k) (row_form_at system n refl i ∙ terms_are) ∙ unit_times (t.column == k) ∙ ap (λ f. t.factor *ℚ factor_of f k) (sym (column_form_at other n large.columns c known)),
        )
        by false = ap (λ f. factor_of f k) (column_form_at system n refl c known ∙ sym (column_form_at other n large.columns c known))

    times_factor : (o : Option ℚ) → number_or_zero o ≡ t.factor *ℚ number_or_zero (option_map (λ q. q /ℚ t.factor) o)
    times_factor None = sym (times_nothing t.factor)
    times_factor (Some q) = sym (quotient_times q t.factor some)

    limit_made : (side : Side) → IsSingleMade n (variables system) s w (limit_at system) (limit_at other) (single_maker old sides t.factor side) side
    limit_made side = by (is_tighter side (limit_on old side) (new side)) (ap number_or_zero (ap (λ z. limit_on z side) (column_is large.columns) ∙ tightened_on new old side))
      where
        by : (b : Bool) → limit_at other side c ≡ number_or_zero (cond b (new side) (limit_on old side)) → IsSingleMade n (variables system) s w (limit_at system) (limit_at other) (cond b (Some (turned t.factor side)) None) side
        by true e = (
          refl,
          ap (λ z. number_or_zero (limit_on z (turned t.factor side))) (row_limits_at system n refl i) ∙ times_factor (limit_on sides (turned t.factor side)) ∙ ap (λ z. t.factor *ℚ z) (sym e),
        )
        by false e = ap (λ z. number_or_zero (limit_on z side)) (column_limits_at system n refl c known) ∙ sym e

    row_form_gone : (k : ℕ) (side : Side) → factor_at other k side (n + i) ≡ zero_ℚ
    row_form_gone k side = ap (λ f. factor_of f k) (row_form_at other n large.columns i ∙ ap (λ z. z.terms) (gone_row system i here))

    row_limit_gone : (side : Side) → limit_at other side (n + i) ≡ zero_ℚ
    row_limit_gone Lo = ap (λ z. number_or_zero z.lower) (row_limits_at other n large.columns i) ∙ ap (λ z. number_or_zero z.limits.lower) (gone_row system i here)
    row_limit_gone Up = ap (λ z. number_or_zero z.upper) (row_limits_at other n large.columns i) ∙ ap (λ z. number_or_zero z.limits.upper) (gone_row system i here)

    module _ (h : AreWeightsOf other w) where
      abbrev b : Weights
      b = single_before n s w

      at_row : (side : Side) → b side (n + i) ≡ by_maker s.lower s.upper side (w Lo c /ℚ magnitude t.factor) (w Up c /ℚ magnitude t.factor)
      at_row side = cond-true (n + i == n + i) _ _ (eq-eqb (n + i) (n + i) refl)

      at_column : (side : Side) → b side c ≡ unless_made (maker s.lower s.upper side) (w side c)
      at_column side = cond-false (c == n + i) _ _ (ne_eqb c (n + i) (λ q. apart (sym q))) ∙ cond-true (c == c) _ _ (eq-eqb c c refl)

      kept : (v : ℕ) → v ≢ n + i → v ≢ c → (side : Side) → b side v ≡ w side v
      kept v e f side = cond-false (v == n + i) _ _ (ne_eqb v (n + i) e) ∙ cond-false (v == c) _ _ (ne_eqb v c f)

      -- what holds at the row, at the column and at all others holds everywhere
      places : (P : ℕ → ℚ → Type 0) (side : Side) → P (n + i) (by_maker s.lower s.upper side (w Lo c /ℚ magnitude t.factor) (w Up c /ℚ magnitude t.factor)) → P c (unless_made (maker s.lower s.upper side) (w side c))
          → ((v : ℕ) → v ≢ n + i → v ≢ c → P v (w side v)) → (v : ℕ) → P v (b side v)
      places P side p q o v =
          elim (cases_eq v (n + i)) [
            | inl e ↦ subst (λ z. P z (b side z)) (sym e) (subst (λ z. P (n + i) z) (sym (at_row side)) p)
            | inr e ↦ elim (cases_eq v c) [
              | inl f ↦ subst (λ z. P z (b side z)) (sym f) (subst (λ z. P c z) (sym (at_column side)) q)
              | inr f ↦ subst (λ z. P v z) (sym (kept v e f side)) (o v e f)
            ]
          ]

      maker_there : (side kind : Side) → single_maker old sides t.factor kind ≡ Some side → IsSome (limit_on sides side)
      maker_there side kind e = by (is_tighter kind (limit_on old kind) (new kind)) refl e
        where
          by : (a : Bool) → is_tighter kind (limit_on old kind) (new kind) ≡ a → cond a (Some (turned t.factor kind)) None ≡ Some side → IsSome (limit_on sides side)
          by true q e = subst (λ z. IsSome (limit_on sides z)) (same_side (turned t.factor kind) side e) (mapped_there (λ z. z /ℚ t.factor) (limit_on sides (turned t.factor kind)) (tighter_there kind (limit_on old kind) (new kind) q))
          by false q e = absurd (let z : ◌≡◌ {A = Option Side} None (Some side) = e in cc)

      made_there : (side : Side) → (s.lower ≡ Some side) ⊎ (s.upper ≡ Some side) → IsSome (limit_on sides side)
      made_there side (inl e) = maker_there side Lo e
      made_there side (inr e) = maker_there side Up e

      unmade_there : (side : Side) → single_maker old sides t.factor side ≡ None → IsSome (limit_on (tightened_by new old) side) → IsSome (limit_on old side)
      unmade_there side e there = by (is_tighter side (limit_on old side) (new side)) e (subst IsSome (tightened_on new old side) there)
        where
          by : (a : Bool) → cond a (Some (turned t.factor side)) None ≡ None → IsSome (cond a (new side) (limit_on old side)) → IsSome (limit_on old side)
          by true e k = absurd (let z : ◌≡◌ {A = Option Side} (Some (turned t.factor side)) None = e in cc)
          by false e k = k

      maker_is : (side : Side) → maker s.lower s.upper side ≡ single_maker old sides t.factor side
      maker_is Lo = refl
      maker_is Up = refl

      single_weights : AreWeightsOf system b
      single_weights = record {
        nonnegative = λ side. places (λ v q. zero_ℚ ≤ℚ q) side
            (by_maker_nonnegative s.lower s.upper side _ _ (over_nonnegative (w Lo c) t.factor some (h.nonnegative Lo c)) (over_nonnegative (w Up c) t.factor some (h.nonnegative Up c)))
            (unless_nonnegative (maker s.lower s.upper side) (w side c) (h.nonnegative side c)) (λ v e f. h.nonnegative side v);
        known = λ side. places (λ v q. q ≢ zero_ℚ → v < variables system) side (λ z. row_below) (λ z. column_below) (λ v e f z. known_before system other large w h side v z);
        there = λ side. places (λ v q. q ≢ zero_ℚ → IsSome (limit_on (variable_limits system v) side)) side
            (λ z. subst (λ l. IsSome (limit_on l side)) (sym (row_limits_at system n refl i)) (made_there side (made_side s.lower s.upper side _ _ z)))
            (λ z. let parts = unmade (maker s.lower s.upper side) (w side c) z in
            subst (λ l. IsSome (limit_on l side)) (sym (column_limits_at system n refl c known))
            (unmade_there side (sym (maker_is side) ∙ parts.0) (subst (λ l. IsSome (limit_on l side)) (column_is large.columns) (h.there side c parts.1))))
            (λ v e f z. subst (λ l. IsSome (limit_on l side)) (sym (limits_kept large.columns v (known_before system other large w h side v z) e f)) (h.there side v z));
      }

  pub single_laws : IsAsLarge system other → WeightLaws system other (single_before n s)
  single_laws large = record {
    weights = λ w h. single_weights large w h;
    balance_is = λ w h k. balance_from system other large (single_before n s w) w k
        (single_sum n (variables system) s w (factor_at system k) (factor_at other k) row_below column_below apart some
        (λ v l e f side. ap (λ z. factor_of z k) (form_kept large.columns v l e)) (row_form_gone large w k) (factor_made large w k Lo) (factor_made large w k Up));
    right_is = λ w h. right_from system other large (single_before n s w) w
        (single_sum n (variables system) s w (limit_at system) (limit_at other) row_below column_below apart some
        (λ v l e f side. ap (λ z. number_or_zero (limit_on z side)) (limits_kept large.columns v l e f)) (row_limit_gone large w) (limit_made large w Lo) (limit_made large w Up));
  }
