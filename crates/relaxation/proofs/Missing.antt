-- By how much one member is missed, and its row with an elastic variable.
use Rattle.std.proofs.Common.{◌≡◌, refl, sym, ◌∙◌, ap, subst, ℕ, Bool, true, false, cond, [], ◌∷◌, ◌++◌, Option, None, Some}
use Rattle.std.specs.Prelude.{All, IfSome}
use Rattle.std.proofs.lemmas.List.Elements.{All-cons, All-head, All-nil}
use Rattle.algebra.proofs.Ring.{x0, x1, x2, x3, ◌:+◌, ◌:-◌, ◌:*◌, minus, unit_of, zero_of}
use Rattle.rational.specs.Rational.{ℚ, ◌+ℚ◌, ◌-ℚ◌, ◌*ℚ◌, zero_ℚ, lt_q, ◌≤ℚ◌}
use Rattle.rational.specs.Linear.{Term, Assignment, form_value}
use Rattle.rational.proofs.Field.{ring_ℚ}
use Rattle.rational.proofs.Order.{le_by, le_of_lt_ℚ, le_refl_ℚ, lt-le_clash_ℚ, lt_q-false, lt_q-true, nonneg-add, nonneg_of_le}
use Rattle.rational.proofs.Sums.{sum_over-append}
use Rattle.lp_model.specs.declared.members.Member.{Member}
use Rattle.lp_model.specs.declared.members.Member.TheVariants.{RowLo, RowUp, Lower, Upper, Whole}
use Rattle.lp_model.specs.declared.members.Side.{Side}
use Rattle.lp_model.specs.declared.members.Side.TheVariants.{Lo, Up}
use Rattle.lp_model.specs.Program.{Program}
use Rattle.lp_model.specs.Members.{form, is_mark, number, side, value}
use Rattle.lp_model.specs.Satisfaction.{Holds, IsAtLeast, IsAtMost}
use Rattle.lp_model.proofs.Points.{value_law}
use Rattle.certs.specs.Elastic.{elastic_factor, elastic_row, only_on}
use Rattle.certs.specs.Ended.{IsWithin}
use Rattle.certs.specs.Violation.{larger, missed_by, overrun, shortfall, violation}
use Rattle.relaxation.proofs.Solved.{Keeps}

-- ---- the larger of two
larger_left : (a b : ℚ) → a ≤ℚ larger a b
larger_left a b = by (lt_q a b) refl
  where
    by : (t : Bool) → lt_q a b ≡ t → a ≤ℚ cond t b a
    by true e = le_of_lt_ℚ (lt_q-true a b e)
    by false e = le_refl_ℚ a

larger_right : (a b : ℚ) → b ≤ℚ larger a b
larger_right a b = by (lt_q a b) refl
  where
    by : (t : Bool) → lt_q a b ≡ t → b ≤ℚ cond t b a
    by true e = le_refl_ℚ b
    by false e = lt_q-false a b e

larger_least : (a b c : ℚ) → a ≤ℚ c → b ≤ℚ c → larger a b ≤ℚ c
larger_least a b c h k = by (lt_q a b)
  where
    by : (t : Bool) → cond t b a ≤ℚ c
    by true = k
    by false = h

larger_first : (a b : ℚ) → b ≤ℚ a → larger a b ≡ a
larger_first a b h = by (lt_q a b) refl
  where
    by : (t : Bool) → lt_q a b ≡ t → cond t b a ≡ a
    by true e = lt-le_clash_ℚ (lt_q-true a b e) h
    by false e = refl

missed_nonneg : (s : Side) (o : Option ℚ) (v : ℚ) → zero_ℚ ≤ℚ missed_by s o v
missed_nonneg Lo None v = le_refl_ℚ zero_ℚ
missed_nonneg Up None v = le_refl_ℚ zero_ℚ
missed_nonneg Lo (Some b) v = larger_left zero_ℚ (b -ℚ v)
missed_nonneg Up (Some b) v = larger_left zero_ℚ (v -ℚ b)

pub violation_nonneg : (model : Program) (x : Assignment) (m : Member) → zero_ℚ ≤ℚ violation model x m
violation_nonneg model x m = missed_nonneg (side m) (number model m) (value model m x)

-- ---- a member holds just where it is missed by nothing
reached_least : (o : Option ℚ) (v : ℚ) → IsAtLeast o v → shortfall o v ≡ zero_ℚ
reached_least None v h = refl
reached_least (Some b) v h = larger_first zero_ℚ (b -ℚ v) (le_by (b ∷ v ∷ []) (x0 :- x1) zero_of (x1 :- x0) (nonneg_of_le h) tt)

reached_most : (o : Option ℚ) (v : ℚ) → IsAtMost o v → overrun o v ≡ zero_ℚ
reached_most None v h = refl
reached_most (Some b) v h = larger_first zero_ℚ (v -ℚ b) (le_by (b ∷ v ∷ []) (x1 :- x0) zero_of (x0 :- x1) (nonneg_of_le h) tt)

pub holds_unmissed : (model : Program) (x : Assignment) (m : Member) → Holds model x m → violation model x m ≡ zero_ℚ
holds_unmissed model x (RowLo i) h = reached_least (number model (RowLo i)) (value model (RowLo i) x) h
holds_unmissed model x (RowUp i) h = reached_most (number model (RowUp i)) (value model (RowUp i) x) h
holds_unmissed model x (Lower j) h = reached_least (number model (Lower j)) (x j) h
holds_unmissed model x (Upper j) h = reached_most (number model (Upper j)) (x j) h
holds_unmissed model x (Whole j) h = refl

least_reached : (o : Option ℚ) (v : ℚ) → shortfall o v ≤ℚ zero_ℚ → IsAtLeast o v
least_reached None v h = tt
least_reached (Some b) v h = le_by (b ∷ v ∷ larger zero_ℚ (b -ℚ v) ∷ []) x0 x1 ((zero_of :- x2) :+ (x2 :- (x0 :- x1))) (nonneg-add (nonneg_of_le h) (nonneg_of_le (larger_right zero_ℚ (b -ℚ v)))) tt

most_reached : (o : Option ℚ) (v : ℚ) → overrun o v ≤ℚ zero_ℚ → IsAtMost o v
most_reached None v h = tt
most_reached (Some b) v h = le_by (b ∷ v ∷ larger zero_ℚ (v -ℚ b) ∷ []) x1 x0 ((zero_of :- x2) :+ (x2 :- (x1 :- x0))) (nonneg-add (nonneg_of_le h) (nonneg_of_le (larger_right zero_ℚ (v -ℚ b)))) tt

pub unmissed_holds : (model : Program) (x : Assignment) (m : Member) → is_mark m ≡ false → violation model x m ≤ℚ zero_ℚ → Holds model x m
unmissed_holds model x (RowLo i) e h = least_reached (number model (RowLo i)) (value model (RowLo i) x) h
unmissed_holds model x (RowUp i) e h = most_reached (number model (RowUp i)) (value model (RowUp i) x) h
unmissed_holds model x (Lower j) e h = least_reached (number model (Lower j)) (x j) h
unmissed_holds model x (Upper j) e h = most_reached (number model (Upper j)) (x j) h
unmissed_holds model x (Whole j) e h = absurd (let f : true ≡ false = e in cc)

-- ---- its row with the elastic variable
relaxed : (s : Side) (o : Option ℚ) (v q : ℚ) → missed_by s o v ≤ℚ q → IfSome o (λ b. IsWithin (only_on s b) (v +ℚ elastic_factor s *ℚ q))
relaxed Lo None v q h = tt
relaxed Up None v q h = tt
relaxed Lo (Some b) v q h = record {
  lower = le_by (b ∷ v ∷ q ∷ larger zero_ℚ (b -ℚ v) ∷ []) x0 (x1 :+ unit_of :* x2) ((x2 :- x3) :+ (x3 :- (x0 :- x1))) (nonneg-add (nonneg_of_le h) (nonneg_of_le (larger_right zero_ℚ (b -ℚ v)))) tt;
  upper = tt;
}
relaxed Up (Some b) v q h = record {
  lower = tt;
  upper = le_by (b ∷ v ∷ q ∷ larger zero_ℚ (v -ℚ b) ∷ []) (x1 :+ minus unit_of :* x2) x0 ((x2 :- x3) :+ (x3 :- (x1 :- x0))) (nonneg-add (nonneg_of_le h) (nonneg_of_le (larger_right zero_ℚ (v -ℚ b)))) tt;
}

least_part : (s : Side) (o : Option ℚ) (v q : ℚ) → zero_ℚ ≤ℚ q → IfSome o (λ b. IsWithin (only_on s b) (v +ℚ elastic_factor s *ℚ q)) → missed_by s o v ≤ℚ q
least_part Lo None v q h k = h
least_part Up None v q h k = h
least_part Lo (Some b) v q h k =
    larger_least zero_ℚ (b -ℚ v) q h (le_by (b ∷ v ∷ q ∷ []) (x0 :- x1) x2 ((x1 :+ unit_of :* x2) :- x0) (nonneg_of_le k.lower) tt)
least_part Up (Some b) v q h k =
    larger_least zero_ℚ (v -ℚ b) q h (le_by (b ∷ v ∷ q ∷ []) (x1 :- x0) x2 (x0 :- (x1 :+ minus unit_of :* x2)) (nonneg_of_le k.upper) tt)

module _ (model : Program) (x : Assignment) (k : ℕ) (m : Member) where
  abbrev row_value : ℚ
  row_value = value model m x +ℚ elastic_factor (side m) *ℚ x k

  row_is : form_value (form model m ++ record { column = k; factor = elastic_factor (side m) } ∷ []) x ≡ row_value
  row_is =
      sum_over-append (λ (t : Term). t.factor *ℚ x t.column) (form model m) (record { column = k; factor = elastic_factor (side m) } ∷ [])
      ∙ ap (λ z. z +ℚ (elastic_factor (side m) *ℚ x k +ℚ zero_ℚ)) (sym (value_law model m x))
      ∙ ring_ℚ (value model m x ∷ (elastic_factor (side m) *ℚ x k) ∷ []) (x0 :+ (x1 :+ zero_of)) (x0 :+ x1) tt

  to_row : (o : Option ℚ) → IfSome o (λ b. IsWithin (only_on (side m) b) row_value) → All (Keeps x) (elastic_row model (k, m) o)
  to_row None h = All-nil (Keeps x)
  to_row (Some b) h = All-cons (Keeps x) _ [] (subst (IsWithin (only_on (side m) b)) (sym row_is) h) (All-nil (Keeps x))

  from_row : (o : Option ℚ) → All (Keeps x) (elastic_row model (k, m) o) → IfSome o (λ b. IsWithin (only_on (side m) b) row_value)
  from_row None h = tt
  from_row (Some b) h = subst (IsWithin (only_on (side m) b)) row_is (All-head (Keeps x) _ [] h)

  -- it is kept where the variable is no less than what the member is missed by
  pub row_kept : violation model x m ≤ℚ x k → All (Keeps x) (elastic_row model (k, m) (number model m))
  row_kept h = to_row (number model m) (relaxed (side m) (number model m) (value model m x) (x k) h)

  -- and where it is kept the variable is
  pub row_missed : zero_ℚ ≤ℚ x k → All (Keeps x) (elastic_row model (k, m) (number model m)) → violation model x m ≤ℚ x k
  row_missed h kept = least_part (side m) (number model m) (value model m x) (x k) h (from_row (number model m) kept)
