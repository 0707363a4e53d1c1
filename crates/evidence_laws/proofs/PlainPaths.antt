-- Where the run of a set's plain system settles, the point keeps the path.
use Rattle.std.proofs.Common.{◌≡◌, refl, sym, ◌∙◌, ap, subst, arith, ℕ, Bool, true, false, true≢false, cond, not, ◌&&◌, ◌==◌, List, [], ◌∷◌, get_or, Option, None, Some, option_map, int_lt, eq-eqb}
use Rattle.std.specs.Prelude.{All, IfSome}
use Rattle.std.proofs.lemmas.Bool.{and_from}
use Rattle.std.proofs.lemmas.Int.{ints}
use Rattle.std.proofs.lemmas.List.Elements.{All-nil, All-cons}
use lib.IntN.{ℤ}
use lib.Signed.{◌≤ℤ◌}
use Rattle.rational.specs.Rational.{ℚ, whole, ◌≤ℚ◌}
use Rattle.rational.specs.Linear.{Assignment}
use Rattle.rational.proofs.Order.{le-fracs, le_trans_ℚ, lt_q-false}
use Rattle.rational.proofs.Whole.{whole-is}
use Rattle.lp_model.specs.declared.members.Member.{Member}
use Rattle.lp_model.specs.declared.members.Member.TheVariants.{Lower, Upper}
use Rattle.lp_model.specs.Program.{Program}
use Rattle.lp_model.specs.Satisfaction.{IsAtLeast, IsAtMost, values_at}
use Rattle.certs.specs.declared.evidence.Branch.{Branch}
use Rattle.certs.specs.declared.evidence.Source.TheVariants.{Member as Of, Below, Above}
use Rattle.certs.specs.Combination.{lesser, greater, least_upper, greatest_lower, source_number}
use Rattle.certs.specs.Tableau.{value_of}
use Rattle.certs.specs.Ended.{IsWithin}
use Rattle.certs.specs.Plain.{column_limits, is_lowered, is_raised, limit_number, number_in}
use Rattle.certs.specs.PlainLaws.{PlainPathLaw}
use Rattle.certs.proofs.PlainPoints.{at_least, at_most, column_within, end_same, end_solution}

-- ---- whole numbers
whole-le : (a b : ℤ) → a ≤ℤ b → whole a ≤ℚ whole b
whole-le a b h = (le-fracs (whole-is a) (whole-is b)).1 (omega (arith, ints))

-- what is at most the lesser of two is at most each of them
under_both : (v : ℚ) (a : ℤ) (o : Option ℤ) → v ≤ℚ whole (lesser a o) → (v ≤ℚ whole a) × IsAtMost (option_map whole o) v
under_both v a None h = (h, tt)
under_both v a (Some b) h = by (int_lt b a) refl h
  where
    by : (t : Bool) → int_lt b a ≡ t → v ≤ℚ whole (cond t b a) → (v ≤ℚ whole a) × (v ≤ℚ whole b)
    by true e h = (le_trans_ℚ h (whole-le b a (omega (arith, ints))), h)
    by false e h = (h, le_trans_ℚ h (whole-le a b (omega (arith, ints))))

over_both : (v : ℚ) (a : ℤ) (o : Option ℤ) → whole (greater a o) ≤ℚ v → (whole a ≤ℚ v) × IsAtLeast (option_map whole o) v
over_both v a None h = (h, tt)
over_both v a (Some b) h = by (int_lt a b) refl h
  where
    by : (t : Bool) → int_lt a b ≡ t → whole (cond t b a) ≤ℚ v → (whole a ≤ℚ v) × (whole b ≤ℚ v)
    by true e h = (le_trans_ℚ (whole-le a b (omega (arith, ints))) h, h)
    by false e h = (h, le_trans_ℚ (whole-le b a (omega (arith, ints))) h)

-- ---- the branches on a column
module _ (j : ℕ) (v : ℚ) where
  -- what an upper branch asks of the column's value, and what a lower one does
  abbrev pub IsUnder : Branch → Type 0
  IsUnder b = b.column ≡ j → b.upper ≡ true → v ≤ℚ whole b.at

  abbrev pub IsOver : Branch → Type 0
  IsOver b = b.column ≡ j → b.upper ≡ false → whole b.at ≤ℚ v

  pub all_under : (path : List Branch) → IsAtMost (option_map whole (least_upper path j)) v → All IsUnder path
  all_under [] h = All-nil IsUnder
  all_under (b ∷ path) h = by (all_under path) ((b.column == j) && b.upper) refl h
    where
      by : (IsAtMost (option_map whole (least_upper path j)) v → All IsUnder path) → (t : Bool) → ((b.column == j) && b.upper) ≡ t → IsAtMost (option_map whole (cond t (Some (lesser b.at (least_upper path j))) (least_upper path j))) v → All IsUnder (b ∷ path)
      by rest true e h =
          let both = under_both v b.at (least_upper path j) h in
          All-cons IsUnder b path (λ c u. both.0) (rest both.1)
      by rest false e h = All-cons IsUnder b path (λ c u. absurd (true≢false (sym (and_from (b.column == j) b.upper (eq-eqb b.column j c) u) ∙ e))) (rest h)

  pub all_over : (path : List Branch) → IsAtLeast (option_map whole (greatest_lower path j)) v → All IsOver path
  all_over [] h = All-nil IsOver
  all_over (b ∷ path) h = by (all_over path) ((b.column == j) && not b.upper) refl h
    where
      by : (IsAtLeast (option_map whole (greatest_lower path j)) v → All IsOver path) → (t : Bool) → ((b.column == j) && not b.upper) ≡ t → IsAtLeast (option_map whole (cond t (Some (greater b.at (greatest_lower path j))) (greatest_lower path j))) v → All IsOver (b ∷ path)
      by rest true e h =
          let both = over_both v b.at (greatest_lower path j) h in
          All-cons IsOver b path (λ c u. both.0) (rest both.1)
      by rest false e h = All-cons IsOver b path (λ c u. absurd (true≢false (sym (and_from (b.column == j) (not b.upper) (eq-eqb b.column j c) (ap not u)) ∙ e))) (rest h)

-- ---- limits that are kept
-- a number of the path that does not raise the bound is kept where the bound is
not_raised : (bound path : Option ℚ) (v : ℚ) → is_raised bound path ≡ false → IfSome bound (λ l. l ≤ℚ v) → IsAtLeast path v
not_raised bound None v e h = tt
not_raised None (Some p) v e h = absurd (true≢false e)
not_raised (Some b) (Some p) v e h = le_trans_ℚ (lt_q-false b p e) h

not_lowered : (bound path : Option ℚ) (v : ℚ) → is_lowered bound path ≡ false → IfSome bound (λ u. v ≤ℚ u) → IsAtMost path v
not_lowered bound None v e h = tt
not_lowered None (Some p) v e h = absurd (true≢false e)
not_lowered (Some b) (Some p) v e h = le_trans_ℚ h (lt_q-false p b e)

module _ (model : Program) (set : List Member) (path : List Branch) (j : ℕ) (v : ℚ) (within : IsWithin (column_limits model set path j) v) where
  lower_by : (t : Bool) → is_raised (number_in model set (Lower j)) (source_number model path (Above j)) ≡ t
      → IfSome (limit_number model set path (cond t (Above j) (Of (Lower j)))) (λ l. l ≤ℚ v) → IsAtLeast (source_number model path (Above j)) v
  lower_by true e h = at_least (source_number model path (Above j)) v h
  lower_by false e h = not_raised (number_in model set (Lower j)) (source_number model path (Above j)) v e h

  upper_by : (t : Bool) → is_lowered (number_in model set (Upper j)) (source_number model path (Below j)) ≡ t
      → IfSome (limit_number model set path (cond t (Below j) (Of (Upper j)))) (λ u. v ≤ℚ u) → IsAtMost (source_number model path (Below j)) v
  upper_by true e h = at_most (source_number model path (Below j)) v h
  upper_by false e h = not_lowered (number_in model set (Upper j)) (source_number model path (Below j)) v e h

  pub path_under : IsAtMost (source_number model path (Below j)) v
  path_under = upper_by (is_lowered (number_in model set (Upper j)) (source_number model path (Below j))) refl within.upper

  pub path_over : IsAtLeast (source_number model path (Above j)) v
  path_over = lower_by (is_raised (number_in model set (Lower j)) (source_number model path (Above j))) refl within.lower

-- ---- the law
pub plain_path : PlainPathLaw
plain_path model set path pivots values formed known s k d l =
    let b : Branch = get_or path k d in
    let v : ℚ = values_at values b.column in
    let x : Assignment = value_of s.here.tableau in
    let within : IsWithin (column_limits model set path b.column) v =
    subst (IsWithin (column_limits model set path b.column)) (sym (end_same model set path pivots values formed s b.column (known k d l)))
    (column_within model set path x (values_at values) formed (end_solution model set path pivots values formed s) (end_same model set path pivots values formed s) b.column (known k d l)) in
    kept b.upper refl
    (all_under b.column v path (path_under model set path b.column v within) k d l refl)
    (all_over b.column v path (path_over model set path b.column v within) k d l refl)
  where
    kept : (b : Bool) → (get_or path k d).upper ≡ b → ((get_or path k d).upper ≡ true → values_at values (get_or path k d).column ≤ℚ whole (get_or path k d).at)
        → ((get_or path k d).upper ≡ false → whole (get_or path k d).at ≤ℚ values_at values (get_or path k d).column)
        → cond b (values_at values (get_or path k d).column ≤ℚ whole (get_or path k d).at) (whole (get_or path k d).at ≤ℚ values_at values (get_or path k d).column)
    kept true e under over = under e
    kept false e under over = over e
