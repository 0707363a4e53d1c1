-- The rows and columns of a plan by their numbers, and what its active members say of a point.
use Rattle.std.proofs.Common.{◌≡◌, ℕ, ◌+◌, ◌-◌, ◌<◌, IsTrue, is_some, ◌&&◌, map, refl, sym, subst, ◌∙◌, arith, pos}
use Rattle.std.specs.List.{range_with_len}
use Rattle.std.proofs.lemmas.List.Elements.{All-contains}
use Rattle.std.proofs.lemmas.List.FromFn.{get_or-map-range_with_len, length-map-range_with_len}
use Rattle.std.proofs.lemmas.List.{get_or_append_left, get_or-append_right}
use Rattle.rational.specs.Rational.{whole, zero_ℚ, ◌≤ℚ◌}
use Rattle.rational.specs.Linear.{Assignment, form_value}
use Rattle.lp_model.specs.Program.{NamedRow, NamedColumn, empty_row, empty_column, row_at, column_at}
use Rattle.lp_model.specs.declared.members.Member.{Member}
use Rattle.lp_model.specs.declared.members.Member.TheVariants.{RowLo, Lower, Upper}
use Rattle.lp_model.specs.Members.{is_active, active_members}
use Rattle.lp_model.specs.Satisfaction.{Holds, Satisfies, IsAtLeast, IsAtMost}
use Rattle.lp_model.proofs.Sets.{members_law}
use Rattle.model_maker.specs.PlanText.{demand}
use Rattle.model_maker.specs.PlanProgram.{balance_terms, balance_row, stock_column, made_column, plan_program}

-- ---- by number
row_is : (n i t : ℕ) → i < n → 1 + i ≡ t → row_at (plan_program n) i ≡ balance_row n t
unfolding plan_program
row_is n i t within e = get_or-map-range_with_len (balance_row n) 1 n i t empty_row within e

stock_is : (n i t : ℕ) → i < n → 1 + i ≡ t → column_at (plan_program n) i ≡ stock_column t
unfolding plan_program
stock_is n i t within e =
    get_or_append_left (map stock_column (range_with_len 1 n)) (map made_column (range_with_len 1 n)) empty_column i (omega (arith, length-map-range_with_len stock_column 1 n))
    ∙ get_or-map-range_with_len stock_column 1 n i t empty_column within e

made_is : (n i t : ℕ) → i < n → 1 + i ≡ t → column_at (plan_program n) (n + i) ≡ made_column t
unfolding plan_program
made_is n i t within e =
    get_or-append_right (map stock_column (range_with_len 1 n)) (map made_column (range_with_len 1 n)) n (n + i) empty_column (length-map-range_with_len stock_column 1 n) (omega arith)
    ∙ get_or-map-range_with_len made_column 1 n (n + i - n) t empty_column (omega arith) (omega arith)

-- ---- at a point that satisfies the active members
module _ (n : ℕ) (x : Assignment) (satisfies : Satisfies (plan_program n) (active_members (plan_program n)) x) where
  holds : (m : Member) → IsTrue (is_active (plan_program n) m) → Holds (plan_program n) x m
  holds m active = All-contains (Holds (plan_program n) x) (active_members (plan_program n)) m satisfies (((members_law (plan_program n)).1 m).1 active)

  -- a period's demand is met by the stock from before and by what is made, less what stays in stock
  pub balanced : (i t : ℕ) → i < n → 1 + i ≡ t → whole (pos (demand n t)) ≤ℚ form_value (balance_terms n t) x
  balanced i t within e =
      subst (λ (r : NamedRow). IsAtLeast r.lower (form_value r.terms x)) (row_is n i t within e)
      (holds (RowLo i) (subst (λ (r : NamedRow). IsTrue (is_some r.lower && r.lower_active)) (sym (row_is n i t within e)) refl))

  -- no stock is below 0
  pub in_stock : (i t : ℕ) → i < n → 1 + i ≡ t → zero_ℚ ≤ℚ x i
  in_stock i t within e =
      subst (λ (c : NamedColumn). IsAtLeast c.lower (x i)) (stock_is n i t within e)
      (holds (Lower i) (subst (λ (c : NamedColumn). IsTrue (is_some c.lower && c.lower_active)) (sym (stock_is n i t within e)) refl))

  -- at most 10 is made in a period
  pub at_most_ten : (i t : ℕ) → i < n → 1 + i ≡ t → x (n + i) ≤ℚ whole (pos 10)
  at_most_ten i t within e =
      subst (λ (c : NamedColumn). IsAtMost c.upper (x (n + i))) (made_is n i t within e)
      (holds (Upper (n + i)) (subst (λ (c : NamedColumn). IsTrue (is_some c.upper && c.upper_active)) (sym (made_is n i t within e)) refl))
