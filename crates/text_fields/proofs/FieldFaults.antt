-- What is wrong with a line, by the tests of its bytes.
use Rattle.std.proofs.Common.{◌≡◌, ℕ, ◌-◌, ◌<◌, ◌≤◌, Bool, true, false, cond, List, length, get_or, Some, None, refl, sym, ap, ◌∙◌, arith}
use Rattle.std.specs.List.{slice_range, position_or_len, list_any}
use Rattle.std.proofs.lemmas.Bool.{lt-ltb, le-ltb, eq-eqb, ne_eqb}
use Rattle.std.proofs.lemmas.List.{nil_from_length}
use Rattle.lane_scan.specs.Bytes.{is_foreign, foreign_within}
use Rattle.lane_scan.proofs.Firsts.{length-range}
use Rattle.text_fields.specs.declared.faults.TextKind.TheVariants.{ForeignByte, LongLine}
use Rattle.text_fields.specs.Fields.{field_fault, is_long, is_comment}
use Rattle.text_fields.proofs.Ranges.{list_any-position, get_or-range}

-- by the three tests
fault_by : (line : List ℕ) (long comment foreign : Bool) → is_long line ≡ long → is_comment line ≡ comment → list_any is_foreign line ≡ foreign
    → field_fault line ≡ cond long (Some LongLine) (cond comment None (cond foreign (Some ForeignByte) None))
unfolding field_fault
fault_by line long comment foreign a b c =
    ap (λ t. cond t (Some LongLine) (cond (is_comment line) None (cond (list_any is_foreign line) (Some ForeignByte) None))) a
    ∙ ap (λ t. cond long (Some LongLine) (cond t None (cond (list_any is_foreign line) (Some ForeignByte) None))) b
    ∙ ap (λ t. cond long (Some LongLine) (cond comment None (cond t (Some ForeignByte) None))) c

module _ (xs : List ℕ) (from to : ℕ) (low : from ≤ to) (high : to ≤ length xs) where
  abbrev line : List ℕ
  line = slice_range xs from to

  not_long : to - from ≤ 65536 → is_long line ≡ false
  not_long h = let e = length-range xs from to low high in le-ltb 65536 (length line) (omega arith)

  pub fault-long : 65536 < to - from → field_fault line ≡ Some LongLine
  fault-long h = let e = length-range xs from to low high in fault_by line true (is_comment line) (list_any is_foreign line) (lt-ltb 65536 (length line) (omega arith)) refl refl

  pub fault-empty : from ≡ to → field_fault line ≡ None
  unfolding field_fault
  fault-empty h = let e = length-range xs from to low high in ap field_fault (nil_from_length line (omega arith))

  pub fault-comment : to - from ≤ 65536 → from < to → get_or xs from 0 ≡ 42 → field_fault line ≡ None
  fault-comment s h e = fault_by line false true (list_any is_foreign line) (not_long s) (eq-eqb (get_or line 0 0) 42 (get_or-range xs from to h ∙ e)) refl

  no_comment : from < to → (get_or xs from 0 ≡ 42 → ⊥) → is_comment line ≡ false
  no_comment h n = ne_eqb (get_or line 0 0) 42 (λ e. n (sym (get_or-range xs from to h) ∙ e))

  pub fault-foreign : to - from ≤ 65536 → from < to → (get_or xs from 0 ≡ 42 → ⊥) → foreign_within xs from to < to → field_fault line ≡ Some ForeignByte
  fault-foreign s h n f =
      let e = length-range xs from to low high in
      fault_by line false false true (not_long s) (no_comment h n) (list_any-position is_foreign line ∙ lt-ltb (position_or_len is_foreign line) (length line) (omega arith))

  pub fault-none : to - from ≤ 65536 → from < to → (get_or xs from 0 ≡ 42 → ⊥) → to ≤ foreign_within xs from to → field_fault line ≡ None
  fault-none s h n f =
      let e = length-range xs from to low high in
      fault_by line false false false (not_long s) (no_comment h n) (list_any-position is_foreign line ∙ le-ltb (position_or_len is_foreign line) (length line) (omega arith))
