-- What is wrong with a line of tokens, by the tests of its bytes.
use Rattle.std.proofs.Common.{◌≡◌, ℕ, ◌+◌, ◌-◌, ◌<◌, ◌≤◌, Bool, true, false, cond, not, List, length, take, drop, Some, None, refl, sym, ap, ◌∙◌, arith, length-drop}
use Rattle.std.specs.List.{slice_range, position_or_len, before_first, list_any}
use Rattle.std.proofs.lemmas.Bool.{lt-ltb, le-ltb}
use Rattle.std.proofs.lemmas.List.Sums.{prefix_len-le-length}
use Rattle.lane_scan.specs.Bytes.{is_end, is_foreign, foreign_within, end_from}
use Rattle.lane_scan.proofs.Firsts.{length-range}
use Rattle.text_fields.specs.declared.faults.TextKind.TheVariants.{ForeignByte, LongLine}
use Rattle.text_fields.specs.Fields.{is_long}
use Rattle.text_fields.specs.Tokens.{token_fault, is_backslash}
use Rattle.text_fields.proofs.Ranges.{list_any-position, range-front}

-- by the two tests
fault_by : (line : List ℕ) (long foreign : Bool) → is_long line ≡ long → list_any is_foreign (before_first is_backslash line) ≡ foreign
    → token_fault line ≡ cond long (Some LongLine) (cond foreign (Some ForeignByte) None)
unfolding token_fault
fault_by line long foreign a b =
    ap (λ t. cond t (Some LongLine) (cond (list_any is_foreign (before_first is_backslash line)) (Some ForeignByte) None)) a
    ∙ ap (λ t. cond long (Some LongLine) (cond t (Some ForeignByte) None)) b

module _ (bytes : List ℕ) (at end : ℕ) (low : at ≤ length bytes) (e : end ≡ end_from bytes at) where
  line_range : before_first is_end (drop at bytes) ≡ slice_range bytes at end
  line_range = ap (λ (k : ℕ). take k (drop at bytes)) (omega arith)

  end_within : end ≤ length bytes
  end_within =
      let long = length-drop at bytes in
      let few = prefix_len-le-length (λ x. not (is_end x)) (drop at bytes) in
      omega arith

  pub token_fault-long : 65536 < end - at → token_fault (before_first is_end (drop at bytes)) ≡ Some LongLine
  token_fault-long h =
      let l = length-range bytes at end (omega arith) end_within in
      ap token_fault line_range
      ∙ fault_by (slice_range bytes at end) true (list_any is_foreign (before_first is_backslash (slice_range bytes at end))) (lt-ltb 65536 (length (slice_range bytes at end)) (omega arith)) refl

  -- `to` is where a comment begins
  token_fault-short : (to : ℕ) (foreign : Bool) → end - at ≤ 65536 → to ≡ at + position_or_len is_backslash (slice_range bytes at end) → to ≤ end
      → list_any is_foreign (slice_range bytes at to) ≡ foreign → token_fault (before_first is_end (drop at bytes)) ≡ cond foreign (Some ForeignByte) None
  token_fault-short to foreign h t high f =
      let line : List ℕ = slice_range bytes at end in
      let l = length-range bytes at end (omega arith) end_within in
      let text : before_first is_backslash line ≡ slice_range bytes at to = ap (λ (k : ℕ). take k line) (omega arith) ∙ sym (range-front bytes at to end (omega arith) high) in
      ap token_fault line_range ∙ fault_by line false foreign (le-ltb 65536 (length line) (omega arith)) (ap (list_any is_foreign) text ∙ f)

  pub token_fault-foreign : (to : ℕ) → end - at ≤ 65536 → to ≡ at + position_or_len is_backslash (slice_range bytes at end) → to ≤ end
      → foreign_within bytes at to < to → token_fault (before_first is_end (drop at bytes)) ≡ Some ForeignByte
  token_fault-foreign to h t high f =
      let within = end_within in
      let part : List ℕ = slice_range bytes at to in
      let l = length-range bytes at to (omega arith) (omega arith) in
      token_fault-short to true h t high (list_any-position is_foreign part ∙ lt-ltb (position_or_len is_foreign part) (length part) (omega arith))

  pub token_fault-none : (to : ℕ) → end - at ≤ 65536 → to ≡ at + position_or_len is_backslash (slice_range bytes at end) → to ≤ end
      → to ≤ foreign_within bytes at to → token_fault (before_first is_end (drop at bytes)) ≡ None
  token_fault-none to h t high f =
      let within = end_within in
      let part : List ℕ = slice_range bytes at to in
      let l = length-range bytes at to (omega arith) (omega arith) in
      token_fault-short to false h t high (list_any-position is_foreign part ∙ le-ltb (position_or_len is_foreign part) (length part) (omega arith))
