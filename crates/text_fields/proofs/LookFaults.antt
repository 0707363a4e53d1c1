-- What is wrong with a line of tokens, by where a look at it stops.
use Rattle.std.proofs.Common.{◌≡◌, ℕ, ◌+◌, ◌-◌, ◌<◌, ◌≤◌, ◌||◌, Bool, true, false, List, length, get_or, drop, Some, None, inl, inr, refl, sym, ap, ◌∙◌, arith, true≢false}
use Rattle.std.specs.List.{slice_range, position_or_len, before_first}
use Rattle.std.proofs.lemmas.Bool.{cases_lt, eq-eqb, ne_eqb}
use Rattle.lane_scan.specs.Bytes.{is_end, is_foreign, end_from, foreign_within}
use Rattle.lane_scan.specs.Lanes.{IsFirst}
use Rattle.lane_scan.proofs.Firsts.{first-rest}
use Rattle.lane_scan.proofs.Loads.{first-place, place-first}
use Rattle.text_fields.specs.declared.faults.TextKind.TheVariants.{ForeignByte, LongLine}
use Rattle.text_fields.specs.Tokens.{token_fault, is_backslash, stops_look}
use Rattle.text_fields.proofs.TokenFaults.{token_fault-long, token_fault-foreign, token_fault-none}

-- where the look goes on
or_none : (a b : Bool) → (a || b) ≡ false → (a ≡ false) × (b ≡ false)
or_none false b e = (refl, e)
or_none true b e = absurd (true≢false e)

or_second : (a b : Bool) → (a || b) ≡ true → a ≡ false → b ≡ true
or_second false b e f = e
or_second true b e f = absurd (true≢false f)

goes_on : (b : ℕ) → stops_look b ≡ false → (is_end b ≡ false) × (is_backslash b ≡ false) × (is_foreign b ≡ false)
goes_on b e =
    let a = or_none (is_end b) (is_backslash b || is_foreign b) e in
    let c = or_none (is_backslash b) (is_foreign b) a.1 in
    (a.0, c.0, c.1)

module _ (bytes : List ℕ) (at stop end : ℕ) (low : at ≤ length bytes) (look : IsFirst stops_look bytes at (length bytes) stop) (last : IsFirst is_end bytes stop (length bytes) end) where
  passed : (k : ℕ) → at ≤ k → k < stop → (is_end (get_or bytes k 0) ≡ false) × (is_backslash (get_or bytes k 0) ≡ false) × (is_foreign (get_or bytes k 0) ≡ false)
  passed k l h = goes_on (get_or bytes k 0) (look.none k l h)

  line_end : IsFirst is_end bytes at (length bytes) end
  line_end =
      let a = look.low in
      let b = last.low in
      record {
        low = omega arith;
        high = last.high;
        none = λ k l h. elim (cases_lt k stop) [ inl before ↦ (passed k l before).0 | inr after ↦ last.none k after h ];
        here = last.here;
      }

  pub end_is : end ≡ end_from bytes at
  end_is = first-place low (let e : length bytes ≤ length bytes = omega arith in e) line_end ∙ ap (λ n. at + n) (first-rest is_end bytes at)

  pub look-long : 65536 < end - at → token_fault (before_first is_end (drop at bytes)) ≡ Some LongLine
  look-long h = token_fault-long bytes at end low end_is h

  -- where a comment begins, or the end of the line
  abbrev to : ℕ
  to = at + position_or_len is_backslash (slice_range bytes at end)

  comment : IsFirst is_backslash bytes at end to
  comment = (let a = line_end.low in let b = last.high in place-first is_backslash bytes at end (omega arith) (omega arith))

  pub look-foreign : end - at ≤ 65536 → stop < end → (get_or bytes stop 0 ≡ 92 → ⊥) → token_fault (before_first is_end (drop at bytes)) ≡ Some ForeignByte
  look-foreign short inside other =
      let a = look.low in
      let b = last.high in
      let no_comment : is_backslash (get_or bytes stop 0) ≡ false = ne_eqb (get_or bytes stop 0) 92 other in
      let no_end : is_end (get_or bytes stop 0) ≡ false = last.none stop (omega arith) inside in
      let foreign : is_foreign (get_or bytes stop 0) ≡ true =
      or_second (is_backslash (get_or bytes stop 0)) (is_foreign (get_or bytes stop 0)) (or_second (is_end (get_or bytes stop 0)) (is_backslash (get_or bytes stop 0) || is_foreign (get_or bytes stop 0)) (look.here (omega arith)) no_end) no_comment in
      let before : stop < to =
      elim (cases_lt stop to) [
        | inl l ↦ l
        | inr m ↦
            let here = comment.here (omega arith) in
            let begin = comment.low in
            absurd (elim (cases_lt to stop) [
              | inl earlier ↦ true≢false (sym here ∙ (passed to begin earlier).1)
              | inr later ↦ let e : to ≡ stop = omega arith in true≢false (sym here ∙ ap (λ (k : ℕ). is_backslash (get_or bytes k 0)) e ∙ no_comment)
            ])
      ] in
      let high = comment.high in
      let first : stop ≡ foreign_within bytes at to =
      first-place (omega arith) (omega arith) (record { low = a; high = omega arith; none = λ k l h. (passed k l h).2; here = λ h. foreign }) in
      token_fault-foreign bytes at end low end_is to short refl high (omega arith)

  -- the look stops at the end, or at a comment
  fine : end - at ≤ 65536 → IsFirst is_backslash bytes at end stop → token_fault (before_first is_end (drop at bytes)) ≡ None
  fine short there =
      let a = look.low in
      let b = last.high in
      let d = there.high in
      let is : stop ≡ at + position_or_len is_backslash (slice_range bytes at end) = first-place (omega arith) b there in
      let none : stop ≡ foreign_within bytes at stop =
      first-place a (omega arith) (record { low = a; high = omega arith; none = λ k l h. (passed k l h).2; here = λ h. absurd (omega arith) }) in
      token_fault-none bytes at end low end_is stop short is d (omega arith)

  pub look-end : end - at ≤ 65536 → end ≤ stop → token_fault (before_first is_end (drop at bytes)) ≡ None
  look-end short there =
      let a = look.low in
      let b = last.low in
      fine short (record { low = a; high = b; none = λ k l h. (passed k l h).1; here = λ h. absurd (omega arith) })

  pub look-comment : end - at ≤ 65536 → get_or bytes stop 0 ≡ 92 → token_fault (before_first is_end (drop at bytes)) ≡ None
  look-comment short is =
      let a = look.low in
      let b = last.low in
      fine short (record { low = a; high = b; none = λ k l h. (passed k l h).1; here = λ h. eq-eqb (get_or bytes stop 0) 92 is })
