-- Sets of members, compared by their bits.
use Rattle.std.proofs.Common.{◌≡◌, ◌<◌, ◌+◌, ◌*◌, ◌/◌, ◌%◌, ◌^◌, ◌↔◌, ℕ, true, List, get_or, inl, inr, sym, ◌∙◌, ap, ap₂, subst, arith}
use Rattle.std.specs.Int.{bit_at}
use Rattle.std.specs.Prelude.{Contains}
use Rattle.std.proofs.lemmas.Bool.{cases_lt, eqb-true, eq-eqb, both_ways}
use Rattle.std.proofs.lemmas.List.Elements.{All-contains, All-contains_itself, All-filter, filter_passes, Contains-get_or}
use Rattle.std.proofs.lemmas.Nat.Bits.{bit_at_above}
use Rattle.lane_scan.specs.Bits.{IsSet, IsSubset, Meets, bit_of}
use Rattle.lp_model.specs.Members.{Member, RowLo}
use Rattle.lp_model.specs.MemberSets.{SetValue, IsMemberFor, IsMarking, IsWithin, HaveCommon, members_for, place_count, place_in, is_marked, marked_set}
use Rattle.lp_model.proofs.Sets.{Contains-filter}
use Rattle.lp_model.proofs.Marked.{place_at, possible_of, possible_is}

-- the bit of a member is set
abbrev IsBitOf : ℕ → ℕ → List ℕ → Member → Type 0
IsBitOf rows columns words m = IsSet words (place_in rows columns m / 64) (place_in rows columns m % 64)

module _ (rows columns : ℕ) (words : List ℕ) where
  abbrev members : List Member
  members = (marked_set rows columns words).members

  bit_of_member : (m : Member) → Contains members m → IsMemberFor rows columns m × IsBitOf rows columns words m
  bit_of_member m c =
      let test = is_marked rows columns words in (
        possible_is rows columns m (All-contains (Contains (members_for rows columns)) members m (All-filter test (Contains (members_for rows columns)) (members_for rows columns) (All-contains_itself (members_for rows columns))) c),
        eqb-true _ 1 (All-contains (λ n. test n ≡ true) members m (filter_passes test (members_for rows columns)) c),
      )

  member_of_bit : (m : Member) → IsMemberFor rows columns m → IsBitOf rows columns words m → Contains members m
  member_of_bit m l s = Contains-filter (is_marked rows columns words) (members_for rows columns) m (possible_of rows columns m l) (eq-eqb _ 1 s)

  -- a bit that is set is that of a member
  member_at_bit : IsMarking rows columns words → ((k : ℕ) → get_or words k 0 < 2 ^ 64) → (i j : ℕ) → IsSet words i j → (m : Member) × Contains members m × (place_in rows columns m / 64 ≡ i) × (place_in rows columns m % 64 ≡ j)
  member_at_bit h fits i j s =
      let low : j < 64 = elim (cases_lt j 64) [
        | inl l ↦ l
        | inr l ↦ let z = bit_at_above (get_or words i 0) 64 j (fits i) l in absurd (omega arith)
      ] in
      let k = 64 * i + j in
      let word : k / 64 ≡ i = omega arith in
      let bit : k % 64 ≡ j = omega arith in
      let here : IsSet words (k / 64) (k % 64) = ap₂ (λ (a b : ℕ). bit_at (get_or words a 0) b) word bit ∙ s in
      let within : k < place_count rows columns = elim (cases_lt k (place_count rows columns)) [
        | inl l ↦ l
        | inr l ↦ absurd (both_ways (bit_of words k) (h.none_past k l) (eq-eqb _ 1 here))
      ] in
      let m = get_or (members_for rows columns) k (RowLo 0) in
      let there = place_at rows columns k (RowLo 0) within in (
        m,
        member_of_bit m there.0 (subst (λ (p : ℕ). IsSet words (p / 64) (p % 64)) (sym there.1) here),
        ap (λ (p : ℕ). p / 64) there.1 ∙ word,
        ap (λ (p : ℕ). p % 64) there.1 ∙ bit,
      )

module _ (rows columns : ℕ) (a b : List ℕ) (h : IsMarking rows columns a) (fits : (k : ℕ) → get_or a k 0 < 2 ^ 64) where
  within_is : IsSubset a b ↔ IsWithin (marked_set rows columns a) (marked_set rows columns b)
  within_is = (
    λ sub k d l.
        let m = get_or (members rows columns a) k d in
        let bit = bit_of_member rows columns a m (Contains-get_or (members rows columns a) k d l) in
        member_of_bit rows columns b m bit.0 (sub _ _ bit.1),
    λ part i j s.
        let m = member_at_bit rows columns a h fits i j s in
        let bit = bit_of_member rows columns b m.0 (All-contains (Contains (members rows columns b)) (members rows columns a) m.0 part m.1) in
        ap₂ (λ (x y : ℕ). bit_at (get_or b x 0) y) (sym m.2) (sym m.3) ∙ bit.1,
  )

  common_is : Meets a b ↔ HaveCommon (marked_set rows columns a) (marked_set rows columns b)
  common_is = (
    λ (i, j, s, t).
        let m = member_at_bit rows columns a h fits i j s in
        let bit = bit_of_member rows columns a m.0 m.1 in
        (m.0, m.1, member_of_bit rows columns b m.0 bit.0 (ap₂ (λ (x y : ℕ). bit_at (get_or b x 0) y) m.2 m.3 ∙ t)),
    λ (m, c, d).
        let bit = bit_of_member rows columns a m c in
        (_, _, bit.1, (bit_of_member rows columns b m d).1),
  )

-- the same of the words that code reads, and of what contracts see of two sets of one program
module _ (rows columns r k : ℕ) (a b x y : List ℕ) (s t : SetValue) (mine : a ≡ x) (others : b ≡ y) (see_mine : marked_set rows columns x ≡ s) (see_others : marked_set r k y ≡ t)
    (same_rows : s.rows ≡ t.rows) (same_columns : s.columns ≡ t.columns) (h : IsMarking rows columns x) (fits : (i : ℕ) → get_or a i 0 < 2 ^ 64) where
  seen : (P : SetValue → SetValue → Type 0) → P (marked_set rows columns a) (marked_set rows columns b) ≡ P s t
  seen P =
      ap₂ P (ap (marked_set rows columns) mine ∙ see_mine)
      (ap₂ (λ (i j : ℕ). marked_set i j b)
      (ap (λ (z : SetValue). z.rows) see_mine ∙ (same_rows ∙ sym (ap (λ (z : SetValue). z.rows) see_others)))
      (ap (λ (z : SetValue). z.columns) see_mine ∙ (same_columns ∙ sym (ap (λ (z : SetValue). z.columns) see_others)))
      ∙ (ap (marked_set r k) others ∙ see_others))

  pub within_seen : IsSubset a b ↔ IsWithin s t
  within_seen = subst (λ (P : Type 0). IsSubset a b ↔ P) (seen IsWithin) (within_is rows columns a b (subst (IsMarking rows columns) (sym mine) h) fits)

  pub common_seen : Meets a b ↔ HaveCommon s t
  common_seen = subst (λ (P : Type 0). Meets a b ↔ P) (seen HaveCommon) (common_is rows columns a b (subst (IsMarking rows columns) (sym mine) h) fits)
