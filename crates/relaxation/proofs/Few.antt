-- An elastic system of a program within the limits has few variables.
use Rattle.std.proofs.Common.{◌≡◌, ◌+◌, ◌*◌, ◌/◌, ◌<◌, ◌≤◌, ◌∙◌, ap, ℕ, zero, suc, refl, sym, ltb, ◌==◌, ◌&&◌, ◌||◌, Bool, true, false, true≢false, cond, not, List, [], ◌∷◌, length, length-append, get_or, filter, Option, None, Some, arith}
use Rattle.std.specs.Prelude.{All, flat_map}
use Rattle.std.proofs.lemmas.Bool.{and_parts, eqb-true, le-ltb, lt-ltb, ltb-true}
use Rattle.std.proofs.Math.Nat.{mul-le-mul_right}
use Rattle.rational.specs.Rational.{ℚ}
use Rattle.lp_model.specs.declared.members.Member.{Member}
use Rattle.lp_model.specs.declared.members.Member.TheVariants.{RowLo, RowUp, Lower, Upper, Whole}
use Rattle.lp_model.specs.Program.{Program}
use Rattle.lp_model.specs.Members.{comes_before, has, kind, number, place, IsInOrder}
use Rattle.lp_model.specs.MemberSets.{IsMemberFor, SetValue, place_count, place_in, possible_in}
use Rattle.lp_model.specs.Shown.{most_columns, most_members, most_rows}
use Rattle.certs.specs.Checks.{IsSetOf}
use Rattle.certs.proofs.Possible.{members_for_model}
use Rattle.certs.specs.Elastic.{is_row_side, is_side_of, numbered_soft, soft_members}
use Rattle.certs.specs.Ended.{numbers_from}
use Rattle.certs.specs.Plain.{has_row}
use Rattle.certs.proofs.Translated.{length_numbers}
use Rattle.relaxation.specs.Costs.{cost_by}
use Rattle.relaxation.specs.Laws.{FewLaw}
use Rattle.relaxation.specs.Origins.{origins, row_origins, soft_origin, soft_origins}
use Rattle.relaxation.specs.declared.origins.Origin.{Origin}
use Rattle.relaxation.specs.declared.origins.Origin.TheVariants.{Row}
use Rattle.relaxation.proofs.Distinct.{front_more, side_place}
use Rattle.relaxation.proofs.Joined.{ascending_few, joined_few, kept_few}
use Rattle.relaxation.proofs.Soft.{length_soft}
use Rattle.relaxation.proofs.Rows.{length_columns, length_rows}

-- ---- the members of a set in order
-- the first place of a kind of members
start : ℕ → ℕ → ℕ → ℕ
start rows columns zero = 0
start rows columns (suc k) = 2 * rows + k * columns

place_is : (rows columns : ℕ) (m : Member) → place_in rows columns m ≡ start rows columns (kind m) + place m
unfolding start
place_is rows columns (RowLo i) = omega arith
place_is rows columns (RowUp i) = omega arith
place_is rows columns (Lower j) = omega arith
place_is rows columns (Upper j) = omega arith
place_is rows columns (Whole j) = omega arith

place_within : (rows columns : ℕ) (m : Member) → IsMemberFor rows columns m → place_in rows columns m < start rows columns (suc (kind m))
unfolding start
place_within rows columns (RowLo i) h = omega (arith, h)
place_within rows columns (RowUp i) h = omega (arith, h)
place_within rows columns (Lower j) h = omega (arith, h)
place_within rows columns (Upper j) h = omega (arith, h)
place_within rows columns (Whole j) h = omega (arith, h)

start_later : (rows columns a b : ℕ) → a < b → start rows columns (suc a) ≤ start rows columns b
unfolding start
start_later rows columns a zero l = absurd (omega arith)
start_later rows columns a (suc b) l = let h = mul-le-mul_right columns (let g : a ≤ b = omega arith in g) in omega (arith, h)

-- a member before another has the lesser place
place_before : (rows columns : ℕ) (m n : Member) → IsMemberFor rows columns m → comes_before m n ≡ true → place_in rows columns m < place_in rows columns n
place_before rows columns m n h b =
    by (ltb (kind m) (kind n)) refl b
  where
    by : (t : Bool) → ltb (kind m) (kind n) ≡ t → (t || ((kind m == kind n) && ltb (place m) (place n))) ≡ true → place_in rows columns m < place_in rows columns n
    by true e b =
        let within = place_within rows columns m h in
        let later = start_later rows columns (kind m) (kind n) (ltb-true (kind m) (kind n) e) in
        let second = place_is rows columns n in
        omega (arith, within, later, second)
    by false e b =
        let both = and_parts (kind m == kind n) (ltb (place m) (place n)) b in
        let less = ltb-true (place m) (place n) both.1 in
        let same = ap (start rows columns) (eqb-true (kind m) (kind n) both.0) in
        let first = place_is rows columns m in
        let second = place_is rows columns n in
        omega (arith, less, same, first, second)

place_below : (rows columns : ℕ) (m : Member) → IsMemberFor rows columns m → place_in rows columns m < place_count rows columns
place_below rows columns (RowLo i) h = omega (arith, h)
place_below rows columns (RowUp i) h = omega (arith, h)
place_below rows columns (Lower j) h = omega (arith, h)
place_below rows columns (Upper j) h = omega (arith, h)
place_below rows columns (Whole j) h = omega (arith, h)

pub set_few : (rows columns : ℕ) (set : List Member) → All (IsMemberFor rows columns) set → IsInOrder set → length set ≤ place_count rows columns
set_few rows columns set known ordered =
    let few = ascending_few (place_in rows columns) 0 (place_count rows columns) set (omega arith)
    (λ k d l. (omega arith, place_below rows columns (get_or set k d) (known k d l)))
    (λ i j d l m. place_before rows columns (get_or set i d) (get_or set j d) (known i d (omega (arith, l, m))) (ordered i j d l m)) in
    omega (arith, few)

-- a set of members of a program within the limits has few
pub members_few : (model : Program) (set : SetValue) → IsSetOf model set → set.members ≡ filter (has set.members) (possible_in set) → IsInOrder set.members
    → length model.rows ≤ most_rows → length model.columns ≤ most_columns → length set.members ≤ most_members
members_few model set same possible ordered rows columns =
    let few = set_few (length model.rows) (length model.columns) set.members (members_for_model model set same possible) ordered in
    omega (arith, few, rows, columns)

-- ---- the rows
soft_one : (e : ℕ × Member) (o : Option ℚ) → length (soft_origin e o) ≤ 1
soft_one e None = omega arith
soft_one e (Some b) = omega arith

soft_few : (model : Program) (soft : List (ℕ × Member)) → length (soft_origins model soft) ≤ length soft
soft_few model soft = let few = joined_few (λ (e : ℕ × Member). soft_origin e (number model e.1)) 1 (λ e. soft_one e (number model e.1)) soft in omega (arith, few)

-- what passes the first of two tests or the second, but nothing both, passes a third
both_few : {X : Type 0} (p q r : X → Bool) → ((x : X) → p x ≡ true → r x ≡ true) → ((x : X) → q x ≡ true → (p x ≡ false) × (r x ≡ true)) → (xs : List X) → length (filter p xs) + length (filter q xs) ≤ length (filter r xs)
both_few p q r f g [] = omega arith
both_few p q r f g (x ∷ xs) = by (p x) (q x) (r x) refl refl refl (both_few p q r f g xs)
  where
    by : (a b c : Bool) → p x ≡ a → q x ≡ b → r x ≡ c → length (filter p xs) + length (filter q xs) ≤ length (filter r xs)
        → length (cond a (x ∷ filter p xs) (filter p xs)) + length (cond b (x ∷ filter q xs) (filter q xs)) ≤ length (cond c (x ∷ filter r xs) (filter r xs))
    by true true c e k l h = absurd (true≢false (sym e ∙ (g x k).0))
    by true false true e k l h = omega (arith, h)
    by true false false e k l h = absurd (true≢false (sym (f x e) ∙ l))
    by false true true e k l h = omega (arith, h)
    by false true false e k l h = absurd (true≢false (sym (g x k).1 ∙ l))
    by false false true e k l h = omega (arith, h)
    by false false false e k l h = omega (arith, h)

-- a member whose place is that of a side of a row before one
below : ℕ → ℕ × Member → Bool
below n e = ltb (place e.1 / 2) n

below_more : (n : ℕ) (e : ℕ × Member) → below n e ≡ true → below (suc n) e ≡ true
unfolding below
below_more n e h = let l = ltb-true (place e.1 / 2) n h in lt-ltb (place e.1 / 2) (suc n) (omega (arith, l))

-- a side of the one row is not before it, and is before the next
side_next : (n : ℕ) (e : ℕ × Member) → is_side_of n e.1 ≡ true → (below n e ≡ false) × (below (suc n) e ≡ true)
unfolding below
side_next n e h = let at = side_place n e.1 h in (le-ltb (place e.1 / 2) n (omega (arith, at)), lt-ltb (place e.1 / 2) (suc n) (omega (arith, at)))

module _ (model : Program) (enforced : List Member) (soft : List (ℕ × Member)) where
  row_few : (i : ℕ) → length (row_origins model enforced soft i) ≤ 1 + length (filter (λ e. is_side_of i e.1) soft)
  row_few i =
      let front : List Origin = cond (has_row enforced i) (Row i ∷ []) [] in
      let all = length-append front (soft_origins model (filter (λ e. is_side_of i e.1) soft)) in
      let few = soft_few model (filter (λ e. is_side_of i e.1) soft) in
      let one = by (has_row enforced i) in
      omega (arith, all, few, one)
    where
      by : (b : Bool) → let list : List Origin = cond b (Row i ∷ []) [] in length list ≤ 1
      by true = omega arith
      by false = omega arith

  -- each soft member is a side of one row at most
  rows_few : (n : ℕ) → length (flat_map (row_origins model enforced soft) (numbers_from 0 n)) ≤ n + length (filter (below n) soft)
  rows_few zero = omega arith
  rows_few (suc n) =
      let more = ap length (front_more model enforced soft n) in
      let all = length-append (flat_map (row_origins model enforced soft) (numbers_from 0 n)) (row_origins model enforced soft n) in
      let before = rows_few n in
      let here = row_few n in
      let both = both_few (below n) (λ e. is_side_of n e.1) (below (suc n)) (below_more n) (side_next n) soft in
      omega (arith, more, all, before, here, both)

origins_few : (model : Program) (set enforced : List Member) (s : ℕ) → length (soft_members set enforced) ≡ s → length (origins model set enforced) ≤ length model.rows + 2 * s
origins_few model set enforced s e =
    let soft : List (ℕ × Member) = numbered_soft (length model.columns) set enforced in
    let bounds : List (ℕ × Member) = filter (λ e. not (is_row_side e.1)) soft in
    let count : length soft ≡ s = length_soft (length model.columns) set enforced ∙ e in
    let all = length-append (flat_map (row_origins model enforced soft) (numbers_from 0 (length model.rows))) (soft_origins model bounds) in
    let rows = rows_few model enforced soft (length model.rows) in
    let sides = kept_few (below (length model.rows)) soft in
    let last = soft_few model bounds in
    let kept = kept_few (λ (e : ℕ × Member). not (is_row_side e.1)) soft in
    omega (arith, count, all, rows, sides, last, kept)

pub few_law : FewLaw
few_law model set enforced costs elastic rows columns =
    let s : ℕ = length (soft_members set enforced) in
    let members = set_few (length model.rows) (length model.columns) set elastic.known elastic.ordered in
    let kept = kept_few (λ m. not (has enforced m)) set in
    let first = length_columns model set enforced (cost_by model costs) in
    let second = length_rows model set enforced (cost_by model costs) in
    let few = origins_few model set enforced s refl in
    omega (arith, first, second, few, members, kept, rows, columns)
