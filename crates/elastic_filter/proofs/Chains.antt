-- What the rounds so far have enforced, and one round more.
use Rattle.std.proofs.Common.{◌≡◌, ◌≤◌, ◌<◌, ◌+◌, ◌-◌, ◌^◌, refl, sym, ◌∙◌, ap, subst, ℕ, suc, Bool, true, false, cond, not, ◌&&◌, ◌||◌, List, [], ◌∷◌, length, get_or, filter, arith}
use Rattle.std.specs.Prelude.{All, Contains, nat_lt}
use Rattle.std.proofs.lemmas.List.Elements.{All-nil, All-contains, All-contains_itself, All-filter}
use Rattle.std.proofs.lemmas.Bool.{cond_both}
use Rattle.lp_model.specs.declared.members.Member.{Member}
use Rattle.lp_model.specs.Program.{Program}
use Rattle.lp_model.specs.Members.{has, is_mark}
use Rattle.lp_model.specs.MemberSets.{SetValue, IsMarking, is_marked, marked_set, members_for, place_count, possible_in}
use Rattle.lp_model.specs.Shown.{most_columns, most_members, most_rows}
use Rattle.lp_model.specs.Satisfaction.{coordinate, IsPart, IsUnsatisfiable}
use Rattle.lp_model.proofs.Marked.{length-members_for}
use Rattle.certs.specs.declared.evidence.Combo.{Combo}
use Rattle.certs.specs.Checks.{IsSetOf}
use Rattle.certs.specs.Combination.{IsCombination, CombinationLaw, KeepsBranch}
use Rattle.certs.specs.Filter.{Enforces, first, further, RoundsLaw}
use Rattle.certs.specs.Tales.{IsFurther, one_more}
use Rattle.certs.specs.Violation.{is_violated}
use Rattle.certs.proofs.HasLists.{agree_on, has_of_filter}
use Rattle.certs.proofs.Parted.{filter_both}
use Rattle.elastic_filter.specs.Enforced.{IsEnforcedBy}
use Rattle.elastic_filter.specs.Included.{IsPartWithin}

-- ---- a chain so far
-- So many sets of the chain end with this one, a part of the set that has at least as many members as rounds were made before.
pub record HasReached (model : Program) (set : List Member) (count : ℕ) (enforced : List Member) : Type 0 where
  pub chain : Enforces model set count enforced
  pub part : enforced ≡ filter (has enforced) set
  pub few : count ≤ suc (length enforced)

has_none : (set : List Member) → filter (has []) set ≡ []
has_none [] = refl
has_none (m ∷ set) = has_none set

pub reached_at_first : (model : Program) (set : List Member) → HasReached model set 1 []
reached_at_first model set = record { chain = first; part = sym (has_none set); few = omega arith }

-- a part by a test is no longer than the set, and all of it is in the set
filter_short : {A : Type 0} (s : A → Bool) (xs : List A) → length (filter s xs) ≤ length xs
filter_short s [] = omega arith
filter_short s (x ∷ xs) =
    let rest : length (filter s xs) ≤ length xs = filter_short s xs in
    cond_both (s x) (x ∷ filter s xs) (filter s xs) (λ zs. length zs ≤ suc (length xs)) (λ _. let g : suc (length (filter s xs)) ≤ suc (length xs) = omega arith in g) (λ _. let g : length (filter s xs) ≤ suc (length xs) = omega arith in g)

pub no_longer : (model : Program) (set : List Member) (count : ℕ) (enforced : List Member) → HasReached model set count enforced → length enforced ≤ length set
no_longer model set count enforced h = subst (λ (l : List Member). length l ≤ length set) (sym h.part) (filter_short (has enforced) set)

-- ---- one round more
-- those that pass one test, or another but not the first, are so many together
both_parts : {A : Type 0} (p t : A → Bool) (xs : List A) → length (filter (λ x. p x || (t x && not (p x))) xs) ≡ length (filter p xs) + length (filter (λ x. t x && not (p x)) xs)
both_parts p t [] = refl
both_parts p t (x ∷ xs) = by (p x) (t x) (both_parts p t xs)
  where
    by : (a b : Bool) → length (filter (λ x. p x || (t x && not (p x))) xs) ≡ length (filter p xs) + length (filter (λ x. t x && not (p x)) xs)
        → length (cond (a || (b && not a)) (x ∷ filter (λ x. p x || (t x && not (p x))) xs) (filter (λ x. p x || (t x && not (p x))) xs))
        ≡ length (cond a (x ∷ filter p xs) (filter p xs)) + length (cond (b && not a) (x ∷ filter (λ x. t x && not (p x)) xs) (filter (λ x. t x && not (p x)) xs))
    by true true e = omega (arith, e)
    by true false e = omega (arith, e)
    by false true e = omega (arith, e)
    by false false e = e

module _ (model : Program) (set : List Member) (count : ℕ) (enforced more : List Member) (h : HasReached model set count enforced) (f : IsFurther model set enforced more) where
  abbrev next_test : Member → Bool
  next_test m = has enforced m || is_violated model (coordinate f.stretches.point) m

  -- what is to be enforced besides, as a part of the set
  more_is : more ≡ filter (λ m. next_test m && not (has enforced m)) set
  more_is = f.further_are ∙ ap (filter (λ m. not (has enforced m))) f.stretches.adds ∙ filter_both next_test (λ m. not (has enforced m)) set

  has_more : (m : Member) → Contains set m → has more m ≡ (next_test m && not (has enforced m))
  has_more m c = ap (λ (l : List Member). has l m) more_is ∙ has_of_filter (λ n. next_test n && not (has enforced n)) set m c

  both_are : filter (λ m. has enforced m || has more m) set ≡ filter (λ m. has enforced m || (next_test m && not (has enforced m))) set
  both_are = agree_on (λ m. has enforced m || has more m) (λ m. has enforced m || (next_test m && not (has enforced m))) set (λ m c. ap (λ b. has enforced m || b) (has_more m c))

  -- with what was enforced it is the next set of the chain
  next_is : filter (λ m. has enforced m || has more m) set ≡ f.next
  next_is =
      both_are
      ∙ agree_on (λ m. has enforced m || (next_test m && not (has enforced m))) next_test set (λ m c. by (has enforced m) (is_violated model (coordinate f.stretches.point) m))
      ∙ sym f.stretches.adds
    where
      by : (e v : Bool) → (e || ((e || v) && not e)) ≡ (e || v)
      by true v = refl
      by false true = refl
      by false false = refl

  longer : length enforced < length (filter (λ m. has enforced m || has more m) set)
  longer =
      let parts : length (filter (λ m. has enforced m || (next_test m && not (has enforced m))) set) ≡ length (filter (has enforced) set) + length (filter (λ m. next_test m && not (has enforced m)) set) = both_parts (has enforced) next_test set in
      let both : length (filter (λ m. has enforced m || has more m) set) ≡ length (filter (λ m. has enforced m || (next_test m && not (has enforced m))) set) = ap length both_are in
      let old : length enforced ≡ length (filter (has enforced) set) = ap length h.part in
      let new : length more ≡ length (filter (λ m. next_test m && not (has enforced m)) set) = ap length more_is in
      let some : 0 < length more = f.some in
      omega arith

  pub grown_longer : (now : List Member) → now ≡ filter (λ m. has enforced m || has more m) set → length enforced < length now
  grown_longer now is = subst (λ (l : List Member). length enforced < length l) (sym is) longer

  pub reached_further : (now : List Member) → now ≡ filter (λ m. has enforced m || has more m) set → HasReached model set (suc count) now
  reached_further now is = subst (HasReached model set (suc count)) (sym is) (record {
    chain = subst (Enforces model set (suc count)) (sym next_is) (further h.chain f.stretches);
    part = sym (agree_on (has (filter (λ m. has enforced m || has more m) set)) (λ m. has enforced m || has more m) set (λ m c. has_of_filter (λ m. has enforced m || has more m) set m c));
    few = let l : length enforced < length (filter (λ m. has enforced m || has more m) set) = longer in let k : count ≤ suc (length enforced) = h.few in omega arith;
  })

-- ---- the end
-- a combination of the last set of the chain
pub enforced_by : (model : Program) (set : List Member) (members : SetValue) (combo : Combo) (count : ℕ) → CombinationLaw → RoundsLaw → All (λ m. is_mark m ≡ false) set
    → IsSetOf model members → HasReached model set count members.members → IsCombination model members.members [] combo.shares → IsEnforcedBy model set members combo count
enforced_by model set members combo count combination rounds linear same h shown = record {
  same = same;
  rounds_are = record { chain = h.chain; unsatisfiable = denied };
  proves = shown;
  few = λ part inside d. rounds model set count members.members part (record { chain = h.chain; unsatisfiable = denied }) inside (λ k d l. All-contains (λ m. is_mark m ≡ false) set (get_or part k d) linear (inside k d l)) d;
}
  where
    denied : IsUnsatisfiable model members.members
    denied s = combination model members.members [] combo.shares shown (coordinate s.point) s.satisfies (All-nil (KeepsBranch (coordinate s.point)))

-- ---- what calls ask for
pub is_part : (model : Program) (set : List Member) (count : ℕ) (enforced : List Member) → HasReached model set count enforced → IsPart enforced set
is_part model set count enforced h = subst (All (Contains set)) (sym h.part) (All-filter (has enforced) (Contains set) set (All-contains_itself set))

-- what is to be enforced besides is in the set
pub inside_set : (model : Program) (set enforced more : List Member) → IsFurther model set enforced more → All (Contains set) more
inside_set model set enforced more f =
    subst (All (Contains set)) (sym f.further_are)
    (All-filter (λ m. not (has enforced m)) (Contains set) f.next
    (subst (All (Contains set)) (sym f.stretches.adds) (All-filter (λ m. has enforced m || is_violated model (coordinate f.stretches.point) m) (Contains set) set (All-contains_itself set))))

-- a set of a program has few members
pub few_members : (rows columns : ℕ) (words : List ℕ) → IsMarking rows columns words → length (marked_set rows columns words).members ≤ most_members
few_members rows columns words h =
    let short : length (filter (is_marked rows columns words) (members_for rows columns)) ≤ length (members_for rows columns) = filter_short (is_marked rows columns words) (members_for rows columns) in
    let all : length (members_for rows columns) ≡ place_count rows columns = length-members_for rows columns in
    let r : rows ≤ most_rows = h.few_rows in
    let c : columns ≤ most_columns = h.few_columns in
    omega arith

-- a count that stays at its greatest value is at most one more
pub told_more : (n : ℕ) → one_more n ≤ n + 1
told_more n = by (nat_lt n (2 ^ 64 - 1))
  where
    by : (b : Bool) → cond b (n + 1) n ≤ n + 1
    by true = omega arith
    by false = omega arith

-- so it may be put into what is enforced
pub within_set : (model : Program) (set enforced more : SetValue) {count : ℕ} → IsSetOf model enforced → IsSetOf model set → HasReached model set.members count enforced.members → IsFurther model set.members enforced.members more.members
    → set.members ≡ filter (has set.members) (possible_in set) → IsPartWithin enforced set.members more.members
within_set model set enforced more same whole h f possible = record {
  part_of = h.part;
  possible = possible ∙ ap (filter (has set.members)) (ap (λ n. members_for n set.columns) (whole.rows ∙ sym same.rows) ∙ ap (λ n. members_for enforced.rows n) (whole.columns ∙ sym same.columns));
  inside = inside_set model set.members enforced.members more.members f;
}
