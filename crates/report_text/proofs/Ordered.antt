-- Lists of members in order: two with the same members are one, and what the possible members are that a list has.
use Rattle.std.proofs.Common.{◌≡◌, refl, sym, ap, subst, ◌∙◌, ℕ, suc, ◌+◌, ◌<◌, Bool, true, false, true≢false, ◌||◌, List, [], ◌∷◌, ◌++◌, length, take, get_or, filter, arith, ◌⊎◌, inl, inr}
use Rattle.std.specs.Prelude.{All, IsTrue}
use Rattle.std.proofs.lemmas.Bool.{or_cases, or_left, or_right}
use Rattle.std.proofs.lemmas.List.{take_more}
use Rattle.std.proofs.lemmas.List.Elements.{All-contains, filter_passes}
use Rattle.std.proofs.lemmas.List.Kept.{AllPairs-filter}
use Rattle.lp_model.specs.declared.members.Member.{Member}
use Rattle.lp_model.specs.Members.{comes_before, is_same, has, IsInOrder}
use Rattle.lp_model.specs.MemberSets.{IsMemberFor, members_for}
use Rattle.lp_model.proofs.Sets.{same_members, same_self, contains_of_has, has_of_contains, Contains-filter, possible_in_order}
use Rattle.lp_model.proofs.Marked.{possible_of, filter_agree_on, has_filter}
use Rattle.lp_model.proofs.Orders.{back, not_itself}

-- what stands behind the head comes after it
behind : (x m : Member) (xs : List Member) → IsInOrder (x ∷ xs) → has xs m ≡ true → comes_before x m ≡ true
behind x m xs order h = All-contains (λ n. comes_before x n ≡ true) xs m (λ k d l. order 0 (suc k) d (omega arith) (omega arith)) (contains_of_has xs m h)

in_tail : (x : Member) (xs : List Member) → IsInOrder (x ∷ xs) → IsInOrder xs
in_tail x xs order i j d l m = order (suc i) (suc j) d (omega arith) (omega arith)

has_head : (x : Member) (xs : List Member) → has (x ∷ xs) x ≡ true
has_head x xs = or_left (is_same x x) (has xs x) (same_self x)

-- the heads of two lists in order with the same members
one_head : (x y : Member) (xs ys : List Member) → IsInOrder (x ∷ xs) → IsInOrder (y ∷ ys) → has (y ∷ ys) x ≡ true → has (x ∷ xs) y ≡ true → x ≡ y
one_head x y xs ys p q h k = by (or_cases (is_same y x) (has ys x) h) (or_cases (is_same x y) (has xs y) k)
  where
    by : (is_same y x ≡ true) ⊎ (has ys x ≡ true) → (is_same x y ≡ true) ⊎ (has xs y ≡ true) → x ≡ y
    by (inl s) r = sym (same_members y x s)
    by (inr s) (inl r) = same_members x y r
    by (inr s) (inr r) = absurd (true≢false (sym (behind y x ys q s) ∙ back x y (behind x y xs p r)))

-- a member of the tail is one of the other's tail
moved : (x y m : Member) (xs ys : List Member) → IsInOrder (x ∷ xs) → x ≡ y → has xs m ≡ true → has (y ∷ ys) m ≡ true → has ys m ≡ true
moved x y m xs ys p e h k = by (or_cases (is_same y m) (has ys m) k)
  where
    by : (is_same y m ≡ true) ⊎ (has ys m ≡ true) → has ys m ≡ true
    by (inr r) = r
    by (inl s) = absurd (true≢false (sym (subst (λ (n : Member). comes_before x n ≡ true) (sym (same_members y m s) ∙ sym e) (behind x m xs p h)) ∙ not_itself x))

pub one_list : (xs ys : List Member) → IsInOrder xs → IsInOrder ys → ((m : Member) → has xs m ≡ true → has ys m ≡ true) → ((m : Member) → has ys m ≡ true → has xs m ≡ true) → xs ≡ ys
one_list [] [] p q f g = refl
one_list [] (y ∷ ys) p q f g = absurd (true≢false (sym (g y (has_head y ys))))
one_list (x ∷ xs) [] p q f g = absurd (true≢false (sym (f x (has_head x xs))))
one_list (x ∷ xs) (y ∷ ys) p q f g =
    let e = one_head x y xs ys p q (f x (has_head x xs)) (g y (has_head y ys)) in
    let rest : xs ≡ ys = one_list xs ys (in_tail x xs p) (in_tail y ys q)
    (λ m h. moved x y m xs ys p e h (f m (or_right (is_same x m) (has xs m) h)))
    (λ m h. moved y x m ys xs q (sym e) h (g m (or_right (is_same y m) (has ys m) h))) in
    ap (λ z. z ∷ xs) e ∙ ap (λ l. y ∷ l) rest

-- ---- one member more
pub has_push : (xs : List Member) (m n : Member) → has (xs ++ m ∷ []) n ≡ (is_same m n || has xs n)
has_push [] m n = refl
has_push (x ∷ xs) m n = ap (λ b. is_same x n || b) (has_push xs m n) ∙ exchanged (is_same x n) (is_same m n) (has xs n)
  where
    exchanged : (a b c : Bool) → (a || (b || c)) ≡ (b || (a || c))
    exchanged true true c = refl
    exchanged true false c = refl
    exchanged false b c = refl

pub same_flip : (m n : Member) → is_same m n ≡ true → is_same n m ≡ true
same_flip m n h = subst (λ (k : Member). is_same k m ≡ true) (same_members m n h) (same_self m)

-- two members are the same either way
same_swap : (m n : Member) → is_same m n ≡ is_same n m
same_swap m n = by (is_same m n) (is_same n m) (same_flip m n) (same_flip n m)
  where
    by : (a b : Bool) → (a ≡ true → b ≡ true) → (b ≡ true → a ≡ true) → a ≡ b
    by true b f g = sym (f refl)
    by false true f g = g refl
    by false false f g = refl

module _ (rows columns : ℕ) where
  all : List Member
  all = members_for rows columns

  -- those of a list in order are the list
  pub listed_all : (xs : List Member) → All (IsMemberFor rows columns) xs → IsInOrder xs → xs ≡ filter (has xs) (members_for rows columns)
  unfolding all
  listed_all xs possible order =
      one_list xs (filter (has xs) all) order (AllPairs-filter (λ a b. IsTrue (comes_before a b)) (has xs) all (possible_in_order rows columns))
      (λ n h. has_of_contains (filter (has xs) all) n (Contains-filter (has xs) all n (possible_of rows columns n (All-contains (IsMemberFor rows columns) xs n possible (contains_of_has xs n h))) h))
      (λ n h. All-contains (λ k. has xs k ≡ true) (filter (has xs) all) n (filter_passes (has xs) all) (contains_of_has (filter (has xs) all) n h))

  -- with one member more
  pub listed_more : (xs : List Member) (i : ℕ) (d : Member) → i < length xs → filter (λ n. is_same n (get_or xs i d) || has (filter (has (take i xs)) (members_for rows columns)) n) (members_for rows columns) ≡ filter (has (take (i + 1) xs)) (members_for rows columns)
  unfolding all
  listed_more xs i d l =
      let m = get_or xs i d in
      filter_agree_on _ _ all
      (λ n c. ap (λ b. is_same n m || b) (has_filter (has (take i xs)) all n c) ∙ ap (λ b. b || has (take i xs) n) (same_swap n m) ∙ sym (has_push (take i xs) m n) ∙ ap (λ ys. has ys n) (sym (take_more xs i d l)))

  -- of no list there are none
  pub listed_none : filter (has []) (members_for rows columns) ≡ []
  listed_none = none (members_for rows columns)
    where
      none : (xs : List Member) → filter (has []) xs ≡ []
      none [] = refl
      none (x ∷ xs) = none xs
