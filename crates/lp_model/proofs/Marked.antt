-- The members that a list of marks gives, by their places among the possible members.
use Rattle.std.proofs.Common.{◌≡◌, ◌<◌, ◌≤◌, ◌+◌, ◌-◌, ◌*◌, ◌/◌, ◌%◌, refl, sym, ◌∙◌, ap, subst, ℕ, zero, suc, Bool, true, false, true≢false, cond, not, ◌&&◌, ◌||◌, ltb, List, [], ◌∷◌, ◌++◌, length, get_or, map, take, drop, replicate, filter, arith, inl, inr, length-append, lt-ltb, Option, Some, None, drop-cons, add-one, eqb, sum_by, ◌^◌}
use Rattle.std.proofs.lemmas.Bool.{cases_lt, cases_Bool, le-ltb, eq-eqb, ne_eqb, cond-true, cond-false, and_from, and_left, and_right}
use Rattle.std.proofs.lemmas.List.{take_all, get_or_append_left, get_or-append-add}
use Rattle.std.proofs.lemmas.List.Elements.{filter_passes, All-contains}
use Rattle.std.proofs.lemmas.List.Filters.{length-filter_more}
use Rattle.std.proofs.lemmas.List.Kept.{AllPairs-filter}
use Rattle.std.proofs.Math.ListN.{drop_of_length-le}
use Rattle.std.specs.Int.{bit_at}
use Rattle.std.specs.Prelude.{Contains, MatchOption, ⊤, find, count_ones}
use Rattle.std.proofs.lemmas.Nat.Bits.{bit_at-zero}
use Rattle.lane_scan.specs.Bits.{bit_of, IsFirstBit}
use Rattle.lane_scan.proofs.Counts.{count_below, count_is}
use Rattle.lp_model.specs.Members.{Member, RowLo, RowUp, Lower, Upper, Whole, row_side, comes_before, is_same, has, numbered, IsInOrder}
use Rattle.lp_model.specs.MemberSets.{SetValue, members_for, IsMemberFor, follows, place_count, place_in, place_after, is_marked, marked_set, set_with, set_without, next_after, IsMarking}
use Rattle.lp_model.proofs.Sets.{row_side_lower, row_side_upper, same_members, same_self, contains_of_has, has_of_contains, Contains-filter, possible_in_order}

-- ---- lists
pub filter_agree_on : {A : Type 0} (p q : A → Bool) (xs : List A) → ((x : A) → Contains xs x → p x ≡ q x) → filter p xs ≡ filter q xs
filter_agree_on p q [] h = refl
filter_agree_on p q (x ∷ xs) h =
    let e : p x ≡ q x = h x (0, (let l : 0 < suc (length xs) = omega arith in l), refl) in
    let rest : filter p xs ≡ filter q xs = filter_agree_on p q xs (λ y c. h y (suc c.0, (let k : c.0 < length xs = c.1 in let l : suc c.0 < suc (length xs) = omega arith in l), c.2)) in
    ap (λ b. cond b (x ∷ filter p xs) (filter p xs)) e ∙ ap (λ ys. cond (q x) (x ∷ ys) ys) rest

filter_twice : {A : Type 0} (p q : A → Bool) (xs : List A) → filter q (filter p xs) ≡ filter (λ x. p x && q x) xs
filter_twice p q [] = refl
filter_twice {A} p q (x ∷ xs) = go (p x) (filter_twice p q xs)
  where
    go : (b : Bool) → filter q (filter p xs) ≡ filter (λ x. p x && q x) xs → filter q (cond b (x ∷ filter p xs) (filter p xs)) ≡ cond (b && q x) (x ∷ filter (λ x. p x && q x) xs) (filter (λ x. p x && q x) xs)
    go true rest = ap (λ ys. cond (q x) (x ∷ ys) ys) rest
    go false rest = rest

find_filter : {A : Type 0} (p q : A → Bool) (xs : List A) → find q (filter p xs) ≡ find (λ x. p x && q x) xs
find_filter p q [] = refl
find_filter {A} p q (x ∷ xs) = go (p x) (find_filter p q xs)
  where
    go : (b : Bool) → find q (filter p xs) ≡ find (λ x. p x && q x) xs → find q (cond b (x ∷ filter p xs) (filter p xs)) ≡ cond (b && q x) (Some x) (find (λ x. p x && q x) xs)
    go true rest = ap (λ o. cond (q x) (Some x) o) rest
    go false rest = rest

find_skips : {A : Type 0} (p : A → Bool) (xs : List A) (n : ℕ) (d : A) → ((k : ℕ) → k < n → k < length xs → p (get_or xs k d) ≡ false) → find p (drop n xs) ≡ find p xs
find_skips p [] zero d h = refl
find_skips p [] (suc n) d h = refl
find_skips p (x ∷ xs) zero d h = refl
find_skips p (x ∷ xs) (suc n) d h =
    let e : p x ≡ false = h 0 (omega arith) (let l : 0 < suc (length xs) = omega arith in l) in
    find_skips p xs n d (λ k l m. h (suc k) (omega arith) (let g : suc k < suc (length xs) = omega arith in g)) ∙ sym (ap (λ b. cond b (Some x) (find p xs)) e)

find_step : {A : Type 0} (p : A → Bool) (xs : List A) (n : ℕ) (d : A) → n < length xs → find p (drop n xs) ≡ cond (p (get_or xs n d)) (Some (get_or xs n d)) (find p (drop (suc n) xs))
find_step p xs n d l = ap (find p) (drop-cons xs n d l)

map_more : {A B : Type 0} (f : A → B) (xs : List A) (n : ℕ) (d : A) → n < length xs → map f (take (suc n) xs) ≡ map f (take n xs) ++ f (get_or xs n d) ∷ []
map_more f [] n d l = absurd (omega arith)
map_more f (x ∷ xs) zero d l = refl
map_more f (x ∷ xs) (suc n) d l = ap (λ ys. f x ∷ ys) (map_more f xs n d (let h : suc n < suc (length xs) = l in let g : n < length xs = omega arith in g))

-- ---- the possible members by their places
length-numbered : (make : ℕ → Member) (n : ℕ) → length (numbered make n) ≡ n
length-numbered make zero = refl
length-numbered make (suc n) =
    let e : length (numbered make n) ≡ n = length-numbered make n in
    let f : length (numbered make n ++ make n ∷ []) ≡ length (numbered make n) + 1 = length-append (numbered make n) (make n ∷ []) in
    let g : length (numbered make n ++ make n ∷ []) ≡ suc n = omega arith in g

numbered_at : (make : ℕ → Member) (n i : ℕ) (d : Member) → i < n → get_or (numbered make n) i d ≡ make i
numbered_at make zero i d l = absurd (omega arith)
numbered_at make (suc n) i d l =
    elim (cases_lt i n) [
      | inl h ↦ (let k : i < length (numbered make n) = (let e : length (numbered make n) ≡ n = length-numbered make n in omega arith) in get_or_append_left (numbered make n) (make n ∷ []) d i k ∙ numbered_at make n i d h)
      | inr h ↦ (let e : i ≡ length (numbered make n) + 0 = (let k : length (numbered make n) ≡ n = length-numbered make n in omega arith) in
          let f : n ≡ i = omega arith in
          ap (λ k. get_or (numbered make n ++ make n ∷ []) k d) e ∙ (get_or-append-add (numbered make n) (make n ∷ []) 0 d ∙ ap make f))
    ]

-- what stands after the numbered ones
after_numbered : (make : ℕ → Member) (n i : ℕ) (ys : List Member) (d : Member) → get_or (numbered make n ++ ys) (n + i) d ≡ get_or ys i d
after_numbered make n i ys d =
    ap (λ k. get_or (numbered make n ++ ys) (k + i) d) (sym (length-numbered make n)) ∙ get_or-append-add (numbered make n) ys i d

within_numbered : (make : ℕ → Member) (n i : ℕ) (ys : List Member) (d : Member) → i < n → get_or (numbered make n ++ ys) i d ≡ make i
within_numbered make n i ys d l =
    let e : length (numbered make n) ≡ n = length-numbered make n in
    let k : i < length (numbered make n) = omega arith in
    get_or_append_left (numbered make n) ys d i k ∙ numbered_at make n i d l

pub length-members_for : (rows columns : ℕ) → length (members_for rows columns) ≡ place_count rows columns
length-members_for rows columns =
    let a : length (numbered row_side (2 * rows)) ≡ 2 * rows = length-numbered row_side (2 * rows) in
    let b : length (numbered Lower columns) ≡ columns = length-numbered Lower columns in
    let c : length (numbered Upper columns) ≡ columns = length-numbered Upper columns in
    let d : length (numbered Whole columns) ≡ columns = length-numbered Whole columns in
    let e : length (numbered Upper columns ++ numbered Whole columns) ≡ length (numbered Upper columns) + length (numbered Whole columns) = length-append (numbered Upper columns) (numbered Whole columns) in
    let f : length (numbered Lower columns ++ (numbered Upper columns ++ numbered Whole columns)) ≡ length (numbered Lower columns) + length (numbered Upper columns ++ numbered Whole columns) = length-append (numbered Lower columns) (numbered Upper columns ++ numbered Whole columns) in
    let g : length (numbered row_side (2 * rows) ++ (numbered Lower columns ++ (numbered Upper columns ++ numbered Whole columns))) ≡ length (numbered row_side (2 * rows)) + length (numbered Lower columns ++ (numbered Upper columns ++ numbered Whole columns)) = length-append (numbered row_side (2 * rows)) (numbered Lower columns ++ (numbered Upper columns ++ numbered Whole columns)) in
    let h : length (numbered row_side (2 * rows) ++ (numbered Lower columns ++ (numbered Upper columns ++ numbered Whole columns))) ≡ 2 * rows + (columns + (columns + columns)) = omega arith in h

module _ (rows columns : ℕ) where
  -- a member stands at its place
  pub at_place : (m d : Member) → IsMemberFor rows columns m → get_or (members_for rows columns) (place_in rows columns m) d ≡ m
  at_place (RowLo i) d l = within_numbered row_side (2 * rows) (2 * i) _ d (omega arith) ∙ row_side_lower i
  at_place (RowUp i) d l = within_numbered row_side (2 * rows) (2 * i + 1) _ d (omega arith) ∙ row_side_upper i
  at_place (Lower j) d l = after_numbered row_side (2 * rows) j _ d ∙ within_numbered Lower columns j _ d l
  at_place (Upper j) d l = after_numbered row_side (2 * rows) (columns + j) _ d ∙ (after_numbered Lower columns j _ d ∙ within_numbered Upper columns j _ d l)
  at_place (Whole j) d l = after_numbered row_side (2 * rows) (columns + (columns + j)) _ d ∙ (after_numbered Lower columns (columns + j) _ d ∙ (after_numbered Upper columns j _ d ∙ numbered_at Whole columns j d l))

  -- each place has a member
  abbrev Stands : ℕ → Type 0
  Stands k = (m : Member) × (IsMemberFor rows columns m × (place_in rows columns m ≡ k))

  side_there : (k : ℕ) → k < 2 * rows → Stands k
  side_there k l = elim (cases_lt (k % 2) 1) [
    | inl h ↦ (RowLo (k / 2), ((let e : k / 2 < rows = omega arith in e), (let e : 2 * (k / 2) ≡ k = omega arith in e)))
    | inr h ↦ (RowUp (k / 2), ((let e : k / 2 < rows = omega arith in e), (let e : 2 * (k / 2) + 1 ≡ k = omega arith in e)))
  ]

  member_there : (k : ℕ) → k < place_count rows columns → Stands k
  member_there k l =
      elim (cases_lt k (2 * rows)) [
        | inl h ↦ side_there k h
        | inr h ↦ elim (cases_lt k (2 * rows + columns)) [
          | inl g ↦ (Lower (k - 2 * rows), ((let e : k - 2 * rows < columns = omega arith in e), (let e : 2 * rows + (k - 2 * rows) ≡ k = omega arith in e)))
          | inr g ↦ elim (cases_lt k (2 * rows + (columns + columns))) [
            | inl f ↦ (Upper (k - (2 * rows + columns)), ((let e : k - (2 * rows + columns) < columns = omega arith in e), (let e : 2 * rows + (columns + (k - (2 * rows + columns))) ≡ k = omega arith in e)))
            | inr f ↦ (Whole (k - (2 * rows + (columns + columns))), ((let e : k - (2 * rows + (columns + columns)) < columns = omega arith in e), (let e : 2 * rows + (columns + (columns + (k - (2 * rows + (columns + columns))))) ≡ k = omega arith in e)))
          ]
        ]
      ]

  -- the place of the member at a place is that place, and it is a member for these numbers
  pub place_at : (k : ℕ) (d : Member) → k < place_count rows columns → IsMemberFor rows columns (get_or (members_for rows columns) k d) × (place_in rows columns (get_or (members_for rows columns) k d) ≡ k)
  place_at k d l =
      let t : Stands k = member_there k l in
      let e : get_or (members_for rows columns) k d ≡ t.0 = ap (λ i. get_or (members_for rows columns) i d) (sym t.1.1) ∙ at_place t.0 d t.1.0 in
      (subst (IsMemberFor rows columns) (sym e) t.1.0, ap (place_in rows columns) e ∙ t.1.1)

  pub within_places : (m : Member) → IsMemberFor rows columns m → place_in rows columns m < place_count rows columns
  within_places (RowLo i) l = (let g : 2 * i < 2 * rows + (columns + (columns + columns)) = omega arith in g)
  within_places (RowUp i) l = (let g : 2 * i + 1 < 2 * rows + (columns + (columns + columns)) = omega arith in g)
  within_places (Lower j) l = (let g : 2 * rows + j < 2 * rows + (columns + (columns + columns)) = omega arith in g)
  within_places (Upper j) l = (let g : 2 * rows + (columns + j) < 2 * rows + (columns + (columns + columns)) = omega arith in g)
  within_places (Whole j) l = (let g : 2 * rows + (columns + (columns + j)) < 2 * rows + (columns + (columns + columns)) = omega arith in g)

  pub possible_of : (m : Member) → IsMemberFor rows columns m → Contains (members_for rows columns) m
  possible_of m l = (
    place_in rows columns m,
    subst (λ n. place_in rows columns m < n) (sym (length-members_for rows columns)) (within_places m l),
    at_place m m l,
  )

  pub possible_is : (m : Member) → Contains (members_for rows columns) m → IsMemberFor rows columns m
  possible_is m (k, l, e) = subst (IsMemberFor rows columns) e (place_at k m (subst (λ n. k < n) (length-members_for rows columns) l)).0

  -- two members at one place are one
  one_place : (m n : Member) → IsMemberFor rows columns m → IsMemberFor rows columns n → place_in rows columns m ≡ place_in rows columns n → m ≡ n
  one_place m n h k e = sym (at_place m m h) ∙ (ap (λ i. get_or (members_for rows columns) i m) e ∙ at_place n m k)

  -- ---- the order of members is that of their places
  shifted : (a i j : ℕ) → ltb i j ≡ ltb (a + i) (a + j)
  shifted a i j =
      elim (cases_lt i j) [
        | inl h ↦ lt-ltb i j h ∙ sym (lt-ltb (a + i) (a + j) (omega arith))
        | inr h ↦ le-ltb i j h ∙ sym (le-ltb (a + i) (a + j) (omega arith))
      ]

  pub before_is : (m n : Member) → IsMemberFor rows columns m → IsMemberFor rows columns n → comes_before m n ≡ ltb (place_in rows columns m) (place_in rows columns n)
  before_is (RowLo i) (RowLo j) h k = refl
  before_is (RowLo i) (RowUp j) h k = refl
  before_is (RowLo i) (Lower j) h k = sym (lt-ltb (2 * i) (2 * rows + j) (omega arith))
  before_is (RowLo i) (Upper j) h k = sym (lt-ltb (2 * i) (2 * rows + (columns + j)) (omega arith))
  before_is (RowLo i) (Whole j) h k = sym (lt-ltb (2 * i) (2 * rows + (columns + (columns + j))) (omega arith))
  before_is (RowUp i) (RowLo j) h k = refl
  before_is (RowUp i) (RowUp j) h k = refl
  before_is (RowUp i) (Lower j) h k = sym (lt-ltb (2 * i + 1) (2 * rows + j) (omega arith))
  before_is (RowUp i) (Upper j) h k = sym (lt-ltb (2 * i + 1) (2 * rows + (columns + j)) (omega arith))
  before_is (RowUp i) (Whole j) h k = sym (lt-ltb (2 * i + 1) (2 * rows + (columns + (columns + j))) (omega arith))
  before_is (Lower i) (RowLo j) h k = sym (le-ltb (2 * rows + i) (2 * j) (omega arith))
  before_is (Lower i) (RowUp j) h k = sym (le-ltb (2 * rows + i) (2 * j + 1) (omega arith))
  before_is (Lower i) (Lower j) h k = shifted (2 * rows) i j
  before_is (Lower i) (Upper j) h k = sym (lt-ltb (2 * rows + i) (2 * rows + (columns + j)) (omega arith))
  before_is (Lower i) (Whole j) h k = sym (lt-ltb (2 * rows + i) (2 * rows + (columns + (columns + j))) (omega arith))
  before_is (Upper i) (RowLo j) h k = sym (le-ltb (2 * rows + (columns + i)) (2 * j) (omega arith))
  before_is (Upper i) (RowUp j) h k = sym (le-ltb (2 * rows + (columns + i)) (2 * j + 1) (omega arith))
  before_is (Upper i) (Lower j) h k = sym (le-ltb (2 * rows + (columns + i)) (2 * rows + j) (omega arith))
  before_is (Upper i) (Upper j) h k = shifted columns i j ∙ shifted (2 * rows) (columns + i) (columns + j)
  before_is (Upper i) (Whole j) h k = sym (lt-ltb (2 * rows + (columns + i)) (2 * rows + (columns + (columns + j))) (omega arith))
  before_is (Whole i) (RowLo j) h k = sym (le-ltb (2 * rows + (columns + (columns + i))) (2 * j) (omega arith))
  before_is (Whole i) (RowUp j) h k = sym (le-ltb (2 * rows + (columns + (columns + i))) (2 * j + 1) (omega arith))
  before_is (Whole i) (Lower j) h k = sym (le-ltb (2 * rows + (columns + (columns + i))) (2 * rows + j) (omega arith))
  before_is (Whole i) (Upper j) h k = sym (le-ltb (2 * rows + (columns + (columns + i))) (2 * rows + (columns + j)) (omega arith))
  before_is (Whole i) (Whole j) h k = shifted columns i j ∙ (shifted columns (columns + i) (columns + j) ∙ shifted (2 * rows) (columns + (columns + i)) (columns + (columns + j)))

-- ---- what a filtered list has
pub has_filter : (test : Member → Bool) (xs : List Member) (m : Member) → Contains xs m → has (filter test xs) m ≡ test m
has_filter test xs m c = go (test m) refl (has (filter test xs) m) refl
  where
    go : (b : Bool) → test m ≡ b → (h : Bool) → has (filter test xs) m ≡ h → has (filter test xs) m ≡ test m
    go true e h k = has_of_contains (filter test xs) m (Contains-filter test xs m c e) ∙ sym e
    go false e false k = k ∙ sym e
    go false e true k = absurd (true≢false (sym (All-contains (λ a. test a ≡ true) (filter test xs) m (filter_passes test xs) (contains_of_has (filter test xs) m k)) ∙ e))

-- a filtered list is what it has of the list
pub is_what_it_has : (test : Member → Bool) (xs : List Member) → filter test xs ≡ filter (has (filter test xs)) xs
is_what_it_has test xs = filter_agree_on test (has (filter test xs)) xs (λ m c. sym (has_filter test xs m c))

abbrev pub set_of : ℕ → ℕ → List Member → SetValue
set_of rows columns members = record { rows = rows; columns = columns; members = members }

-- two members for these numbers stand at one place where they are one
same_at : (rows columns : ℕ) (n m : Member) → IsMemberFor rows columns n → IsMemberFor rows columns m → eqb (place_in rows columns n) (place_in rows columns m) ≡ is_same n m
same_at rows columns n m k l = elim (cases_Bool (is_same n m)) [
  | inl e ↦ eq-eqb (place_in rows columns n) (place_in rows columns m) (ap (place_in rows columns) (same_members n m e)) ∙ sym e
  | inr e ↦
      ne_eqb (place_in rows columns n) (place_in rows columns m)
      (λ p. true≢false (sym (subst (λ z. is_same z m ≡ true) (sym (one_place rows columns n m k l p)) (same_self m)) ∙ e))
      ∙ sym e
]

module _ (rows columns : ℕ) (words : List ℕ) where
  -- the bit of a member says whether it is in the set
  pub has_mark : (m : Member) → IsMemberFor rows columns m → has (marked_set rows columns words).members m ≡ is_marked rows columns words m
  has_mark m l = has_filter (is_marked rows columns words) (members_for rows columns) m (possible_of rows columns m l)

  -- the bit at a place is that of the member there
  mark_at : (k : ℕ) (d : Member) → k < place_count rows columns → is_marked rows columns words (get_or (members_for rows columns) k d) ≡ bit_of words k
  mark_at k d l = ap (bit_of words) (place_at rows columns k d l).1

  -- ---- one bit changed
  module _ (new : List ℕ) (m : Member) (b : Bool) (l : IsMemberFor rows columns m) (put : (k : ℕ) → bit_of new k ≡ cond (eqb k (place_in rows columns m)) b (bit_of words k)) where
    changed_mark : (n : Member) → IsMemberFor rows columns n → is_marked rows columns new n ≡ cond (is_same n m) b (is_marked rows columns words n)
    changed_mark n k = put (place_in rows columns n) ∙ ap (λ s. cond s b (is_marked rows columns words n)) (same_at rows columns n m k l)

    pub inserted : b ≡ true → marked_set rows columns new ≡ set_with (marked_set rows columns words) m
    inserted e =
        ap (set_of rows columns)
        (filter_agree_on (is_marked rows columns new) (λ n. is_same n m || has (marked_set rows columns words).members n) (members_for rows columns)
        (λ n c.
        let k : IsMemberFor rows columns n = possible_is rows columns n c in
        changed_mark n k ∙ (ap (λ t. cond (is_same n m) t (is_marked rows columns words n)) e
        ∙ (chosen (is_same n m) (is_marked rows columns words n) ∙ ap (λ t. is_same n m || t) (sym (has_mark n k))))))
      where
        chosen : (s t : Bool) → cond s true t ≡ (s || t)
        chosen true t = refl
        chosen false t = refl

    pub removed : b ≡ false → marked_set rows columns new ≡ set_without (marked_set rows columns words) m
    removed e =
        ap (set_of rows columns)
        (filter_agree_on (is_marked rows columns new) (λ n. is_marked rows columns words n && not (is_same n m)) (members_for rows columns)
        (λ n c. changed_mark n (possible_is rows columns n c) ∙ (ap (λ t. cond (is_same n m) t (is_marked rows columns words n)) e
        ∙ chosen (is_same n m) (is_marked rows columns words n)))
        ∙ sym (filter_twice (is_marked rows columns words) (λ n. not (is_same n m)) (members_for rows columns)))
      where
        chosen : (s t : Bool) → cond s false t ≡ (t && not s)
        chosen true true = refl
        chosen true false = refl
        chosen false true = refl
        chosen false false = refl

  -- ---- counting
  count_step : (k : ℕ) → k < place_count rows columns → length (filter (is_marked rows columns words) (take (k + 1) (members_for rows columns))) ≡ length (filter (is_marked rows columns words) (take k (members_for rows columns))) + cond (bit_of words k) 1 0
  count_step k l =
      length-filter_more (is_marked rows columns words) (members_for rows columns) k (RowLo 0) (subst (λ n. k < n) (sym (length-members_for rows columns)) l)
      ∙ ap (λ b. length (filter (is_marked rows columns words) (take k (members_for rows columns))) + cond b 1 0) (mark_at k (RowLo 0) l)

  counted_to : (k : ℕ) → k ≤ place_count rows columns → count_below (bit_of words) k ≡ length (filter (is_marked rows columns words) (take k (members_for rows columns)))
  counted_to zero l = refl
  counted_to (suc k) l =
      ap (λ n. n + cond (bit_of words k) 1 0) (counted_to k (omega arith))
      ∙ (sym (count_step k (omega arith)) ∙ ap (λ j. length (filter (is_marked rows columns words) (take j (members_for rows columns)))) (add-one k))

  -- how many bits are set is how many members there are
  pub counted : IsMarking rows columns words → ((k : ℕ) → get_or words k 0 < 2 ^ 64) → sum_by count_ones words ≡ length (marked_set rows columns words).members
  counted h fits =
      let all = length-members_for rows columns in
      count_is words (place_count rows columns) fits (let e = h.each in omega arith) (λ k low _. h.none_past k low)
      ∙ (counted_to (place_count rows columns) (omega arith)
      ∙ ap (λ ms. length (filter (is_marked rows columns words) ms)) (take_all (place_count rows columns) (members_for rows columns) (omega arith)))

  -- ---- the first after a member
  -- the test of the members that are in the set and come after
  abbrev pub wanted : Option Member → Member → Bool
  wanted after m = is_marked rows columns words m && follows after m

  -- the search in what stands from a place on
  abbrev pub found_from : Option Member → ℕ → Option Member
  found_from after k = find (wanted after) (drop k (members_for rows columns))

  pub found_is : (after : Option Member) → next_after (marked_set rows columns words) after ≡ found_from after 0
  found_is after = find_filter (is_marked rows columns words) (follows after) (members_for rows columns)

  -- the order by places
  follows_is : (after : Option Member) → MatchOption after ⊤ (IsMemberFor rows columns) → (m : Member) → IsMemberFor rows columns m → follows after m ≡ not (ltb (place_in rows columns m) (place_after rows columns after))
  follows_is None h m l = sym (ap not (le-ltb (place_in rows columns m) 0 (omega arith)))
  follows_is (Some a) h m l =
      before_is rows columns a m h l
      ∙ elim (cases_lt (place_in rows columns a) (place_in rows columns m)) [
        | inl g ↦ lt-ltb (place_in rows columns a) (place_in rows columns m) g ∙ sym (ap not (le-ltb (place_in rows columns m) (suc (place_in rows columns a)) (omega arith)))
        | inr g ↦ le-ltb (place_in rows columns a) (place_in rows columns m) g ∙ sym (ap not (lt-ltb (place_in rows columns m) (suc (place_in rows columns a)) (omega arith)))
      ]

  -- whether the member at a place is wanted
  wanted_at : (after : Option Member) → MatchOption after ⊤ (IsMemberFor rows columns) → (k : ℕ) (d : Member) → k < place_count rows columns → wanted after (get_or (members_for rows columns) k d) ≡ (bit_of words k && not (ltb k (place_after rows columns after)))
  wanted_at after h k d l =
      let t = place_at rows columns k d l in
      ap (λ b. b && follows after (get_or (members_for rows columns) k d)) (mark_at k d l)
      ∙ ap (λ b. bit_of words k && b) (follows_is after h (get_or (members_for rows columns) k d) t.0 ∙ ap (λ i. not (ltb i (place_after rows columns after))) t.1)

  -- the first bit from the first place after a member on
  module _ (after : Option Member) (h : MatchOption after ⊤ (IsMemberFor rows columns)) (place : ℕ) (first : IsFirstBit words (place_after rows columns after) place) where
    found_first : found_from after place ≡ found_from after 0
    found_first =
        find_skips (wanted after) (members_for rows columns) place (RowLo 0)
        (λ k l m.
        wanted_at after h k (RowLo 0) (subst (λ n. k < n) (length-members_for rows columns) m)
        ∙ elim (cases_lt k (place_after rows columns after)) [
          | inl g ↦ and_right (bit_of words k) _ (ap not (lt-ltb k (place_after rows columns after) g))
          | inr g ↦ and_left (bit_of words k) _ (first.none k g l)
        ])

    -- the member there comes next
    pub found_here : place < place_count rows columns → place_count rows columns ≤ 64 * length words → (m : Member) → IsMemberFor rows columns m → place ≡ place_in rows columns m → next_after (marked_set rows columns words) after ≡ Some m
    found_here l room m i p =
        let here : get_or (members_for rows columns) place (RowLo 0) ≡ m = ap (λ j. get_or (members_for rows columns) j (RowLo 0)) p ∙ at_place rows columns m (RowLo 0) i in
        found_is after
        ∙ (sym found_first
        ∙ (find_step (wanted after) (members_for rows columns) place (RowLo 0) (subst (λ n. place < n) (sym (length-members_for rows columns)) l)
        ∙ (cond-true (wanted after (get_or (members_for rows columns) place (RowLo 0))) _ _
        (wanted_at after h place (RowLo 0) l ∙ and_from (bit_of words place) _ (first.here (omega arith)) (ap not (le-ltb place (place_after rows columns after) first.low)))
        ∙ ap Some here)))

    -- past the last place none does
    pub found_none : place_count rows columns ≤ place → next_after (marked_set rows columns words) after ≡ None
    found_none l =
        found_is after
        ∙ (sym found_first
        ∙ ap (find (wanted after)) (drop_of_length-le (members_for rows columns) (subst (λ n. n ≤ place) (sym (length-members_for rows columns)) l)))

  pub in_order : IsInOrder (marked_set rows columns words).members
  in_order = AllPairs-filter (λ m n. comes_before m n ≡ true) (is_marked rows columns words) (members_for rows columns) (possible_in_order rows columns)

-- ---- where no bit is set
zero_bit : (n k : ℕ) → bit_of (replicate n 0) k ≡ false
zero_bit n k = ap (λ (w : ℕ). eqb (bit_at w (k % 64)) 1) (zero_at n (k / 64)) ∙ ap (λ (b : ℕ). eqb b 1) (bit_at-zero (k % 64))
  where
    zero_at : (n i : ℕ) → get_or {A = ℕ} (replicate n 0) i 0 ≡ 0
    zero_at zero i = refl
    zero_at (suc n) zero = refl
    zero_at (suc n) (suc i) = zero_at n i

pub no_marks : (rows columns n : ℕ) → filter (is_marked rows columns (replicate n 0)) (members_for rows columns) ≡ []
no_marks rows columns n = filter_none (members_for rows columns)
  where
    filter_none : (xs : List Member) → filter (is_marked rows columns (replicate n 0)) xs ≡ []
    filter_none [] = refl
    filter_none (m ∷ ms) = cond-false (is_marked rows columns (replicate n 0) m) _ _ (zero_bit n (place_in rows columns m)) ∙ filter_none ms
