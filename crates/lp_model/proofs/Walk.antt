-- The members of a set, one after another.
use Rattle.std.proofs.Common.{◌≡◌, ◌<◌, refl, sym, ◌∙◌, ap, subst, ℕ, zero, suc, ◌*◌, ◌/◌, ◌%◌, ◌==◌, Bool, true, false, cond, not, List, [], ◌∷◌, ◌++◌, length, filter, find, Option, Some, None, arith}
use Rattle.std.specs.Prelude.{All, Contains}
use Rattle.std.proofs.lemmas.List.Elements.{All-head, All-tail, All-nil, All-append, All-push, All-filter, All-weaker, All-contains}
use Rattle.lp_model.specs.declared.members.Member.{Member}
use Rattle.lp_model.specs.declared.members.Member.TheVariants.{Lower, Upper, Whole}
use Rattle.lp_model.specs.Members.{comes_before, is_same, numbered, row_side, IsInOrder, has}
use Rattle.lp_model.specs.declared.members.Member.TheVariants.{RowLo, RowUp}
use Rattle.lp_model.proofs.Orders.{over, back, not_itself, before_differs, after_differs}
use Rattle.lp_model.proofs.Sets.{pairs_head, pairs_tail, same_self}
use Rattle.lp_model.specs.MemberSets.{SetValue, IsMemberFor, IsPossibleIn, members_for, possible_in, follows, next_after}

-- ---- lists in order
pub order_head : (m : Member) (list : List Member) → IsInOrder (m ∷ list) → All (λ n. comes_before m n ≡ true) list
order_head m list h = pairs_head (λ a b. comes_before a b ≡ true) m list h

pub order_tail : (m : Member) (list : List Member) → IsInOrder (m ∷ list) → IsInOrder list
order_tail m list h = pairs_tail (λ a b. comes_before a b ≡ true) m list h

-- a test that each passes keeps all
pub keeps_all : (test : Member → Bool) (list : List Member) → All (λ n. test n ≡ true) list → filter test list ≡ list
keeps_all test [] h = refl
keeps_all test (n ∷ list) h = ap (λ b. cond b (n ∷ filter test list) (filter test list)) (All-head (λ m. test m ≡ true) n list h) ∙ ap (λ l. n ∷ l) (keeps_all test list (All-tail (λ m. test m ≡ true) n list h))

-- a member in the middle of a list
pub in_middle : (front : List Member) (m : Member) (back : List Member) → Contains (front ++ m ∷ back) m
in_middle [] m back = (0, (let l : 0 < suc (length back) = omega arith in l), refl)
in_middle (k ∷ front) m back = let c : Contains (front ++ m ∷ back) m = in_middle front m back in (suc c.0, (let g : c.0 < length (front ++ m ∷ back) = c.1 in let l : suc c.0 < suc (length (front ++ m ∷ back)) = omega arith in l), c.2)

-- a list in order without one of its members
pub list_without : (front : List Member) (m : Member) (back : List Member) → IsInOrder (front ++ m ∷ back) → filter (λ n. not (is_same n m)) (front ++ m ∷ back) ≡ front ++ back
list_without [] m back h =
    ap (λ b. cond (not b) (m ∷ filter (λ n. not (is_same n m)) back) (filter (λ n. not (is_same n m)) back)) (same_self m)
    ∙ keeps_all (λ n. not (is_same n m)) back (All-weaker (λ n. comes_before m n ≡ true) (λ n. not (is_same n m) ≡ true) (λ n k. ap not (after_differs m n k)) back (order_head m back h))
list_without (n ∷ front) m back h =
    ap (λ b. cond (not b) (n ∷ filter (λ n. not (is_same n m)) (front ++ m ∷ back)) (filter (λ n. not (is_same n m)) (front ++ m ∷ back)))
    (before_differs n m (All-contains (λ k. comes_before n k ≡ true) (front ++ m ∷ back) m (order_head n (front ++ m ∷ back) h) (in_middle front m back)))
    ∙ ap (λ l. n ∷ l) (list_without front m back (order_tail n (front ++ m ∷ back) h))

-- what a look-up gives, by the first test
looked : (test : Member → Bool) (n : Member) (list : List Member) (o : Option Member) (b : Bool) → test n ≡ b → find test (n ∷ list) ≡ o → cond b (Some n) (find test list) ≡ o
looked test n list o b t e = ap (λ c. cond c (Some n) (find test list)) (sym t) ∙ e

kept : (test : Member → Bool) (n : Member) (list : List Member) (b : Bool) → test n ≡ b → filter test (n ∷ list) ≡ cond b (n ∷ filter test list) (filter test list)
kept test n list b t = ap (λ c. cond c (n ∷ filter test list) (filter test list)) t

same_some : (m n : Member) → Some m ≡ Some n → m ≡ n
same_some m n e = cc

-- what is found is in the list
pub found_in : (test : Member → Bool) (list : List Member) (m : Member) → find test list ≡ Some m → (P : Member → Type 0) → All P list → P m
found_in test [] m e P h = absurd (cc)
found_in test (n ∷ list) m e P h = by (test n) refl (λ rest. found_in test list m rest P (All-tail P n list h))
  where
    by : (b : Bool) → test n ≡ b → (find test list ≡ Some m → P m) → P m
    by true t rest = subst P (same_some n m (looked test n list (Some m) true t e)) (All-head P n list h)
    by false t rest = rest (looked test n list (Some m) false t e)

-- what comes after a member that follows follows too
later : (after : Option Member) (n k : Member) → follows after n ≡ true → comes_before n k ≡ true → follows after k ≡ true
later None n k t h = refl
later (Some a) n k t h = over a n k t h

-- after the one that is found comes what follows it
pub next_step : (after : Option Member) (list : List Member) (m : Member) → IsInOrder list → find (follows after) list ≡ Some m → filter (follows after) list ≡ m ∷ filter (follows (Some m)) list
next_step after [] m order e = absurd (cc)
next_step after (n ∷ list) m order e = by (follows after n) refl (λ rest. next_step after list m (order_tail n list order) rest)
  where
    tail : All (λ k. comes_before n k ≡ true) list
    tail = order_head n list order

    never : follows (Some m) m ≡ false
    never = not_itself m

    by : (b : Bool) → follows after n ≡ b → (find (follows after) list ≡ Some m → filter (follows after) list ≡ m ∷ filter (follows (Some m)) list) → filter (follows after) (n ∷ list) ≡ m ∷ filter (follows (Some m)) (n ∷ list)
    by true t rest =
        let same = same_some n m (looked (follows after) n list (Some m) true t e) in
        let all = keeps_all (follows after) list (All-weaker (λ k. comes_before n k ≡ true) (λ k. follows after k ≡ true) (λ k h. later after n k t h) list tail) in
        let own = keeps_all (follows (Some n)) list tail in
        kept (follows after) n list true t ∙ ap (λ l. n ∷ l) (all ∙ sym own)
        ∙ ap (λ k. k ∷ filter (follows (Some k)) list) same
        ∙ ap (λ l. m ∷ l) (sym (kept (follows (Some m)) n list false (subst (λ (k : Member). follows (Some m) k ≡ false) (sym same) never)))
    by false t rest =
        let found = looked (follows after) n list (Some m) false t e in
        let before = found_in (follows after) list m found (λ k. comes_before n k ≡ true) tail in
        kept (follows after) n list false t ∙ rest found ∙ ap (λ l. m ∷ l) (sym (kept (follows (Some m)) n list false (back n m before)))

-- at the end nothing follows
pub none_follow : (after : Option Member) (list : List Member) → find (follows after) list ≡ None → filter (follows after) list ≡ []
none_follow after [] e = refl
none_follow after (n ∷ list) e = by (follows after n) refl (λ rest. none_follow after list rest)
  where
    by : (b : Bool) → follows after n ≡ b → (find (follows after) list ≡ None → filter (follows after) list ≡ []) → filter (follows after) (n ∷ list) ≡ []
    by true t rest = let wrong : Some n ≡ None = looked (follows after) n list None true t e in absurd (cc)
    by false t rest = kept (follows after) n list false t ∙ rest (looked (follows after) n list None false t e)

-- at the start all follow
pub all_follow : (list : List Member) → filter (follows None) list ≡ list
all_follow list = keeps_all (follows None) list (λ k d l. refl)

-- ---- possible members
numbered_all : (P : Member → Type 0) (make : ℕ → Member) (n : ℕ) → ((i : ℕ) → i < n → P (make i)) → All P (numbered make n)
numbered_all P make zero h = All-nil P
numbered_all P make (suc n) h = All-push P (numbered make n) (make n) (numbered_all P make n (λ i l. h i (omega arith))) (h n (omega arith))

side_possible : (rows columns k : ℕ) → k < 2 * rows → IsMemberFor rows columns (row_side k)
side_possible rows columns k l = by (k % 2 == 0)
  where
    by : (b : Bool) → IsMemberFor rows columns (cond b (RowLo (k / 2)) (RowUp (k / 2)))
    by true = omega arith
    by false = omega arith

possible_all : (rows columns : ℕ) → All (IsMemberFor rows columns) (members_for rows columns)
possible_all rows columns =
    let P = IsMemberFor rows columns in
    All-append P (numbered row_side (2 * rows)) (numbered Lower columns ++ (numbered Upper columns ++ numbered Whole columns)) (numbered_all P row_side (2 * rows) (λ i l. side_possible rows columns i l))
    (All-append P (numbered Lower columns) (numbered Upper columns ++ numbered Whole columns) (numbered_all P Lower columns (λ i l. l))
    (All-append P (numbered Upper columns) (numbered Whole columns) (numbered_all P Upper columns (λ i l. l)) (numbered_all P Whole columns (λ i l. l))))

-- the next member is a possible one
pub next_possible : (set : SetValue) (after : Option Member) (m : Member) → set.members ≡ filter (has set.members) (possible_in set) → next_after set after ≡ Some m → IsPossibleIn set m
next_possible set after m is e =
    let all = subst (All (IsPossibleIn set)) (sym is) (All-filter (has set.members) (IsPossibleIn set) (possible_in set) (possible_all set.rows set.columns)) in
    found_in (follows after) set.members m e (IsPossibleIn set) all
