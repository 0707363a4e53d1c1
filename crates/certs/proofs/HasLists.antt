-- Filters of lists of members: where two tests give the same, and what a filtered list has.
use Rattle.std.proofs.Common.{◌≡◌, ◌<◌, refl, sym, ◌∙◌, ap, suc, Bool, true, false, true≢false, cond, not, ◌||◌, List, [], ◌∷◌, length, filter, arith}
use Rattle.std.specs.Prelude.{Contains}
use Rattle.lp_model.specs.declared.members.Member.{Member}
use Rattle.lp_model.specs.Members.{is_same, has}
use Rattle.lp_model.specs.MemberSets.{SetValue, possible_in, set_with, set_without}
use Rattle.lp_model.proofs.Sets.{same_members, has_of_contains}

-- tests that agree on the elements give one list
pub agree_on : {A : Type 0} (p q : A → Bool) (xs : List A) → ((x : A) → Contains xs x → p x ≡ q x) → filter p xs ≡ filter q xs
agree_on p q [] h = refl
agree_on p q (x ∷ xs) h =
    let e : p x ≡ q x = h x (0, (let l : 0 < suc (length xs) = omega arith in l), refl) in
    let rest : filter p xs ≡ filter q xs = agree_on p q xs (λ y c. h y (suc c.0, (let k : c.0 < length xs = c.1 in let l : suc c.0 < suc (length xs) = omega arith in l), c.2)) in
    ap (λ b. cond b (x ∷ filter p xs) (filter p xs)) e ∙ ap (λ ys. cond (q x) (x ∷ ys) ys) rest

-- what a filter keeps, the list has just where it has it before
pub has_kept : (test : Member → Bool) (list : List Member) (n : Member) → test n ≡ true → has (filter test list) n ≡ has list n
has_kept test [] n t = refl
has_kept test (x ∷ list) n t = by (has_kept test list n t) (test x) refl (is_same x n) refl
  where
    by : has (filter test list) n ≡ has list n → (b : Bool) → test x ≡ b → (s : Bool) → is_same x n ≡ s → has (cond (test x) (x ∷ filter test list) (filter test list)) n ≡ (is_same x n || has list n)
    by rest true e s k = ap (λ c. has (cond c (x ∷ filter test list) (filter test list)) n) e ∙ ap (λ c. is_same x n || c) rest
    by rest false e true k = absurd (true≢false (sym t ∙ (ap test (sym (same_members x n k)) ∙ e)))
    by rest false e false k = ap (λ c. has (cond c (x ∷ filter test list) (filter test list)) n) e ∙ (rest ∙ ap (λ c. c || has list n) (sym k))

-- what it does not keep, it has not
pub never_has : (test : Member → Bool) (list : List Member) (m : Member) → test m ≡ false → has (filter test list) m ≡ false
never_has test [] m e = refl
never_has test (x ∷ list) m e = by (never_has test list m e) (test x) refl (is_same x m) refl
  where
    by : has (filter test list) m ≡ false → (b : Bool) → test x ≡ b → (s : Bool) → is_same x m ≡ s → has (cond (test x) (x ∷ filter test list) (filter test list)) m ≡ false
    by rest false t s k = ap (λ d. has (cond d (x ∷ filter test list) (filter test list)) m) t ∙ rest
    by rest true t true k = absurd (true≢false (sym t ∙ (ap test (same_members x m k) ∙ e)))
    by rest true t false k = ap (λ d. has (cond d (x ∷ filter test list) (filter test list)) m) t ∙ (ap (λ d. d || has (filter test list) m) k ∙ rest)

-- a filtered list has what passes of the list
pub has_of_filter : (test : Member → Bool) (list : List Member) (m : Member) → Contains list m → has (filter test list) m ≡ test m
has_of_filter test list m c = by (test m) refl
  where
    by : (b : Bool) → test m ≡ b → has (filter test list) m ≡ test m
    by true e = has_kept test list m e ∙ (has_of_contains list m c ∙ sym e)
    by false e = never_has test list m e ∙ sym e

-- what is taken out of a set, and put back, leaves the set as it was
pub put_back : (set : SetValue) (m : Member) → set.members ≡ filter (has set.members) (possible_in set) → has set.members m ≡ true → set_with (set_without set m) m ≡ set
put_back set m is there = ap (λ (l : List Member). record set { members = l }) (agree_on (λ n. is_same n m || has (set_without set m).members n) (has set.members) (possible_in set) (λ n c. by n (is_same n m) refl) ∙ sym is)
  where
    by : (n : Member) (b : Bool) → is_same n m ≡ b → (is_same n m || has (set_without set m).members n) ≡ has set.members n
    by n true e = ap (λ c. c || has (set_without set m).members n) e ∙ (sym there ∙ ap (has set.members) (sym (same_members n m e)))
    by n false e = ap (λ c. c || has (set_without set m).members n) e ∙ has_kept (λ k. not (is_same k m)) set.members n (ap not e)
