-- Parts of a set by a test, and the shares of a combination arranged: what the loops over them keep.
use Rattle.std.proofs.Common.{◌≡◌, ◌<◌, ◌+◌, refl, sym, ◌∙◌, ap, ℕ, Bool, true, false, cond, not, ◌&&◌, ◌||◌, List, [], ◌∷◌, ◌++◌, take, get_or, length, filter}
use Rattle.std.specs.Prelude.{flat_map}
use Rattle.std.specs.List.{list_any}
use Rattle.std.proofs.Math.Bool.{and-false, or-false, or-true, or_assoc}
use Rattle.std.proofs.lemmas.List.Folds.{list_any_more}
use Rattle.lp_model.specs.declared.members.Member.{Member}
use Rattle.lp_model.specs.Members.{is_same, has}
use Rattle.lp_model.specs.MemberSets.{SetValue, possible_in, set_with}
use Rattle.lp_model.proofs.Sets.{same_members}
use Rattle.certs.specs.declared.evidence.Source.{Source}
use Rattle.certs.specs.declared.evidence.Source.TheVariants.{Member as Of, Below, Above}
use Rattle.certs.specs.declared.evidence.Share.{Share}
use Rattle.certs.specs.declared.evidence.Node.{Node}
use Rattle.certs.specs.Named.{IsPartBy, node_uses, used_set, is_member, is_below, is_above, on_column}
use Rattle.certs.specs.Violation.{is_of}
use Rattle.certs.proofs.HasLists.{agree_on, has_of_filter}

-- ---- filters of filters
-- a test after another, or both at once
pub filter_both : {A : Type 0} (p q : A → Bool) (xs : List A) → filter q (filter p xs) ≡ filter (λ x. p x && q x) xs
filter_both p q [] = refl
filter_both p q (x ∷ xs) = by (filter_both p q xs) (p x) refl
  where
    by : filter q (filter p xs) ≡ filter (λ x. p x && q x) xs → (b : Bool) → p x ≡ b → filter q (cond (p x) (x ∷ filter p xs) (filter p xs)) ≡ cond (p x && q x) (x ∷ filter (λ x. p x && q x) xs) (filter (λ x. p x && q x) xs)
    by rest true e = rw e (ap (λ ys. cond (q x) (x ∷ ys) ys) rest)
    by rest false e = rw e rest

-- nothing passes a test that is never passed
filter_none : {A : Type 0} (p : A → Bool) (xs : List A) → ((x : A) → p x ≡ false) → filter p xs ≡ []
filter_none p [] h = refl
filter_none p (x ∷ xs) h = ap (λ b. cond b (x ∷ filter p xs) (filter p xs)) (h x) ∙ filter_none p xs h

-- ---- parts of a set by a test
-- by tests that agree, the same part
part_ext : (set used : SetValue) (p q : Member → Bool) → ((m : Member) → (has set.members m && p m) ≡ (has set.members m && q m)) → IsPartBy set p used → IsPartBy set q used
part_ext set used p q h is = is ∙ ap (λ (l : List Member). record set { members = l }) (agree_on (λ m. has set.members m && p m) (λ m. has set.members m && q m) (possible_in set) (λ m c. h m))

-- a member of the set is put in
pub part_with : (set used : SetValue) (test : Member → Bool) (m : Member) → has set.members m ≡ true → IsPartBy set test used → IsPartBy set (λ n. test n || is_same n m) (set_with used m)
part_with set used test m there is = ap (λ (u : SetValue). set_with u m) is ∙ ap (λ (l : List Member). record set { members = l }) (agree_on _ _ (possible_in set) (λ n c.
    ap (λ b. is_same n m || b) (has_of_filter (λ k. has set.members k && test k) (possible_in set) n c) ∙ by n (is_same n m) refl (test n)))
  where
    by : (n : Member) (s : Bool) → is_same n m ≡ s → (t : Bool) → (is_same n m || (has set.members n && t)) ≡ (has set.members n && (t || is_same n m))
    by n true e t = rw (e, (ap (has set.members) (same_members n m e) ∙ there)) (sym (or-true t))
    by n false e t = rw e (ap (λ b. has set.members n && b) (sym (or-false t)))

-- one that the set does not have changes nothing
pub part_same : (set used : SetValue) (test : Member → Bool) (m : Member) → has set.members m ≡ false → IsPartBy set test used → IsPartBy set (λ n. test n || is_same n m) used
part_same set used test m gone is = part_ext set used test (λ n. test n || is_same n m) (λ n. by n (is_same n m) refl (test n)) is
  where
    by : (n : Member) (s : Bool) → is_same n m ≡ s → (t : Bool) → (has set.members n && t) ≡ (has set.members n && (t || is_same n m))
    by n true e t = rw (ap (has set.members) (same_members n m e) ∙ gone) refl
    by n false e t = rw e (ap (λ b. has set.members n && b) (sym (or-false t)))

-- no member is used yet
pub part_none : (set : SetValue) → IsPartBy set (λ m. false) (record set { members = [] })
part_none set = ap (λ (l : List Member). record set { members = l }) (sym (filter_none (λ m. has set.members m && false) (possible_in set) (λ m. and-false (has set.members m))))

-- the members that are used, as a list of the set's
pub part_all : (set used : SetValue) (nodes : List Node) → set.members ≡ filter (has set.members) (possible_in set) → IsPartBy set (λ m. list_any (node_uses m) nodes) used → used ≡ used_set set nodes
part_all set used nodes possible is =
    is ∙ ap (λ (l : List Member). record set { members = l }) (sym (filter_both (has set.members) (λ m. list_any (node_uses m) nodes) (possible_in set)) ∙ ap (filter (λ m. list_any (node_uses m) nodes)) (sym possible))

-- a list of things that use members: one more
pub part_more : {A : Type 0} (uses : Member → A → Bool) (xs : List A) (i : ℕ) (x : A) (set used : SetValue) (test : Member → Bool) → i < length xs → x ≡ get_or xs i x
    → IsPartBy set (λ m. (test m || list_any (uses m) (take i xs)) || uses m x) used → IsPartBy set (λ m. test m || list_any (uses m) (take (i + 1) xs)) used
part_more uses xs i x set used test l is part =
    part_ext set used (λ m. (test m || list_any (uses m) (take i xs)) || uses m x) (λ m. test m || list_any (uses m) (take (i + 1) xs))
    (λ m. ap (λ b. has set.members m && b) (or_assoc (test m) (list_any (uses m) (take i xs)) (uses m x)
    ∙ ap (λ b. test m || b) (ap (λ z. list_any (uses m) (take i xs) || uses m z) is ∙ sym (list_any_more (uses m) xs i x l))))
    part

-- a test that nothing passes adds nothing
pub part_plain : (set used : SetValue) (test none : Member → Bool) → ((m : Member) → none m ≡ false) → IsPartBy set test used → IsPartBy set (λ m. test m || none m) used
part_plain set used test none h is = part_ext set used test (λ m. test m || none m) (λ m. ap (λ b. has set.members m && b) (sym (or-false (test m)) ∙ ap (λ b. test m || b) (sym (h m)))) is

-- a source that is no member names none
pub names_none : (source : Source) → ((n : Member) → source ≡ Of n → ⊥) → (m : Member) → is_of m source ≡ false
names_none (Of n) h m = absurd (h n refl)
names_none (Below j) h m = refl
names_none (Above j) h m = refl

-- ---- shares arranged
-- what passes of those that are not of members
among_branches : (p : Source → Bool) → ((m : Member) → p (Of m) ≡ false) → (xs : List Share) → filter (λ s. p s.source) (filter (λ s. not (is_member s.source)) xs) ≡ filter (λ s. p s.source) xs
among_branches p h xs = filter_both (λ s. not (is_member s.source)) (λ s. p s.source) xs ∙ agree_on (λ s. not (is_member s.source) && p s.source) (λ s. p s.source) xs (λ s c. by s.source)
  where
    by : (source : Source) → (not (is_member source) && p source) ≡ p source
    by (Of m) = sym (h m)
    by (Below j) = refl
    by (Above j) = refl

column_among : (xs : List Share) (j : ℕ) → on_column (filter (λ s. not (is_member s.source)) xs) j ≡ on_column xs j
column_among xs j =
    ap (λ l. l ++ filter (λ s. is_above j s.source) (filter (λ s. not (is_member s.source)) xs)) (among_branches (is_below j) (λ m. refl) xs)
    ∙ ap (λ l. filter (λ s. is_below j s.source) xs ++ l) (among_branches (is_above j) (λ m. refl) xs)

-- those on columns are the same among branches alone
pub columns_among : (xs : List Share) (js : List ℕ) → flat_map (on_column (filter (λ s. not (is_member s.source)) xs)) js ≡ flat_map (on_column xs) js
columns_among xs [] = refl
columns_among xs (j ∷ js) = ap (λ l. l ++ flat_map (on_column (filter (λ s. not (is_member s.source)) xs)) js) (column_among xs j) ∙ ap (λ l. on_column xs j ++ l) (columns_among xs js)
