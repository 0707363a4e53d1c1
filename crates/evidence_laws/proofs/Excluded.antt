-- Lists of members: which avoid what is out, what is left, and that lists in order with the same members are one.
use Rattle.std.proofs.Common.{◌≡◌, refl, sym, ◌∙◌, ap, subst, List, [], ◌∷◌, ◌++◌, ◌⊎◌, inl, inr, Bool, true, false, not, ◌||◌, cond, find, Some, None}
use Rattle.std.specs.Prelude.{All, Contains}
use Rattle.std.specs.List.{list_any}
use Rattle.std.proofs.lemmas.Bool.{or_cases, or_parts, or_from, or_left, or_right, true≢false}
use Rattle.std.proofs.lemmas.List.Elements.{All-cons, All-head, All-nil, All-tail, All-contains, All-contains_itself, All-filter, filter_passes}
use Rattle.std.proofs.lemmas.List.Folds.{list_any-append}
use Rattle.lp_model.specs.declared.members.Member.{Member}
use Rattle.lp_model.specs.Program.{Program}
use Rattle.lp_model.specs.Members.{comes_before, has, is_same, IsInOrder}
use Rattle.lp_model.specs.Satisfaction.{coordinate, IsPart, IsSatisfiable}
use Rattle.lp_model.proofs.Orders.{back, before_differs}
use Rattle.lp_model.proofs.Sets.{contains_of_has, has_of_contains, part_law, same_members, same_self}
use Rattle.lp_model.proofs.Walk.{order_head, order_tail}
use Rattle.certs.specs.Exclusions.{avoids, left_in}
use Rattle.certs.proofs.HasLists.{has_kept}

-- ---- lists
abbrev pub In : {X : Type 0} → List X → X → Type 0
In [] x = ⊥
In (y ∷ list) x = (y ≡ x) ⊎ In list x

pub in_left : {X : Type 0} (list more : List X) (x : X) → In list x → In (list ++ more) x
in_left [] more x h = absurd h
in_left (y ∷ list) more x (inl e) = inl e
in_left (y ∷ list) more x (inr h) = inr (in_left list more x h)

pub in_right : {X : Type 0} (list more : List X) (x : X) → In more x → In (list ++ more) x
in_right [] more x h = h
in_right (y ∷ list) more x h = inr (in_right list more x h)

pub all_in : {X : Type 0} (P : X → Type 0) (list : List X) → ((x : X) → In list x → P x) → All P list
all_in P [] h = All-nil P
all_in P (y ∷ list) h = All-cons P y list (h y (inl refl)) (all_in P list (λ x i. h x (inr i)))

pub in_all : {X : Type 0} (P : X → Type 0) (list : List X) (x : X) → All P list → In list x → P x
in_all P [] x h i = absurd i
in_all P (y ∷ list) x h (inl e) = subst P e (All-head P y list h)
in_all P (y ∷ list) x h (inr i) = in_all P list x (All-tail P y list h) i

pub clash : {Z : Type 0} (b : Bool) → b ≡ true → b ≡ false → Z
clash b t f = absurd (true≢false (sym t ∙ f))

not_parts : (b : Bool) → not b ≡ true → b ≡ false
not_parts true h = absurd (true≢false (sym h))
not_parts false h = refl

-- what a search gives is there, and passes
pub in_find : {X : Type 0} (p : X → Bool) (list : List X) (x : X) → find p list ≡ Some x → In list x × (p x ≡ true)
in_find p [] x e = absurd (let q : None ≡ Some x = e in cc)
in_find {X} p (y ∷ list) x e = by (in_find p list x) (p y) refl e
  where
    by : (find p list ≡ Some x → In list x × (p x ≡ true)) → (b : Bool) → p y ≡ b → cond b (Some y) (find p list) ≡ Some x → In (y ∷ list) x × (p x ≡ true)
    by further true t q = let r : y ≡ x = cc in (inl r, subst (λ z. p z ≡ true) r t)
    by further false f q = let rest : In list x × (p x ≡ true) = further q in (inr rest.0, rest.1)

-- and where it gives none, none passes
pub none_passes : {X : Type 0} (p : X → Bool) (list : List X) (x : X) → find p list ≡ None → In list x → p x ≡ false
none_passes p [] x e i = absurd i
none_passes {X} p (y ∷ list) x e i = by (none_passes p list x) (p y) refl e i
  where
    by : (find p list ≡ None → In list x → p x ≡ false) → (b : Bool) → p y ≡ b → cond b (Some y) (find p list) ≡ None → (y ≡ x) ⊎ In list x → p x ≡ false
    by further true t q i = absurd (let r : Some y ≡ None = q in cc)
    by further false f q (inl r) = subst (λ z. p z ≡ false) r f
    by further false f q (inr i) = further q i

-- ---- members
pub has_of_in : (k : List Member) (m : Member) → In k m → has k m ≡ true
has_of_in [] m h = absurd h
has_of_in (n ∷ k) m (inl e) = or_left (is_same n m) (has k m) (subst (λ z. is_same n z ≡ true) e (same_self n))
has_of_in (n ∷ k) m (inr h) = or_right (is_same n m) (has k m) (has_of_in k m h)

pub in_of_has : (k : List Member) (m : Member) → has k m ≡ true → In k m
in_of_has [] m h = absurd (true≢false (sym h))
in_of_has (n ∷ k) m h =
    elim (or_cases (is_same n m) (has k m) h) [
      | inl e ↦ inl (same_members n m e)
      | inr e ↦ inr (in_of_has k m e)
    ]

pub has_part : (part set : List Member) → IsPart part set → (m : Member) → has part m ≡ true → has set m ≡ true
has_part part set h m e = has_of_contains set m (All-contains (Contains set) part m h (contains_of_has part m e))

pub part_of_has : (part set : List Member) → ((m : Member) → has part m ≡ true → has set m ≡ true) → IsPart part set
part_of_has part set h = all_in (Contains set) part (λ m i. contains_of_has set m (h m (has_of_in part m i)))

-- what satisfies a set satisfies its parts
pub part_can : (model : Program) (set part : List Member) → ((m : Member) → has part m ≡ true → has set m ≡ true) → IsSatisfiable model set → IsSatisfiable model part
part_can model set part h s = record { point = s.point; satisfies = part_law model part set (part_of_has part set h) (coordinate s.point) s.satisfies }

-- all members of one list are in another, or one is not
pub one_not_in : (k I : List Member) → ((m : Member) → has k m ≡ true → has I m ≡ true) ⊎ ((m : Member) × (In k m × (has I m ≡ false)))
one_not_in [] I = inl (λ m h. absurd (true≢false (sym h)))
one_not_in (n ∷ k) I = by (one_not_in k I) (has I n) refl
  where
    by : ((m : Member) → has k m ≡ true → has I m ≡ true) ⊎ ((m : Member) × (In k m × (has I m ≡ false)))
        → (b : Bool) → has I n ≡ b → ((m : Member) → has (n ∷ k) m ≡ true → has I m ≡ true) ⊎ ((m : Member) × (In (n ∷ k) m × (has I m ≡ false)))
    by rest false f = inr (n, (inl refl, f))
    by (inr one) true t = inr (one.0, (inr one.1.0, one.1.1))
    by (inl all) true t =
        inl (λ m h. elim (or_cases (is_same n m) (has k m) h) [ inl e ↦ subst (λ z. has I z ≡ true) (same_members n m e) t | inr e ↦ all m e ])

-- ---- what is out
pub out_of_avoided : (out I : List Member) → avoids out I ≡ true → (m : Member) → has I m ≡ true → has out m ≡ false
out_of_avoided out I a m t = by out (not_parts (list_any (has I) out) a)
  where
    by : (out : List Member) → list_any (has I) out ≡ false → has out m ≡ false
    by [] f = refl
    by (o ∷ out) f =
        let parts : (has I o ≡ false) × (list_any (has I) out ≡ false) = or_parts (has I o) (list_any (has I) out) f in
        or_from (is_same o m) (has out m) (apart o (is_same o m) refl parts.0) (by out parts.1)
      where
        apart : (o : Member) (b : Bool) → is_same o m ≡ b → has I o ≡ false → b ≡ false
        apart o true e f = clash (has I m) t (subst (λ z. has I z ≡ false) (same_members o m e) f)
        apart o false e f = refl

pub avoided_of_out : (out k : List Member) → ((m : Member) → has k m ≡ true → has out m ≡ false) → avoids out k ≡ true
avoided_of_out out k h = ap not (by out (λ m i t. clash (has out m) (has_of_in out m i) (h m t)))
  where
    by : (list : List Member) → ((m : Member) → In list m → has k m ≡ true → ⊥) → list_any (has k) list ≡ false
    by [] n = refl
    by (o ∷ list) n = or_from (has k o) (list_any (has k) list) (at (has k o) refl) (by list (λ m i. n m (inr i)))
      where
        at : (b : Bool) → has k o ≡ b → b ≡ false
        at true e = absurd (n o (inl refl) e)
        at false e = refl

pub avoids_more : (out I : List Member) (m : Member) → avoids out I ≡ true → has I m ≡ false → avoids (out ++ m ∷ []) I ≡ true
avoids_more out I m a f =
    ap not (list_any-append (has I) out (m ∷ []) ∙ or_from (list_any (has I) out) (has I m || false) (not_parts (list_any (has I) out) a) (or_from (has I m) false f refl))

pub has_left : (set out : List Member) (m : Member) → has set m ≡ true → has out m ≡ false → has (left_in set out) m ≡ true
has_left set out m h f = has_kept (λ n. not (has out n)) set m (ap not f) ∙ h

pub left_part : (set out : List Member) → IsPart (left_in set out) set
left_part set out = All-filter (λ n. not (has out n)) (Contains set) set (All-contains_itself set)

pub left_not_out : (set out : List Member) (m : Member) → has (left_in set out) m ≡ true → has out m ≡ false
left_not_out set out m h =
    not_parts (has out m) (All-contains (λ n. not (has out n) ≡ true) (left_in set out) m (filter_passes (λ n. not (has out n)) set) (contains_of_has (left_in set out) m h))

-- ---- lists in order
-- one of two lists that stand in order and have the same members begins like the other
pub same_lists : (k l : List Member) → IsInOrder k → IsInOrder l → ((m : Member) → has k m ≡ true → has l m ≡ true) → ((m : Member) → has l m ≡ true → has k m ≡ true) → k ≡ l
same_lists [] [] o p f g = refl
same_lists [] (n ∷ l) o p f g = absurd (true≢false (sym (g n (has_of_in (n ∷ l) n (inl refl)))))
same_lists (m ∷ k) [] o p f g = absurd (true≢false (sym (f m (has_of_in (m ∷ k) m (inl refl)))))
same_lists (m ∷ k) (n ∷ l) o p f g =
    let first : m ≡ n = heads (in_of_has (n ∷ l) m (f m (has_of_in (m ∷ k) m (inl refl)))) (in_of_has (m ∷ k) n (g n (has_of_in (n ∷ l) n (inl refl)))) in
    let tails : k ≡ l =
    same_lists k l (order_tail m k o) (order_tail n l p) (λ x h. tail m n k l o first f x h) (λ x h. tail n m l k p (sym first) g x h) in
    cc
  where
    before : (a b : Member) (list : List Member) → IsInOrder (a ∷ list) → In list b → comes_before a b ≡ true
    before a b list o i = in_all (λ c. comes_before a c ≡ true) list b (order_head a list o) i

    heads : (n ≡ m) ⊎ In l m → (m ≡ n) ⊎ In k n → m ≡ n
    heads (inl e) i = sym e
    heads (inr h) (inl e) = e
    heads (inr h) (inr i) = clash (comes_before m n) (before m n k o i) (back n m (before n m l p h))

    tail : (a b : Member) (list others : List Member) → IsInOrder (a ∷ list) → a ≡ b → ((x : Member) → has (a ∷ list) x ≡ true → has (b ∷ others) x ≡ true) → (x : Member) → has list x ≡ true → has others x ≡ true
    tail a b list others o e f x h =
        elim (or_cases (is_same b x) (has others x) (f x (or_right (is_same a x) (has list x) h))) [
          | inl s ↦ clash (is_same b x) s (subst (λ z. is_same z x ≡ false) e (before_differs a x (before a x list o (in_of_has list x h))))
          | inr t ↦ t
        ]
