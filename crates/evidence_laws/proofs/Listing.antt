-- Where no node of an exclusion tree is left to take, the sets found are all irreducible parts, each once.
use Rattle.std.proofs.Common.{◌≡◌, refl, sym, ◌∙◌, ap, subst, ℕ, List, [], ◌∷◌, ◌++◌, append_assoc, append-nil, ◌⊎◌, inl, inr, Bool, true, false, not, ◌||◌, filter}
use Rattle.std.specs.Prelude.{◌≢◌, All, Contains, IsTrue}
use Rattle.std.proofs.lemmas.Bool.{or_cases}
use Rattle.std.proofs.lemmas.List.Elements.{All-cons, All-nil, All-push, All-contains, All-contains_itself, All-weaker}
use Rattle.std.proofs.lemmas.List.Kept.{AllPairs-filter}
use Rattle.lp_model.specs.declared.members.Member.{Member}
use Rattle.lp_model.specs.Program.{Program}
use Rattle.lp_model.specs.Members.{comes_before, has, is_same, IsInOrder}
use Rattle.lp_model.specs.Satisfaction.{IsIrreducible, IsPart, IsSatisfiable}
use Rattle.lp_model.proofs.Sets.{part_without, same_members}
use Rattle.lp_model.proofs.Walk.{list_without}
use Rattle.certs.specs.Exclusions.{avoids, left_in, nodes_below, Lists, root, again, finds, ends, ListingLaw, StandsOnce}
use Rattle.certs.specs.Filter.{Late, LateReaches}
use Rattle.certs.proofs.Filters.{late_law}
use Rattle.evidence_laws.proofs.Excluded.{In, all_in, avoided_of_out, avoids_more, clash, has_left, has_part, in_all, in_find, in_left, in_of_has, in_right, left_not_out, left_part, none_passes, one_not_in, out_of_avoided, part_can, same_lists}

-- ---- what a late filter leaves
part_of_part : (a b c : List Member) → IsPart a b → IsPart b c → IsPart a c
part_of_part a b c h g = All-weaker (Contains b) (Contains c) (λ m i. All-contains (Contains c) b m g i) a h

late_part : (model : Program) (set : List Member) {kept rest : List Member} → LateReaches (IsSatisfiable model) set kept rest → IsPart (kept ++ rest) set
late_part model set LateReaches.start = All-contains_itself set
late_part model set (LateReaches.stays {kept = k} {x = x} {rest = r} d c) = subst (λ l. IsPart l set) (sym (append_assoc k (x ∷ []) r)) (late_part model set d)
late_part model set (LateReaches.goes {kept = k} {x = x} {rest = r} d n) = part_of_part (k ++ r) (k ++ x ∷ r) set (part_without k (x ∷ []) r) (late_part model set d)

filter_order : (test : Member → Bool) (list : List Member) → IsInOrder list → IsInOrder (filter test list)
filter_order test list h = AllPairs-filter (λ a b. IsTrue (comes_before a b)) test list h

late_order : (model : Program) (set : List Member) → IsInOrder set → {kept rest : List Member} → LateReaches (IsSatisfiable model) set kept rest → IsInOrder (kept ++ rest)
late_order model set o LateReaches.start = o
late_order model set o (LateReaches.stays {kept = k} {x = x} {rest = r} d c) = subst IsInOrder (sym (append_assoc k (x ∷ []) r)) (late_order model set o d)
late_order model set o (LateReaches.goes {kept = k} {x = x} {rest = r} d n) =
    let h : IsInOrder (k ++ x ∷ r) = late_order model set o d in subst IsInOrder (list_without k x r h) (filter_order (λ y. not (is_same y x)) (k ++ x ∷ r) h)

-- ---- irreducible parts
-- a part of the set, in order and irreducible
abbrev pub IsFound : Program → List Member → List Member → Type 0
IsFound model set k = IsPart k set × (IsInOrder k × IsIrreducible model k)

-- a member's place in a list
record Placed (m : Member) (list : List Member) : Type 0 where
  front : List Member
  back : List Member
  list_is : list ≡ front ++ m ∷ back

placed : (list : List Member) (m : Member) → In list m → Placed m list
placed [] m i = absurd i
placed (n ∷ list) m (inl e) = record { front = []; back = list; list_is = ap (λ z. z ∷ list) e }
placed (n ∷ list) m (inr i) = let p : Placed m list = placed list m i in record { front = n ∷ p.front; back = p.back; list_is = ap (λ z. n ∷ z) p.list_is }

has_others : (front : List Member) (m : Member) (back : List Member) (n : Member) → has (front ++ m ∷ back) n ≡ true → is_same m n ≡ false → has (front ++ back) n ≡ true
has_others [] m back n h f = elim (or_cases (is_same m n) (has back n) h) [ inl e ↦ clash (is_same m n) e f | inr e ↦ e ]
has_others (k ∷ front) m back n h f =
    elim (or_cases (is_same k n) (has (front ++ m ∷ back) n) h) [
      | inl e ↦ ap (λ b. b || has (front ++ back) n) e
      | inr e ↦ cases (is_same k n) (has_others front m back n e f)
    ]
  where
    cases : (b : Bool) → has (front ++ back) n ≡ true → (b || has (front ++ back) n) ≡ true
    cases true h = refl
    cases false h = h

-- one that cannot be satisfied has all members of an irreducible one that has all of its own
pub none_missing : (model : Program) (k I : List Member) → ¬ (IsSatisfiable model k) → IsIrreducible model I → ((m : Member) → has k m ≡ true → has I m ≡ true) → (m : Member) → has I m ≡ true → has k m ≡ true
none_missing model k I denied irr sub m h = by (has k m) refl
  where
    apart : has k m ≡ false → (n : Member) → has k n ≡ true → (b : Bool) → is_same m n ≡ b → b ≡ false
    apart f n g true e = clash (has k n) g (subst (λ z. has k z ≡ false) (same_members m n e) f)
    apart f n g false e = refl

    by : (b : Bool) → has k m ≡ b → b ≡ true
    by true e = refl
    by false e =
        let p : Placed m I = placed I m (in_of_has I m h) in
        absurd (denied (part_can model (p.front ++ p.back) k (λ n g. has_others p.front m p.back n (subst (λ l. has l n ≡ true) p.list_is (sub n g)) (apart e n g (is_same m n) refl)) (irr.minimal p.front m p.back p.list_is)))

-- ---- the tree
module _ (model : Program) (set : List Member) (order : IsInOrder set) where
  late_left : (out k : List Member) → Late model (left_in set out) k → IsPart k (left_in set out)
  late_left out k d = subst (λ l. IsPart l (left_in set out)) (append-nil k) (late_part model (left_in set out) d)

  late_found : (out k : List Member) → ¬ (IsSatisfiable model (left_in set out)) → Late model (left_in set out) k → IsFound model set k
  late_found out k denied d = (
    part_of_part k (left_in set out) set (late_left out k d) (left_part set out),
    (subst IsInOrder (append-nil k) (late_order model (left_in set out) (filter_order (λ m. not (has out m)) set order) d), late_law model (left_in set out) k denied d),
  )

  pub late_avoids : (out k : List Member) → Late model (left_in set out) k → avoids out k ≡ true
  late_avoids out k d = avoided_of_out out k (λ m h. left_not_out set out m (has_part k (left_in set out) (late_left out k d) m h))

  pub each_found : {n : ℕ} {found rests todo : List (List Member)} → Lists model set n found rests todo → All (IsFound model set) found
  each_found root = All-nil (IsFound model set)
  each_found (again d e) = each_found d
  each_found (finds {found = found} {out = out} {k = k} d e denied l) = All-push (IsFound model set) found k (each_found d) (late_found out k denied l)
  each_found (ends d e c) = each_found d

  -- ---- one irreducible part
  module _ (I : List Member) (own : IsFound model set I) where
    -- it is found, or some node is left to take that it avoids
    abbrev Goal : List (List Member) → List (List Member) → Type 0
    Goal found todo = In found I ⊎ ((out : List Member) × (In todo out × (avoids out I ≡ true)))

    in_below : (out k : List Member) (m : Member) → In k m → In (nodes_below out k) (out ++ m ∷ [])
    in_below out [] m i = absurd i
    in_below out (n ∷ k) m (inl e) = inl (ap (λ z. out ++ z ∷ []) e)
    in_below out (n ∷ k) m (inr i) = inr (in_below out k m i)

    child : (found todo : List (List Member)) (out k : List Member) → In found k → IsFound model set k → avoids out I ≡ true → Goal found (nodes_below out k ++ todo)
    child found todo out k there f a =
        elim (one_not_in k I) [
          | inl all ↦ inl (subst (In found) (same_lists k I f.1.0 own.1.0 all (none_missing model k I f.1.1.cannot own.1.1 all)) there)
          | inr one ↦ inr (out ++ one.0 ∷ [], (in_left (nodes_below out k) todo (out ++ one.0 ∷ []) (in_below out k one.0 one.1.0), avoids_more out I one.0 a one.1.1))
        ]

    rest_is_none : (out : List Member) → avoids out I ≡ true → IsSatisfiable model (left_in set out) → ⊥
    rest_is_none out a c = own.1.1.cannot (part_can model (left_in set out) I (λ m h. has_left set out m (has_part I set own.0 m h) (out_of_avoided out I a m h)) c)

    below : (found now todo : List (List Member)) (out k : List Member) → ((j : List Member) → In found j → In now j) → In now k → IsFound model set k → Goal found (out ∷ todo) → Goal now (nodes_below out k ++ todo)
    below found now todo out k grows there f (inl i) = inl (grows I i)
    below found now todo out k grows there f (inr t) = by t.1.0
      where
        by : (out ≡ t.0) ⊎ In todo t.0 → Goal now (nodes_below out k ++ todo)
        by (inl e) = child now todo out k there f (subst (λ z. avoids z I ≡ true) (sym e) t.1.1)
        by (inr h) = inr (t.0, (in_right (nodes_below out k) todo t.0 h, t.1.1))

    goes_on : {n : ℕ} {found rests todo : List (List Member)} → Lists model set n found rests todo → Goal found todo
    goes_on root = inr ([], (inl refl, refl))
    goes_on (again {found = found} {out = out} {k = k} {todo = todo} d e) =
        let there : In found k = (in_find (avoids out) found k e).0 in
        below found found todo out k (λ j h. h) there (in_all (IsFound model set) found k (each_found d) there) (goes_on d)
    goes_on (finds {found = found} {out = out} {k = k} {todo = todo} d e denied l) =
        below found (found ++ k ∷ []) todo out k (λ j h. in_left found (k ∷ []) j h) (in_right found (k ∷ []) k (inl refl)) (late_found out k denied l) (goes_on d)
    goes_on (ends {found = found} {out = out} {todo = todo} d e c) = by (goes_on d)
      where
        by : Goal found (out ∷ todo) → Goal found todo
        by (inl f) = inl f
        by (inr t) = at t.1.0
          where
            at : (out ≡ t.0) ⊎ In todo t.0 → Goal found todo
            at (inl e) = absurd (rest_is_none out (subst (λ z. avoids z I ≡ true) (sym e) t.1.1) c)
            at (inr h) = inr (t.0, (h, t.1.1))

    is_found : {n : ℕ} {found rests : List (List Member)} → Lists model set n found rests [] → In found I
    is_found d = elim (goes_on d) [ inl f ↦ f | inr t ↦ absurd t.1.0 ]

  -- ---- no set is found twice
  abbrev Differ : List (List Member) → Type 0
  Differ [] = Unit {0}
  Differ (k ∷ sets) = ((j : List Member) → In sets j → k ≡ j → ⊥) × Differ sets

  pushed : (sets : List (List Member)) (k : List Member) → Differ sets → ((j : List Member) → In sets j → j ≡ k → ⊥) → Differ (sets ++ k ∷ [])
  pushed [] k d h = ((λ j i. absurd i), tt)
  pushed (s ∷ sets) k d h = ((λ j i e. at j i e), pushed sets k d.1 (λ j i. h j (inr i)))
    where
      split : (list : List (List Member)) (j : List Member) → In (list ++ k ∷ []) j → In list j ⊎ (k ≡ j)
      split [] j (inl e) = inr e
      split [] j (inr i) = absurd i
      split (x ∷ list) j (inl e) = inl (inl e)
      split (x ∷ list) j (inr i) = elim (split list j i) [ inl a ↦ inl (inr a) | inr e ↦ inr e ]

      at : (j : List Member) → In (sets ++ k ∷ []) j → s ≡ j → ⊥
      at j i e = elim (split sets j i) [ inl a ↦ d.0 j a e | inr q ↦ h s (inl refl) (e ∙ sym q) ]

  differ : {n : ℕ} {found rests todo : List (List Member)} → Lists model set n found rests todo → Differ found
  differ root = tt
  differ (again d e) = differ d
  differ (finds {found = found} {out = out} {k = k} d e denied l) =
      pushed found k (differ d) (λ j i q. clash (avoids out j) (subst (λ z. avoids out z ≡ true) (sym q) (late_avoids out k l)) (none_passes (avoids out) found j e i))
  differ (ends d e c) = differ d

  stands : (sets : List (List Member)) (k : List Member) → Differ sets → In sets k → StandsOnce k sets
  stands [] k d i = absurd i
  stands (s ∷ sets) k d (inl e) = record {
    front = [];
    back = sets;
    list_is = ap (λ z. z ∷ sets) e;
    not_before = All-nil (λ y. y ≢ k);
    not_behind = all_in (λ y. y ≢ k) sets (λ y i q. d.0 y i (e ∙ sym q));
  }
  stands (s ∷ sets) k d (inr i) =
      let r : StandsOnce k sets = stands sets k d.1 i in
      record {
        front = s ∷ r.front;
        back = r.back;
        list_is = ap (λ z. s ∷ z) r.list_is;
        not_before = All-cons (λ y. y ≢ k) s r.front (d.0 k i) r.not_before;
        not_behind = r.not_behind;
      }

pub listing_law : ListingLaw
listing_law model set n found rests order d = record {
  each = each_found model set order d;
  once = λ k part ordered irr. stands model set order found k (differ model set order d) (is_found model set order k (part, (ordered, irr)) d);
}
