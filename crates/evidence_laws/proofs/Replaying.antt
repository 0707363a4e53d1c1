-- The rests that a list of sets asks for: of an exclusion tree's sets they are its own; and where all can be satisfied, no irreducible part is missing.
use Rattle.std.proofs.Common.{◌≡◌, ◌<◌, ◌≤◌, refl, sym, ◌∙◌, ap, subst, ℕ, suc, zero, List, [], ◌∷◌, ◌++◌, append_assoc, append-nil, length, arith, inl, inr, Bool, true, false, not, ◌||◌, cond, filter, find, Option, Some, None}
use Rattle.std.specs.Prelude.{All, Contains, flat_map}
use Rattle.std.proofs.lemmas.Bool.{or_left, or_parts, or_right, true≢false}
use Rattle.std.proofs.lemmas.List.Elements.{All-contains_itself, All-nil, All-push}
use Rattle.lp_model.specs.declared.members.Member.{Member}
use Rattle.lp_model.specs.Program.{Program}
use Rattle.lp_model.specs.Members.{has, is_same, IsInOrder}
use Rattle.lp_model.specs.Satisfaction.{IsPart, IsSatisfiable}
use Rattle.lp_model.proofs.Sets.{same_self}
use Rattle.certs.specs.Exclusions.{avoids, first_avoiding, left_in, nodes_below, Lists, root, again, finds, ends, RestsLaw, ReplayLaw, rests_of, rests_under}
use Rattle.evidence_laws.proofs.Excluded.{In, all_in, avoids_more, clash, has_left, has_of_in, has_part, in_all, in_find, in_left, in_of_has, in_right, one_not_in, out_of_avoided, part_can, same_lists}
use Rattle.evidence_laws.proofs.Listing.{IsFound, each_found, late_avoids, none_missing}

-- ---- lists
same_flat : {X Y : Type 0} (f g : X → List Y) (list : List X) → ((x : X) → In list x → f x ≡ g x) → flat_map f list ≡ flat_map g list
same_flat f g [] h = refl
same_flat f g (x ∷ list) h =
    let p : f x ≡ g x = h x (inl refl) in
    let q : flat_map f list ≡ flat_map g list = same_flat f g list (λ y i. h y (inr i)) in
    cc

flat_append : {X Y : Type 0} (f : X → List Y) (list more : List X) → flat_map f (list ++ more) ≡ flat_map f list ++ flat_map f more
flat_append f [] more = refl
flat_append f (x ∷ list) more = ap (λ z. f x ++ z) (flat_append f list more) ∙ sym (append_assoc (f x) (flat_map f list) (flat_map f more))

in_flat : {X Y : Type 0} (f : X → List Y) (list : List X) (x : X) (y : Y) → In list x → In (f x) y → In (flat_map f list) y
in_flat f [] x y h g = absurd h
in_flat {X} {Y} f (z ∷ list) x y (inl e) g = in_left (f z) (flat_map f list) y (subst (λ w. In (f w) y) (sym e) g)
in_flat f (z ∷ list) x y (inr h) g = in_right (f z) (flat_map f list) y (in_flat f list x y h g)

none_found : {X : Type 0} (p : X → Bool) (list : List X) → ((x : X) → In list x → p x ≡ true → ⊥) → find p list ≡ None
none_found p [] h = refl
none_found p (x ∷ list) h = by (none_found p list (λ y i. h y (inr i))) (p x) refl
  where
    by : find p list ≡ None → (b : Bool) → p x ≡ b → cond b (Some x) (find p list) ≡ None
    by rest true t = absurd (h x (inl refl) t)
    by rest false f = rest

found_in_front : {X : Type 0} (p : X → Bool) (list more : List X) (x : X) → find p list ≡ Some x → find p (list ++ more) ≡ Some x
found_in_front p [] more x e = absurd (let q : None ≡ Some x = e in cc)
found_in_front p (y ∷ list) more x e = by (found_in_front p list more x) (p y) e
  where
    by : (find p list ≡ Some x → find p (list ++ more) ≡ Some x) → (b : Bool) → cond b (Some y) (find p list) ≡ Some x → cond b (Some y) (find p (list ++ more)) ≡ Some x
    by further true q = q
    by further false q = further q

found_next : {X : Type 0} (p : X → Bool) (list more : List X) (x : X) → find p list ≡ None → p x ≡ true → find p (list ++ x ∷ more) ≡ Some x
found_next p [] more x e t = ap (λ b. cond b (Some x) (find p more)) t
found_next p (y ∷ list) more x e t = by (λ q. found_next p list more x q t) (p y) e
  where
    by : (find p list ≡ None → find p (list ++ x ∷ more) ≡ Some x) → (b : Bool) → cond b (Some y) (find p list) ≡ None → cond b (Some y) (find p (list ++ x ∷ more)) ≡ Some x
    by further true q = absurd (let r : Some y ≡ None = q in cc)
    by further false q = further q

-- ---- a node further down leaves fewer
at_most_all : (set : List Member) (p : Member → Bool) → length (filter p set) ≤ length set
at_most_all [] p = omega arith
at_most_all (x ∷ set) p = by (at_most_all set p) (p x)
  where
    by : length (filter p set) ≤ length set → (b : Bool) → length (cond b (x ∷ filter p set) (filter p set)) ≤ suc (length set)
    by l true = omega arith
    by l false = omega arith

fewer : (set : List Member) (p q : Member → Bool) → ((n : Member) → q n ≡ true → p n ≡ true) → length (filter q set) ≤ length (filter p set)
fewer [] p q h = omega arith
fewer (x ∷ set) p q h = by (fewer set p q h) (p x) (q x) refl refl
  where
    by : length (filter q set) ≤ length (filter p set) → (b c : Bool) → p x ≡ b → q x ≡ c → length (cond c (x ∷ filter q set) (filter q set)) ≤ length (cond b (x ∷ filter p set) (filter p set))
    by l true true e f = omega arith
    by l true false e f = omega arith
    by l false true e f = clash (p x) (h x f) e
    by l false false e f = l

one_fewer : (set : List Member) (p q : Member → Bool) (m : Member) → ((n : Member) → q n ≡ true → p n ≡ true) → p m ≡ true → q m ≡ false → In set m → length (filter q set) < length (filter p set)
one_fewer [] p q m h t f i = absurd i
one_fewer (x ∷ set) p q m h t f (inl e) = by (fewer set p q h) (p x) (q x) (subst (λ z. p z ≡ true) (sym e) t) (subst (λ z. q z ≡ false) (sym e) f) refl refl
  where
    by : length (filter q set) ≤ length (filter p set) → (b c : Bool) → p x ≡ true → q x ≡ false → p x ≡ b → q x ≡ c → length (cond c (x ∷ filter q set) (filter q set)) < length (cond b (x ∷ filter p set) (filter p set))
    by l true false u v k s = omega arith
    by l true true u v k s = clash (q x) s v
    by l false c u v k s = clash (p x) u k
one_fewer (x ∷ set) p q m h t f (inr i) = by (one_fewer set p q m h t f i) (p x) (q x) refl refl
  where
    by : length (filter q set) < length (filter p set) → (b c : Bool) → p x ≡ b → q x ≡ c → length (cond c (x ∷ filter q set) (filter q set)) < length (cond b (x ∷ filter p set) (filter p set))
    by l true true e k = omega arith
    by l true false e k = omega arith
    by l false true e k = clash (p x) (h x k) e
    by l false false e k = l

has_pushed : (out : List Member) (m n : Member) → has (out ++ m ∷ []) n ≡ (has out n || (is_same m n || false))
has_pushed [] m n = refl
has_pushed (o ∷ out) m n = ap (λ b. is_same o n || b) (has_pushed out m n) ∙ regroup (is_same o n)
  where
    regroup : (b : Bool) → (b || (has out n || (is_same m n || false))) ≡ ((b || has out n) || (is_same m n || false))
    regroup true = refl
    regroup false = refl

not_true : (b : Bool) → not b ≡ true → b ≡ false
not_true true h = absurd (true≢false (sym h))
not_true false h = refl

child_fewer : (set out k : List Member) (m : Member) → IsPart k set → avoids out k ≡ true → In k m → length (left_in set (out ++ m ∷ [])) < length (left_in set out)
child_fewer set out k m part a i =
    one_fewer set (λ n. not (has out n)) (λ n. not (has (out ++ m ∷ []) n)) m
    (λ n h. ap not (or_parts (has out n) (is_same m n || false) (sym (has_pushed out m n) ∙ not_true (has (out ++ m ∷ []) n) h)).0)
    (ap not (out_of_avoided out k a m (has_of_in k m i)))
    (ap not (has_pushed out m m ∙ or_right (has out m) (is_same m m || false) (or_left (is_same m m) false (same_self m))))
    (in_of_has set m (has_part k set part m (has_of_in k m i)))

-- ---- the rests below a node
below : ℕ → List (List Member) → List Member → Option (List Member) → List (List Member)
below deep sets out None = out ∷ []
below deep sets out (Some k) = flat_map (λ m. rests_under deep sets (out ++ m ∷ [])) k

module _ (set : List Member) (sets : List (List Member)) (parts : All (λ k. IsPart k set) sets) where
  -- of all members, and one node more
  rests_at : List Member → List (List Member)
  rests_at out = rests_under (suc (length set)) sets out

  enough : (a b : ℕ) (out : List Member) → length (left_in set out) < a → length (left_in set out) < b → rests_under a sets out ≡ rests_under b sets out
  unfolding below
  enough zero b out l m = absurd (omega arith)
  enough (suc a) zero out l m = absurd (omega arith)
  enough (suc a) (suc b) out l m = by (λ o. enough a b o) (first_avoiding out sets) refl
    where
      by : ((o : List Member) → length (left_in set o) < a → length (left_in set o) < b → rests_under a sets o ≡ rests_under b sets o)
          → (o : Option (List Member)) → first_avoiding out sets ≡ o → below a sets out o ≡ below b sets out o
      by further None e = refl
      by further (Some k) e =
          let found : In sets k × (avoids out k ≡ true) = in_find (avoids out) sets k e in
          same_flat (λ m. rests_under a sets (out ++ m ∷ [])) (λ m. rests_under b sets (out ++ m ∷ [])) k
          (λ n i.
          let w : length (left_in set (out ++ n ∷ [])) < length (left_in set out) = child_fewer set out k n (in_all (λ k. IsPart k set) sets k parts found.0) found.1 i in
          further (out ++ n ∷ []) (omega arith) (omega arith))

  rest_alone : (out : List Member) → first_avoiding out sets ≡ None → rests_at out ≡ out ∷ []
  unfolding rests_at below
  rest_alone out e = ap (below (length set) sets out) e

  rests_below : (out k : List Member) → first_avoiding out sets ≡ Some k → rests_at out ≡ flat_map rests_at (nodes_below out k)
  unfolding rests_at below
  rests_below out k e =
      let found : In sets k × (avoids out k ≡ true) = in_find (avoids out) sets k e in
      ap (below (length set) sets out) e
      ∙ same_flat (λ m. rests_under (length set) sets (out ++ m ∷ [])) (λ m. rests_at (out ++ m ∷ [])) k
      (λ n i.
      let w : length (left_in set (out ++ n ∷ [])) < length (left_in set out) = child_fewer set out k n (in_all (λ k. IsPart k set) sets k parts found.0) found.1 i in
      let v : length (left_in set out) ≤ length set = at_most_all set (λ n. not (has out n)) in
      enough (length set) (suc (length set)) (out ++ n ∷ []) (omega arith) (omega arith))
      ∙ by k
    where
      by : (k : List Member) → flat_map (λ m. rests_at (out ++ m ∷ [])) k ≡ flat_map rests_at (nodes_below out k)
      by [] = refl
      by (m ∷ k) = ap (λ z. rests_at (out ++ m ∷ []) ++ z) (by k)

-- ---- the tree
module _ (model : Program) (set : List Member) (order : IsInOrder set) where
  replay : {n : ℕ} {found rests todo : List (List Member)} → Lists model set n found rests todo → (sets later : List (List Member)) → sets ≡ found ++ later
      → (parts : All (λ k. IsPart k set) sets) → ((k : List Member) → In sets k → ¬ (IsSatisfiable model k)) → rests_at set sets parts [] ≡ rests ++ flat_map (rests_at set sets parts) todo
  replay root sets later is parts denied = sym (append-nil (rests_at set sets parts []))
  replay (again {found = found} {rests = rests} {out = out} {k = k} {todo = todo} d e) sets later is parts denied =
      let first : first_avoiding out sets ≡ Some k = subst (λ z. first_avoiding out z ≡ Some k) (sym is) (found_in_front (avoids out) found later k e) in
      replay d sets later is parts denied
      ∙ ap (λ z. rests ++ (z ++ flat_map (rests_at set sets parts) todo)) (rests_below set sets parts out k first)
      ∙ ap (λ z. rests ++ z) (sym (flat_append (rests_at set sets parts) (nodes_below out k) todo))
  replay (finds {found = found} {rests = rests} {out = out} {k = k} {todo = todo} d e n l) sets later is parts denied =
      let now : sets ≡ found ++ k ∷ later = is ∙ append_assoc found (k ∷ []) later in
      let first : first_avoiding out sets ≡ Some k = subst (λ z. first_avoiding out z ≡ Some k) (sym now) (found_next (avoids out) found later k e (late_avoids model set order out k l)) in
      replay d sets (k ∷ later) now parts denied
      ∙ ap (λ z. rests ++ (z ++ flat_map (rests_at set sets parts) todo)) (rests_below set sets parts out k first)
      ∙ ap (λ z. rests ++ z) (sym (flat_append (rests_at set sets parts) (nodes_below out k) todo))
  replay (ends {found = found} {rests = rests} {out = out} {todo = todo} d e c) sets later is parts denied =
      let none : first_avoiding out sets ≡ None =
      none_found (avoids out) sets
      (λ j i a. denied j i (part_can model (left_in set out) j (λ m h. has_left set out m (has_part j set (in_all (λ k. IsPart k set) sets j parts i) m h) (out_of_avoided out j a m h)) c)) in
      replay d sets later is parts denied
      ∙ ap (λ z. rests ++ (z ++ flat_map (rests_at set sets parts) todo)) (rest_alone set sets parts out none)
      ∙ sym (append_assoc rests (out ∷ []) (flat_map (rests_at set sets parts) todo))

  each_rest : {n : ℕ} {found rests todo : List (List Member)} → Lists model set n found rests todo → All (λ out. IsSatisfiable model (left_in set out)) rests
  each_rest root = All-nil (λ out. IsSatisfiable model (left_in set out))
  each_rest (again d e) = each_rest d
  each_rest (finds d e n l) = each_rest d
  each_rest (ends {rests = rests} {out = out} d e c) = All-push (λ out. IsSatisfiable model (left_in set out)) rests out (each_rest d) c

  -- ---- no part is missing
  module _ (sets : List (List Member)) (each : All (IsFound model set) sets) (I : List Member) (own : IsFound model set I) where
    checked : (deep : ℕ) (out : List Member) → length (left_in set out) < deep → avoids out I ≡ true → ((r : List Member) → In (rests_under deep sets out) r → IsSatisfiable model (left_in set r)) → In sets I
    unfolding below
    checked zero out l a can = absurd (omega arith)
    checked (suc deep) out l a can = by (λ o. checked deep o) (first_avoiding out sets) refl can
      where
        by : ((o : List Member) → length (left_in set o) < deep → avoids o I ≡ true → ((r : List Member) → In (rests_under deep sets o) r → IsSatisfiable model (left_in set r)) → In sets I)
            → (o : Option (List Member)) → first_avoiding out sets ≡ o → ((r : List Member) → In (below deep sets out o) r → IsSatisfiable model (left_in set r)) → In sets I
        by further None e can =
            absurd (own.1.1.cannot (part_can model (left_in set out) I (λ m h. has_left set out m (has_part I set own.0 m h) (out_of_avoided out I a m h)) (can out (inl refl))))
        by further (Some k) e can =
            let found : In sets k × (avoids out k ≡ true) = in_find (avoids out) sets k e in
            let f : IsFound model set k = in_all (IsFound model set) sets k each found.0 in
            elim (one_not_in k I) [
              | inl all ↦ subst (In sets) (same_lists k I f.1.0 own.1.0 all (none_missing model k I f.1.1.cannot own.1.1 all)) found.0
              | inr one ↦
                  (let w : length (left_in set (out ++ one.0 ∷ [])) < length (left_in set out) = child_fewer set out k one.0 f.0 found.1 one.1.0 in
                  further (out ++ one.0 ∷ []) (omega arith) (avoids_more out I one.0 a one.1.1) (λ r h. can r (in_flat (λ m. rests_under deep sets (out ++ m ∷ [])) k one.0 r one.1.0 h)))
            ]

pub replay_law : ReplayLaw
unfolding rests_at
replay_law model set n found rests order d =
    let each : All (IsFound model set) found = each_found model set order d in
    let parts : All (λ k. IsPart k set) found = all_in (λ k. IsPart k set) found (λ k i. (in_all (IsFound model set) found k each i).0) in (
      replay model set order d found [] (sym (append-nil found)) parts (λ k i. (in_all (IsFound model set) found k each i).1.1.cannot) ∙ append-nil rests,
      each_rest model set order d,
    )

pub rests_law : RestsLaw
rests_law model set sets order each can k part ordered irr =
    in_all (Contains sets) sets k (All-contains_itself sets)
    (checked model set order sets each k (part, (ordered, irr)) (suc (length set)) []
    (let l : length (left_in set []) ≤ length set = at_most_all set (λ n. not (has [] n)) in omega arith)
    refl (λ r i. in_all (λ out. IsSatisfiable model (left_in set out)) (rests_of set sets) r can i))
