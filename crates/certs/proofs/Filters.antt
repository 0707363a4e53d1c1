-- What the filters leave is irreducible, and is the only list that they can leave.
use Rattle.std.proofs.Common.{◌≡◌, ◌+◌, ◌≤◌, ◌<◌, refl, sym, ◌∙◌, ap, subst, suc, List, [], ◌∷◌, ◌++◌, append_assoc, append-nil, length, length-append, arith, ◌⊎◌, inl, inr}
use Rattle.std.proofs.lemmas.Bool.{cases_lt}
use Rattle.lp_model.specs.declared.members.Member.{Member}
use Rattle.lp_model.specs.Program.{Program}
use Rattle.lp_model.specs.Satisfaction.{coordinate, IsSatisfiable, IsIrreducibleFor}
use Rattle.lp_model.proofs.Sets.{part_law, part_without}
use Rattle.certs.specs.Filter.{LateReaches, start, stays, goes, EarlyReaches, LateBy, EarlyBy, LateLaw, EarlyLaw, OneLateLaw, OneEarlyLaw, joined, CanGroups, LateGroupsLaw, IsLateTestBy, IsEarlyTestBy, IsFrontAndBack, LateTestLaw, EarlyTestLaw}

-- ---- lists, taken apart at an element
pub nil_apart : {X : Type 0} (f : List X) (x : X) (b : List X) → [] ≡ f ++ x ∷ b → ⊥
nil_apart f x b e = let l : 0 ≡ length f + suc (length b) = ap length e ∙ length-append f (x ∷ b) in omega arith

-- the last element is the one, or stands behind it
pub last_apart : {X : Type 0} (k f : List X) (y x : X) (b : List X) → k ++ y ∷ [] ≡ f ++ x ∷ b
    → ((b ≡ []) × (k ≡ f)) ⊎ ((c : List X) × (b ≡ c ++ y ∷ []) × (k ≡ f ++ x ∷ c))
last_apart [] [] y x b e = inl (let p : b ≡ [] = cc in p, refl)
last_apart (z ∷ k) [] y x b e = inr (k, (let p : b ≡ k ++ y ∷ [] = cc in p), (let p : z ≡ x = cc in ap (λ a. a ∷ k) p))
last_apart [] (w ∷ f) y x b e = absurd (nil_apart f x b (let p : [] ≡ f ++ x ∷ b = cc in p))
last_apart (z ∷ k) (w ∷ f) y x b e =
    let head : z ≡ w = cc in
    let tail : k ++ y ∷ [] ≡ f ++ x ∷ b = cc in
    elim (last_apart k f y x b tail) [
      | inl h ↦ inl (h.0, let p : k ≡ f = h.1 in cc)
      | inr h ↦ inr (h.0, h.1, let p : k ≡ f ++ x ∷ h.0 = h.2 in cc)
    ]

pub push_apart : {X : Type 0} (k f : List X) (y x : X) → k ++ y ∷ [] ≡ f ++ x ∷ [] → (k ≡ f) × (y ≡ x)
push_apart [] [] y x e = (refl, let p : y ≡ x = cc in p)
push_apart (z ∷ k) [] y x e = absurd (nil_apart k y [] (let p : [] ≡ k ++ y ∷ [] = cc in p))
push_apart [] (w ∷ f) y x e = absurd (nil_apart f x [] (let p : [] ≡ f ++ x ∷ [] = cc in p))
push_apart (z ∷ k) (w ∷ f) y x e =
    let head : z ≡ w = cc in
    let tail : k ++ y ∷ [] ≡ f ++ x ∷ [] = cc in
    let both : (k ≡ f) × (y ≡ x) = push_apart k f y x tail in
    (let p : k ≡ f = both.0 in cc, both.1)

-- ---- from the first on
module _ {X : Type 0} (Can : List X → Type 0) (set : List X) where
  late_shorter : {kept rest : List X} → LateReaches Can set kept rest → length rest ≤ length set
  late_shorter start = omega arith
  late_shorter (stays {kept = k} {x = x} {rest = r} d c) = let l : suc (length r) ≤ length set = late_shorter d in omega arith
  late_shorter (goes {kept = k} {x = x} {rest = r} d n) = let l : suc (length r) ≤ length set = late_shorter d in omega arith

  late_once : {k r l s : List X} → LateReaches Can set k r → LateReaches Can set l s → length r ≡ length s → (k ≡ l) × (r ≡ s)
  late_once start start e = (refl, refl)
  late_once start (stays {rest = s} d c) e = absurd (let h : suc (length s) ≤ length set = late_shorter d in omega arith)
  late_once start (goes {rest = s} d n) e = absurd (let h : suc (length s) ≤ length set = late_shorter d in omega arith)
  late_once (stays {rest = r} d c) start e = absurd (let h : suc (length r) ≤ length set = late_shorter d in omega arith)
  late_once (goes {rest = r} d n) start e = absurd (let h : suc (length r) ≤ length set = late_shorter d in omega arith)
  late_once (stays {kept = k} {x = x} {rest = r} d c) (stays {kept = l} {x = y} {rest = s} d' c') e =
      let both : (k ≡ l) × (x ∷ r ≡ y ∷ s) = late_once d d' (ap suc e) in
      let p : k ≡ l = both.0 in
      let q : x ∷ r ≡ y ∷ s = both.1 in
      ((let g : k ++ x ∷ [] ≡ l ++ y ∷ [] = cc in g), (let g : r ≡ s = cc in g))
  late_once (stays {kept = k} {x = x} {rest = r} d c) (goes {kept = l} {x = y} {rest = s} d' n) e =
      let both : (k ≡ l) × (x ∷ r ≡ y ∷ s) = late_once d d' (ap suc e) in
      let p : k ≡ l = both.0 in
      let q : x ∷ r ≡ y ∷ s = both.1 in
      absurd (n (subst Can (let g : k ++ r ≡ l ++ s = cc in g) c))
  late_once (goes {kept = k} {x = x} {rest = r} d n) (stays {kept = l} {x = y} {rest = s} d' c) e =
      let both : (k ≡ l) × (x ∷ r ≡ y ∷ s) = late_once d d' (ap suc e) in
      let p : k ≡ l = both.0 in
      let q : x ∷ r ≡ y ∷ s = both.1 in
      absurd (n (subst Can (let g : l ++ s ≡ k ++ r = cc in g) c))
  late_once (goes {kept = k} {x = x} {rest = r} d n) (goes {kept = l} {x = y} {rest = s} d' n') e =
      let both : (k ≡ l) × (x ∷ r ≡ y ∷ s) = late_once d d' (ap suc e) in
      let q : x ∷ r ≡ y ∷ s = both.1 in
      (both.0, (let g : r ≡ s = cc in g))

  late_cannot : ¬ (Can set) → {k r : List X} → LateReaches Can set k r → ¬ (Can (k ++ r))
  late_cannot denied start h = denied h
  late_cannot denied (stays {kept = k} {x = x} {rest = r} d c) h = late_cannot denied d (subst Can (append_assoc k (x ∷ []) r) h)
  late_cannot denied (goes d n) h = n h

  -- a list that can does without a middle, too
  late_minimal : ((a b c : List X) → Can (a ++ (b ++ c)) → Can (a ++ c)) → {k r : List X} → LateReaches Can set k r
      → (f : List X) (x : X) (b : List X) → k ≡ f ++ x ∷ b → Can ((f ++ b) ++ r)
  late_minimal weaker start f x b e = absurd (nil_apart f x b e)
  late_minimal weaker (stays {kept = k} {x = y} {rest = r} d c) f x b e =
      elim (last_apart k f y x b e) [
        | inl h ↦ subst (λ z. Can (z ++ r)) (let p : b ≡ [] = h.0 in let q : k ≡ f = h.1 in let g : f ++ [] ≡ f = append-nil f in let w : k ≡ f ++ b = cc in w) c
        | inr h ↦
            (let p : b ≡ h.0 ++ y ∷ [] = h.1 in
            subst (λ z. Can ((f ++ z) ++ r)) (sym p)
            (subst (λ z. Can (z ++ r)) (append_assoc f h.0 (y ∷ []))
            (subst Can (sym (append_assoc (f ++ h.0) (y ∷ []) r)) (late_minimal weaker d f x h.0 h.2))))
      ]
  late_minimal weaker (goes {kept = k} {x = y} {rest = r} d n) f x b e = weaker (f ++ b) (y ∷ []) r (late_minimal weaker d f x b e)

  pub late_irreducible : ((a b c : List X) → Can (a ++ (b ++ c)) → Can (a ++ c)) → ¬ (Can set) → {k : List X} → LateBy Can set k → IsIrreducibleFor Can k
  late_irreducible weaker denied {k} d = record {
    cannot = λ h. late_cannot denied d (subst Can (sym (append-nil k)) h);
    minimal = λ f x b e. subst Can (append-nil (f ++ b)) (late_minimal weaker d f x b e);
  }

  pub one_late : {k l : List X} → LateBy Can set k → LateBy Can set l → k ≡ l
  one_late d d' = (late_once d d' refl).0

-- ---- from the last back
module _ {X : Type 0} (Can : List X → Type 0) (set : List X) where
  early_shorter : {front kept : List X} → EarlyReaches Can set front kept → length front ≤ length set
  early_shorter start = omega arith
  early_shorter (stays {front = f} {x = x} d c) = let l : length (f ++ x ∷ []) ≤ length set = early_shorter d in omega (arith, length-append f (x ∷ []))
  early_shorter (goes {front = f} x d n) = let l : length (f ++ x ∷ []) ≤ length set = early_shorter d in omega (arith, length-append f (x ∷ []))

  early_below : (f : List X) (x : X) {kept : List X} → EarlyReaches Can set (f ++ x ∷ []) kept → length f < length set
  early_below f x d = let l : length (f ++ x ∷ []) ≤ length set = early_shorter d in omega (arith, length-append f (x ∷ []))

  one_more : (f g : List X) (x y : X) → length f ≡ length g → length (f ++ x ∷ []) ≡ length (g ++ y ∷ [])
  one_more f g x y e = omega (arith, length-append f (x ∷ []), length-append g (y ∷ []))

  early_once : {f k g l : List X} → EarlyReaches Can set f k → EarlyReaches Can set g l → length f ≡ length g → (f ≡ g) × (k ≡ l)
  early_once start start e = (refl, refl)
  early_once start (stays {front = g} {x = y} d c) e = absurd (let h : length g < length set = early_below g y d in omega arith)
  early_once start (goes {front = g} y d n) e = absurd (let h : length g < length set = early_below g y d in omega arith)
  early_once (stays {front = f} {x = x} d c) start e = absurd (let h : length f < length set = early_below f x d in omega arith)
  early_once (goes {front = f} x d n) start e = absurd (let h : length f < length set = early_below f x d in omega arith)
  early_once (stays {front = f} {x = x} {kept = k} d c) (stays {front = g} {x = y} {kept = l} d' c') e =
      let both : (f ++ x ∷ [] ≡ g ++ y ∷ []) × (k ≡ l) = early_once d d' (one_more f g x y e) in
      let parts : (f ≡ g) × (x ≡ y) = push_apart f g x y both.0 in
      let p : x ≡ y = parts.1 in
      let q : k ≡ l = both.1 in
      (parts.0, (let h : x ∷ k ≡ y ∷ l = cc in h))
  early_once (stays {front = f} {x = x} {kept = k} d c) (goes {front = g} y {kept = l} d' n) e =
      let both : (f ++ x ∷ [] ≡ g ++ y ∷ []) × (k ≡ l) = early_once d d' (one_more f g x y e) in
      let p : f ≡ g = (push_apart f g x y both.0).0 in
      let q : k ≡ l = both.1 in
      absurd (n (subst Can (let h : f ++ k ≡ g ++ l = cc in h) c))
  early_once (goes {front = f} x {kept = k} d n) (stays {front = g} {x = y} {kept = l} d' c) e =
      let both : (f ++ x ∷ [] ≡ g ++ y ∷ []) × (k ≡ l) = early_once d d' (one_more f g x y e) in
      let p : f ≡ g = (push_apart f g x y both.0).0 in
      let q : k ≡ l = both.1 in
      absurd (n (subst Can (let h : g ++ l ≡ f ++ k = cc in h) c))
  early_once (goes {front = f} x {kept = k} d n) (goes {front = g} y {kept = l} d' n') e =
      let both : (f ++ x ∷ [] ≡ g ++ y ∷ []) × (k ≡ l) = early_once d d' (one_more f g x y e) in
      ((push_apart f g x y both.0).0, both.1)

  early_cannot : ¬ (Can set) → {f k : List X} → EarlyReaches Can set f k → ¬ (Can (f ++ k))
  early_cannot denied start h = denied (subst Can (append-nil set) h)
  early_cannot denied (stays {front = f} {x = x} {kept = k} d c) h = early_cannot denied d (subst Can (sym (append_assoc f (x ∷ []) k)) h)
  early_cannot denied (goes x d n) h = n h

  early_minimal : ((a b c : List X) → Can (a ++ (b ++ c)) → Can (a ++ c)) → {g k : List X} → EarlyReaches Can set g k
      → (f : List X) (x : X) (b : List X) → k ≡ f ++ x ∷ b → Can (g ++ (f ++ b))
  early_minimal weaker start f x b e = absurd (nil_apart f x b e)
  early_minimal weaker (stays {front = g} {x = y} {kept = k} d c) [] x b e = subst (λ z. Can (g ++ z)) (let p : k ≡ b = cc in p) c
  early_minimal weaker (stays {front = g} {x = y} {kept = k} d c) (w ∷ f) x b e =
      let tail : k ≡ f ++ x ∷ b = cc in
      let head : y ≡ w = cc in
      subst (λ z. Can (g ++ (z ∷ (f ++ b)))) head (subst Can (append_assoc g (y ∷ []) (f ++ b)) (early_minimal weaker d f x b tail))
  early_minimal weaker (goes {front = g} y {kept = k} d n) f x b e =
      weaker g (y ∷ []) (f ++ b) (subst Can (append_assoc g (y ∷ []) (f ++ b)) (early_minimal weaker d f x b e))

  pub early_irreducible : ((a b c : List X) → Can (a ++ (b ++ c)) → Can (a ++ c)) → ¬ (Can set) → {k : List X} → EarlyBy Can set k → IsIrreducibleFor Can k
  early_irreducible weaker denied d = record { cannot = early_cannot denied d; minimal = λ f x b e. early_minimal weaker d f x b e }

  pub one_early : {k l : List X} → EarlyBy Can set k → EarlyBy Can set l → k ≡ l
  one_early d d' = (early_once d d' refl).1

-- ---- for sets of members
pub satisfiable_weaker : (model : Program) (a b c : List Member) → IsSatisfiable model (a ++ (b ++ c)) → IsSatisfiable model (a ++ c)
satisfiable_weaker model a b c s = record { point = s.point; satisfies = part_law model (a ++ c) (a ++ (b ++ c)) (part_without a b c) (coordinate s.point) s.satisfies }

pub late_law : LateLaw
late_law model set k denied d = late_irreducible (IsSatisfiable model) set (satisfiable_weaker model) denied d

pub early_law : EarlyLaw
early_law model set k denied d = early_irreducible (IsSatisfiable model) set (satisfiable_weaker model) denied d

pub one_late_law : OneLateLaw
one_late_law model set k l d d' = one_late (IsSatisfiable model) set d d'

pub one_early_law : OneEarlyLaw
one_early_law model set k l d d' = one_early (IsSatisfiable model) set d d'

-- ---- for groups
joined_append : (a b : List (List Member)) → joined (a ++ b) ≡ joined a ++ joined b
joined_append [] b = refl
joined_append (g ∷ a) b = ap (λ z. g ++ z) (joined_append a b) ∙ sym (append_assoc g (joined a) (joined b))

groups_weaker : (model : Program) (a b c : List (List Member)) → CanGroups model (a ++ (b ++ c)) → CanGroups model (a ++ c)
groups_weaker model a b c s =
    subst (IsSatisfiable model) (sym (joined_append a c))
    (satisfiable_weaker model (joined a) (joined b) (joined c) (subst (IsSatisfiable model) (joined_append a (b ++ c) ∙ ap (λ z. joined a ++ z) (joined_append b c)) s))

pub late_groups_law : LateGroupsLaw
late_groups_law model groups kept denied d = late_irreducible (CanGroups model) groups (groups_weaker model) denied d

-- ---- the sets that are asked for
module _ {X : Type 0} (Can : List X → Type 0) (set : List X) where
  late_back : {kept rest : List X} → LateReaches Can set kept rest → (before : List X) × (set ≡ before ++ rest)
  late_back start = ([], refl)
  late_back (stays {kept = k} {x = x} {rest = r} d c) = let p : (before : List X) × (set ≡ before ++ x ∷ r) = late_back d in (p.0 ++ x ∷ [], p.1 ∙ sym (append_assoc p.0 (x ∷ []) r))
  late_back (goes {kept = k} {x = x} {rest = r} d n) = let p : (before : List X) × (set ≡ before ++ x ∷ r) = late_back d in (p.0 ++ x ∷ [], p.1 ∙ sym (append_assoc p.0 (x ∷ []) r))

  late_front : {k r l s : List X} → LateReaches Can set k r → LateReaches Can set l s → length s ≤ length r → (more : List X) × (l ≡ k ++ more)
  late_front {k = k} {r = r} d start h =
      let short : length r ≤ length set = late_shorter Can set d in
      let same : length r ≡ length set = omega arith in
      ([], sym (late_once Can set d start same).0 ∙ sym (append-nil k))
  late_front {k = k} {r = r} d (stays {kept = l} {x = x} {rest = s} d' c) h =
      elim (cases_lt (length s) (length r)) [
        | inl m ↦
            (let p : (more : List X) × (l ≡ k ++ more) = late_front d d' (let g : suc (length s) ≤ length r = omega arith in g) in
            (p.0 ++ x ∷ [], ap (λ z. z ++ x ∷ []) p.1 ∙ append_assoc k p.0 (x ∷ [])))
        | inr m ↦ (let same : length r ≡ length s = omega arith in ([], sym (late_once Can set d (stays d' c) same).0 ∙ sym (append-nil k)))
      ]
  late_front {k = k} {r = r} d (goes {kept = l} {x = x} {rest = s} d' n) h =
      elim (cases_lt (length s) (length r)) [
        | inl m ↦ late_front d d' (let g : suc (length s) ≤ length r = omega arith in g)
        | inr m ↦ (let same : length r ≡ length s = omega arith in ([], sym (late_once Can set d (goes d' n) same).0 ∙ sym (append-nil k)))
      ]

  pub late_test : (kept test : List X) → LateBy Can set kept → IsLateTestBy Can set test → IsFrontAndBack kept set test
  late_test kept test d t =
      let front : (more : List X) × (kept ≡ t.kept ++ more) = late_front t.reached d (omega arith) in
      let back : (before : List X) × (set ≡ before ++ (t.between ++ t.back)) = late_back t.reached in
      record {
        front = t.kept;
        back = t.back;
        joined = t.joined;
        after = front.0;
        front_of = front.1;
        before = back.0 ++ t.between;
        back_of = back.1 ∙ sym (append_assoc back.0 t.between t.back);
      }

module _ {X : Type 0} (Can : List X → Type 0) (set : List X) where
  early_front : {front kept : List X} → EarlyReaches Can set front kept → (after : List X) × (set ≡ front ++ after)
  early_front start = ([], sym (append-nil set))
  early_front (stays {front = f} {x = x} d c) = let p : (after : List X) × (set ≡ (f ++ x ∷ []) ++ after) = early_front d in (x ∷ p.0, p.1 ∙ append_assoc f (x ∷ []) p.0)
  early_front (goes {front = f} x d n) = let p : (after : List X) × (set ≡ (f ++ x ∷ []) ++ after) = early_front d in (x ∷ p.0, p.1 ∙ append_assoc f (x ∷ []) p.0)

  early_back : {f k g l : List X} → EarlyReaches Can set f k → EarlyReaches Can set g l → length g ≤ length f → (more : List X) × (l ≡ more ++ k)
  early_back {f = f} d start h =
      let short : length f ≤ length set = early_shorter Can set d in
      let same : length f ≡ length set = omega arith in
      ([], sym (early_once Can set d start same).1)
  early_back {f = f} d (stays {front = g} {x = x} {kept = l} d' c) h =
      elim (cases_lt (length g) (length f)) [
        | inl m ↦ (let p : (more : List X) × (l ≡ more ++ _) = early_back d d' (omega (arith, length-append g (x ∷ []))) in (x ∷ p.0, ap (λ z. x ∷ z) p.1))
        | inr m ↦ (let same : length f ≡ length g = omega arith in ([], sym (early_once Can set d (stays d' c) same).1))
      ]
  early_back {f = f} d (goes {front = g} x {kept = l} d' n) h =
      elim (cases_lt (length g) (length f)) [
        | inl m ↦ early_back d d' (omega (arith, length-append g (x ∷ [])))
        | inr m ↦ (let same : length f ≡ length g = omega arith in ([], sym (early_once Can set d (goes x d' n) same).1))
      ]

  pub early_test : (kept test : List X) → EarlyBy Can set kept → IsEarlyTestBy Can set test → IsFrontAndBack set kept test
  early_test kept test d t =
      let back : (more : List X) × (kept ≡ more ++ t.kept) = early_back t.reached d (omega arith) in
      let front : (after : List X) × (set ≡ (t.front ++ t.between) ++ after) = early_front t.reached in
      record {
        front = t.front;
        back = t.kept;
        joined = t.joined;
        after = t.between ++ front.0;
        front_of = front.1 ∙ append_assoc t.front t.between front.0;
        before = back.0;
        back_of = back.1;
      }

pub late_test_law : LateTestLaw
late_test_law model set kept test d t = late_test (IsSatisfiable model) set kept test d t

pub early_test_law : EarlyTestLaw
early_test_law model set kept test d t = early_test (IsSatisfiable model) set kept test d t
