-- What it means to stay: a filter's walk, at any place of it, keeps of the members passed just those that can be satisfied as said.
use Rattle.std.proofs.Common.{◌≡◌, ◌<◌, refl, sym, ◌∙◌, ap, subst, zero, suc, Bool, true, false, true≢false, cond, ◌||◌, ◌↔◌, List, [], ◌∷◌, ◌++◌, append_assoc, append-nil, length, filter, arith, ◌⊎◌, inl, inr}
use Rattle.std.specs.Prelude.{Contains}
use Rattle.std.proofs.lemmas.List.Elements.{filter-append, Contains-append_left, Contains-append_right, All-contains}
use Rattle.lp_model.specs.declared.members.Member.{Member}
use Rattle.lp_model.specs.Members.{has, is_same, comes_before, IsInOrder}
use Rattle.lp_model.specs.Satisfaction.{IsSatisfiable}
use Rattle.lp_model.proofs.Orders.{not_itself}
use Rattle.lp_model.proofs.Walk.{order_head, order_tail, in_middle}
use Rattle.lp_model.proofs.Sets.{same_members, contains_of_has, has_of_contains}
use Rattle.certs.specs.Filter.{LateReaches, start, stays, goes, EarlyReaches, LateMeansLaw, EarlyMeansLaw}
use Rattle.certs.proofs.Filters.{last_apart, push_apart}
use Rattle.certs.proofs.HasLists.{agree_on, has_kept}

-- ---- lists in order have each member once
not_before_itself : (x a : Member) → x ≡ a → comes_before x a ≡ true → {Z : Type 0} → Z
not_before_itself x a e h = absurd (true≢false (sym h ∙ (ap (λ z. comes_before x z) (sym e) ∙ not_itself x)))

not_after : (f : List Member) (x : Member) (b : List Member) → IsInOrder (f ++ x ∷ b) → (a : Member) → Contains b a → x ≡ a → {Z : Type 0} → Z
not_after [] x b h a c e = not_before_itself x a e (All-contains (λ y. comes_before x y ≡ true) b a (order_head x b h) c)
not_after (z ∷ f) x b h a c e = not_after f x b (order_tail z (f ++ x ∷ b) h) a c e

not_before : (f : List Member) (x : Member) (b : List Member) → IsInOrder (f ++ x ∷ b) → (a : Member) → Contains f a → x ≡ a → {Z : Type 0} → Z
not_before [] x b h a (k, l, e) p = absurd (omega arith)
not_before (z ∷ f) x b h a (zero, l, e) p =
    let q : z ≡ a = e in
    not_before_itself z x (q ∙ sym p) (All-contains (λ y. comes_before z y ≡ true) (f ++ x ∷ b) x (order_head z (f ++ x ∷ b) h) (in_middle f x b))
not_before (z ∷ f) x b h a (suc k, l, e) p = not_before f x b (order_tail z (f ++ x ∷ b) h) a (k, (let g : k < length f = omega arith in g), e) p

-- ---- what a list has, with one more
not_same : (y a : Member) → (y ≡ a → ⊥) → is_same y a ≡ false
not_same y a n = by (is_same y a) refl
  where
    by : (s : Bool) → is_same y a ≡ s → s ≡ false
    by true e = absurd (n (same_members y a e))
    by false e = refl

has_before : (k : List Member) (y a : Member) → (y ≡ a → ⊥) → has (k ++ y ∷ []) a ≡ has k a
has_before [] y a n = ap (λ s. s || false) (not_same y a n)
has_before (z ∷ k) y a n = ap (λ t. is_same z a || t) (has_before k y a n)

has_behind : (k : List Member) (y a : Member) → (y ≡ a → ⊥) → has (y ∷ k) a ≡ has k a
has_behind k y a n = ap (λ s. s || has k a) (not_same y a n)

has_last : (k : List Member) (y : Member) → has (k ++ y ∷ []) y ≡ true
has_last k y = has_of_contains (k ++ y ∷ []) y (in_middle k y [])

has_first : (k : List Member) (y : Member) → has (y ∷ k) y ≡ true
has_first k y = has_of_contains (y ∷ k) y (in_middle [] y k)

-- what is kept of a list without the member has not the member
not_kept : (k passed : List Member) (y : Member) → k ≡ filter (has k) passed → (Contains passed y → ⊥) → has k y ≡ false
not_kept k passed y e n = by (has k y) refl
  where
    by : (s : Bool) → has k y ≡ s → s ≡ false
    by true h = absurd (n (contains_of_has passed y (sym (has_kept (has k) passed y h) ∙ (ap (λ l. has l y) (sym e) ∙ h))))
    by false h = refl

only : (p : Member → Bool) (y : Member) → p y ≡ true → filter p (y ∷ []) ≡ y ∷ []
only p y e = ap (λ s. cond s (y ∷ []) []) e

none : (p : Member → Bool) (y : Member) → p y ≡ false → filter p (y ∷ []) ≡ []
none p y e = ap (λ s. cond s (y ∷ []) []) e

-- ---- from the first on
module _ (Can : List Member → Type 0) (set : List Member) (order : IsInOrder set) where
  -- what is kept of the members passed, and why
  record Kept (kept rest : List Member) : Type 0 where
    passed : List Member
    joined : set ≡ passed ++ rest
    kept_of : kept ≡ filter (has kept) passed
    means : (f : List Member) (x : Member) (b : List Member) → passed ≡ f ++ x ∷ b → (has kept x ≡ true) ↔ Can (filter (has kept) f ++ (b ++ rest))

  apart : (passed : List Member) (y : Member) (rest : List Member) → set ≡ passed ++ y ∷ rest → (a : Member) → Contains passed a → y ≡ a → ⊥
  apart passed y rest e a c p = not_before passed y rest (subst IsInOrder e order) a c p

  next_joined : (passed : List Member) (y : Member) (rest : List Member) → set ≡ passed ++ y ∷ rest → set ≡ (passed ++ y ∷ []) ++ rest
  next_joined passed y rest e = e ∙ sym (append_assoc passed (y ∷ []) rest)

  agree : (kept passed : List Member) (y : Member) → ((a : Member) → Contains passed a → y ≡ a → ⊥) → (f : List Member) (b : List Member) → passed ≡ f ++ b
      → filter (has (kept ++ y ∷ [])) f ≡ filter (has kept) f
  agree kept passed y other f b e =
      agree_on (has (kept ++ y ∷ [])) (has kept) f (λ a c. has_before kept y a (other a (subst (λ l. Contains l a) (sym e) (Contains-append_left f b a c))))

  with_next : (kept rest : List Member) (y : Member) → Kept kept (y ∷ rest) → Can (kept ++ rest) → Kept (kept ++ y ∷ []) rest
  with_next kept rest y s can = record {
    passed = s.passed ++ y ∷ [];
    joined = next_joined s.passed y rest s.joined;
    kept_of = sym (filter-append more s.passed (y ∷ []) ∙ (ap (λ l. l ++ filter more (y ∷ [])) (same s.passed [] (sym (append-nil s.passed)) ∙ sym s.kept_of) ∙ ap (λ l. kept ++ l) (only more y (has_last kept y))));
    means = λ f x b e. at f x b e (last_apart s.passed f y x b e);
  }
    where
      more : Member → Bool
      more = has (kept ++ y ∷ [])

      other : (a : Member) → Contains s.passed a → y ≡ a → ⊥
      other = apart s.passed y rest s.joined

      same : (f b : List Member) → s.passed ≡ f ++ b → filter more f ≡ filter (has kept) f
      same f b e = agree kept s.passed y other f b e

      last : (f : List Member) → s.passed ≡ f → filter more f ≡ kept
      last f e = same f [] (e ∙ sym (append-nil f)) ∙ (ap (λ l. filter (has kept) l) (sym e) ∙ sym s.kept_of)

      at : (f : List Member) (x : Member) (b : List Member) → s.passed ++ y ∷ [] ≡ f ++ x ∷ b
          → ((b ≡ []) × (s.passed ≡ f)) ⊎ ((c : List Member) × (b ≡ c ++ y ∷ []) × (s.passed ≡ f ++ x ∷ c))
          → (has (kept ++ y ∷ []) x ≡ true) ↔ Can (filter more f ++ (b ++ rest))
      at f x b e (inl (nothing, whole)) =
          let same_last : y ≡ x = (push_apart s.passed f y x (e ∙ ap (λ l. f ++ x ∷ l) nothing)).1 in
          let held : has (kept ++ y ∷ []) x ≡ true = ap (λ z. has (kept ++ y ∷ []) z) (sym same_last) ∙ has_last kept y in
          let list : kept ++ rest ≡ filter more f ++ (b ++ rest) = ap (λ l. l ++ rest) (sym (last f whole)) ∙ ap (λ l. filter more f ++ (l ++ rest)) (sym nothing) in
          ((λ _. subst Can list can), (λ _. held))
      at f x b e (inr (c, behind, whole)) =
          let old = s.means f x c whole in
          let list : filter (has kept) f ++ (c ++ y ∷ rest) ≡ filter more f ++ (b ++ rest) =
          ap (λ l. l ++ (c ++ y ∷ rest)) (sym (same f (x ∷ c) whole)) ∙ ap (λ l. filter more f ++ l) (sym (ap (λ l. l ++ rest) behind ∙ append_assoc c (y ∷ []) rest)) in
          let held : has (kept ++ y ∷ []) x ≡ has kept x = has_before kept y x (other x (subst (λ l. Contains l x) (sym whole) (in_middle f x c))) in
          ((λ h. subst Can list (old.0 (sym held ∙ h))), (λ h. held ∙ old.1 (subst Can (sym list) h)))

  without_next : (kept rest : List Member) (y : Member) → Kept kept (y ∷ rest) → ¬ (Can (kept ++ rest)) → Kept kept rest
  without_next kept rest y s cannot = record {
    passed = s.passed ++ y ∷ [];
    joined = next_joined s.passed y rest s.joined;
    kept_of = sym (filter-append (has kept) s.passed (y ∷ []) ∙ (ap (λ l. filter (has kept) s.passed ++ l) (none (has kept) y gone) ∙ (append-nil (filter (has kept) s.passed) ∙ sym s.kept_of)));
    means = λ f x b e. at f x b e (last_apart s.passed f y x b e);
  }
    where
      gone : has kept y ≡ false
      gone = not_kept kept s.passed y s.kept_of (λ c. apart s.passed y rest s.joined y c refl)

      at : (f : List Member) (x : Member) (b : List Member) → s.passed ++ y ∷ [] ≡ f ++ x ∷ b
          → ((b ≡ []) × (s.passed ≡ f)) ⊎ ((c : List Member) × (b ≡ c ++ y ∷ []) × (s.passed ≡ f ++ x ∷ c))
          → (has kept x ≡ true) ↔ Can (filter (has kept) f ++ (b ++ rest))
      at f x b e (inl (nothing, whole)) =
          let same_last : y ≡ x = (push_apart s.passed f y x (e ∙ ap (λ l. f ++ x ∷ l) nothing)).1 in
          let list : filter (has kept) f ++ (b ++ rest) ≡ kept ++ rest =
          ap (λ l. filter (has kept) l ++ (b ++ rest)) (sym whole) ∙ (ap (λ l. l ++ (b ++ rest)) (sym s.kept_of) ∙ ap (λ l. kept ++ (l ++ rest)) nothing) in
          ((λ h. absurd (true≢false (sym h ∙ (ap (λ z. has kept z) (sym same_last) ∙ gone)))), (λ h. absurd (cannot (subst Can list h))))
      at f x b e (inr (c, behind, whole)) =
          let list : c ++ y ∷ rest ≡ b ++ rest = sym (ap (λ l. l ++ rest) behind ∙ append_assoc c (y ∷ []) rest) in
          subst (λ l. (has kept x ≡ true) ↔ Can (filter (has kept) f ++ l)) list (s.means f x c whole)

  walked : {kept rest : List Member} → LateReaches Can set kept rest → Kept kept rest
  walked start = record {
    passed = [];
    joined = refl;
    kept_of = refl;
    means = λ f x b e. absurd (nothing_before f x b e);
  }
    where
      nothing_before : (f : List Member) (x : Member) (b : List Member) → [] ≡ f ++ x ∷ b → ⊥
      nothing_before [] x b e = cc
      nothing_before (z ∷ f) x b e = cc
  walked (stays {kept = k} {x = y} {rest = r} d can) = with_next k r y (walked d) can
  walked (goes {kept = k} {x = y} {rest = r} d cannot) = without_next k r y (walked d) cannot

  late_meaning : (kept f : List Member) (x : Member) (b : List Member) → LateReaches Can set kept [] → set ≡ f ++ x ∷ b → (has kept x ≡ true) ↔ Can (filter (has kept) f ++ b)
  late_meaning kept f x b d e =
      let s = walked d in
      subst (λ l. (has kept x ≡ true) ↔ Can (filter (has kept) f ++ l)) (append-nil b) (s.means f x b (sym (s.joined ∙ append-nil s.passed) ∙ e))

pub late_means_law : LateMeansLaw
late_means_law model f x b kept order d = late_meaning (IsSatisfiable model) (f ++ x ∷ b) order kept f x b d refl

-- ---- from the last back
module _ (Can : List Member → Type 0) (set : List Member) (order : IsInOrder set) where
  record KeptBack (front kept : List Member) : Type 0 where
    passed : List Member
    joined : set ≡ front ++ passed
    kept_of : kept ≡ filter (has kept) passed
    means : (f : List Member) (x : Member) (b : List Member) → passed ≡ f ++ x ∷ b → (has kept x ≡ true) ↔ Can ((front ++ f) ++ filter (has kept) b)

  apart_behind : (front : List Member) (y : Member) (passed : List Member) → set ≡ (front ++ y ∷ []) ++ passed → (a : Member) → Contains passed a → y ≡ a → ⊥
  apart_behind front y passed e a c p = not_after front y passed (subst IsInOrder (e ∙ append_assoc front (y ∷ []) passed) order) a c p

  with_last : (front kept : List Member) (y : Member) → KeptBack (front ++ y ∷ []) kept → Can (front ++ kept) → KeptBack front (y ∷ kept)
  with_last front kept y s can = record {
    passed = y ∷ s.passed;
    joined = s.joined ∙ append_assoc front (y ∷ []) s.passed;
    kept_of = sym (ap (λ t. cond t (y ∷ filter more s.passed) (filter more s.passed)) (has_first kept y) ∙ ap (λ l. y ∷ l) (same [] s.passed refl ∙ sym s.kept_of));
    means = at;
  }
    where
      more : Member → Bool
      more = has (y ∷ kept)

      other : (a : Member) → Contains s.passed a → y ≡ a → ⊥
      other = apart_behind front y s.passed s.joined

      same : (f b : List Member) → s.passed ≡ f ++ b → filter more b ≡ filter (has kept) b
      same f b e = agree_on more (has kept) b (λ a c. has_behind kept y a (other a (subst (λ l. Contains l a) (sym e) (Contains-append_right f b a c))))

      at : (f : List Member) (x : Member) (b : List Member) → y ∷ s.passed ≡ f ++ x ∷ b → (has (y ∷ kept) x ≡ true) ↔ Can ((front ++ f) ++ filter more b)
      at [] x b e =
          let first : y ≡ x = cc in
          let behind : s.passed ≡ b = cc in
          let held : has (y ∷ kept) x ≡ true = ap (λ z. has (y ∷ kept) z) (sym first) ∙ has_first kept y in
          let list : front ++ kept ≡ (front ++ []) ++ filter more b =
          ap (λ l. front ++ l) (s.kept_of ∙ (sym (same [] s.passed refl) ∙ ap (λ l. filter more l) behind)) ∙ ap (λ l. l ++ filter more b) (sym (append-nil front)) in
          ((λ _. subst Can list can), (λ _. held))
      at (z ∷ f) x b e =
          let first : y ≡ z = cc in
          let whole : s.passed ≡ f ++ x ∷ b = cc in
          let old = s.means f x b whole in
          let list : ((front ++ y ∷ []) ++ f) ++ filter (has kept) b ≡ (front ++ z ∷ f) ++ filter more b =
          ap (λ l. l ++ filter (has kept) b) (append_assoc front (y ∷ []) f ∙ ap (λ w. front ++ w ∷ f) first) ∙ ap (λ l. (front ++ z ∷ f) ++ l) (sym (same (f ++ x ∷ []) b (whole ∙ sym (append_assoc f (x ∷ []) b)))) in
          let held : has (y ∷ kept) x ≡ has kept x = has_behind kept y x (other x (subst (λ l. Contains l x) (sym whole) (in_middle f x b))) in
          ((λ h. subst Can list (old.0 (sym held ∙ h))), (λ h. held ∙ old.1 (subst Can (sym list) h)))

  without_last : (front kept : List Member) (y : Member) → KeptBack (front ++ y ∷ []) kept → ¬ (Can (front ++ kept)) → KeptBack front kept
  without_last front kept y s cannot = record {
    passed = y ∷ s.passed;
    joined = s.joined ∙ append_assoc front (y ∷ []) s.passed;
    kept_of = s.kept_of ∙ sym (ap (λ t. cond t (y ∷ filter (has kept) s.passed) (filter (has kept) s.passed)) gone);
    means = at;
  }
    where
      gone : has kept y ≡ false
      gone = not_kept kept s.passed y s.kept_of (λ c. apart_behind front y s.passed s.joined y c refl)

      at : (f : List Member) (x : Member) (b : List Member) → y ∷ s.passed ≡ f ++ x ∷ b → (has kept x ≡ true) ↔ Can ((front ++ f) ++ filter (has kept) b)
      at [] x b e =
          let first : y ≡ x = cc in
          let behind : s.passed ≡ b = cc in
          let list : (front ++ []) ++ filter (has kept) b ≡ front ++ kept =
          ap (λ l. l ++ filter (has kept) b) (append-nil front) ∙ ap (λ l. front ++ l) (ap (λ l. filter (has kept) l) (sym behind) ∙ sym s.kept_of) in
          ((λ h. absurd (true≢false (sym h ∙ (ap (λ z. has kept z) (sym first) ∙ gone)))), (λ h. absurd (cannot (subst Can list h))))
      at (z ∷ f) x b e =
          let first : y ≡ z = cc in
          let whole : s.passed ≡ f ++ x ∷ b = cc in
          let list : (front ++ y ∷ []) ++ f ≡ front ++ z ∷ f = append_assoc front (y ∷ []) f ∙ ap (λ w. front ++ w ∷ f) first in
          subst (λ l. (has kept x ≡ true) ↔ Can (l ++ filter (has kept) b)) list (s.means f x b whole)

  walked_back : {front kept : List Member} → EarlyReaches Can set front kept → KeptBack front kept
  walked_back start = record {
    passed = [];
    joined = sym (append-nil set);
    kept_of = refl;
    means = λ f x b e. absurd (nothing_behind f x b e);
  }
    where
      nothing_behind : (f : List Member) (x : Member) (b : List Member) → [] ≡ f ++ x ∷ b → ⊥
      nothing_behind [] x b e = cc
      nothing_behind (z ∷ f) x b e = cc
  walked_back (stays {front = f} {x = y} {kept = k} d can) = with_last f k y (walked_back d) can
  walked_back (goes {front = f} y {kept = k} d cannot) = without_last f k y (walked_back d) cannot

  early_meaning : (kept f : List Member) (x : Member) (b : List Member) → EarlyReaches Can set [] kept → set ≡ f ++ x ∷ b → (has kept x ≡ true) ↔ Can (f ++ filter (has kept) b)
  early_meaning kept f x b d e = let s = walked_back d in s.means f x b (sym s.joined ∙ e)

pub early_means_law : EarlyMeansLaw
early_means_law model f x b kept order d = early_meaning (IsSatisfiable model) (f ++ x ∷ b) order kept f x b d refl
