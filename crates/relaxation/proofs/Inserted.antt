-- Shares put at their places: the list stays in order, and what holds of shares and what they add up to does not change.
use Rattle.std.proofs.Common.{◌≡◌, ◌+◌, ◌≤◌, refl, sym, ◌∙◌, ap, ℕ, suc, Bool, true, false, true≢false, cond, not, ltb, ◌==◌, ◌&&◌, ◌||◌, List, [], ◌∷◌, ◌++◌, drop, get_or, length, is_some, Option, Some, None, arith}
use Rattle.std.specs.Prelude.{All, AllPairs, IsTrue}
use Rattle.std.specs.List.{insert, position, position_or_len}
use Rattle.std.proofs.lemmas.List.{drop_all, take_all}
use Rattle.std.proofs.lemmas.Bool.{ltb-false}
use Rattle.std.proofs.lemmas.Bool.Decides.{nat_tests}
use Rattle.std.proofs.lemmas.List.Elements.{All-cons, All-head, All-nil, All-tail, All-weaker}
use Rattle.std.proofs.lemmas.List.Kept.{AllPairs-cons}
use Rattle.algebra.proofs.Ring.{x0, x1, x2, ◌:+◌, zero_of}
use Rattle.rational.specs.Rational.{ℚ, ◌+ℚ◌, zero_ℚ}
use Rattle.rational.specs.Sum.{sum_over}
use Rattle.rational.proofs.Field.{ring_ℚ}
use Rattle.lp_model.specs.declared.members.Member.{Member}
use Rattle.lp_model.specs.Members.{comes_before, is_same, kind, place}
use Rattle.lp_model.proofs.Orders.{over}
use Rattle.lp_model.proofs.Sets.{pairs_head, pairs_tail}
use Rattle.certs.specs.declared.evidence.Source.{Source}
use Rattle.certs.specs.declared.evidence.Source.TheVariants.{Member as Of, Below, Above}
use Rattle.certs.specs.declared.evidence.Share.{Share}
use Rattle.certs.specs.Order.{AreSharesInOrder, source_before}
use Rattle.relaxation.specs.Shares.{inserted, placed, source_member, with_share}
use Rattle.relaxation.specs.declared.origins.Origin.{Origin}
use Rattle.relaxation.proofs.Joined.{no_pairs, one_pair}

-- ---- the place
abbrev goes_first : Share → Share → Bool
goes_first s t = source_before s.source t.source

place_is : (s : Share) (list : List Share) → insert list (position_or_len (goes_first s) list) s ≡ inserted s list
place_is s [] = refl
place_is s (t ∷ list) = by (place_is s list) (goes_first s t)
  where
    by : insert list (position_or_len (goes_first s) list) s ≡ inserted s list
        → (b : Bool) → insert (t ∷ list) (cond (not b) (1 + position_or_len (goes_first s) list) 0) s ≡ cond b (s ∷ t ∷ list) (t ∷ inserted s list)
    by h true = refl
    by h false = ap (λ n. insert (t ∷ list) n s) (let e : 1 + position_or_len (goes_first s) list ≡ suc (position_or_len (goes_first s) list) = omega arith in e) ∙ ap (λ z. t ∷ z) h

module _ (s : Share) (list : List Share) where
  abbrev n : ℕ
  n = position_or_len (goes_first s) list

  place_found : (b : Bool) (k : ℕ) → cond b (Some n) None ≡ Some k → n ≡ k
  place_found true k h = ap (λ (o : Option ℕ). elim o [ Some i ↦ i | None ↦ 0 ]) h
  place_found false k h = absurd (true≢false (sym (ap is_some h)))

  none_found : (b : Bool) → cond b (Some n) None ≡ None → b ≡ false
  none_found true h = ap is_some h
  none_found false h = refl

  pub at_place : (k : ℕ) → position (goes_first s) list ≡ Some k → insert list k s ≡ inserted s list
  at_place k h = ap (λ i. insert list i s) (sym (place_found (ltb n (length list)) k h)) ∙ place_is s list

  pub at_end : position (goes_first s) list ≡ None → list ++ s ∷ [] ≡ inserted s list
  at_end h =
      let past : length list ≤ n = ltb-false n (length list) (none_found (ltb n (length list)) h) in
      sym (ap (λ z. z ++ s ∷ drop n list) (take_all n list past) ∙ ap (λ z. list ++ s ∷ z) (drop_all n list past)) ∙ place_is s list

-- ---- what does not change
pub inserted_all : (P : Share → Type 0) (s : Share) (list : List Share) → P s → All P list → All P (inserted s list)
inserted_all P s [] p h = All-cons P s [] p h
inserted_all P s (t ∷ list) p h = by (inserted_all P s list p (All-tail P t list h)) (goes_first s t)
  where
    by : All P (inserted s list) → (b : Bool) → All P (cond b (s ∷ t ∷ list) (t ∷ inserted s list))
    by rest true = All-cons P s (t ∷ list) p h
    by rest false = All-cons P t (inserted s list) (All-head P t list h) rest

inserted_sum : (f : Share → ℚ) (s : Share) (list : List Share) → sum_over f (inserted s list) ≡ f s +ℚ sum_over f list
inserted_sum f s [] = refl
inserted_sum f s (t ∷ list) = by (inserted_sum f s list) (goes_first s t)
  where
    by : sum_over f (inserted s list) ≡ f s +ℚ sum_over f list → (b : Bool) → sum_over f (cond b (s ∷ t ∷ list) (t ∷ inserted s list)) ≡ f s +ℚ (f t +ℚ sum_over f list)
    by rest true = refl
    by rest false = ap (λ z. f t +ℚ z) rest ∙ ring_ℚ (f t ∷ f s ∷ sum_over f list ∷ []) (x0 :+ (x1 :+ x2)) (x1 :+ (x0 :+ x2)) tt

-- ---- the order
abbrev Stands : Share → Share → Type 0
Stands s t = IsTrue (source_before s.source t.source)

-- of two, one stands before the other
abbrev Comparable : Share → Share → Type 0
Comparable s t = source_before s.source t.source ≡ false → source_before t.source s.source ≡ true

beyond : (l : Member) (a b : Source) → source_before (Of l) a ≡ true → source_before a b ≡ true → source_before (Of l) b ≡ true
beyond l (Of m) (Of n) h k = over l m n h k
beyond l (Of m) (Below j) h k = refl
beyond l (Of m) (Above j) h k = refl
beyond l (Below i) (Of n) h k = absurd (true≢false (sym k))
beyond l (Below i) (Below j) h k = refl
beyond l (Below i) (Above j) h k = refl
beyond l (Above i) (Of n) h k = absurd (true≢false (sym k))
beyond l (Above i) (Below j) h k = refl
beyond l (Above i) (Above j) h k = refl

inserted_ordered : (m : Member) (w : ℚ) (list : List Share) → AreSharesInOrder list → All (Comparable (record { source = Of m; weight = w })) list → AreSharesInOrder (inserted (record { source = Of m; weight = w }) list)
inserted_ordered m w [] h k = one_pair Stands (record { source = Of m; weight = w })
inserted_ordered m w (t ∷ list) h k =
    by (goes_first s t) refl (inserted_ordered m w list (pairs_tail Stands t list h) (All-tail (Comparable s) t list k))
  where
    s : Share
    s = record { source = Of m; weight = w }

    by : (b : Bool) → source_before (Of m) t.source ≡ b → AreSharesInOrder (inserted (record { source = Of m; weight = w }) list)
        → AreSharesInOrder (cond b ((record { source = Of m; weight = w }) ∷ t ∷ list) (t ∷ inserted (record { source = Of m; weight = w }) list))
    by true e rest =
        AllPairs-cons Stands (record { source = Of m; weight = w }) (t ∷ list)
        (All-cons (Stands (record { source = Of m; weight = w })) t list e (All-weaker (Stands t) (Stands (record { source = Of m; weight = w })) (λ u g. beyond m t.source u.source e g) list (pairs_head Stands t list h))) h
    by false e rest =
        AllPairs-cons Stands t (inserted (record { source = Of m; weight = w }) list)
        (inserted_all (Stands t) (record { source = Of m; weight = w }) list (All-head (Comparable (record { source = Of m; weight = w })) t list k e) (pairs_head Stands t list h)) rest

-- of two members that are not the same one stands before the other
lex : ℕ → ℕ → ℕ → ℕ → Bool
lex a b c d = ltb a c || ((a == c) && ltb b d)

lex_other : (a b c d : ℕ) → ((a == c) && (b == d)) ≡ false → lex c d a b ≡ false → lex a b c d ≡ true
unfolding lex
lex_other a b c d h k = grind (arith, nat_tests)

other_first : (m n : Member) → is_same m n ≡ false → comes_before n m ≡ false → comes_before m n ≡ true
unfolding lex
other_first m n h k = lex_other (kind m) (place m) (kind n) (place n) h k

-- ---- all of them
-- what holds of the share of a member, where it is one
abbrev pub IsFor : (Share → Type 0) → ℚ → Option Member → Type 0
IsFor P w None = Unit {0}
IsFor P w (Some m) = P (record { source = Of m; weight = w })

-- what it counts, or nothing
abbrev pub counted : (Share → ℚ) → ℚ → Option Member → ℚ
counted f w None = zero_ℚ
counted f w (Some m) = f (record { source = Of m; weight = w })

module _ (columns : ℕ) (rows : List Origin) where
  abbrev pub member_of_share : Share → Option Member
  member_of_share s = source_member columns rows s.source

  with_all : (P : Share → Type 0) (w : ℚ) (o : Option Member) (list : List Share) → IsFor P w o → All P list → All P (with_share w o list)
  with_all P w None list p h = h
  with_all P w (Some m) list p h = inserted_all P (record { source = Of m; weight = w }) list p h

  pub placed_all : (P : Share → Type 0) (list shares : List Share) → All P list → All (λ s. IsFor P s.weight (member_of_share s)) shares → All P (placed columns rows list shares)
  placed_all P list [] h k = h
  placed_all P list (s ∷ shares) h k =
      placed_all P (with_share s.weight (member_of_share s) list) shares
      (with_all P s.weight (member_of_share s) list (All-head (λ s. IsFor P s.weight (member_of_share s)) s shares k) h) (All-tail (λ s. IsFor P s.weight (member_of_share s)) s shares k)

  with_sum : (f : Share → ℚ) (w : ℚ) (o : Option Member) (list : List Share) → sum_over f (with_share w o list) ≡ counted f w o +ℚ sum_over f list
  with_sum f w None list = ring_ℚ (sum_over f list ∷ []) x0 (zero_of :+ x0) tt
  with_sum f w (Some m) list = inserted_sum f (record { source = Of m; weight = w }) list

  pub placed_sum : (f : Share → ℚ) (list shares : List Share) → sum_over f (placed columns rows list shares) ≡ sum_over f list +ℚ sum_over (λ s. counted f s.weight (member_of_share s)) shares
  placed_sum f list [] = ring_ℚ (sum_over f list ∷ []) x0 (x0 :+ zero_of) tt
  placed_sum f list (s ∷ shares) =
      let rest : ℚ = sum_over (λ s. counted f s.weight (member_of_share s)) shares in
      placed_sum f (with_share s.weight (member_of_share s) list) shares
      ∙ ap (λ z. z +ℚ rest) (with_sum f s.weight (member_of_share s) list)
      ∙ ring_ℚ (counted f s.weight (member_of_share s) ∷ sum_over f list ∷ rest ∷ []) ((x0 :+ x1) :+ x2) (x1 :+ (x0 :+ x2)) tt

  -- shares that are not of one member
  abbrev pub AreApart : Share → Share → Type 0
  AreApart s t = (m n : Member) → member_of_share s ≡ Some m → member_of_share t ≡ Some n → is_same m n ≡ false

  -- the share has a place among those of the list
  abbrev Fits : List Share → Share → Type 0
  Fits list s = (m : Member) → member_of_share s ≡ Some m → All (Comparable (record { source = Of m; weight = s.weight })) list

  abbrev Ordering : List Share → Type 0
  Ordering shares = (list : List Share) → AreSharesInOrder list → All (Fits list) shares → AllPairs AreApart shares → AreSharesInOrder (placed columns rows list shares)

  one_ordered : (s : Share) (shares : List Share) → Ordering shares → (list : List Share) → AreSharesInOrder list → All (Fits list) (s ∷ shares) → AllPairs AreApart (s ∷ shares)
      → (o : Option Member) → member_of_share s ≡ o → AreSharesInOrder (placed columns rows (with_share s.weight o list) shares)
  one_ordered s shares more list ordered fits apart None e = more list ordered (All-tail (Fits list) s shares fits) (pairs_tail AreApart s shares apart)
  one_ordered s shares more list ordered fits apart (Some m) e =
      let new : Share = record { source = Of m; weight = s.weight } in
      more (inserted new list) (inserted_ordered m s.weight list ordered (All-head (Fits list) s shares fits m e))
      (λ k d l n f.
      let t : Share = get_or shares k d in
      inserted_all (Comparable (record { source = Of n; weight = t.weight })) new list
      (other_first m n (pairs_head AreApart s shares apart k d l m n e f)) (All-tail (Fits list) s shares fits k d l n f))
      (pairs_tail AreApart s shares apart)

  placed_ordered : (shares : List Share) → Ordering shares
  placed_ordered [] list ordered fits apart = ordered
  placed_ordered (s ∷ shares) list ordered fits apart = one_ordered s shares (placed_ordered shares) list ordered fits apart (member_of_share s) refl

  -- the whole list is in order
  pub all_ordered : (shares : List Share) → AllPairs AreApart shares → AreSharesInOrder (placed columns rows [] shares)
  all_ordered shares apart = placed_ordered shares [] (no_pairs Stands) (λ k d l m e. All-nil (Comparable (record { source = Of m; weight = (get_or shares k d).weight }))) apart
