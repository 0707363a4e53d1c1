-- The support of values of members: as a loop lists it, in which order it stands, and the members that it comes from.
use Rattle.std.proofs.Common.{◌≡◌, ◌+◌, ◌<◌, refl, sym, ◌∙◌, ap, subst, ℕ, zero, suc, Bool, true, false, cond, ◌||◌, List, [], ◌∷◌, ◌++◌, filter, take, length, get_or, arith}
use Rattle.std.specs.Prelude.{All, Contains, IsTrue}
use Rattle.std.specs.List.{list_any}
use Rattle.std.proofs.Math.Bool.{or-false}
use Rattle.std.proofs.lemmas.Bool.{cond_both}
use Rattle.std.proofs.lemmas.List.Elements.{All-cons, All-contains, All-filter, All-nil, All-weaker}
use Rattle.std.proofs.lemmas.List.Folds.{list_any_none}
use Rattle.std.proofs.lemmas.List.Kept.{AllPairs-cons}
use Rattle.rational.specs.Rational.{ℚ, lt_q, zero_ℚ, ◌<ℚ◌}
use Rattle.rational.proofs.Order.{lt_q-true}
use Rattle.lp_model.specs.declared.members.Member.{Member}
use Rattle.lp_model.specs.Members.{comes_before, IsInOrder}
use Rattle.lp_model.proofs.Orders.{after_differs, before_differs}
use Rattle.lp_model.proofs.Sets.{Contains-cons, same_self}
use Rattle.lp_model.proofs.Walk.{in_middle, order_head, order_tail}
use Rattle.certs.specs.declared.evidence.Combo.{Combo}
use Rattle.certs.specs.declared.evidence.Node.TheVariants.{Leaf}
use Rattle.certs.specs.declared.evidence.Source.{Source}
use Rattle.certs.specs.declared.evidence.Source.TheVariants.{Member as Of, Below, Above}
use Rattle.certs.specs.declared.evidence.Share.{Share}
use Rattle.certs.specs.Alternative.{members_of}
use Rattle.certs.specs.Combination.{IsFrom}
use Rattle.certs.specs.Named.{node_uses, used_members}
use Rattle.certs.specs.Order.{AreSharesInOrder, source_before}
use Rattle.certs.specs.System.{support}
use Rattle.certs.specs.Violation.{is_of}
use Rattle.certs.proofs.HasLists.{agree_on}
use Rattle.alt_polyhedron.specs.Reading.{share_of}

abbrev later : (ℕ → ℚ) → ℕ → ℚ
later y k = y (suc k)

abbrev share : Member → ℚ → Share
share m q = record { source = Of m; weight = q }

-- ---- one member more
support_next : (members : List Member) (y : ℕ → ℚ) (i : ℕ) (d : Member) → i < length members → support (take (suc i) members) y ≡ support (take i members) y ++ share_of (get_or members i d) (y i)
support_next [] y i d l = absurd (omega arith)
support_next (m ∷ members) y zero d l = refl
support_next (m ∷ members) y (suc i) d l = by (support_next members (later y) i d (omega arith)) (lt_q zero_ℚ (y 0))
  where
    by : support (take (suc i) members) (later y) ≡ support (take i members) (later y) ++ share_of (get_or members i d) (y (suc i))
        → (b : Bool) → cond b (share m (y 0) ∷ support (take (suc i) members) (later y)) (support (take (suc i) members) (later y))
        ≡ cond b (share m (y 0) ∷ support (take i members) (later y)) (support (take i members) (later y)) ++ share_of (get_or members i d) (y (suc i))
    by rest true = ap (λ l. share m (y 0) ∷ l) rest
    by rest false = rest

pub support_more : (members : List Member) (y : ℕ → ℚ) (i : ℕ) (d : Member) → i < length members → support (take (i + 1) members) y ≡ support (take i members) y ++ share_of (get_or members i d) (y i)
support_more members y i d l = ap (λ k. support (take k members) y) (let e : i + 1 ≡ suc i = omega arith in e) ∙ support_next members y i d l

-- values that are the same give one support
pub support_same : (members : List Member) (y z : ℕ → ℚ) → ((k : ℕ) → k < length members → y k ≡ z k) → support members y ≡ support members z
support_same [] y z h = refl
support_same (m ∷ members) y z h =
    ap (λ q. cond (lt_q zero_ℚ q) (share m q ∷ support members (later y)) (support members (later y))) (h 0 (omega arith))
    ∙ ap (λ l. cond (lt_q zero_ℚ (z 0)) (share m (z 0) ∷ l) l) (support_same members (later y) (later z) (λ k l. h (suc k) (let g : suc k < suc (length members) = omega arith in g)))

-- ---- what holds of each share
pub support_each : (P : Share → Type 0) (members : List Member) (y : ℕ → ℚ) → ((m : Member) (q : ℚ) → Contains members m → zero_ℚ <ℚ q → P (record { source = Of m; weight = q })) → All P (support members y)
support_each P [] y h = All-nil P
support_each P (m ∷ members) y h =
    let rest : All P (support members (later y)) = support_each P members (later y) (λ n q c p. h n q (Contains-cons m members n c) p) in
    cond_both (lt_q zero_ℚ (y 0)) (share m (y 0) ∷ support members (later y)) (support members (later y)) (All P)
    (λ e. All-cons P (share m (y 0)) (support members (later y)) (h m (y 0) (in_middle [] m members) (lt_q-true zero_ℚ (y 0) e)) rest)
    (λ e. rest)

abbrev Precedes : Share → Share → Type 0
Precedes s t = IsTrue (source_before s.source t.source)

-- those of members in order stand in order
pub support_in_order : (members : List Member) (y : ℕ → ℚ) → IsInOrder members → AreSharesInOrder (support members y)
support_in_order [] y h = λ i j d l m. absurd (omega arith)
support_in_order (m ∷ members) y h =
    let rest : AreSharesInOrder (support members (later y)) = support_in_order members (later y) (order_tail m members h) in
    let s : Share = share m (y 0) in
    cond_both (lt_q zero_ℚ (y 0)) (s ∷ support members (later y)) (support members (later y)) AreSharesInOrder
    (λ e. AllPairs-cons Precedes s (support members (later y)) (support_each (Precedes s) members (later y) (λ n q c p. All-contains (λ n. comes_before m n ≡ true) members n (order_head m members h) c)) rest)
    (λ e. rest)

-- each is of one of the members that they come from
from_more : (m : Member) (s : Source) (members : List Member) → IsFrom members s → IsFrom (m ∷ members) s
from_more m (Of n) members c = Contains-cons m members n c
from_more m (Below j) members c = tt
from_more m (Above j) members c = tt

pub support_from : (members : List Member) (y : ℕ → ℚ) → All (λ s. IsFrom (members_of (support members y)) s.source) (support members y)
support_from [] y = All-nil (λ (s : Share). IsFrom [] s.source)
support_from (m ∷ members) y = by (support_from members (later y)) (lt_q zero_ℚ (y 0))
  where
    by : All (λ s. IsFrom (members_of (support members (later y))) s.source) (support members (later y))
        → (b : Bool) → let shares : List Share = cond b (share m (y 0) ∷ support members (later y)) (support members (later y)) in All (λ s. IsFrom (members_of shares) s.source) shares
    by rest true =
        let own : List Member = members_of (support members (later y)) in
        All-cons (λ s. IsFrom (m ∷ own) s.source) (share m (y 0)) (support members (later y)) (in_middle [] m own)
        (All-weaker (λ s. IsFrom own s.source) (λ s. IsFrom (m ∷ own) s.source) (λ s c. from_more m s.source own c) (support members (later y)) rest)
    by rest false = rest

-- ---- the members that they come from, among those of a set in order
abbrev uses : List Share → Member → Bool
uses shares m = list_any (λ s. is_of m s.source) shares

none_uses : (m : Member) (members : List Member) (y : ℕ → ℚ) → All (λ n. comes_before m n ≡ true) members → uses (support members y) m ≡ false
none_uses m members y h =
    list_any_none (λ s. is_of m s.source) (support members y)
    (support_each (λ s. is_of m s.source ≡ false) members y (λ n q c p. before_differs m n (All-contains (λ n. comes_before m n ≡ true) members n h c)))

module _ (p : Member → Bool) (m : Member) (set : List Member) (first : All (λ n. comes_before m n ≡ true) set) where
  abbrev kept : List Member
  kept = filter p set

  gone : (z : ℕ → ℚ) → filter (uses (support kept z)) set ≡ members_of (support kept z) → filter (uses (support kept z)) (m ∷ set) ≡ members_of (support kept z)
  gone z rest =
      ap (λ b. cond b (m ∷ filter (uses (support kept z)) set) (filter (uses (support kept z)) set)) (none_uses m kept z (All-filter p (λ n. comes_before m n ≡ true) set first))
      ∙ rest

  by_value : (q : ℚ) (z : ℕ → ℚ) → filter (uses (support kept z)) set ≡ members_of (support kept z) → (b : Bool)
      → filter (uses (cond b (share m q ∷ support kept z) (support kept z))) (m ∷ set) ≡ members_of (cond b (share m q ∷ support kept z) (support kept z))
  by_value q z rest true =
      let shares : List Share = support kept z in
      let all : List Member = filter (uses (share m q ∷ shares)) set in
      ap (λ b. cond (b || uses shares m) (m ∷ all) all) (same_self m)
      ∙ ap (λ l. m ∷ l)
      (agree_on (uses (share m q ∷ shares)) (uses shares) set (λ n c. ap (λ b. b || uses shares n) (after_differs m n (All-contains (λ n. comes_before m n ≡ true) set n first c)))
      ∙ rest)
  by_value q z rest false = gone z rest

  by_test : (b : Bool) → p m ≡ b → (z : ℕ → ℚ) → ((z : ℕ → ℚ) → filter (uses (support kept z)) set ≡ members_of (support kept z))
      → filter (uses (support (filter p (m ∷ set)) z)) (m ∷ set) ≡ members_of (support (filter p (m ∷ set)) z)
  by_test true e z rest =
      subst (λ b. filter (uses (support (cond b (m ∷ kept) kept) z)) (m ∷ set) ≡ members_of (support (cond b (m ∷ kept) kept) z)) (sym e)
      (by_value (z 0) (later z) (rest (later z)) (lt_q zero_ℚ (z 0)))
  by_test false e z rest =
      subst (λ b. filter (uses (support (cond b (m ∷ kept) kept) z)) (m ∷ set) ≡ members_of (support (cond b (m ∷ kept) kept) z)) (sym e)
      (gone z (rest z))

used_are : (p : Member → Bool) (set : List Member) (y : ℕ → ℚ) → IsInOrder set → filter (uses (support (filter p set) y)) set ≡ members_of (support (filter p set) y)
used_are p [] y h = refl
used_are p (m ∷ set) y h = by_test p m set (order_head m set h) (p m) refl y (λ z. used_are p set z (order_tail m set h))

-- as those that a leaf with these shares uses
pub leaf_uses : (p : Member → Bool) (set : List Member) (y : ℕ → ℚ) (combo : Combo) → IsInOrder set → combo.shares ≡ support (filter p set) y → used_members set (Leaf combo ∷ []) ≡ members_of combo.shares
leaf_uses p set y combo h e =
    agree_on (λ m. list_any (node_uses m) (Leaf combo ∷ [])) (uses combo.shares) set (λ m c. or-false (uses combo.shares m))
    ∙ ap (λ l. filter (uses l) set) e
    ∙ used_are p set y h
    ∙ ap members_of (sym e)
