-- Shares that are put together in order: those of members, and then those of branches by column.
use Rattle.std.proofs.Common.{◌≡◌, ℕ, ◌+◌, ◌<◌, refl, sym, subst, suc, List, [], ◌∷◌, ◌++◌, arith}
use Rattle.std.specs.Prelude.{All, AllPairs, Contains, IsTrue}
use Rattle.std.proofs.lemmas.Bool.{le-leb, lt-ltb, ltb-true}
use Rattle.std.proofs.lemmas.List.Elements.{All-nil, All-cons, All-head, All-tail, All-append, All-contains_itself, All-weaker}
use Rattle.std.proofs.lemmas.List.Kept.{AllPairs-cons}
use Rattle.rational.specs.Rational.{zero_ℚ, ◌<ℚ◌}
use Rattle.lp_model.specs.declared.members.Member.{Member}
use Rattle.lp_model.specs.Members.{IsInOrder}
use Rattle.lp_model.proofs.Walk.{order_head, order_tail}
use Rattle.certs.specs.declared.evidence.Branch.{Branch}
use Rattle.certs.specs.declared.evidence.Source.{Source}
use Rattle.certs.specs.declared.evidence.Source.TheVariants.{Member as Of, Below, Above}
use Rattle.certs.specs.declared.evidence.Share.{Share}
use Rattle.certs.specs.Order.{AreSharesInOrder, source_before}
use Rattle.quick_run.specs.Shape.{IsLimitOf, IsShareOf, IsSourceOf, has_least, has_most}

abbrev Before : Share → Share → Type 0
Before s t = IsTrue (source_before s.source t.source)

-- a list with one element more, which all others stand before
pairs_more : (shares : List Share) (t : Share) → AllPairs Before shares → All (λ s. Before s t) shares → AllPairs Before (shares ++ t ∷ [])
pairs_more [] t h all = AllPairs-cons Before t [] (All-nil (Before t)) h
pairs_more (s ∷ shares) t h all =
    AllPairs-cons Before s (shares ++ t ∷ [])
    (All-append (Before s) shares (t ∷ []) (λ k d l. h 0 (suc k) d (omega arith) (omega arith)) (All-cons (Before s) t [] (All-head (λ a. Before a t) s shares all) (All-nil (Before s))))
    (pairs_more shares t (λ i j d lt l. h (suc i) (suc j) d (omega arith) (omega arith)) (All-tail (λ a. Before a t) s shares all))

-- ---- members
-- a share of a member of the set, with a weight above 0
pub record IsMemberShare (set : List Member) (share : Share) : Type 0 where
  pub member : Member
  pub source : share.source ≡ Of member
  pub of_set : Contains set member
  pub positive : zero_ℚ <ℚ share.weight

-- the shares so far are of members of the set and in order, and stand before all members that are left
pub record IsBuilding (set : List Member) (shares : List Share) (rest : List Member) : Type 0 where
  pub order : AreSharesInOrder shares
  pub members : All (IsMemberShare set) shares
  pub before : All (λ (s : Share). All (λ m. IsTrue (source_before s.source (Of m))) rest) shares
  pub in_order : IsInOrder rest
  pub of_set : All (Contains set) rest

-- nothing is taken yet
pub begins : (set : List Member) → IsInOrder set → IsBuilding set [] set
begins set h = record {
  order = λ i j d lt l. absurd (omega arith);
  members = All-nil (IsMemberShare set);
  before = All-nil (λ (s : Share). All (λ m. IsTrue (source_before s.source (Of m))) set);
  in_order = h;
  of_set = All-contains_itself set;
}

-- a member is passed over
pub skips : (set : List Member) (shares : List Share) (m : Member) (rest : List Member) → IsBuilding set shares (m ∷ rest) → IsBuilding set shares rest
skips set shares m rest h = record {
  order = h.order;
  members = h.members;
  before = All-weaker (λ (s : Share). All (λ n. IsTrue (source_before s.source (Of n))) (m ∷ rest)) (λ (s : Share). All (λ n. IsTrue (source_before s.source (Of n))) rest)
      (λ s k. All-tail (λ n. IsTrue (source_before s.source (Of n))) m rest k) shares h.before;
  in_order = order_tail m rest h.in_order;
  of_set = All-tail (Contains set) m rest h.of_set;
}

-- a member is taken
pub takes : (set : List Member) (shares : List Share) (m : Member) (rest : List Member) (share : Share) → share.source ≡ Of m → zero_ℚ <ℚ share.weight
    → IsBuilding set shares (m ∷ rest) → IsBuilding set (shares ++ share ∷ []) rest
takes set shares m rest share of positive h = record {
  order = pairs_more shares share h.order
      (All-weaker (λ (s : Share). All (λ n. IsTrue (source_before s.source (Of n))) (m ∷ rest)) (λ s. Before s share)
      (λ s k. subst (λ source. IsTrue (source_before s.source source)) (sym of) (All-head (λ n. IsTrue (source_before s.source (Of n))) m rest k)) shares h.before);
  members = All-append (IsMemberShare set) shares (share ∷ []) h.members
      (All-cons (IsMemberShare set) share [] (record { member = m; source = of; of_set = All-head (Contains set) m rest h.of_set; positive = positive }) (All-nil (IsMemberShare set)));
  before = All-append (λ (s : Share). All (λ n. IsTrue (source_before s.source (Of n))) rest) shares (share ∷ []) (skips set shares m rest h).before
      (All-cons (λ (s : Share). All (λ n. IsTrue (source_before s.source (Of n))) rest) share []
      (subst (λ source. All (λ n. IsTrue (source_before source (Of n))) rest) (sym of) (order_head m rest h.in_order)) (All-nil (λ (s : Share). All (λ n. IsTrue (source_before s.source (Of n))) rest)));
  in_order = order_tail m rest h.in_order;
  of_set = All-tail (Contains set) m rest h.of_set;
}

-- they are of members on every path
pub of_members : (set : List Member) (path : List Branch) (shares : List Share) → All (IsMemberShare set) shares → All (IsShareOf set path) shares
of_members set path shares h =
    All-weaker (IsMemberShare set) (IsShareOf set path) (λ s m. record { source = subst (IsSourceOf set path) (sym m.source) m.of_set; positive = m.positive }) shares h

-- and stand before all branches
pub before_branches : (set : List Member) (shares : List Share) → All (IsMemberShare set) shares → All (λ s. IsTrue (source_before s.source (Below 0))) shares
before_branches set shares h =
    All-weaker (IsMemberShare set) (λ s. IsTrue (source_before s.source (Below 0))) (λ s m. subst (λ (source : Source). IsTrue (source_before source (Below 0))) (sym m.source) refl) shares h

-- ---- branches
-- what stands before a column's branches stands before each of them, and before those of the next one
before_above : (source : Source) (j : ℕ) → IsTrue (source_before source (Below j)) → IsTrue (source_before source (Above j))
before_above (Of m) j h = refl
before_above (Below k) j h = let l : k < j = ltb-true k j h in le-leb k j (omega arith)
before_above (Above k) j h = h

before_next : (source : Source) (j : ℕ) → IsTrue (source_before source (Below j)) → IsTrue (source_before source (Below (j + 1)))
before_next (Of m) j h = refl
before_next (Below k) j h = let l : k < j = ltb-true k j h in lt-ltb k (j + 1) (omega arith)
before_next (Above k) j h = let l : k < j = ltb-true k j h in lt-ltb k (j + 1) (omega arith)

limit_before : (path : List Branch) (source other : Source) (j : ℕ) → IsLimitOf path j other → IsTrue (source_before source (Below j)) → IsTrue (source_before source other)
limit_before path source (Of m) j limit h = absurd limit
limit_before path source (Below k) j limit h = subst (λ (n : ℕ). IsTrue (source_before source (Below n))) (sym limit.0) h
limit_before path source (Above k) j limit h = subst (λ (n : ℕ). IsTrue (source_before source (Above n))) (sym limit.0) (before_above source j h)

-- a branch's limit of the column stands before those of the next one
limit_passed : (path : List Branch) (source : Source) (j : ℕ) → IsLimitOf path j source → IsTrue (source_before source (Below (j + 1)))
limit_passed path (Of m) j limit = absurd limit
limit_passed path (Below k) j limit = let e = limit.0 in lt-ltb k (j + 1) (omega (arith, e))
limit_passed path (Above k) j limit = let e = limit.0 in lt-ltb k (j + 1) (omega (arith, e))

-- it is of the path
limit_source : (set : List Member) (path : List Branch) (source : Source) (j : ℕ) → IsLimitOf path j source → IsSourceOf set path source
limit_source set path (Of m) j limit = absurd limit
limit_source set path (Below k) j limit = subst (λ (n : ℕ). IsTrue (has_most path n)) (sym limit.0) limit.1
limit_source set path (Above k) j limit = subst (λ (n : ℕ). IsTrue (has_least path n)) (sym limit.0) limit.1

-- the shares so far are in order and stand before the branches of a column, and whatever set the first ones are of, all of them are of it or of the path
pub record IsBranching (path : List Branch) (first shares : List Share) (j : ℕ) : Type 0 where
  pub order : AreSharesInOrder shares
  pub before : All (λ s. IsTrue (source_before s.source (Below j))) shares
  pub sources : (set : List Member) → All (IsShareOf set path) first → All (IsShareOf set path) shares

-- the branches of a column are passed over
pub passes : (path : List Branch) (first shares : List Share) (j : ℕ) → IsBranching path first shares j → IsBranching path first shares (j + 1)
passes path first shares j h = record {
  order = h.order;
  before = All-weaker (λ (s : Share). IsTrue (source_before s.source (Below j))) (λ (s : Share). IsTrue (source_before s.source (Below (j + 1)))) (λ s k. before_next s.source j k) shares h.before;
  sources = h.sources;
}

-- or taken
pub branches : (path : List Branch) (first shares : List Share) (j : ℕ) (share : Share) → IsLimitOf path j share.source → zero_ℚ <ℚ share.weight → IsBranching path first shares j
    → IsBranching path first (shares ++ share ∷ []) (j + 1)
branches path first shares j share limit positive h = record {
  order = pairs_more shares share h.order
      (All-weaker (λ (s : Share). IsTrue (source_before s.source (Below j))) (λ s. Before s share) (λ s k. limit_before path s.source share.source j limit k) shares h.before);
  before = All-append (λ (s : Share). IsTrue (source_before s.source (Below (j + 1)))) shares (share ∷ []) (passes path first shares j h).before
      (All-cons (λ (s : Share). IsTrue (source_before s.source (Below (j + 1)))) share [] (limit_passed path share.source j limit) (All-nil (λ (s : Share). IsTrue (source_before s.source (Below (j + 1))))));
  sources = λ set f. All-append (IsShareOf set path) shares (share ∷ []) (h.sources set f)
      (All-cons (IsShareOf set path) share [] (record { source = limit_source set path share.source j limit; positive = positive }) (All-nil (IsShareOf set path)));
}

-- ---- two sources
pub pair_order : (s t : Share) → Before s t → AreSharesInOrder (s ∷ t ∷ [])
pair_order s t h = AllPairs-cons Before s (t ∷ []) (All-cons (Before s) t [] h (All-nil (Before s))) (AllPairs-cons Before t [] (All-nil (Before t)) (λ i j d lt l. absurd (omega arith)))
