-- The first of what a variable meets: it is one of them, and none of them comes before it.
use Rattle.std.proofs.Common.{◌≡◌, ◌⊎◌, ◌<◌, ◌≤◌, refl, sym, ◌∙◌, ap, subst, ℕ, Bool, true, false, true≢false, cond, ◌||◌, ◌&&◌, nat_lt, ltb-true, ltb-false, List, [], ◌∷◌, Option, None, Some, arith, inl, inr}
use Rattle.std.specs.Prelude.{All, flat_map}
use Rattle.std.proofs.lemmas.List.Elements.{All-nil, All-cons, All-head, All-tail, All-append, All-weaker, All-contains}
use Rattle.rational.specs.Rational.{ℚ, ◌≤ℚ◌, ◌-ℚ◌, lt_q, eq_ℚ}
use Rattle.rational.proofs.Compare.{eq-Decides}
use Rattle.rational.proofs.Order.{le_refl_ℚ, le_trans_ℚ, le_antisymm_ℚ, le_of_lt_ℚ, lt-le_clash_ℚ, lt_q-true, lt_q-false}
use Rattle.lp_model.specs.declared.members.Side.{Side}
use Rattle.lp_model.specs.declared.members.Side.TheVariants.{Lo, Up}
use Rattle.certs.specs.System.{limit_on, is_basic}
use Rattle.certs.specs.Tableau.{Tableau, below, limits_at}
use Rattle.certs.specs.Turns.{limited, limited_basics}
use Rattle.certs.specs.Improves.{Block, comes_first, first_block, nearest, blocks, block_at, block_on, own_block, does_rise, rate, towards, distance_to}
use Rattle.certs.proofs.Choices.{below_all}
use Rattle.certs.proofs.Lists.{all_front, all_back}
use Rattle.certs.proofs.Feasible.{listed}

-- ---- the first
-- one block is no farther than the other, and no greater where they are as far
pub record IsUpTo (b c : Block) : Type 0 where
  pub near : b.distance ≤ℚ c.distance
  pub least : c.distance ≡ b.distance → b.variable ≤ c.variable

up_to_itself : (b : Block) → IsUpTo b b
up_to_itself b = record { near = le_refl_ℚ b.distance; least = λ e. omega arith }

pub up_to_both : (b c d : Block) → IsUpTo b c → IsUpTo c d → IsUpTo b d
up_to_both b c d h k = record {
  near = le_trans_ℚ h.near k.near;
  least = λ e.
      let middle : c.distance ≡ b.distance = le_antisymm_ℚ (subst (λ z. c.distance ≤ℚ z) e k.near) h.near in
      let x = h.least middle in
      let y = k.least (e ∙ sym middle) in
      omega arith;
}

-- by the test
pub first_is : (b c : Block) → comes_first b c ≡ true → IsUpTo b c
first_is b c e = by (lt_q b.distance c.distance) (eq_ℚ b.distance c.distance) (nat_lt b.variable c.variable) refl refl refl e
  where
    by : (x y z : Bool) → lt_q b.distance c.distance ≡ x → eq_ℚ b.distance c.distance ≡ y → nat_lt b.variable c.variable ≡ z → (x || (y && z)) ≡ true → IsUpTo b c
    by true y z less same below h = record {
      near = le_of_lt_ℚ (lt_q-true b.distance c.distance less);
      least = λ q. lt-le_clash_ℚ (lt_q-true b.distance c.distance less) (subst (λ v. v ≤ℚ b.distance) (sym q) (le_refl_ℚ b.distance));
    }
    by false true true less same below h = record {
      near = subst (λ v. b.distance ≤ℚ v) ((eq-Decides b.distance c.distance).0 same) (le_refl_ℚ b.distance);
      least = λ q. let l : b.variable < c.variable = ltb-true b.variable c.variable below in omega arith;
    }
    by false true false less same below h = absurd (true≢false (sym h))
    by false false z less same below h = absurd (true≢false (sym h))

pub not_first : (b c : Block) → comes_first b c ≡ false → IsUpTo c b
not_first b c e = by (lt_q b.distance c.distance) (eq_ℚ b.distance c.distance) (nat_lt b.variable c.variable) refl refl refl e
  where
    by : (x y z : Bool) → lt_q b.distance c.distance ≡ x → eq_ℚ b.distance c.distance ≡ y → nat_lt b.variable c.variable ≡ z → (x || (y && z)) ≡ false → IsUpTo c b
    by true y z less same below h = absurd (true≢false h)
    by false true true less same below h = absurd (true≢false h)
    by false true false less same below h = record {
      near = lt_q-false b.distance c.distance less;
      least = λ q. ltb-false b.variable c.variable below;
    }
    by false false z less same below h = record {
      near = lt_q-false b.distance c.distance less;
      least = λ q. absurd (true≢false (sym ((eq-Decides b.distance c.distance).1 q) ∙ same));
    }

pub some_same : {X : Type 0} (a b : X) → ◌≡◌ {A = Option X} (Some a) (Some b) → a ≡ b
some_same {X} a b q = ap (of a) q
  where
    of : X → Option X → X
    of d None = d
    of d (Some s) = s

pub none_some : {X : Type 0} (b : X) → ◌≡◌ {A = Option X} None (Some b) → ⊥
none_some {X} b q = true≢false (ap is_none q)
  where
    is_none : Option X → Bool
    is_none None = true
    is_none (Some s) = false

-- the first is one of the list, and up to each
pub nearest_of : (P : Block → Type 0) (list : List Block) (b : Block) → All P list → nearest list ≡ Some b → P b × All (IsUpTo b) list
nearest_of P [] b all e = absurd (none_some b e)
nearest_of P (x ∷ list) b all e = by (λ c f. nearest_of P list c (All-tail P x list all) f) (nearest list) refl e
  where
    empty : (list : List Block) → nearest list ≡ None → list ≡ []
    empty [] q = refl
    empty (y ∷ rest) q = absurd (none_some (first_block y (nearest rest)) (sym q))

    by_test : (c : Block) → P c × All (IsUpTo c) list → (t : Bool) → comes_first x c ≡ t → cond t x c ≡ b → P b × All (IsUpTo b) (x ∷ list)
    by_test c rest true t q =
        subst (λ z. P z × All (IsUpTo z) (x ∷ list)) q
        (All-head P x list all, All-cons (IsUpTo x) x list (up_to_itself x) (All-weaker (IsUpTo c) (IsUpTo x) (λ d h. up_to_both x c d (first_is x c t) h) list rest.1))
    by_test c rest false t q =
        subst (λ z. P z × All (IsUpTo z) (x ∷ list)) q (rest.0, All-cons (IsUpTo c) x list (not_first x c t) rest.1)

    by : ((c : Block) → nearest list ≡ Some c → P c × All (IsUpTo c) list) → (o : Option Block) → nearest list ≡ o → ◌≡◌ {A = Option Block} (Some (first_block x o)) (Some b) → P b × All (IsUpTo b) (x ∷ list)
    by of None f q =
        let none = empty list f in
        subst (λ z. P z × All (IsUpTo z) (x ∷ list)) (some_same x b q)
        (All-head P x list all, All-cons (IsUpTo x) x list (up_to_itself x) (subst (All (IsUpTo x)) (sym none) (All-nil (IsUpTo x))))
    by of (Some c) f q = by_test c (of c f) (comes_first x c) refl (some_same (cond (comes_first x c) x c) b q)

-- ---- what they are
-- a basic variable that moves to its limit on a side
pub record Meets (t : Tableau) (j : ℕ) (b : Block) : Type 0 where
  pub basic : is_basic t.basis b.variable ≡ true
  pub small : b.variable < limited t
  pub way : towards (rate t j b.variable) ≡ Some b.side
  pub limit : ℚ
  pub there : limit_on (limits_at t b.variable) b.side ≡ Some limit
  pub far : b.distance ≡ distance_to t j b.variable b.side limit

-- or j, which has both its limits
pub record IsOwn (t : Tableau) (j : ℕ) (b : Block) : Type 0 where
  pub is : b.variable ≡ j
  pub lower : ℚ
  pub upper : ℚ
  pub has_lower : (limits_at t j).lower ≡ Some lower
  pub has_upper : (limits_at t j).upper ≡ Some upper
  pub far : b.distance ≡ upper -ℚ lower

module _ (t : Tableau) (j : ℕ) where
  abbrev Either : Block → Type 0
  Either b = Meets t j b ⊎ IsOwn t j b

  abbrev met : ℕ → List Block
  met i = block_on t j i (towards (rate t j i))

  abbrev own_side : Side
  own_side = cond (does_rise t j) Up Lo

  met_all : (i : ℕ) → i < limited t → is_basic t.basis i ≡ true → All Either (met i)
  met_all i small basic = by (towards (rate t j i)) refl
    where
      at : (side : Side) → towards (rate t j i) ≡ Some side → (o : Option ℚ) → limit_on (limits_at t i) side ≡ o → All Either (block_at t j i side o)
      at side way None there = All-nil Either
      at side way (Some limit) there =
          All-cons Either (record { variable = i; side = side; distance = distance_to t j i side limit }) []
          (inl (record { basic = basic; small = small; way = way; limit = limit; there = there; far = refl })) (All-nil Either)

      by : (o : Option Side) → towards (rate t j i) ≡ o → All Either (block_on t j i o)
      by None way = All-nil Either
      by (Some side) way = at side way (limit_on (limits_at t i) side) refl

  own_all : (l u : Option ℚ) → (limits_at t j).lower ≡ l → (limits_at t j).upper ≡ u → All Either (own_block j own_side l u)
  own_all None u is_l is_u = All-nil Either
  own_all (Some l) None is_l is_u = All-nil Either
  own_all (Some l) (Some u) is_l is_u =
      All-cons Either (record { variable = j; side = own_side; distance = u -ℚ l }) []
      (inr (record { is = refl; lower = l; upper = u; has_lower = is_l; has_upper = is_u; far = refl })) (All-nil Either)

  flat_all : (xs : List ℕ) → All (λ i. (i < limited t) × (is_basic t.basis i ≡ true)) xs → All Either (flat_map met xs)
  flat_all [] h = All-nil Either
  flat_all (x ∷ xs) h =
      let first = All-head (λ i. (i < limited t) × (is_basic t.basis i ≡ true)) x xs h in
      All-append Either (met x) (flat_map met xs) (met_all x first.0 first.1) (flat_all xs (All-tail (λ i. (i < limited t) × (is_basic t.basis i ≡ true)) x xs h))

  pub blocks_all : All Either (blocks t j)
  blocks_all =
      All-append Either (flat_map met (limited_basics t)) (own_block j own_side (limits_at t j).lower (limits_at t j).upper)
      (flat_all (limited_basics t) (below_all (is_basic t.basis) (limited t))) (own_all (limits_at t j).lower (limits_at t j).upper refl refl)

  -- ---- and each of them is there
  module _ (Q : Block → Type 0) (all : All Q (blocks t j)) where
    spread : (xs : List ℕ) → All Q (flat_map met xs) → All (λ i. All Q (met i)) xs
    spread [] h = All-nil (λ i. All Q (met i))
    spread (x ∷ xs) h = All-cons (λ i. All Q (met i)) x xs (all_front Q (met x) (flat_map met xs) h) (spread xs (all_back Q (met x) (flat_map met xs) h))

    -- a basic variable that moves to a limit that it has
    pub at_met : (i : ℕ) (side : Side) (limit : ℚ) → i < limited t → is_basic t.basis i ≡ true → towards (rate t j i) ≡ Some side → limit_on (limits_at t i) side ≡ Some limit
        → Q (record { variable = i; side = side; distance = distance_to t j i side limit })
    at_met i side limit small basic way there =
        let first = all_front Q (flat_map met (limited_basics t)) (own_block j own_side (limits_at t j).lower (limits_at t j).upper) all in
        let here : All Q (met i) = All-contains (λ i. All Q (met i)) (limited_basics t) i (spread (limited_basics t) first) (listed (is_basic t.basis) (limited t) i small basic) in
        let at : All Q (block_on t j i (Some side)) = subst (λ o. All Q (block_on t j i o)) way here in
        All-head Q (record { variable = i; side = side; distance = distance_to t j i side limit }) [] (subst (λ o. All Q (block_at t j i side o)) there at)

    -- and j with both its limits
    pub at_own : (l u : ℚ) → (limits_at t j).lower ≡ Some l → (limits_at t j).upper ≡ Some u → Q (record { variable = j; side = own_side; distance = u -ℚ l })
    at_own l u is_l is_u =
        let last = all_back Q (flat_map met (limited_basics t)) (own_block j own_side (limits_at t j).lower (limits_at t j).upper) all in
        All-head Q (record { variable = j; side = own_side; distance = u -ℚ l }) [] (subst (λ (p : Option ℚ × Option ℚ). All Q (own_block j own_side p.0 p.1)) (λ k. (is_l k, is_u k)) last)
