-- The shares of weights stand in order.
use Rattle.std.proofs.Common.{◌≡◌, ◌+◌, ◌-◌, ◌*◌, ◌<◌, refl, sym, ◌∙◌, ap, subst, ℕ, zero, suc, Bool, true, false, cond, ltb, List, [], ◌∷◌, ◌++◌, map, arith, lt-ltb}
use Rattle.std.specs.Prelude.{All, AllPairs, IsTrue, flat_map}
use Rattle.std.proofs.lemmas.Bool.{cond-true, cond-false, le-ltb}
use Rattle.std.proofs.lemmas.List.Elements.{All-head, All-tail, All-nil, All-append, All-map, All-weaker}
use Rattle.std.proofs.lemmas.List.Kept.{AllPairs-cons}
use Rattle.rational.specs.Rational.{zero_ℚ, eq_ℚ}
use Rattle.lp_model.specs.declared.members.Member.{Member}
use Rattle.lp_model.specs.declared.members.Member.TheVariants.{RowLo, RowUp, Lower, Upper}
use Rattle.lp_model.specs.declared.members.Side.{Side}
use Rattle.lp_model.specs.declared.members.Side.TheVariants.{Lo, Up}
use Rattle.lp_model.specs.Members.{comes_before}
use Rattle.lp_model.proofs.Sets.{pairs_head, pairs_tail}
use Rattle.certs.specs.Ended.{numbers_from}
use Rattle.certs.specs.Named.{bound_of, row_side_of, member_of, named}
use Rattle.certs.specs.Order.{AreSharesInOrder, source_before}
use Rattle.certs.specs.System.{VariableShare}
use Rattle.reductions.specs.Rules.{share_on}
use Rattle.reductions.specs.Back.{Weights, share_of, shares_of}
use Rattle.reductions.proofs.WeightShares.{flat_more, flat_all, IsShareOf, share_known}

-- ---- lists whose elements stand in pairs
module _ {X : Type 0} (R : X → X → Type 0) where
  no_pairs : AllPairs R []
  no_pairs i j d lt l = absurd (omega arith)

  -- each of the first list with each of the second
  pairs_append : (xs ys : List X) → AllPairs R xs → AllPairs R ys → All (λ x. All (R x) ys) xs → AllPairs R (xs ++ ys)
  pairs_append [] ys h k across = k
  pairs_append (x ∷ xs) ys h k across =
      AllPairs-cons R x (xs ++ ys) (All-append (R x) xs ys (pairs_head R x xs h) (All-head (λ y. All (R y) ys) x xs across))
      (pairs_append xs ys (pairs_tail R x xs h) k (All-tail (λ y. All (R y) ys) x xs across))

  -- lists made number by number
  flat_pairs : (h : ℕ → List X) (a k : ℕ) → ((r : ℕ) → AllPairs R (h (a + r))) → ((r q : ℕ) → r < q → All (λ x. All (R x) (h (a + q))) (h (a + r))) → AllPairs R (flat_map h (numbers_from a k))
  flat_pairs h a zero own across = no_pairs
  flat_pairs h a (suc k) own across =
      subst (AllPairs R) (sym (flat_more h a k))
      (pairs_append (flat_map h (numbers_from a k)) (h (a + k)) (flat_pairs h a k own across) (own k) (flat_all (λ x. All (R x) (h (a + k))) h a k (λ r l. across r k l)))

-- each of two lists by what holds of each
across_by : {X : Type 0} (R : X → X → Type 0) (P Q : X → Type 0) → ((x y : X) → P x → Q y → R x y) → (xs ys : List X) → All P xs → All Q ys → All (λ x. All (R x) ys) xs
across_by R P Q f xs ys p q = All-weaker P (λ x. All (R x) ys) (λ x h. All-weaker Q (R x) (λ y k. f x y h k) ys q) xs p

pairs_mapped : {X Y : Type 0} (f : X → Y) (R : Y → Y → Type 0) (xs : List X) → AllPairs (λ a b. R (f a) (f b)) xs → AllPairs R (map f xs)
pairs_mapped f R [] h = no_pairs R
pairs_mapped f R (x ∷ xs) h =
    AllPairs-cons R (f x) (map f xs) (All-map (R (f x)) f xs (pairs_head (λ a b. R (f a) (f b)) x xs h)) (pairs_mapped f R xs (pairs_tail (λ a b. R (f a) (f b)) x xs h))

-- ---- members
row_earlier : (i j : ℕ) (a b : Side) → i < j → comes_before (row_side_of i a) (row_side_of j b) ≡ true
row_earlier i j Lo Lo l = lt-ltb (2 * i) (2 * j) (omega arith)
row_earlier i j Lo Up l = lt-ltb (2 * i) (2 * j + 1) (omega arith)
row_earlier i j Up Lo l = lt-ltb (2 * i + 1) (2 * j) (omega arith)
row_earlier i j Up Up l = lt-ltb (2 * i + 1) (2 * j + 1) (omega arith)

row_then_bound : (i j : ℕ) (a b : Side) → comes_before (row_side_of i a) (bound_of j b) ≡ true
row_then_bound i j Lo Lo = refl
row_then_bound i j Lo Up = refl
row_then_bound i j Up Lo = refl
row_then_bound i j Up Up = refl

module _ (n m : ℕ) (w : Weights) where
  abbrev member : VariableShare → Member
  member s = member_of n s.variable s.side

  abbrev Before : VariableShare → VariableShare → Type 0
  Before s t = IsTrue (comes_before (member s) (member t))

  -- the share is of a side of this row, or of a limit of this column
  IsOfRow : ℕ → Side → VariableShare → Type 0
  IsOfRow r side s = member s ≡ row_side_of r side

  IsOfColumn : ℕ → Side → VariableShare → Type 0
  IsOfColumn j side s = member s ≡ bound_of j side

  before : (s t : VariableShare) (a b : Member) → member s ≡ a → member t ≡ b → comes_before a b ≡ true → Before s t
  before s t a b e f h = subst (λ x. IsTrue (comes_before x (member t))) (sym e) (subst (λ y. IsTrue (comes_before a y)) (sym f) h)

  of_row : (r : ℕ) (side : Side) → All (IsOfRow r side) (share_of w side (n + r))
  unfolding IsOfRow
  of_row r side =
      All-weaker (IsShareOf w side (n + r)) (λ s. member s ≡ row_side_of r side)
      (λ s h. ap (λ v. member_of n v s.side) h.variable ∙ ap (member_of n (n + r)) h.side_is
      ∙ cond-false (ltb (n + r) n) (bound_of (n + r) side) _ (le-ltb (n + r) n (omega arith)) ∙ ap (λ i. row_side_of i side) (let e : (n + r) - n ≡ r = omega arith in e))
      (share_of w side (n + r)) (share_known w side (n + r))

  of_column : (j : ℕ) (side : Side) → j < n → All (IsOfColumn j side) (share_of w side j)
  unfolding IsOfColumn
  of_column j side l =
      All-weaker (IsShareOf w side j) (λ s. member s ≡ bound_of j side)
      (λ s h. ap (λ v. member_of n v s.side) h.variable ∙ ap (member_of n j) h.side_is ∙ cond-true (ltb j n) (bound_of j side) _ (lt-ltb j n l))
      (share_of w side j) (share_known w side j)

  single : (side : Side) (v : ℕ) → AllPairs Before (share_of w side v)
  single side v = by (eq_ℚ (w side v) zero_ℚ)
    where
      by : (b : Bool) → AllPairs Before (cond b [] (share_on side v (w side v) ∷ []))
      by true = no_pairs Before
      by false = AllPairs-cons Before (share_on side v (w side v)) [] (All-nil (Before (share_on side v (w side v)))) (no_pairs Before)

  abbrev of_variable : ℕ → List VariableShare
  of_variable v = share_of w Lo v ++ share_of w Up v

  -- the sides of one row, and of an earlier and a later one
  row_pairs : (r : ℕ) → AllPairs Before (of_variable (n + r))
  unfolding IsOfRow
  row_pairs r =
      pairs_append Before (share_of w Lo (n + r)) (share_of w Up (n + r)) (single Lo (n + r)) (single Up (n + r))
      (across_by Before (λ s. member s ≡ RowLo r) (λ s. member s ≡ RowUp r) (λ s t e f. before s t (RowLo r) (RowUp r) e f (lt-ltb (2 * r) (2 * r + 1) (omega arith)))
      (share_of w Lo (n + r)) (share_of w Up (n + r)) (of_row r Lo) (of_row r Up))

  -- what is known of a row's shares
  record OfSomeRow (r : ℕ) (s : VariableShare) : Type 0 where
    side : Side
    is : member s ≡ row_side_of r side

  of_rows : (r : ℕ) → All (OfSomeRow r) (of_variable (n + r))
  unfolding IsOfRow
  of_rows r =
      All-append (OfSomeRow r) (share_of w Lo (n + r)) (share_of w Up (n + r))
      (All-weaker (λ s. member s ≡ row_side_of r Lo) (OfSomeRow r) (λ s e. record { side = Lo; is = e }) (share_of w Lo (n + r)) (of_row r Lo))
      (All-weaker (λ s. member s ≡ row_side_of r Up) (OfSomeRow r) (λ s e. record { side = Up; is = e }) (share_of w Up (n + r)) (of_row r Up))

  rows_across : (r q : ℕ) → r < q → All (λ s. All (Before s) (of_variable (n + q))) (of_variable (n + r))
  rows_across r q l =
      across_by Before (OfSomeRow r) (OfSomeRow q) (λ s t e f. before s t (row_side_of r e.side) (row_side_of q f.side) e.is f.is (row_earlier r q e.side f.side l))
      (of_variable (n + r)) (of_variable (n + q)) (of_rows r) (of_rows q)

  -- ---- the three parts
  record OfARow (s : VariableShare) : Type 0 where
    row : ℕ
    side : Side
    is : member s ≡ row_side_of row side

  record OfAColumn (side : Side) (s : VariableShare) : Type 0 where
    column : ℕ
    is : member s ≡ bound_of column side

  abbrev in_rows : List VariableShare
  in_rows = flat_map of_variable (numbers_from n m)

  abbrev limits : Side → List VariableShare
  limits side = flat_map (share_of w side) (numbers_from 0 n)

  all_rows : All OfARow in_rows
  all_rows = flat_all OfARow of_variable n m (λ r l. All-weaker (OfSomeRow r) OfARow (λ s h. record { row = r; side = h.side; is = h.is }) (of_variable (n + r)) (of_rows r))

  column_shares : (side : Side) (j : ℕ) → j < n → All (IsOfColumn j side) (share_of w side (0 + j))
  column_shares side j l = subst (λ z. All (IsOfColumn j side) (share_of w side z)) (let e : j ≡ 0 + j = omega arith in e) (of_column j side l)

  all_columns : (side : Side) → All (OfAColumn side) (limits side)
  unfolding IsOfColumn
  all_columns side =
      flat_all (OfAColumn side) (share_of w side) 0 n
      (λ j l. All-weaker (λ s. member s ≡ bound_of j side) (OfAColumn side) (λ s e. record { column = j; is = e }) (share_of w side (0 + j)) (column_shares side j l))

  bound_earlier : (i j : ℕ) (side : Side) → i < j → comes_before (bound_of i side) (bound_of j side) ≡ true
  bound_earlier i j Lo l = lt-ltb i j l
  bound_earlier i j Up l = lt-ltb i j l

  -- the limits of the columns on one side, of so many columns
  limit_pairs : (side : Side) (k : ℕ) → k < suc n → AllPairs Before (flat_map (share_of w side) (numbers_from 0 k))
  unfolding IsOfColumn
  limit_pairs side zero l = no_pairs Before
  limit_pairs side (suc k) l =
      subst (AllPairs Before) (sym (flat_more (share_of w side) 0 k))
      (pairs_append Before (flat_map (share_of w side) (numbers_from 0 k)) (share_of w side (0 + k)) (limit_pairs side k (omega arith)) (single side (0 + k))
      (flat_all (λ s. All (Before s) (share_of w side (0 + k))) (share_of w side) 0 k
      (λ r h. across_by Before (λ s. member s ≡ bound_of r side) (λ s. member s ≡ bound_of k side) (λ s t e f. before s t (bound_of r side) (bound_of k side) e f (bound_earlier r k side h))
      (share_of w side (0 + r)) (share_of w side (0 + k)) (column_shares side r (omega arith)) (column_shares side k (omega arith)))))

  pairs : AllPairs Before (shares_of n m w)
  pairs =
      pairs_append Before in_rows (limits Lo ++ limits Up) (flat_pairs Before of_variable n m row_pairs rows_across)
      (pairs_append Before (limits Lo) (limits Up) (limit_pairs Lo n (omega arith)) (limit_pairs Up n (omega arith))
      (across_by Before (OfAColumn Lo) (OfAColumn Up) (λ s t e f. before s t (Lower e.column) (Upper f.column) e.is f.is refl) (limits Lo) (limits Up) (all_columns Lo) (all_columns Up)))
      (across_by Before OfARow (λ t. (side : Side) × OfAColumn side t) (λ s t e f. before s t (row_side_of e.row e.side) (bound_of f.1.column f.0) e.is f.1.is (row_then_bound e.row f.1.column e.side f.0))
      in_rows (limits Lo ++ limits Up) all_rows
      (All-append (λ t. (side : Side) × OfAColumn side t) (limits Lo) (limits Up)
      (All-weaker (OfAColumn Lo) (λ t. (side : Side) × OfAColumn side t) (λ t h. (Lo, h)) (limits Lo) (all_columns Lo))
      (All-weaker (OfAColumn Up) (λ t. (side : Side) × OfAColumn side t) (λ t h. (Up, h)) (limits Up) (all_columns Up))))

  pub shares_in_order : AreSharesInOrder (map (named n) (shares_of n m w))
  shares_in_order = pairs_mapped (named n) (λ s t. IsTrue (source_before s.source t.source)) (shares_of n m w) pairs
