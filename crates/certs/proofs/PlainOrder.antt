-- The shares of a plain cut stand in order, on any path.
use Rattle.std.proofs.Common.{◌≡◌, ◌+◌, ◌-◌, ◌*◌, ◌<◌, ◌≤◌, refl, sym, ◌∙◌, ap, subst, ℕ, zero, suc, Bool, true, false, cond, not, List, [], ◌∷◌, ◌++◌, map, length, get_or, filter, ltb, arith, inl, inr, lt-ltb}
use Rattle.std.specs.Prelude.{All, AllPairs, IsTrue, ◌⊎◌, flat_map, slice_index}
use Rattle.std.specs.List.{list_all}
use Rattle.std.proofs.lemmas.Bool.{and_parts, le-ltb, ltb-true, le-leb, eqb-true}
use Rattle.std.proofs.lemmas.List.{length-map}
use Rattle.std.proofs.lemmas.List.Elements.{All-nil, All-cons, All-head, All-tail, All-append, All-filter, All-get_or, All-map, All-weaker, filter_passes}
use Rattle.std.proofs.lemmas.List.Kept.{AllPairs-cons, AllPairs-filter}
use Rattle.rational.specs.Rational.{ℚ, neg_ℚ, zero_ℚ, one_ℚ, eq_ℚ, lt_q}
use Rattle.lp_model.specs.declared.members.Member.{Member}
use Rattle.lp_model.specs.declared.members.Member.TheVariants.{RowLo, RowUp, Lower, Upper, Whole}
use Rattle.lp_model.specs.declared.members.Side.{Side}
use Rattle.lp_model.specs.declared.members.Side.TheVariants.{Lo, Up}
use Rattle.lp_model.specs.Program.{Program}
use Rattle.lp_model.specs.Members.{comes_before}
use Rattle.certs.specs.declared.evidence.Branch.{Branch}
use Rattle.certs.specs.declared.evidence.Source.{Source}
use Rattle.certs.specs.declared.evidence.Source.TheVariants.{Member as Of, Below, Above}
use Rattle.certs.specs.declared.evidence.Share.{Share}
use Rattle.certs.specs.Combination.{source_number}
use Rattle.certs.specs.Ended.{blocked_multiple, is_upper, numbers_from, share_for, shares_for}
use Rattle.certs.specs.Named.{arranged, bound_of, row_side_of, is_above, is_below, is_member, member_of, named, on_column, program_shares, stands_for, translated}
use Rattle.certs.specs.Order.{AreSharesInOrder, are_in_order, source_before}
use Rattle.certs.specs.Plain.{column_limits, crossing_shares, has_row, is_lowered, is_raised, number_in, plain_row, plain_system, rows_in}
use Rattle.certs.specs.Solves.{BlocksWith, CrossesWith, IsPlainCut}
use Rattle.certs.specs.System.{LinearSystem, VariableShare}
use Rattle.certs.proofs.Translated.{length_mapped}

-- ---- lists whose elements stand in pairs
module _ {X : Type 0} (R : X → X → Type 0) where
  no_pairs : AllPairs R []
  no_pairs i j d lt l = absurd (omega arith)

  pairs_head : (x : X) (xs : List X) → AllPairs R (x ∷ xs) → All (R x) xs
  pairs_head x xs h k d l = h 0 (suc k) d (omega arith) (omega arith)

  pairs_tail : (x : X) (xs : List X) → AllPairs R (x ∷ xs) → AllPairs R xs
  pairs_tail x xs h i j d lt l = h (suc i) (suc j) d (omega arith) (omega arith)

  one_pair : (x : X) → AllPairs R (x ∷ [])
  one_pair x = AllPairs-cons R x [] (All-nil (R x)) no_pairs

  -- each of the first list with each of the second
  pairs_append : (xs ys : List X) → AllPairs R xs → AllPairs R ys → All (λ x. All (R x) ys) xs → AllPairs R (xs ++ ys)
  pairs_append [] ys h k across = k
  pairs_append (x ∷ xs) ys h k across =
      AllPairs-cons R x (xs ++ ys)
      (All-append (R x) xs ys (pairs_head x xs h) (All-head (λ y. All (R y) ys) x xs across))
      (pairs_append xs ys (pairs_tail x xs h) k (All-tail (λ y. All (R y) ys) x xs across))

  -- what holds of the elements makes another relation hold
  pairs_weaker : (S : X → X → Type 0) (P : X → Type 0) → ((x y : X) → P x → P y → R x y → S x y) → (xs : List X) → All P xs → AllPairs R xs → AllPairs S xs
  pairs_weaker S P f xs all h i j d lt l = f (get_or xs i d) (get_or xs j d) (All-get_or P xs i d (omega arith) all) (All-get_or P xs j d l all) (h i j d lt l)

-- each of two lists by what holds of each
across : {X : Type 0} (R : X → X → Type 0) (P Q : X → Type 0) → ((x y : X) → P x → Q y → R x y) → (xs ys : List X) → All P xs → All Q ys → All (λ x. All (R x) ys) xs
across R P Q f xs ys p q = All-weaker P (λ x. All (R x) ys) (λ x h. All-weaker Q (R x) (λ y k. f x y h k) ys q) xs p

pairs_map : {X Y : Type 0} (f : X → Y) (R : Y → Y → Type 0) (xs : List X) → AllPairs (λ a b. R (f a) (f b)) xs → AllPairs R (map f xs)
pairs_map f R [] h = no_pairs R
pairs_map f R (x ∷ xs) h =
    AllPairs-cons R (f x) (map f xs)
    (All-map (R (f x)) f xs (pairs_head (λ a b. R (f a) (f b)) x xs h))
    (pairs_map f R xs (pairs_tail (λ a b. R (f a) (f b)) x xs h))

-- ---- by the test
passes_all : {X : Type 0} (p : X → Bool) (xs : List X) → list_all p xs ≡ true → All (λ x. IsTrue (p x)) xs
passes_all p [] h = All-nil (λ x. IsTrue (p x))
passes_all p (x ∷ xs) h = let both = and_parts (p x) (list_all p xs) h in All-cons (λ y. IsTrue (p y)) x xs both.0 (passes_all p xs both.1)

pub in_order_by_test : (shares : List Share) → are_in_order shares ≡ true → AreSharesInOrder shares
in_order_by_test [] h = no_pairs (λ (s t : Share). IsTrue (source_before s.source t.source))
in_order_by_test (s ∷ shares) h =
    let both = and_parts (list_all (λ (t : Share). source_before s.source t.source) shares) (are_in_order shares) h in
    AllPairs-cons (λ (a b : Share). IsTrue (source_before a.source b.source)) s shares
    (passes_all (λ (t : Share). source_before s.source t.source) shares both.0) (in_order_by_test shares both.1)

-- ---- numbers in order
numbers_within : (a n : ℕ) → All (λ v. (a ≤ v) × (v < a + n)) (numbers_from a n)
numbers_within a zero = All-nil (λ v. (a ≤ v) × (v < a + 0))
numbers_within a (suc n) =
    All-append (λ v. (a ≤ v) × (v < a + suc n)) (numbers_from a n) ((a + n) ∷ [])
    (All-weaker (λ v. (a ≤ v) × (v < a + n)) (λ v. (a ≤ v) × (v < a + suc n)) (λ v h. (h.0, (let l = h.1 in omega arith))) (numbers_from a n) (numbers_within a n))
    (All-cons (λ v. (a ≤ v) × (v < a + suc n)) (a + n) [] (omega arith, omega arith) (All-nil (λ v. (a ≤ v) × (v < a + suc n))))

numbers_ascend : (a n : ℕ) → AllPairs (λ v w. v < w) (numbers_from a n)
numbers_ascend a zero = no_pairs (λ v w. v < w)
numbers_ascend a (suc n) =
    pairs_append (λ v w. v < w) (numbers_from a n) ((a + n) ∷ []) (numbers_ascend a n) (one_pair (λ v w. v < w) (a + n))
    (All-weaker (λ v. (a ≤ v) × (v < a + n)) (λ v. All (λ w. v < w) ((a + n) ∷ [])) (λ v h. All-cons (λ w. v < w) (a + n) [] h.1 (All-nil (λ w. v < w))) (numbers_from a n) (numbers_within a n))

rows_ascend : (model : Program) (set : List Member) → AllPairs (λ v w. v < w) (rows_in model set)
rows_ascend model set = AllPairs-filter (λ v w. v < w) (has_row set) (numbers_from 0 (length model.rows)) (numbers_ascend 0 (length model.rows))

-- ---- shares of variables
abbrev Ascends : VariableShare → VariableShare → Type 0
Ascends s t = s.variable < t.variable

share_of : (v : ℕ) (c : ℚ) → All (λ (s : VariableShare). s.variable ≡ v) (share_for v c)
share_of v c = by (eq_ℚ c zero_ℚ) (lt_q zero_ℚ c)
  where
    by : (a b : Bool) → All (λ (s : VariableShare). s.variable ≡ v) (cond a [] (cond b (record { variable = v; side = Up; weight = c } ∷ []) (record { variable = v; side = Lo; weight = neg_ℚ c } ∷ [])))
    by true b = All-nil (λ (s : VariableShare). s.variable ≡ v)
    by false true = All-cons (λ (s : VariableShare). s.variable ≡ v) (record { variable = v; side = Up; weight = c }) [] refl (All-nil (λ (s : VariableShare). s.variable ≡ v))
    by false false = All-cons (λ (s : VariableShare). s.variable ≡ v) (record { variable = v; side = Lo; weight = neg_ℚ c }) [] refl (All-nil (λ (s : VariableShare). s.variable ≡ v))

one_share : (v : ℕ) (c : ℚ) → AllPairs Ascends (share_for v c)
one_share v c = by (eq_ℚ c zero_ℚ) (lt_q zero_ℚ c)
  where
    by : (a b : Bool) → AllPairs Ascends (cond a [] (cond b (record { variable = v; side = Up; weight = c } ∷ []) (record { variable = v; side = Lo; weight = neg_ℚ c } ∷ [])))
    by true b = no_pairs Ascends
    by false true = one_pair Ascends (record { variable = v; side = Up; weight = c })
    by false false = one_pair Ascends (record { variable = v; side = Lo; weight = neg_ℚ c })

-- what holds of the variables
shares_of : (c : ℕ → ℚ) (P : ℕ → Type 0) (list : List ℕ) → All P list → All (λ (s : VariableShare). P s.variable) (shares_for c list)
shares_of c P [] h = All-nil (λ (s : VariableShare). P s.variable)
shares_of c P (v ∷ list) h =
    All-append (λ (s : VariableShare). P s.variable) (share_for v (c v)) (shares_for c list)
    (All-weaker (λ (s : VariableShare). s.variable ≡ v) (λ (s : VariableShare). P s.variable) (λ s e. subst P (sym e) (All-head P v list h)) (share_for v (c v)) (share_of v (c v)))
    (shares_of c P list (All-tail P v list h))

shares_ascend : (c : ℕ → ℚ) (list : List ℕ) → AllPairs (λ v w. v < w) list → AllPairs Ascends (shares_for c list)
shares_ascend c [] h = no_pairs Ascends
shares_ascend c (v ∷ list) h =
    pairs_append Ascends (share_for v (c v)) (shares_for c list) (one_share v (c v)) (shares_ascend c list (pairs_tail (λ a b. a < b) v list h))
    (across Ascends (λ (s : VariableShare). s.variable ≡ v) (λ (s : VariableShare). v < s.variable) (λ s t e l. subst (λ z. z < t.variable) (sym e) l)
    (share_for v (c v)) (shares_for c list) (share_of v (c v)) (shares_of c (λ w. v < w) list (pairs_head (λ a b. a < b) v list h)))

-- ---- as shares of the program
-- by their members
by_members : (a b : Share) (m n : Member) → a.source ≡ Of m → b.source ≡ Of n → comes_before m n ≡ true → IsTrue (source_before a.source b.source)
by_members a b m n e f h =
    subst (λ (x : Source). IsTrue (source_before x b.source)) (sym e) (subst (λ (y : Source). IsTrue (source_before (Of m) y)) (sym f) h)

-- a side of an earlier row stands before one of a later row
row_before : (i j : ℕ) (a b : Side) → i < j → comes_before (row_side_of i a) (row_side_of j b) ≡ true
row_before i j Lo Lo l = lt-ltb (2 * i) (2 * j) (omega arith)
row_before i j Lo Up l = lt-ltb (2 * i) (2 * j + 1) (omega arith)
row_before i j Up Lo l = lt-ltb (2 * i + 1) (2 * j) (omega arith)
row_before i j Up Up l = lt-ltb (2 * i + 1) (2 * j + 1) (omega arith)

-- of one row the lower side stands before the upper one
lower_first : (i : ℕ) → comes_before (RowLo i) (RowUp i) ≡ true
lower_first i = lt-ltb (2 * i) (2 * i + 1) (omega arith)

-- a side of a row stands before a bound
row_before_lower : (i j : ℕ) (a : Side) → comes_before (row_side_of i a) (Lower j) ≡ true
row_before_lower i j Lo = refl
row_before_lower i j Up = refl

row_before_upper : (i j : ℕ) (a : Side) → comes_before (row_side_of i a) (Upper j) ≡ true
row_before_upper i j Lo = refl
row_before_upper i j Up = refl

module _ (model : Program) (set : List Member) where
  abbrev columns : ℕ
  columns = length model.columns

  abbrev placed : VariableShare → Share
  placed s = translated model set [] (named columns s)

  abbrev Stands : VariableShare → VariableShare → Type 0
  Stands s t = IsTrue (source_before (placed s).source (placed t).source)

  -- a row of the set, a lower limit, and an upper one
  abbrev IsRow : VariableShare → Type 0
  IsRow s = (columns ≤ s.variable) × (s.variable < columns + length (rows_in model set))

  abbrev IsLow : VariableShare → Type 0
  IsLow s = (s.variable < columns) × (s.side ≡ Lo)

  abbrev IsHigh : VariableShare → Type 0
  IsHigh s = (s.variable < columns) × (s.side ≡ Up)

  -- the row of a share
  abbrev index_of : VariableShare → ℕ
  index_of s = slice_index (rows_in model set) (s.variable - columns)

  row_source : (k : ℕ) (side : Side) → stands_for model set [] (Of (row_side_of k side)) ≡ Of (row_side_of (slice_index (rows_in model set) k) side)
  row_source k Lo = refl
  row_source k Up = refl

  row_of : (s : VariableShare) → IsRow s → (placed s).source ≡ Of (row_side_of (index_of s) s.side)
  row_of s h = ap (λ b. stands_for model set [] (Of (cond b (bound_of s.variable s.side) (row_side_of (s.variable - columns) s.side)))) (le-ltb s.variable columns h.0) ∙ row_source (s.variable - columns) s.side

  low_of : (s : VariableShare) → IsLow s → (placed s).source ≡ Of (Lower s.variable)
  low_of s h =
      ap (λ b. stands_for model set [] (Of (cond b (bound_of s.variable s.side) (row_side_of (s.variable - columns) s.side)))) (lt-ltb s.variable columns h.0)
      ∙ ap (λ (side : Side). stands_for model set [] (Of (bound_of s.variable side))) h.1

  high_of : (s : VariableShare) → IsHigh s → (placed s).source ≡ Of (Upper s.variable)
  high_of s h =
      ap (λ b. stands_for model set [] (Of (cond b (bound_of s.variable s.side) (row_side_of (s.variable - columns) s.side)))) (lt-ltb s.variable columns h.0)
      ∙ ap (λ (side : Side). stands_for model set [] (Of (bound_of s.variable side))) h.1

  rows_stand : (s t : VariableShare) → IsRow s → IsRow t → Ascends s t → Stands s t
  rows_stand s t h k l =
      by_members (placed s) (placed t) (row_side_of (index_of s) s.side) (row_side_of (index_of t) t.side) (row_of s h) (row_of t k)
      (row_before (index_of s) (index_of t) s.side t.side
      (rows_ascend model set (s.variable - columns) (t.variable - columns) 0
      (let a = h.0 in let b = k.0 in omega (arith, a, b, l)) (let b = k.0 in let c = k.1 in omega (arith, b, c))))

  lows_stand : (s t : VariableShare) → IsLow s → IsLow t → Ascends s t → Stands s t
  lows_stand s t h k l = by_members (placed s) (placed t) (Lower s.variable) (Lower t.variable) (low_of s h) (low_of t k) (lt-ltb s.variable t.variable l)

  highs_stand : (s t : VariableShare) → IsHigh s → IsHigh t → Ascends s t → Stands s t
  highs_stand s t h k l = by_members (placed s) (placed t) (Upper s.variable) (Upper t.variable) (high_of s h) (high_of t k) (lt-ltb s.variable t.variable l)

  row_before_low : (s t : VariableShare) → IsRow s → IsLow t → Stands s t
  row_before_low s t h k = by_members (placed s) (placed t) (row_side_of (index_of s) s.side) (Lower t.variable) (row_of s h) (low_of t k) (row_before_lower (index_of s) t.variable s.side)

  row_before_high : (s t : VariableShare) → IsRow s → IsHigh t → Stands s t
  row_before_high s t h k = by_members (placed s) (placed t) (row_side_of (index_of s) s.side) (Upper t.variable) (row_of s h) (high_of t k) (row_before_upper (index_of s) t.variable s.side)

  low_before_high : (s t : VariableShare) → IsLow s → IsHigh t → Stands s t
  low_before_high s t h k = by_members (placed s) (placed t) (Lower s.variable) (Upper t.variable) (low_of s h) (high_of t k) refl

  -- ---- those of a blocked row
  side_low : (s : VariableShare) → not (is_upper s) ≡ true → s.side ≡ Lo
  side_low s e = by s.side e
    where
      by : (side : Side) → not (is_upper (record s { side = side })) ≡ true → side ≡ Lo
      by Lo e = refl
      by Up e = absurd (let f : false ≡ true = e in cc)

  side_high : (s : VariableShare) → is_upper s ≡ true → s.side ≡ Up
  side_high s e = by s.side e
    where
      by : (side : Side) → is_upper (record s { side = side }) ≡ true → side ≡ Up
      by Up e = refl
      by Lo e = absurd (let f : false ≡ true = e in cc)

  module _ (c : ℕ → ℚ) where
    abbrev row_part : List VariableShare
    row_part = shares_for c (numbers_from columns (length (rows_in model set)))

    abbrev column_part : List VariableShare
    column_part = shares_for c (numbers_from 0 columns)

    abbrev low_part : List VariableShare
    low_part = filter (λ s. not (is_upper s)) column_part

    abbrev high_part : List VariableShare
    high_part = filter is_upper column_part

    all_rows : All IsRow row_part
    all_rows = shares_of c (λ v. (columns ≤ v) × (v < columns + length (rows_in model set))) (numbers_from columns (length (rows_in model set))) (numbers_within columns (length (rows_in model set)))

    all_columns : All (λ (s : VariableShare). s.variable < columns) column_part
    all_columns =
        shares_of c (λ v. v < columns) (numbers_from 0 columns)
        (All-weaker (λ v. (0 ≤ v) × (v < 0 + columns)) (λ v. v < columns) (λ v h. let l = h.1 in omega arith) (numbers_from 0 columns) (numbers_within 0 columns))

    both_of : (P Q T : VariableShare → Type 0) → ((s : VariableShare) → P s → Q s → T s) → (list : List VariableShare) → All P list → All Q list → All T list
    both_of P Q T f list p q k d l = f (get_or list k d) (p k d l) (q k d l)

    all_low : All IsLow low_part
    all_low =
        both_of (λ s. s.variable < columns) (λ s. not (is_upper s) ≡ true) IsLow (λ s l e. (l, side_low s e)) low_part
        (All-filter (λ s. not (is_upper s)) (λ (s : VariableShare). s.variable < columns) column_part all_columns) (filter_passes (λ s. not (is_upper s)) column_part)

    all_high : All IsHigh high_part
    all_high =
        both_of (λ s. s.variable < columns) (λ s. is_upper s ≡ true) IsHigh (λ s l e. (l, side_high s e)) high_part
        (All-filter is_upper (λ (s : VariableShare). s.variable < columns) column_part all_columns) (filter_passes is_upper column_part)

    columns_ascend : AllPairs Ascends column_part
    columns_ascend = shares_ascend c (numbers_from 0 columns) (numbers_ascend 0 columns)

    row_pairs : AllPairs Stands row_part
    row_pairs = pairs_weaker Ascends Stands IsRow rows_stand row_part all_rows (shares_ascend c (numbers_from columns (length (rows_in model set))) (numbers_ascend columns (length (rows_in model set))))

    low_pairs : AllPairs Stands low_part
    low_pairs = pairs_weaker Ascends Stands IsLow lows_stand low_part all_low (AllPairs-filter Ascends (λ s. not (is_upper s)) column_part columns_ascend)

    high_pairs : AllPairs Stands high_part
    high_pairs = pairs_weaker Ascends Stands IsHigh highs_stand high_part all_high (AllPairs-filter Ascends is_upper column_part columns_ascend)

    limits_stand : AllPairs Stands (low_part ++ high_part)
    limits_stand = pairs_append Stands low_part high_part low_pairs high_pairs (across Stands IsLow IsHigh low_before_high low_part high_part all_low all_high)

    blocked_stand : AllPairs Stands (row_part ++ (low_part ++ high_part))
    blocked_stand =
        pairs_append Stands row_part (low_part ++ high_part) row_pairs limits_stand
        (All-weaker IsRow (λ s. All (Stands s) (low_part ++ high_part))
        (λ s h. All-append (Stands s) low_part high_part
        (All-weaker IsLow (Stands s) (λ t k. row_before_low s t h k) low_part all_low) (All-weaker IsHigh (Stands s) (λ t k. row_before_high s t h k) high_part all_high)) row_part all_rows)

  -- ---- those of limits that cross
  crossing_pair : (v : ℕ) (q : ℚ) → Stands (record { variable = v; side = Lo; weight = q }) (record { variable = v; side = Up; weight = q })
  crossing_pair v q = by (ltb v columns) refl
    where
      by : (b : Bool) → ltb v columns ≡ b → Stands (record { variable = v; side = Lo; weight = q }) (record { variable = v; side = Up; weight = q })
      by true e = low_before_high (record { variable = v; side = Lo; weight = q }) (record { variable = v; side = Up; weight = q }) (ltb-true v columns e, refl) (ltb-true v columns e, refl)
      by false e =
          let low : VariableShare = record { variable = v; side = Lo; weight = q } in
          let high : VariableShare = record { variable = v; side = Up; weight = q } in
          let i : ℕ = slice_index (rows_in model set) (v - columns) in
          let first : (placed low).source ≡ Of (RowLo i) = ap (λ b. stands_for model set [] (Of (cond b (bound_of v Lo) (row_side_of (v - columns) Lo)))) e in
          let second : (placed high).source ≡ Of (RowUp i) = ap (λ b. stands_for model set [] (Of (cond b (bound_of v Up) (row_side_of (v - columns) Up)))) e in
          by_members (placed low) (placed high) (RowLo i) (RowUp i) first second (lower_first i)

  crossing_stand : (v : ℕ) → AllPairs Stands (crossing_shares v)
  crossing_stand v =
      let low : VariableShare = record { variable = v; side = Lo; weight = one_ℚ } in
      let high : VariableShare = record { variable = v; side = Up; weight = one_ℚ } in
      AllPairs-cons Stands low (high ∷ []) (All-cons (Stands low) high [] (crossing_pair v one_ℚ) (All-nil (Stands low))) (one_pair Stands high)

-- ---- on a path
-- what a bound may give way to: the path's branches on its column
abbrev branch_of : Member → Source
branch_of (RowLo i) = Of (RowLo i)
branch_of (RowUp i) = Of (RowUp i)
branch_of (Lower j) = Above j
branch_of (Upper j) = Below j
branch_of (Whole j) = Of (Whole j)

-- two of one kind stand in order
abbrev AreApart : Source → Source → Type 0
AreApart (Of m) (Of n) = comes_before m n ≡ true
AreApart (Of m) (Below k) = Unit {0}
AreApart (Of m) (Above k) = Unit {0}
AreApart (Below j) (Of n) = Unit {0}
AreApart (Below j) (Below k) = j < k
AreApart (Below j) (Above k) = Unit {0}
AreApart (Above j) (Of n) = Unit {0}
AreApart (Above j) (Below k) = Unit {0}
AreApart (Above j) (Above k) = j < k

-- they stay so where the path takes the place of one of them
first_taken : (m n : Member) → comes_before m n ≡ true → AreApart (branch_of m) (Of n)
first_taken (RowLo i) n h = h
first_taken (RowUp i) n h = h
first_taken (Lower j) n h = tt
first_taken (Upper j) n h = tt
first_taken (Whole j) n h = h

second_taken : (m n : Member) → comes_before m n ≡ true → AreApart (Of m) (branch_of n)
second_taken m (RowLo i) h = h
second_taken m (RowUp i) h = h
second_taken m (Lower j) h = tt
second_taken m (Upper j) h = tt
second_taken m (Whole j) h = h

-- and of both
both_taken : (m n : Member) → comes_before m n ≡ true → AreApart (branch_of m) (branch_of n)
both_taken (RowLo i) n h = second_taken (RowLo i) n h
both_taken (RowUp i) n h = second_taken (RowUp i) n h
both_taken (Whole j) n h = second_taken (Whole j) n h
both_taken (Lower j) (Lower k) h = ltb-true j k h
both_taken (Lower j) (RowLo i) h = tt
both_taken (Lower j) (RowUp i) h = tt
both_taken (Lower j) (Upper k) h = tt
both_taken (Lower j) (Whole k) h = tt
both_taken (Upper j) (Upper k) h = ltb-true j k h
both_taken (Upper j) (RowLo i) h = tt
both_taken (Upper j) (RowUp i) h = tt
both_taken (Upper j) (Lower k) h = tt
both_taken (Upper j) (Whole k) h = tt

taken : (a b : Bool) (m n : Member) → comes_before m n ≡ true → AreApart (cond a (branch_of m) (Of m)) (cond b (branch_of n) (Of n))
taken false false m n h = h
taken true false m n h = first_taken m n h
taken false true m n h = second_taken m n h
taken true true m n h = both_taken m n h

module _ (model : Program) (set : List Member) where
  -- what a side of a row or a limit stands for with no path
  abbrev own : Member → Member
  own (RowLo k) = RowLo (slice_index (rows_in model set) k)
  own (RowUp k) = RowUp (slice_index (rows_in model set) k)
  own (Lower j) = Lower j
  own (Upper j) = Upper j
  own (Whole j) = Whole j

  own_source : (x : Member) → stands_for model set [] (Of x) ≡ Of (own x)
  own_source (RowLo k) = refl
  own_source (RowUp k) = refl
  own_source (Lower j) = refl
  own_source (Upper j) = refl
  own_source (Whole j) = refl

  -- and with one
  path_source : (path : List Branch) (x : Member) → (b : Bool) × (stands_for model set path (Of x) ≡ cond b (branch_of (own x)) (Of (own x)))
  path_source path (RowLo k) = (false, refl)
  path_source path (RowUp k) = (false, refl)
  path_source path (Lower j) = (is_raised (number_in model set (Lower j)) (source_number model path (Above j)), refl)
  path_source path (Upper j) = (is_lowered (number_in model set (Upper j)) (source_number model path (Below j)), refl)
  path_source path (Whole j) = (false, refl)

  apart_on : (path : List Branch) (x y : Member) → IsTrue (source_before (stands_for model set [] (Of x)) (stands_for model set [] (Of y))) → AreApart (stands_for model set path (Of x)) (stands_for model set path (Of y))
  apart_on path x y h =
      let (a, first) = path_source path x in
      let (b, second) = path_source path y in
      let before : comes_before (own x) (own y) ≡ true =
      subst (λ (z : Source). IsTrue (source_before (Of (own x)) z)) (own_source y) (subst (λ (z : Source). IsTrue (source_before z (stands_for model set [] (Of y)))) (own_source x) h) in
      subst (λ (z : Source). AreApart z (stands_for model set path (Of y))) (sym first)
      (subst (AreApart (cond a (branch_of (own x)) (Of (own x)))) (sym second) (taken a b (own x) (own y) before))

-- ---- arranged by kinds
-- a branch on a column with that
abbrev OnColumn : (ℕ → Type 0) → Source → Type 0
OnColumn P (Of m) = ⊥
OnColumn P (Below k) = P k
OnColumn P (Above k) = P k

abbrev Before : Share → Share → Type 0
Before s t = IsTrue (source_before s.source t.source)

abbrev Apart : Share → Share → Type 0
Apart s t = AreApart s.source t.source

members_before : (a b : Source) → is_member a ≡ true → is_member b ≡ true → AreApart a b → IsTrue (source_before a b)
members_before (Of m) (Of n) e f h = h
members_before (Of m) (Below k) e f h = absurd (let g : false ≡ true = f in cc)
members_before (Of m) (Above k) e f h = absurd (let g : false ≡ true = f in cc)
members_before (Below j) b e f h = absurd (let g : false ≡ true = e in cc)
members_before (Above j) b e f h = absurd (let g : false ≡ true = e in cc)

member_first : (P : ℕ → Type 0) (a b : Source) → is_member a ≡ true → OnColumn P b → IsTrue (source_before a b)
member_first P (Of m) (Below k) e h = refl
member_first P (Of m) (Above k) e h = refl
member_first P (Of m) (Of n) e h = absurd h
member_first P (Below j) b e h = absurd (let g : false ≡ true = e in cc)
member_first P (Above j) b e h = absurd (let g : false ≡ true = e in cc)

later_column : (j : ℕ) (a b : Source) → OnColumn (λ k. k ≡ j) a → OnColumn (λ k. j < k) b → IsTrue (source_before a b)
later_column j (Of m) b e h = absurd e
later_column j (Below k) (Of n) e h = absurd h
later_column j (Above k) (Of n) e h = absurd h
later_column j (Below k) (Below l) e h = lt-ltb k l (omega (arith, e, h))
later_column j (Below k) (Above l) e h = le-leb k l (omega (arith, e, h))
later_column j (Above k) (Below l) e h = lt-ltb k l (omega (arith, e, h))
later_column j (Above k) (Above l) e h = lt-ltb k l (omega (arith, e, h))

-- what the tests of a column say
below_on : (j : ℕ) (a : Source) → is_below j a ≡ true → OnColumn (λ k. k ≡ j) a
below_on j (Of m) e = absurd (let g : false ≡ true = e in cc)
below_on j (Below k) e = sym (eqb-true j k e)
below_on j (Above k) e = absurd (let g : false ≡ true = e in cc)

above_on : (j : ℕ) (a : Source) → is_above j a ≡ true → OnColumn (λ k. k ≡ j) a
above_on j (Of m) e = absurd (let g : false ≡ true = e in cc)
above_on j (Below k) e = absurd (let g : false ≡ true = e in cc)
above_on j (Above k) e = sym (eqb-true j k e)

one_below : (j : ℕ) (a b : Source) → is_below j a ≡ true → is_below j b ≡ true → AreApart a b → ⊥
one_below j (Below k) (Below l) e f h = let x = eqb-true j k e in let y = eqb-true j l f in omega (arith, x, y, h)
one_below j (Below k) (Of m) e f h = let g : false ≡ true = f in cc
one_below j (Below k) (Above l) e f h = let g : false ≡ true = f in cc
one_below j (Of m) b e f h = let g : false ≡ true = e in cc
one_below j (Above k) b e f h = let g : false ≡ true = e in cc

one_above : (j : ℕ) (a b : Source) → is_above j a ≡ true → is_above j b ≡ true → AreApart a b → ⊥
one_above j (Above k) (Above l) e f h = let x = eqb-true j k e in let y = eqb-true j l f in omega (arith, x, y, h)
one_above j (Above k) (Of m) e f h = let g : false ≡ true = f in cc
one_above j (Above k) (Below l) e f h = let g : false ≡ true = f in cc
one_above j (Of m) b e f h = let g : false ≡ true = e in cc
one_above j (Below k) b e f h = let g : false ≡ true = e in cc

below_first : (j : ℕ) (a b : Source) → is_below j a ≡ true → is_above j b ≡ true → IsTrue (source_before a b)
below_first j (Below k) (Above l) e f = let x = eqb-true j k e in let y = eqb-true j l f in le-leb k l (omega (arith, x, y))
below_first j (Below k) (Of m) e f = absurd (let g : false ≡ true = f in cc)
below_first j (Below k) (Below l) e f = absurd (let g : false ≡ true = f in cc)
below_first j (Of m) b e f = absurd (let g : false ≡ true = e in cc)
below_first j (Above k) b e f = absurd (let g : false ≡ true = e in cc)

module _ (shares : List Share) where
  abbrev belows : ℕ → List Share
  belows j = filter (λ s. is_below j s.source) shares

  abbrev aboves : ℕ → List Share
  aboves j = filter (λ s. is_above j s.source) shares

  column_on : (j : ℕ) → All (λ (s : Share). OnColumn (λ k. k ≡ j) s.source) (on_column shares j)
  column_on j =
      All-append (λ (s : Share). OnColumn (λ k. k ≡ j) s.source) (belows j) (aboves j)
      (All-weaker (λ (s : Share). is_below j s.source ≡ true) (λ (s : Share). OnColumn (λ k. k ≡ j) s.source) (λ s e. below_on j s.source e) (belows j) (filter_passes (λ (s : Share). is_below j s.source) shares))
      (All-weaker (λ (s : Share). is_above j s.source ≡ true) (λ (s : Share). OnColumn (λ k. k ≡ j) s.source) (λ s e. above_on j s.source e) (aboves j) (filter_passes (λ (s : Share). is_above j s.source) shares))

  moved : (P : ℕ → Type 0) (j : ℕ) (a : Source) → P j → OnColumn (λ k. k ≡ j) a → OnColumn P a
  moved P j (Of m) p h = absurd h
  moved P j (Below k) p h = subst P (sym h) p
  moved P j (Above k) p h = subst P (sym h) p

  columns_on : (P : ℕ → Type 0) (js : List ℕ) → All P js → All (λ (s : Share). OnColumn P s.source) (flat_map (on_column shares) js)
  columns_on P [] h = All-nil (λ (s : Share). OnColumn P s.source)
  columns_on P (j ∷ js) h =
      All-append (λ (s : Share). OnColumn P s.source) (on_column shares j) (flat_map (on_column shares) js)
      (All-weaker (λ (s : Share). OnColumn (λ k. k ≡ j) s.source) (λ (s : Share). OnColumn P s.source) (λ s e. moved P j s.source (All-head P j js h) e) (on_column shares j) (column_on j))
      (columns_on P js (All-tail P j js h))

  module _ (apart : AllPairs Apart shares) where
    column_in_order : (j : ℕ) → AllPairs Before (on_column shares j)
    column_in_order j =
        pairs_append Before (belows j) (aboves j)
        (pairs_weaker Apart Before (λ (s : Share). is_below j s.source ≡ true) (λ s t e f h. absurd (one_below j s.source t.source e f h)) (belows j)
        (filter_passes (λ (s : Share). is_below j s.source) shares) (AllPairs-filter Apart (λ (s : Share). is_below j s.source) shares apart))
        (pairs_weaker Apart Before (λ (s : Share). is_above j s.source ≡ true) (λ s t e f h. absurd (one_above j s.source t.source e f h)) (aboves j)
        (filter_passes (λ (s : Share). is_above j s.source) shares) (AllPairs-filter Apart (λ (s : Share). is_above j s.source) shares apart))
        (across Before (λ (s : Share). is_below j s.source ≡ true) (λ (s : Share). is_above j s.source ≡ true) (λ s t e f. below_first j s.source t.source e f) (belows j) (aboves j)
        (filter_passes (λ (s : Share). is_below j s.source) shares) (filter_passes (λ (s : Share). is_above j s.source) shares))

    columns_in_order : (js : List ℕ) → AllPairs (λ v w. v < w) js → AllPairs Before (flat_map (on_column shares) js)
    columns_in_order [] h = no_pairs Before
    columns_in_order (j ∷ js) h =
        pairs_append Before (on_column shares j) (flat_map (on_column shares) js) (column_in_order j) (columns_in_order js (pairs_tail (λ a b. a < b) j js h))
        (across Before (λ (s : Share). OnColumn (λ k. k ≡ j) s.source) (λ (s : Share). OnColumn (λ k. j < k) s.source) (λ s t e k. later_column j s.source t.source e k)
        (on_column shares j) (flat_map (on_column shares) js) (column_on j) (columns_on (λ k. j < k) js (pairs_head (λ a b. a < b) j js h)))

    arranged_in_order : (n : ℕ) → AreSharesInOrder (arranged n shares)
    arranged_in_order n =
        let members : List Share = filter (λ (s : Share). is_member s.source) shares in
        let branches : List Share = flat_map (on_column shares) (numbers_from 0 n) in
        let kept = filter_passes (λ (s : Share). is_member s.source) shares in
        pairs_append Before members branches
        (pairs_weaker Apart Before (λ (s : Share). is_member s.source ≡ true) (λ s t e f h. members_before s.source t.source e f h) members kept (AllPairs-filter Apart (λ (s : Share). is_member s.source) shares apart))
        (columns_in_order (numbers_from 0 n) (numbers_ascend 0 n))
        (across Before (λ (s : Share). is_member s.source ≡ true) (λ (s : Share). OnColumn (λ k. (0 ≤ k) × (k < 0 + n)) s.source) (λ s t e h. member_first (λ k. (0 ≤ k) × (k < 0 + n)) s.source t.source e h) members branches kept
        (columns_on (λ k. (0 ≤ k) × (k < 0 + n)) (numbers_from 0 n) (numbers_within 0 n)))

map_twice : {X Y Z : Type 0} (f : X → Y) (g : Y → Z) (xs : List X) → map g (map f xs) ≡ map (λ x. g (f x)) xs
map_twice f g [] = refl
map_twice f g (x ∷ xs) = ap (λ l. g (f x) ∷ l) (map_twice f g xs)

-- ---- a plain cut
in_order : (model : Program) (set : List Member) (path : List Branch) (of : List VariableShare) → AllPairs (Stands model set) of → AreSharesInOrder (program_shares model set path (map (named (length model.columns)) of))
in_order model set path of h =
    let n : ℕ = length model.columns in
    let g : VariableShare → Share = λ s. translated model set path (named n s) in
    let apart : AllPairs (λ (s t : VariableShare). Apart (g s) (g t)) of =
    λ i j d lt l. apart_on model set path (member_of n (get_or of i d).variable (get_or of i d).side) (member_of n (get_or of j d).variable (get_or of j d).side) (h i j d lt l) in
    subst (λ (l : List Share). AreSharesInOrder (arranged n l)) (sym (map_twice (named n) (translated model set path) of))
    (arranged_in_order (map g of) (pairs_map g Apart of apart) n)

-- the shares of a blocked row, in a system with so many columns and rows
abbrev parts : ℕ → ℕ → (ℕ → ℚ) → List VariableShare
parts a b c = shares_for c (numbers_from a b) ++ (filter (λ s. not (is_upper s)) (shares_for c (numbers_from 0 a)) ++ filter is_upper (shares_for c (numbers_from 0 a)))

given_stand : (model : Program) (set : List Member) (path : List Branch) (pivots : ℕ) (of : List VariableShare) → CrossesWith (plain_system model set path false) of ⊎ BlocksWith (plain_system model set path false) pivots of
    → AllPairs (Stands model set) of
given_stand model set path pivots of (inl h) = subst (AllPairs (Stands model set)) (sym h.shares_are) (crossing_stand model set h.variable)
given_stand model set path pivots of (inr h) =
    let system : LinearSystem = plain_system model set path false in
    let columns_are : length system.columns ≡ length model.columns = length_mapped (column_limits model set path) (length model.columns) in
    let rows_are : length system.rows ≡ length (rows_in model set) = length-map (rows_in model set) (plain_row model set) in
    let c : ℕ → ℚ = blocked_multiple h.here.tableau h.variable h.side in
    subst (AllPairs (Stands model set)) (sym h.shares_are)
    (subst (λ a. AllPairs (Stands model set) (parts a (length system.rows) c)) (sym columns_are)
    (subst (λ b. AllPairs (Stands model set) (parts (length model.columns) b c)) (sym rows_are) (blocked_stand model set c)))

pub plain_cut_in_order : (model : Program) (set : List Member) (path : List Branch) (pivots : ℕ) (shares : List Share) → IsPlainCut model set path pivots shares → AreSharesInOrder shares
plain_cut_in_order model set path pivots shares cut =
    subst AreSharesInOrder (sym cut.shares_are) (in_order model set path cut.of (given_stand model set path pivots cut.of cut.given))
