-- What the entries of a basic variable give, and how many there are.
use Rattle.std.proofs.Common.{◌≡◌, ◌+◌, ◌-◌, ◌<◌, ◌≤◌, refl, sym, ◌∙◌, ap, subst, ℕ, suc, Bool, true, false, not, ◌&&◌, List, [], ◌∷◌, length, length-append, get_or, take, map, nat_lt, arith}
use Rattle.std.specs.Prelude.{All, filter, flat_map, slice_index, slice_index_or}
use Rattle.std.proofs.lemmas.Bool.{lt-ltb}
use Rattle.std.proofs.lemmas.List.{take_more, flat_map_more, length-map, get_or-map}
use Rattle.std.proofs.lemmas.List.Elements.{All-head, All-tail, filter_passes}
use Rattle.rational.specs.Rational.{ℚ, ◌*ℚ◌, zero_ℚ, eq_ℚ}
use Rattle.rational.specs.Sum.{sum_over}
use Rattle.rational.specs.Linear.{Term, factor_of}
use Rattle.certs.specs.System.{Place, is_basic}
use Rattle.certs.specs.Tableau.{below, basics, nonbasics}
use Rattle.certs.specs.Turns.{sum_operations}
use Rattle.dictionary.specs.declared.entries.Entry.{Entry}
use Rattle.dictionary.specs.Rows.{terms_of, IsRow, IsSparse, AreSparse}
use Rattle.dictionary.proofs.Terms.{terms_at, terms_within, terms-length, some_term}
use Rattle.dictionary.proofs.Lists.{Rises, rises, factor_at}
use Rattle.dictionary.proofs.Listed.{has, has_kept, has-listed, same, up-kept, up-below, counts, listed, flat_skip, flat_all, sum_skip, total_skip}
use Rattle.dictionary.proofs.Pivots.{flat_rows}

abbrev pub columns : List Term → List ℕ
columns row = map (λ t. t.column) row

module _ (basis : List Place) (row : List Term) (sparse : IsSparse basis row) where
  in_nonbasics : All (λ t. has (nonbasics basis) t.column ≡ true) row
  in_nonbasics k d l =
      let o = sparse.nonbasic k d l in
      let c : ℕ = (slice_index_or row k d).column in
      has-listed (length basis) (λ v. not (is_basic basis v)) c ∙ ap (λ z. z && not (is_basic basis c)) (lt-ltb c (length basis) o.0) ∙ ap not o.1

  pub columns_are : columns row ≡ filter (counts row) (nonbasics basis)
  columns_are = listed row (nonbasics basis) (rises row sparse.is_row) (up-below (length basis) (λ v. not (is_basic basis v))) in_nonbasics

  pub value-work : (g : ℕ → ℚ) (s : ℚ) → sum_operations (factor_of row) g s (columns row) ≡ sum_operations (factor_of row) g s (nonbasics basis)
  value-work g s = ap (sum_operations (factor_of row) g s) columns_are ∙ sum_skip (factor_of row) g s (nonbasics basis)

  pub value-total : (g : ℕ → ℚ) → sum_over (λ k. factor_of row k *ℚ g k) (columns row) ≡ sum_over (λ k. factor_of row k *ℚ g k) (nonbasics basis)
  value-total g = ap (sum_over (λ k. factor_of row k *ℚ g k)) columns_are ∙ total_skip (factor_of row) g (nonbasics basis)

-- a row is no longer than there are variables
short : (n least : ℕ) (row : List Term) → Rises least row → All (λ t. t.column < n) row → length row ≤ n - least
short n least [] h a = omega arith
short n least (t ∷ ts) h a =
    let r : length ts ≤ n - suc t.column = short n (suc t.column) ts h.1.1 (All-tail (λ (t : Term). t.column < n) t ts a) in
    let l : least ≤ t.column = h.0 in
    let m : t.column < n = All-head (λ (t : Term). t.column < n) t ts a in
    omega (arith, r, l, m)

module _ (basis : List Place) (rows : List (List Term)) (is : AreSparse basis rows) where
  pub row_short : (i : ℕ) → length (slice_index_or rows i []) ≤ length basis
  row_short i = by (is_basic basis i) refl
    where
      by : (b : Bool) → is_basic basis i ≡ b → length (slice_index_or rows i []) ≤ length basis
      by true e =
          let s = is.sparse i e in
          let r = short (length basis) 0 (slice_index_or rows i []) (rises (slice_index_or rows i []) s.is_row) (λ k d l. (s.nonbasic k d l).0) in
          omega (arith, r)
      by false e = subst (λ r. length r ≤ length basis) (sym (is.empty i e)) (omega arith)

  abbrev all : List ℕ
  all = below (length basis) (λ i. true)

  and_one : (a b : Bool) → a && b ≡ (a && true) && b
  and_one true b = refl
  and_one false b = refl

  basics_are : basics basis ≡ filter (is_basic basis) all
  basics_are =
      same 0 0 _ _ (up-below (length basis) (is_basic basis)) (up-kept (is_basic basis) 0 all (up-below (length basis) (λ i. true)))
      (λ k. has-listed (length basis) (is_basic basis) k ∙ and_one (nat_lt k (length basis)) (is_basic basis k) ∙ ap (λ z. z && is_basic basis k) (sym (has-listed (length basis) (λ i. true) k)) ∙ sym (has_kept (is_basic basis) all k))

  all_basic : All (λ i. is_basic basis i ≡ true) (basics basis)
  all_basic = subst (All (λ i. is_basic basis i ≡ true)) (sym basics_are) (filter_passes (is_basic basis) all)

  -- the entries are the pairs that count
  pub all_stored : flat_map columns rows ≡ flat_map (λ i. filter (λ k. not (eq_ℚ (factor_of (slice_index_or rows i []) k) zero_ℚ)) (nonbasics basis)) (basics basis)
  all_stored =
      flat_rows columns rows
      ∙ ap (λ n. flat_map (λ i. columns (slice_index_or rows i [])) (below n (λ i. true))) is.long
      ∙ sym (flat_skip (λ i. columns (slice_index_or rows i [])) (is_basic basis) (λ i e. ap columns (is.empty i e)) all)
      ∙ ap (flat_map (λ i. columns (slice_index_or rows i []))) (sym basics_are)
      ∙ flat_all (λ i. is_basic basis i ≡ true) (λ i. columns (slice_index_or rows i [])) (λ i. filter (λ k. not (eq_ℚ (factor_of (slice_index_or rows i []) k) zero_ℚ)) (nonbasics basis))
      (λ i b. columns_are basis (slice_index_or rows i []) (is.sparse i b)) (basics basis) all_basic

-- one row more
pub stored-more : (rows : List (List Term)) (i n : ℕ) (r : List Term) → i < length rows → r ≡ get_or rows i r → n ≡ length (flat_map columns (take i rows)) → n + length r ≡ length (flat_map columns (take (i + 1) rows))
stored-more rows i n r l is e =
    sym
    (ap (λ z. length (flat_map columns z)) (take_more rows i r l)
    ∙ ap length (sym (flat_map_more columns [] (take i rows) (get_or rows i r)))
    ∙ length-append (flat_map columns (take i rows)) (columns (get_or rows i r))
    ∙ ap (λ z. z + length (columns (get_or rows i r))) (sym e)
    ∙ ap (λ z. n + z) (length-map (get_or rows i r) (λ t. t.column) ∙ ap length (sym is)))

-- ---- an entry that is read
module _ {N : Type 0} (v : N → ℚ) (xs : List (Entry N)) (i : ℕ) (x : Entry N) (l : i < length xs) (is : x ≡ get_or xs i x) where
  pub column_at : slice_index (columns (terms_of v xs)) i ≡ x.variable
  column_at = get_or-map (λ (t : Term). t.column) (terms_of v xs) i some_term 0 (terms_within v xs i l) ∙ ap (λ (t : Term). t.column) (terms_at v xs i x some_term l is)

  pub factor_is : IsRow (terms_of v xs) → factor_of (terms_of v xs) (slice_index (columns (terms_of v xs)) i) ≡ v x.factor
  factor_is row =
      ap (factor_of (terms_of v xs)) (column_at ∙ sym (ap (λ (t : Term). t.column) (terms_at v xs i x some_term l is)))
      ∙ factor_at 0 (terms_of v xs) (rises (terms_of v xs) row) i some_term (terms_within v xs i l)
      ∙ ap (λ (t : Term). t.factor) (terms_at v xs i x some_term l is)

  pub entry_outside : (basis : List Place) → IsSparse basis (terms_of v xs) → (x.variable < length basis) × (is_basic basis x.variable ≡ false)
  entry_outside basis sparse = subst (λ (t : Term). (t.column < length basis) × (is_basic basis t.column ≡ false)) (terms_at v xs i x some_term l is) (sparse.nonbasic i some_term (terms_within v xs i l))

pub columns-length : {N : Type 0} (v : N → ℚ) (xs : List (Entry N)) → length (columns (terms_of v xs)) ≡ length xs
columns-length v xs = length-map (terms_of v xs) (λ (t : Term). t.column) ∙ terms-length v xs
