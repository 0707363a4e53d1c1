-- Entries that go to their lists, and the terms of a row that come of them.
use Rattle.std.proofs.Common.{◌≡◌, ◌≢◌, ℕ, zero, suc, ◌+◌, ◌<◌, Bool, true, false, cond, not, nat_eq, ◌&&◌, List, [], ◌∷◌, ◌++◌, Some, None, unwrap_or, length, map, get_or, set, take, refl, sym, ap, ◌∙◌, subst, arith, true≢false, append-nil, append_assoc, add-one, slice_get, get_or-set_other, get_or-set_same}
use Rattle.std.specs.List.{All, AllByRecursion, IsDistinct, cons_option}
use Rattle.std.specs.Map.{lookup}
use Rattle.std.proofs.lemmas.List.{map-set, take_more, get_or-map}
use Rattle.std.proofs.lemmas.List.Elements.{filter_map-append, All-push, All-nil, All-cons, All-head, All-tail}
use Rattle.std.proofs.lemmas.Option.{slice_get-get_or}
use Rattle.std.proofs.lemmas.Bool.{eqb-false}
use Rattle.std.proofs.lemmas.Bool.Decides.{nat_tests}
use Rattle.rational.specs.Rational.{ℚ, zero_ℚ, eq_ℚ}
use Rattle.rational.specs.Linear.{Term}
use Rattle.rational.proofs.Compare.{eq-Decides}
use Rattle.name_map.proofs.NameLists.{map_push, length_map}
use Rattle.mps_reader.specs.Meaning.{with_term}
use Rattle.mps_reader.specs.Gathered.{is_same_pair, factor_kept, cells_in, terms_at, terms_to}

-- one more empty list
pub more_empty : {V T : Type 0} (show : V → List T) (lists more : List V) (v : V) → more ≡ lists ++ v ∷ [] → show v ≡ [] → All (λ xs. xs ≡ []) (map show lists) → All (λ xs. xs ≡ []) (map show more)
more_empty {V} {T} show lists more v e none h =
    subst (All (λ (xs : List T). xs ≡ [])) (sym (ap (map show) e ∙ map_push show lists v)) (All-push (λ xs. xs ≡ []) (map show lists) (show v) h none)

pub all_empty : {T : Type 0} (xs : List (List T)) (k : ℕ) → All (λ x. x ≡ []) xs → get_or xs k [] ≡ []
all_empty [] k h = refl
all_empty (x ∷ xs) zero h = All-head (λ x. x ≡ []) x xs h
all_empty (x ∷ xs) (suc k) h = all_empty xs k (All-tail (λ x. x ≡ []) x xs h)

pub past : {X : Type 0} (xs : List X) (i : ℕ) → i < length xs → slice_get xs i ≡ None → ⊥
past [] i h e = omega arith
past (x ∷ xs) i h e = let s = slice_get-get_or (x ∷ xs) i x h in cc

-- one element goes to its list
pub put_one : {V T : Type 0} (show : V → List T) (lists : List V) (i : ℕ) (x : T) (old new : V) → i < length lists → old ≡ get_or lists i old → show new ≡ show old ++ x ∷ []
    → (k : ℕ) → k < length lists → get_or (map show (set lists i new)) k [] ≡ get_or (map show lists) k [] ++ cond (nat_eq k i) (x ∷ []) []
put_one {V} {T} show lists i x old new in_lists at grows k h = by (nat_eq k i) refl
  where
    sets : map show (set lists i new) ≡ set (map show lists) i (show new)
    sets = map-set show lists i new

    by : (b : Bool) → nat_eq k i ≡ b → get_or (map show (set lists i new)) k [] ≡ get_or (map show lists) k [] ++ cond b (x ∷ []) []
    by true q =
        let same : k ≡ i = grind (arith, nat_tests) in
        let within : k < length (map show lists) = omega (arith, length_map show lists) in
        ap (λ (xs : List (List T)). get_or xs k []) (sets ∙ ap (λ (n : ℕ). set (map show lists) n (show new)) (sym same))
        ∙ get_or-set_same (map show lists) k (show new) [] within
        ∙ grows ∙ ap (λ (ys : List T). ys ++ x ∷ []) (ap show at ∙ sym (get_or-map show lists i old [] in_lists) ∙ ap (λ (n : ℕ). get_or (map show lists) n []) (sym same))
    by false q =
        let other : k ≢ i = eqb-false k i q in
        ap (λ (xs : List (List T)). get_or xs k []) sets ∙ get_or-set_other (map show lists) i k (show new) [] other ∙ sym (append-nil (get_or (map show lists) k []))

-- the cells of a column with one entry more
pub cells_more : (es : List ((ℕ × ℕ) × ℚ)) (place : ℕ) (e : (ℕ × ℕ) × ℚ) (j : ℕ) → place < length es → get_or es place e ≡ e → cells_in j (take (place + 1) es) ≡ cells_in j (take place es) ++ cond (nat_eq j e.0.1) ((e.0.0, e.1) ∷ []) []
cells_more es place e j in_es is =
    ap (cells_in j) (take_more es place e in_es ∙ ap (λ (x : (ℕ × ℕ) × ℚ). take place es ++ x ∷ []) is)
    ∙ filter_map-append (λ (e : (ℕ × ℕ) × ℚ). cond (nat_eq j e.0.1) (Some (e.0.0, e.1)) None) (take place es) (e ∷ [])
    ∙ ap (λ xs. cells_in j (take place es) ++ xs) (by (nat_eq j e.0.1))
  where
    by : (b : Bool) → cons_option {X = ℕ × ℚ} (cond b (Some (e.0.0, e.1)) None) [] ≡ cond b ((e.0.0, e.1) ∷ []) []
    by true = refl
    by false = refl

-- the rows of cells are those of entries
pub cells_below : (n j : ℕ) (es : List ((ℕ × ℕ) × ℚ)) → All (λ e. e.0.0 < n) es → All (λ c. c.0 < n) (cells_in j es)
cells_below n j [] h = All-nil (λ (c : ℕ × ℚ). c.0 < n)
cells_below n j (e ∷ es) h = by (nat_eq j e.0.1) (All-head (λ (e : (ℕ × ℕ) × ℚ). e.0.0 < n) e es h) (cells_below n j es (All-tail (λ (e : (ℕ × ℕ) × ℚ). e.0.0 < n) e es h))
  where
    by : (b : Bool) → e.0.0 < n → All (λ c. c.0 < n) (cells_in j es) → All (λ c. c.0 < n) (cons_option {X = ℕ × ℚ} (cond b (Some (e.0.0, e.1)) None) (cells_in j es))
    by true p rest = All-cons (λ (c : ℕ × ℚ). c.0 < n) (e.0.0, e.1) (cells_in j es) p rest
    by false p rest = rest

-- the terms that one cell more gives
pub terms_more : (column row : ℕ) (xs : List (ℕ × ℚ)) (x : ℕ × ℚ) → terms_at column row (xs ++ x ∷ []) ≡ terms_at column row xs ++ terms_at column row (x ∷ [])
terms_more column row xs x = filter_map-append (λ (c : ℕ × ℚ). cond (nat_eq row c.0 && not (eq_ℚ c.1 zero_ℚ)) (Some (let t : Term = record { column = column; factor = c.1 } in t)) None) xs (x ∷ [])

-- a cell with the factor 0 gives none
pub zero_gives : (column row : ℕ) (c : ℕ × ℚ) → eq_ℚ c.1 zero_ℚ ≡ true → terms_at column row (c ∷ []) ≡ []
zero_gives column row c e = by (nat_eq row c.0) (eq_ℚ c.1 zero_ℚ) e
  where
    by : (a b : Bool) → b ≡ true → cons_option (cond (a && not b) (Some (let t : Term = record { column = column; factor = c.1 } in t)) None) [] ≡ []
    by true true h = refl
    by false true h = refl
    by a false h = absurd (true≢false (sym h))

-- and another gives one to its row
pub cell_gives : (column row : ℕ) (c : ℕ × ℚ) → eq_ℚ c.1 zero_ℚ ≡ false → terms_at column row (c ∷ []) ≡ cond (nat_eq row c.0) ((let t : Term = record { column = column; factor = c.1 } in t) ∷ []) []
cell_gives column row c e = by (nat_eq row c.0) (eq_ℚ c.1 zero_ℚ) e
  where
    by : (a b : Bool) → b ≡ false → cons_option (cond (a && not b) (Some (let t : Term = record { column = column; factor = c.1 } in t)) None) [] ≡ cond a ((let t : Term = record { column = column; factor = c.1 } in t) ∷ []) []
    by true false h = refl
    by false false h = refl
    by a true h = absurd (true≢false h)

-- ---- the terms of one column in one row
-- none where no entry has its places
none_given : (i j : ℕ) (es : List ((ℕ × ℕ) × ℚ)) → AllByRecursion (λ k. is_same_pair (i, j) k ≡ false) (map (λ e. e.0) es) → terms_at j i (cells_in j es) ≡ []
none_given i j [] h = refl
none_given i j (e ∷ es) h = by (nat_eq j e.0.1) (nat_eq i e.0.0) refl h.0 (none_given i j es h.1)
  where
    by : (b a : Bool) → nat_eq i e.0.0 ≡ a → (a && b) ≡ false → terms_at j i (cells_in j es) ≡ [] → terms_at j i (cons_option (cond b (Some (e.0.0, e.1)) None) (cells_in j es)) ≡ []
    by false a q f rest = rest
    by true true q f rest = absurd (true≢false f)
    by true false q f rest = ap (λ c. cons_option (cond (c && not (eq_ℚ e.1 zero_ℚ)) (Some (let t : Term = record { column = j; factor = e.1 } in t)) None) (terms_at j i (cells_in j es))) q ∙ rest

zero_is : eq_ℚ zero_ℚ zero_ℚ ≡ true
zero_is = (eq-Decides zero_ℚ zero_ℚ).1 refl

-- the term of the one entry that has them
pub given_terms : (i j : ℕ) (es : List ((ℕ × ℕ) × ℚ)) → IsDistinct is_same_pair (map (λ e. e.0) es) → terms_at j i (cells_in j es) ≡ with_term j (factor_kept es i j) []
unfolding IsDistinct
given_terms i j [] h = sym (ap (λ b. cond b [] ((let t : Term = record { column = j; factor = zero_ℚ } in t) ∷ [])) zero_is)
given_terms i j (e ∷ es) h = by (nat_eq j e.0.1) (nat_eq i e.0.0) refl refl (given_terms i j es h.1)
  where
    term : Term
    term = record { column = j; factor = e.1 }

    first : (c : Bool) → cons_option (cond (not c) (Some term) None) [] ≡ cond c [] (term ∷ [])
    first true = refl
    first false = refl

    by : (b a : Bool) → nat_eq j e.0.1 ≡ b → nat_eq i e.0.0 ≡ a → terms_at j i (cells_in j es) ≡ with_term j (factor_kept es i j) []
        → terms_at j i (cons_option (cond b (Some (e.0.0, e.1)) None) (cells_in j es)) ≡ with_term j (unwrap_or (cond (a && b) (Some e.1) (lookup (is_same_pair (i, j)) es)) zero_ℚ) []
    by false true p q rest = rest
    by false false p q rest = rest
    by true false p q rest = ap (λ c. cons_option (cond (c && not (eq_ℚ e.1 zero_ℚ)) (Some term) None) (terms_at j i (cells_in j es))) q ∙ rest
    by true true p q rest =
        ap (λ c. cons_option (cond (c && not (eq_ℚ e.1 zero_ℚ)) (Some term) None) (terms_at j i (cells_in j es))) q
        ∙ ap (cons_option (cond (not (eq_ℚ e.1 zero_ℚ)) (Some term) None)) (none_given i j es (same_keys (map (λ (e : (ℕ × ℕ) × ℚ). e.0) es) h.0))
        ∙ first (eq_ℚ e.1 zero_ℚ)
      where
        same_keys : (ks : List (ℕ × ℕ)) → AllByRecursion (λ k. is_same_pair e.0 k ≡ false) ks → AllByRecursion (λ k. is_same_pair (i, j) k ≡ false) ks
        same_keys ks h = subst (λ (p : ℕ × ℕ). AllByRecursion (λ k. is_same_pair p k ≡ false) ks) (pair_is (i) (j) e.0 q p) h
          where
            pair_is : (i j : ℕ) (k : ℕ × ℕ) → nat_eq i k.0 ≡ true → nat_eq j k.1 ≡ true → k ≡ (i, j)
            pair_is i j k a b = let x : k.0 ≡ i = grind (arith, nat_tests) in let y : k.1 ≡ j = grind (arith, nat_tests) in λ n. (x n, y n)

-- all terms of a row up to a column
pub terms_to_more : (f : ℕ → ℚ) (n : ℕ) → terms_to f (n + 1) ≡ terms_to f n ++ with_term n (f n) []
terms_to_more f n = ap (terms_to f) (add-one n)

-- an element of a list that is mapped
pub item_shown : {X Y : Type 0} (f : X → Y) (xs : List X) (i : ℕ) (x : X) → i < length xs → x ≡ get_or xs i x → get_or (map f xs) i (f x) ≡ f x
item_shown f xs i x h is = get_or-map f xs i x (f x) h ∙ ap f (sym is)

-- the terms of one cell more
pub terms_put : (column row : ℕ) (cells : List (ℕ × ℚ)) (i : ℕ) (c : ℕ × ℚ) (before now after : List Term) → i < length cells → get_or cells i c ≡ c
    → now ≡ before ++ terms_at column row (take i cells) → after ≡ now ++ terms_at column row (c ∷ []) → after ≡ before ++ terms_at column row (take (i + 1) cells)
terms_put column row cells i c before now after h is inv new =
    new ∙ ap (λ (xs : List Term). xs ++ terms_at column row (c ∷ [])) inv ∙ append_assoc before (terms_at column row (take i cells)) (terms_at column row (c ∷ []))
    ∙ ap (λ (xs : List Term). before ++ xs) (sym (ap (terms_at column row) (take_more cells i c h ∙ ap (λ (x : ℕ × ℚ). take i cells ++ x ∷ []) is) ∙ terms_more column row (take i cells) c))

-- the terms of one column more
pub column_put : (es : List ((ℕ × ℕ) × ℚ)) (row column : ℕ) (now after : List Term) (cells : List (ℕ × ℚ)) → IsDistinct is_same_pair (map (λ e. e.0) es) → cells ≡ cells_in column es
    → now ≡ terms_to (factor_kept es row) column → after ≡ now ++ terms_at column row cells → after ≡ terms_to (factor_kept es row) (column + 1)
column_put es row column now after cells apart are inv new =
    new ∙ (λ i. inv i ++ terms_at column row (are i)) ∙ ap (λ (xs : List Term). terms_to (factor_kept es row) column ++ xs) (given_terms row column es apart) ∙ sym (terms_to_more (factor_kept es row) column)
