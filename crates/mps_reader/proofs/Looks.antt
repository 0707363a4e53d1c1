-- Look-ups in lists that grow at their end, and look-ups by places and by names.
use Rattle.std.proofs.Common.{◌≡◌, ◌≢◌, zero, suc, ℕ, ◌<◌, Bool, true, false, cond, nat_eq, ◌&&◌, ◌||◌, List, [], ◌∷◌, ◌++◌, Option, Some, None, is_some, length, get_or, refl, sym, ap, ◌∙◌, arith}
use Rattle.std.specs.List.{All, find, filter, list_any}
use Rattle.std.specs.Option.{option_map, option_or}
use Rattle.std.specs.Map.{lookup}
use Rattle.std.specs.Str.{bytes_eq}
use Rattle.std.proofs.lemmas.List.Folds.{find-append}
use Rattle.std.proofs.lemmas.List.{get_or_append_left}
use Rattle.std.proofs.lemmas.List.Elements.{All-head, All-tail}
use Rattle.name_map.specs.Names.{StandsAt, name_at}
use Rattle.mps_reader.specs.Held.{is_at, kept_of, is_entry_kept}
use Rattle.mps_reader.specs.Gathered.{is_same_pair}

-- ---- one element more
-- what is found in a list with one element more
pub find_push : {X V : Type 0} (f : X → V) (p : X → Bool) (xs : List X) (x : X) → option_map f (find p (xs ++ x ∷ [])) ≡ option_or (option_map f (find p xs)) (cond (p x) (Some (f x)) None)
find_push {X} {V} f p xs x = ap (option_map f) (find-append p xs (x ∷ [])) ∙ by (find p xs) (p x)
  where
    by : (o : Option X) (b : Bool) → option_map f (option_or o (cond b (Some x) None)) ≡ option_or (option_map f o) (cond b (Some (f x)) None)
    by None true = refl
    by None false = refl
    by (Some y) b = refl

-- two lists in which the same is found, with one element more each
pub both_push : {X Y V : Type 0} (f : X → V) (p : X → Bool) (xs : List X) (x : X) (g : Y → V) (q : Y → Bool) (ys : List Y) (y : Y)
    → option_map f (find p xs) ≡ option_map g (find q ys) → p x ≡ q y → f x ≡ g y
    → option_map f (find p (xs ++ x ∷ [])) ≡ option_map g (find q (ys ++ y ∷ []))
both_push f p xs x g q ys y same tests values =
    find_push f p xs x ∙ (λ i. option_or (same i) (cond (tests i) (Some (values i)) None)) ∙ sym (find_push g q ys y)

-- an element that does not pass changes nothing
pub find_same : {X V : Type 0} (f : X → V) (p : X → Bool) (xs : List X) (x : X) → p x ≡ false → option_map f (find p (xs ++ x ∷ [])) ≡ option_map f (find p xs)
find_same {X} {V} f p xs x fails = find_push f p xs x ∙ ap (λ b. option_or (option_map f (find p xs)) (cond b (Some (f x)) None)) fails ∙ by (option_map f (find p xs))
  where
    by : (o : Option V) → option_or o None ≡ o
    by None = refl
    by (Some v) = refl

-- something is found exactly where a test of any element passes
pub any_find : {X V : Type 0} (f : X → V) (p : X → Bool) (xs : List X) → list_any p xs ≡ is_some (option_map f (find p xs))
any_find f p [] = refl
any_find f p (x ∷ xs) = by (p x) (any_find f p xs)
  where
    by : (b : Bool) → list_any p xs ≡ is_some (option_map f (find p xs)) → (b || list_any p xs) ≡ is_some (option_map f (cond b (Some x) (find p xs)))
    by true h = refl
    by false h = h

-- whether something is found does not hang on what is made of it
pub some_map : {X V : Type 0} (f : X → V) (o : Option X) → is_some (option_map f o) ≡ is_some o
some_map f None = refl
some_map f (Some x) = refl

-- a look-up finds what a test of the keys finds
pub any_lookup : {K V : Type 0} (test : K → Bool) (es : List (K × V)) → is_some (lookup test es) ≡ list_any (λ e. test e.0) es
any_lookup test [] = refl
any_lookup test (e ∷ es) = by (test e.0) (any_lookup test es)
  where
    by : (b : Bool) → is_some (lookup test es) ≡ list_any (λ e. test e.0) es → is_some (cond b (Some e.1) (lookup test es)) ≡ (b || list_any (λ e. test e.0) es)
    by true h = refl
    by false h = h

-- ---- by places and by names
-- two tests that agree on each entry find the same
look_agree : {K V : Type 0} (test : K → Bool) (q : K × V → Bool) (P : K × V → Type 0) → ((e : K × V) → P e → q e ≡ test e.0) → (es : List (K × V)) → All P es → lookup test es ≡ option_map (λ e. e.1) (find q es)
look_agree test q P agree [] h = refl
look_agree {K} {V} test q P agree (e ∷ es) h = by (q e) (agree e (All-head P e es h)) (look_agree test q P agree es (All-tail P e es h))
  where
    by : (b : Bool) → b ≡ test e.0 → lookup test es ≡ option_map (λ e. e.1) (find q es) → lookup test (e ∷ es) ≡ option_map (λ (e : K × V). e.1) (cond b (Some e) (find q es))
    by true t h = ap (λ c. cond c (Some e.1) (lookup test es)) (sym t)
    by false t h = ap (λ c. cond c (Some e.1) (lookup test es)) (sym t) ∙ h

-- what is kept at the place of a name is what is kept of the name
pub place_look : {V : Type 0} (names : List (List ℕ)) (name : List ℕ) (i : ℕ) (table : List (ℕ × V)) → StandsAt names name i → All (λ e. e.0 < length names) table → lookup (nat_eq i) table ≡ kept_of names table name
place_look names name i table at within = look_agree (nat_eq i) (is_at names name) (λ e. e.0 < length names) (λ e h. at.alone e.0 h) table within

-- the same of an entry
pub entry_look : {V : Type 0} (rows columns : List (List ℕ)) (row column : List ℕ) (i j : ℕ) (table : List ((ℕ × ℕ) × V)) → StandsAt rows row i → StandsAt columns column j
    → All (λ e. (e.0.0 < length rows) × (e.0.1 < length columns)) table
    → lookup (is_same_pair (i, j)) table ≡ option_map (λ e. e.1) (find (is_entry_kept rows columns column row) table)
entry_look rows columns row column i j table at_row at_column within =
    look_agree (is_same_pair (i, j)) (is_entry_kept rows columns column row) (λ e. (e.0.0 < length rows) × (e.0.1 < length columns))
    (λ e h. (λ k. at_column.alone e.0.1 h.1 k && at_row.alone e.0.0 h.0 k) ∙ swap (nat_eq j e.0.1) (nat_eq i e.0.0)) table within
  where
    swap : (a b : Bool) → (a && b) ≡ (b && a)
    swap true true = refl
    swap true false = refl
    swap false true = refl
    swap false false = refl

-- ---- at one place
-- a test that fails at each element finds none among those that are kept
any_none : {X : Type 0} (p q : X → Bool) (xs : List X) (d : X) → ((k : ℕ) → k < length xs → p (get_or xs k d) ≡ false) → list_any p (filter q xs) ≡ false
any_none p q [] d h = refl
any_none p q (x ∷ xs) d h = by (q x) (h 0 (omega arith)) (any_none p q xs d (λ k lt. h (suc k) (omega arith)))
  where
    by : (b : Bool) → p x ≡ false → list_any p (filter q xs) ≡ false → list_any p (cond b (x ∷ filter q xs) (filter q xs)) ≡ false
    by true e rest = ap (λ c. c || list_any p (filter q xs)) e ∙ rest
    by false e rest = rest

-- a test that passes at one place alone finds its element exactly where it is kept
pub any_at : {X : Type 0} (p q : X → Bool) (xs : List X) (i : ℕ) (d : X) → i < length xs → p (get_or xs i d) ≡ true → ((k : ℕ) → k < length xs → k ≢ i → p (get_or xs k d) ≡ false) → list_any p (filter q xs) ≡ q (get_or xs i d)
any_at p q [] i d within passes fails = absurd (omega arith)
any_at p q (x ∷ xs) zero d within passes fails = by (q x) refl
  where
    none : list_any p (filter q xs) ≡ false
    none = any_none p q xs d (λ k lt. fails (suc k) (omega arith) (λ e. absurd (omega arith)))

    by : (b : Bool) → q x ≡ b → list_any p (cond b (x ∷ filter q xs) (filter q xs)) ≡ b
    by true e = ap (λ c. c || list_any p (filter q xs)) passes
    by false e = none
any_at p q (x ∷ xs) (suc i) d within passes fails = by (q x) (fails 0 (omega arith) (λ e. absurd (omega arith))) (any_at p q xs i d (omega arith) passes (λ k lt other. fails (suc k) (omega arith) (λ e. other (omega arith))))
  where
    by : (b : Bool) → p x ≡ false → list_any p (filter q xs) ≡ q (get_or xs i d) → list_any p (cond b (x ∷ filter q xs) (filter q xs)) ≡ q (get_or xs i d)
    by true e rest = ap (λ c. c || list_any p (filter q xs)) e ∙ rest
    by false e rest = rest

-- and it is the first that is found
pub find_at : {X : Type 0} (p : X → Bool) (xs : List X) (i : ℕ) (d : X) → i < length xs → p (get_or xs i d) ≡ true → ((k : ℕ) → k < length xs → k ≢ i → p (get_or xs k d) ≡ false) → find p xs ≡ Some (get_or xs i d)
find_at p [] i d within passes fails = absurd (omega arith)
find_at p (x ∷ xs) zero d within passes fails = ap (λ b. cond b (Some x) (find p xs)) passes
find_at p (x ∷ xs) (suc i) d within passes fails =
    ap (λ b. cond b (Some x) (find p xs)) (fails 0 (omega arith) (λ e. absurd (omega arith)))
    ∙ find_at p xs i d (omega arith) passes (λ k lt other. fails (suc k) (omega arith) (λ e. other (omega arith)))

-- ---- tests that agree
-- tests that agree on each element find the same
pub find_agree : {X : Type 0} (p q : X → Bool) (P : X → Type 0) → ((x : X) → P x → p x ≡ q x) → (xs : List X) → All P xs → find p xs ≡ find q xs
find_agree p q P agree [] h = refl
find_agree p q P agree (x ∷ xs) h = λ i. cond (agree x (All-head P x xs h) i) (Some x) (find_agree p q P agree xs (All-tail P x xs h) i)

-- names that grow keep what stands at a place
pub name_stays : (names : List (List ℕ)) (x : List ℕ) (i : ℕ) → i < length names → name_at (names ++ x ∷ []) i ≡ name_at names i
name_stays names x i h = get_or_append_left names (x ∷ []) [] i h

-- what is kept of a name when there is one name more
pub kept_stays : {V : Type 0} (names : List (List ℕ)) (x name : List ℕ) (table : List (ℕ × V)) → All (λ e. e.0 < length names) table → find (is_at (names ++ x ∷ []) name) table ≡ find (is_at names name) table
kept_stays names x name table within = find_agree (is_at (names ++ x ∷ []) name) (is_at names name) (λ e. e.0 < length names) (λ e h. ap (bytes_eq name) (name_stays names x e.0 h)) table within

-- and of an entry when there is one row more
pub entry_stays_rows : {V : Type 0} (rows columns : List (List ℕ)) (x column row : List ℕ) (table : List ((ℕ × ℕ) × V)) → All (λ e. (e.0.0 < length rows) × (e.0.1 < length columns)) table
    → find (is_entry_kept (rows ++ x ∷ []) columns column row) table ≡ find (is_entry_kept rows columns column row) table
entry_stays_rows rows columns x column row table within =
    find_agree (is_entry_kept (rows ++ x ∷ []) columns column row) (is_entry_kept rows columns column row) (λ e. (e.0.0 < length rows) × (e.0.1 < length columns))
    (λ e h. ap (λ n. bytes_eq column (name_at columns e.0.1) && bytes_eq row n) (name_stays rows x e.0.0 h.0)) table within

-- or one column more
pub entry_stays_columns : {V : Type 0} (rows columns : List (List ℕ)) (x column row : List ℕ) (table : List ((ℕ × ℕ) × V)) → All (λ e. (e.0.0 < length rows) × (e.0.1 < length columns)) table
    → find (is_entry_kept rows (columns ++ x ∷ []) column row) table ≡ find (is_entry_kept rows columns column row) table
entry_stays_columns rows columns x column row table within =
    find_agree (is_entry_kept rows (columns ++ x ∷ []) column row) (is_entry_kept rows columns column row) (λ e. (e.0.0 < length rows) × (e.0.1 < length columns))
    (λ e h. ap (λ n. bytes_eq column n && bytes_eq row (name_at rows e.0.0)) (name_stays columns x e.0.1 h.1)) table within
