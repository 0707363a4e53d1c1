-- Each row and each column that is put may be added.
use Rattle.std.proofs.Common.{◌≡◌, ℕ, zero, suc, ◌+◌, ◌<◌, ◌≤◌, Bool, true, false, cond, ltb, nat_eq, ◌||◌, List, [], ◌∷◌, ◌++◌, length, map, refl, sym, ap, ◌∙◌, subst, arith, length-append}
use Rattle.std.proofs.lemmas.List.{map-append}
use Rattle.std.specs.List.{list_any}
use Rattle.std.specs.Str.{bytes_eq}
use Rattle.std.proofs.lemmas.Bool.{ltb-true, ltb-false}
use Rattle.std.proofs.lemmas.List.Folds.{list_any-append}
use Rattle.std.proofs.lemmas.Bool.Decides.{nat_tests}
use Rattle.name_map.specs.Names.{name_at}
use Rattle.name_map.proofs.NameLists.{length_map}
use Rattle.lp_model.specs.Program.{Program, NamedRow, NamedColumn}
use Rattle.lp_model.specs.Shown.{CanAdd, is_named, row_names, column_names, most_rows, most_columns}
use Rattle.mps_lines.specs.declared.shapes.RowKind.{RowKind}
use Rattle.mps_reader.specs.declared.tables.Reader.{Reader}
use Rattle.mps_reader.specs.Held.{row_names_held, column_names_held}
use Rattle.mps_reader.specs.Gathered.{listed, listed_where}
use Rattle.mps_reader.specs.Built.{AreNames, IsSound, column_held, columns_to, is_kept_held, row_held, rows_to}
use Rattle.mps_reader.proofs.Meant.{stands_at}

-- ---- lists by number
module _ {X : Type 0} (test : ℕ → Bool) (f : ℕ → X) where
  -- what is listed, with one number more
  more : (n : ℕ) → length (listed_where test f (suc n)) ≡ length (listed_where test f n) + length (cond (test n) (f n ∷ []) [])
  more n = length-append (listed_where test f n) (cond (test n) (f n ∷ []) [])

  -- a number that passes makes the list longer
  counted : (i n : ℕ) → i < n → test i ≡ true → length (listed_where test f i) < length (listed_where test f n)
  counted i zero h passes = absurd (omega arith)
  counted i (suc n) h passes = by (ltb i n) refl (λ l. counted i n l passes)
    where
      by : (b : Bool) → ltb i n ≡ b → (i < n → length (listed_where test f i) < length (listed_where test f n)) → length (listed_where test f i) < length (listed_where test f (suc n))
      by true less before = let l = before (ltb-true i n less) in let e = more n in omega arith
      by false least before =
          let le : n ≤ i = ltb-false i n least in
          let same : i ≡ n = omega arith in
          let one : length (cond (test n) (f n ∷ []) []) ≡ 1 = ap (λ b. length (cond b (f n ∷ []) [])) (ap test (sym same) ∙ passes) in
          let e = more n in
          subst (λ (k : ℕ). length (listed_where test f k) < length (listed_where test f (suc n))) (sym same) (omega arith)

-- a function of what is listed
map_where : {X Y : Type 0} (g : X → Y) (test : ℕ → Bool) (f : ℕ → X) (n : ℕ) → map g (listed_where test f n) ≡ listed_where test (λ i. g (f i)) n
map_where g test f zero = refl
map_where {X} {Y} g test f (suc n) = map-append g (listed_where test f n) (cond (test n) (f n ∷ []) []) ∙ (λ k. map_where g test f n k ++ by (test n) k)
  where
    by : (b : Bool) → map g (cond b (f n ∷ []) []) ≡ cond b (g (f n) ∷ []) []
    by true = refl
    by false = refl

-- all are those that pass a test which is true
all_listed : {X : Type 0} (f : ℕ → X) (n : ℕ) → listed f n ≡ listed_where (λ i. true) f n
all_listed f zero = refl
all_listed f (suc n) = ap (λ l. l ++ f n ∷ []) (all_listed f n)

-- ---- names
unlike : (i k : ℕ) → (i ≡ k → ⊥) → nat_eq i k ≡ false
unlike i k h = grind (arith, nat_tests)

module _ (names : List (List ℕ)) (good : AreNames names) (i : ℕ) (within : i < length names) where
  -- a name is none of those that stand before it
  fresh : (test : ℕ → Bool) (n : ℕ) → n ≤ i → is_named (listed_where test (name_at names) n) (name_at names i) ≡ false
  fresh test zero le = refl
  fresh test (suc n) le =
      list_any-append (bytes_eq (name_at names i)) (listed_where test (name_at names) n) (cond (test n) (name_at names n ∷ []) [])
      ∙ ap (λ b. b || list_any (bytes_eq (name_at names i)) (cond (test n) (name_at names n ∷ []) [])) (fresh test n (omega arith))
      ∙ by (test n)
    where
      other : bytes_eq (name_at names i) (name_at names n) ≡ false
      other = (stands_at names i good.apart within).alone n (omega arith) ∙ unlike i n (λ e. absurd (omega arith))

      by : (b : Bool) → list_any (bytes_eq (name_at names i)) (cond b (name_at names n ∷ []) []) ≡ false
      by true = ap (λ b. b || false) other
      by false = refl

  -- it may be added to them, where there is room
  pub name_fits : (test : ℕ → Bool) (most : ℕ) → length (listed_where test (name_at names) i) < most → CanAdd (listed_where test (name_at names) i) most (name_at names i)
  name_fits test most room = record { fresh = fresh test i (omega arith); room = room; short = good.short i [] within }

module _ (reader : Reader) (sound : IsSound reader) where
  -- a row that is not free may be added to those before it
  pub row_fits : (i : ℕ) → i < length reader.rows → is_kept_held reader i ≡ true → (old : Program) → old ≡ rows_to reader i → (name : List ℕ) → name ≡ name_at (row_names_held reader) i → CanAdd (row_names old) most_rows name
  row_fits i within kept old is name named =
      let names = row_names_held reader in
      let room = counted (is_kept_held reader) (row_held reader) i (length reader.rows) within kept in
      let named_all = map_where (λ (r : NamedRow). r.name) (is_kept_held reader) (row_held reader) i in
      let count = ap length (sym named_all) ∙ length_map (λ (r : NamedRow). r.name) (listed_where (is_kept_held reader) (row_held reader) i) in
      let few = sound.few_rows in
      let within_names : i < length names = subst (λ (n : ℕ). i < n) (sym (length_map (λ (e : List ℕ × RowKind). e.0) reader.rows)) within in
      let before : row_names old ≡ listed_where (is_kept_held reader) (name_at names) i = ap row_names is ∙ named_all in
      subst (λ (p : List (List ℕ) × List ℕ). CanAdd p.0 most_rows p.1) (λ k. (sym before k, sym named k))
      (name_fits names sound.rows i within_names (is_kept_held reader) most_rows (omega arith))

  -- and a column
  pub column_fits : (i : ℕ) → i < length reader.columns → (old : Program) → old ≡ columns_to reader i → (name : List ℕ) → name ≡ name_at (column_names_held reader) i → CanAdd (column_names old) most_columns name
  column_fits i within old is name named =
      let names = column_names_held reader in
      let all : ℕ → Bool = λ j. true in
      let room = counted all (name_at names) i (length reader.columns) within refl in
      let few = sound.few in
      let count : length (listed_where all (name_at names) (length reader.columns)) ≡ length reader.columns = whole (name_at names) (length reader.columns) in
      let within_names : i < length names = subst (λ (n : ℕ). i < n) (sym (length_map (λ (e : List ℕ × Bool). e.0) reader.columns)) within in
      let before : column_names old ≡ listed_where all (name_at names) i =
      ap column_names is ∙ ap (map (λ (c : NamedColumn). c.name)) (all_listed (column_held reader) i) ∙ map_where (λ (c : NamedColumn). c.name) all (column_held reader) i in
      subst (λ (p : List (List ℕ) × List ℕ). CanAdd p.0 most_columns p.1) (λ k. (sym before k, sym named k))
      (name_fits names sound.columns i within_names all most_columns (omega arith))
    where
      whole : (f : ℕ → List ℕ) (n : ℕ) → length (listed_where (λ j. true) f n) ≡ n
      whole f zero = refl
      whole f (suc n) = let e = more (λ j. true) f n in let h = whole f n in omega arith
