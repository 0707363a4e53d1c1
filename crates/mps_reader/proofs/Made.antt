-- A program that is made by places: one column or one row more.
use Rattle.std.proofs.Common.{◌≡◌, ◌≢◌, ℕ, zero, suc, ◌+◌, ◌<◌, Bool, true, false, cond, List, [], ◌∷◌, ◌++◌, Option, Some, None, IfSome, length, get_or, slice_get, refl, sym, ap, ◌∙◌, subst, arith, true≢false, append-nil, length-append}
use Rattle.std.specs.List.{All}
use Rattle.std.specs.Option.{option_map_or}
use Rattle.std.proofs.lemmas.Option.{get_or_from_slice_get}
use Rattle.name_map.specs.Names.{name_at}
use Rattle.std.proofs.Math.Numerals.{add-one}
use Rattle.std.proofs.lemmas.List.Elements.{All-push}
use Rattle.std.proofs.lemmas.List.Quantifiers.{all_pairs_push}
use Rattle.rational.specs.Rational.{ℚ, zero_ℚ, eq_ℚ}
use Rattle.rational.specs.Linear.{Term}
use Rattle.rational.proofs.Compare.{eq-Decides}
use Rattle.lp_model.specs.declared.parts.Note.TheVariants.{LowerRemoved}
use Rattle.lp_model.specs.Program.{Program, NamedRow, NamedColumn, IsForm, IsWellFormedColumn}
use Rattle.lp_model.proofs.New.{new_column_formed}
use Rattle.lp_model.specs.Shown.{with_more_row, with_more_column}
use Rattle.mps_reader.specs.declared.tables.Reader.{Reader}
use Rattle.mps_reader.specs.Gathered.{terms_to, listed, listed_where}
use Rattle.name_map.specs.Names.{name_at}
use Rattle.mps_reader.specs.Held.{column_names_held}
use Rattle.mps_reader.specs.Built.{column_held, columns_to, is_removed_held, lower_held, rows_to, row_held, is_kept_held, terms_held, upper_held, whole_held}

-- ---- lists by number
pub length_listed : {X : Type 0} (f : ℕ → X) (n : ℕ) → length (listed f n) ≡ n
length_listed f zero = refl
length_listed f (suc n) = length-append (listed f n) (f n ∷ []) ∙ ap (λ (k : ℕ). k + 1) (length_listed f n) ∙ add-one n

-- ---- forms
-- the terms of a row are a form
pub form_to : (f : ℕ → ℚ) (n : ℕ) → IsForm n (terms_to f n)
form_to f zero = record { ascending = λ i j d less h. absurd (omega arith); known = λ k d h. absurd (omega arith); nonzero = λ k d h. absurd (omega arith) }
form_to f (suc n) = by (eq_ℚ (f n) zero_ℚ) refl (form_to f n)
  where
    term : Term
    term = record { column = n; factor = f n }

    more : (ts : List Term) → All (λ (t : Term). t.column < n) ts → All (λ (t : Term). t.column < suc n) ts
    more ts h = λ k d lt. let p = h k d lt in omega arith

    by : (b : Bool) → eq_ℚ (f n) zero_ℚ ≡ b → IsForm n (terms_to f n) → IsForm (suc n) (terms_to f n ++ cond b [] (term ∷ []))
    by true is form = subst (IsForm (suc n)) (sym (append-nil (terms_to f n))) (record { ascending = form.ascending; known = more (terms_to f n) form.known; nonzero = form.nonzero })
    by false is form = record {
      ascending = all_pairs_push (λ (s t : Term). s.column < t.column) (terms_to f n) term form.ascending form.known;
      known = All-push (λ (t : Term). t.column < suc n) (terms_to f n) term (more (terms_to f n) form.known) (omega arith);
      nonzero = All-push (λ (t : Term). t.factor ≢ zero_ℚ) (terms_to f n) term form.nonzero (λ e. true≢false (sym ((eq-Decides (f n) zero_ℚ).1 e) ∙ is));
    }

-- ---- columns
pub column_held_formed : (reader : Reader) (i : ℕ) → IsWellFormedColumn (column_held reader i)
column_held_formed reader i = new_column_formed (name_at (column_names_held reader) i) (lower_held reader i) (upper_held reader i) (whole_held reader i)

-- one column more, with its note
pub column_more : (reader : Reader) (i : ℕ) (old mid new : Program) (named : NamedColumn) (place : ℕ) → old ≡ columns_to reader i → mid ≡ with_more_column old named → named ≡ column_held reader i → place ≡ i
    → new ≡ (let p : Program = record mid { notes = mid.notes ++ cond (is_removed_held reader i) (LowerRemoved place ∷ []) [] } in p) → new ≡ columns_to reader (i + 1)
column_more reader i old mid new named place is_old is_mid is_named is_place is_new =
    is_new
    ∙ (λ k. let m : Program = (is_mid ∙ (λ k. with_more_column (is_old k) (is_named k))) k in let p : Program = record m { notes = m.notes ++ cond (is_removed_held reader i) (LowerRemoved (is_place k) ∷ []) [] } in p)
    ∙ sym (ap (columns_to reader) (add-one i))

-- ---- rows
pub row_passed : (reader : Reader) (i : ℕ) (old : Program) → old ≡ rows_to reader i → is_kept_held reader i ≡ false → old ≡ rows_to reader (i + 1)
row_passed reader i old is free =
    is ∙ sym (ap (rows_to reader) (add-one i) ∙ ap (λ (rs : List NamedRow). let p : Program = record (rows_to reader i) { rows = rs } in p)
    (ap (λ b. listed_where (is_kept_held reader) (row_held reader) i ++ cond b (row_held reader i ∷ []) []) free ∙ append-nil (listed_where (is_kept_held reader) (row_held reader) i)))

pub row_more : (reader : Reader) (i : ℕ) (old new : Program) (row : NamedRow) → old ≡ rows_to reader i → is_kept_held reader i ≡ true → row ≡ row_held reader i → new ≡ with_more_row old row → new ≡ rows_to reader (i + 1)
row_more reader i old new row is kept same grown =
    grown ∙ (λ k. with_more_row (is k) (same k))
    ∙ sym (ap (rows_to reader) (add-one i) ∙ ap (λ b. let p : Program = record (rows_to reader i) { rows = listed_where (is_kept_held reader) (row_held reader) i ++ cond b (row_held reader i ∷ []) [] } in p) kept)

pub row_form : (reader : Reader) (i : ℕ) (old : Program) (terms : List Term) → old ≡ rows_to reader i → terms ≡ terms_held reader i → IsForm (length old.columns) terms
row_form reader i old terms is same =
    subst (λ (p : Program × List Term). IsForm (length p.0.columns) p.1) (λ k. (sym is k, sym same k))
    (subst (λ (n : ℕ). IsForm n (terms_held reader i)) (sym (length_listed (column_held reader) (length reader.columns))) (form_to _ (length reader.columns)))

-- ---- the objective
pub objective_is : (reader : Reader) (lists : List (List Term)) (o : Option ℕ) → IfSome o (λ row. row < length reader.rows) → ((i : ℕ) → i < length reader.rows → get_or lists i [] ≡ terms_held reader i)
    → option_map_or (λ row. get_or lists row []) o [] ≡ option_map_or (terms_held reader) o []
objective_is reader lists None within each = refl
objective_is reader lists (Some row) within each = each row within

pub objective_form : (reader : Reader) (o : Option ℕ) → IsForm (length reader.columns) (option_map_or (terms_held reader) o [])
objective_form reader None = subst (λ (n : ℕ). IsForm n []) refl (record { ascending = λ i j d less h. absurd (omega arith); known = λ k d h. absurd (omega arith); nonzero = λ k d h. absurd (omega arith) })
objective_form reader (Some row) = form_to _ (length reader.columns)

-- the name at a place
pub name_is : (names : List (List ℕ)) (i : ℕ) (name : List ℕ) → slice_get names i ≡ Some name → name ≡ name_at names i
name_is names i name e = sym (get_or_from_slice_get names i name [] e)
