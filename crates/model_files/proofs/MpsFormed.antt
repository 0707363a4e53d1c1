-- What a model in the MPS format declares is well formed.
use Rattle.std.proofs.Common.{◌≡◌, ◌<◌, ◌≤◌, ◌+◌, ℕ, Bool, true, false, List, [], ◌∷◌, ◌++◌, length, refl, sym, ap, subst, ◌∙◌, arith}
use Rattle.std.specs.Prelude.{cond, map, filter, All, not, Option, Some, None}
use Rattle.std.specs.List.{filter_map, list_any, cons_option}
use Rattle.std.specs.Option.{option_map_or}
use Rattle.std.specs.Str.{bytes_eq}
use Rattle.std.proofs.lemmas.List.{append-nil, map-append}
use Rattle.std.proofs.lemmas.List.Elements.{All-cons, All-nil, filter_map-append}
use Rattle.std.proofs.lemmas.Option.{none-some}
use Rattle.rational.specs.Rational.{ℚ}
use Rattle.text_fields.specs.declared.faults.ReadKind.{ReadKind}
use Rattle.text_fields.specs.declared.faults.ReadKind.TheVariants.{DuplicateName}
use Rattle.text_fields.specs.declared.faults.ReadStop.{ReadStop}
use Rattle.lp_model.specs.declared.parts.Note.TheVariants.{LowerRemoved}
use Rattle.lp_model.specs.Program.{NamedRow, NamedColumn, IsForm, IsWellFormed, IsWellFormedRow, IsWellFormedColumn, noted_column}
use Rattle.lp_model.specs.Shown.{is_named}
use Rattle.mps_lines.specs.Steps.{Step, Placed, Refused, ToSense, ToRow, ToColumn, ToEntry, ToSide, ToRange, ToBound, all_steps}
use Rattle.mps_reader.specs.Tables.{RowRecord, ColumnRecord, row_in, rows_of, row_names, kept_rows, is_free, firsts, columns_of, column_names, column_in, objective_of}
use Rattle.mps_reader.specs.Sides.{is_removed}
use Rattle.mps_reader.specs.Faults.{first_true, fault, stop_or, first_fault, mps_fault}
use Rattle.mps_reader.specs.Meaning.{terms_from, terms_of, named_row_of, named_column_of, notes_from, program_of, mps_program}
use Rattle.lp_model.proofs.New.{new_row_formed, new_column_formed}
use Rattle.model_files.proofs.Formed.{Apart, apart-more, apart-filter, pairs-apart, or-false, Ascends, ascends-form}
use Rattle.model_files.proofs.Lists.{map-same, all-made, ascends-with, length-made}

-- ---- forms
terms-ascend : (f : List ℕ → ℚ) (n j : ℕ) (names : List (List ℕ)) → j + length names ≤ n → Ascends n j (terms_from f j names)
unfolding terms_from
terms-ascend f n j [] l = tt
terms-ascend f n j (name ∷ names) l = ascends-with (f name) n j (terms_from f (j + 1) names) (omega (arith, l)) (terms-ascend f n (j + 1) names (omega (arith, l)))

form-of : (steps : List Step) (row : List ℕ) → IsForm (length (column_names steps)) (terms_of steps row)
unfolding terms_of
form-of steps row = ascends-form (length (column_names steps)) 0 (terms_of steps row) (terms-ascend _ (length (column_names steps)) 0 (column_names steps) (omega arith))

-- ---- notes
notes-known : (steps : List Step) (n j : ℕ) (names : List (List ℕ)) → j + length names ≤ n → All (λ note. noted_column note < n) (notes_from steps j names)
unfolding notes_from
notes-known steps n j [] l = All-nil (λ note. noted_column note < n)
notes-known steps n j (name ∷ names) l = by (is_removed steps name) (notes-known steps n (j + 1) names (omega (arith, l)))
  where
    by : (b : Bool) → All (λ note. noted_column note < n) (notes_from steps (j + 1) names) → All (λ note. noted_column note < n) (cond b (LowerRemoved j ∷ notes_from steps (j + 1) names) (notes_from steps (j + 1) names))
    by true rest = All-cons (λ note. noted_column note < n) (LowerRemoved j) (notes_from steps (j + 1) names) (omega (arith, l)) rest
    by false rest = rest

-- ---- names of columns
abbrev column_name : ColumnRecord → List ℕ
column_name c = c.name

dropped-none : (x : List ℕ) (ys : List ColumnRecord) → list_any (bytes_eq x) (map column_name (filter (λ d. not (bytes_eq x d.name)) ys)) ≡ false
dropped-none x [] = refl
dropped-none x (y ∷ ys) = by (bytes_eq x y.name) refl (dropped-none x ys)
  where
    by : (b : Bool) → bytes_eq x y.name ≡ b → list_any (bytes_eq x) (map column_name (filter (λ d. not (bytes_eq x d.name)) ys)) ≡ false
        → list_any (bytes_eq x) (map column_name (cond (not b) (y ∷ filter (λ d. not (bytes_eq x d.name)) ys) (filter (λ d. not (bytes_eq x d.name)) ys))) ≡ false
    by true e rest = rest
    by false e rest = or-false (bytes_eq x y.name) (list_any (bytes_eq x) (map column_name (filter (λ d. not (bytes_eq x d.name)) ys))) e rest

firsts-apart : (cs : List ColumnRecord) → Apart (map column_name (firsts cs))
firsts-apart [] = tt
firsts-apart (c ∷ cs) = (dropped-none c.name (firsts cs), apart-filter column_name (λ d. not (bytes_eq c.name d.name)) (firsts cs) (firsts-apart cs))

-- ---- names of rows
abbrev row_name : RowRecord → List ℕ
row_name r = r.name

none-before : (kind : ReadKind) (b : Bool) (rest : Option ReadKind) → cond b (Some kind) rest ≡ None → b ≡ false
none-before kind true rest e = absurd (none-some kind (sym e))
none-before kind false rest e = refl

rows-more : (front : List Step) (step : Step) → rows_of (front ++ step ∷ []) ≡ rows_of front ++ cons_option (row_in step) []
unfolding rows_of
rows-more front step = filter_map-append row_in front (step ∷ [])

row-apart : (front : List Step) (step : Step) → fault front step ≡ None → Apart (map row_name (rows_of front)) → Apart (map row_name (rows_of front ++ cons_option (row_in step) []))
unfolding fault first_true
row-apart front (ToRow kind name) e a =
    subst Apart (sym (map-append row_name (rows_of front) (record { name = name; kind = kind } ∷ [])))
    (apart-more (map row_name (rows_of front)) name a (none-before DuplicateName (is_named (row_names front) name) _ e))
row-apart front (Refused kind) e a = subst (λ (xs : List RowRecord). Apart (map row_name xs)) (sym (append-nil (rows_of front))) a
row-apart front (ToSense greatest) e a = subst (λ (xs : List RowRecord). Apart (map row_name xs)) (sym (append-nil (rows_of front))) a
row-apart front (ToColumn name whole) e a = subst (λ (xs : List RowRecord). Apart (map row_name xs)) (sym (append-nil (rows_of front))) a
row-apart front (ToEntry column figure) e a = subst (λ (xs : List RowRecord). Apart (map row_name xs)) (sym (append-nil (rows_of front))) a
row-apart front (ToSide figure) e a = subst (λ (xs : List RowRecord). Apart (map row_name xs)) (sym (append-nil (rows_of front))) a
row-apart front (ToRange figure) e a = subst (λ (xs : List RowRecord). Apart (map row_name xs)) (sym (append-nil (rows_of front))) a
row-apart front (ToBound bound) e a = subst (λ (xs : List RowRecord). Apart (map row_name xs)) (sym (append-nil (rows_of front))) a

no-kind : (line : ℕ) (k : Option ReadKind) (rest : Option ReadStop) → stop_or line k rest ≡ None → k ≡ None
no-kind line None rest e = refl
no-kind line (Some kind) rest e = absurd (none-some (record { line = line; kind = kind }) (sym e))

no-rest : (line : ℕ) (k : Option ReadKind) (rest : Option ReadStop) → stop_or line k rest ≡ None → rest ≡ None
no-rest line None rest e = e
no-rest line (Some kind) rest e = absurd (none-some (record { line = line; kind = kind }) (sym e))

append-one : (front : List Step) (step : Step) (steps : List Step) → (front ++ step ∷ []) ++ steps ≡ front ++ (step ∷ steps)
append-one [] step steps = refl
append-one (x ∷ front) step steps = ap (λ xs. x ∷ xs) (append-one front step steps)

rows-apart : (front : List Step) (ps : List Placed) → Apart (map row_name (rows_of front)) → first_fault front ps ≡ None → Apart (map row_name (rows_of (front ++ map (λ p. p.step) ps)))
unfolding first_fault
rows-apart front [] a e = subst (λ (xs : List Step). Apart (map row_name (rows_of xs))) (sym (append-nil front)) a
rows-apart front (p ∷ ps) a e =
    let now = no-kind p.line (fault front p.step) (first_fault (front ++ p.step ∷ []) ps) e in
    let later = no-rest p.line (fault front p.step) (first_fault (front ++ p.step ∷ []) ps) e in
    subst (λ (xs : List Step). Apart (map row_name (rows_of xs))) (append-one front p.step (map (λ q. q.step) ps))
    (rows-apart (front ++ p.step ∷ []) ps (subst (λ (xs : List RowRecord). Apart (map row_name xs)) (sym (rows-more front p.step)) (row-apart front p.step now a)) later)

all-rows-apart : (bytes : List ℕ) → mps_fault bytes ≡ None → Apart (map row_name (rows_of (map (λ p. p.step) (all_steps bytes))))
unfolding mps_fault rows_of
all-rows-apart bytes e = rows-apart [] (all_steps bytes) tt e

-- ---- the whole
columns-apart : (steps : List Step) → Apart (map column_name (columns_of steps))
unfolding columns_of
columns-apart steps = firsts-apart (filter_map column_in steps)

objective-form : (steps : List Step) (o : Option (List ℕ)) → IsForm (length (column_names steps)) (option_map_or (terms_of steps) o [])
objective-form steps None = ascends-form (length (column_names steps)) 0 [] tt
objective-form steps (Some row) = form-of steps row

program-formed : (steps : List Step) → Apart (map row_name (rows_of steps)) → IsWellFormed (program_of steps)
unfolding program_of
program-formed steps rows =
    let n = length-made (named_column_of steps) (columns_of steps) in
    let same : length (column_names steps) ≡ length (map (named_column_of steps) (columns_of steps)) = length-made column_name (columns_of steps) ∙ sym n in
    record {
      rows = all-made (IsWellFormedRow (length (map (named_column_of steps) (columns_of steps)))) (named_row_of steps) (λ r. new_row_formed _ r.name _ _ _ (subst (λ (k : ℕ). IsForm k (terms_of steps r.name)) same (form-of steps r.name))) (kept_rows steps);
      columns = all-made IsWellFormedColumn (named_column_of steps) (λ c. new_column_formed c.name _ _ _) (columns_of steps);
      objective = subst (λ (k : ℕ). IsForm k (option_map_or (terms_of steps) (objective_of steps) [])) same (objective-form steps (objective_of steps));
      notes = subst (λ (k : ℕ). All (λ note. noted_column note < k) (notes_from steps 0 (column_names steps))) same (notes-known steps (length (column_names steps)) 0 (column_names steps) (omega arith));
      row_names = pairs-apart (λ (r : NamedRow). r.name) (map (named_row_of steps) (kept_rows steps)) (subst Apart (sym (map-same (λ (r : NamedRow). r.name) (named_row_of steps) (kept_rows steps))) (apart-filter row_name (λ r. not (is_free r.kind)) (rows_of steps) rows));
      column_names = pairs-apart (λ (c : NamedColumn). c.name) (map (named_column_of steps) (columns_of steps)) (subst Apart (sym (map-same (λ (c : NamedColumn). c.name) (named_column_of steps) (columns_of steps))) (columns-apart steps));
    }

-- a text without a fault declares a well-formed program
pub mps-formed : (bytes : List ℕ) → mps_fault bytes ≡ None → IsWellFormed (mps_program bytes)
mps-formed bytes e = program-formed (map (λ p. p.step) (all_steps bytes)) (all-rows-apart bytes e)
