-- What a model in the LP format declares is well formed.
use Rattle.std.proofs.Common.{◌≡◌, ◌<◌, ◌≤◌, ◌+◌, ℕ, suc, Bool, true, false, List, [], ◌∷◌, ◌++◌, length, refl, sym, ap, subst, ◌∙◌, arith}
use Rattle.std.specs.Prelude.{cond, map, All, Option, Some, None}
use Rattle.std.specs.List.{filter_map, cons_option}
use Rattle.std.specs.Option.{option_or}
use Rattle.std.proofs.lemmas.List.{append-nil}
use Rattle.std.proofs.lemmas.List.Elements.{All-cons, All-nil, filter_map-append}
use Rattle.std.proofs.lemmas.Option.{none-some}
use Rattle.text_fields.specs.declared.faults.ReadStop.{ReadStop}
use Rattle.lp_model.specs.declared.parts.Note.TheVariants.{LowerKept}
use Rattle.lp_model.specs.Program.{NamedRow, NamedColumn, IsForm, IsWellFormed, IsWellFormedRow, IsWellFormedColumn, noted_column}
use Rattle.lp_model.specs.Shown.{is_named, named_row}
use Rattle.lp_statements.specs.Items.{Written}
use Rattle.lp_statements.specs.Statements.{Term, Statement, Objective, Heading, Row, Free, Bound, Listed}
use Rattle.lp_statements.specs.Script.{script_of}
use Rattle.lp_reader.specs.Names.{RowPart, row_in, rows_of, row_name, names_from, row_names, terms_of, with_name, with_names, columns_of}
use Rattle.lp_reader.specs.Bounds.{last_or}
use Rattle.lp_reader.specs.Numbers.{sum_of, constant_fault, constant_fault_in}
use Rattle.lp_reader.specs.Faults.{label_fault, unnamed_fault, full_fault, terms_fault, statement_fault, first_fault}
use Rattle.lp_reader.specs.Program.{form_from, form_of, row_of, rows_from, column_of, keeps_lower, notes_from, program_of, objective_in}
use Rattle.lp_reader.specs.Meaning.{lp_fault, lp_program}
use Rattle.lp_model.proofs.New.{new_row_formed, new_column_formed}
use Rattle.model_files.proofs.Formed.{Apart, apart-more, pairs-apart, Ascends, ascends-form}
use Rattle.model_files.proofs.Lists.{all-made, ascends-with, length-made}

-- ---- forms
sums-ascend : (n j : ℕ) (names : List (List ℕ)) (terms : List Term) → j + length names ≤ n → Ascends n j (form_from j names terms)
unfolding form_from
sums-ascend n j [] terms l = tt
sums-ascend n j (name ∷ names) terms l = ascends-with (sum_of name terms) n j (form_from (j + 1) names terms) (omega (arith, l)) (sums-ascend n (j + 1) names terms (omega (arith, l)))

form-is : (columns : List (List ℕ)) (terms : List Term) → IsForm (length columns) (form_of columns terms)
form-is columns terms = ascends-form (length columns) 0 (form_of columns terms) (sums-ascend (length columns) 0 columns terms (omega arith))

rows-formed : (n k : ℕ) (columns : List (List ℕ)) (rows : List RowPart) → length columns ≡ n → All (IsWellFormedRow n) (rows_from k columns rows)
unfolding rows_from
rows-formed n k columns [] e = All-nil (IsWellFormedRow n)
rows-formed n k columns (row ∷ rows) e =
    All-cons (IsWellFormedRow n) (named_row (row_name k row.label) (row_of columns row)) (rows_from (k + 1) columns rows)
    (new_row_formed n (row_name k row.label) _ _ _ (subst (λ (m : ℕ). IsForm m (form_of columns row.terms)) e (form-is columns row.terms)))
    (rows-formed n (k + 1) columns rows e)

-- ---- notes
notes-known : (statements : List Statement) (n j : ℕ) (names : List (List ℕ)) → j + length names ≤ n → All (λ note. noted_column note < n) (notes_from statements j names)
unfolding notes_from
notes-known statements n j [] l = All-nil (λ note. noted_column note < n)
notes-known statements n j (name ∷ names) l = by (keeps_lower statements name) (notes-known statements n (j + 1) names (omega (arith, l)))
  where
    by : (b : Bool) → All (λ note. noted_column note < n) (notes_from statements (j + 1) names) → All (λ note. noted_column note < n) (cond b (LowerKept j ∷ notes_from statements (j + 1) names) (notes_from statements (j + 1) names))
    by true rest = All-cons (λ note. noted_column note < n) (LowerKept j) (notes_from statements (j + 1) names) (omega (arith, l)) rest
    by false rest = rest

-- ---- names of columns
name-apart : (names : List (List ℕ)) (name : List ℕ) → Apart names → Apart (with_name names name)
name-apart names name a = by (is_named names name) refl
  where
    by : (b : Bool) → is_named names name ≡ b → Apart (cond b names (names ++ name ∷ []))
    by true e = a
    by false e = apart-more names name a e

names-apart : (names : List (List ℕ)) (terms : List Term) → Apart names → Apart (with_names names terms)
unfolding with_names
names-apart names [] a = a
names-apart names (term ∷ terms) a = names-apart (with_name names term.name.text) terms (name-apart names term.name.text a)

-- ---- names of rows
names-more : (n : ℕ) (rows : List RowPart) (row : RowPart) → names_from n (rows ++ row ∷ []) ≡ names_from n rows ++ row_name (n + length rows) row.label ∷ []
unfolding names_from
names-more n [] row = ap (λ k. row_name k row.label ∷ []) (let e : n ≡ n + 0 = omega arith in e)
names-more n (r ∷ rows) row =
    ap (λ xs. row_name n r.label ∷ xs) (names-more (n + 1) rows row ∙ ap (λ k. names_from (n + 1) rows ++ row_name k row.label ∷ []) (let e : n + 1 + length rows ≡ n + suc (length rows) = omega arith in e))

names-length : (n : ℕ) (rows : List RowPart) → length (names_from n rows) ≡ length rows
unfolding names_from
names-length n [] = refl
names-length n (r ∷ rows) = ap suc (names-length (n + 1) rows)

first-none : (a b : Option ReadStop) → option_or a b ≡ None → a ≡ None
first-none None b e = refl
first-none (Some x) b e = absurd (none-some x (sym e))

second-none : (a b : Option ReadStop) → option_or a b ≡ None → b ≡ None
second-none None b e = e
second-none (Some x) b e = absurd (none-some x (sym e))

cond-none : (b : Bool) (stop : ReadStop) (rest : Option ReadStop) → cond b (Some stop) rest ≡ None → b ≡ false
cond-none true stop rest e = absurd (none-some stop (sym e))
cond-none false stop rest e = refl

new-label : (names : List (List ℕ)) (line : ℕ) (label : Option Written) → label_fault names label ≡ None → unnamed_fault names line label ≡ None → is_named names (row_name (length names + 1) label) ≡ false
unfolding label_fault unnamed_fault
new-label names line (Some label) e f = cond-none (is_named names label.text) _ _ e
new-label names line None e f = cond-none (is_named names (row_name (length names + 1) None)) _ _ f

rows-more : (front : List Statement) (statement : Statement) → rows_of (front ++ statement ∷ []) ≡ rows_of front ++ cons_option (row_in statement) []
rows-more front statement = filter_map-append row_in front (statement ∷ [])

row-apart : (front : List Statement) (statement : Statement) → statement_fault front statement ≡ None → Apart (row_names front) → Apart (names_from 1 (rows_of front ++ cons_option (row_in statement) []))
unfolding statement_fault
row-apart front (Row label left terms relation right) e a =
    let full = option_or (constant_fault right) (full_fault (row_names front) right.text.line label) in
    let ending = option_or (unnamed_fault (row_names front) right.text.line label) full in
    let summed = option_or (terms_fault (terms_of front) [] terms) ending in
    let sided = option_or (constant_fault_in left) summed in
    let labelled = first-none (label_fault (row_names front) label) sided e in
    let unnamed = first-none (unnamed_fault (row_names front) right.text.line label) full (second-none (terms_fault (terms_of front) [] terms) ending (second-none (constant_fault_in left) summed (second-none (label_fault (row_names front) label) sided e))) in
    let k : length (row_names front) + 1 ≡ 1 + length (rows_of front) = (let m = names-length 1 (rows_of front) in omega (arith, m)) in
    subst Apart (sym (names-more 1 (rows_of front) (record { label = label; left = left; terms = terms; relation = relation; right = right })))
    (apart-more (row_names front) (row_name (1 + length (rows_of front)) label) a
    (subst (λ (i : ℕ). is_named (row_names front) (row_name i label) ≡ false) k (new-label (row_names front) right.text.line label labelled unnamed)))
row-apart front (Objective maximise label terms) e a = subst (λ (xs : List RowPart). Apart (names_from 1 xs)) (sym (append-nil (rows_of front))) a
row-apart front (Heading keyword) e a = subst (λ (xs : List RowPart). Apart (names_from 1 xs)) (sym (append-nil (rows_of front))) a
row-apart front (Free name) e a = subst (λ (xs : List RowPart). Apart (names_from 1 xs)) (sym (append-nil (rows_of front))) a
row-apart front (Bound left name relation right) e a = subst (λ (xs : List RowPart). Apart (names_from 1 xs)) (sym (append-nil (rows_of front))) a
row-apart front (Listed binary name) e a = subst (λ (xs : List RowPart). Apart (names_from 1 xs)) (sym (append-nil (rows_of front))) a

append-to : {X : Type 0} (front : List X) (x : X) (xs : List X) → (front ++ x ∷ []) ++ xs ≡ front ++ (x ∷ xs)
append-to [] x xs = refl
append-to (y ∷ front) x xs = ap (λ zs. y ∷ zs) (append-to front x xs)

rows-apart : (front statements : List Statement) → Apart (row_names front) → first_fault front statements ≡ None → Apart (row_names (front ++ statements))
unfolding first_fault
rows-apart front [] a e = subst (λ (xs : List Statement). Apart (row_names xs)) (sym (append-nil front)) a
rows-apart front (s ∷ statements) a e =
    subst (λ (xs : List Statement). Apart (row_names xs)) (append-to front s statements)
    (rows-apart (front ++ s ∷ []) statements
    (subst (λ (xs : List RowPart). Apart (names_from 1 xs)) (sym (rows-more front s)) (row-apart front s (first-none (statement_fault front s) (first_fault (front ++ s ∷ []) statements) e) a))
    (second-none (statement_fault front s) (first_fault (front ++ s ∷ []) statements) e))

none-yet : Apart (row_names [])
unfolding names_from
none-yet = tt

all-rows-apart : (bytes : List ℕ) → lp_fault bytes ≡ None → Apart (row_names (script_of bytes).found)
unfolding lp_fault
all-rows-apart bytes e = rows-apart [] (script_of bytes).found none-yet (first-none (first_fault [] (script_of bytes).found) (script_of bytes).fault e)

-- ---- the whole
made-names : (n : ℕ) (columns : List (List ℕ)) (rows : List RowPart) → map (λ (r : NamedRow). r.name) (rows_from n columns rows) ≡ names_from n rows
unfolding rows_from names_from
made-names n columns [] = refl
made-names n columns (row ∷ rows) = ap (λ xs. row_name n row.label ∷ xs) (made-names (n + 1) columns rows)

same-names : (f : List ℕ → NamedColumn) → ((name : List ℕ) → (f name).name ≡ name) → (names : List (List ℕ)) → map (λ (c : NamedColumn). c.name) (map f names) ≡ names
same-names f h [] = refl
same-names f h (name ∷ names) = ap (λ x. x ∷ map (λ (c : NamedColumn). c.name) (map f names)) (h name) ∙ ap (λ xs. name ∷ xs) (same-names f h names)

program-formed : (statements : List Statement) → Apart (row_names statements) → IsWellFormed (program_of statements)
unfolding program_of
program-formed statements rows =
    let columns = columns_of statements in
    let same : length columns ≡ length (map (column_of statements) columns) = sym (length-made (column_of statements) columns) in
    record {
      rows = rows-formed (length (map (column_of statements) columns)) 1 columns (rows_of statements) same;
      columns = all-made IsWellFormedColumn (column_of statements) (λ name. new_column_formed name _ _ _) columns;
      objective = subst (λ (k : ℕ). IsForm k (form_of columns (last_or [] (filter_map objective_in statements)))) same (form-is columns (last_or [] (filter_map objective_in statements)));
      notes = subst (λ (k : ℕ). All (λ note. noted_column note < k) (notes_from statements 0 columns)) same (notes-known statements (length columns) 0 columns (omega arith));
      row_names = pairs-apart (λ (r : NamedRow). r.name) (rows_from 1 columns (rows_of statements)) (subst Apart (sym (made-names 1 columns (rows_of statements))) rows);
      column_names = pairs-apart (λ (c : NamedColumn). c.name) (map (column_of statements) columns) (subst Apart (sym (same-names (column_of statements) (λ name. refl) columns)) (names-apart [] (terms_of statements) tt));
    }

-- a text without a fault declares a well-formed program
pub lp-formed : (bytes : List ℕ) → lp_fault bytes ≡ None → IsWellFormed (lp_program bytes)
unfolding lp_program
lp-formed bytes e = program-formed (script_of bytes).found (all-rows-apart bytes e)
