-- The first fault of what statements mean, each after those before it.
use Rattle.std.specs.Prelude.{ℕ, ◌+◌, ◌||◌, nat_lt, nat_le, Bool, false, cond, List, [], ◌∷◌, ◌++◌, length, Option, Some, None}
use Rattle.std.specs.Option.{option_or}
use Rattle.text_fields.specs.declared.faults.ReadStop.{ReadStop}
use Rattle.text_fields.specs.declared.faults.ReadKind.TheVariants.{UnknownName, DuplicateName, Limit}
use Rattle.lp_model.specs.Shown.{is_named, most_rows, most_columns, most_entries, longest_name}
use Rattle.lp_statements.specs.Items.{Written, stop_at}
use Rattle.lp_statements.specs.Statements.{Constant, Term, Statement, Objective, Heading, Row, Free, Bound, Listed}
use Rattle.lp_reader.specs.Numbers.{factor_fault, sum_fault, constant_fault, constant_fault_in}
use Rattle.lp_reader.specs.Names.{terms_of, columns_in, columns_of, row_names, row_name}

-- a name of more than 255 bytes
abbrev pub is_too_long : List ℕ → Bool
is_too_long name = nat_lt longest_name (length name)

-- ---- terms
-- a new column for which there is no room, or whose name is too long
abbrev pub column_passes : List (List ℕ) → List ℕ → Bool
column_passes columns name = cond (is_named columns name) false (nat_le most_columns (length columns) || is_too_long name)

-- a limit that one term more passes, after these columns and so many entries
unfoldable pub limit_fault : List (List ℕ) → ℕ → Written → Option ReadStop
limit_fault columns entries name =
    cond (nat_le most_entries entries || column_passes columns name.text) (Some (stop_at name.line Limit)) None

-- what is wrong with a term, after these columns and so many entries, where these terms stand before it in its form
abbrev pub term_fault : List (List ℕ) → ℕ → List Term → Term → Option ReadStop
term_fault columns entries before term = option_or (factor_fault term.factor) (option_or (limit_fault columns entries term.name) (sum_fault before term))

-- the first fault of terms, after those of the statements before and those before them in their form
unfoldable pub terms_fault : List Term → List Term → List Term → Option ReadStop
terms_fault front before [] = None
terms_fault front before (term ∷ terms) =
    option_or (term_fault (columns_in (front ++ before)) (length (front ++ before)) before term) (terms_fault front (before ++ term ∷ []) terms)

-- ---- names of rows
-- the label of the objective is not kept
unfoldable pub objective_label_fault : Option Written → Option ReadStop
objective_label_fault (Some label) = cond (is_too_long label.text) (Some (stop_at label.line Limit)) None
objective_label_fault None = None

-- a label that is there already, for which there is no room, or that is too long
unfoldable pub label_fault : List (List ℕ) → Option Written → Option ReadStop
label_fault names (Some label) =
    cond (is_named names label.text) (Some (stop_at label.line DuplicateName))
    (cond (nat_le most_rows (length names) || is_too_long label.text) (Some (stop_at label.line Limit)) None)
label_fault names None = None

-- a row without a label, the name of which is there already
unfoldable pub unnamed_fault : List (List ℕ) → ℕ → Option Written → Option ReadStop
unnamed_fault names line (Some label) = None
unnamed_fault names line None = cond (is_named names (row_name (length names + 1) None)) (Some (stop_at line DuplicateName)) None

-- or for which there is no room
unfoldable pub full_fault : List (List ℕ) → ℕ → Option Written → Option ReadStop
full_fault names line (Some label) = None
full_fault names line None = cond (nat_le most_rows (length names)) (Some (stop_at line Limit)) None

-- ---- statements
-- a name that no column has
unfoldable pub unknown_fault : List (List ℕ) → Written → Option ReadStop
unknown_fault columns name = cond (is_named columns name.text) None (Some (stop_at name.line UnknownName))

-- what is wrong with the end of a row: its generated name, its constant, the room for it
abbrev pub row_end_fault : List (List ℕ) → Option Written → Constant → Option ReadStop
row_end_fault names label right = option_or (unnamed_fault names right.text.line label) (option_or (constant_fault right) (full_fault names right.text.line label))

-- the first fault of a statement, in the order of its tokens, after these statements
unfoldable pub statement_fault : List Statement → Statement → Option ReadStop
statement_fault front (Objective maximise label terms) = option_or (objective_label_fault label) (terms_fault (terms_of front) [] terms)
statement_fault front (Heading keyword) = None
statement_fault front (Row label left terms relation right) =
    option_or (label_fault (row_names front) label)
    (option_or (constant_fault_in left) (option_or (terms_fault (terms_of front) [] terms) (row_end_fault (row_names front) label right)))
statement_fault front (Free name) = unknown_fault (columns_of front) name
statement_fault front (Bound left name relation right) = option_or (constant_fault_in left) (option_or (unknown_fault (columns_of front) name) (constant_fault_in right))
statement_fault front (Listed binary name) = unknown_fault (columns_of front) name

-- the first fault of statements after these
unfoldable pub first_fault : List Statement → List Statement → Option ReadStop
first_fault front [] = None
first_fault front (statement ∷ statements) = option_or (statement_fault front statement) (first_fault (front ++ statement ∷ []) statements)
