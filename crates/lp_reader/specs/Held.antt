-- What a reader's tables say of the statements so far.
use Rattle.std.specs.Prelude.{◌≡◌, ℕ, ◌≤◌, false, List, [], ◌∷◌, ◌++◌, length, map, None, Result, MatchResult}
use Rattle.std.specs.List.{All, filter_map}
use Rattle.name_map.specs.Names.{names_of}
use Rattle.lp_model.specs.Shown.{is_named, most_rows, most_columns, longest_name}
use Rattle.lp_statements.specs.Statements.{Statement}
use Rattle.lp_statements.specs.Script.{script_of}
use Rattle.lp_reader.specs.declared.reader.Reader.{Reader}
use Rattle.lp_reader.specs.Names.{terms_of, columns_of, rows_of, row_names}
use Rattle.lp_reader.specs.Bounds.{last_or}
use Rattle.lp_reader.specs.Program.{form_of, row_of, objective_in, sense_in}
use Rattle.lp_reader.specs.State.{plain, bounds_of}
use Rattle.lp_reader.specs.Meaning.{lp_fault}
use Rattle.lp_reader.specs.Faults.{statement_fault}
use Rattle.text_fields.specs.Faults.{IsFaultOf}
use Rattle.text_fields.specs.declared.faults.ReadFault.{ReadFault}

-- each table is a look-up of the statements
pub record Holds (reader : Reader) (front : List Statement) : Type 0 where
  pub named : names_of reader.rows.names ≡ row_names front
  pub rows : reader.rows.items.items ≡ map (row_of (columns_of front)) (rows_of front)
  pub columns : names_of reader.columns.names ≡ columns_of front
  pub entries : reader.columns.entries ≡ length (terms_of front)
  pub bounds : reader.columns.bounds.items ≡ map (bounds_of front) (columns_of front)
  pub objective : reader.objective ≡ form_of (columns_of front) (last_or [] (filter_map objective_in front))
  pub maximise : reader.maximise ≡ last_or false (filter_map sense_in front)
  -- nothing is said of other columns
  pub quiet : (name : List ℕ) → is_named (columns_of front) name ≡ false → bounds_of front name ≡ plain
  pub few_columns : length (columns_of front) ≤ most_columns
  pub few_rows : length (row_names front) ≤ most_rows
  pub short_columns : All (λ name. length name ≤ longest_name) (columns_of front)
  pub short_rows : All (λ name. length name ≤ longest_name) (row_names front)

-- the statements of the text have no fault, and the tables say what they say
pub record HasRead (bytes : List ℕ) (reader : Reader) : Type 0 where
  pub no_fault : lp_fault bytes ≡ None
  pub holds : Holds reader (script_of bytes).found

-- a statement is taken in where it has no fault after those before it, or refused with its first
abbrev pub TakesStatement : Reader → Reader → Statement → Result (Unit {0}) ReadFault → Type 0
TakesStatement old new statement result = (front : List Statement) → Holds old front → MatchResult result
    (λ done. (statement_fault front statement ≡ None) × Holds new (front ++ statement ∷ [])) (IsFaultOf (statement_fault front statement))

-- no table is past its limit
pub record HasRoom (reader : Reader) : Type 0 where
  pub columns : length (names_of reader.columns.names) ≤ most_columns
  pub rows : length (names_of reader.rows.names) ≤ most_rows

-- each column has its bounds
abbrev pub IsEven : Reader → Type 0
IsEven reader = length reader.columns.bounds.items ≡ length (names_of reader.columns.names)
