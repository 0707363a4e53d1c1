-- What the reader's tables say.
use Rattle.std.specs.Prelude.{◌≡◌, ℕ, ◌+◌, ◌<◌, ◌≤◌, nat_eq, false, cond, List, [], ◌∷◌, ◌++◌, length, map, unwrap_or, Option, Some, None}
use Rattle.std.specs.List.{All, list_any}
use Rattle.std.specs.Map.{lookup}
use Rattle.std.specs.Option.{option_or}
use Rattle.rational.specs.Rational.{ℚ, zero_ℚ, ◌+ℚ◌}
use Rattle.text_fields.specs.declared.faults.ReadStop.{ReadStop}
use Rattle.name_map.specs.Names.{names_of, name_at, StandsAt}
use Rattle.lp_model.specs.Shown.{is_named, most_columns, longest_name}
use Rattle.lp_statements.specs.Statements.{Term, Statement}
use Rattle.lp_reader.specs.declared.columns.Bounds.{Bounds}
use Rattle.lp_reader.specs.declared.columns.Columns.{Columns}
use Rattle.lp_reader.specs.Numbers.{is_of, sum_of}
use Rattle.lp_reader.specs.Names.{with_name, with_names}
use Rattle.lp_reader.specs.Faults.{term_fault}
use Rattle.rational.specs.Linear.{Term as LinearTerm}
use Rattle.lp_reader.specs.Program.{form_of, with_term}
use Rattle.lp_reader.specs.Bounds.{lower_of, upper_of, whole_of, is_lower_set}

-- a column of which nothing is said
abbrev pub plain : Bounds
plain = record { lo = Some zero_ℚ; up = None; whole = false; lower_set = false }

-- what statements say of a column
abbrev pub bounds_of : List Statement → List ℕ → Bounds
bounds_of statements name = record { lo = lower_of statements name; up = upper_of statements name; whole = whole_of statements name; lower_set = is_lower_set statements name }

-- new columns stand last, and nothing is said of them
pub record Widened (old new : Columns) : Type 0 where
  pub more : List (List ℕ)
  pub names : names_of new.names ≡ names_of old.names ++ more
  pub bounds : new.bounds.items ≡ old.bounds.items ++ map (λ (name : List ℕ). plain) more
  pub fresh : All (λ name. is_named (names_of old.names) name ≡ false) more

-- names stay short enough
abbrev pub KeepsShort : Columns → Columns → Type 0
KeepsShort old new = All (λ (name : List ℕ). length name ≤ longest_name) (names_of old.names) → All (λ (name : List ℕ). length name ≤ longest_name) (names_of new.names)

-- a new column stands last, and nothing is said of it
pub record PutsColumn (old new : Columns) (name : List ℕ) : Type 0 where
  pub names : names_of new.names ≡ names_of old.names ++ name ∷ []
  pub bounds : new.bounds.items ≡ old.bounds.items ++ plain ∷ []
  pub entries : new.entries ≡ old.entries

-- the column's number, and one entry more; the column may be new
pub record TakesColumn (old new : Columns) (name : List ℕ) (j : ℕ) : Type 0 where
  pub names : names_of new.names ≡ with_name (names_of old.names) name
  pub entries : new.entries ≡ old.entries + 1
  pub stands : StandsAt (names_of new.names) name j
  pub widened : Widened old new
  pub few : length (names_of old.names) ≤ most_columns → length (names_of new.names) ≤ most_columns
  pub short : KeepsShort old new

-- ---- sums
-- one column's sum is greater by the value, the others stay
pub record AddsSum (old new : List (ℕ × ℚ)) (column : ℕ) (value : ℚ) : Type 0 where
  pub each : (k : ℕ) → lookup (nat_eq k) new ≡ cond (nat_eq column k) (Some (unwrap_or (lookup (nat_eq column) old) zero_ℚ +ℚ value)) (lookup (nat_eq k) old)
  pub below : (n : ℕ) → column < n → All (λ e. e.0 < n) old → All (λ e. e.0 < n) new

-- the sum of a column that terms name
abbrev pub sum_there : List ℕ → List Term → Option ℚ
sum_there name terms = cond (list_any (is_of name) terms) (Some (sum_of name terms)) None

-- the sums of each column that the terms name
pub record HoldsSums (names : List (List ℕ)) (terms : List Term) (entries : List (ℕ × ℚ)) : Type 0 where
  pub below : All (λ e. e.0 < length names) entries
  pub each : (j : ℕ) → j < length names → lookup (nat_eq j) entries ≡ sum_there (name_at names j) terms
  pub known : (name : List ℕ) → is_named names name ≡ false → list_any (is_of name) terms ≡ false

-- ---- terms
-- the first fault of terms, after these columns and entries, and these terms in their form
unfoldable pub terms_fault_in : List (List ℕ) → ℕ → List Term → List Term → Option ReadStop
terms_fault_in columns entries before [] = None
terms_fault_in columns entries before (term ∷ terms) =
    option_or (term_fault columns entries before term) (terms_fault_in (with_name columns term.name.text) (entries + 1) (before ++ term ∷ []) terms)

-- a term is taken in
pub record TakesTerm (old new : Columns) (before : List Term) (term : Term) (found : List (ℕ × ℚ)) : Type 0 where
  pub names : names_of new.names ≡ with_name (names_of old.names) term.name.text
  pub entries : new.entries ≡ old.entries + 1
  pub widened : Widened old new
  pub few : length (names_of old.names) ≤ most_columns → length (names_of new.names) ≤ most_columns
  pub short : KeepsShort old new
  pub sums : HoldsSums (names_of new.names) (before ++ term ∷ []) found

-- the terms of a form are taken in, and give the form
pub record TakesForm (old new : Columns) (terms : List Term) (form : List LinearTerm) : Type 0 where
  pub no_fault : terms_fault_in (names_of old.names) old.entries [] terms ≡ None
  pub names : names_of new.names ≡ with_names (names_of old.names) terms
  pub entries : new.entries ≡ old.entries + length terms
  pub widened : Widened old new
  pub few : length (names_of new.names) ≤ most_columns
  pub short : KeepsShort old new
  pub form_is : form ≡ form_of (names_of new.names) terms

-- the terms of sums by column, without those that are 0
unfoldable pub kept : List (ℕ × ℚ) → List LinearTerm
kept [] = []
kept (e ∷ es) = with_term e.0 e.1 (kept es)
