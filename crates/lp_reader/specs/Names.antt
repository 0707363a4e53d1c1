-- The names of rows and columns.
use Rattle.std.specs.Prelude.{ℕ, ◌+◌, cond, List, [], ◌∷◌, ◌++◌, Option, Some, None, decimal}
use Rattle.std.specs.List.{filter_map}
use Rattle.lp_model.specs.Shown.{is_named}
use Rattle.lp_statements.specs.declared.parts.Relation.{Relation}
use Rattle.lp_statements.specs.Items.{Written}
use Rattle.lp_statements.specs.Statements.{Constant, Term, Statement, Objective, Row}

-- the terms of a statement
abbrev pub terms_in : Statement → List Term
terms_in (Objective maximise label terms) = terms
terms_in (Row label left terms relation right) = terms
terms_in _ = []

-- the terms of statements
unfoldable pub terms_of : List Statement → List Term
terms_of [] = []
terms_of (statement ∷ statements) = terms_in statement ++ terms_of statements

-- a name put last, where it is new
abbrev pub with_name : List (List ℕ) → List ℕ → List (List ℕ)
with_name names name = cond (is_named names name) names (names ++ name ∷ [])

-- names after those that are there, each where it first stands
unfoldable pub with_names : List (List ℕ) → List Term → List (List ℕ)
with_names names [] = names
with_names names (term ∷ terms) = with_names (with_name names term.name.text) terms

-- the columns that terms name
abbrev pub columns_in : List Term → List (List ℕ)
columns_in terms = with_names [] terms

-- the columns of statements: each by its first term
abbrev pub columns_of : List Statement → List (List ℕ)
columns_of statements = columns_in (terms_of statements)

-- ---- rows
-- what a row says
pub record RowPart : Type 0 where
  pub label : Option Written
  pub left : Option Constant
  pub terms : List Term
  pub relation : Relation
  pub right : Constant

-- the row that a statement is
abbrev pub row_in : Statement → Option RowPart
row_in (Row label left terms relation right) = Some (record { label = label; left = left; terms = terms; relation = relation; right = right })
row_in _ = None

-- the rows of statements
abbrev pub rows_of : List Statement → List RowPart
rows_of statements = filter_map row_in statements

-- the name of the n-th row: its label, or `c` and n
abbrev pub row_name : ℕ → Option Written → List ℕ
row_name n (Some label) = label.text
row_name n None = 99 ∷ decimal n

-- the names of rows from the n-th on
unfoldable pub names_from : ℕ → List RowPart → List (List ℕ)
names_from n [] = []
names_from n (row ∷ rows) = row_name n row.label ∷ names_from (n + 1) rows

-- the names of the rows of statements
abbrev pub row_names : List Statement → List (List ℕ)
row_names statements = names_from 1 (rows_of statements)
