-- What a statement says, as it is written.
use Rattle.std.specs.Prelude.{◌≡◌, ℕ, Bool, List, Option, map, take}
use Rattle.std.specs.Option.{option_map}
use Rattle.lp_statements.specs.Items.{Written}
use Rattle.lp_statements.specs.declared.parts.Relation.{Relation}
use Rattle.lp_statements.specs.declared.parts.Keyword.{Keyword}
use Rattle.lp_statements.specs.declared.parts.Text.{Text}
use Rattle.lp_statements.specs.declared.parts.Constant.{Constant as CodeConstant}
use Rattle.lp_statements.specs.declared.parts.Term.{Term as CodeTerm}
use Rattle.lp_statements.specs.declared.parts.Statement.{Statement as CodeStatement}

-- a number with its sign, or the infinite constant
pub record Constant : Type 0 where
  pub negative : Bool
  pub infinite : Bool
  pub text : Written

-- a column's name with its factor, which is 1 where none is written, and the factor's sign
pub record Term : Type 0 where
  pub negative : Bool
  pub factor : Option Written
  pub name : Written

-- a statement; what stands left and right of a relation is kept as such
pub data Statement : Type 0 where
  -- the objective: whether it is to be made greatest, its label, its terms
  Objective : Bool → Option Written → List Term → Statement
  -- any other keyword
  Heading : Keyword → Statement
  -- a label, what stands left of the form, the form, how it is compared, what stands right of it
  Row : Option Written → Option Constant → List Term → Relation → Constant → Statement
  -- a column without bounds
  Free : Written → Statement
  -- what stands left of the name, the name, how it is compared, what stands right of it
  Bound : Option Constant → Written → Relation → Option Constant → Statement
  -- a name under Binary, or else under General
  Listed : Bool → Written → Statement

-- ---- what is kept
-- a statement with no more than the first n terms of its form
abbrev pub shortened : ℕ → Statement → Statement
shortened n (Objective maximise label terms) = Objective maximise label (take n terms)
shortened n (Row label left terms relation right) = Row label left (take n terms) relation right
shortened n statement = statement

-- what is kept of a statement: all of it, or no more than the first n terms of its form
pub data IsKept (n : ℕ) (statement kept : Statement) : Type 0 where
  Entire : kept ≡ statement → IsKept n statement kept
  Shortened : kept ≡ shortened n statement → IsKept n statement kept

-- ---- the same in the code's types
abbrev pub shown_text : Text → Written
shown_text text = record { text = text.bytes.now; line = text.line }

-- a constant
abbrev pub shown_constant : CodeConstant → Constant
shown_constant c = record { negative = c.negative; infinite = c.infinite; text = shown_text c.text }

-- a term
abbrev pub shown_term : CodeTerm → Term
shown_term t = record { negative = t.negative; factor = option_map shown_text t.factor; name = shown_text t.name }

-- a statement
abbrev pub shown : CodeStatement → Statement
shown (CodeStatement.Objective maximise label terms) = Objective maximise (option_map shown_text label) (map shown_term terms.items)
shown (CodeStatement.Heading keyword) = Heading keyword
shown (CodeStatement.Row label left terms relation right) = Row (option_map shown_text label) (option_map shown_constant left) (map shown_term terms.items) relation (shown_constant right)
shown (CodeStatement.Free name) = Free (shown_text name)
shown (CodeStatement.Bound left name relation right) = Bound (option_map shown_constant left) (shown_text name) relation (option_map shown_constant right)
shown (CodeStatement.Listed binary name) = Listed binary (shown_text name)
