-- The statements of a text, up to the first that fails or to `end`.
use Rattle.std.specs.Prelude.{ℕ, zero, suc, List, [], ◌∷◌, length, Option, Some, None}
use Rattle.text_fields.specs.declared.faults.ReadStop.{ReadStop}
use Rattle.lp_statements.specs.declared.parts.Keyword.{Keyword}
use Rattle.lp_statements.specs.declared.parts.Section.{Section}
use Rattle.lp_statements.specs.Items.{Piece, pieces_of}
use Rattle.lp_statements.specs.Statements.{Statement, Objective, Heading}
use Rattle.lp_statements.specs.Grammar.{Parsed, Whole, Fails, statement_of}

-- statements, and the fault of the form of the one after them, if there is one
pub record Script : Type 0 where
  pub found : List Statement
  pub fault : Option ReadStop

-- the section that a statement of a section leads to; `end` leads nowhere
abbrev pub section_after : Section → Statement → Option Section
section_after section (Objective maximise label terms) = Some Section.Objective
section_after section (Heading Keyword.SubjectTo) = Some Section.Rows
section_after section (Heading Keyword.Bounds) = Some Section.Bounds
section_after section (Heading Keyword.General) = Some Section.General
section_after section (Heading Keyword.Binary) = Some Section.Binary
section_after section (Heading Keyword.End) = None
section_after section statement = Some section

-- a statement and those after it
abbrev pub with_statement : Statement → Script → Script
with_statement statement script = record { found = statement ∷ script.found; fault = script.fault }

-- where `end` stands, nothing is looked at after it
abbrev pub goes_on : Statement → Option Section → (Section → Script) → Script
goes_on statement (Some section) rest = with_statement statement (rest section)
goes_on statement None rest = record { found = statement ∷ []; fault = None }

-- a statement that is whole, or its fault
abbrev pub script_by : Section → Parsed Statement → (Section → List Piece → Script) → Script
script_by section (Whole statement rest) next = goes_on statement (section_after section statement) (λ after. next after rest)
script_by section (Fails stop) next = record { found = []; fault = Some stop }

-- the statements of pieces, n at most
unfoldable pub script : ℕ → Section → List Piece → Script
script zero section pieces = record { found = []; fault = None }
script (suc n) section pieces = script_by section (statement_of section pieces) (script n)

-- the statements of a text: each takes a piece at least, so there are no more of them than pieces
unfoldable pub script_of : List ℕ → Script
script_of bytes = script (length (pieces_of bytes)) Section.Begin (pieces_of bytes)
