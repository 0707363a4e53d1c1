-- What is left of a text, by what a cursor keeps, and what a part of the grammar takes of it.
use Rattle.std.specs.Prelude.{◌≡◌, ℕ, List, ◌∷◌, Result, MatchResult}
use Rattle.text_fields.specs.declared.tokens.Place.{Place}
use Rattle.text_fields.specs.declared.faults.ReadFault.{ReadFault}
use Rattle.text_fields.specs.declared.faults.ReadFault.TheVariants.{Stop, Memory}
use Rattle.lp_statements.specs.declared.parts.Item.{Item}
use Rattle.lp_statements.specs.declared.parts.Statement.{Statement as CodeStatement}
use Rattle.text_fields.specs.declared.faults.ReadKind.TheVariants.{Truncated}
use Rattle.lp_statements.specs.declared.items.Look.{Look}
use Rattle.lp_statements.specs.declared.cursor.Ahead.{Ahead}
use Rattle.lp_statements.specs.Items.{Written, Piece, Seen, pieces_at, stop_at, last_line, IsLook, IsStopFirst}
use Rattle.lp_statements.specs.Statements.{Statement, IsKept, shown, shown_text}
use Rattle.lp_statements.specs.Grammar.{Parsed, Whole, Fails}

-- the pieces that are left: an item is followed by those from the next place on, and anything else stands at that place
abbrev pub left_by : List ℕ → Ahead → Place → List Piece
left_by bytes (Ahead.Item item text) next = Seen item (shown_text text) ∷ pieces_at bytes next
left_by bytes (Ahead.Fault stop) next = pieces_at bytes next
left_by bytes Ahead.End next = pieces_at bytes next

-- a fault that a cursor keeps stands there, and so does the end of the text
abbrev pub IsAhead : List ℕ → Ahead → Place → Type 0
IsAhead bytes (Ahead.Item item text) next = Unit {0}
IsAhead bytes (Ahead.Fault stop) next = IsStopFirst (pieces_at bytes next) stop
IsAhead bytes Ahead.End next = IsStopFirst (pieces_at bytes next) (stop_at (last_line bytes) Truncated)

-- what a cursor keeps
pub record IsCursor (bytes : List ℕ) (ahead : Ahead) (look : Look) : Type 0 where
  pub after : IsLook bytes look
  pub stands : IsAhead bytes ahead look.place

-- an item stands first
pub record IsFirst (pieces : List Piece) (item : Item) (text : Written) : Type 0 where
  pub rest : List Piece
  pub is : pieces ≡ Seen item text ∷ rest

-- a fault stands first, told as why a text was not read
abbrev pub IsFaultFirst : List Piece → ReadFault → Type 0
IsFaultFirst pieces (Stop stop) = IsStopFirst pieces stop
IsFaultFirst pieces Memory = ⊥

-- what is left after the item that stands first; a fault stays
abbrev pub after_first : List Piece → List Piece
after_first (Seen item text ∷ rest) = rest
after_first pieces = pieces

-- the part fails so; want of memory may come at any time
abbrev pub IsRefusal : {A : Type 0} → Parsed A → ReadFault → Type 0
IsRefusal parsed (Stop stop) = parsed ≡ Fails stop
IsRefusal parsed Memory = Unit {0}

-- the part is whole with this value, and the new pieces are left; or it fails
abbrev pub Gives : {A B : Type 0} → (A → B) → Parsed B → List Piece → Result A ReadFault → Type 0
Gives shown parsed new result = MatchResult result (λ value. parsed ≡ Whole (shown value) new) (IsRefusal parsed)

-- a statement is whole, the new pieces are left, and no less than n terms of its form are kept where there are so many
pub record Reads (n : ℕ) (parsed : Parsed Statement) (new : List Piece) (kept : Statement) : Type 0 where
  pub statement : Statement
  pub whole : parsed ≡ Whole statement new
  pub keeps : IsKept n statement kept

-- a statement is whole, or it fails
abbrev pub GivesStatement : ℕ → Parsed Statement → List Piece → Result CodeStatement ReadFault → Type 0
GivesStatement n parsed new result = MatchResult result (λ kept. Reads n parsed new (shown kept)) (IsRefusal parsed)
